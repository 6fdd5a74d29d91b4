-- It is decided whether tokens are a text, whether something can follow them, and where a token behind them stands.
use Rattle.std.proofs.Common.{◌≡◌, ◌&&◌, ◌⊎◌, ℕ, Bool, true, false, List, [], ◌∷◌, ◌++◌, Option, None, Some, inl, inr, refl, sym, ◌∙◌, ap, append_assoc, subst, IsTrue}
use Rattle.std.specs.Prelude.{codes}
use Rattle.std.proofs.lemmas.Bool.{and_parts, false≢true}
use Rattle.plain_laws.proofs.Options.{none_some}
use Rattle.tptp_lex.proofs.Runs.{some-is}
use Rattle.tptp_lex.specs.Tokens.{is_digits}
use Rattle.tptp_reader.specs.Terminals.{Terminal, lower, quoted, number, open_round, comma}
use Rattle.tptp_reader.specs.Grammar.{plain, in_quotes, NameTree, word_name, number_name, name_fits, name_token, head_tokens, text_tokens}
use Rattle.tptp_reader.specs.Faults.{Language, TextLanguage, FormulaLanguage, ClauseLanguage, CanGoOn, IsWhole, StandsIn, InFormula, Place, at_item, in_formula, elsewhere, IsPlace}
use Rattle.tptp_reader.specs.Expecting.{Expected, formula, clause, stop, items, all_optional, step, run, is_word}
use Rattle.tptp_reader.proofs.FollowLaws.{IsReadBy, text-read, formula-read, clause-read, derives-run, follows-run}
use Rattle.tptp_reader.proofs.FaultLaws.{Begins, goes-begins, whole-begins}
use Rattle.tptp_reader.proofs.OneReading.{Bottom, run-bottom}
use Rattle.tptp_reader.proofs.Forms.{Form, Completes, none, part}
use Rattle.tptp_reader.proofs.FormulaForms.{word-is}
use Rattle.tptp_reader.proofs.Derived.{Filled, filled, run-back}
use Rattle.tptp_reader.proofs.ExactLaws.{IsWrittenBy, text-written, formula-written, clause-written, ends-whole, whole-ends, goes-on}

abbrev pub Decided : Type 0 → Type 0
Decided A = A ⊎ (A → ⊥)

-- ---- a run

pub data RunOf (modal : Bool) (es : List Expected) (front : List Terminal) : Type 0 where
  got : (before : List ℕ) (now : List Expected) → run modal es front ≡ Some (before, now) → RunOf modal es front
  lost : run modal es front ≡ None → RunOf modal es front

pub run-of : (modal : Bool) (es : List Expected) (front : List Terminal) → RunOf modal es front
run-of modal es front = by (run modal es front) refl
  where
    by : (r : Option (List ℕ × List Expected)) → run modal es front ≡ r → RunOf modal es front
    by None e = lost e
    by (Some r) e = got r.0 r.1 e

-- tokens that begin a text have a run
pub begins-run : (modal : Bool) (L : Language) (es : List Expected) → IsReadBy modal L es → (front : List Terminal) → run modal es front ≡ None → Begins L front → ⊥
begins-run modal L es m front e b = let r = derives-run modal front es b.rest b.nestings m.good (m.derived (front ++ b.rest) b.nestings b.whole) in none_some (sym e ∙ r.is_run)

pub is-whole : (modal : Bool) (front : List Terminal) → Decided (IsWhole (TextLanguage modal) front)
is-whole modal front = by (run-of modal (items ∷ []) front)
  where
    ended : (before : List ℕ) (now : List Expected) → run modal (items ∷ []) front ≡ Some (before, now) → (b : Bool) → all_optional now ≡ b → Decided (IsWhole (TextLanguage modal) front)
    ended before now e true o = inl (before, ends-whole modal (TextLanguage modal) (items ∷ []) (text-written modal) front before now e o)
    ended before now e false o = inr (λ w. false≢true (sym o ∙ whole-ends modal (TextLanguage modal) (items ∷ []) (text-read modal) front before now e w))

    by : RunOf modal (items ∷ []) front → Decided (IsWhole (TextLanguage modal) front)
    by (got before now e) = ended before now e (all_optional now) refl
    by (lost e) = inr (λ w. begins-run modal (TextLanguage modal) (items ∷ []) (text-read modal) front e (whole-begins (TextLanguage modal) front w.0 w.1))

-- ---- whether something can follow, in a language that ends with one token

record Some_token (modal : Bool) (es : List Expected) : Type 0 where
  pub first : Terminal
  pub others : List Terminal
  pub nestings : List ℕ
  pub completes : Completes modal es (first ∷ others) nestings

with-token : (modal : Bool) (above : List Expected) → Some_token modal (above ++ stop ∷ [])
with-token modal [] = record { first = comma; others = []; nestings = 0 ∷ []; completes = part (comma ∷ []) [] (0 ∷ []) [] (comma, refl, refl, refl) none }
with-token modal (e ∷ above) = by (filled modal e) (with-token modal above)
  where
    add : (ts : List Terminal) (ns : List ℕ) → Form modal e ts ns → (s : Some_token modal (above ++ stop ∷ [])) → Some_token modal (e ∷ (above ++ stop ∷ []))
    add [] ns f s = record { first = s.first; others = s.others; nestings = ns ++ s.nestings; completes = part [] (s.first ∷ s.others) ns s.nestings f s.completes }
    add (x ∷ xs) ns f s = record { first = x; others = xs ++ s.first ∷ s.others; nestings = ns ++ s.nestings; completes = part (x ∷ xs) (s.first ∷ s.others) ns s.nestings f s.completes }

    by : Filled modal e → Some_token modal (above ++ stop ∷ []) → Some_token modal (e ∷ (above ++ stop ∷ []))
    by f s = add f.tokens f.nestings f.filled s

-- where the last token is still expected something can follow
pub stop-goes : (modal : Bool) (L : Language) (es : List Expected) → IsReadBy modal L es → IsWrittenBy modal L es → (inside : List Terminal) (before : List ℕ) (above : List Expected) → run modal es inside ≡ Some (before, above ++ stop ∷ []) → CanGoOn L inside
stop-goes modal L es m w inside before above e =
    let s = with-token modal above in
    goes-on modal L es m inside s.first s.others (before ++ s.nestings) (w.written (inside ++ s.first ∷ s.others) (before ++ s.nestings) (run-back modal inside es (above ++ stop ∷ []) before (s.first ∷ s.others) s.nestings e s.completes))

pub goes : (modal : Bool) (L : Language) (above : List Expected) → IsReadBy modal L (above ++ stop ∷ []) → IsWrittenBy modal L (above ++ stop ∷ []) → (inside : List Terminal) → Decided (CanGoOn L inside)
goes modal L above m w inside = by (run-of modal (above ++ stop ∷ []) inside)
  where
    es : List Expected
    es = above ++ stop ∷ []

    on : (before : List ℕ) (now : List Expected) → run modal (above ++ stop ∷ []) inside ≡ Some (before, now) → Bottom now → Decided (CanGoOn L inside)
    on before now e (inl n) = inr (λ g. let f = follows-run modal L (above ++ stop ∷ []) m inside g.0 g.1.0 g.1.1 in
        none_some (sym (ap (λ z. step modal z g.0) (sym (ap (λ p. p.1) (some-is (sym e ∙ f.is_run))) ∙ n)) ∙ f.is_step))
    on before now e (inr b) = inl (stop-goes modal L (above ++ stop ∷ []) m w inside before b.0 (e ∙ ap (λ z. Some (before, z)) b.1))

    by : RunOf modal (above ++ stop ∷ []) inside → Decided (CanGoOn L inside)
    by (got before now e) = on before now e (run-bottom modal inside (above ++ stop ∷ []) now before (inr (above, refl)) e)
    by (lost e) = inr (λ g. begins-run modal L (above ++ stop ∷ []) m inside e (goes-begins L inside g))

-- ---- the head of an item

abbrev is_named : Terminal → Bool
is_named (lower w) = true
is_named (quoted w) = true
is_named (number w) = is_digits w
is_named _ = false

record Named (x : Terminal) : Type 0 where
  pub name : NameTree
  pub fits : IsTrue (name_fits name)
  pub is_token : x ≡ name_token name

named : (x : Terminal) → is_named x ≡ true → Named x
named (lower w) h = record { name = word_name (plain w); fits = refl; is_token = refl }
named (quoted w) h = record { name = word_name (in_quotes w); fits = refl; is_token = refl }
named (number w) h = record { name = number_name w; fits = h; is_token = refl }
named _ h = absurd (false≢true h)

name-named : (n : NameTree) → IsTrue (name_fits n) → is_named (name_token n) ≡ true
name-named (word_name (plain w)) h = refl
name-named (word_name (in_quotes w)) h = refl
name-named (number_name ds) h = h

abbrev kept : Bool → List Terminal → Option (List Terminal)
kept true ts = Some ts
kept false ts = None

-- what is behind a head
abbrev behind_head : List ℕ → List Terminal → Option (List Terminal)
behind_head language (lower w ∷ open_round ∷ x ∷ comma ∷ lower role ∷ comma ∷ rest) = kept (is_word w language && is_named x) rest
behind_head language _ = None

record Head (language : List ℕ) (ts inside : List Terminal) : Type 0 where
  pub name : NameTree
  pub role : List ℕ
  pub fits : IsTrue (name_fits name)
  pub written : ts ≡ head_tokens language name role ++ inside

behind-is : (language : List ℕ) (ts inside : List Terminal) → behind_head language ts ≡ Some inside → Head language ts inside
behind-is language (lower w ∷ open_round ∷ x ∷ comma ∷ lower role ∷ comma ∷ rest) inside e = by (is_word w language && is_named x) refl e
  where
    by : (b : Bool) → (is_word w language && is_named x) ≡ b → kept b rest ≡ Some inside → Head language (lower w ∷ open_round ∷ x ∷ comma ∷ lower role ∷ comma ∷ rest) inside
    by false h k = absurd (none_some k)
    by true h k =
        let p = and_parts (is_word w language) (is_named x) h in
        let n = named x p.1 in
        record { name = n.name; role = role; fits = n.fits; written = λ i. lower (word-is w language p.0 i) ∷ open_round ∷ n.is_token i ∷ comma ∷ lower role ∷ comma ∷ some-is k i }
behind-is language _ inside e = absurd (none_some e)

behind-head : (language : List ℕ) → is_word language language ≡ true → (n : NameTree) (role : List ℕ) (inside : List Terminal) → IsTrue (name_fits n) → behind_head language (head_tokens language n role ++ inside) ≡ Some inside
behind-head language h n role inside f = ap (λ b. kept (b && is_named (name_token n)) inside) h ∙ ap (λ b. kept b inside) (name-named n f)

-- ---- a split of tokens

abbrev Found : (List Terminal → List Terminal → Type 0) → List Terminal → List Terminal → Type 0
Found P a b = (c : List Terminal) × (d : List Terminal) × (b ≡ c ++ d) × P (a ++ c) d

abbrev head_or : Terminal → List Terminal → Terminal
head_or d [] = d
head_or d (x ∷ xs) = x

abbrev tail_of : List Terminal → List Terminal
tail_of [] = []
tail_of (x ∷ xs) = xs

find : (P : List Terminal → List Terminal → Type 0) → ((a b : List Terminal) → Decided (P a b)) → (b a : List Terminal) → Decided (Found P a b)
find P dec [] a = by (dec (a ++ []) [])
  where
    none-here : (P (a ++ []) [] → ⊥) → (c d : List Terminal) → [] ≡ c ++ d → P (a ++ c) d → ⊥
    none-here n [] d e p = n (subst (λ z. P (a ++ []) z) (sym e) p)
    none-here n (x ∷ c) d e p = cc

    by : Decided (P (a ++ []) []) → Decided (Found P a [])
    by (inl p) = inl ([], [], refl, p)
    by (inr n) = inr (λ f. none-here n f.0 f.1 f.2 f.3)
find P dec (x ∷ b) a = by (dec (a ++ []) (x ∷ b)) (find P dec b (a ++ x ∷ []))
  where
    none-here : (P (a ++ []) (x ∷ b) → ⊥) → (Found P (a ++ x ∷ []) b → ⊥) → (c d : List Terminal) → x ∷ b ≡ c ++ d → P (a ++ c) d → ⊥
    none-here n m [] d e p = n (subst (λ z. P (a ++ []) z) (sym e) p)
    none-here n m (y ∷ c) d e p =
        let h : x ≡ y = ap (head_or x) e in
        m (c, d, ap tail_of e, subst (λ z. P z d) (ap (λ z. a ++ z ∷ c) (sym h) ∙ sym (append_assoc a (x ∷ []) c)) p)

    by : Decided (P (a ++ []) (x ∷ b)) → Decided (Found P (a ++ x ∷ []) b) → Decided (Found P a (x ∷ b))
    by (inl p) r = inl ([], x ∷ b, refl, p)
    by (inr n) (inl f) = inl (x ∷ f.0, f.1, ap (λ z. x ∷ z) f.2, subst (λ z. P z f.1) (append_assoc a (x ∷ []) f.0) f.3)
    by (inr n) (inr m) = inr (λ f. none-here n m f.0 f.1 f.2 f.3)

-- ---- the place of a token

abbrev Inside : Bool → List ℕ → Language → List Terminal → List Terminal → Type 0
Inside modal language L a d = IsWhole (TextLanguage modal) a × (inside : List Terminal) × (behind_head language d ≡ Some inside) × CanGoOn L inside

inside-of : (modal : Bool) (language : List ℕ) (L : Language) → ((ts : List Terminal) → Decided (CanGoOn L ts)) → (a d : List Terminal) → Decided (Inside modal language L a d)
inside-of modal language L dec a d = by (is-whole modal a)
  where
    gone : IsWhole (TextLanguage modal) a → (inside : List Terminal) → behind_head language d ≡ Some inside → Decided (CanGoOn L inside) → Decided (Inside modal language L a d)
    gone w inside e (inl g) = inl (w, inside, e, g)
    gone w inside e (inr n) = inr (λ f. n (subst (CanGoOn L) (some-is (sym f.2 ∙ e)) f.3))

    headed : IsWhole (TextLanguage modal) a → (o : Option (List Terminal)) → behind_head language d ≡ o → Decided (Inside modal language L a d)
    headed w None e = inr (λ f. none_some (sym e ∙ f.2))
    headed w (Some inside) e = gone w inside e (dec inside)

    by : Decided (IsWhole (TextLanguage modal) a) → Decided (Inside modal language L a d)
    by (inl w) = headed w (behind_head language d) refl
    by (inr n) = inr (λ f. n f.0)

stands-in : (modal : Bool) (language : List ℕ) → is_word language language ≡ true → (L : Language) → ((ts : List Terminal) → Decided (CanGoOn L ts)) → (front : List Terminal) → Decided (StandsIn modal language L front)
stands-in modal language h L dec front = by (find (Inside modal language L) (inside-of modal language L dec) front [])
  where
    there : Found (Inside modal language L) [] front → StandsIn modal language L front
    there f =
        let i = f.3 in
        let w = i.0.1 in
        let k = behind-is language f.1 i.1 i.2 in
        (w.0, k.name, k.role, i.1, w.1, k.fits, f.2 ∙ ap (λ z. z ++ f.1) w.2 ∙ ap (λ z. text_tokens w.0 ++ z) k.written ∙ sym (append_assoc (text_tokens w.0) (head_tokens language k.name k.role) i.1), i.3)

    back : StandsIn modal language L front → Found (Inside modal language L) [] front
    back s = (
      text_tokens s.0,
      head_tokens language s.1 s.2 ++ s.3,
      s.6 ∙ append_assoc (text_tokens s.0) (head_tokens language s.1 s.2) s.3,
      ((_, (s.0, s.4, refl, refl)), s.3, behind-head language h s.1 s.2 s.3 s.5, s.7),
    )

    by : Decided (Found (Inside modal language L) [] front) → Decided (StandsIn modal language L front)
    by (inl f) = inl (there f)
    by (inr n) = inr (λ s. n (back s))

in-formula : (modal : Bool) (front : List Terminal) → Decided (InFormula modal front)
in-formula true front = stands-in true (codes "qmf") refl (FormulaLanguage true) (λ ts. goes true (FormulaLanguage true) (formula 0 ∷ []) (formula-read true) (formula-written true) ts) front
in-formula false front =
    by (stands-in false (codes "fof") refl (FormulaLanguage false) (λ ts. goes false (FormulaLanguage false) (formula 0 ∷ []) (formula-read false) (formula-written false) ts) front)
    (stands-in false (codes "cnf") refl ClauseLanguage (λ ts. goes false ClauseLanguage (clause ∷ []) (clause-read false) (clause-written false) ts) front)
  where
    by : Decided (StandsIn false (codes "fof") (FormulaLanguage false) front) → Decided (StandsIn false (codes "cnf") ClauseLanguage front) → Decided (InFormula false front)
    by (inl f) r = inl (inl f)
    by (inr n) (inl c) = inl (inr c)
    by (inr n) (inr m) = inr (λ q. either n m q)
      where
        either : (StandsIn false (codes "fof") (FormulaLanguage false) front → ⊥) → (StandsIn false (codes "cnf") ClauseLanguage front → ⊥) → StandsIn false (codes "fof") (FormulaLanguage false) front ⊎ StandsIn false (codes "cnf") ClauseLanguage front → ⊥
        either n m (inl a) = n a
        either n m (inr b) = m b

-- each place is one of the three
pub place-of : (modal : Bool) (front : List Terminal) → (place : Place) × IsPlace modal front place
place-of modal front = by (is-whole modal front) (in-formula modal front)
  where
    by : Decided (IsWhole (TextLanguage modal) front) → Decided (InFormula modal front) → (place : Place) × IsPlace modal front place
    by (inl w) r = (at_item, w)
    by (inr n) (inl f) = (in_formula, (n, f))
    by (inr n) (inr m) = (elsewhere, (n, m))
