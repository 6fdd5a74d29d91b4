-- No name, term, formula or label has a line feed in it, nor a line of a head.
use Rattle.std.proofs.Common.{◌/◌, ◌%◌, false, nat_lt, if◌then◌else◌, ◌≡◌, ℕ, zero, suc, ◌+◌, ◌-◌, ◌^◌, ◌<◌, ◌≤◌, List, [], ◌∷◌, ◌++◌, map, Bool, true, not, ◌&&◌, ◌||◌, ◌==◌, IsTrue, refl, sym, ◌∙◌, ap, subst, decimal, nat_le, leb-true, arith, inl, inr, lit<, flat_map, codes, lt_of_le_of_lt}
use Rattle.std.specs.List.{list_all, join_with_byte}
use Rattle.std.specs.Fmt.{digit_glyph, digits_onto, digits}
use Rattle.std.proofs.lemmas.Bool.{and_parts, and_from, cases_Bool, eqb-true, false≢true}
use Rattle.std.proofs.lemmas.List.Folds.{list_all-append}
use Rattle.calculus.specs.declared.symbol.SymbolClass.{SymbolClass}
use Rattle.calculus.specs.declared.symbol.SymbolClass.TheVariants.{Function, Predicate, Equality, Truth}
use Rattle.calculus.specs.declared.setting.Logic.{Logic}
use Rattle.calculus.specs.declared.setting.Logic.TheVariants.{Classical, Intuitionistic, D, T as LogicT, S4, S5}
use Rattle.calculus.specs.declared.setting.Domains.{Domains}
use Rattle.calculus.specs.declared.setting.Domains.TheVariants.{Constant, Cumulative, Varying}
use Rattle.calculus.specs.Syntax.{arity_of, Symbol, Term, Terms, var, fun, eigen, spare, no_terms, more_terms, Formula, atom, neg, conj, disj, imp, all, ex, box, dia, Problem}
use Rattle.calculus.specs.Measures.{nesting}
use Rattle.calculus.specs.Skolem.{has_function}
use Rattle.calculus.specs.Problems.{formula_fits, has_predicate, is_modal, is_name, is_name_byte, is_problem, name_fits, symbol_fits, term_fits_in, terms_fit_in}
use Rattle.calculus.specs.Equality.{list_eq}
use Rattle.calculus.specs.Derivations.{Mark, new_mark, spare_mark, Label}
use Rattle.calculus.specs.DerivationText.{domains_text, is_limit, is_name_number, label_is_written, logic_text, mark_is_written, setting_text, term_is_written, terms_are_written}
use Rattle.calculus.specs.Text.{args_text, atom_text, equation_text, escaped, formula_text, is_equality, is_lower_word, is_number, label_text, mark_text, more_args_text, name_text, quantified_text, joined_text, symbol_at, term_text, text_by_class, variable_text}
use Rattle.calculus.proofs.EqualityLaws.{list_eq-tells, nat_eq-tells}
use Rattle.calculus.proofs.TermTextLaws.{small-number}
use Rattle.logic_rules.proofs.ProblemFacts.{kept}
use Rattle.text_lines.specs.Head.{head_of}

abbrev pub is_no_feed : ℕ → Bool
is_no_feed b = not (b == 10)

abbrev pub NoFeed : List ℕ → Type 0
NoFeed bytes = IsTrue (list_all is_no_feed bytes)

pub join : (a b : List ℕ) → NoFeed a → NoFeed b → NoFeed (a ++ b)
join a b h k = list_all-append is_no_feed a b ∙ and_from (list_all is_no_feed a) (list_all is_no_feed b) h k

pub before : (b : ℕ) (bs : List ℕ) → IsTrue (is_no_feed b) → NoFeed bs → NoFeed (b ∷ bs)
before b bs h k = and_from (is_no_feed b) (list_all is_no_feed bs) h k

pub not_ten : (b : ℕ) → ¬ (b ≡ 10) → IsTrue (is_no_feed b)
not_ten b n = elim (cases_Bool (b == 10)) [
  | inl e ↦ absurd (n (eqb-true b 10 e))
  | inr e ↦ ap not e
]

weaker : (p : ℕ → Bool) → ((b : ℕ) → IsTrue (p b) → IsTrue (is_no_feed b)) → (bs : List ℕ) → IsTrue (list_all p bs) → NoFeed bs
weaker p f [] h = refl
weaker p f (b ∷ bs) h = let q = and_parts (p b) (list_all p bs) h in before b bs (f b q.0) (weaker p f bs q.1)

glyph-feed : (u : Bool) (d : ℕ) → IsTrue (is_no_feed (digit_glyph u d))
glyph-feed u d = by (nat_lt d 10) u
  where
    by : (b u : Bool) → IsTrue (is_no_feed (if b then 48 + d else (if u then 55 + d else 87 + d)))
    by true u = not_ten (48 + d) (λ e. omega arith)
    by false true = not_ten (55 + d) (λ e. omega arith)
    by false false = not_ten (87 + d) (λ e. omega arith)

digits-feed : (k base : ℕ) (u : Bool) (n : ℕ) (acc : List ℕ) → NoFeed acc → NoFeed (digits_onto k base u n acc)
digits-feed zero base u n acc h = h
digits-feed (suc k) base u n acc h = by (digits-feed k base u) (n / base == 0)
  where
    by : ((m : ℕ) (more : List ℕ) → NoFeed more → NoFeed (digits_onto k base u m more)) → (b : Bool) → NoFeed (if b then digit_glyph u (n % base) ∷ acc else digits_onto k base u (n / base) (digit_glyph u (n % base) ∷ acc))
    by rest true = before (digit_glyph u (n % base)) acc (glyph-feed u (n % base)) h
    by rest false = rest (n / base) (digit_glyph u (n % base) ∷ acc) (before (digit_glyph u (n % base)) acc (glyph-feed u (n % base)) h)

pub decimal-feed : (n : ℕ) → NoFeed (decimal n)
unfolding digits
decimal-feed n = digits-feed 64 10 false n [] refl

pub number-feed : (n : ℕ) → n < 2 ^ 64 → NoFeed (decimal n)
number-feed n h = decimal-feed n

pub small-feed : (n : ℕ) → IsTrue (is_number n) → NoFeed (decimal n)
small-feed n h = number-feed n (small-number n h)

pub name_number-feed : (n : ℕ) → IsTrue (is_name_number n) → NoFeed (decimal n)
name_number-feed n h = small-feed n (and_parts (nat_le 1 n) (is_number n) h).1

-- ---- names and symbols

byte-feed : (b : ℕ) → IsTrue (is_name_byte b) → IsTrue (is_no_feed b)
byte-feed b h = elim (cases_Bool (b == 10)) [
  | inl e ↦ absurd (false≢true (sym (ap is_name_byte (eqb-true b 10 e)) ∙ h))
  | inr e ↦ rw e refl
]

escaped-feed : (b : ℕ) → IsTrue (is_no_feed b) → NoFeed (escaped b)
escaped-feed b h = elim (cases_Bool (b == 39 || b == 92)) [
  | inl e ↦ rw e (before 92 (b ∷ []) refl (before b [] h refl))
  | inr e ↦ rw e (before b [] h refl)
]

all_escaped-feed : (bs : List ℕ) → NoFeed bs → NoFeed (flat_map escaped bs)
all_escaped-feed [] h = refl
all_escaped-feed (b ∷ bs) h =
    let p = and_parts (is_no_feed b) (list_all is_no_feed bs) h in
    join (escaped b) (flat_map escaped bs) (escaped-feed b p.0) (all_escaped-feed bs p.1)

name-bytes : (bs : List ℕ) → IsTrue (is_name bs) → NoFeed bs
name-bytes [] h = refl
name-bytes (b ∷ bs) h = weaker is_name_byte byte-feed (b ∷ bs) h

name-feed : (bs : List ℕ) → IsTrue (is_name bs) → NoFeed (name_text bs)
name-feed bs h = elim (cases_Bool (is_lower_word bs)) [
  | inl e ↦ rw e (name-bytes bs h)
  | inr e ↦ rw e (before 39 (flat_map escaped bs ++ 39 ∷ []) refl (join (flat_map escaped bs) (39 ∷ []) (all_escaped-feed bs (name-bytes bs h)) refl))
]

pub class-feed : (c : SymbolClass) (name : List ℕ) (n : ℕ) → IsTrue (name_fits c name n) → NoFeed (text_by_class c name)
class-feed Function name n h = name-feed name h
class-feed Predicate name n h = name-feed name h
class-feed Equality name n h =
    let e = (list_eq-tells ◌==◌ nat_eq-tells name (codes "=")).0 (and_parts (list_eq ◌==◌ name (codes "=")) (n == 2) h).0 in
    subst NoFeed (sym e) refl
class-feed Truth name n h = refl

symbol_at-feed : (S : List Symbol) (f : ℕ) → IsTrue (list_all symbol_fits S) → NoFeed (symbol_at S f)
symbol_at-feed [] f h = refl
symbol_at-feed (s ∷ S) zero h = class-feed s.class s.name s.arity (and_parts (symbol_fits s) (list_all symbol_fits S) h).0
symbol_at-feed (s ∷ S) (suc f) h = symbol_at-feed S f (and_parts (symbol_fits s) (list_all symbol_fits S) h).1

-- ---- terms

variable-feed : (n : ℕ) → n < 2 ^ 64 → NoFeed (variable_text n)
variable-feed n h = before 88 (decimal n) refl (number-feed n h)

lower : (d k : ℕ) → d < 2 ^ 64 → (d - k) < 2 ^ 64
lower d k h = omega arith

mutual
  fit-feed : (S : List Symbol) (d : ℕ) → d < 2 ^ 64 → IsTrue (list_all symbol_fits S) → (t : Term) → IsTrue (term_fits_in S d t) → NoFeed (term_text S d t)
  fit-feed S d b s (var k) h = variable-feed (d - k) (lower d k b)
  fit-feed S d b s (fun f ts) h = join (symbol_at S f) (args_text S d ts) (symbol_at-feed S f s) (fit_args-feed S d b s ts (and_parts (has_function S f (arity_of ts)) (terms_fit_in S d ts) h).1)
  fit-feed S d b s (eigen n) h = absurd (false≢true h)
  fit-feed S d b s (spare n) h = absurd (false≢true h)

  fit_args-feed : (S : List Symbol) (d : ℕ) → d < 2 ^ 64 → IsTrue (list_all symbol_fits S) → (ts : Terms) → IsTrue (terms_fit_in S d ts) → NoFeed (args_text S d ts)
  fit_args-feed S d b s no_terms h = refl
  fit_args-feed S d b s (more_terms t ts) h =
      let p = and_parts (term_fits_in S d t) (terms_fit_in S d ts) h in
      before 40 (term_text S d t ++ more_args_text S d ts) refl (join (term_text S d t) (more_args_text S d ts) (fit-feed S d b s t p.0) (fit_more-feed S d b s ts p.1))

  fit_more-feed : (S : List Symbol) (d : ℕ) → d < 2 ^ 64 → IsTrue (list_all symbol_fits S) → (ts : Terms) → IsTrue (terms_fit_in S d ts) → NoFeed (more_args_text S d ts)
  fit_more-feed S d b s no_terms h = refl
  fit_more-feed S d b s (more_terms t ts) h =
      let p = and_parts (term_fits_in S d t) (terms_fit_in S d ts) h in
      before 44 (term_text S d t ++ more_args_text S d ts) refl (join (term_text S d t) (more_args_text S d ts) (fit-feed S d b s t p.0) (fit_more-feed S d b s ts p.1))

mutual
  pub term-feed : (S : List Symbol) → IsTrue (list_all symbol_fits S) → (t : Term) → IsTrue (term_is_written S t) → NoFeed (term_text S 0 t)
  term-feed S s (var k) h = absurd (false≢true h)
  term-feed S s (fun f ts) h = join (symbol_at S f) (args_text S 0 ts) (symbol_at-feed S f s) (args-feed S s ts (and_parts (has_function S f (arity_of ts)) (terms_are_written S ts) h).1)
  term-feed S s (eigen n) h = join (codes "$$e") (decimal n) refl (name_number-feed n h)
  term-feed S s (spare n) h = join (codes "$$s") (decimal n) refl (name_number-feed n h)

  args-feed : (S : List Symbol) → IsTrue (list_all symbol_fits S) → (ts : Terms) → IsTrue (terms_are_written S ts) → NoFeed (args_text S 0 ts)
  args-feed S s no_terms h = refl
  args-feed S s (more_terms t ts) h =
      let p = and_parts (term_is_written S t) (terms_are_written S ts) h in
      before 40 (term_text S 0 t ++ more_args_text S 0 ts) refl (join (term_text S 0 t) (more_args_text S 0 ts) (term-feed S s t p.0) (more-feed S s ts p.1))

  more-feed : (S : List Symbol) → IsTrue (list_all symbol_fits S) → (ts : Terms) → IsTrue (terms_are_written S ts) → NoFeed (more_args_text S 0 ts)
  more-feed S s no_terms h = refl
  more-feed S s (more_terms t ts) h =
      let p = and_parts (term_is_written S t) (terms_are_written S ts) h in
      before 44 (term_text S 0 t ++ more_args_text S 0 ts) refl (join (term_text S 0 t) (more_args_text S 0 ts) (term-feed S s t p.0) (more-feed S s ts p.1))

-- ---- formulas

equation-feed : (S : List Symbol) (d : ℕ) → d < 2 ^ 64 → IsTrue (list_all symbol_fits S) → (ts : Terms) → IsTrue (terms_fit_in S d ts) → NoFeed (equation_text S d ts)
equation-feed S d b s no_terms h = refl
equation-feed S d b s (more_terms t no_terms) h = refl
equation-feed S d b s (more_terms t (more_terms u no_terms)) h =
    let p = and_parts (term_fits_in S d t) (term_fits_in S d u && true) h in
    let q = and_parts (term_fits_in S d u) true p.1 in
    join (codes "(" ++ term_text S d t ++ codes " = " ++ term_text S d u) (codes ")") (join (codes "(" ++ term_text S d t ++ codes " = ") (term_text S d u) (join (codes "(" ++ term_text S d t) (codes " = ") (join (codes "(") (term_text S d t) refl (fit-feed S d b s t p.0)) refl) (fit-feed S d b s u q.0)) refl
equation-feed S d b s (more_terms t (more_terms u (more_terms v ts))) h = refl

atom-feed : (S : List Symbol) (d : ℕ) → d < 2 ^ 64 → IsTrue (list_all symbol_fits S) → (p : ℕ) (ts : Terms) → IsTrue (terms_fit_in S d ts) → NoFeed (atom_text S d p ts)
atom-feed S d b s p ts h = elim (cases_Bool (is_equality S p)) [
  | inl e ↦ rw e (equation-feed S d b s ts h)
  | inr e ↦ rw e (join (symbol_at S p) (args_text S d ts) (symbol_at-feed S p s) (fit_args-feed S d b s ts h))
]

joined-feed : (a op b : List ℕ) → NoFeed a → NoFeed op → NoFeed b → NoFeed (joined_text a op b)
joined-feed a op b ha ho hb = join (codes "(" ++ a ++ op ++ b) (codes ")") (join (codes "(" ++ a ++ op) b (join (codes "(" ++ a) op (join (codes "(") a refl ha) ho) hb) refl

quantified-feed : (q : List ℕ) (d : ℕ) (a : List ℕ) → NoFeed q → suc d < 2 ^ 64 → NoFeed a → NoFeed (quantified_text q d a)
quantified-feed q d a hq hd ha = join (q ++ codes "[" ++ variable_text (suc d) ++ codes "]:") a (join (q ++ codes "[" ++ variable_text (suc d)) (codes "]:") (join (q ++ codes "[") (variable_text (suc d)) (join q (codes "[") hq refl) (variable-feed (suc d) hd)) refl) ha

formula-feed : (l : Logic) (S : List Symbol) → IsTrue (list_all symbol_fits S) → (d : ℕ) (f : Formula) → IsTrue (formula_fits l S d f) → (d + nesting f) < 2 ^ 64 → NoFeed (formula_text S d f)
formula-feed l S s d (atom p ts) h b = atom-feed S d (omega arith) s p ts (and_parts (has_predicate S p (arity_of ts)) (terms_fit_in S d ts) h).1
formula-feed l S s d (neg a) h b = join (codes "~") (formula_text S d a) refl (formula-feed l S s d a h (omega arith))
formula-feed l S s d (conj a c) h b =
    let p = and_parts (formula_fits l S d a) (formula_fits l S d c) h in
    joined-feed (formula_text S d a) (codes " & ") (formula_text S d c) (formula-feed l S s d a p.0 (omega arith)) refl (formula-feed l S s d c p.1 (omega arith))
formula-feed l S s d (disj a c) h b =
    let p = and_parts (formula_fits l S d a) (formula_fits l S d c) h in
    joined-feed (formula_text S d a) (codes " | ") (formula_text S d c) (formula-feed l S s d a p.0 (omega arith)) refl (formula-feed l S s d c p.1 (omega arith))
formula-feed l S s d (imp a c) h b =
    let p = and_parts (formula_fits l S d a) (formula_fits l S d c) h in
    joined-feed (formula_text S d a) (codes " => ") (formula_text S d c) (formula-feed l S s d a p.0 (omega arith)) refl (formula-feed l S s d c p.1 (omega arith))
formula-feed l S s d (all a) h b = quantified-feed (codes "!") d (formula_text S (suc d) a) refl (omega arith) (formula-feed l S s (suc d) a h (omega arith))
formula-feed l S s d (ex a) h b = quantified-feed (codes "?") d (formula_text S (suc d) a) refl (omega arith) (formula-feed l S s (suc d) a h (omega arith))
formula-feed l S s d (box a) h b = join (codes "#box:") (formula_text S d a) refl (formula-feed l S s d a (and_parts (is_modal l) (formula_fits l S d a) h).1 (omega arith))
formula-feed l S s d (dia a) h b = join (codes "#dia:") (formula_text S d a) refl (formula-feed l S s d a (and_parts (is_modal l) (formula_fits l S d a) h).1 (omega arith))

-- ---- labels

mark-feed : (m : Mark) → IsTrue (mark_is_written m) → NoFeed (mark_text m)
mark-feed (new_mark n) h = join (codes "$$c") (decimal n) refl (name_number-feed n h)
mark-feed (spare_mark n) h = join (codes "$$d") (decimal n) refl (name_number-feed n h)

marks-feed : (w : Label) → IsTrue (label_is_written w) → NoFeed (join_with_byte 44 (map mark_text w))
marks-feed [] h = refl
marks-feed (m ∷ []) h = mark-feed m (and_parts (mark_is_written m) true h).0
marks-feed (m ∷ n ∷ w) h =
    let p = and_parts (mark_is_written m) (list_all mark_is_written (n ∷ w)) h in
    join (mark_text m) (44 ∷ join_with_byte 44 (map mark_text (n ∷ w))) (mark-feed m p.0) (before 44 (join_with_byte 44 (map mark_text (n ∷ w))) refl (marks-feed (n ∷ w) p.1))

pub label-feed : (w : Label) → IsTrue (label_is_written w) → NoFeed (label_text w)
label-feed w h = join (codes "[" ++ join_with_byte 44 (map mark_text w)) (codes "]") (join (codes "[") (join_with_byte 44 (map mark_text w)) refl (marks-feed w h)) refl

-- ---- lines

domains-feed : (a : List ℕ) (d : Domains) → NoFeed a → NoFeed (a ++ domains_text d)
domains-feed a Constant h = join a (codes " constant") h refl
domains-feed a Cumulative h = join a (codes " cumulative") h refl
domains-feed a Varying h = join a (codes " varying") h refl

pub logic-feed : (l : Logic) (d : Domains) → NoFeed (logic_text l d)
logic-feed Classical d = refl
logic-feed Intuitionistic d = refl
logic-feed D d = domains-feed (codes "d") d refl
logic-feed LogicT d = domains-feed (codes "t") d refl
logic-feed S4 d = domains-feed (codes "s4") d refl
logic-feed S5 d = domains-feed (codes "s5") d refl

abbrev pub AreNoFeeds : List (List ℕ) → Type 0
AreNoFeeds ls = IsTrue (list_all (list_all is_no_feed) ls)

abbrev all_free : List (List ℕ) → Bool
all_free ls = list_all (list_all is_no_feed) ls

pub lines-join : (ks ls : List (List ℕ)) → AreNoFeeds ks → AreNoFeeds ls → AreNoFeeds (ks ++ ls)
lines-join ks ls h k = list_all-append (list_all is_no_feed) ks ls ∙ and_from (all_free ks) (all_free ls) h k

pub lines-map : {X : Type 0} (f : X → List ℕ) (p : X → Bool) → ((x : X) → IsTrue (p x) → NoFeed (f x)) → (xs : List X) → IsTrue (list_all p xs) → AreNoFeeds (map f xs)
lines-map f p g [] h = refl
lines-map f p g (x ∷ xs) h = let q = and_parts (p x) (list_all p xs) h in and_from (list_all is_no_feed (f x)) (all_free (map f xs)) (g x q.0) (lines-map f p g xs q.1)

limit-feed : (n : ℕ) → IsTrue (is_limit n) → NoFeed (decimal n)
limit-feed n h = number-feed n (lt_of_le_of_lt (leb-true n 200 (and_parts (nat_le 1 n) (nat_le n 200) h).1) (lit< tt))

from_zero : (n : ℕ) → n ≤ 1100 → (0 + n) < 2 ^ 64
from_zero n h = let k : n < 2 ^ 64 = lt_of_le_of_lt h (lit< tt) in omega arith

pub head-feed : (first : List ℕ) (P : Problem) → NoFeed first → IsTrue (is_problem P) → (n : ℕ) → IsTrue (is_limit n) → AreNoFeeds (head_of first P n)
head-feed first P q w n h =
    let k = kept P w in
    let f = formula-feed P.setting.logic P.symbols k.symbols 0 P.formula k.formula (from_zero (nesting P.formula) (leb-true (nesting P.formula) 1100 k.nests)) in
    and_from (list_all is_no_feed first) _ q
    (and_from (list_all is_no_feed (codes "logic " ++ setting_text P.setting)) _ (join (codes "logic ") (setting_text P.setting) refl (logic-feed P.setting.logic P.setting.domains))
    (and_from (list_all is_no_feed (codes "formula " ++ formula_text P.symbols 0 P.formula)) _ (join (codes "formula ") (formula_text P.symbols 0 P.formula) refl f)
    (and_from (list_all is_no_feed (codes "limit " ++ decimal n)) true (join (codes "limit ") (decimal n) refl (limit-feed n h)) refl)))
