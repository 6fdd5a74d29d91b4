-- The steps of reading a token.
use Rattle.std.proofs.Common.{◌≡◌, ℕ, ◌+◌, ◌<◌, List, [], ◌∷◌, ◌++◌, length, drop, Bool, true, false, IsTrue, refl, sym, ◌∙◌, ap, subst, codes, decimal, arith, length-append, flat_map, if◌then◌else◌}
use Rattle.std.proofs.lemmas.Bool.{true≢false}
use Rattle.calculus.specs.DerivationText.{IsNameAt}
use Rattle.calculus.specs.Problems.{is_name}
use Rattle.calculus.specs.Text.{StopsAt, escaped, is_lower_word, is_word_byte, name_text}
use Rattle.calculus.proofs.TextLaws.{name-dollar}
use Rattle.formula_text.proofs.Places.{after-text, stands-front}
use Rattle.text_lines.specs.Spelling.{IsNumberBefore}
use Rattle.tableau_text.specs.Tokens.{Token, by_name, by_number, by_bracket, kind_text, IsToken}
use Rattle.tableau_text.specs.declared.token.NameKind.{NameKind}
use Rattle.tableau_text.specs.declared.token.NameKind.TheVariants.{Eigen, New, Constant, Spare}
use Rattle.tableau_text.proofs.TokenLaws.{dollar-bracket, kind-dollar, one-kind}

pub no-kind : (text : List ℕ) → ((r : List ℕ) → ¬ (text ≡ codes "$$e" ++ r)) → ((r : List ℕ) → ¬ (text ≡ codes "$$c" ++ r)) → ((r : List ℕ) → ¬ (text ≡ codes "$$s" ++ r)) → ((r : List ℕ) → ¬ (text ≡ codes "$$d" ++ r)) → (k : NameKind) (rest : List ℕ) → ¬ (text ≡ kind_text k ++ rest)
no-kind text e c s d Eigen rest h = e rest h
no-kind text e c s d New rest h = c rest h
no-kind text e c s d Constant rest h = s rest h
no-kind text e c s d Spare rest h = d rest h

pub name-at : (text name rest : List ℕ) → IsToken text (by_name name) rest → IsNameAt text 0 (0 + length (name_text name)) name
name-at text name rest h = record {
  written = h.0;
  stands = stands-front text (name_text name) rest 0 h.1;
  ends = subst (StopsAt is_word_byte) (sym (after-text text (name_text name) rest 0 h.1)) h.2;
}

pub name-token : (text name : List ℕ) (to : ℕ) (rest : List ℕ) → IsNameAt text 0 to name → rest ≡ drop to text → IsToken text (by_name name) rest
name-token text name to rest h e = (h.written, h.stands.there ∙ ap (λ l. name_text name ++ l) (sym e), subst (StopsAt is_word_byte) (sym e) h.ends)

pub number-token : (text rest after : List ℕ) (k : NameKind) (n : ℕ) → text ≡ kind_text k ++ rest → IsNumberBefore rest n after → IsToken text (by_number k n) after
number-token text rest after k n e h = (h.small, e ∙ ap (λ l. kind_text k ++ l) h.all, h.stops)

-- where no bracket and no kind of name stands, a token is the name of a function symbol
pub no-name : (text : List ℕ) → ((r : List ℕ) → ¬ (text ≡ 91 ∷ r)) → ((k : NameKind) (r : List ℕ) → ¬ (text ≡ kind_text k ++ r)) → ((name r : List ℕ) → ¬ IsToken text (by_name name) r) → (t : Token) (rest : List ℕ) → ¬ IsToken text t rest
no-name text bracket kind none (by_name name) rest h = none name rest h
no-name text bracket kind none (by_number k n) rest h = kind k _ h.1
no-name text bracket kind none by_bracket rest h = bracket rest h

pub no-number : (text after : List ℕ) (k : NameKind) → text ≡ kind_text k ++ after → ((n : ℕ) (r : List ℕ) → ¬ IsNumberBefore after n r) → (t : Token) (rest : List ℕ) → ¬ IsToken text t rest
no-number text after k e none (by_name name) rest h = let d = kind-dollar k after in name-dollar name rest d.0 (sym h.1 ∙ e ∙ d.1)
no-number text after k e none (by_number l n) rest h = none n rest (record { small = h.0; all = (one-kind k l after (decimal n ++ rest) (sym e ∙ h.1)).1; stops = h.2 })
no-number text after k e none by_bracket rest h = let d = kind-dollar k after in dollar-bracket d.0 rest (sym d.1 ∙ sym e ∙ h)

name-some : (name : List ℕ) → IsTrue (is_name name) → (b : ℕ) × (bs : List ℕ) × (name_text name ≡ b ∷ bs)
name-some name h = by (is_lower_word name) refl
  where
    bare : (name : List ℕ) → IsTrue (is_lower_word name) → (b : ℕ) × (bs : List ℕ) × (name ≡ b ∷ bs)
    bare [] g = absurd (true≢false (sym g))
    bare (b ∷ bs) g = (b, bs, refl)

    by : (x : Bool) → is_lower_word name ≡ x → (b : ℕ) × (bs : List ℕ) × (name_text name ≡ b ∷ bs)
    by true g = let p = bare name g in (p.0, p.1, ap (λ x. if x then name else 39 ∷ (flat_map escaped name ++ 39 ∷ [])) g ∙ p.2)
    by false g = (39, _, ap (λ x. if x then name else 39 ∷ (flat_map escaped name ++ 39 ∷ [])) g)

-- a token takes a part of the text
pub token-shorter : (text : List ℕ) (t : Token) (rest : List ℕ) → IsToken text t rest → length rest < length text
token-shorter text (by_name name) rest h =
    let s = name-some name h.0 in
    let e = ap length (h.1 ∙ ap (λ l. l ++ rest) s.2) in
    let k = length-append s.1 rest in
    omega (arith, e, k)
token-shorter text (by_number k n) rest h =
    let d = kind-shape k (decimal n ++ rest) in
    let e = ap length (h.1 ∙ d.1) in
    let l = length-append (decimal n) rest in
    omega (arith, e, l)
  where
    kind-shape : (k : NameKind) (r : List ℕ) → (l : ℕ) × (kind_text k ++ r ≡ 36 ∷ 36 ∷ l ∷ r)
    kind-shape Eigen r = (_, refl)
    kind-shape New r = (_, refl)
    kind-shape Constant r = (_, refl)
    kind-shape Spare r = (_, refl)
token-shorter text by_bracket rest h = let e = ap length h in omega (arith, e)

pub ruleset reading = (no-kind, name-token, number-token, no-name, no-number)
