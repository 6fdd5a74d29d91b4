-- Terms inside of quantifiers are told apart by their texts, also where bytes follow with which a term may end.
use Rattle.std.proofs.Common.{◌≡◌, ℕ, ◌-◌, ◌^◌, ◌<◌, ◌≤◌, List, [], ◌∷◌, ◌++◌, false, ◌&&◌, ◌||◌, ◌==◌, IsTrue, refl, sym, ◌∙◌, ap, Option, Some, None, slice_get, inl, inr, append_assoc, arith, eqb-true, ltb-true, if◌then◌else◌}
use Rattle.std.specs.List.{list_all}
use Rattle.std.specs.Option.{option_map_or}
use Rattle.std.proofs.lemmas.Bool.{false≢true, cases_Bool, and_parts}
use Rattle.calculus.specs.declared.symbol.SymbolClass.{SymbolClass}
use Rattle.calculus.specs.declared.symbol.SymbolClass.TheVariants.{Function}
use Rattle.calculus.specs.Syntax.{arity_of, Symbol, Term, Terms, var, fun, eigen, spare, no_terms, more_terms}
use Rattle.calculus.specs.Skolem.{has_function, is_function}
use Rattle.calculus.specs.Text.{Ends, StopsAt, is_lower, is_lower_word, is_word_byte, name_text, text_by_class, symbol_text, symbol_at, term_text, args_text, more_args_text}
use Rattle.calculus.specs.Problems.{are_distinct, term_fits_in, terms_fit_in}
use Rattle.calculus.proofs.EqualityLaws.{nat_eq-tells}
use Rattle.calculus.proofs.TermTextLaws.{ends-digit, ends-word, place-unique, ends-bracket, function-class}
use Rattle.calculus.proofs.TextLaws.{cons-head, cons-tail, decimal-split, head_or, name-split}

pub differ : (m n : ℕ) → m ≡ n → (m == n) ≡ false → ⊥
differ m n e h = false≢true (sym h ∙ ap (λ k. m == k) (sym e) ∙ (nat_eq-tells m m).1 refl)

pub cancel : (q xs ys : List ℕ) → q ++ xs ≡ q ++ ys → xs ≡ ys
cancel [] xs ys e = e
cancel (b ∷ q) xs ys e = cancel q xs ys (cons-tail e)

-- ---- by what byte formulas and terms are told apart

-- the first byte, after `#` the second; 0 stands for the first byte of a name
abbrev pub key : List ℕ → ℕ
key [] = 1
key (b ∷ bs) = if b == 35 then head_or 0 bs else (if is_lower b || b == 39 then 0 else b)

lower-key : (b : ℕ) (bs : List ℕ) → IsTrue (is_lower b) → key (b ∷ bs) ≡ 0
lower-key b bs h = elim (cases_Bool (b == 35)) [
  | inl e ↦ absurd (false≢true (sym (ap is_lower (eqb-true b 35 e)) ∙ h))
  | inr e ↦ rw (e, h) refl
]

bare-key : (a r : List ℕ) → IsTrue (is_lower_word a) → key (a ++ r) ≡ 0
bare-key [] r h = absurd (false≢true h)
bare-key (b ∷ bs) r h = lower-key b (bs ++ r) (and_parts (is_lower b) (list_all is_word_byte bs) h).0

pub name-key : (a r : List ℕ) → key (name_text a ++ r) ≡ 0
name-key a r = elim (cases_Bool (is_lower_word a)) [ inl h ↦ rw h (bare-key a r h) | inr h ↦ rw h refl ]

-- ---- symbols

-- the symbol of a class and an arity at a place
pub record At (S : List Symbol) (p : ℕ) (c : SymbolClass) (n : ℕ) (x : Symbol) : Type 0 where
  pub found : slice_get S p ≡ Some x
  pub class : x.class ≡ c
  pub arity : x.arity ≡ n

pub same-place : (S : List Symbol) (p q : ℕ) (c : SymbolClass) (m n : ℕ) (x y : Symbol) → IsTrue (are_distinct S) → At S p c m x → At S q c n y → x.name ≡ y.name → m ≡ n → p ≡ q
same-place S p q c m n x y d hx hy e k =
    let same : x ≡ y = λ i. record { name = e i; class = (hx.class ∙ sym hy.class) i; arity = (hx.arity ∙ k ∙ sym hy.arity) i } in
    place-unique S p q x d hx.found (hy.found ∙ ap Some (sym same))

pub function-at : (S : List Symbol) (f n : ℕ) → IsTrue (has_function S f n) → (x : Symbol) × At S f Function n x
function-at S f n h = by (slice_get S f) refl h
  where
    by : (o : Option Symbol) → slice_get S f ≡ o → IsTrue (option_map_or (λ (s : Symbol). is_function s.class && s.arity == n) o false) → (x : Symbol) × At S f Function n x
    by None e k = absurd (false≢true k)
    by (Some x) e k = let parts = and_parts (is_function x.class) (x.arity == n) k in (x, record { found = e; class = function-class x.class parts.0; arity = eqb-true x.arity n parts.1 })

pub name-at : (S : List Symbol) (p : ℕ) (c : SymbolClass) (n : ℕ) (x : Symbol) → At S p c n x → symbol_at S p ≡ text_by_class c x.name
name-at S p c n x h = ap (λ o. option_map_or (λ (s : Symbol). symbol_text s) o []) h.found ∙ ap (λ k. text_by_class k x.name) h.class

-- ---- terms inside of d quantifiers

pub args-stop : (S : List Symbol) (d : ℕ) (ts : Terms) (r : List ℕ) → Ends r → StopsAt is_word_byte (args_text S d ts ++ r)
args-stop S d no_terms r h = ends-word r h
args-stop S d (more_terms t ts) r h = refl

more-ends : (S : List Symbol) (d : ℕ) (ts : Terms) (r : List ℕ) → Ends (more_args_text S d ts ++ r)
more-ends S d no_terms r = refl
more-ends S d (more_terms t ts) r = refl

pub fun-text : (S : List Symbol) (d f n : ℕ) (x : Symbol) (r : List ℕ) (ts : Terms) → At S f Function n x → term_text S d (fun f ts) ++ r ≡ name_text x.name ++ (args_text S d ts ++ r)
fun-text S d f n x r ts h = append_assoc (symbol_at S f) (args_text S d ts) r ∙ ap (λ l. l ++ (args_text S d ts ++ r)) (name-at S f Function n x h)

pub fun-key : (S : List Symbol) (d f : ℕ) (ts : Terms) (r : List ℕ) → IsTrue (has_function S f (arity_of ts)) → key (term_text S d (fun f ts) ++ r) ≡ 0
fun-key S d f ts r h = let x = function-at S f (arity_of ts) h in ap key (fun-text S d f (arity_of ts) x.0 r ts x.1) ∙ name-key x.0.name (args_text S d ts ++ r)

same-variable : (d k m : ℕ) → k < d → m < d → d - k ≡ d - m → k ≡ m
same-variable d k m hk hm e = omega arith

variable-small : (d k : ℕ) → d ≤ 1100 → d - k < 2 ^ 64
variable-small d k h = omega arith

module _ (S : List Symbol) (dist : IsTrue (are_distinct S)) where
  mutual
    pub term-split : (d : ℕ) → d ≤ 1100 → (t u : Term) (r s : List ℕ) → IsTrue (term_fits_in S d t) → IsTrue (term_fits_in S d u) → Ends r → Ends s → term_text S d t ++ r ≡ term_text S d u ++ s → (t ≡ u) × (r ≡ s)
    term-split d b (var k) (var m) r s ht hu hr hs e =
        let n = decimal-split (d - k) (d - m) r s (variable-small d k b) (variable-small d m b) (ends-digit r hr) (ends-digit s hs) (cons-tail e) in
        (ap var (same-variable d k m (ltb-true k d ht) (ltb-true m d hu) n.0), n.1)
    term-split d b (var k) (fun g us) r s ht hu hr hs e =
        let pu = and_parts (has_function S g (arity_of us)) (terms_fit_in S d us) hu in
        absurd (differ 88 0 (ap key e ∙ fun-key S d g us s pu.0) refl)
    term-split d b (fun f ts) (var k) r s ht hu hr hs e =
        let pt = and_parts (has_function S f (arity_of ts)) (terms_fit_in S d ts) ht in
        absurd (differ 0 88 (sym (fun-key S d f ts r pt.0) ∙ ap key e) refl)
    term-split d b (fun f ts) (fun g us) r s ht hu hr hs e =
        let pt = and_parts (has_function S f (arity_of ts)) (terms_fit_in S d ts) ht in
        let pu = and_parts (has_function S g (arity_of us)) (terms_fit_in S d us) hu in
        let x = function-at S f (arity_of ts) pt.0 in
        let y = function-at S g (arity_of us) pu.0 in
        let names = name-split x.0.name y.0.name (args_text S d ts ++ r) (args_text S d us ++ s) (args-stop S d ts r hr) (args-stop S d us s hs) (sym (fun-text S d f (arity_of ts) x.0 r ts x.1) ∙ e ∙ fun-text S d g (arity_of us) y.0 s us y.1) in
        let args = args-split d b ts us r s pt.1 pu.1 hr hs names.1 in
        let place = same-place S f g Function (arity_of ts) (arity_of us) x.0 y.0 dist x.1 y.1 names.0 (ap arity_of args.0) in
        ((λ i. fun (place i) (args.0 i)), args.1)
    term-split d b (eigen n) u r s ht hu hr hs e = absurd (false≢true ht)
    term-split d b (spare n) u r s ht hu hr hs e = absurd (false≢true ht)
    term-split d b (var k) (eigen n) r s ht hu hr hs e = absurd (false≢true hu)
    term-split d b (var k) (spare n) r s ht hu hr hs e = absurd (false≢true hu)
    term-split d b (fun f ts) (eigen n) r s ht hu hr hs e = absurd (false≢true hu)
    term-split d b (fun f ts) (spare n) r s ht hu hr hs e = absurd (false≢true hu)

    pub args-split : (d : ℕ) → d ≤ 1100 → (ts us : Terms) (r s : List ℕ) → IsTrue (terms_fit_in S d ts) → IsTrue (terms_fit_in S d us) → Ends r → Ends s → args_text S d ts ++ r ≡ args_text S d us ++ s → (ts ≡ us) × (r ≡ s)
    args-split d b no_terms no_terms r s ht hu hr hs e = (refl, e)
    args-split d b no_terms (more_terms u us) r s ht hu hr hs e = absurd (ends-bracket r _ hr e)
    args-split d b (more_terms t ts) no_terms r s ht hu hr hs e = absurd (ends-bracket s _ hs (sym e))
    args-split d b (more_terms t ts) (more_terms u us) r s ht hu hr hs e =
        let pt = and_parts (term_fits_in S d t) (terms_fit_in S d ts) ht in
        let pu = and_parts (term_fits_in S d u) (terms_fit_in S d us) hu in
        let f = sym (append_assoc (term_text S d t) (more_args_text S d ts) r) ∙ cons-tail e ∙ append_assoc (term_text S d u) (more_args_text S d us) s in
        let first = term-split d b t u (more_args_text S d ts ++ r) (more_args_text S d us ++ s) pt.0 pu.0 (more-ends S d ts r) (more-ends S d us s) f in
        let rest = more-split d b ts us r s pt.1 pu.1 hr hs first.1 in
        ((λ i. more_terms (first.0 i) (rest.0 i)), rest.1)

    more-split : (d : ℕ) → d ≤ 1100 → (ts us : Terms) (r s : List ℕ) → IsTrue (terms_fit_in S d ts) → IsTrue (terms_fit_in S d us) → Ends r → Ends s → more_args_text S d ts ++ r ≡ more_args_text S d us ++ s → (ts ≡ us) × (r ≡ s)
    more-split d b no_terms no_terms r s ht hu hr hs e = (refl, cons-tail e)
    more-split d b no_terms (more_terms u us) r s ht hu hr hs e = absurd (differ 41 44 (cons-head e) refl)
    more-split d b (more_terms t ts) no_terms r s ht hu hr hs e = absurd (differ 44 41 (cons-head e) refl)
    more-split d b (more_terms t ts) (more_terms u us) r s ht hu hr hs e =
        let pt = and_parts (term_fits_in S d t) (terms_fit_in S d ts) ht in
        let pu = and_parts (term_fits_in S d u) (terms_fit_in S d us) hu in
        let f = sym (append_assoc (term_text S d t) (more_args_text S d ts) r) ∙ cons-tail e ∙ append_assoc (term_text S d u) (more_args_text S d us) s in
        let first = term-split d b t u (more_args_text S d ts ++ r) (more_args_text S d us ++ s) pt.0 pu.0 (more-ends S d ts r) (more-ends S d us s) f in
        let rest = more-split d b ts us r s pt.1 pu.1 hr hs first.1 in
        ((λ i. more_terms (first.0 i) (rest.0 i)), rest.1)
