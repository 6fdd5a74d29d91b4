-- Lists that are gone over from the front or taken off from the end.
use Rattle.std.proofs.Common.{◌≡◌, ℕ, zero, suc, ◌+◌, ◌-◌, ◌<◌, List, [], ◌∷◌, ◌++◌, Bool, true, false, ◌⊎◌, inl, inr, length, map, take, get_or, slice_get, Some, IsTrue, ◌||◌, ◌==◌, if◌then◌else◌, refl, sym, ◌∙◌, ap, subst, arith}
use Rattle.std.specs.Prelude.{reverse, not, Result, Err}
use Rattle.std.specs.List.{filter, list_any, Contains}
use Rattle.std.proofs.lemmas.Bool.{false≢true, and_parts, eqb-true, or_cases}
use Rattle.std.proofs.lemmas.List.{length-append, length-map, reverse-append, take_more}
use Rattle.plain_laws.proofs.Lists.{no-items}
use Rattle.calculus.specs.Syntax.{Symbol, Formula}
use Rattle.calculus.specs.Equality.{symbol_eq}
use Rattle.calculus.specs.Problems.{are_distinct}
use Rattle.calculus.proofs.EqualityLaws.{symbol_eq-tells}
use Rattle.tptp_reader.specs.declared.source.ChainKind.{ChainKind}
use Rattle.tptp_reader.specs.declared.source.SourceTerm as program
use Rattle.tptp_reader.specs.Lists.{terms_tree as source_terms}
use Rattle.tptp_reader.specs.Sources.{Name, SourceTerm}
use Rattle.tptp_reader.specs.TermView.{the_source_term}
use Rattle.problem_build.specs.Adding.{with_new}
use Rattle.problem_build.specs.Balance.{IsBalanced}
use Rattle.problem_build.specs.Expansion.{argument_count, chain_formula, joined_chain, place_of, number_of}
use Rattle.problem_build.proofs.AddingLaws.{with_new-known, with_new-new}
use Rattle.problem_build.proofs.BalanceLaws.{balanced-alone, balanced-some}
use Rattle.problem_build.proofs.ExpandingLaws.{last-place}

-- the last item, taken off, is the first of the reversed list
pub popped : {A : Type 0} (xs ys : List A) (x : A) → xs ≡ ys ++ x ∷ [] → reverse xs ≡ x ∷ reverse ys
popped xs ys x e = ap reverse e ∙ reverse-append ys (x ∷ [])

pub filter-first : {A : Type 0} (test : A → Bool) (x : A) (xs : List A) → filter test (x ∷ xs) ≡ filter test (x ∷ []) ++ filter test xs
filter-first test x xs = by (test x)
  where
    by : (b : Bool) → (if b then x ∷ filter test xs else filter test xs) ≡ (if b then x ∷ [] else []) ++ filter test xs
    by true = refl
    by false = refl

pub empty-is : {A : Type 0} (xs : List A) (b : Bool) → b ≡ (length xs == 0) → b ≡ true → xs ≡ []
empty-is xs b e h = no-items xs (eqb-true (length xs) 0 (sym e ∙ h))

pub some-is : {A : Type 0} (xs : List A) (b : Bool) → b ≡ (length xs == 0) → b ≡ false → 0 < length xs
some-is [] b e h = absurd (false≢true (sym h ∙ e))
some-is (x ∷ xs) b e h = omega arith

-- ---- numbers of symbols

not-false : (b : Bool) → IsTrue (not b) → b ≡ false
not-false true h = absurd (false≢true h)
not-false false h = refl

there : (xs : List Symbol) (i : ℕ) (x : Symbol) → slice_get xs i ≡ Some x → list_any (symbol_eq x) xs ≡ true
there [] i x e = absurd (cc)
there (y ∷ ys) zero x e = let same : y ≡ x = cc in ap (λ b. b || list_any (symbol_eq x) ys) ((symbol_eq-tells x y).1 (sym same))
there (y ∷ ys) (suc i) x e = later (symbol_eq x y) (there ys i x e)
  where
    later : (b : Bool) → list_any (symbol_eq x) ys ≡ true → (b || list_any (symbol_eq x) ys) ≡ true
    later true k = refl
    later false k = k

pub number-found : (symbols : List Symbol) (s : Symbol) (i : ℕ) → IsTrue (are_distinct symbols) → slice_get symbols i ≡ Some s → i ≡ number_of symbols s
number-found [] s i d e = absurd (cc)
number-found (x ∷ xs) s zero d e = let same : x ≡ s = cc in sym (ap (λ b. if b then 0 else suc (number_of xs s)) ((symbol_eq-tells s x).1 (sym same)))
number-found (x ∷ xs) s (suc i) d e =
    let p = and_parts (not (list_any (symbol_eq x) xs)) (are_distinct xs) d in
    let h : i ≡ number_of xs s = number-found xs s i p.1 e in
    by (symbol_eq s x) refl h
  where
    by : (b : Bool) → symbol_eq s x ≡ b → i ≡ number_of xs s → suc i ≡ (if b then 0 else suc (number_of xs s))
    by false q h = ap suc h
    by true q h = absurd (false≢true (sym (not-false (list_any (symbol_eq x) xs) (and_parts (not (list_any (symbol_eq x) xs)) (are_distinct xs) d).0) ∙ there xs i x (e ∙ ap Some ((symbol_eq-tells s x).0 q))))

pub number-absent : (symbols : List Symbol) (s : Symbol) → (Contains symbols s → ⊥) → length symbols ≡ number_of symbols s
number-absent [] s h = refl
number-absent (x ∷ xs) s h = by (symbol_eq s x) refl (number-absent xs s (λ c. h (suc c.0, omega (arith, c.1), c.2)))
  where
    by : (b : Bool) → symbol_eq s x ≡ b → length xs ≡ number_of xs s → suc (length xs) ≡ (if b then 0 else suc (number_of xs s))
    by false q k = ap suc k
    by true q k = absurd (h (0, omega arith, sym ((symbol_eq-tells s x).0 q)))

-- ---- symbols that are added

any-contains : (x : Symbol) (xs : List Symbol) → list_any (symbol_eq x) xs ≡ true → Contains xs x
any-contains x [] h = absurd (false≢true h)
any-contains x (y ∷ ys) h = by (or_cases (symbol_eq x y) (list_any (symbol_eq x) ys) h) (λ k. any-contains x ys k)
  where
    by : (symbol_eq x y ≡ true) ⊎ (list_any (symbol_eq x) ys ≡ true) → (list_any (symbol_eq x) ys ≡ true → Contains ys x) → Contains (y ∷ ys) x
    by (inl e) r = (0, omega arith, sym ((symbol_eq-tells x y).0 e))
    by (inr e) r = let c = r e in (suc c.0, omega (arith, c.1), c.2)

contains-any : (x : Symbol) (xs : List Symbol) (i : ℕ) → i < length xs → get_or xs i x ≡ x → list_any (symbol_eq x) xs ≡ true
contains-any x [] i h e = absurd (omega arith)
contains-any x (y ∷ ys) zero h e = ap (λ b. b || list_any (symbol_eq x) ys) ((symbol_eq-tells x y).1 (sym e))
contains-any x (y ∷ ys) (suc i) h e = later (symbol_eq x y) (contains-any x ys i (omega arith) e)
  where
    later : (b : Bool) → list_any (symbol_eq x) ys ≡ true → (b || list_any (symbol_eq x) ys) ≡ true
    later true k = refl
    later false k = k

-- a symbol that is found, or not
pub any-found : (xs : List Symbol) (i : ℕ) (x s : Symbol) → x ≡ s → slice_get xs i ≡ Some x → true ≡ list_any (symbol_eq s) xs
any-found xs i x s p e = sym (there xs i s (e ∙ ap Some p))

pub any-absent : (xs : List Symbol) (x s : Symbol) → x ≡ s → (Contains xs x → ⊥) → false ≡ list_any (symbol_eq s) xs
any-absent xs x s p h = by (list_any (symbol_eq s) xs) refl
  where
    by : (b : Bool) → list_any (symbol_eq s) xs ≡ b → false ≡ b
    by false e = refl
    by true e = absurd (h (subst (λ y. Contains xs y) (sym p) (any-contains s xs e)))

pub ruleset searched = (any-found, any-absent)

pub added-is : (known after : List Symbol) (s : Symbol) → (Contains known s → after ≡ known) → ((Contains known s → ⊥) → after ≡ known ++ s ∷ [])
    → after ≡ with_new symbol_eq known (s ∷ [])
added-is known after s old new = by (list_any (symbol_eq s) known) refl
  where
    by : (b : Bool) → list_any (symbol_eq s) known ≡ b → after ≡ with_new symbol_eq known (s ∷ [])
    by true e = old (any-contains s known e) ∙ with_new-known symbol_eq known s e
    by false e = new (λ c. false≢true (sym e ∙ contains-any s known c.0 c.1 c.2)) ∙ with_new-new symbol_eq known s e

pub new-length : (known : List Symbol) (s : Symbol) → (Contains known s → ⊥) → length (with_new symbol_eq known (s ∷ [])) ≡ suc (length known)
new-length known s h = by (list_any (symbol_eq s) known) refl
  where
    by : (b : Bool) → list_any (symbol_eq s) known ≡ b → length (with_new symbol_eq known (s ∷ [])) ≡ suc (length known)
    by true e = absurd (h (any-contains s known e))
    by false e = ap length (sym (with_new-new symbol_eq known s e)) ∙ omega (arith, length-append known (s ∷ []))

-- ---- places

pub place-found : (test : Name → Bool) (xs : List Name) (k n : ℕ) (x d : Name) → k < length xs → x ≡ get_or xs k d → test x ≡ true → n ≡ k + 1
    → length xs - n + place_of test (reverse (take n xs)) ≡ place_of test (reverse xs) → length xs - 1 - k ≡ place_of test (reverse xs)
place-found test xs k n x d h e t m i =
    let p : place_of test (reverse (take n xs)) ≡ 0 =
    ap (λ j. place_of test (reverse (take j xs))) m ∙ ap (λ ys. place_of test (reverse ys)) (take_more xs k d h ∙ ap (λ z. take k xs ++ z ∷ []) (sym e))
    ∙ last-place test (take k xs) x ∙ ap (λ b. if b then 0 else suc (place_of test (reverse (take k xs)))) t in
    sym (sym i ∙ omega arith)

pub place-passed : (test : Name → Bool) (xs : List Name) (k n : ℕ) (x d : Name) → k < length xs → x ≡ get_or xs k d → test x ≡ false → n ≡ k + 1
    → length xs - n + place_of test (reverse (take n xs)) ≡ place_of test (reverse xs) → length xs - k + place_of test (reverse (take k xs)) ≡ place_of test (reverse xs)
place-passed test xs k n x d h e t m i =
    let p : place_of test (reverse (take n xs)) ≡ suc (place_of test (reverse (take k xs))) =
    ap (λ j. place_of test (reverse (take j xs))) m ∙ ap (λ ys. place_of test (reverse ys)) (take_more xs k d h ∙ ap (λ z. take k xs ++ z ∷ []) (sym e))
    ∙ last-place test (take k xs) x ∙ ap (λ b. if b then 0 else suc (place_of test (reverse (take k xs)))) t in
    sym (sym i ∙ omega arith)

-- ---- arguments and chains

pub arguments-counted : (items : List program.SourceTerm) (ts : List SourceTerm) → map the_source_term items ≡ ts → length items ≡ argument_count (source_terms ts)
arguments-counted items ts e = sym (length-map items the_source_term) ∙ ap length e ∙ counted ts
  where
    counted : (ts : List SourceTerm) → length ts ≡ argument_count (source_terms ts)
    counted [] = refl
    counted (t ∷ ts) = ap suc (counted ts)

pub chain-joined : (c : ChainKind) (symbols : List Symbol) (fs : List Formula) (f : Formula) → IsBalanced (chain_formula c) fs f → f ≡ joined_chain c symbols fs
chain-joined c symbols [] f h = let k = balanced-some (chain_formula c) [] f h in absurd (omega arith)
chain-joined c symbols (a ∷ bs) f h = balanced-alone (chain_formula c) a f bs h

-- ---- faults

pub inner-fault : {T E : Type 0} (x y : E) → ◌≡◌ {A = Result T E} (Err x) (Err y) → x ≡ y
inner-fault x y e = cc
