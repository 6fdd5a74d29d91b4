-- Truth of formulas with eigenvariables and spare constants, which are given elements: what it depends on, and what putting a term for
-- a variable means.
use Rattle.std.proofs.Common.{◌≡◌, ℕ, suc, ◌-◌, List, [], ◌∷◌, ◌++◌, length, Bool, true, false, not, ◌&&◌, ◌||◌, refl, sym, ◌∙◌, ap, subst, inl, inr, arith, get_or}
use Rattle.std.specs.Ordering.{nat_cmp}
use Rattle.std.specs.Cmp.{nat_cmp_is}
use Rattle.std.specs.declared.cmp.Ordering.TheVariants.{Less, Equal, Greater}
use Rattle.std.proofs.lemmas.Bool.{false≢true, and_parts, or_parts, cases_order}
use Rattle.std.proofs.lemmas.List.{get_or_append_left, get_or_at, get_or-append_right}
use Rattle.calculus.specs.declared.setting.Logic.{Logic}
use Rattle.calculus.specs.declared.setting.Logic.TheVariants.{Intuitionistic}
use Rattle.calculus.specs.Syntax.{arity_of, Symbol, Term, Terms, var, fun, eigen, spare, no_terms, more_terms, Formula, atom, neg, conj, disj, imp, all, ex, box, dia, Problem}
use Rattle.calculus.specs.Skolem.{has_function}
use Rattle.calculus.specs.Problems.{is_modal, has_predicate, term_fits_in, terms_fit_in, formula_fits}
use Rattle.calculus.specs.Substitution.{put_for, term_with, terms_with, formula_with, instance, any_leaf, any_leaf_of, any_leaf_in}
use Rattle.calculus.specs.DerivationText.{term_is_written, terms_are_written}
use Rattle.calculus.specs.Models.{Model, IsWorld, IsIn, AllIn, value_by, values_by, ForAll, ForSome, FromHere, EachElement, HasTruth, IsModel}

-- ---- a truth value is told by what it says

pub for_all-same : {A : Type 0} (kind p q : A → Bool) → ((x : A) → p x ≡ q x) → (b c : Bool) → ForAll kind p b → ForAll kind q c → b ≡ c
for_all-same kind p q e true true h g = refl
for_all-same kind p q e false false h g = refl
for_all-same kind p q e true false h g = absurd (false≢true (sym g.2 ∙ sym (e g.0) ∙ h g.0 g.1))
for_all-same kind p q e false true h g = absurd (false≢true (sym h.2 ∙ e h.0 ∙ g h.0 h.1))

for_some-same : {A : Type 0} (kind p q : A → Bool) → ((x : A) → p x ≡ q x) → (b c : Bool) → ForSome kind p b → ForSome kind q c → b ≡ c
for_some-same kind p q e true true h g = refl
for_some-same kind p q e false false h g = refl
for_some-same kind p q e true false h g = absurd (false≢true (sym (g h.0 h.1) ∙ sym (e h.0) ∙ h.2))
for_some-same kind p q e false true h g = absurd (false≢true (sym (h g.0 g.1) ∙ e g.0 ∙ g.2))

from_here-same : {W E : Type 0} (l : Logic) (S : Model W E) (w : W) (p q : W → Bool) → ((v : W) → p v ≡ q v) → (b c : Bool) → FromHere l S w p b → FromHere l S w q c → b ≡ c
from_here-same Intuitionistic S w p q e b c h g = for_all-same (S.reaches w) p q e b c h g
from_here-same _ S w p q e b c h g = h ∙ e w ∙ sym g

each_element-same : {W E : Type 0} (l : Logic) (S : Model W E) (w : W) (p q : W → E → Bool) → ((v : W) (x : E) → p v x ≡ q v x) → (b c : Bool) → EachElement l S w p b → EachElement l S w q c → b ≡ c
each_element-same {W} {E} Intuitionistic S w p q e b c h g = for_all-same {A = W × E} (λ x. S.reaches w x.0 && S.is_in x.0 x.1) (λ x. p x.0 x.1) (λ x. q x.0 x.1) (λ x. e x.0 x.1) b c h g
each_element-same _ S w p q e b c h g = for_all-same (S.is_in w) (p w) (q w) (e w) b c h g

-- ---- truth depends on the names that occur alone: those that a test finds may change

abbrev pub is_name : Term → Bool
is_name (eigen n) = true
is_name (spare n) = true
is_name _ = false

abbrev pub AgreeBut : {E : Type 0} → (Term → Bool) → (Term → E) → (Term → E) → Type 0
AgreeBut test names others = (t : Term) → is_name t ≡ true → test t ≡ false → names t ≡ others t

mutual
  value-same : {W E : Type 0} (S : Model W E) (test : Term → Bool) (names others : Term → E) → AgreeBut test names others → (env : List E) (t : Term) → any_leaf test t ≡ false → value_by S names env t ≡ value_by S others env t
  value-same S test names others agree env (var k) h = refl
  value-same S test names others agree env (fun f ts) h = ap (S.value f) (values-same S test names others agree env ts h)
  value-same S test names others agree env (eigen n) h = agree (eigen n) refl h
  value-same S test names others agree env (spare n) h = agree (spare n) refl h

  values-same : {W E : Type 0} (S : Model W E) (test : Term → Bool) (names others : Term → E) → AgreeBut test names others → (env : List E) (ts : Terms) → any_leaf_of test ts ≡ false → values_by S names env ts ≡ values_by S others env ts
  values-same S test names others agree env no_terms h = refl
  values-same S test names others agree env (more_terms t ts) h =
      let parts = or_parts (any_leaf test t) (any_leaf_of test ts) h in
      λ i. value-same S test names others agree env t parts.0 i ∷ values-same S test names others agree env ts parts.1 i

module _ {W E : Type 0} (l : Logic) (S : Model W E) (tells : HasTruth l S) where
  pub truth-same : (test : Term → Bool) (names others : Term → E) → AgreeBut test names others → (a : Formula) → any_leaf_in test a ≡ false → (env : List E) (w : W) → S.truth names a env w ≡ S.truth others a env w
  truth-same test names others agree (atom p ts) h env w =
      let e = values-same S test names others agree env ts h in
      from_here-same l S w (λ v. S.holds p v (values_by S names env ts)) (λ v. S.holds p v (values_by S others env ts)) (λ v. ap (S.holds p v) e) _ _ (tells names (atom p ts) env w) (tells others (atom p ts) env w)
  truth-same test names others agree (neg a) h env w = from_here-same l S w (λ v. not (S.truth names a env v)) (λ v. not (S.truth others a env v)) (λ v. ap not (truth-same test names others agree a h env v)) _ _ (tells names (neg a) env w) (tells others (neg a) env w)
  truth-same test names others agree (conj a b) h env w =
      let parts = or_parts (any_leaf_in test a) (any_leaf_in test b) h in
      tells names (conj a b) env w ∙ (λ i. truth-same test names others agree a parts.0 env w i && truth-same test names others agree b parts.1 env w i) ∙ sym (tells others (conj a b) env w)
  truth-same test names others agree (disj a b) h env w =
      let parts = or_parts (any_leaf_in test a) (any_leaf_in test b) h in
      tells names (disj a b) env w ∙ (λ i. truth-same test names others agree a parts.0 env w i || truth-same test names others agree b parts.1 env w i) ∙ sym (tells others (disj a b) env w)
  truth-same test names others agree (imp a b) h env w =
      let parts = or_parts (any_leaf_in test a) (any_leaf_in test b) h in
      from_here-same l S w (λ v. not (S.truth names a env v) || S.truth names b env v) (λ v. not (S.truth others a env v) || S.truth others b env v) (λ v i. not (truth-same test names others agree a parts.0 env v i) || truth-same test names others agree b parts.1 env v i) _ _ (tells names (imp a b) env w) (tells others (imp a b) env w)
  truth-same test names others agree (all a) h env w = each_element-same l S w (λ v x. S.truth names a (x ∷ env) v) (λ v x. S.truth others a (x ∷ env) v) (λ v x. truth-same test names others agree a h (x ∷ env) v) _ _ (tells names (all a) env w) (tells others (all a) env w)
  truth-same test names others agree (ex a) h env w = for_some-same (S.is_in w) (λ x. S.truth names a (x ∷ env) w) (λ x. S.truth others a (x ∷ env) w) (λ x. truth-same test names others agree a h (x ∷ env) w) _ _ (tells names (ex a) env w) (tells others (ex a) env w)
  truth-same test names others agree (box a) h env w = for_all-same (S.reaches w) (λ v. S.truth names a env v) (λ v. S.truth others a env v) (λ v. truth-same test names others agree a h env v) _ _ (tells names (box a) env w) (tells others (box a) env w)
  truth-same test names others agree (dia a) h env w = for_some-same (S.reaches w) (λ v. S.truth names a env v) (λ v. S.truth others a env v) (λ v. truth-same test names others agree a h env v) _ _ (tells names (dia a) env w) (tells others (dia a) env w)

-- a formula of a problem has no names

mutual
  unnamed : (symbols : List Symbol) (d : ℕ) (t : Term) → term_fits_in symbols d t ≡ true → any_leaf is_name t ≡ false
  unnamed symbols d (var k) h = refl
  unnamed symbols d (fun f ts) h = all-unnamed symbols d ts (and_parts (has_function symbols f (arity_of ts)) (terms_fit_in symbols d ts) h).1
  unnamed symbols d (eigen n) h = absurd (false≢true h)
  unnamed symbols d (spare n) h = absurd (false≢true h)

  all-unnamed : (symbols : List Symbol) (d : ℕ) (ts : Terms) → terms_fit_in symbols d ts ≡ true → any_leaf_of is_name ts ≡ false
  all-unnamed symbols d no_terms h = refl
  all-unnamed symbols d (more_terms t ts) h =
      let parts = and_parts (term_fits_in symbols d t) (terms_fit_in symbols d ts) h in
      rw (unnamed symbols d t parts.0) (all-unnamed symbols d ts parts.1)

pub formula-unnamed : (l : Logic) (symbols : List Symbol) (d : ℕ) (a : Formula) → formula_fits l symbols d a ≡ true → any_leaf_in is_name a ≡ false
formula-unnamed l symbols d (atom p ts) h = all-unnamed symbols d ts (and_parts (has_predicate symbols p (arity_of ts)) (terms_fit_in symbols d ts) h).1
formula-unnamed l symbols d (neg a) h = formula-unnamed l symbols d a h
formula-unnamed l symbols d (conj a b) h =
    let parts = and_parts (formula_fits l symbols d a) (formula_fits l symbols d b) h in
    rw (formula-unnamed l symbols d a parts.0) (formula-unnamed l symbols d b parts.1)
formula-unnamed l symbols d (disj a b) h =
    let parts = and_parts (formula_fits l symbols d a) (formula_fits l symbols d b) h in
    rw (formula-unnamed l symbols d a parts.0) (formula-unnamed l symbols d b parts.1)
formula-unnamed l symbols d (imp a b) h =
    let parts = and_parts (formula_fits l symbols d a) (formula_fits l symbols d b) h in
    rw (formula-unnamed l symbols d a parts.0) (formula-unnamed l symbols d b parts.1)
formula-unnamed l symbols d (all a) h = formula-unnamed l symbols (suc d) a h
formula-unnamed l symbols d (ex a) h = formula-unnamed l symbols (suc d) a h
formula-unnamed l symbols d (box a) h = formula-unnamed l symbols d a (and_parts (is_modal l) (formula_fits l symbols d a) h).1
formula-unnamed l symbols d (dia a) h = formula-unnamed l symbols d a (and_parts (is_modal l) (formula_fits l symbols d a) h).1

-- so its truth does not depend on them
pub truth-unnamed : {W E : Type 0} (l : Logic) (S : Model W E) → HasTruth l S → (names others : Term → E) (symbols : List Symbol) (a : Formula) → formula_fits l symbols 0 a ≡ true → (w : W) → S.truth names a [] w ≡ S.truth others a [] w
truth-unnamed l S tells names others symbols a fits w = truth-same l S tells is_name names others (λ t named apart. absurd (false≢true (sym apart ∙ named))) a (formula-unnamed l symbols 0 a fits) [] w

-- ---- putting a term for a variable

-- the term has this value whatever the variables are
abbrev pub HasValue : {W E : Type 0} → Model W E → (Term → E) → Term → E → Type 0
HasValue {W} {E} S names t e = (env : List E) → value_by S names env t ≡ e

put-value : {W E : Type 0} (S : Model W E) (names : Term → E) (t : Term) (e : E) → HasValue S names t e → (xs ys : List E) (k : ℕ) → value_by S names (xs ++ ys) (put_for t k (nat_cmp k (length xs))) ≡ get_or (xs ++ e ∷ ys) k S.element
put-value S names t e h xs ys k = elim (cases_order k (length xs)) [
  | inl same ↦
      let order = nat_cmp_is k (length xs) Equal same in
      rw (← order) (h (xs ++ ys) ∙ sym (get_or_at xs e ys S.element k (sym same)))
  | inr apart ↦ elim apart [
    | inl less ↦
        let order = nat_cmp_is k (length xs) Less less in
        rw (← order) (get_or_append_left xs ys S.element k less ∙ sym (get_or_append_left xs (e ∷ ys) S.element k less))
    | inr more ↦
        let order = nat_cmp_is k (length xs) Greater more in
        let before : suc (k - 1 - length xs) ≡ k - length xs = omega arith in
        rw (← order) (get_or-append_right xs ys (length xs) (k - 1) S.element refl (omega arith) ∙ ap (λ n. get_or (e ∷ ys) n S.element) before ∙ sym (get_or-append_right xs (e ∷ ys) (length xs) k S.element refl (omega arith)))
  ]
]

mutual
  value-with : {W E : Type 0} (S : Model W E) (names : Term → E) (t : Term) (e : E) → HasValue S names t e → (xs ys : List E) (u : Term) → value_by S names (xs ++ ys) (term_with t (length xs) u) ≡ value_by S names (xs ++ e ∷ ys) u
  value-with S names t e h xs ys (var k) = put-value S names t e h xs ys k
  value-with S names t e h xs ys (fun f us) = ap (S.value f) (values-with S names t e h xs ys us)
  value-with S names t e h xs ys (eigen n) = refl
  value-with S names t e h xs ys (spare n) = refl

  values-with : {W E : Type 0} (S : Model W E) (names : Term → E) (t : Term) (e : E) → HasValue S names t e → (xs ys : List E) (us : Terms) → values_by S names (xs ++ ys) (terms_with t (length xs) us) ≡ values_by S names (xs ++ e ∷ ys) us
  values-with S names t e h xs ys no_terms = refl
  values-with S names t e h xs ys (more_terms u us) = λ i. value-with S names t e h xs ys u i ∷ values-with S names t e h xs ys us i

module _ {W E : Type 0} (l : Logic) (S : Model W E) (tells : HasTruth l S) (names : Term → E) (t : Term) (e : E) (has : HasValue S names t e) where
  truth-with : (a : Formula) (xs ys : List E) (w : W) → S.truth names (formula_with t (length xs) a) (xs ++ ys) w ≡ S.truth names a (xs ++ e ∷ ys) w
  truth-with (atom p us) xs ys w =
      let same = values-with S names t e has xs ys us in
      from_here-same l S w (λ v. S.holds p v (values_by S names (xs ++ ys) (terms_with t (length xs) us))) (λ v. S.holds p v (values_by S names (xs ++ e ∷ ys) us)) (λ v. ap (S.holds p v) same) _ _ (tells names (atom p (terms_with t (length xs) us)) (xs ++ ys) w) (tells names (atom p us) (xs ++ e ∷ ys) w)
  truth-with (neg a) xs ys w =
      let put = formula_with t (length xs) a in
      from_here-same l S w (λ v. not (S.truth names put (xs ++ ys) v)) (λ v. not (S.truth names a (xs ++ e ∷ ys) v)) (λ v. ap not (truth-with a xs ys v)) _ _ (tells names (neg put) (xs ++ ys) w) (tells names (neg a) (xs ++ e ∷ ys) w)
  truth-with (conj a b) xs ys w = tells names (conj (formula_with t (length xs) a) (formula_with t (length xs) b)) (xs ++ ys) w ∙ (λ i. truth-with a xs ys w i && truth-with b xs ys w i) ∙ sym (tells names (conj a b) (xs ++ e ∷ ys) w)
  truth-with (disj a b) xs ys w = tells names (disj (formula_with t (length xs) a) (formula_with t (length xs) b)) (xs ++ ys) w ∙ (λ i. truth-with a xs ys w i || truth-with b xs ys w i) ∙ sym (tells names (disj a b) (xs ++ e ∷ ys) w)
  truth-with (imp a b) xs ys w =
      let first = formula_with t (length xs) a in
      let second = formula_with t (length xs) b in
      from_here-same l S w (λ v. not (S.truth names first (xs ++ ys) v) || S.truth names second (xs ++ ys) v) (λ v. not (S.truth names a (xs ++ e ∷ ys) v) || S.truth names b (xs ++ e ∷ ys) v) (λ v i. not (truth-with a xs ys v i) || truth-with b xs ys v i) _ _ (tells names (imp first second) (xs ++ ys) w) (tells names (imp a b) (xs ++ e ∷ ys) w)
  truth-with (all a) xs ys w =
      let put = formula_with t (suc (length xs)) a in
      each_element-same l S w (λ v x. S.truth names put (x ∷ xs ++ ys) v) (λ v x. S.truth names a (x ∷ xs ++ e ∷ ys) v) (λ v x. truth-with a (x ∷ xs) ys v) _ _ (tells names (all put) (xs ++ ys) w) (tells names (all a) (xs ++ e ∷ ys) w)
  truth-with (ex a) xs ys w =
      let put = formula_with t (suc (length xs)) a in
      for_some-same (S.is_in w) (λ x. S.truth names put (x ∷ xs ++ ys) w) (λ x. S.truth names a (x ∷ xs ++ e ∷ ys) w) (λ x. truth-with a (x ∷ xs) ys w) _ _ (tells names (ex put) (xs ++ ys) w) (tells names (ex a) (xs ++ e ∷ ys) w)
  truth-with (box a) xs ys w =
      let put = formula_with t (length xs) a in
      for_all-same (S.reaches w) (λ v. S.truth names put (xs ++ ys) v) (λ v. S.truth names a (xs ++ e ∷ ys) v) (λ v. truth-with a xs ys v) _ _ (tells names (box put) (xs ++ ys) w) (tells names (box a) (xs ++ e ∷ ys) w)
  truth-with (dia a) xs ys w =
      let put = formula_with t (length xs) a in
      for_some-same (S.reaches w) (λ v. S.truth names put (xs ++ ys) v) (λ v. S.truth names a (xs ++ e ∷ ys) v) (λ v. truth-with a xs ys v) _ _ (tells names (dia put) (xs ++ ys) w) (tells names (dia a) (xs ++ e ∷ ys) w)

  -- truth of an instance is truth with the term's value
  pub truth-instance : (a : Formula) (w : W) → S.truth names (instance t a) [] w ≡ S.truth names a (e ∷ []) w
  truth-instance a w = truth-with a [] [] w

-- ---- terms without variables

mutual
  written-value : {W E : Type 0} (S : Model W E) (names : Term → E) (symbols : List Symbol) (t : Term) → term_is_written symbols t ≡ true → (env : List E) → value_by S names env t ≡ value_by S names [] t
  written-value S names symbols (var k) h env = absurd (false≢true h)
  written-value S names symbols (fun f ts) h env = ap (S.value f) (written-values S names symbols ts (and_parts (has_function symbols f (arity_of ts)) (terms_are_written symbols ts) h).1 env)
  written-value S names symbols (eigen n) h env = refl
  written-value S names symbols (spare n) h env = refl

  written-values : {W E : Type 0} (S : Model W E) (names : Term → E) (symbols : List Symbol) (ts : Terms) → terms_are_written symbols ts ≡ true → (env : List E) → values_by S names env ts ≡ values_by S names [] ts
  written-values S names symbols no_terms h env = refl
  written-values S names symbols (more_terms t ts) h env =
      let parts = and_parts (term_is_written symbols t) (terms_are_written symbols ts) h in
      λ i. written-value S names symbols t parts.0 env i ∷ written-values S names symbols ts parts.1 env i

pub written-has : {W E : Type 0} (S : Model W E) (names : Term → E) (symbols : List Symbol) (t : Term) → term_is_written symbols t ≡ true → HasValue S names t (value_by S names [] t)
written-has S names symbols t h = written-value S names symbols t h

values-length : {W E : Type 0} (S : Model W E) (names : Term → E) (env : List E) (ts : Terms) → length (values_by S names env ts) ≡ arity_of ts
values-length S names env no_terms = refl
values-length S names env (more_terms t ts) = ap suc (values-length S names env ts)

-- the names that the test passes have elements in the domain
pub record NamesIn {W E : Type 0} (S : Model W E) (w : W) (test : Term → Bool) (names : Term → E) : Type 0 where
  pub eigens : (n : ℕ) → test (eigen n) ≡ false → IsIn S w (names (eigen n))
  pub spares : (n : ℕ) → test (spare n) ≡ false → IsIn S w (names (spare n))

-- so has each term of them
mutual
  pub term-in : {W E : Type 0} (P : Problem) (S : Model W E) → IsModel P S → (w : W) → IsWorld S w → (test : Term → Bool) (names : Term → E) → NamesIn S w test names → (t : Term) → term_is_written P.symbols t ≡ true → any_leaf test t ≡ false → IsIn S w (value_by S names [] t)
  term-in P S c w world test names good (var k) h e = absurd (false≢true h)
  term-in P S c w world test names good (fun f ts) h e =
      let parts = and_parts (has_function P.symbols f (arity_of ts)) (terms_are_written P.symbols ts) h in
      let sized : has_function P.symbols f (length (values_by S names [] ts)) ≡ true = subst (λ n. has_function P.symbols f n ≡ true) (sym (values-length S names [] ts)) parts.0 in
      c.functions f (values_by S names [] ts) sized w world (terms-in P S c w world test names good ts parts.1 e)
  term-in P S c w world test names good (eigen n) h e = good.eigens n e
  term-in P S c w world test names good (spare n) h e = good.spares n e

  pub terms-in : {W E : Type 0} (P : Problem) (S : Model W E) → IsModel P S → (w : W) → IsWorld S w → (test : Term → Bool) (names : Term → E) → NamesIn S w test names → (ts : Terms) → terms_are_written P.symbols ts ≡ true → any_leaf_of test ts ≡ false → AllIn S w (values_by S names [] ts)
  terms-in P S c w world test names good no_terms h e = tt
  terms-in P S c w world test names good (more_terms t ts) h e =
      let parts = and_parts (term_is_written P.symbols t) (terms_are_written P.symbols ts) h in
      let apart = or_parts (any_leaf test t) (any_leaf_of test ts) e in
      (term-in P S c w world test names good t parts.0 apart.0, terms-in P S c w world test names good ts parts.1 apart.1)
