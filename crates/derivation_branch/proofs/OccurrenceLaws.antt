-- What stands in an instance: what stood in the formula, and what stands in the term where the variable stood there.
use Rattle.std.proofs.Common.{◌≡◌, ◌≢◌, ℕ, suc, ◌-◌, Bool, true, false, ◌||◌, ◌&&◌, ◌==◌, refl, sym, ◌∙◌, ap, inl, inr, rules, arith}
use Rattle.std.proofs.lemmas.Bool.{cases_order}
use Rattle.std.specs.Ordering.{nat_cmp}
use Rattle.plain_laws.proofs.Numbers.{cmp-equal, cmp-greater, cmp-less}
use Rattle.calculus.specs.Syntax.{Term, Terms, var, fun, eigen, spare, no_terms, more_terms, Formula, atom, neg, conj, disj, imp, all, ex, box, dia}
use Rattle.calculus.specs.Substitution.{put_for, term_with, terms_with, formula_with, any_leaf, any_leaf_of, any_leaf_in}
use Rattle.derivation_branch.specs.Occurring.{is_variable, binds_at}

-- ---- truth values

nothing_more : (a b : Bool) → a ≡ (a || (false && b))
nothing_more true b = refl
nothing_more false b = refl

both_more : (a b c e t : Bool) → ((a || (b && t)) || (c || (e && t))) ≡ ((a || c) || ((b || e) && t))
both_more true b c e t = refl
both_more false true true e true = refl
both_more false true true e false = refl
both_more false true false e true = refl
both_more false true false true false = refl
both_more false true false false false = refl
both_more false false true e t = refl
both_more false false false e t = refl

-- ---- variables

equal-same : (k d : ℕ) → k ≡ d → (k == d) ≡ true
equal-same k d e = search rules

pub equal-apart : (k d : ℕ) → k ≢ d → (k == d) ≡ false
equal-apart k d h = search rules

-- a test that no variable passes
abbrev pub IsOfNames : (Term → Bool) → Type 0
IsOfNames test = (k : ℕ) → test (var k) ≡ false

leaf-other : (test : Term → Bool) (t : Term) (d k m : ℕ) → IsOfNames test → (k == d) ≡ false → test (var m) ≡ (test (var k) || ((k == d) && any_leaf test t))
leaf-other test t d k m of e = of m ∙ (λ i. sym (of k) i || (sym e i && any_leaf test t))

leaf-variable : (test : Term → Bool) (t : Term) (d k : ℕ) → IsOfNames test → any_leaf test (put_for t k (nat_cmp k d)) ≡ (test (var k) || ((k == d) && any_leaf test t))
leaf-variable test t d k of = elim (cases_order k d) [
  | inl same ↦ ap (λ o. any_leaf test (put_for t k o)) (cmp-equal k d same) ∙ (λ i. sym (of k) i || (sym (equal-same k d same) i && any_leaf test t))
  | inr apart ↦ elim apart [
    | inl less ↦ ap (λ o. any_leaf test (put_for t k o)) (cmp-less k d less) ∙ leaf-other test t d k k of (equal-apart k d (λ e. omega (arith, e, less)))
    | inr more ↦ ap (λ o. any_leaf test (put_for t k o)) (cmp-greater k d more) ∙ leaf-other test t d k (k - 1) of (equal-apart k d (λ e. omega (arith, e, more)))
  ]
]

mutual
  leaf-term : (test : Term → Bool) (t : Term) (d : ℕ) (u : Term) → IsOfNames test → any_leaf test (term_with t d u) ≡ (any_leaf test u || (any_leaf (is_variable d) u && any_leaf test t))
  leaf-term test t d (var k) of = leaf-variable test t d k of
  leaf-term test t d (fun f us) of = leaf-terms test t d us of
  leaf-term test t d (eigen n) of = nothing_more (test (eigen n)) (any_leaf test t)
  leaf-term test t d (spare n) of = nothing_more (test (spare n)) (any_leaf test t)

  leaf-terms : (test : Term → Bool) (t : Term) (d : ℕ) (us : Terms) → IsOfNames test → any_leaf_of test (terms_with t d us) ≡ (any_leaf_of test us || (any_leaf_of (is_variable d) us && any_leaf test t))
  leaf-terms test t d no_terms of = refl
  leaf-terms test t d (more_terms u us) of =
      (λ i. leaf-term test t d u of i || leaf-terms test t d us of i)
      ∙ both_more (any_leaf test u) (any_leaf (is_variable d) u) (any_leaf_of test us) (any_leaf_of (is_variable d) us) (any_leaf test t)

pub leaf-put : (test : Term → Bool) (t : Term) (d : ℕ) (f : Formula) → IsOfNames test → any_leaf_in test (formula_with t d f) ≡ (any_leaf_in test f || (binds_at d f && any_leaf test t))
leaf-put test t d (atom p us) of = leaf-terms test t d us of
leaf-put test t d (neg a) of = leaf-put test t d a of
leaf-put test t d (conj a b) of = (λ i. leaf-put test t d a of i || leaf-put test t d b of i) ∙ both_more (any_leaf_in test a) (binds_at d a) (any_leaf_in test b) (binds_at d b) (any_leaf test t)
leaf-put test t d (disj a b) of = (λ i. leaf-put test t d a of i || leaf-put test t d b of i) ∙ both_more (any_leaf_in test a) (binds_at d a) (any_leaf_in test b) (binds_at d b) (any_leaf test t)
leaf-put test t d (imp a b) of = (λ i. leaf-put test t d a of i || leaf-put test t d b of i) ∙ both_more (any_leaf_in test a) (binds_at d a) (any_leaf_in test b) (binds_at d b) (any_leaf test t)
leaf-put test t d (all a) of = leaf-put test t (suc d) a of
leaf-put test t d (ex a) of = leaf-put test t (suc d) a of
leaf-put test t d (box a) of = leaf-put test t d a of
leaf-put test t d (dia a) of = leaf-put test t d a of
