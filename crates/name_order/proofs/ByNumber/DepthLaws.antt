-- The depths of the lists of a table, from the first one on.
use Rattle.std.specs.Prelude.{◌≡◌, ℕ, suc, ◌<◌, ◌≤◌, max, List, [], ◌∷◌, length, refl}
use Rattle.std.specs.List.{AllByRecursion}
use Rattle.std.proofs.Common.{ap, sym, subst, ◌∙◌, arith, get_or, zero}
use Rattle.std.proofs.Math.Logic.{◌⊎◌, inl, inr}
use Rattle.std.proofs.lemmas.Bool.{cases_lt}
use Rattle.std.proofs.lemmas.List.{get_or_past}
use Rattle.calculus.specs.Ground.{marks_tree, values_tree}
use Rattle.calculus.specs.Lists.{g_terms_tree}
use Rattle.conversion_theory.specs.Depths.{terms_depth, marks_depth, values_depth}
use Rattle.formula_core.specs.GroundLists.{GroundList, of_terms, of_marks, of_values, list_at, no_list, terms_in, marks_in, values_in, the_terms, the_marks, the_values, AreNormalTerms, AreNormalMarks, AreNormalValues, IsLower}
use Rattle.formula_core.specs.declared.ground.GroundTerms.{GroundTerms}
use Rattle.formula_core.specs.declared.ground.GroundLabel.{GroundLabel}
use Rattle.formula_core.specs.declared.ground.Values.{Values}
use Rattle.name_order.specs.ByNumber.Depths.{KnowsDepths, known_depth, list_depth}

-- a list that is not empty is of one kind
terms-filled : (l : GroundList) → (terms_in l ≡ [] → ⊥) → list_depth l ≡ terms_depth (g_terms_tree (terms_in l))
terms-filled (of_terms ts) h = refl
terms-filled (of_marks ms) h = absurd (h refl)
terms-filled (of_values vs) h = absurd (h refl)

marks-filled : (l : GroundList) → (marks_in l ≡ [] → ⊥) → list_depth l ≡ marks_depth (marks_tree (marks_in l))
marks-filled (of_terms ts) h = absurd (h refl)
marks-filled (of_marks ms) h = refl
marks-filled (of_values vs) h = absurd (h refl)

values-filled : (l : GroundList) → (values_in l ≡ [] → ⊥) → list_depth l ≡ values_depth (values_tree (values_in l))
values-filled (of_terms ts) h = absurd (h refl)
values-filled (of_marks ms) h = absurd (h refl)
values-filled (of_values vs) h = refl

-- what is known at the number of a list that stands before those that are not known is its depth
part-told : {A : Type 0} (part : GroundList → List A) (depth : List A → ℕ) → depth [] ≡ 0 → ((l : GroundList) → (part l ≡ [] → ⊥) → list_depth l ≡ depth (part l)) → (ls : List GroundList) (told : List ℕ) → KnowsDepths ls told → (k : ℕ) → (part (list_at ls k) ≡ [] → k ≡ no_list) → (length told ≤ k → part (list_at ls k) ≡ []) → known_depth told k ≡ depth (part (list_at ls k))
part-told part depth none filled ls told knows k normal lower = by (cases_lt k (length told))
  where
    few : length told ≤ no_list
    few = knows.few

    by : (k < length told) ⊎ (length told ≤ k) → known_depth told k ≡ depth (part (list_at ls k))
    by (inl h) = knows.known k h ∙ filled (list_at ls k) (λ e. (let last = normal e in absurd (omega (arith, last, few, h))))
    by (inr h) = get_or_past told k 0 h ∙ sym none ∙ ap depth (sym (lower h))

pub terms-told : (ls : List GroundList) (told : List ℕ) (n : GroundTerms) → KnowsDepths ls told → AreNormalTerms ls n → IsLower (the_terms ls n) n.0 (length told) → known_depth told n.0 ≡ terms_depth (g_terms_tree (the_terms ls n))
terms-told ls told n knows normal lower = part-told terms_in (λ ts. terms_depth (g_terms_tree ts)) refl terms-filled ls told knows n.0 normal lower

pub marks-told : (ls : List GroundList) (told : List ℕ) (n : GroundLabel) → KnowsDepths ls told → AreNormalMarks ls n → IsLower (the_marks ls n) n.0 (length told) → known_depth told n.0 ≡ marks_depth (marks_tree (the_marks ls n))
marks-told ls told n knows normal lower = part-told marks_in (λ ms. marks_depth (marks_tree ms)) refl marks-filled ls told knows n.0 normal lower

pub values-told : (ls : List GroundList) (told : List ℕ) (n : Values) → KnowsDepths ls told → AreNormalValues ls n → IsLower (the_values ls n) n.0 (length told) → known_depth told n.0 ≡ values_depth (values_tree (the_values ls n))
values-told ls told n knows normal lower = part-told values_in (λ vs. values_depth (values_tree vs)) refl values-filled ls told knows n.0 normal lower

pub ruleset told = (terms-told, marks-told, values-told)

-- a list is as deep as what it has of each kind
pub of-each : (l : GroundList) → max (max (terms_depth (g_terms_tree (terms_in l))) (marks_depth (marks_tree (marks_in l)))) (values_depth (values_tree (values_in l))) ≡ list_depth l
of-each (of_terms ts) = omega arith
of-each (of_marks ms) = omega arith
of-each (of_values vs) = omega arith

pub ruleset kinds = (of-each)

-- ---- items

pub all-item : {X : Type 0} (Q : X → Type 0) (xs : List X) (k : ℕ) (x d : X) → AllByRecursion Q xs → k < length xs → x ≡ get_or xs k d → Q x
all-item Q [] k x d h lt e = absurd (omega (arith, lt))
all-item Q (y ∷ xs) zero x d h lt e = subst Q (sym e) h.0
all-item Q (y ∷ xs) (suc k) x d h lt e = all-item Q xs k x d h.1 (omega (arith, lt)) e
