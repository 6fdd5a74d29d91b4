-- The set of rows: it grows by terms that it has not.
use Rattle.std.proofs.Common.{◌≡◌, ℕ, zero, suc, ◌<◌, Bool, true, false, List, [], ◌∷◌, ◌++◌, length, get_or, Some, rules, refl, sym, ◌∙◌, ap, subst, slice_get, arith, append-nil}
use Rattle.std.proofs.lemmas.Bool.{false≢true}
use Rattle.std.proofs.lemmas.Option.{get_or_from_slice_get}
use Rattle.std.specs.Cmp.Lexicographic.{pointwise_decides}
use Rattle.std.specs.List.{IsDistinct, AllByRecursion, list_any}
use Rattle.indexmap.specs.IndexSet.{insert_key}
use Rattle.calculus.specs.Syntax.{Term, spare}
use Rattle.label_table.specs.Longer.{IsLonger}
use Rattle.formula_text.specs.RowHash.{same_row}
use Rattle.formula_text.specs.Rows.{row_of}
use Rattle.formula_text.specs.declared.term_row.RowItem.{RowItem}
use Rattle.formula_text.specs.contracts.term_row.RowItemPartialEq.TheImpl.{eq-value}
use Rattle.formula_text.proofs.RowLaws.{row-same}
use Rattle.derivation_text.specs.Listing.{AreApart}

item-exact : (a b : RowItem) → eq-value.it a b ≡ true → a ≡ b
item-exact a b h = search rules

item-self : (a : RowItem) → eq-value.it a a ≡ true
item-self a = search rules

item-decides : (a b : RowItem) → (eq-value.it a b ≡ true → a ≡ b) × (a ≡ b → eq-value.it a b ≡ true)
item-decides a b = (item-exact a b, λ e. subst (λ x. eq-value.it a x ≡ true) e (item-self a))

same_row-exact : (t u : Term) → same_row t u ≡ true → t ≡ u
same_row-exact t u h = row-same t u ((pointwise_decides item-decides (row_of t) (row_of u)).0 h)

same_row-self : (t u : Term) → t ≡ u → same_row t u ≡ true
same_row-self t u e = (pointwise_decides item-decides (row_of t) (row_of u)).1 (ap row_of e)

unlike : (k : Term) (ks : List Term) (j : ℕ) → AllByRecursion (λ y. same_row k y ≡ false) ks → j < length ks → k ≡ get_or ks j (spare 0) → ⊥
unlike k [] j h lt e = absurd (omega (arith, lt))
unlike k (x ∷ ks) zero h lt e = false≢true (sym h.0 ∙ same_row-self k x e)
unlike k (x ∷ ks) (suc j) h lt e = unlike k ks j h.1 (omega (arith, lt)) e

pub keys-apart : (ks : List Term) → IsDistinct same_row ks → AreApart ks (spare 0)
unfolding IsDistinct
keys-apart [] d i j hi hj e = absurd (omega (arith, hi))
keys-apart (x ∷ ks) d zero zero hi hj e = refl
keys-apart (x ∷ ks) d zero (suc j) hi hj e = absurd (unlike x ks j d.0 (omega (arith, hj)) e)
keys-apart (x ∷ ks) d (suc i) zero hi hj e = absurd (unlike x ks i d.0 (omega (arith, hi)) (sym e))
keys-apart (x ∷ ks) d (suc i) (suc j) hi hj e = ap suc (keys-apart ks d.1 i j (omega (arith, hi)) (omega (arith, hj)) e)

pub keys-longer : (ks after : List Term) (k : Term) → after ≡ insert_key same_row ks k → IsLonger ks after
keys-longer ks after k e = by (list_any (λ y. same_row k y) ks) refl
  where
    by : (b : Bool) → b ≡ list_any (λ y. same_row k y) ks → IsLonger ks after
    by true h =
        let same : insert_key same_row ks k ≡ ks = rw (← h) refl in
        ([], e ∙ same ∙ sym (append-nil ks))
    by false h =
        let more : insert_key same_row ks k ≡ ks ++ k ∷ [] = rw (← h) refl in
        (k ∷ [], e ∙ more)

pub key-at : (after : List Term) (k stored : Term) (index : ℕ) → slice_get after index ≡ Some stored → same_row k stored ≡ true → get_or after index (spare 0) ≡ k
key-at after k stored index at same = get_or_from_slice_get after index stored (spare 0) at ∙ sym (same_row-exact k stored same)
