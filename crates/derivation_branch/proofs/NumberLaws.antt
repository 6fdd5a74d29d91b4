-- The set of rows: it grows by rows that it has not, so equal terms have one number.
use Rattle.std.proofs.Common.{◌≡◌, ℕ, zero, suc, ◌+◌, ◌-◌, ◌<◌, ◌==◌, Bool, true, false, List, [], ◌∷◌, ◌++◌, length, get_or, map, Some, rules, refl, sym, ◌∙◌, ap, subst, slice_get, arith}
use Rattle.std.proofs.lemmas.Bool.{false≢true}
use Rattle.std.proofs.lemmas.Option.{get_or_from_slice_get}
use Rattle.std.proofs.lemmas.List.{length-map, get_or-map, map-append, append-nil}
use Rattle.std.specs.Cmp.Lexicographic.{pointwise, pointwise_decides}
use Rattle.std.specs.List.{IsDistinct, AllByRecursion, list_any}
use Rattle.indexmap.specs.IndexSet.{insert_key}
use Rattle.calculus.specs.Equality.{term_eq}
use Rattle.calculus.specs.Syntax.{Term}
use Rattle.label_table.specs.Longer.{IsLonger}
use Rattle.derivation_branch.specs.RowNumbers.{AreNumbered, AreRowsApart, IsNumberOf}
use Rattle.formula_text.specs.Rows.{row_of}
use Rattle.derivation_branch.specs.TableView.{the_value}
use Rattle.derivation_branch.specs.declared.substitution.Binding.{Binding}
use Rattle.formula_text.specs.declared.term_row.RowItem.{RowItem}
use Rattle.formula_text.specs.contracts.term_row.RowItemPartialEq.TheImpl.{eq-value}
use Rattle.derivation_branch.proofs.FollowingLaws.{same-told, other-told}
use Rattle.formula_text.proofs.RowLaws.{row-same}
use Rattle.label_table.proofs.TableLaws.{longer-at, longer-size}

-- ---- rows

item-exact : (a b : RowItem) → eq-value.it a b ≡ true → a ≡ b
item-exact a b h = search rules

item-self : (a : RowItem) → eq-value.it a a ≡ true
item-self a = search rules

item-decides : (a b : RowItem) → (eq-value.it a b ≡ true → a ≡ b) × (a ≡ b → eq-value.it a b ≡ true)
item-decides a b = (item-exact a b, λ e. subst (λ x. eq-value.it a x ≡ true) e (item-self a))

abbrev row_eq : List RowItem → List RowItem → Bool
row_eq xs ys = pointwise eq-value.it xs ys

-- a key of the set shows a row, and keys are equal where their rows are
module _ {K : Type 0} (row : K → List RowItem) where
  unlike : (k : K) (ks : List K) (j : ℕ) → AllByRecursion (λ y. row_eq (row k) (row y) ≡ false) ks → j < length ks → get_or (map row ks) j [] ≡ row k → ⊥
  unlike k [] j h lt e = absurd (omega (arith, lt))
  unlike k (x ∷ ks) zero h lt e = false≢true (sym h.0 ∙ (pointwise_decides item-decides (row k) (row x)).1 (sym e))
  unlike k (x ∷ ks) (suc j) h lt e = unlike k ks j h.1 (omega (arith, lt)) e

  apart-keys : (ks : List K) → IsDistinct (λ x y. row_eq (row x) (row y)) ks → (i j : ℕ) → i < length ks → j < length ks → get_or (map row ks) i [] ≡ get_or (map row ks) j [] → i ≡ j
  unfolding IsDistinct
  apart-keys [] d i j hi hj e = absurd (omega (arith, hi))
  apart-keys (x ∷ ks) d zero zero hi hj e = refl
  apart-keys (x ∷ ks) d zero (suc j) hi hj e = absurd (unlike x ks j d.0 (omega (arith, hj)) (sym e))
  apart-keys (x ∷ ks) d (suc i) zero hi hj e = absurd (unlike x ks i d.0 (omega (arith, hi)) e)
  apart-keys (x ∷ ks) d (suc i) (suc j) hi hj e = ap suc (apart-keys ks d.1 i j (omega (arith, hi)) (omega (arith, hj)) e)

  pub rows-apart : (ks : List K) → IsDistinct (λ x y. pointwise eq-value.it (row x) (row y)) ks → AreRowsApart (map row ks)
  rows-apart ks d i j hi hj e = let n = length-map ks row in apart-keys ks d i j (omega (arith, n, hi)) (omega (arith, n, hj)) e

  pub rows-longer : (ks after : List K) (k : K) (now : List (List RowItem)) → map row ks ≡ now → after ≡ insert_key (λ x y. pointwise eq-value.it (row x) (row y)) ks k → IsLonger now (map row after)
  rows-longer ks after k now view e = by (list_any (λ y. pointwise eq-value.it (row k) (row y)) ks) refl
    where
      by : (b : Bool) → b ≡ list_any (λ y. pointwise eq-value.it (row k) (row y)) ks → IsLonger now (map row after)
      by true h =
          let same : insert_key (λ x y. pointwise eq-value.it (row x) (row y)) ks k ≡ ks = rw (← h) refl in
          ([], ap (map row) (e ∙ same) ∙ view ∙ sym (append-nil now))
      by false h =
          let more : insert_key (λ x y. pointwise eq-value.it (row x) (row y)) ks k ≡ ks ++ k ∷ [] = rw (← h) refl in
          (row k ∷ [], ap (map row) (e ∙ more) ∙ map-append row ks (k ∷ []) ∙ ap (λ l. l ++ row k ∷ []) view)

  pub row-number : (after : List K) (k stored : K) (index : ℕ) (t : Term) → row k ≡ row_of t → slice_get after index ≡ Some stored → pointwise eq-value.it (row k) (row stored) ≡ true → index < length after → IsNumberOf (map row after) (index + 1) t
  row-number after k stored index t e at same lt = record {
    first = omega arith;
    last = let n = length-map after row in omega (arith, n, lt);
    same =
        ap (λ i. get_or (map row after) i []) (omega arith) ∙ get_or-map row after index stored [] lt ∙ ap row (get_or_from_slice_get after index stored stored at)
        ∙ sym ((pointwise_decides item-decides (row k) (row stored)).0 same) ∙ e;
  }

-- ---- numbers

pub number-same : (rows : List (List RowItem)) (m n : ℕ) (t u : Term) → AreRowsApart rows → IsNumberOf rows m t → IsNumberOf rows n u → t ≡ u → m ≡ n
number-same rows m n t u apart a b e =
    let f = a.first in let l = a.last in let g = b.first in let k = b.last in
    let same : m - 1 ≡ n - 1 = apart (m - 1) (n - 1) (omega (arith, f, l)) (omega (arith, g, k)) (a.same ∙ ap row_of e ∙ sym b.same) in
    omega (arith, f, g, same)

pub numbers-told : (rows : List (List RowItem)) (m n : ℕ) (t u : Term) → AreRowsApart rows → IsNumberOf rows m t → IsNumberOf rows n u → (m == n) ≡ term_eq t u
numbers-told rows m n t u apart a b = by (m == n) refl
  where
    by : (r : Bool) → r ≡ (m == n) → (m == n) ≡ term_eq t u
    by true e = sym e ∙ same-told t u (row-same t u (sym a.same ∙ ap (λ k. get_or rows (k - 1) []) (grind arith) ∙ b.same))
    by false e = sym e ∙ other-told t u (λ h. let k = number-same rows m n t u apart a b h in grind arith)

number-longer : (rows after : List (List RowItem)) (n : ℕ) (t : Term) → IsLonger rows after → IsNumberOf rows n t → IsNumberOf after n t
number-longer rows after n t h a =
    let f = a.first in let l = a.last in
    record {
      first = a.first;
      last = let m = longer-size rows after h in omega (arith, l, m);
      same = longer-at rows after (n - 1) [] h (omega (arith, f, l)) ∙ a.same;
    }

pub numbered-longer : (rows after : List (List RowItem)) (bs : List Binding) → IsLonger rows after → AreNumbered rows bs → AreNumbered after bs
numbered-longer rows after [] h a = tt
numbered-longer rows after (b ∷ bs) h a = ((λ p. number-longer rows after b.number (the_value b.term) h (a.0 p)), numbered-longer rows after bs h a.1)

numbered-push : (rows : List (List RowItem)) (bs : List Binding) (b : Binding) → AreNumbered rows bs → (0 < b.number → IsNumberOf rows b.number (the_value b.term)) → AreNumbered rows (bs ++ b ∷ [])
numbered-push rows [] b a h = (h, tt)
numbered-push rows (x ∷ bs) b a h = (a.0, numbered-push rows bs b a.1 h)

pub numbered-put : (rows grown : List (List RowItem)) (bs after : List Binding) (b : Binding) → IsLonger rows grown → after ≡ bs ++ b ∷ [] → (0 < b.number → IsNumberOf grown b.number (the_value b.term)) → AreNumbered rows bs → AreNumbered grown after
numbered-put rows grown bs after b h e n a = subst (AreNumbered grown) (sym e) (numbered-push grown bs b (numbered-longer rows grown bs h a) n)

pub numbered-at : (rows : List (List RowItem)) (bs : List Binding) (k : ℕ) (b : Binding) → AreNumbered rows bs → k < length bs → b ≡ get_or bs k b → 0 < b.number → IsNumberOf rows b.number (the_value b.term)
numbered-at rows bs k b a lt e = subst (λ x. 0 < x.number → IsNumberOf rows x.number (the_value x.term)) (sym e) (there bs k a lt)
  where
    there : (bs : List Binding) (k : ℕ) → AreNumbered rows bs → k < length bs → 0 < (get_or bs k b).number → IsNumberOf rows (get_or bs k b).number (the_value (get_or bs k b).term)
    there [] k a lt = absurd (omega (arith, lt))
    there (x ∷ xs) zero a lt = a.0
    there (x ∷ xs) (suc k) a lt = there xs k a.1 (omega (arith, lt))
