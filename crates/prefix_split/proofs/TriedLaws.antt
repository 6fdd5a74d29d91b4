-- Lists of lengths that are tried.
use Rattle.std.proofs.Common.{◌≡◌, ℕ, suc, ◌+◌, ◌≤◌, List, [], ◌∷◌, drop, length, Bool, true, false, not, ◌&&◌, ◌||◌, ◌==◌, eq-eqb, le-leb, nat_le, IsTrue, refl, sym, subst, Some, slice_get, arith}
use Rattle.std.specs.List.{list_all}
use Rattle.std.proofs.lemmas.Bool.{and_from}
use Rattle.plain_laws.proofs.Places.{drop-end, drop-there}
use Rattle.calculus.specs.declared.setting.Logic.{Logic}
use Rattle.calculus.specs.Labels.{is_step_length}
use Rattle.calculus.specs.Space.{is_tried_length}
use Rattle.calculus.specs.Tableaux.{has_unbounded_strings}
use Rattle.store_theory.specs.Systems.{System, AreTried, bound_of}

pub tried-one : (l : Logic) (b n : ℕ) → is_step_length l n ≡ true → n ≤ b → is_tried_length l b n ≡ true
tried-one l b n h k = and_from (is_step_length l n) (not (has_unbounded_strings l) || nat_le n b) h (by (not (has_unbounded_strings l)))
  where
    by : (t : Bool) → (t || nat_le n b) ≡ true
    by true = refl
    by false = le-leb n b k

-- the numbers before the place i are tried
pub TriedTo : Logic → ℕ → List ℕ → ℕ → Type 0
TriedTo l b ns i = IsTrue (list_all (is_tried_length l b) (drop i ns)) → IsTrue (list_all (is_tried_length l b) ns)

pub tried-start : (l : Logic) (b : ℕ) (ns : List ℕ) → TriedTo l b ns 0
unfolding TriedTo
tried-start l b ns h = h

pub tried-next : (l : Logic) (b : ℕ) (ns : List ℕ) (i n : ℕ) → TriedTo l b ns i → slice_get ns i ≡ Some n → is_tried_length l b n ≡ true → TriedTo l b ns (i + 1)
unfolding TriedTo
tried-next l b ns i n h e t k =
    let more : i + 1 ≡ suc i = omega arith in
    let rest = subst (λ j. IsTrue (list_all (is_tried_length l b) (drop j ns))) more k in
    h (subst (λ xs. IsTrue (list_all (is_tried_length l b) xs)) (sym (drop-there ns i n e)) (and_from (is_tried_length l b n) (list_all (is_tried_length l b) (drop (suc i) ns)) t rest))

pub tried-all : (l : Logic) (y : System) (ns : List ℕ) (count i : ℕ) → length ns ≡ count → count ≡ length y.strings → TriedTo l (count + y.pis) ns i → length ns ≤ i → AreTried l y ns
unfolding TriedTo
tried-all l y ns count i long same h k =
    let whole = h (subst (λ xs. IsTrue (list_all (is_tried_length l (count + y.pis)) xs)) (sym (drop-end ns i k)) refl) in
    let bound = subst (λ c. IsTrue (list_all (is_tried_length l (c + y.pis)) ns)) same whole in
    and_from (length ns == length y.strings) (list_all (is_tried_length l (bound_of y)) ns) (eq-eqb (length ns) (length y.strings) (subst (λ c. length ns ≡ c) same long)) bound
