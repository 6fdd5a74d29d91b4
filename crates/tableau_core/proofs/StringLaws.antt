-- Strings as nu steps, by their lengths alone.
use Rattle.std.proofs.Common.{◌≡◌, ℕ, ◌+◌, List, [], ◌∷◌, ◌++◌, length, true, false, ◌==◌, nat_le, Some, None, refl, sym}
use Rattle.std.proofs.lemmas.List.{length-append}
use Rattle.std.proofs.lemmas.Bool.Decides.{nat_tests}
use Rattle.std.proofs.Common.{arith}
use Rattle.calculus.specs.declared.setting.Logic.{Logic}
use Rattle.calculus.specs.declared.setting.Logic.TheVariants.{Classical, Intuitionistic, D, T as LogicT, S4, S5}
use Rattle.calculus.specs.Equality.{list_eq, mark_eq}
use Rattle.calculus.specs.Ground.{GroundMark, Value, steps, marks_tree}
use Rattle.calculus.specs.Labels.{is_prefix, steps_to, nu_label}
use Rattle.calculus.specs.Lists.{marks_list-marks_tree}
use Rattle.calculus.proofs.EqualityLaws.{mark_eq-tells}
use Rattle.calculus.specs.Labels.{is_step_length}
use Rattle.tableau_core.specs.Fitting.{past_string}

pub string-past : (l : Logic) (all rest : List Value) (s : List GroundMark) (n : ℕ) → all ≡ steps (marks_tree s) ∷ rest → n ≡ length s → is_step_length l n ≡ true → Some rest ≡ past_string l all
string-past l all rest s n e h k = rw (e, marks_list-marks_tree s, sym h, k) refl

pub string-stays : (l : Logic) (all rest : List Value) (s : List GroundMark) (n : ℕ) → all ≡ steps (marks_tree s) ∷ rest → n ≡ length s → is_step_length l n ≡ false → None ≡ past_string l all
string-stays l all rest s n e h k = rw (e, marks_list-marks_tree s, sym h, k) refl

prefix-append : (w s : List GroundMark) → is_prefix mark_eq w (w ++ s) ≡ true
prefix-append [] s = refl
prefix-append (m ∷ w) s = rw ((mark_eq-tells m m).1 refl) (prefix-append w s)

eq-append : (w s : List GroundMark) → list_eq mark_eq w (w ++ s) ≡ (length s == 0)
eq-append [] [] = refl
eq-append [] (m ∷ s) = grind (arith, nat_tests)
eq-append (m ∷ w) s = rw ((mark_eq-tells m m).1 refl) (eq-append w s)

one-more : (n m k : ℕ) → k ≡ n + m → (k == n + 1) ≡ (m == 1)
one-more n m k h = grind (arith, nat_tests)

one-more_at_most : (n m k : ℕ) → k ≡ n + m → nat_le k (n + 1) ≡ nat_le m 1
one-more_at_most n m k h = grind (arith, nat_tests)

-- whether a string leads to a world that its start reaches depends on its length alone
pub steps-of : (l : Logic) (w s : List GroundMark) → steps_to mark_eq l w (nu_label l w s) ≡ is_step_length l (length s)
steps-of Classical w s = eq-append w s
steps-of Intuitionistic w s = prefix-append w s
steps-of D w s = rw (prefix-append w s) (one-more (length w) (length s) (length (w ++ s)) (length-append w s))
steps-of LogicT w s = rw (prefix-append w s) (one-more_at_most (length w) (length s) (length (w ++ s)) (length-append w s))
steps-of S4 w s = prefix-append w s
steps-of S5 w s = refl
