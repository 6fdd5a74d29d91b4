use Rattle.std.proofs.Common.{ℕ, List, map, drop, IsTrue}
use Rattle.std.specs.List.{AllByRecursion}
use Rattle.calculus.specs.Ground.{marks_tree}
use Rattle.calculus.specs.TableauText.{marks_have_numbers}
use Rattle.formula_core.specs.GroundLists.{GroundList, the_mark, IsLowerMark}
use Rattle.tableau_cert.specs.Numbers.{HaveNumbers}
use Rattle.tableau_cert.proofs.numbers.marks_fit.Given as goal

abbrev pub invariant-loop-mark : goal.invariant-loop-mark
invariant-loop-mark l =
    (ls : List GroundList) (n : ℕ) → HaveNumbers ls n → AllByRecursion (IsLowerMark ls n) l.marks → IsTrue (marks_have_numbers (marks_tree (map (the_mark ls) (drop l.mark-index l.marks)))) → IsTrue (marks_have_numbers (marks_tree (map (the_mark ls) l.marks)))
