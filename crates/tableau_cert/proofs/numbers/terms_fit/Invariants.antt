use Rattle.std.proofs.Common.{ℕ, List, map, drop, IsTrue}
use Rattle.std.specs.List.{AllByRecursion}
use Rattle.calculus.specs.Lists.{g_terms_tree}
use Rattle.calculus.specs.TableauText.{grounds_have_numbers}
use Rattle.formula_core.specs.GroundLists.{GroundList, the_g_term, IsLowerTerm}
use Rattle.tableau_cert.specs.Numbers.{HaveNumbers}
use Rattle.tableau_cert.proofs.numbers.terms_fit.Given as goal

abbrev pub invariant-loop-term : goal.invariant-loop-term
invariant-loop-term l =
    (ls : List GroundList) (n : ℕ) → HaveNumbers ls n → AllByRecursion (IsLowerTerm ls n) l.terms → IsTrue (grounds_have_numbers (g_terms_tree (map (the_g_term ls) (drop l.term-index l.terms)))) → IsTrue (grounds_have_numbers (g_terms_tree (map (the_g_term ls) l.terms)))
