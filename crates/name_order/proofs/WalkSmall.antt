-- The positions of a problem have numbers of 32 bits.
use Rattle.std.proofs.Common.{◌<◌, ◌≤◌, ◌^◌, IsTrue, arith}
use Rattle.std.proofs.lemmas.Bool.{leb-true}
use Rattle.calculus.specs.Measures.{node_count}
use Rattle.calculus.specs.Positions.{size}
use Rattle.calculus.specs.Problems.{is_problem}
use Rattle.calculus.specs.Syntax.{Formula, atom, neg, conj, disj, imp, all, ex, box, dia, Problem}
use Rattle.logic_rules.proofs.ProblemFacts.{kept}

size-le-nodes : (f : Formula) → size f ≤ node_count f
size-le-nodes (atom p ts) = omega arith
size-le-nodes (neg a) = omega (arith, size-le-nodes a)
size-le-nodes (conj a b) = omega (arith, size-le-nodes a, size-le-nodes b)
size-le-nodes (disj a b) = omega (arith, size-le-nodes a, size-le-nodes b)
size-le-nodes (imp a b) = omega (arith, size-le-nodes a, size-le-nodes b)
size-le-nodes (all a) = omega (arith, size-le-nodes a)
size-le-nodes (ex a) = omega (arith, size-le-nodes a)
size-le-nodes (box a) = omega (arith, size-le-nodes a)
size-le-nodes (dia a) = omega (arith, size-le-nodes a)

pub problem-small : (P : Problem) → IsTrue (is_problem P) → size P.formula < 2 ^ 32
problem-small P h = let k : node_count P.formula ≤ 4000000 = leb-true (node_count P.formula) 4000000 (kept P h).nodes in omega (arith, size-le-nodes P.formula)

pub ruleset small_problem = (problem-small)
