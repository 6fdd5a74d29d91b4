use Rattle.std.proofs.Common.{◌-◌, ◌∙◌, sym, arith}
use Rattle.problem_build.specs.Expansion.{same_name}
use Rattle.problem_build.proofs.ListLaws.{place-found, place-passed}
use Rattle.problem_build.proofs.expansion.variable_place.Goals as goal

pub returns-then-eq-clause-place : goal.returns-then-eq-clause-place
returns-then-eq-clause-place c =
    place-found (same_name c.args.name.now) c.args.scope.now (c.loop-left.left - 1) c.loop-left.left c.index-scope-left.result c.index-scope-left.result (omega arith)
    c.index-scope-left.is (sym c.eq.ensures ∙ c.if-eq.true) (omega arith) c.loop-left.invariant.1

pub loop-left-preserved : goal.loop-left-preserved
loop-left-preserved c = (
  omega arith,
  place-passed (same_name c.args.name.now) c.args.scope.now (c.loop-left.left - 1) c.loop-left.left c.index-scope-left.result c.index-scope-left.result (omega arith)
      c.index-scope-left.is (sym c.eq.ensures ∙ c.if-eq.false) (omega arith) c.loop-left.invariant.1,
)
