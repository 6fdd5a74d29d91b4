use Rattle.std.proofs.Common.{sym, ◌∙◌, drop, arith}
use Rattle.calculus.specs.StructureText.{persistence_conditions_from}
use Rattle.formula_text.proofs.Passing.{error-passed}
use Rattle.finite_model.proofs.CheckLaws.{broken-same, predicates-hold}
use Rattle.finite_model.proofs.persistence.check_persistence.Goals as goal

pub loop-place-preserved : goal.loop-place-preserved
loop-place-preserved c = record {
  left = sym c.in_ok-next.ensures.ok ∙ c.loop-place.invariant.left;
  few = omega (arith, c.in_ok-next.ensures.few);
}

pub returns-in_err-next-clause-bad : goal.returns-in_err-next-clause-bad
returns-in_err-next-clause-bad c = λ line why e. broken-same (persistence_conditions_from c.args.s.now c.loop-place.line c.loop-place.place (drop c.loop-place.place c.args.symbols.now)) (persistence_conditions_from c.args.s.now c.args.first 0 c.args.symbols.now) line why c.loop-place.invariant.left (c.in_err-next.ensures.bad line why (error-passed c.from_residual.result c.in_err-next.field-0.0 _ c.from_residual.ensures.1 e))

pub returns-clause-ok : goal.returns-clause-ok
returns-clause-ok c = predicates-hold c.args.s.now c.args.symbols.now c.loop-place.line c.loop-place.place _ (omega arith) c.loop-place.invariant.left
