use Rattle.std.proofs.Common.{arith, length, refl}
use Rattle.std.proofs.lemmas.Option.{slice_get_read}
use Rattle.formula_core.proofs.GrownLaws.{grown-both}
use Rattle.tableau_reading.specs.Reading.{IsInner, stacked_names}
use Rattle.tableau_reading.specs.Readable.{IsReadableStep}
use Rattle.tableau_reading.proofs.BuiltLaws.{built-all, built-next, built-none}
use Rattle.tableau_reading.proofs.GroundLaws.{grown-self}
use Rattle.tableau_reading.proofs.ReadingLaws.{all-there}
use Rattle.tableau_reading.proofs.StackLaws.{behind-all, behind-next, behind-none}
use Rattle.tableau_reading.proofs.closings.add_closings.Goals as goal

pub loop-passed-init : goal.loop-passed-init
loop-passed-init c = record { names = behind-none c.args.from.now.matrix.now c.args.steps.now (stacked_names c.args.stack.now.items); built = λ σ sp. built-none c.args.from.now.matrix.now c.args.steps.now c.args.grounds.now.table c.args.stack.now.items σ; reading = c.requires.reading; grown = grown-self c.args.grounds.now.table c.requires.reading.most }

pub add_closing-requires-clause-step : goal.add_closing-requires-clause-step
add_closing-requires-clause-step c = all-there (IsReadableStep c.args.from.now.store.now.store c.args.from.now.matrix.now) c.args.steps.now _ c.index-steps-place.result c.requires.steps (slice_get_read c.args.steps.now (length c.args.steps.now) _ c.index-steps-place.result refl (omega arith) c.index-steps-place.is)

pub add_closing-requires-clause-inner : goal.add_closing-requires-clause-inner
add_closing-requires-clause-inner c = all-there IsInner c.args.steps.now _ c.index-steps-place.result c.requires.inner (slice_get_read c.args.steps.now (length c.args.steps.now) _ c.index-steps-place.result refl (omega arith) c.index-steps-place.is)

pub loop-passed-preserved : goal.loop-passed-preserved
loop-passed-preserved c = record { names = behind-next c.args.from.now.matrix.now c.args.steps.now c.loop-passed.passed _ c.index-steps-place.result (stacked_names c.args.stack.now.items) (stacked_names c.loop-passed.stack.items) (stacked_names c.add_closing.new.stack.items) (slice_get_read c.args.steps.now (length c.args.steps.now) _ c.index-steps-place.result refl (omega arith) c.index-steps-place.is) (omega arith) c.loop-passed.invariant.names c.in_ok-add_closing.ensures.names; built = λ σ sp. built-next c.args.from.now.matrix.now c.args.steps.now c.loop-passed.passed _ c.index-steps-place.result c.args.grounds.now.table c.loop-passed.grounds.table c.add_closing.new.grounds.table c.args.stack.now.items c.loop-passed.stack.items c.add_closing.new.stack.items σ (slice_get_read c.args.steps.now (length c.args.steps.now) _ c.index-steps-place.result refl (omega arith) c.index-steps-place.is) (omega arith) (c.loop-passed.invariant.built σ sp) (c.in_ok-add_closing.ensures.built σ sp); reading = c.in_ok-add_closing.ensures.reading; grown = grown-both _ _ _ c.loop-passed.invariant.grown c.in_ok-add_closing.ensures.grown }

pub returns-clause-names : goal.returns-clause-names
returns-clause-names c = behind-all c.args.from.now.matrix.now c.args.steps.now c.loop-passed.passed (stacked_names c.args.stack.now.items) (stacked_names c.loop-passed.stack.items) (omega arith) (omega arith) c.loop-passed.invariant.names

pub returns-clause-built : goal.returns-clause-built
returns-clause-built c = λ σ sp gs h. built-all c.args.from.now.matrix.now c.args.steps.now c.loop-passed.passed c.args.grounds.now.table c.loop-passed.grounds.table c.args.stack.now.items c.loop-passed.stack.items σ (omega arith) (omega arith) (c.loop-passed.invariant.built σ sp) gs h
