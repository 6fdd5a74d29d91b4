use Rattle.std.proofs.Common.{arith, subst}
use Rattle.std.proofs.lemmas.List.{length-map}
use Rattle.term_store.specs.ClauseView.{the_pattern_atom}
use Rattle.store_theory.specs.Patterns.{PatternAtom}
use Rattle.std.specs.Prelude.{List}
use Rattle.matrix_build.specs.Needs.{AreNeeds}
use Rattle.matrix_build.proofs.NeedsLaws.{needs-none, needs-next, needs-all}
use Rattle.matrix_build.proofs.needs.needs_of.Goals as goal

pub loop-i-init : goal.loop-i-init
loop-i-init c = needs-none _

pub loop-i-preserved : goal.loop-i-preserved
loop-i-preserved c = needs-next _ c.loop-i.i c.loop-i.needs c.with_mark-more.result _ _ c.other-sign.ensures c.literal_at-literal.ensures c.with_mark-more.ensures.own c.with_mark-more.ensures.others c.with_mark-more.ensures.only c.loop-i.invariant

pub returns : goal.returns
returns c = subst (λ (qs : List PatternAtom). AreNeeds qs c.loop-i.needs) c.items-literals.ensures (needs-all _ c.loop-i.i c.loop-i.needs (omega (arith, c.loop-i-test.false, length-map c.items-literals.result.now the_pattern_atom)) c.loop-i.invariant)
