use Rattle.std.proofs.Common.{drop, subst, sym}
use Rattle.tptp_lex.specs.Spacing.{Skips, done}
use Rattle.tptp_lex.proofs.SpacingLaws.{skips-space, space-shorter}
use Rattle.tptp_lex.proofs.spacing.after_spacing.Goals as goal

pub loop-after-init : goal.loop-after-init
loop-after-init c = subst (λ rest. Skips rest c.split_at.result.1.now) c.split_at.ensures.back (done c.split_at.result.1.now)

pub loop-after-smaller : goal.loop-after-smaller
loop-after-smaller c = space-shorter c.loop-after.rest.now c.in-Some.after.now (sym c.in-Some.ensures)

pub loop-after-preserved : goal.loop-after-preserved
loop-after-preserved c = skips-space (drop c.args.from c.args.text.now) c.loop-after.rest.now c.in-Some.after.now c.loop-after.invariant (sym c.in-Some.ensures)
