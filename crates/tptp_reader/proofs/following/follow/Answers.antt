use Rattle.std.proofs.Common.{sym, ◌∙◌, subst}
use Rattle.tptp_reader.specs.Following.{AreWithin, stack_now}
use Rattle.tptp_reader.specs.Pieces.{placed}
use Rattle.tptp_reader.proofs.RunLaws.{ran-none, ran-further, deep-there}
use Rattle.tptp_reader.proofs.NestingLaws.{after-within}
use Rattle.tptp_reader.proofs.following.follow.Goals as goal

pub loop-piece-init : goal.loop-piece-init
loop-piece-init c = record { ran = ran-none c.args.modal c.args.text.now c.args.from (stack_now c.args.machine.now) c.requires.expects; within = c.requires.within; shallow = c.requires.shallow }

pub returns-in-TooDeep : goal.returns-in-TooDeep
returns-in-TooDeep c =
    deep-there c.args.modal c.args.text.now c.args.from (stack_now c.args.machine.now) (stack_now c.loop-piece.machine) c.loop-piece.place c.loop-piece.invariant.ran (placed c.in-Ok-Some.piece) c.in-Ok-Some.piece.end (rw c.in-Ok-Some.field-0-is at c.in-Ok-Some.ensures.next) (sym c.in-TooDeep.is ∙ c.in_ok-step.ensures.told)

pub loop-piece-preserved : goal.loop-piece-preserved
loop-piece-preserved c = record {
  ran = ran-further c.args.modal c.args.text.now c.args.from (stack_now c.args.machine.now) (stack_now c.loop-piece.machine) c.loop-piece.place c.loop-piece.invariant.ran (placed c.in-Ok-Some.piece) c.in-Ok-Some.piece.end (rw c.in-Ok-Some.field-0-is at c.in-Ok-Some.ensures.next) (stack_now c.step.new.self) (sym c.in-Onward.is ∙ c.in_ok-step.ensures.told) c.in_ok-step.ensures.after (sym c.is_empty.ensures ∙ c.if-is_empty.false);
  within = rw c.in-Ok-Some.field-0-is at c.in-Ok-Some.ensures.within;
  shallow = subst (AreWithin 501) (sym c.in_ok-step.ensures.after) (after-within c.args.modal (stack_now c.loop-piece.machine) (placed c.in-Ok-Some.piece).terminal c.loop-piece.invariant.shallow);
}
