use Rattle.std.proofs.Common.{sym, ◌∙◌, subst}
use Rattle.tptp_reader.proofs.TextEnds.{text-stuck, text-deep, text-no_token, text-end}
use Rattle.tptp_reader.specs.Failing.{Fails}
use Rattle.tptp_reader.proofs.EndFails.{ran-out, ran-whole}
use Rattle.tptp_reader.proofs.checker.text_fault.Goals as goal

pub returns-in-Stuck : goal.returns-in-Stuck
returns-in-Stuck c = rw c.text_cause.ensures (text-stuck c.args.modal c.args.text.now _ _ c.in_ok-ending.ending c.in-Stuck.piece c.in_ok-ending.ensures c.in_ok-machine.ensures c.in-Stuck.is)

pub returns-in-TooDeep : goal.returns-in-TooDeep
returns-in-TooDeep c = text-deep c.args.modal c.args.text.now _ _ c.in_ok-ending.ending c.in-TooDeep.offset c.in_ok-ending.ensures c.in_ok-machine.ensures c.in-TooDeep.is

pub returns-in-NoToken : goal.returns-in-NoToken
returns-in-NoToken c = text-no_token c.args.modal c.args.text.now _ _ c.in_ok-ending.ending c.in-NoToken.offset c.in_ok-ending.ensures c.in_ok-machine.ensures c.in-NoToken.is

pub returns-in-End : goal.returns-in-End
returns-in-End c = text-end c.args.modal c.args.text.now _ _ c.in_ok-ending.ending c.in_ok-ending.ensures c.in_ok-machine.ensures c.in-End.is (sym c.is_at_item.ensures ∙ c.if-is_at_item.false)

pub unreachable-requires : goal.unreachable-requires
unreachable-requires c = ran-whole c.args.modal c.args.text.now 0 _ _ c.in_ok-ending.ending c.in_ok-ending.ensures c.in-End.is (sym c.is_at_item.ensures ∙ c.if-is_at_item.true) (subst (λ z. Fails c.args.modal c.args.text.now z 0) (sym c.in_ok-machine.ensures) c.requires)

pub unreachable-requires-in-Done : goal.unreachable-requires-in-Done
unreachable-requires-in-Done c = ran-out c.args.modal c.args.text.now 0 _ _ c.in_ok-ending.ending c.in-Done.field-0 c.in_ok-ending.ensures c.in-Done.is (subst (λ z. Fails c.args.modal c.args.text.now z 0) (sym c.in_ok-machine.ensures) c.requires)
