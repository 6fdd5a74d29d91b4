use Rattle.std.proofs.Common.{sym, subst}
use Rattle.tptp_reader.proofs.FormulaEnds.{found-stuck, found-deep, found-no_token, found-end}
use Rattle.tptp_reader.specs.Failing.{Fails}
use Rattle.tptp_reader.proofs.EndFails.{ran-out}
use Rattle.tptp_reader.proofs.reader.formula_fault.Goals as goal

pub returns-in-Stuck : goal.returns-in-Stuck
returns-in-Stuck c = rw c.formula_cause.ensures (found-stuck c.args.modal c.args.text.now c.args.from _ _ c.in_ok-ending.ending c.in-Stuck.piece c.in_ok-ending.ensures c.in_ok-machine.ensures c.in-Stuck.is)

pub returns-in-TooDeep : goal.returns-in-TooDeep
returns-in-TooDeep c = found-deep c.args.modal c.args.text.now c.args.from _ _ c.in_ok-ending.ending c.in-TooDeep.offset c.in_ok-ending.ensures c.in_ok-machine.ensures c.in-TooDeep.is

pub returns-in-NoToken : goal.returns-in-NoToken
returns-in-NoToken c = found-no_token c.args.modal c.args.text.now c.args.from _ _ c.in_ok-ending.ending c.in-NoToken.offset c.in_ok-ending.ensures c.in_ok-machine.ensures c.in-NoToken.is

pub returns : goal.returns
returns c = found-end c.args.modal c.args.text.now c.args.from _ _ c.in_ok-ending.ending c.in_ok-ending.ensures c.in_ok-machine.ensures c.in-End.is

pub unreachable-requires : goal.unreachable-requires
unreachable-requires c = ran-out c.args.modal c.args.text.now c.args.from _ _ c.in_ok-ending.ending c.in-Done.field-0 c.in_ok-ending.ensures c.in-Done.is (subst (λ z. Fails c.args.modal c.args.text.now z c.args.from) (sym c.in_ok-machine.ensures) c.requires.fails)
