use Rattle.conversion_theory.specs.Numbering.{number_of}
use Rattle.sequent_convert.proofs.ByNumber.PastLaws.{past-nu}
use Rattle.sequent_convert.proofs.past.by_string.Goals as goal

pub returns-clause-past : goal.returns-clause-past
returns-clause-past c = past-nu c.args.named.now.lists (number_of c.args.named.now.names) c.args.logic c.args.spot.now c.table-table.result.now c.table-table.ensures c.args.string c.marks-characters.result.now c.marks-characters.ensures.list c.args.all c.in_ok-next.next (c.in_ok-next.ensures.spot c.args.named.now.lists) c.marks-reached.result.now c.marks-reached.ensures c.in_ok-label.label c.in_ok-label.ensures c.in_ok-arg.arg c.in_ok-arg.ensures c.args.rest
