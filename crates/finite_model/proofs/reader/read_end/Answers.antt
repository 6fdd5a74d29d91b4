use Rattle.std.proofs.Common.{refl, subst, arith}
use Rattle.finite_model.specs.StructureView.{the_lists}
use Rattle.text_lines.specs.Lines.{AreRead}
use Rattle.finite_model.specs.Slots.{lines_of}
use Rattle.finite_model.proofs.EntryReading.{end-read, lists-count, more-behind, no-end_there}
use Rattle.finite_model.proofs.HeadReading.{told}
use Rattle.finite_model.proofs.reader.read_end.Goals as goal

pub returns-in_default-clause-fault : goal.returns-in_default-clause-fault
returns-in_default-clause-fault c = λ line why e. let n = lists-count c.args.entries.now in
    told c.args.problem.now c.args.bytes.now _ line _ why e (no-end_there c.args.problem.now c.requires.names c.args.bytes.now c.args.head.now (the_lists c.args.entries.now) c.args.from _ c.requires.head c.requires.read (omega (arith, n)) (c.in_default.ensures.none refl))

pub returns-then-end-bytes-clause-ok : goal.returns-then-end-bytes-clause-ok
returns-then-end-bytes-clause-ok c = subst (AreRead c.args.bytes.now (lines_of c.args.problem.now c.args.head.now.worlds c.args.head.now.elements (the_lists c.args.entries.now))) c.if-end-bytes.true (end-read c.args.problem.now c.args.bytes.now c.args.head.now.worlds c.args.head.now.elements (the_lists c.args.entries.now) c.args.from c.in-Some.end c.requires.read c.in-Some.ensures.some)

pub returns-else-end-bytes-clause-fault : goal.returns-else-end-bytes-clause-fault
returns-else-end-bytes-clause-fault c = λ line why e. let n = lists-count c.args.entries.now in
    told c.args.problem.now c.args.bytes.now _ line _ why e (more-behind c.args.problem.now c.requires.names c.args.bytes.now c.args.head.now (the_lists c.args.entries.now) c.args.from c.in-Some.end _ c.requires.head c.requires.read (omega (arith, n)) c.in-Some.ensures.some c.if-end-bytes.false)
