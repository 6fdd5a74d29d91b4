use Rattle.std.proofs.Common.{Some, sym, subst}
use Rattle.cop_base.specs.Outside.{file_in}
use Rattle.cop_base.specs.Reads.{Answers}
use Rattle.cop_base.proofs.ReadLaws.{read-answers, reads-answered}
use Rattle.cop_base.proofs.mem_library.MemLibraryLibrary.fetch.Goals as goal
use Rattle.cop_base.proofs.mem_library.MemLibraryLibrary.fetch.Goals.{then-contains, else-contains}

pub returns-clause-reads_on : goal.returns-clause-reads_on
returns-clause-reads_on c =
    let held = file_in c.args.self.now.files c.args.name.now in
    reads-answered (Some c.args.self.now.files) c.args.name.now c.args.limit c.if-contains.answer c.args.self.now.reads c.and-self-inside.result.reads
    (rw (← c.self.view_is) c.and-self-inside.ensures)
    (elim c.if-contains.branch [
      | then-contains w ↦ subst (Answers held c.args.limit) (sym w.answer-is) tt
      | else-contains w ↦ subst (Answers held c.args.limit) (sym w.answer-is) (rw (← c.self.view_is) w.copy_of-answer.ensures.of)
    ])

pub returns-clause-answers : goal.returns-clause-answers
returns-clause-answers c = λ files w.
    read-answers files c.args.name.now c.args.limit c.if-contains.answer c.args.self.now.reads c.and-self-inside.result.reads (rw (← c.self.view_is) c.and-self-inside.ensures) w
