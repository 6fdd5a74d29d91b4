use Rattle.std.proofs.Common.{None}
use Rattle.cop_base.proofs.ReadLaws.{read-answers, reads-answered}
use Rattle.cop_base.proofs.edge.FileLibraryLibrary.fetch.Goals as goal

pub returns-clause-reads_on : goal.returns-clause-reads_on
returns-clause-reads_on g c = reads-answered None c.args.name.now c.args.limit c.read_file-answer.result c.args.self.now.history.reads c.and-self.result.reads c.and-self.ensures tt

pub returns-clause-answers : goal.returns-clause-answers
returns-clause-answers g c = λ files w. read-answers files c.args.name.now c.args.limit c.read_file-answer.result c.args.self.now.history.reads c.and-self.result.reads c.and-self.ensures w
