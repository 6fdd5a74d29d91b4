use Rattle.std.proofs.Common.{Some, [], ◌∷◌, ◌∙◌, ap}
use Rattle.cop_base.specs.Reads.{answered}
use Rattle.cop_base.proofs.ReadLaws.{read-answers, reads-answered}
use Rattle.leancop_top.proofs.text_library.TextLibraryLibrary.fetch.Goals as goal

pub returns-clause-reads_on : goal.returns-clause-reads_on
returns-clause-reads_on c =
    let name = c.args.name.now in
    let limit = c.args.limit in
    let answer = c.look_up-answer.result in
    reads-answered (Some ((c.args.self.now.name, c.args.self.now.text.items) ∷ [])) name limit answer c.args.self.now.history.reads c.and-self.result.reads
    (c.and-self.ensures ∙ ap (λ h. answered name limit answer h.reads) c.look_up-answer.ensures.same_history) c.look_up-answer.ensures.of

pub returns-clause-answers : goal.returns-clause-answers
returns-clause-answers c = λ files w.
    let name = c.args.name.now in
    let limit = c.args.limit in
    let answer = c.look_up-answer.result in
    read-answers files name limit answer c.args.self.now.history.reads c.and-self.result.reads
    (c.and-self.ensures ∙ ap (λ h. answered name limit answer h.reads) c.look_up-answer.ensures.same_history) w
