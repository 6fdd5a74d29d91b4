use Rattle.std.proofs.lemmas.Bool.{false≢true}
use Rattle.std.proofs.Common.{sym, ◌∙◌}
use Rattle.sequent_convert.specs.ByNumber.RunView.{the_run, the_source}
use Rattle.sequent_convert.proofs.StateLaws.{first-ahead, first-within}
use Rattle.sequent_convert.proofs.run.Run.lead.Goals as goal

pub follow-requires-clause-first : goal.follow-requires-clause-first
follow-requires-clause-first c = first-ahead (the_source c.args.source.now) (the_run c.args.source.now c.args.self.now) c.requires.run

pub make_turn-requires-clause-first : goal.make_turn-requires-clause-first
make_turn-requires-clause-first c = first-ahead (the_source c.args.source.now) (the_run c.args.source.now c.args.self.now) c.requires.run

pub next_turn-next-requires-clause-within : goal.next_turn-next-requires-clause-within
next_turn-next-requires-clause-within c = first-within (the_source c.args.source.now) (the_run c.args.source.now c.args.self.now) c.requires.run _ (first-ahead (the_source c.args.source.now) (the_run c.args.source.now c.args.self.now) c.requires.run)

pub next_turn-next-requires-clause-new : goal.next_turn-next-requires-clause-new
next_turn-next-requires-clause-new c = λ h. false≢true (sym c.if-has.false ∙ c.has.ensures.1 h)
