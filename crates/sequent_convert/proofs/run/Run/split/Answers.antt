use Rattle.std.proofs.Common.{ℕ, sym, subst}
use Rattle.sequent_convert.specs.ByNumber.RunView.{the_run, the_source}
use Rattle.sequent_convert.specs.State.{ComesFor, IsFirst}
use Rattle.sequent_convert.proofs.run.Run.split.Goals as goal

pub split_ahead-requires-clause-first : goal.split_ahead-requires-clause-first
split_ahead-requires-clause-first c = subst (IsFirst (the_run c.args.source.now c.args.self.now)) (sym c.if-turn-first.true) c.requires.first

pub split_ahead-requires-clause-comes : goal.split_ahead-requires-clause-comes
split_ahead-requires-clause-comes c = subst (λ (f : ℕ). ComesFor (the_source c.args.source.now) c.args.self.now.branch.done f c.args.turn) (sym c.if-turn-first.true) c.requires.comes

pub split_other-requires-clause-other : goal.split_other-requires-clause-other
split_other-requires-clause-other c = λ q. c.if-turn-first.false (sym q)
