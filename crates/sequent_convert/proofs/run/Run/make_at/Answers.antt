use Rattle.std.proofs.Common.{map}
use Rattle.sequent_calc.specs.StepView.{the_modal, the_term_arg}
use Rattle.sequent_convert.specs.ByNumber.NodeView.{the_node}
use Rattle.sequent_convert.specs.ByNumber.RunView.{the_lists, the_run, the_source}
use Rattle.sequent_convert.proofs.MoveLaws.{move-stays, move-adds}
use Rattle.sequent_convert.proofs.ByNumber.TakenLaws.{takes-all}
use Rattle.sequent_convert.proofs.run.Run.make_at.Goals as goal

pub returns-in_ok-pass_over-in-Rests-clause-moves : goal.returns-in_ok-pass_over-in-Rests-clause-moves
returns-in_ok-pass_over-in-Rests-clause-moves c = move-stays (the_source c.args.source.now) (the_run c.args.source.now c.args.self.now) _ c.args.first c.args.turn c.args.place c.requires.first c.requires.comes c.requires.works c.in_ok-entry_number-in-Rests.ensures.fits (rw c.in-Rests.is at c.in_ok-made.ensures) (c.in_ok-pass_over-in-Rests.ensures.run c.args.source.now)

pub returns-in_ok-grow-in-Grows-clause-moves : goal.returns-in_ok-grow-in-Grows-clause-moves
returns-in_ok-grow-in-Grows-clause-moves c = move-adds (the_source c.args.source.now) (the_run c.args.source.now c.args.self.now) _ c.args.first c.args.turn c.args.place (the_modal c.in-Grows.modal) (the_term_arg c.in-Grows.term) (map (the_node (the_lists c.args.source.now)) c.in-Grows.nodes.items) c.requires.first c.requires.comes c.requires.works c.in_ok-grow-in-Grows.ensures.number (rw c.in-Grows.is at c.in_ok-made.ensures) c.in_ok-grow-in-Grows.ensures.run

pub split-requires-clause-made : goal.split-requires-clause-made
split-requires-clause-made c = rw c.in-Splits.is at c.in_ok-made.ensures

pub made_at-requires-clause-taken : goal.made_at-requires-clause-taken
made_at-requires-clause-taken c = takes-all (the_source c.args.source.now) c.requires.basis (the_run c.args.source.now c.args.self.now) c.requires.run c.args.turn c.args.place c.requires.comes.next.within c.requires.works
