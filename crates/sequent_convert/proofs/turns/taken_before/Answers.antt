use Rattle.std.proofs.Common.{◌<◌, Some, length, ◌∙◌, ap, arith}
use Rattle.sequent_convert.specs.ByNumber.RunView.{the_lists, the_source}
use Rattle.sequent_convert.proofs.StateLaws.{parent-within}
use Rattle.sequent_convert.proofs.ByNumber.StateLaws.{agenda-length}
use Rattle.sequent_convert.proofs.turns.taken_before.Goals as goal

pub offset_bounds-agenda-parent : goal.offset_bounds-agenda-parent
offset_bounds-agenda-parent c =
    let B = the_source c.args.source.now in
    let within : c.in-Some.parent < length c.args.source.now.named.now.agenda = parent-within B c.requires.basis c.args.turn c.in-Some.parent c.requires.within (c.parent.ensures ∙ ap Some c.in-Some.is) in
    let few = c.agenda-agenda.ensures.few in
    omega (arith, within, few)

pub bounds-agenda-parent : goal.bounds-agenda-parent
bounds-agenda-parent c =
    let B = the_source c.args.source.now in
    let within : c.in-Some.parent < length c.args.source.now.named.now.agenda = parent-within B c.requires.basis c.args.turn c.in-Some.parent c.requires.within (c.parent.ensures ∙ ap Some c.in-Some.is) in
    let many = agenda-length (the_lists c.args.source.now) B c.agenda-agenda.result.now c.agenda-agenda.ensures.turns in
    omega (arith, within, many)
