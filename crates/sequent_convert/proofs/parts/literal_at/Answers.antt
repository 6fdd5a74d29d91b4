use Rattle.std.proofs.Common.{refl}
use Rattle.sequent_convert.specs.ByNumber.RunView.{the_lists, the_source}
use Rattle.sequent_convert.proofs.ByNumber.StateLaws.{atom-within}
use Rattle.sequent_convert.proofs.parts.literal_at.Goals as goal

pub bounds-source-agenda : goal.bounds-source-agenda
bounds-source-agenda c = atom-within (the_lists c.args.source.now) (the_source c.args.source.now) c.requires.basis c.agenda-agenda.result.now c.args.turn _ _ c.agenda-agenda.ensures.turns c.requires.within refl
