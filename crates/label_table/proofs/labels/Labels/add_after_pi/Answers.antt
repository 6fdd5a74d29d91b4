use Rattle.std.proofs.Common.{◌∙◌, sym}
use Rattle.logic_rules.specs.MarkView.{the_character}
use Rattle.label_table.proofs.labels.Labels.add_after_pi.Goals as goal

pub returns-clause-place : goal.returns-clause-place
returns-clause-place c = let new = c.in_ok-place.ensures.place in (new.0, new.1 ∙ sym (c.before_pi-front.ensures.before (the_character c.args.mark)))
