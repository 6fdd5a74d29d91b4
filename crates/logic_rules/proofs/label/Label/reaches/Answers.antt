use Rattle.std.proofs.Common.{◌∙◌}
use Rattle.calculus.specs.Derivations.{character_eq}
use Rattle.calculus.specs.Labels.{steps_to}
use Rattle.logic_rules.specs.MarkView.{the_character}
use Rattle.logic_rules.proofs.LabelMaps.{steps_to-map}
use Rattle.logic_rules.proofs.MarkEq.{mark_eq-character}
use Rattle.logic_rules.proofs.label.Label.reaches.Goals as goal

pub returns : goal.returns
returns c =
    c.steps_to.ensures
    ∙ steps_to-map the_character _ character_eq mark_eq-character c.args.logic c.items.result.now c.items-2.result.now
    ∙ (λ i. steps_to character_eq c.args.logic (c.items.ensures i) (c.items-2.ensures i))
