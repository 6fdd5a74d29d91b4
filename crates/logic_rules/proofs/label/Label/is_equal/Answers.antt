use Rattle.std.proofs.Common.{◌∙◌}
use Rattle.calculus.specs.Derivations.{character_eq}
use Rattle.calculus.specs.Equality.{list_eq}
use Rattle.logic_rules.specs.MarkView.{the_character}
use Rattle.logic_rules.proofs.LabelMaps.{list_eq-map}
use Rattle.logic_rules.proofs.MarkEq.{mark_eq-character}
use Rattle.logic_rules.proofs.label.Label.is_equal.Goals as goal

pub returns : goal.returns
returns c =
    c.eq.ensures
    ∙ list_eq-map the_character _ character_eq mark_eq-character c.items.result.now c.items-2.result.now
    ∙ (λ i. list_eq character_eq (c.items.ensures i) (c.items-2.ensures i))
