use Rattle.std.proofs.Common.{◌∙◌}
use Rattle.calculus.specs.Derivations.{character_eq}
use Rattle.calculus.specs.Labels.{home_allows}
use Rattle.logic_rules.specs.MarkView.{the_character}
use Rattle.logic_rules.proofs.LabelMaps.{home_allows-map}
use Rattle.logic_rules.proofs.MarkEq.{mark_eq-character}
use Rattle.logic_rules.proofs.label.Label.is_home_at.Goals as goal

pub returns : goal.returns
returns c =
    c.home_allows.ensures
    ∙ home_allows-map the_character _ character_eq mark_eq-character c.args.domains c.items.result.now c.items-2.result.now
    ∙ (λ i. home_allows character_eq c.args.domains (c.items.ensures i) (c.items-2.ensures i))
