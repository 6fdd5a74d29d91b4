use Rattle.std.proofs.Common.{ap, ◌∙◌}
use Rattle.calculus.specs.Syntax.{Setting}
use Rattle.tableau_cert.proofs.gathering.logic_of.Goals as goal

pub returns : goal.returns
returns c = c.logic.ensures ∙ ap (λ (s : Setting). s.logic) c.setting.ensures.setting
