use Rattle.std.proofs.Common.{ap, map, ◌∙◌}
use Rattle.calculus.specs.Syntax.{Setting}
use Rattle.tableau_core.specs.Numbered.SpotView.{the_mark_at}
use Rattle.tableau_core.proofs.Numbered.LabelLaws.{home-in}
use Rattle.tableau_core.proofs.allowance.is_home.Goals as goal

pub returns : goal.returns
returns c = home-in c.domains.result c.args.problem.now.setting.domains (map (the_mark_at c.args.table.now) c.args.home.now) (map (the_mark_at c.args.table.now) c.args.at.now) c.allows.result (c.domains.ensures ∙ ap (λ (s : Setting). s.domains) c.setting.ensures.setting) c.allows.ensures
