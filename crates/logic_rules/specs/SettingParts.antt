-- A setting of the calculus by its parts.
use Rattle.calculus.specs.declared.setting.Logic.{Logic}
use Rattle.calculus.specs.declared.setting.Domains.{Domains}
use Rattle.calculus.specs.Syntax as tree

abbrev pub setting_by : Logic → Domains → tree.Setting
setting_by logic domains = record { logic = logic; domains = domains }
