use Rattle.std.proofs.Common.{◌||◌, ◌∙◌, ap}
use Rattle.derivation_branch.specs.Occurring.{holds}
use Rattle.formula_text.specs.Rows.{any_item}
use Rattle.formula_text.proofs.RowLaws.{any-row}
use Rattle.trim_theory.specs.UsedNames.{is_spare}
use Rattle.derivation_trim.proofs.mentioned.add_spares.Goals as goal

pub loop-item-init : goal.loop-item-init
loop-item-init c = λ n. ap (λ b. holds c.args.set.now n || b) (ap (any_item (is_spare n)) c.items-item-items.ensures ∙ any-row (is_spare n) c.args.t.now)
