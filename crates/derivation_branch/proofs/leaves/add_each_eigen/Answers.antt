use Rattle.std.proofs.Common.{[], ◌||◌, ◌∙◌, ap, append-nil, sym}
use Rattle.calculus.specs.Calculus.{is_eigen}
use Rattle.derivation_branch.specs.Occurring.{holds}
use Rattle.formula_text.specs.Rows.{any_item}
use Rattle.formula_text.proofs.RowLaws.{any-row}
use Rattle.derivation_branch.proofs.leaves.add_each_eigen.Goals as goal

pub loop-item-init : goal.loop-item-init
loop-item-init c = record {
  held = λ n. ap (λ b. holds c.args.set.now n || b) (ap (any_item (is_eigen n)) c.items-item-items.ensures ∙ any-row (is_eigen n) c.args.t.now);
  kept = ([], sym (append-nil c.args.set.now));
}
