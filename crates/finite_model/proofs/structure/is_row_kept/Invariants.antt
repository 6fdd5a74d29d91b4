use Rattle.std.proofs.Common.{◌≡◌, ◌&&◌, drop}
use Rattle.finite_model.specs.Conditions.{is_row_kept}
use Rattle.finite_model.proofs.structure.is_row_kept.Given as goal

abbrev pub invariant-loop-place : goal.invariant-loop-place
invariant-loop-place l = (l.kept && is_row_kept (drop l.place l.row) (drop l.place l.others)) ≡ is_row_kept l.row l.others
