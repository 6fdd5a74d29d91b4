use Rattle.std.proofs.Common.{◌≡◌, map, drop}
use Rattle.calculus.specs.Equality.{mark_eq}
use Rattle.calculus.specs.Labels.{is_prefix}
use Rattle.tableau_core.specs.Numbered.SpotView.{the_mark_at}
use Rattle.tableau_core.proofs.allowance.begins.Given as goal

abbrev pub invariant-loop-i : goal.invariant-loop-i
invariant-loop-i l = is_prefix mark_eq (map (the_mark_at l.table) (drop l.i l.home)) (map (the_mark_at l.table) (drop l.i l.at)) ≡ is_prefix mark_eq (map (the_mark_at l.table) l.home) (map (the_mark_at l.table) l.at)
