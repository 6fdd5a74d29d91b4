use Rattle.std.proofs.Common.{◌≤◌, List, drop, length, map}
use Rattle.calculus.specs.Derivations.{Label}
use Rattle.calculus.specs.Versions.{stated_spare}
use Rattle.derivation_text.specs.NumbersView.{the_numbered_spare}
use Rattle.derivation_check.specs.ArgumentView.{ArePlaces}
use Rattle.derivation_check.specs.HomesView.{AreSpareHomes}
use Rattle.derivation_check.proofs.homes.add_spares.Given as goal

abbrev pub invariant-loop-left : goal.invariant-loop-left
invariant-loop-left l = record {
  within : l.left ≤ length l.names;
  homes : (labels table : List Label) → ArePlaces labels table l.places → AreSpareHomes table l.homes (map (λ x. stated_spare labels (the_numbered_spare x)) (drop l.left l.names));
}

abbrev pub decreases-loop-left : goal.decreases-loop-left
decreases-loop-left l = l.left
