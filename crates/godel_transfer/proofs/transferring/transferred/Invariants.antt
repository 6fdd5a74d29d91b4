use Rattle.std.proofs.Common.{◌≡◌, ◌++◌, ◌∷◌, [], suc, drop, map}
use Rattle.godel_transfer.specs.BranchView.{IsKept, branches_of}
use Rattle.godel_transfer.specs.Sketch.{first_sketch, names_sketched_from, sketched_from}
use Rattle.godel_transfer.specs.Transfer.{spare_anywhere}
use Rattle.calculus.specs.Versions.{stated, stated_step}
use Rattle.derivation_text.specs.NumbersView.{the_numbered_step}
use Rattle.godel_transfer.proofs.transferring.transferred.Given as goal

abbrev pub invariant-loop-step : goal.invariant-loop-step
invariant-loop-step l = record {
  kept : IsKept l.branches;
  limit : l.out.limit ≡ l.d.limit;
  spares : l.out.names.spares ≡ spare_anywhere ∷ [];
  steps : l.out.steps ++ sketched_from (branches_of l.branches) (suc l.number) (map (stated_step l.d.labels l.d.terms) (map the_numbered_step (drop l.step-index l.step-items))) ≡ sketched_from (first_sketch l.problem.formula ∷ []) 1 (stated l.d).steps;
  names : l.out.names.eigens ++ names_sketched_from (branches_of l.branches) (suc l.number) (map (stated_step l.d.labels l.d.terms) (map the_numbered_step (drop l.step-index l.step-items))) ≡ names_sketched_from (first_sketch l.problem.formula ∷ []) 1 (stated l.d).steps;
}
