use Rattle.std.proofs.Common.{◌≡◌, ℕ, [], Some, map, slice_get}
use Rattle.store_theory.specs.Stores.{fun_cell}
use Rattle.term_store.specs.RefView.{the_place}
use Rattle.domain_cond.proofs.FirstLaws.{AllTo}
use Rattle.domain_cond.proofs.standing.has_constant.Given as goal

abbrev pub invariant-loop-i : goal.invariant-loop-i
invariant-loop-i l = AllTo (map the_place l.leaves) l.i (λ e. (f : ℕ) → ¬ (slice_get l.store.store.cells e ≡ Some (fun_cell f [])))
