use Rattle.std.proofs.Common.{◌≡◌, ℕ, suc, ◌<◌, get_or}
use Rattle.derivation_text.specs.Listing.{first_number}
use Rattle.derivation_text.proofs.place_list.PlaceList.are_apart.Given as goal

abbrev pub invariant-loop-i : goal.invariant-loop-i
invariant-loop-i l = (k : ℕ) → k < l.i → first_number l.self (get_or l.self k 0) ≡ suc k
