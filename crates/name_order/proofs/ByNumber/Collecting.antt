-- The turns of closings, in their order.
use Rattle.std.proofs.Common.{◌≡◌, ℕ, zero, suc, ◌<◌, length, get_or, arith, List, [], ◌∷◌, ◌++◌, map, append_assoc, append-nil, refl, sym, ◌∙◌, ap}
use Rattle.std.proofs.lemmas.List.{map-append}
use Rattle.tableau_core.specs.Numbered.Closings.{closing_size, closing_list_size}
use Rattle.tableau_core.specs.Numbered.ClosingView.{the_closing}
use Rattle.tableau_core.specs.declared.closing.Closing.{Closing}

-- an item of the list is smaller than the list
pub closing_size-item : (cs : List Closing) (k : ℕ) (c d : Closing) → k < length cs → c ≡ get_or cs k d → closing_size (the_closing c) < closing_list_size (map the_closing cs)
closing_size-item [] k c d h e = absurd (omega arith)
closing_size-item (u ∷ cs) zero c d h e = let f : closing_size (the_closing c) ≡ closing_size (the_closing u) = ap (λ x. closing_size (the_closing x)) e in omega arith
closing_size-item (u ∷ cs) (suc k) c d h e = let f = closing_size-item cs k c d (omega arith) e in omega arith

pub ruleset collecting = (map-append, append_assoc, append-nil, closing_size-item)
