-- Each list of closings is larger than the lists inside it, so a recursion over them ends.
use Rattle.std.specs.Prelude.{◌≡◌, ℕ, ◌<◌, ◌≤◌, max, List, [], ◌∷◌, map, length}
use Rattle.std.proofs.Common.{arith, ap, get_or, zero, suc}
use denote.Param.Weighed.{most, w_this}
use Rattle.tableau_core.specs.Numbered.Closings.{closing_size, closing_list_size}
use Rattle.tableau_core.specs.Numbered.ClosingView.{the_closing}
use Rattle.tableau_core.specs.declared.closing.Closing.{Closing}
use Rattle.tableau_core.specs.declared.closing.Closing.TheVariants.{Reduce, Extend, the_data}
use Rattle.tableau_core.specs.declared.closing.ClosingList.TheDeep.{deep-Closing}

pub deep-Closing-le-size : (c : Closing) → deep-Closing c ≤ closing_size (the_closing c)
deep-Closing-le-size (Reduce n) = omega arith
deep-Closing-le-size (Extend i n cs) = omega arith

pub closing-falls : (cs : List Closing) → max (most (λ t. w_this.weight the_data deep-Closing t) cs) 0 ≤ closing_list_size (map the_closing cs)
closing-falls [] = omega arith
closing-falls (c ∷ cs) = omega (arith, deep-Closing-le-size c, closing-falls cs)

-- an item is smaller than its list
pub closing_size-item : (cs : List Closing) (k : ℕ) (c d : Closing) → k < length cs → c ≡ get_or cs k d → closing_size (the_closing c) < closing_list_size (map the_closing cs)
closing_size-item [] k c d h e = absurd (omega arith)
closing_size-item (x ∷ cs) zero c d h e = let f : closing_size (the_closing c) ≡ closing_size (the_closing x) = ap (λ y. closing_size (the_closing y)) e in omega arith
closing_size-item (x ∷ cs) (suc k) c d h e = let f = closing_size-item cs k c d (omega arith) e in omega arith

pub ruleset falling = (closing_size-item)
