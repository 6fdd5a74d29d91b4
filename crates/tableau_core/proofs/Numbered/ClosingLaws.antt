-- Closings that stand for those of the calculus by a table.
use Rattle.std.specs.Prelude.{◌≡◌, List, [], ◌∷◌, ◌++◌, map, length, take, drop, remove, ℕ, zero, suc, ◌+◌, ◌<◌, ◌≤◌, refl}
use Rattle.std.proofs.Common.{◌-◌, ap, sym, ◌∙◌, arith, length-drop}
use Rattle.std.proofs.lemmas.List.{take_all}
use Rattle.calculus.specs.Tableaux as tree
use Rattle.calculus.specs.Lists.{closings_tree}
use Rattle.formula_core.specs.GroundLists.{GroundList}
use Rattle.tableau_core.specs.Numbered.Closings as numbered
use Rattle.tableau_core.specs.Numbered.ClosingView.{closing_in, closings_in, the_closing}
use Rattle.std.proofs.lemmas.Simd.{map-map}
use Rattle.tableau_core.specs.declared.closing.Closing.{Closing}

pub closings-in : (ls : List GroundList) (cs : List numbered.Closing) → closings_in ls (numbered.closings_tree cs) ≡ closings_tree (map (closing_in ls) cs)
closings-in ls [] = refl
closings-in ls (c ∷ cs) = ap (tree.more_closings (closing_in ls c)) (closings-in ls cs)

pub map-remove : {X Y : Type 0} (f : X → Y) (xs : List X) (k : ℕ) → map f (remove xs k) ≡ remove (map f xs) k
map-remove f [] zero = refl
map-remove f [] (suc k) = refl
map-remove f (x ∷ xs) zero = refl
map-remove f (x ∷ xs) (suc k) = ap (λ ys. f x ∷ ys) (map-remove f xs k)

-- what stands before and after a place
pub without : {X : Type 0} (xs : List X) (k : ℕ) → k < length xs → take k xs ++ drop (suc k) xs ≡ remove xs k
without [] k h = absurd (omega (arith, h))
without (x ∷ xs) zero h = refl
without (x ∷ xs) (suc k) h = ap (λ ys. x ∷ ys) (without xs k (omega (arith, h)))

pub without-rest : {X : Type 0} (xs : List X) (k j n : ℕ) → j ≡ suc k → n ≡ length xs - j → k < length xs → take k xs ++ take n (drop j xs) ≡ remove xs k
without-rest xs k j n e m h =
    let l = length-drop j xs in
    let r : take n (drop j xs) ≡ drop j xs = take_all n (drop j xs) (omega (arith, m, l)) in
    ap (λ ys. take k xs ++ ys) (r ∙ ap (λ i. drop i xs) e) ∙ without xs k h

pub ruleset removing = (without-rest)

pub items-closings : (ls : List GroundList) (items : List Closing) (cs : List numbered.Closing) → map the_closing items ≡ cs → map (λ y. closing_in ls (the_closing y)) items ≡ map (closing_in ls) cs
items-closings ls items cs e = sym (map-map (closing_in ls) the_closing items) ∙ ap (map (closing_in ls)) e
