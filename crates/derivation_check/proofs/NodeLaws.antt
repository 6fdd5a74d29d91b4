-- Each entry of the open sequents is at its place among the parts of the problem's formula.
use Rattle.std.proofs.Common.{◌≡◌, ℕ, zero, suc, ◌<◌, Bool, true, List, [], ◌∷◌, ◌++◌, length, get_or, sym, subst, arith}
use Rattle.calculus.specs.Syntax.{Formula}
use Rattle.derivation_branch.specs.OutlineView.{AreNodes, IsNodeOf}
use Rattle.derivation_branch.specs.declared.addition.Added.{Added}
use Rattle.derivation_branch.specs.declared.addition.Added.TheVariants.{One, Both, Fork}
use Rattle.derivation_check.specs.OpenSequents.{after_added, open_sequents, placed, waiting}
use Rattle.derivation_check.specs.StateView.{AreAtNodes, ArePlaced, StandsOn}
use Rattle.derivation_check.specs.declared.open_sequents.BranchEntry.{BranchEntry}

placed-more : (parts : List Formula) (xs ys : List BranchEntry) → ArePlaced parts xs → ArePlaced parts ys → ArePlaced parts (xs ++ ys)
placed-more parts [] ys h g = g
placed-more parts (x ∷ xs) ys h g = (h.0, placed-more parts xs ys h.1 g)

nodes-open : (parts : List Formula) (o : Bool) (xs : List BranchEntry) (forks : List (ℕ × BranchEntry)) → o ≡ true → AreAtNodes parts (open_sequents o xs forks) → ArePlaced parts xs × AreAtNodes parts (waiting xs forks)
nodes-open parts o xs forks opened h = subst (λ b. AreAtNodes parts (open_sequents b xs forks)) opened h

pub nodes-first : (parts : List Formula) (x : BranchEntry) (ss : List (List BranchEntry)) → ss ≡ (x ∷ []) ∷ [] → IsNodeOf parts x.shared → AreAtNodes parts ss
nodes-first parts x ss e h = subst (AreAtNodes parts) (sym e) ((h, tt), tt)

pub nodes-closed : (parts : List Formula) (o : Bool) (xs : List BranchEntry) (forks : List (ℕ × BranchEntry)) (now : List (List BranchEntry)) → o ≡ true → AreAtNodes parts (open_sequents o xs forks) → now ≡ waiting xs forks → AreAtNodes parts now
nodes-closed parts o xs forks now opened h e = subst (AreAtNodes parts) (sym e) (nodes-open parts o xs forks opened h).1

pub nodes-added : (parts : List Formula) (o : Bool) (xs : List BranchEntry) (forks : List (ℕ × BranchEntry)) (n m : ℕ) (a : Added) (now : List (List BranchEntry)) → o ≡ true → AreAtNodes parts (open_sequents o xs forks) → AreNodes parts a → now ≡ after_added n m a xs (waiting xs forks) → AreAtNodes parts now
nodes-added parts o xs forks n m a now opened h g e = subst (AreAtNodes parts) (sym e) (by a g)
  where
    both : ArePlaced parts xs × AreAtNodes parts (waiting xs forks)
    both = nodes-open parts o xs forks opened h

    by : (b : Added) → AreNodes parts b → AreAtNodes parts (after_added n m b xs (waiting xs forks))
    by (One x) k = (placed-more parts xs (placed n m x ∷ []) both.0 (k, tt), both.1)
    by (Both x y) k = (placed-more parts xs (placed n m x ∷ placed n m y ∷ []) both.0 (k.0, (k.1, tt)), both.1)
    by (Fork x y) k = (placed-more parts xs (placed n m x ∷ []) both.0 (k.0, tt), (placed-more parts xs (placed n m y ∷ []) both.0 (k.1, tt), both.1))

placed-at : (parts : List Formula) (x : BranchEntry) (ys : List BranchEntry) (k : ℕ) → ArePlaced parts ys → k < length ys → x ≡ get_or ys k x → IsNodeOf parts x.shared
placed-at parts x [] k h lt at = absurd (omega (arith, lt))
placed-at parts x (y ∷ ys) zero h lt at = subst (λ (z : BranchEntry). IsNodeOf parts z.shared) (sym at) h.0
placed-at parts x (y ∷ ys) (suc k) h lt at = placed-at parts x ys k h.1 (omega (arith, lt)) at

pub node-stands : (parts : List Formula) (o : Bool) (xs : List BranchEntry) (forks : List (ℕ × BranchEntry)) (x : BranchEntry) → o ≡ true → AreAtNodes parts (open_sequents o xs forks) → StandsOn xs x → IsNodeOf parts x.shared
node-stands parts o xs forks x opened h s = placed-at parts x xs s.0 (nodes-open parts o xs forks opened h).0 s.1 s.2
