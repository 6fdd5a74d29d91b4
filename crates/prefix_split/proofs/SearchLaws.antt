-- The search through the lists of lengths: how it begins, goes on and ends.
use Rattle.std.proofs.Common.{◌≡◌, ℕ, ◌+◌, ◌-◌, ◌≤◌, List, [], ◌∷◌, ◌++◌, length, Bool, true, IsTrue, refl, sym, ◌∙◌, ap, subst, arith, length-append}
use Rattle.std.specs.List.{AllByRecursion}
use Rattle.std.specs.Ordering.{ordering_reverse}
use Rattle.std.specs.declared.cmp.Ordering.{Ordering}
use Rattle.std.specs.declared.cmp.Ordering.TheVariants.{Less, Equal, Greater}
use Rattle.plain_laws.proofs.Every.{each-push}
use Rattle.calculus.specs.declared.setting.Logic.{Logic}
use Rattle.store_theory.specs.Bindings.{AddsBuilt}
use Rattle.calculus.specs.Counting.{IsRising, MoreThan}
use Rattle.calculus.specs.Instances.{GammaUse}
use Rattle.calculus.specs.Space.{has_labels, lengths_cmp}
use Rattle.calculus.specs.Syntax.{Problem}
use Rattle.store_theory.specs.Stores.{Store, Solution, Solves}
use Rattle.store_theory.specs.Systems.{System, AreEarly, AreEqual, AreTried, Differ, HasBoundedSolution, HasSolution, IsStep, MeetsDemand, OwnSparesSolve, is_system}
use Rattle.calculus.proofs.OrderLaws.{lengths_cmp-IsAntisymmetric, lengths_cmp_total}
use Rattle.search_theory.proofs.BuildingLaws.{adds-back, adds-forth}
use Rattle.search_theory.proofs.LabelledEnd.{early-by_smaller}
use Rattle.search_theory.proofs.SolvingLaws.{bounded-agree}
use Rattle.term_store.specs.Asking.{Asks}
use Rattle.prefix_split.specs.Later.{IsFoundIn}
use Rattle.prefix_split.specs.LengthLists.{least_of, AreWithin, IsFirst, IsLast, IsNext}
use Rattle.prefix_split.specs.LengthSearch.{IsCounted, IsRangeOf, StandsAt}
use Rattle.prefix_split.proofs.LengthListLaws.{tried-within, within-tried}

-- ---- the range

pub tried-in : (l : Logic) (y : System) (x p : ℕ) (ns : List ℕ) → IsRangeOf l y x p → AreTried l y ns → AreWithin x p ns
tried-in l y x p ns r h = subst (λ z. AreWithin z p ns) (sym r.least) (subst (λ z. AreWithin (least_of l) z ns) (sym r.spread) (tried-within l y ns h).0)

pub in-tried : (l : Logic) (y : System) (x p : ℕ) (ns : List ℕ) → IsTrue (has_labels l) → IsRangeOf l y x p → AreWithin x p ns → length ns ≡ length y.strings → AreTried l y ns
in-tried l y x p ns k r h e = within-tried l y ns k (subst (λ z. AreWithin (least_of l) z ns) r.spread (subst (λ z. AreWithin z p ns) r.least h)) e

-- ---- lists that rise

rising-more : (xs : List (List ℕ)) (ns ms : List ℕ) → IsRising lengths_cmp (xs ++ ns ∷ []) → lengths_cmp ns ms ≡ Less → IsRising lengths_cmp ((xs ++ ns ∷ []) ++ ms ∷ [])
rising-more [] ns ms h e = (e, tt)
rising-more (z ∷ []) ns ms h e = (h.0, (e, tt))
rising-more (z ∷ w ∷ xs) ns ms h e = (h.0, rising-more (w ∷ xs) ns ms h.1 e)

-- what holds of the lists before, at and after this one holds of all
by-order : (Q : List ℕ → Type 0) (ns ms : List ℕ) (o : Ordering) → lengths_cmp ms ns ≡ o → (lengths_cmp ms ns ≡ Less → Q ms) → Q ns → (lengths_cmp ns ms ≡ Less → Q ms) → Q ms
by-order Q ns ms Less e before here after = before e
by-order Q ns ms Equal e before here after = subst Q (sym (lengths_cmp-IsAntisymmetric ms ns e)) here
by-order Q ns ms Greater e before here after = after (lengths_cmp_total.antisymm ns ms ∙ ap ordering_reverse e)

-- ---- the search

pub stands-first : (l : Logic) (Demanded : List GammaUse → Type 0) (s : Store) (y : System) (x p : ℕ) (ns : List ℕ) (begun : ℕ) → IsTrue (has_labels l) → IsRangeOf l y x p → IsFirst x p (length y.strings) ns → StandsAt l Demanded s y ns begun (begun + 1)
stands-first l Demanded s y x p ns begun k r h =
    let tried = in-tried l y x p ns k r h.within h.count in
    let none : (ms : List ℕ) → AreTried l y ms → lengths_cmp ms ns ≡ Less → ¬ HasSolution l Demanded s y ms = λ ms t e. absurd (h.before ms (tried-in l y x p ms r t) (tried-within l y ms t).1 e) in
    record {
      tried = tried;
      none = none;
      done = [];
      early = record { rising = tt; members = (early-by_smaller l Demanded s y ns tried none, tt) };
      count = omega arith;
    }

pub stands-next : (l : Logic) (Demanded : List GammaUse → Type 0) (s : Store) (y : System) (x p : ℕ) (ns ms : List ℕ) (begun used : ℕ) → IsTrue (has_labels l) → IsRangeOf l y x p → StandsAt l Demanded s y ns begun used → ¬ HasSolution l Demanded s y ns → IsNext x p ns ms → StandsAt l Demanded s y ms begun (used + 1)
stands-next l Demanded s y x p ns ms begun used k r h here next =
    let long = (tried-within l y ns h.tried).1 in
    let tried = in-tried l y x p ms k r next.within (next.count ∙ long) in
    let none : (ks : List ℕ) → AreTried l y ks → lengths_cmp ks ms ≡ Less → ¬ HasSolution l Demanded s y ks =
    λ ks t e. by-order (λ zs. ¬ HasSolution l Demanded s y zs) ns ks (lengths_cmp ks ns) refl (h.none ks t) here
    (λ q. absurd (next.between ks (tried-in l y x p ks r t) ((tried-within l y ks t).1 ∙ sym long) q e)) in
    let c = h.count in
    let n = length-append h.done (ns ∷ []) in
    record {
      tried = tried;
      none = none;
      done = h.done ++ ns ∷ [];
      early = record { rising = rising-more h.done ns ms h.early.rising next.later; members = each-push (AreEarly l Demanded s y) (h.done ++ ns ∷ []) ms h.early.members (early-by_smaller l Demanded s y ms tried none) };
      count = omega (arith, c, n);
    }

-- the step for this list was taken, or not yet
pub stands-counted : (l : Logic) (Demanded : List GammaUse → Type 0) (s : Store) (y : System) (ns : List ℕ) (begun used now : ℕ) → StandsAt l Demanded s y ns begun used → now ≤ used → used ≤ now + 1 → IsCounted l Demanded s y begun now
stands-counted l Demanded s y ns begun used now h a b =
    let c = h.count in
    let n = length-append h.done (ns ∷ []) in
    record { from = omega (arith, b, c); early = (h.done ++ ns ∷ [], h.early, omega (arith, a, c, n)) }

pub counted-nothing : (l : Logic) (Demanded : List GammaUse → Type 0) (s : Store) (y : System) (begun : ℕ) → IsCounted l Demanded s y begun begun
counted-nothing l Demanded s y begun = record { from = omega arith; early = ([], record { rising = tt; members = tt }, omega arith) }

pub stands-steps : (l : Logic) (Demanded : List GammaUse → Type 0) (s : Store) (y : System) (ns : List ℕ) (begun used budget : ℕ) → StandsAt l Demanded s y ns begun (used + 1) → used ≡ budget → MoreThan lengths_cmp (AreEarly l Demanded s y) (budget - begun)
stands-steps l Demanded s y ns begun used budget h e =
    let c = h.count in
    let n = length-append h.done (ns ∷ []) in
    (h.done ++ ns ∷ [], h.early, omega (arith, c, n, e))

pub stands-none : (l : Logic) (Demanded : List GammaUse → Type 0) (s : Store) (y : System) (x p : ℕ) (ns : List ℕ) (begun used : ℕ) → IsRangeOf l y x p → StandsAt l Demanded s y ns begun used → ¬ HasSolution l Demanded s y ns → IsLast x p ns → ¬ HasBoundedSolution l Demanded s y
stands-none l Demanded s y x p ns begun used r h here last (ms, has) =
    let t : AreTried l y ms = has.1.tried in
    let long = (tried-within l y ns h.tried).1 in
    by-order (λ zs. ¬ HasSolution l Demanded s y zs) ns ms (lengths_cmp ms ns) refl (h.none ms t) here
    (λ q. absurd (last ms (tried-in l y x p ms r t) ((tried-within l y ms t).1 ∙ sym long) q)) has

-- ---- the demand and the store are as at the start

pub none-moved : (l : Logic) (f g : List GammaUse → Bool) (s t : Store) (y : System) (ns ms : List ℕ) → g ≡ f → t ≡ s → ms ≡ ns → ¬ HasSolution l (Asks g) t y ms → ¬ HasSolution l (Asks f) s y ns
none-moved l f g s t y ns ms p q e h =
    subst (λ zs. ¬ HasSolution l (Asks f) s y zs) e
    (subst (λ z. ¬ HasSolution l (Asks z) s y ms) p
    (subst (λ z. ¬ HasSolution l (Asks g) z y ms) q h))

pub found-moved : (b c : Bool) (l : Logic) (f g : List GammaUse → Bool) (u : Store) (y : System) → c ≡ b → g ≡ f → OwnSparesSolve c l (Asks g) u y → OwnSparesSolve b l (Asks f) u y
found-moved b c l f g u y p q h =
    subst (λ z. OwnSparesSolve z l (Asks f) u y) p
    (subst (λ z. OwnSparesSolve c l (Asks z) u y) q h)

pub back-moved : (l : Logic) (P Q : Problem) (y : System) (s t u : Store) → Q ≡ P → t ≡ s → IsFoundIn l Q y t u → IsFoundIn l P y s u
back-moved l P Q y s t u p e h = subst (λ x. IsFoundIn l x y s u) p (subst (λ z. IsFoundIn l Q y z u) e h)

pub bounded-moved : (l : Logic) (f g : List GammaUse → Bool) (s t : Store) (y : System) → g ≡ f → t ≡ s → ¬ HasBoundedSolution l (Asks g) t y → ¬ HasBoundedSolution l (Asks f) s y
bounded-moved l f g s t y p q h =
    subst (λ z. ¬ HasBoundedSolution l (Asks z) s y) p
    (subst (λ z. ¬ HasBoundedSolution l (Asks g) z y) q h)

-- ---- refutations with marks added

-- where no solution of the store with marks added solves the system, none of the store before does
pub refuted-before : (l : Logic) (D : List GammaUse → Type 0) (old new : Store) (y : System) (r : Bool) → IsTrue (is_system old y) → AddsBuilt old new → (r ≡ true → (σ : Solution) → Solves new σ → AllByRecursion (IsStep l σ) y.strings → MeetsDemand D y σ → AllByRecursion (Differ σ) y.pairs → ¬ AllByRecursion (AreEqual σ) y.equations) → r ≡ true → ¬ HasBoundedSolution l D old y
refuted-before l D old new y r h adds none e (ns, has) =
    let σ = has.0 in
    let b = has.1 in
    let (τ, u, agree) = adds-forth old new adds σ b.solution.solves in
    let k = (bounded-agree l D old y ns σ τ h agree (adds-back old new adds τ u) b).solution in
    none e τ u k.steps k.demanded k.apart k.equal
