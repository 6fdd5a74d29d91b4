-- The start of a search at one limit, where a limit is left, and what deepening over the limits answers and counts.
use Rattle.std.proofs.Common.{◌≡◌, ◌⊎◌, ℕ, zero, suc, ◌+◌, ◌<◌, ◌≤◌, List, [], ◌∷◌, ◌++◌, ◌&&◌, IsTrue, refl, sym, ap, subst, Option, Some, None, slice_get, nat_lt, inl, inr, arith, IsSomeAnd, ltb-true, lt-ltb}
use Rattle.std.specs.List.{list_all, AllByRecursion}
use Rattle.std.proofs.lemmas.Bool.{cases_lt, and_parts}
use Rattle.std.specs.Ordering.{ordering_then}
use Rattle.std.specs.declared.cmp.Ordering.TheVariants.{Less, Greater}
use Rattle.plain_laws.proofs.Every.{all-weaken}
use Rattle.plain_laws.proofs.Numbers.{cmp-less}
use Rattle.calculus.specs.declared.sign.Side.{Side}
use Rattle.calculus.specs.Syntax.{Problem}
use Rattle.calculus.specs.Instances.{ClauseInstance}
use Rattle.calculus.specs.ComputedInstances.{is_instance}
use Rattle.calculus.specs.Tableaux.{HasClosed, is_shown}
use Rattle.calculus.specs.Choices.{start, reduction, extension, Choice, GroundChoice, choices_of, ground_choices, selection_cmp, choice_cmp, choices_cmp, Growth, after_start, growth_of, is_within, has_depth, is_regular, IsLeft}
use Rattle.calculus.specs.Counting.{IsRising}
use Rattle.calculus.specs.Space.{Member, with_choices, with_lengths, limit_of, IsMember, member_cmp, lengths_cmp, derived, exhausted, no_tableau, IsAnswer}
use Rattle.calculus.proofs.GrowthLaws.{closed-parts, allowed-instance}
use Rattle.calculus.proofs.LimitLaws.{none-beyond}
use Rattle.search_theory.specs.States.{State, IsStateOf}
use Rattle.search_theory.specs.Exploring.{BeginsWithOne, Covers, PartInOrder, IsLeftList, Explores, behind, IsIn}
use Rattle.search_theory.proofs.LastChoice.{none≢some}
use Rattle.search_theory.proofs.StepLaws.{if-some}
use Rattle.search_theory.proofs.ExploreLaws.{parted-siblings, parted-rising, begins-behind}

-- ---- states at a greater limit

cell-more : (n d e : ℕ) → d ≤ e → IsTrue (nat_lt n d) → IsTrue (nat_lt n e)
cell-more n d e l h = let q : n < d = ltb-true n d h in lt-ltb n e (omega (arith, q, l))

-- what is a state within a limit is one within each greater limit
pub state-more : (P : Problem) (d e : ℕ) (c : List Choice) (S : State) → d ≤ e → IsStateOf P d c S → IsStateOf P e c S
state-more P d e c S l h = record { names = h.names; within = all-weaken (λ n. nat_lt n d) (λ n. nat_lt n e) (λ n. cell-more n d e l) S.growth.depths h.within; cells = h.cells; sound = h.sound; complete = h.complete }

-- ---- where the limit is left

-- nothing is pending: the limit is not left
pub not-left : (P : Problem) (d : ℕ) → Covers (IsLeftList P d) [] → ¬ IsLeft P d
not-left P d h (gs, k) = by (growth_of P gs) refl k
  where
    by : (o : Option Growth) → growth_of P gs ≡ o → IsSomeAnd o (λ x. IsTrue (is_within (d + 1) x && has_depth d x && is_regular x)) → ⊥
    by None e q = elim q [ ]
    by (Some x) e q = h (choices_of gs) (gs, x, e, q, refl)

-- ---- the start

abbrev pub starting : List (List Side) → List Choice
starting [] = []
starting (ss ∷ rest) = start ss ∷ starting rest

pub starting-rises : (sss : List (List Side)) → IsRising selection_cmp sss → IsRising choice_cmp (starting sss)
starting-rises [] h = tt
starting-rises (s ∷ []) h = tt
starting-rises (s ∷ t ∷ rest) h = (h.0, starting-rises (t ∷ rest) h.1)

starting-in : (sss : List (List Side)) (ss : List Side) → IsIn ss sss → IsIn (start ss) (starting sss)
starting-in [] ss i = let z = i.1 in cc z
starting-in (t ∷ rest) ss i = by i.0 i.1 (starting-in rest ss)
  where
    by : (k : ℕ) → slice_get (t ∷ rest) k ≡ Some ss → (IsIn ss rest → IsIn (start ss) (starting rest)) → IsIn (start ss) (starting (t ∷ rest))
    by zero e ih = let q : t ≡ ss = cc e in (0, ap (λ x. Some (start x)) q)
    by (suc k) e ih = let r = ih (k, e) in (suc r.0, r.1)

behind-parted : (p : List Choice) (xs : List Choice) → IsRising choice_cmp xs → PartInOrder (behind p xs)
behind-parted p [] h = tt
behind-parted p (x ∷ []) h = tt
behind-parted p (x ∷ y ∷ xs) h = (parted-siblings p x y h.0, behind-parted p (y ∷ xs) h.1)

-- the clause of a selection may start a tree
abbrev pub MayStart : Problem → List Side → Type 0
MayStart P ss = (i : ClauseInstance) × (i.selection ≡ ss) × IsTrue (is_instance P i) × IsTrue (list_all is_shown i.literals)

-- before the first step, where the selections rise and hold each one that may start a tree
pub explore-start : (P : Problem) (d : ℕ) (sss : List (List Side)) → IsRising selection_cmp sss → ((ss : List Side) → MayStart P ss → IsIn ss sss) → Explores P d [] (behind [] (starting sss))
explore-start P d sss r all_in = record {
  members = tt;
  rising = parted-rising d (behind [] (starting sss)) (behind-parted [] (starting sss) (starting-rises sss r));
  parted = behind-parted [] (starting sss) (starting-rises sss r);
  covers = λ b (t, c, e).
      let k = closed-parts P d t c in
      let i = all_in t.start.selection (t.start, refl, allowed-instance P t.start k.allowed, k.all_shown) in
      begins-behind [] (starting sss) (start t.start.selection) (tail (choices_of (ground_choices t))) b (starting-in sss t.start.selection i) (sym e);
}
  where
    tail : List Choice → List Choice
    tail [] = []
    tail (x ∷ xs) = xs

pub left-start : (P : Problem) (d : ℕ) (sss : List (List Side)) → ((ss : List Side) → MayStart P ss → IsIn ss sss) → Covers (IsLeftList P d) (behind [] (starting sss))
left-start P d sss all_in b (gs, x, g, h, e) = by gs g e
  where
    started : (i : ClauseInstance) (o : Option Growth) → o ≡ after_start P i → ¬ (o ≡ None) → IsTrue (is_instance P i) × IsTrue (list_all is_shown i.literals)
    started i None q n = absurd (n refl)
    started i (Some y) q n =
        let z = if-some (is_instance P i && list_all is_shown i.literals) _ y (sym q) in
        and_parts (is_instance P i) (list_all is_shown i.literals) z.0

    grown : (i : ClauseInstance) (cs : List GroundChoice) → growth_of P (start i ∷ cs) ≡ Some x → ¬ (after_start P i ≡ None)
    grown i cs q none = none≢some x (rw none at q)

    by : (hs : List GroundChoice) → growth_of P hs ≡ Some x → choices_of hs ≡ b → BeginsWithOne (behind [] (starting sss)) b
    by [] q f = none≢some x q
    by (reduction up ∷ cs) q f = none≢some x q
    by (extension i place ∷ cs) q f = none≢some x q
    by (start i ∷ cs) q f =
        let s = started i (after_start P i) refl (grown i cs q) in
        begins-behind [] (starting sss) (start i.selection) (choices_of cs) b (starting-in sss i.selection (all_in i.selection (i, refl, s.0, s.1))) (sym f)

-- ---- the answer

-- what the search at each limit from 1 to d found: no closed tableau, and that the limit is left
pub record PassedTo (P : Problem) (d : ℕ) : Type 0 where
  pub none : (e : ℕ) → 1 ≤ e → e ≤ d → ¬ HasClosed P e
  pub left : (e : ℕ) → 1 ≤ e → e ≤ d → IsLeft P e

pub passed-more : (P : Problem) (d : ℕ) → PassedTo P d → ¬ HasClosed P (suc d) → IsLeft P (suc d) → PassedTo P (suc d)
passed-more P d h n l = record { none = λ e a b. by-none e a (same-or-less e (suc d) b); left = λ e a b. by-left e a (same-or-less e (suc d) b) }
  where
    same-or-less : (e f : ℕ) → e ≤ f → (e < f) ⊎ (e ≡ f)
    same-or-less e f b = elim (cases_lt e f) [ inl l ↦ inl l | inr g ↦ inr (omega (arith, b, g)) ]

    by-none : (e : ℕ) → 1 ≤ e → (e < suc d) ⊎ (e ≡ suc d) → ¬ HasClosed P e
    by-none e a (inl l2) = h.none e a (omega (arith, l2))
    by-none e a (inr q) = subst (λ k. ¬ HasClosed P k) (sym q) n

    by-left : (e : ℕ) → 1 ≤ e → (e < suc d) ⊎ (e ≡ suc d) → IsLeft P e
    by-left e a (inl l2) = h.left e a (omega (arith, l2))
    by-left e a (inr q) = subst (IsLeft P) (sym q) l

pub answer-derived : (P : Problem) (m d : ℕ) → PassedTo P d → suc d ≤ m → HasClosed P (suc d) → IsAnswer P m (derived (suc d))
answer-derived P m d h l k = (omega arith, l, k, (λ e a b. h.none e a (omega (arith, b))))

pub answer-no_tableau : (P : Problem) (m d : ℕ) → PassedTo P d → suc d ≤ m → ¬ HasClosed P (suc d) → ¬ IsLeft P (suc d) → IsAnswer P m (no_tableau (suc d))
answer-no_tableau P m d h l n nl = (omega arith, l, none-beyond P (suc d) nl n m, nl, (λ e a b. h.left e a (omega (arith, b))))

pub answer-exhausted : (P : Problem) (m : ℕ) → 1 ≤ m → PassedTo P m → IsAnswer P m (exhausted m)
answer-exhausted P m l h = (refl, h.none m l (omega arith), h.left)

-- ---- the count over the limits

-- members of a lower limit come first
pub lower-less : (m n : Member) → limit_of m < limit_of n → member_cmp m n ≡ Less
lower-less (with_choices a c) (with_choices e b) l = ap (λ o. ordering_then o (choices_cmp c b)) (cmp-less a e l)
lower-less (with_choices a c) (with_lengths e b ns) l = ap (λ o. ordering_then o (ordering_then (choices_cmp c b) Less)) (cmp-less a e l)
lower-less (with_lengths a c ms) (with_choices e b) l = ap (λ o. ordering_then o (ordering_then (choices_cmp c b) Greater)) (cmp-less a e l)
lower-less (with_lengths a c ms) (with_lengths e b ns) l = ap (λ o. ordering_then o (ordering_then (choices_cmp c b) (lengths_cmp ms ns))) (cmp-less a e l)

pub limits-join : (d : ℕ) (xs ys : List Member) → IsRising member_cmp xs → IsRising member_cmp ys → AllByRecursion (λ m. limit_of m ≤ d) xs → AllByRecursion (λ m. d < limit_of m) ys → IsRising member_cmp (xs ++ ys)
limits-join d [] ys r t a b = t
limits-join d (x ∷ []) [] r t a b = tt
limits-join d (x ∷ []) (y ∷ ys) r t a b = (lower-less x y (let l = a.0 in let m = b.0 in omega (arith, l, m)), t)
limits-join d (x ∷ z ∷ xs) ys r t a b = (r.0, limits-join d (z ∷ xs) ys r.1 t a.1 b)

-- the members for which the searches up to the limit d have spent their steps
pub record SpentTo (P : Problem) (d : ℕ) (spent : List Member) : Type 0 where
  pub rising : IsRising member_cmp spent
  pub members : AllByRecursion (IsMember P d) spent

pub spent-none : (P : Problem) → SpentTo P 0 []
spent-none P = record { rising = tt; members = tt }

pub member-more : (P : Problem) (d e : ℕ) (m : Member) → d ≤ e → IsMember P d m → IsMember P e m
member-more P d e m l h = record { from_one = h.from_one; up_to = (let u = h.up_to in omega (arith, u, l)); reached = h.reached }
