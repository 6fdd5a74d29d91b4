-- A depth-first visit spends its steps on members that rise strictly, each of which comes no later than any closed tableau.
use Rattle.std.proofs.Common.{◌≡◌, ℕ, zero, suc, ◌≤◌, List, [], ◌∷◌, ◌++◌, map, Bool, true, false, refl, sym, ◌∙◌, ap, ap₂, subst, Some, slice_get, inl, inr, arith, append_assoc, append-nil}
use Rattle.std.specs.List.{AllByRecursion}
use Rattle.std.specs.Ordering.{ordering_then}
use Rattle.std.specs.Cmp.{IsTotalOrder, tied_itself, nat_cmp_total}
use Rattle.std.specs.declared.cmp.Ordering.{Ordering}
use Rattle.std.specs.declared.cmp.Ordering.TheVariants.{Less, Equal, Greater}
use Rattle.plain_laws.proofs.Every.{each-push}
use Rattle.calculus.specs.Syntax.{Problem}
use Rattle.calculus.specs.Tableaux.{Tableau, HasClosed}
use Rattle.calculus.specs.Choices.{Choice, choice_cmp, choices_cmp, choices_of, ground_choices, IsLive}
use Rattle.calculus.specs.Counting.{IsRising}
use Rattle.calculus.specs.Space.{Member, with_choices, member_cmp, member_of, has_labels, IsEarly}
use Rattle.calculus.proofs.OrderLaws.{choice_cmp_total, choices_cmp_total, member_cmp_total}
use Rattle.search_theory.specs.Exploring.{BeginsWith, BeginsWithOne, PartsBefore, PartInOrder, Covers, IsClosedList, IsMemberAt, Explores, behind, IsIn}

-- ---- what rises

pub rising-tail : {A : Type 0} (cmp : A → A → Ordering) (x : A) (xs : List A) → IsRising cmp (x ∷ xs) → IsRising cmp xs
rising-tail cmp x [] h = tt
rising-tail cmp x (y ∷ ys) h = h.1

pub rising-join : {A : Type 0} (cmp : A → A → Ordering) (xs : List A) (p : A) (ys : List A) → IsRising cmp (xs ++ p ∷ []) → IsRising cmp (p ∷ ys) → IsRising cmp (xs ++ p ∷ ys)
rising-join cmp [] p ys h g = g
rising-join cmp (x ∷ []) p ys h g = (h.0, g)
rising-join cmp (x ∷ y ∷ xs) p ys h g = (h.0, rising-join cmp (y ∷ xs) p ys h.1 g)

pub rising-front : {A : Type 0} (cmp : A → A → Ordering) (xs : List A) (p : A) (ys : List A) → IsRising cmp (xs ++ p ∷ ys) → IsRising cmp (xs ++ p ∷ [])
rising-front cmp [] p ys h = tt
rising-front cmp (x ∷ []) p ys h = (h.0, tt)
rising-front cmp (x ∷ y ∷ xs) p ys h = (h.0, rising-front cmp (y ∷ xs) p ys h.1)

pub rising-alone : {A : Type 0} (cmp : A → A → Ordering) (xs ys : List A) → IsRising cmp (xs ++ ys) → IsRising cmp xs
rising-alone cmp [] ys h = tt
rising-alone cmp (x ∷ []) ys h = tt
rising-alone cmp (x ∷ y ∷ xs) ys h = (h.0, rising-alone cmp (y ∷ xs) ys h.1)

pub rising-skip : {A : Type 0} {cmp : A → A → Ordering} → IsTotalOrder cmp → (xs : List A) (p : A) (ys : List A) → IsRising cmp (xs ++ p ∷ ys) → IsRising cmp (xs ++ ys)
rising-skip {cmp = cmp} o [] p ys h = rising-tail cmp p ys h
rising-skip o (x ∷ []) p [] h = tt
rising-skip o (x ∷ []) p (q ∷ ys) h = (o.trans x p q h.0 h.1.0, h.1.1)
rising-skip o (x ∷ y ∷ xs) p ys h = (h.0, rising-skip o (y ∷ xs) p ys h.1)

-- ---- lists and their beginnings

pub choices-common : (c a b : List Choice) → choices_cmp (c ++ a) (c ++ b) ≡ choices_cmp a b
choices-common [] a b = refl
choices-common (x ∷ c) a b = ap (λ o. ordering_then o (choices_cmp (c ++ a) (c ++ b))) (tied_itself choice_cmp_total x) ∙ choices-common c a b

-- p is less than each longer list that begins with it
pub longer-less : (p : List Choice) (x : Choice) (more : List Choice) → choices_cmp p (p ++ x ∷ more) ≡ Less
longer-less [] x more = refl
longer-less (y ∷ p) x more = ap (λ o. ordering_then o (choices_cmp p (p ++ x ∷ more))) (tied_itself choice_cmp_total y) ∙ longer-less p x more

-- a list that parts before another, with anything behind both
pub parted-less : (p q a b : List Choice) → PartsBefore p q → choices_cmp (p ++ a) (q ++ b) ≡ Less
parted-less p q a b h =
    let left : p ++ a ≡ h.common ++ h.earlier ∷ (h.rest_before ++ a) = ap (λ xs. xs ++ a) h.is_before ∙ append_assoc h.common (h.earlier ∷ h.rest_before) a in
    let right : q ++ b ≡ h.common ++ h.later ∷ (h.rest_after ++ b) = ap (λ xs. xs ++ b) h.is_after ∙ append_assoc h.common (h.later ∷ h.rest_after) b in
    ap₂ choices_cmp left right ∙ choices-common h.common (h.earlier ∷ (h.rest_before ++ a)) (h.later ∷ (h.rest_after ++ b)) ∙ ap (λ o. ordering_then o (choices_cmp (h.rest_before ++ a) (h.rest_after ++ b))) h.less

pub parted-behind : (p q : List Choice) (x : Choice) → PartsBefore p q → PartsBefore (p ++ x ∷ []) q
parted-behind p q x h = record { common = h.common; earlier = h.earlier; later = h.later; rest_before = h.rest_before ++ x ∷ []; rest_after = h.rest_after; is_before = ap (λ xs. xs ++ x ∷ []) h.is_before ∙ append_assoc h.common (h.earlier ∷ h.rest_before) (x ∷ []); is_after = h.is_after; less = h.less }

pub parted-siblings : (p : List Choice) (x y : Choice) → choice_cmp x y ≡ Less → PartsBefore (p ++ x ∷ []) (p ++ y ∷ [])
parted-siblings p x y l = record { common = p; earlier = x; later = y; rest_before = []; rest_after = []; is_before = refl; is_after = refl; less = l }

-- ---- covers

pub covers-drop : (W : List Choice → Type 0) (p : List Choice) (ps : List (List Choice)) → Covers W (p ∷ ps) → ((b : List Choice) → W b → ¬ BeginsWith p b) → Covers W ps
covers-drop W p ps h none b w = elim (h b w) [ inl k ↦ absurd (none b w k) | inr k ↦ k ]

pub begins-left : (xs ys : List (List Choice)) (b : List Choice) → BeginsWithOne xs b → BeginsWithOne (xs ++ ys) b
begins-left [] ys b h = absurd h
begins-left (x ∷ xs) ys b (inl h) = inl h
begins-left (x ∷ xs) ys b (inr h) = inr (begins-left xs ys b h)

pub begins-right : (xs ys : List (List Choice)) (b : List Choice) → BeginsWithOne ys b → BeginsWithOne (xs ++ ys) b
begins-right [] ys b h = h
begins-right (x ∷ xs) ys b h = inr (begins-right xs ys b h)

pub covers-visit : (W : List Choice → Type 0) (p : List Choice) (ps kids : List (List Choice)) → Covers W (p ∷ ps) → ((b : List Choice) → W b → BeginsWith p b → BeginsWithOne kids b) → Covers W (kids ++ ps)
covers-visit W p ps kids h down b w = elim (h b w) [ inl k ↦ begins-left kids ps b (down b w k) | inr k ↦ begins-right kids ps b k ]

-- a list behind p, by its next choice
pub begins-behind : (p : List Choice) (xs : List Choice) (x : Choice) (more b : List Choice) → IsIn x xs → b ≡ p ++ x ∷ more → BeginsWithOne (behind p xs) b
begins-behind p [] x more b i e = let z = i.1 in cc z
begins-behind p (y ∷ xs) x more b i e = by i.0 i.1 (λ j. begins-behind p xs x more b j e)
  where
    by : (k : ℕ) → slice_get (y ∷ xs) k ≡ Some x → (IsIn x xs → BeginsWithOne (behind p xs) b) → BeginsWithOne (behind p (y ∷ xs)) b
    by zero f ih = let q : x ≡ y = cc f in inl (more, e ∙ ap (λ z. p ++ z ∷ more) q ∙ sym (append_assoc p (y ∷ []) more))
    by (suc k) f ih = inr (ih (k, f))

-- ---- the steps of the visit

pub member-choices : (d : ℕ) (p q : List Choice) → member_cmp (with_choices d p) (with_choices d q) ≡ choices_cmp p q
member-choices d p q = ap (λ o. ordering_then o (choices_cmp p q)) (tied_itself nat_cmp_total d)

pub tail-parted : (p : List Choice) (qs : List (List Choice)) → PartInOrder (p ∷ qs) → PartInOrder qs
tail-parted p [] k = tt
tail-parted p (q ∷ qs) k = k.1

-- a list that cannot be continued to a closed tableau is given up
pub explore-drop : (P : Problem) (d : ℕ) (spent : List Member) (p : List Choice) (ps : List (List Choice)) → Explores P d spent (p ∷ ps) → ((b : List Choice) → IsClosedList P d b → ¬ BeginsWith p b) → Explores P d spent ps
explore-drop P d spent p ps h none = record {
  members = h.members;
  rising = rising-skip member_cmp_total spent (with_choices d p) (map (with_choices d) ps) h.rising;
  parted = tail-parted p ps h.parted;
  covers = covers-drop (IsClosedList P d) p ps h.covers none;
}

-- the choices rise
abbrev pub Rise : List Choice → Type 0
Rise xs = IsRising choice_cmp xs

pub kids-parted : (p : List Choice) (xs : List Choice) (ps : List (List Choice)) → Rise xs → PartInOrder (p ∷ ps) → PartInOrder (behind p xs ++ ps)
kids-parted p [] [] r h = tt
kids-parted p [] (q ∷ ps) r h = h.1
kids-parted p (x ∷ []) [] r h = tt
kids-parted p (x ∷ []) (q ∷ ps) r h = (parted-behind p q x h.0, h.1)
kids-parted p (x ∷ y ∷ xs) ps r h = (parted-siblings p x y r.0, kids-parted p (y ∷ xs) ps r.1 h)

-- what parts in order rises
pub parted-rising : (d : ℕ) (ps : List (List Choice)) → PartInOrder ps → IsRising member_cmp (map (with_choices d) ps)
parted-rising d [] h = tt
parted-rising d (p ∷ []) h = tt
parted-rising d (p ∷ q ∷ ps) h = (member-choices d p q ∙ ap₂ choices_cmp (sym (append-nil p)) (sym (append-nil q)) ∙ parted-less p q [] [] h.0, parted-rising d (q ∷ ps) h.1)

-- p before its children, or before what comes after it
pub visited-rising : (d : ℕ) (p : List Choice) (xs : List Choice) (ps : List (List Choice)) → Rise xs → PartInOrder (p ∷ ps) → IsRising member_cmp (with_choices d p ∷ map (with_choices d) (behind p xs ++ ps))
visited-rising d p [] [] r h = tt
visited-rising d p [] (q ∷ ps) r h = ((parted-rising d (p ∷ q ∷ ps) h).0, parted-rising d (q ∷ ps) h.1)
visited-rising d p (x ∷ xs) ps r h = (member-choices d p (p ++ x ∷ []) ∙ longer-less p x [], parted-rising d (behind p (x ∷ xs) ++ ps) (kids-parted p (x ∷ xs) ps r h))

pub member-live : (P : Problem) (d : ℕ) (p : List Choice) → 1 ≤ d → IsLive P d p → IsMemberAt P d (with_choices d p)
member-live P d p from live = record { member = record { from_one = from; up_to = omega arith; reached = live }; limit = refl }

-- a step is spent for a live list, and its children are to be tried
pub explore-visit : (P : Problem) (d : ℕ) (spent : List Member) (p : List Choice) (ps : List (List Choice)) (xs : List Choice) → Explores P d spent (p ∷ ps) → 1 ≤ d → IsLive P d p → Rise xs → ((b : List Choice) → IsClosedList P d b → BeginsWith p b → BeginsWithOne (behind p xs) b) → Explores P d (spent ++ with_choices d p ∷ []) (behind p xs ++ ps)
explore-visit P d spent p ps xs h from live r down = record {
  members = each-push (IsMemberAt P d) spent (with_choices d p) h.members (member-live P d p from live);
  rising = subst (IsRising member_cmp) (sym (append_assoc spent (with_choices d p ∷ []) (map (with_choices d) (behind p xs ++ ps)))) (rising-join member_cmp spent (with_choices d p) (map (with_choices d) (behind p xs ++ ps)) (rising-front member_cmp spent (with_choices d p) (map (with_choices d) ps) h.rising) (visited-rising d p xs ps r h.parted));
  parted = kids-parted p xs ps r h.parted;
  covers = covers-visit (IsClosedList P d) p ps (behind p xs) h.covers down;
}

-- nothing is pending: no tableau is closed within the limit
pub explored : (P : Problem) (d : ℕ) (spent : List Member) → Explores P d spent [] → ¬ HasClosed P d
explored P d spent h k = h.covers (choices_of (ground_choices k.tableau)) (k.tableau, k.closed, refl)

-- ---- each member for which a step was spent is early

-- not after
abbrev pub NotAfter : Ordering → Type 0
NotAfter o = ¬ (o ≡ Greater)

less-not-after : (o : Ordering) → o ≡ Less → NotAfter o
less-not-after o e g = let z : Less ≡ Greater = sym e ∙ g in cc z

begins-not-after : (p b : List Choice) → BeginsWith p b → NotAfter (choices_cmp p b)
begins-not-after p b ([], e) = λ g. let q : b ≡ p = e ∙ append-nil p in let z : Equal ≡ Greater = sym (tied_itself choices_cmp_total p) ∙ ap (choices_cmp p) (sym q) ∙ g in cc z
begins-not-after p b (x ∷ more, e) = less-not-after (choices_cmp p b) (ap (choices_cmp p) e ∙ longer-less p x more)

-- the first pending list is not after any list that begins with a pending one
pub first-not-after : (p : List Choice) (ps : List (List Choice)) (b : List Choice) → PartInOrder (p ∷ ps) → BeginsWithOne (p ∷ ps) b → NotAfter (choices_cmp p b)
first-not-after p ps b h (inl k) = begins-not-after p b k
first-not-after p [] b h (inr k) = absurd k
first-not-after p (q ∷ ps) b h (inr k) = less-not-after (choices_cmp p b) (less-all (q ∷ ps) (chain q ps h) k)
  where
    less-all : (qs : List (List Choice)) → AllByRecursion (λ (q : List Choice). (more : List Choice) → choices_cmp p (q ++ more) ≡ Less) qs → BeginsWithOne qs b → choices_cmp p b ≡ Less
    less-all [] l m = absurd m
    less-all (x ∷ qs) l (inl m) = ap (choices_cmp p) m.1 ∙ l.0 m.0
    less-all (x ∷ qs) l (inr m) = less-all qs l.1 m

    at-once : (u v more : List Choice) → PartsBefore u v → choices_cmp u (v ++ more) ≡ Less
    at-once u v more t = ap (λ xs. choices_cmp xs (v ++ more)) (sym (append-nil u)) ∙ parted-less u v [] more t

    chain-on : (u : List Choice) (qs : List (List Choice)) → choices_cmp p u ≡ Less → PartInOrder (u ∷ qs) → AllByRecursion (λ (q : List Choice). (more : List Choice) → choices_cmp p (q ++ more) ≡ Less) qs
    chain-on u [] l t = tt
    chain-on u (v ∷ qs) l t = ((λ more. choices_cmp_total.trans p u (v ++ more) l (at-once u v more t.0)), chain-on v qs (choices_cmp_total.trans p u v l (ap (choices_cmp u) (sym (append-nil v)) ∙ at-once u v [] t.0)) t.1)

    chain : (q : List Choice) (qs : List (List Choice)) → PartInOrder (p ∷ q ∷ qs) → AllByRecursion (λ (x : List Choice). (more : List Choice) → choices_cmp p (x ++ more) ≡ Less) (q ∷ qs)
    chain q qs t = ((λ more. at-once p q more t.0), chain-on q qs (ap (choices_cmp p) (sym (append-nil q)) ∙ at-once p q [] t.0) t.1)

-- the member of a list against the member of a closed tableau with the list b
pub member-against : (P : Problem) (d : ℕ) (p : List Choice) (t : Tableau) → NotAfter (choices_cmp p (choices_of (ground_choices t))) → NotAfter (member_cmp (with_choices d p) (member_of P d t))
member-against P d p t n = by (has_labels P.setting.logic) refl
  where
    b : List Choice
    b = choices_of (ground_choices t)

    by : (l : Bool) → has_labels P.setting.logic ≡ l → NotAfter (member_cmp (with_choices d p) (member_of P d t))
    by true e g = labelled (choices_cmp p (choices_of (ground_choices t))) n (sym (ap (λ o. ordering_then o (ordering_then (choices_cmp p (choices_of (ground_choices t))) Less)) (tied_itself nat_cmp_total d)) ∙ (rw e at g))
      where
        labelled : (o : Ordering) → NotAfter o → NotAfter (ordering_then o Less)
        labelled Less m k = m k
        labelled Equal m k = let z : Less ≡ Greater = k in cc z
        labelled Greater m k = m refl
    by false e g = n (sym (member-choices d p (choices_of (ground_choices t))) ∙ (rw e at g))

-- the first pending list is early, where it is live
pub early-first : (P : Problem) (d : ℕ) (spent : List Member) (p : List Choice) (ps : List (List Choice)) → Explores P d spent (p ∷ ps) → 1 ≤ d → IsLive P d p → IsEarly P d (with_choices d p)
early-first P d spent p ps h from live = record {
  member = (member-live P d p from live).member;
  limit = refl;
  before = λ t c. member-against P d p t (first-not-after p ps (choices_of (ground_choices t)) h.parted (h.covers (choices_of (ground_choices t)) (t, c, refl)));
}
