-- The members for which a search has spent a step are early, and there are as many as steps; where one more would be due, there are more.
use Rattle.std.proofs.Common.{suc, ◌≡◌, ℕ, ◌≤◌, List, [], ◌∷◌, ◌++◌, length, map, IsTrue, refl, sym, ◌∙◌, ap, subst, arith, append_assoc}
use Rattle.std.specs.List.{AllByRecursion}
use Rattle.std.proofs.lemmas.List.{length-append}
use Rattle.std.specs.Ordering.{ordering_then, ordering_reverse}
use Rattle.std.specs.Cmp.{IsTotalOrder, tied_itself, nat_cmp_total}
use Rattle.std.specs.declared.cmp.Ordering.{Ordering}
use Rattle.std.specs.declared.cmp.Ordering.TheVariants.{Less, Equal, Greater}
use Rattle.plain_laws.proofs.Every.{each-push}
use Rattle.calculus.specs.Syntax.{Problem}
use Rattle.calculus.specs.Tableaux.{Tableau, is_closed, HasClosed}
use Rattle.calculus.specs.Choices.{Choice, choices_of, ground_choices, choices_cmp, IsLive}
use Rattle.calculus.specs.Counting.{IsRising, MoreThan, AtLeastMany}
use Rattle.calculus.specs.Space.{Member, with_choices, with_lengths, member_cmp, member_of, IsEarly, lengths_cmp}
use Rattle.calculus.proofs.OrderLaws.{choices_cmp_total, member_cmp_total}
use Rattle.search_theory.specs.Exploring.{BeginsWith, IsClosedList, IsMemberAt, Explores, PartInOrder}
use Rattle.search_theory.proofs.ExploreLaws.{NotAfter, rising-alone, rising-front, rising-join, explored, early-first, member-live, first-not-after, member-against, parted-rising, covers-drop, member-choices, tail-parted}

-- what is before something that is not after z is before z
pub before-not-after : {A : Type 0} {cmp : A → A → Ordering} → IsTotalOrder cmp → (x y z : A) → cmp x y ≡ Less → NotAfter (cmp y z) → cmp x z ≡ Less
before-not-after {cmp = cmp} o x y z l n = by (cmp y z) refl
  where
    by : (p : Ordering) → cmp y z ≡ p → cmp x z ≡ Less
    by Less e = o.trans x y z l e
    by Equal e =
        let same : cmp y x ≡ cmp z x = o.congr y z x e in
        o.antisymm x z ∙ ap ordering_reverse (sym same) ∙ sym (o.antisymm x y) ∙ l
    by Greater e = absurd (n e)

-- ---- what was spent is early

last-before : {A : Type 0} (cmp : A → A → Ordering) → IsTotalOrder cmp → (xs : List A) (p : A) → IsRising cmp (xs ++ p ∷ []) → AllByRecursion (λ x. cmp x p ≡ Less) xs
last-before cmp o [] p h = tt
last-before cmp o (x ∷ []) p h = (h.0, tt)
last-before cmp o (x ∷ y ∷ xs) p h = let k = last-before cmp o (y ∷ xs) p h.1 in (o.trans x y p h.0 k.0, k)

early-by : (P : Problem) (d : ℕ) (spent : List Member) (p : Member) → AllByRecursion (IsMemberAt P d) spent → AllByRecursion (λ m. member_cmp m p ≡ Less) spent → ((t : Tableau) → IsTrue (is_closed P d t) → NotAfter (member_cmp p (member_of P d t))) → AllByRecursion (IsEarly P d) spent
early-by P d [] p h l n = tt
early-by P d (m ∷ spent) p h l n = (
  record { member = h.0.member; limit = h.0.limit; before = λ t c g. let z : Less ≡ Greater = sym (before-not-after member_cmp_total m p (member_of P d t) l.0 (n t c)) ∙ g in cc z },
  early-by P d spent p h.1 l.1 n,
)

pub early-none : (P : Problem) (d : ℕ) (spent : List Member) → AllByRecursion (IsMemberAt P d) spent → ¬ HasClosed P d → AllByRecursion (IsEarly P d) spent
early-none P d [] h n = tt
early-none P d (m ∷ spent) h n = (record { member = h.0.member; limit = h.0.limit; before = λ t c. absurd (n (record { tableau = t; closed = c })) }, early-none P d spent h.1 n)

pub all-early : (P : Problem) (d : ℕ) (spent : List Member) (pending : List (List Choice)) → Explores P d spent pending → AllByRecursion (IsEarly P d) spent
all-early P d spent [] h = early-none P d spent h.members (explored P d spent h)
all-early P d spent (p ∷ ps) h =
    early-by P d spent (with_choices d p) h.members
    (last-before member_cmp member_cmp_total spent (with_choices d p) (rising-front member_cmp spent (with_choices d p) (map (with_choices d) ps) h.rising))
    (λ t c. member-against P d p t (first-not-after p ps (choices_of (ground_choices t)) h.parted (h.covers (choices_of (ground_choices t)) (t, c, refl))))

-- the number of early members is at least that of the steps
pub spent-many : (P : Problem) (d : ℕ) (spent : List Member) (pending : List (List Choice)) → Explores P d spent pending → AtLeastMany member_cmp (IsEarly P d) (length spent)
spent-many P d spent pending h = (spent, record { rising = rising-alone member_cmp spent (map (with_choices d) pending) h.rising; members = all-early P d spent pending h }, omega arith)

-- where a step would be due for the first pending list, there are more early members than steps
pub steps-ended : (P : Problem) (d : ℕ) (spent : List Member) (p : List Choice) (ps : List (List Choice)) → Explores P d spent (p ∷ ps) → 1 ≤ d → IsLive P d p → MoreThan member_cmp (IsEarly P d) (length spent)
steps-ended P d spent p ps h from live = (
  spent ++ with_choices d p ∷ [],
  record { rising = rising-front member_cmp spent (with_choices d p) (map (with_choices d) ps) h.rising; members = each-push (IsEarly P d) spent (with_choices d p) (all-early P d spent (p ∷ ps) h) (early-first P d spent p ps h from live) },
  (let e = length-append spent (with_choices d p ∷ []) in omega (arith, e)),
)

-- ---- lists of lengths, in the logics with labels

-- two lists of lengths of one list, a list before its lengths, and a list of lengths before the next list
pub same-list : (d : ℕ) (p : List Choice) (ms ns : List ℕ) → member_cmp (with_lengths d p ms) (with_lengths d p ns) ≡ lengths_cmp ms ns
same-list d p ms ns = ap (λ o. ordering_then o (ordering_then (choices_cmp p p) (lengths_cmp ms ns))) (tied_itself nat_cmp_total d) ∙ ap (λ o. ordering_then o (lengths_cmp ms ns)) (tied_itself choices_cmp_total p)

pub list-first : (d : ℕ) (p : List Choice) (ns : List ℕ) → member_cmp (with_choices d p) (with_lengths d p ns) ≡ Less
list-first d p ns = ap (λ o. ordering_then o (ordering_then (choices_cmp p p) Less)) (tied_itself nat_cmp_total d) ∙ ap (λ o. ordering_then o Less) (tied_itself choices_cmp_total p)

pub next-list : (d : ℕ) (p : List Choice) (ns : List ℕ) (q : List Choice) → choices_cmp p q ≡ Less → member_cmp (with_lengths d p ns) (with_choices d q) ≡ Less
next-list d p ns q l = ap (λ o. ordering_then o (ordering_then (choices_cmp p q) Greater)) (tied_itself nat_cmp_total d) ∙ ap (λ o. ordering_then o Greater) l

-- a step is spent for the list p, which has no open goal, and one for each of these lists of lengths. No tableau is closed with the list p
pub explore-lengths : (P : Problem) (d : ℕ) (spent : List Member) (p : List Choice) (ps : List (List Choice)) (tried : List (List ℕ)) → Explores P d spent (p ∷ ps) → 1 ≤ d → IsLive P d p → IsRising lengths_cmp tried → AllByRecursion (λ ns. IsMemberAt P d (with_lengths d p ns)) tried → ((b : List Choice) → IsClosedList P d b → ¬ BeginsWith p b) → Explores P d (spent ++ with_choices d p ∷ map (with_lengths d p) tried) ps
explore-lengths P d spent p ps tried h from live r members none = record {
  members = all-join spent (with_choices d p ∷ map (with_lengths d p) tried) h.members (member-live P d p from live, all-lengths tried members);
  rising = subst (IsRising member_cmp) (sym (append_assoc spent (with_choices d p ∷ map (with_lengths d p) tried) (map (with_choices d) ps))) (rising-join member_cmp spent (with_choices d p) (map (with_lengths d p) tried ++ map (with_choices d) ps) (rising-front member_cmp spent (with_choices d p) (map (with_choices d) ps) h.rising) (first-rising tried ps r h.parted));
  parted = tail-parted p ps h.parted;
  covers = covers-drop (IsClosedList P d) p ps h.covers none;
}
  where
    all-join : (xs ys : List Member) → AllByRecursion (IsMemberAt P d) xs → AllByRecursion (IsMemberAt P d) ys → AllByRecursion (IsMemberAt P d) (xs ++ ys)
    all-join [] ys a b = b
    all-join (x ∷ xs) ys a b = (a.0, all-join xs ys a.1 b)

    all-lengths : (nss : List (List ℕ)) → AllByRecursion (λ ns. IsMemberAt P d (with_lengths d p ns)) nss → AllByRecursion (IsMemberAt P d) (map (with_lengths d p) nss)
    all-lengths [] a = tt
    all-lengths (ns ∷ nss) a = (a.0, all-lengths nss a.1)

    lists-less : (q : List Choice) (qs : List (List Choice)) → PartInOrder (p ∷ q ∷ qs) → choices_cmp p q ≡ Less
    lists-less q qs t = sym (member-choices d p q) ∙ (parted-rising d (p ∷ q ∷ qs) t).0

    lengths-rising : (ns : List ℕ) (nss : List (List ℕ)) (qs : List (List Choice)) → IsRising lengths_cmp (ns ∷ nss) → PartInOrder (p ∷ qs) → IsRising member_cmp (with_lengths d p ns ∷ map (with_lengths d p) nss ++ map (with_choices d) qs)
    lengths-rising ns [] [] a t = tt
    lengths-rising ns [] (q ∷ qs) a t = (next-list d p ns q (lists-less q qs t), parted-rising d (q ∷ qs) t.1)
    lengths-rising ns (ms ∷ nss) qs a t = (same-list d p ns ms ∙ a.0, lengths-rising ms nss qs a.1 t)

    first-rising : (nss : List (List ℕ)) (qs : List (List Choice)) → IsRising lengths_cmp nss → PartInOrder (p ∷ qs) → IsRising member_cmp (with_choices d p ∷ map (with_lengths d p) nss ++ map (with_choices d) qs)
    first-rising [] [] a t = tt
    first-rising [] (q ∷ qs) a t = ((parted-rising d (p ∷ q ∷ qs) t).0, parted-rising d (q ∷ qs) t.1)
    first-rising (ns ∷ nss) qs a t = (list-first d p ns, lengths-rising ns nss qs a t)

-- the step of the first pending list is one more
pub visited-many : (P : Problem) (d : ℕ) (spent : List Member) (p : List Choice) (ps : List (List Choice)) → Explores P d spent (p ∷ ps) → 1 ≤ d → IsLive P d p → AtLeastMany member_cmp (IsEarly P d) (suc (length spent))
visited-many P d spent p ps h from live = let m = steps-ended P d spent p ps h from live in (m.0, m.1, m.2)
