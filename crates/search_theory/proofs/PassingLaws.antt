-- A search that goes through lists in order spends its steps on members that rise strictly, whatever it leaves out.
use Rattle.std.proofs.Common.{◌≡◌, ℕ, ◌≤◌, List, [], ◌∷◌, ◌++◌, length, map, sym, ◌∙◌, ap₂, subst, arith, append_assoc, append-nil}
use Rattle.std.specs.List.{AllByRecursion}
use Rattle.std.proofs.lemmas.List.{length-append}
use Rattle.std.specs.declared.cmp.Ordering.TheVariants.{Less}
use Rattle.plain_laws.proofs.Every.{each-append, each-weaken, each-push}
use Rattle.calculus.specs.Syntax.{Problem}
use Rattle.calculus.specs.Choices.{Choice, choices_cmp, IsLive}
use Rattle.calculus.specs.Counting.{IsRising, MoreThan, AtLeastMany}
use Rattle.calculus.specs.Space.{Member, with_choices, with_lengths, member_cmp, lengths_cmp}
use Rattle.calculus.proofs.OrderLaws.{choice_cmp_total}
use Rattle.search_theory.specs.Exploring.{AllPart, IsMemberAt, PartsBefore, Passes, behind}
use Rattle.search_theory.proofs.EarlyLaws.{list-first, next-list, same-list}
use Rattle.search_theory.proofs.ExploreLaws.{Rise, longer-less, member-choices, member-live, parted-behind, parted-less, parted-siblings, rising-join}

-- ---- what is left out

all-behind : {A : Type 0} (Q : A → Type 0) (xs ys : List A) → AllByRecursion Q (xs ++ ys) → AllByRecursion Q ys
all-behind Q [] ys h = h
all-behind Q (x ∷ xs) ys h = all-behind Q xs ys h.1

part-behind : (xs ps : List (List Choice)) → AllPart (xs ++ ps) → AllPart ps
part-behind [] ps h = h
part-behind (x ∷ xs) ps h = part-behind xs ps h.1

-- the first ones of the pending lists
pub passes-less : (P : Problem) (d : ℕ) (spent : List Member) (xs ps : List (List Choice)) → Passes P d spent (xs ++ ps) → Passes P d spent ps
passes-less P d spent xs ps h = record { members = h.members; rising = h.rising; before = all-behind (λ (p : List Choice). IsRising member_cmp (spent ++ with_choices d p ∷ [])) xs ps h.before; parted = part-behind xs ps h.parted }

-- those behind the first one
pub passes-keep : (P : Problem) (d : ℕ) (spent : List Member) (p : List Choice) (xs ps : List (List Choice)) → Passes P d spent (p ∷ xs ++ ps) → Passes P d spent (p ∷ ps)
passes-keep P d spent p xs ps h = record {
  members = h.members;
  rising = h.rising;
  before = (h.before.0, all-behind (λ (q : List Choice). IsRising member_cmp (spent ++ with_choices d q ∷ [])) xs ps h.before.1);
  parted = (all-behind (PartsBefore p) xs ps h.parted.0, part-behind xs ps h.parted.1);
}

-- ---- what steps are spent for

list-less : (d : ℕ) (p q : List Choice) → PartsBefore p q → choices_cmp p q ≡ Less
list-less d p q h = ap₂ choices_cmp (sym (append-nil p)) (sym (append-nil q)) ∙ parted-less p q [] [] h

-- a choice before the first of these, which rise, is before each
siblings-part : (p : List Choice) (x : Choice) (xs : List Choice) → Rise (x ∷ xs) → AllByRecursion (PartsBefore (p ++ x ∷ [])) (behind p xs)
siblings-part p x [] h = tt
siblings-part p x (y ∷ []) h = (parted-siblings p x y h.0, tt)
siblings-part p x (y ∷ z ∷ xs) h = (parted-siblings p x y h.0, siblings-part p x (z ∷ xs) (choice_cmp_total.trans x y z h.0 h.1.0, h.1.1))

tail-rise : (x : Choice) (xs : List Choice) → Rise (x ∷ xs) → Rise xs
tail-rise x [] h = tt
tail-rise x (y ∷ xs) h = h.1

all-kids-part : (p : List Choice) (xs : List Choice) (ps : List (List Choice)) → Rise xs → AllByRecursion (PartsBefore p) ps → AllPart ps → AllPart (behind p xs ++ ps)
all-kids-part p [] ps r h g = g
all-kids-part p (x ∷ xs) ps r h g = (
  each-append (PartsBefore (p ++ x ∷ [])) (behind p xs) ps (siblings-part p x xs r) (each-weaken (PartsBefore p) (PartsBefore (p ++ x ∷ [])) (λ q k. parted-behind p q x k) ps h),
  all-kids-part p xs ps (tail-rise x xs r) h g,
)

-- p before its children
kids-later : (d : ℕ) (spent : List Member) (p : List Choice) (xs : List Choice) → IsRising member_cmp (spent ++ with_choices d p ∷ []) → AllByRecursion (λ (q : List Choice). IsRising member_cmp ((spent ++ with_choices d p ∷ []) ++ with_choices d q ∷ [])) (behind p xs)
kids-later d spent p [] h = tt
kids-later d spent p (x ∷ xs) h = (
  subst (IsRising member_cmp) (sym (append_assoc spent (with_choices d p ∷ []) (with_choices d (p ++ x ∷ []) ∷ []))) (rising-join member_cmp spent (with_choices d p) (with_choices d (p ++ x ∷ []) ∷ []) h (member-choices d p (p ++ x ∷ []) ∙ longer-less p x [], tt)),
  kids-later d spent p xs h,
)

-- a live list, and its children are to be tried
pub passes-visit : (P : Problem) (d : ℕ) (spent : List Member) (p : List Choice) (ps : List (List Choice)) (xs : List Choice) → Passes P d spent (p ∷ ps) → 1 ≤ d → IsLive P d p → Rise xs → Passes P d (spent ++ with_choices d p ∷ []) (behind p xs ++ ps)
passes-visit P d spent p ps xs h from live r = record {
  members = each-push (IsMemberAt P d) spent (with_choices d p) h.members (member-live P d p from live);
  rising = h.before.0;
  before = each-append (λ (q : List Choice). IsRising member_cmp ((spent ++ with_choices d p ∷ []) ++ with_choices d q ∷ [])) (behind p xs) ps (kids-later d spent p xs h.before.0)
      (each-weaken (PartsBefore p) (λ (q : List Choice). IsRising member_cmp ((spent ++ with_choices d p ∷ []) ++ with_choices d q ∷ []))
      (λ q k. subst (IsRising member_cmp) (sym (append_assoc spent (with_choices d p ∷ []) (with_choices d q ∷ []))) (rising-join member_cmp spent (with_choices d p) (with_choices d q ∷ []) h.before.0 (member-choices d p q ∙ list-less d p q k, tt)))
      ps h.parted.0);
  parted = all-kids-part p xs ps r h.parted.0 h.parted.1;
}

-- lists of lengths behind their list, and before a later list
lengths-last : (d : ℕ) (p q : List Choice) (ns : List ℕ) (tried : List (List ℕ)) → IsRising lengths_cmp (ns ∷ tried) → choices_cmp p q ≡ Less → IsRising member_cmp (with_lengths d p ns ∷ map (with_lengths d p) tried ++ with_choices d q ∷ [])
lengths-last d p q ns [] r l = (next-list d p ns q l, tt)
lengths-last d p q ns (ms ∷ tried) r l = (same-list d p ns ms ∙ r.0, lengths-last d p q ms tried r.1 l)

list-last : (d : ℕ) (p q : List Choice) (tried : List (List ℕ)) → IsRising lengths_cmp tried → choices_cmp p q ≡ Less → IsRising member_cmp (with_choices d p ∷ map (with_lengths d p) tried ++ with_choices d q ∷ [])
list-last d p q [] r l = (member-choices d p q ∙ l, tt)
list-last d p q (ns ∷ tried) r l = (list-first d p ns, lengths-last d p q ns tried r l)

lengths-alone : (d : ℕ) (p : List Choice) (ns : List ℕ) (tried : List (List ℕ)) → IsRising lengths_cmp (ns ∷ tried) → IsRising member_cmp (with_lengths d p ns ∷ map (with_lengths d p) tried)
lengths-alone d p ns [] r = tt
lengths-alone d p ns (ms ∷ tried) r = (same-list d p ns ms ∙ r.0, lengths-alone d p ms tried r.1)

list-alone : (d : ℕ) (p : List Choice) (tried : List (List ℕ)) → IsRising lengths_cmp tried → IsRising member_cmp (with_choices d p ∷ map (with_lengths d p) tried)
list-alone d p [] r = tt
list-alone d p (ns ∷ tried) r = (list-first d p ns, lengths-alone d p ns tried r)

lengths-members : (P : Problem) (d : ℕ) (p : List Choice) (tried : List (List ℕ)) → AllByRecursion (λ ns. IsMemberAt P d (with_lengths d p ns)) tried → AllByRecursion (IsMemberAt P d) (map (with_lengths d p) tried)
lengths-members P d p [] h = tt
lengths-members P d p (ns ∷ tried) h = (h.0, lengths-members P d p tried h.1)

-- a live list without open goals, and these lists of lengths
pub passes-lengths : (P : Problem) (d : ℕ) (spent : List Member) (p : List Choice) (ps : List (List Choice)) (tried : List (List ℕ)) → Passes P d spent (p ∷ ps) → 1 ≤ d → IsLive P d p → IsRising lengths_cmp tried → AllByRecursion (λ ns. IsMemberAt P d (with_lengths d p ns)) tried → Passes P d (spent ++ with_choices d p ∷ map (with_lengths d p) tried) ps
passes-lengths P d spent p ps tried h from live r members = record {
  members = each-append (IsMemberAt P d) spent (with_choices d p ∷ map (with_lengths d p) tried) h.members (member-live P d p from live, lengths-members P d p tried members);
  rising = rising-join member_cmp spent (with_choices d p) (map (with_lengths d p) tried) h.before.0 (list-alone d p tried r);
  before = each-weaken (PartsBefore p) (λ (q : List Choice). IsRising member_cmp ((spent ++ with_choices d p ∷ map (with_lengths d p) tried) ++ with_choices d q ∷ []))
      (λ q k. subst (IsRising member_cmp) (sym (append_assoc spent (with_choices d p ∷ map (with_lengths d p) tried) (with_choices d q ∷ []))) (rising-join member_cmp spent (with_choices d p) (map (with_lengths d p) tried ++ with_choices d q ∷ []) h.before.0 (list-last d p q tried r (list-less d p q k))))
      ps h.parted.0;
  parted = h.parted.1;
}

-- ---- the start

start-before : (d : ℕ) (ps : List (List Choice)) → AllByRecursion (λ (p : List Choice). IsRising member_cmp ([] ++ with_choices d p ∷ [])) ps
start-before d [] = tt
start-before d (p ∷ ps) = (tt, start-before d ps)

-- nothing is spent yet
pub passes-start : (P : Problem) (d : ℕ) (xs : List Choice) → Rise xs → Passes P d [] (behind [] xs)
passes-start P d xs r = record {
  members = tt;
  rising = tt;
  before = start-before d (behind [] xs);
  parted = subst AllPart (append-nil (behind [] xs)) (all-kids-part [] xs [] r tt tt);
}

-- ---- how many there are

-- at least as many members as steps
pub passes-many : (P : Problem) (d : ℕ) (spent : List Member) (pending : List (List Choice)) → Passes P d spent pending → AtLeastMany member_cmp (IsMemberAt P d) (length spent)
passes-many P d spent pending h = (spent, record { rising = h.rising; members = h.members }, omega arith)

-- where a step would be due for the first pending list, there are more members than steps
pub passes-ended : (P : Problem) (d : ℕ) (spent : List Member) (p : List Choice) (ps : List (List Choice)) → Passes P d spent (p ∷ ps) → 1 ≤ d → IsLive P d p → MoreThan member_cmp (IsMemberAt P d) (length spent)
passes-ended P d spent p ps h from live = (
  spent ++ with_choices d p ∷ [],
  record { rising = h.before.0; members = each-push (IsMemberAt P d) spent (with_choices d p) h.members (member-live P d p from live) },
  (let e = length-append spent (with_choices d p ∷ []) in omega (arith, e)),
)
