-- Instances that span close a tableau, in the logics whose strings have no bound of their own, and in the others where none of them
-- can be left out; and the instances of a closed tableau span.
use Rattle.std.proofs.Common.{◌≡◌, ℕ, zero, suc, ◌+◌, ◌≤◌, ◌==◌, List, [], ◌∷◌, ◌++◌, length, Bool, true, false, not, ◌&&◌, Some, IsTrue, if◌then◌else◌, refl, sym, ◌∙◌, ap, subst, inl, inr, arith, nat_lt, slice_get, remove, sum_by}
use Rattle.std.specs.List.{AllByRecursion, list_all, list_any}
use Rattle.std.proofs.lemmas.Bool.{and_parts, and_from, or_cases, or_parts, or_left, or_right, not-true, not-false, cases_Bool, false≢true, false_from_ne_true, both_ways, eqb-true, eqb-false, leb-true, le-leb}
use Rattle.std.proofs.lemmas.List.Sums.{sum_by-cons}
use Rattle.plain_laws.proofs.Options.{some-eq}
use Rattle.calculus.specs.Syntax.{Problem}
use Rattle.calculus.specs.Ground.{Value, term, steps, marks_list, GroundLiteral}
use Rattle.calculus.specs.Instances.{ClauseInstance}
use Rattle.calculus.specs.ComputedInstances.{is_allowed_instance, modal_steps}
use Rattle.calculus.specs.Tableaux.{Closing, Closings, reduce, extend, no_closings, more_closings, Tableau, is_complement, is_new_on, closes, closes_all, instances_below, instances_of_all, instances, total_steps, has_unbounded_strings, has_at_most, strings_within, is_shown, is_short, is_closed, HasClosed}
use Rattle.calculus.proofs.WalkLaws.{SomeIn, Hits, walk_all}
use Rattle.matrix_theory.specs.AnyStrings.{is_closed_by_any_strings}
use Rattle.matrix_theory.specs.Spanning.{has_way, IsSpanning}
use Rattle.matrix_theory.proofs.WayLaws.{IsWithin, way_from, way_passes, nothing_some, all_put_back, all_at, found}
use Rattle.matrix_theory.proofs.SpanningLaws.{Closed, spanning_closes}

pub within_length : {A : Type 0} (xs : List A) → IsWithin xs (length xs)
within_length [] = tt
within_length (x ∷ xs) = within_length xs

all_from : (P : Problem) (is : List ClauseInstance) → IsTrue (list_all (is_allowed_instance P) is) → AllByRecursion (λ i. IsTrue (is_allowed_instance P i)) is
all_from P [] h = tt
all_from P (i ∷ is) h = let p = and_parts (is_allowed_instance P i) (list_all (is_allowed_instance P) is) h in (p.0, all_from P is p.1)

short_by : (P : Problem) (t : Tableau) → has_unbounded_strings P.setting.logic ≡ false → IsTrue (is_short P t)
short_by P t h = ap (λ b. if b then list_all (strings_within (total_steps P (instances t))) (instances t) else true) h

-- a closed tableau of these parts
closed_by : (P : Problem) (Q : ClauseInstance → Type 0) (d : ℕ) (c : Closed P Q d) → IsTrue (is_short P c.tableau) → IsTrue (is_closed P d c.tableau)
closed_by P Q d c short =
    let started = is_allowed_instance P c.tableau.start && list_all is_shown c.tableau.start.literals in
    and_from (started && closes_all P d [] c.tableau.start.literals c.tableau.goals) (is_short P c.tableau)
    (and_from started (closes_all P d [] c.tableau.start.literals c.tableau.goals) (and_from (is_allowed_instance P c.tableau.start) (list_all is_shown c.tableau.start.literals) c.started c.shown) c.goals)
    short

-- as many goals on a branch as there are instances are enough
pub closed_where_spanning : (P : Problem) (is : List ClauseInstance) → has_unbounded_strings P.setting.logic ≡ false → IsSpanning P is → HasClosed P (length is)
closed_where_spanning P is b h =
    let c = spanning_closes P (λ i. IsTrue (is_allowed_instance P i)) (λ i q. q) (length is) (length is) is (within_length is) (all_from P is h.allowed) h.spanning (omega arith) in
    record { tableau = c.tableau; closed = closed_by P (λ i. IsTrue (is_allowed_instance P i)) (length is) c (short_by P c.tableau b) }

-- ---- the instances of a closed tableau span

allowed_append : (P : Problem) (is js : List ClauseInstance) → IsTrue (list_all (is_allowed_instance P) is) → IsTrue (list_all (is_allowed_instance P) js) → IsTrue (list_all (is_allowed_instance P) (is ++ js))
allowed_append P [] js h k = k
allowed_append P (i ∷ is) js h k = let p = and_parts (is_allowed_instance P i) (list_all (is_allowed_instance P) is) h in and_from (is_allowed_instance P i) (list_all (is_allowed_instance P) (is ++ js)) p.0 (allowed_append P is js p.1 k)

mutual
  allowed_below : (P : Problem) (d : ℕ) (c : Closing) (path : List GroundLiteral) (goal : GroundLiteral) → IsTrue (closes P d path goal c) → IsTrue (list_all (is_allowed_instance P) (instances_below c))
  allowed_below P d (reduce up) path goal h = refl
  allowed_below P d (extend i place below) path goal h =
      let first = is_new_on path goal && nat_lt (length path) d in
      let outer = and_parts (first && is_allowed_instance P i && is_complement goal (slice_get i.literals place)) (closes_all P d (goal ∷ path) (remove i.literals place) below) h in
      let inner = and_parts (first && is_allowed_instance P i) (is_complement goal (slice_get i.literals place)) outer.0 in
      let a = and_parts first (is_allowed_instance P i) inner.0 in
      and_from (is_allowed_instance P i) (list_all (is_allowed_instance P) (instances_of_all below)) a.1 (allowed_in_all P d below (goal ∷ path) (remove i.literals place) outer.1)

  allowed_in_all : (P : Problem) (d : ℕ) (cs : Closings) (path goals : List GroundLiteral) → IsTrue (closes_all P d path goals cs) → IsTrue (list_all (is_allowed_instance P) (instances_of_all cs))
  allowed_in_all P d no_closings path goals h = refl
  allowed_in_all P d (more_closings c cs) path [] h = absurd (false≢true h)
  allowed_in_all P d (more_closings c cs) path (g ∷ gs) h =
      let p = and_parts (closes P d path g c) (closes_all P d path gs cs) h in
      allowed_append P (instances_below c) (instances_of_all cs) (allowed_below P d c path g p.0) (allowed_in_all P d cs path gs p.1)

-- the instances of a tableau that is closed by strings of any length span
pub spanning_by_any_strings : (P : Problem) (d : ℕ) (t : Tableau) → IsTrue (is_closed_by_any_strings P d t) → IsSpanning P (instances t)
spanning_by_any_strings P d t h =
    let inner = and_parts (is_allowed_instance P t.start && list_all is_shown t.start.literals) (closes_all P d [] t.start.literals t.goals) h in
    let first = and_parts (is_allowed_instance P t.start) (list_all is_shown t.start.literals) inner.0 in
    record {
      allowed = and_from (is_allowed_instance P t.start) (list_all (is_allowed_instance P) (instances_of_all t.goals)) first.0 (allowed_in_all P d t.goals [] t.start.literals inner.1);
      spanning = false_from_ne_true (has_way [] (instances t)) (λ e.
          let w = way_from [] (instances t) tt e in
          let pair = walk_all (λ x. IsTrue (w.has x)) P d t.goals [] t.start.literals inner.1 tt w.through.0 w.through.1 in
          w.apart pair.0 pair.1 pair.2 pair.3 pair.4);
    }

-- a tableau is closed if it is so by strings of any length and its strings are short
pub spanning_where_closed : (P : Problem) (d : ℕ) (t : Tableau) → IsTrue (is_closed P d t) → IsSpanning P (instances t)
spanning_where_closed P d t h = spanning_by_any_strings P d t (and_parts (is_closed_by_any_strings P d t) (is_short P t) h).0

-- ---- S4 and intuitionistic logic: the bound on strings

abbrev StandsAmong : List ClauseInstance → ClauseInstance → Type 0
StandsAmong is i = (k : ℕ) × (slice_get is k ≡ Some i)

all_among : (is js : List ClauseInstance) → ((k : ℕ) (i : ClauseInstance) → slice_get js k ≡ Some i → StandsAmong is i) → AllByRecursion (StandsAmong is) js
all_among is [] f = tt
all_among is (j ∷ js) f = (f zero j refl, all_among is js (λ k i e. f (suc k) i e))

-- what is summed over a list without one of its elements
sum_without : {A : Type 0} (f : A → ℕ) (xs : List A) (k : ℕ) (x : A) → slice_get xs k ≡ Some x → sum_by f xs ≡ f x + sum_by f (remove xs k)
sum_without f [] k x e = absurd (nothing_some x e)
sum_without f (y ∷ ys) zero x e = sum_by-cons f y ys ∙ ap (λ z. f z + sum_by f ys) (some-eq y x e)
sum_without f (y ∷ ys) (suc k) x e = let h = sum_without f ys k x e in let a = sum_by-cons f y ys in let b = sum_by-cons f y (remove ys k) in omega (arith, h, a, b)

-- the place of an element that is left when another one goes
left_at : {A : Type 0} (xs : List A) (k m : ℕ) (y : A) → slice_get xs m ≡ Some y → (m ≡ k → ⊥) → (n : ℕ) × (slice_get (remove xs k) n ≡ Some y)
left_at [] k m y f d = absurd (nothing_some y f)
left_at (z ∷ zs) zero zero y f d = absurd (d refl)
left_at (z ∷ zs) zero (suc m) y f d = (m, f)
left_at (z ∷ zs) (suc k) zero y f d = (zero, f)
left_at (z ∷ zs) (suc k) (suc m) y f d = let r = left_at zs k m y f (λ e. d (ap (λ n. suc n) e)) in (suc r.0, r.1)

-- no two of the list are equal
abbrev AreDistinct : List ClauseInstance → Type 0
AreDistinct [] = Unit {0}
AreDistinct (i ∷ is) = ((k : ℕ) (j : ClauseInstance) → slice_get is k ≡ Some j → i ≡ j → ⊥) × AreDistinct is

-- distinct elements that stand in a list have no greater sum than the list
sum_among : (f : ClauseInstance → ℕ) (is js : List ClauseInstance) → AreDistinct is → AllByRecursion (StandsAmong js) is → sum_by f is ≤ sum_by f js
sum_among f [] js d h = omega arith
sum_among f (i ∷ is) js d h =
    let m = sum_among f is (remove js h.0.0) d.1 (all_still is js h.0.0 i h.0.1 d.0 h.1) in
    let e = sum_without f js h.0.0 i h.0.1 in
    let a = sum_by-cons f i is in
    omega (arith, m, e, a)
  where
    all_still : (is js : List ClauseInstance) (k : ℕ) (i : ClauseInstance) → slice_get js k ≡ Some i → ((m : ℕ) (j : ClauseInstance) → slice_get is m ≡ Some j → i ≡ j → ⊥) → AllByRecursion (StandsAmong js) is → AllByRecursion (StandsAmong (remove js k)) is
    all_still [] js k i e g h = tt
    all_still (x ∷ is) js k i e g h = (left_at js k h.0.0 x h.0.1 (λ q. g zero x refl (some-eq i x (sym e ∙ ap (slice_get js) (sym q) ∙ h.0.1))), all_still is js k i e (λ m j q. g (suc m) j q) h.1)

-- none of the instances can be left out
abbrev pub IsLeast : List ClauseInstance → Type 0
IsLeast is = (k : ℕ) (i : ClauseInstance) → slice_get is k ≡ Some i → IsTrue (has_way [] (remove is k))

-- so no two are equal
least_differ : (is : List ClauseInstance) → has_way [] is ≡ false → IsLeast is → (k m : ℕ) (i j : ClauseInstance) → slice_get is k ≡ Some i → slice_get is m ≡ Some j → (m ≡ k → ⊥) → i ≡ j → ⊥
least_differ is none least k m i j e f d q =
    let w = way_from [] (remove is k) tt (least k i e) in
    let r = left_at is k m j f d in
    let hit : Hits (λ x. IsTrue (w.has x)) j = all_at (Hits (λ x. IsTrue (w.has x))) (remove is k) w.through r.0 j r.1 in
    both_ways (has_way [] is) none (way_passes [] is (record { has = w.has; apart = w.apart; over = tt; through = all_put_back (Hits (λ x. IsTrue (w.has x))) is k i e (subst (Hits (λ x. IsTrue (w.has x))) (sym q) hit) w.through }))

distinct_by : (is : List ClauseInstance) → ((k m : ℕ) (i j : ClauseInstance) → slice_get is k ≡ Some i → slice_get is m ≡ Some j → (m ≡ k → ⊥) → i ≡ j → ⊥) → AreDistinct is
distinct_by [] f = tt
distinct_by (i ∷ is) f = ((λ k j e q. f zero (suc k) i j refl e (λ z. omega (arith, z)) q), distinct_by is (λ k m x y e g d q. f (suc k) (suc m) x y e g (λ z. d (omega (arith, z))) q))

-- a tableau closed over least instances has all of them
all_used : (P : Problem) (d : ℕ) (is : List ClauseInstance) → IsLeast is → (c : Closed P (StandsAmong is) d) → AllByRecursion (StandsAmong (instances c.tableau)) is
all_used P d is least c = all_among (instances c.tableau) is (λ k i e. one k i e)
  where
    hit-tells : (has : GroundLiteral → Bool) (ls : List GroundLiteral) → IsTrue (list_any has ls) → SomeIn (λ x. IsTrue (has x)) ls
    hit-tells has [] h = absurd (false≢true h)
    hit-tells has (l ∷ ls) h = elim (or_cases (has l) (list_any has ls) h) [
      | inl e ↦ inl e
      | inr e ↦ inr (hit-tells has ls e)
    ]

    some-tells : (has : GroundLiteral → Bool) (ls : List GroundLiteral) → SomeIn (λ x. IsTrue (has x)) ls → IsTrue (list_any has ls)
    some-tells has [] h = absurd h
    some-tells has (l ∷ ls) (inl h) = or_left (has l) (list_any has ls) h
    some-tells has (l ∷ ls) (inr h) = or_right (has l) (list_any has ls) (some-tells has ls h)

    all_hit : (has : GroundLiteral → Bool) (js : List ClauseInstance) → list_any (λ j. not (list_any has j.literals)) js ≡ false → AllByRecursion (Hits (λ x. IsTrue (has x))) js
    all_hit has [] h = tt
    all_hit has (j ∷ js) h = let p = or_parts (not (list_any has j.literals)) (list_any (λ j. not (list_any has j.literals)) js) h in (hit-tells has j.literals (not-false (list_any has j.literals) p.0), all_hit has js p.1)

    one : (k : ℕ) (i : ClauseInstance) → slice_get is k ≡ Some i → StandsAmong (instances c.tableau) i
    one k i e =
        let w = way_from [] (remove is k) tt (least k i e) in
        let unhit : ClauseInstance → Bool = λ j. not (list_any w.has j.literals) in
        elim (cases_Bool (list_any unhit (instances c.tableau))) [
          | inr f ↦
              let hits = all_hit w.has (instances c.tableau) f in
              let pair = walk_all (λ x. IsTrue (w.has x)) P d c.tableau.goals [] c.tableau.start.literals c.goals tt hits.0 hits.1 in
              absurd (w.apart pair.0 pair.1 pair.2 pair.3 pair.4)
          | inl t ↦
              let r = found unhit (instances c.tableau) t in
              let m = all_at (StandsAmong is) (instances c.tableau) c.of_these r.0 r.1 r.2 in
              elim (cases_Bool (m.0 == k)) [
                | inl same ↦ (r.0, r.2 ∙ sym m.1 ∙ ap (slice_get is) (eqb-true m.0 k same) ∙ e)
                | inr differ ↦
                    let q = left_at is k m.0 r.1 m.1 (eqb-false m.0 k differ) in
                    let hit = all_at (Hits (λ x. IsTrue (w.has x))) (remove is k) w.through q.0 r.1 q.1 in
                    absurd (both_ways (list_any w.has r.1.literals) (not-true (list_any w.has r.1.literals) r.3) (some-tells w.has r.1.literals hit))
              ]
        ]

-- least instances whose strings are short enough close a tableau in S4 and intuitionistic logic too
abbrev over_least : (P : Problem) (is : List ClauseInstance) → IsSpanning P is → Closed P (StandsAmong is) (length is)
over_least P is h = spanning_closes P (StandsAmong is) (λ i q. all_at (λ j. IsTrue (is_allowed_instance P j)) is (all_from P is h.allowed) q.0 i q.1) (length is) (length is) is (within_length is) (all_among is is (λ k i e. (k, e))) h.spanning (omega arith)

at_most_more : (a b : ℕ) → a ≤ b → (v : Value) → IsTrue (has_at_most a v) → IsTrue (has_at_most b v)
at_most_more a b m (term t) q = refl
at_most_more a b m (steps w) q = let l = leb-true (length (marks_list w)) a q in le-leb (length (marks_list w)) b (omega (arith, m, l))

values_more : (a b : ℕ) → a ≤ b → (vs : List Value) → IsTrue (list_all (has_at_most a) vs) → IsTrue (list_all (has_at_most b) vs)
values_more a b m [] q = refl
values_more a b m (v ∷ vs) q = let p = and_parts (has_at_most a v) (list_all (has_at_most a) vs) q in and_from (has_at_most b v) (list_all (has_at_most b) vs) (at_most_more a b m v p.0) (values_more a b m vs p.1)

each_short : (a b : ℕ) → a ≤ b → (js : List ClauseInstance) → AllByRecursion (λ j. IsTrue (strings_within a j)) js → IsTrue (list_all (strings_within b) js)
each_short a b m [] q = refl
each_short a b m (j ∷ js) q = and_from (strings_within b j) (list_all (strings_within b) js) (values_more a b m j.values q.0) (each_short a b m js q.1)

from_list : (f : ClauseInstance → Bool) (js : List ClauseInstance) → IsTrue (list_all f js) → AllByRecursion (λ j. IsTrue (f j)) js
from_list f [] q = tt
from_list f (j ∷ js) q = let p = and_parts (f j) (list_all f js) q in (p.0, from_list f js p.1)

among_short : (f : ClauseInstance → Bool) (is : List ClauseInstance) → IsTrue (list_all f is) → (js : List ClauseInstance) → AllByRecursion (StandsAmong is) js → AllByRecursion (λ j. IsTrue (f j)) js
among_short f is q [] g = tt
among_short f is q (j ∷ js) g = (all_at (λ i. IsTrue (f i)) is (from_list f is q) g.0.0 j g.0.1, among_short f is q js g.1)

pub closed_where_least : (P : Problem) (is : List ClauseInstance) → IsSpanning P is → IsLeast is → IsTrue (list_all (strings_within (total_steps P is)) is) → HasClosed P (length is)
closed_where_least P is h least short = record { tableau = (over_least P is h).tableau; closed = closed_by P (StandsAmong is) (length is) (over_least P is h) (either_way (has_unbounded_strings P.setting.logic) refl) }
  where
    enough : total_steps P is ≤ total_steps P (instances (over_least P is h).tableau)
    enough = sum_among (modal_steps P) is (instances (over_least P is h).tableau) (distinct_by is (least_differ is h.spanning least)) (all_used P (length is) is least (over_least P is h))

    either_way : (b : Bool) → has_unbounded_strings P.setting.logic ≡ b → IsTrue (is_short P (over_least P is h).tableau)
    either_way false e = short_by P (over_least P is h).tableau e
    either_way true e =
        let js = instances (over_least P is h).tableau in
        let whole = each_short (total_steps P is) (total_steps P js) enough js (among_short (strings_within (total_steps P is)) is short js (over_least P is h).of_these) in
        subst (λ b. IsTrue (if b then list_all (strings_within (total_steps P js)) js else true)) (sym e) whole
