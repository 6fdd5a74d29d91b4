-- The home of a variable's own spare is found by the number of the first gamma term that holds the variable.
use Rattle.std.proofs.Common.{◌≡◌, ◌⊎◌, ◌+◌, ◌<◌, ◌≤◌, ℕ, zero, suc, List, [], ◌∷◌, ◌++◌, Bool, true, false, length, set, take, refl, sym, ◌∙◌, ap, subst, Option, None, Some, slice_get, arith, inl, inr}
use Rattle.std.proofs.lemmas.Bool.{cases_lt}
use Rattle.std.proofs.lemmas.List.{length-append}
use Rattle.std.proofs.lemmas.Option.{slice_get_within}
use Rattle.calculus.specs.Ground.{GroundMark, marks_tree, own}
use Rattle.calculus.specs.declared.sort.Sort.{Sort}
use Rattle.calculus.specs.declared.sort.Sort.TheVariants.{TermSort, MarkSort, StringSort}
use Rattle.store_theory.specs.Stores.{variable, AreOwnSpares, GammaCell, Holds, IsHome, IsOwnSpare, Solution, Store, a_term, label_at}
use Rattle.domain_cond.specs.Leaves.{AreLeaves, IsLeaf}
use Rattle.tableau_reading.specs.Grounds.{AreSparesAt, IsSpareAt, home_of, label_in, label_numbered, number_in, unless_common}
use Rattle.tableau_reading.specs.Held.{AreFirst, IsFirstOf, mark_all, mark_at}
use Rattle.tableau_reading.specs.declared.homes.Homes.{Homes}
use Rattle.search_tree.proofs.Places.{take-next}

-- ---- one cell

pub mark-set : (xs : List (Option ℕ)) (v n : ℕ) → slice_get xs v ≡ Some None → set xs v (Some n) ≡ mark_at xs v n
mark-set [] v n e = cc e
mark-set (None ∷ xs) zero n e = refl
mark-set (Some k ∷ xs) zero n e = cc e
mark-set (None ∷ xs) (suc v) n e = ap (λ ys. None ∷ ys) (mark-set xs v n e)
mark-set (Some k ∷ xs) (suc v) n e = ap (λ ys. Some k ∷ ys) (mark-set xs v n e)

pub mark-marked : (xs : List (Option ℕ)) (v n k : ℕ) → slice_get xs v ≡ Some (Some k) → xs ≡ mark_at xs v n
mark-marked [] v n k e = cc e
mark-marked (None ∷ xs) zero n k e = cc e
mark-marked (Some j ∷ xs) zero n k e = refl
mark-marked (None ∷ xs) (suc v) n k e = ap (λ ys. None ∷ ys) (mark-marked xs v n k e)
mark-marked (Some j ∷ xs) (suc v) n k e = ap (λ ys. Some j ∷ ys) (mark-marked xs v n k e)

pub mark-outside : (xs : List (Option ℕ)) (v n : ℕ) → length xs ≤ v → xs ≡ mark_at xs v n
mark-outside [] v n l = refl
mark-outside (x ∷ xs) zero n l = absurd (omega (arith, l))
mark-outside (None ∷ xs) (suc v) n l = ap (λ ys. None ∷ ys) (mark-outside xs v n (omega (arith, l)))
mark-outside (Some j ∷ xs) (suc v) n l = ap (λ ys. Some j ∷ ys) (mark-outside xs v n (omega (arith, l)))

long-at : (xs : List (Option ℕ)) (v n : ℕ) → length (mark_at xs v n) ≡ length xs
long-at [] v n = refl
long-at (None ∷ xs) zero n = refl
long-at (Some k ∷ xs) zero n = refl
long-at (None ∷ xs) (suc v) n = ap suc (long-at xs v n)
long-at (Some k ∷ xs) (suc v) n = ap suc (long-at xs v n)

-- what stands at a cell was there, or the number came
from-at : (xs : List (Option ℕ)) (e n v k : ℕ) → slice_get (mark_at xs e n) v ≡ Some (Some k) → (slice_get xs v ≡ Some (Some k)) ⊎ ((k ≡ n) × (v ≡ e) × (slice_get xs v ≡ Some None))
from-at [] e n v k q = cc q
from-at (None ∷ xs) zero n zero k q = let z : n ≡ k = cc q in inr (sym z, refl, refl)
from-at (None ∷ xs) zero n (suc v) k q = inl q
from-at (Some j ∷ xs) zero n v k q = inl q
from-at (None ∷ xs) (suc e) n zero k q = inl q
from-at (Some j ∷ xs) (suc e) n zero k q = inl q
from-at (None ∷ xs) (suc e) n (suc v) k q = elim (from-at xs e n v k q) [ inl h ↦ inl h | inr h ↦ inr (h.0, ap suc h.1, h.2) ]
from-at (Some j ∷ xs) (suc e) n (suc v) k q = elim (from-at xs e n v k q) [ inl h ↦ inl h | inr h ↦ inr (h.0, ap suc h.1, h.2) ]

-- what has no number had none, and it is not the cell
none-at : (xs : List (Option ℕ)) (e n v : ℕ) → slice_get (mark_at xs e n) v ≡ Some None → (slice_get xs v ≡ Some None) × ¬ (v ≡ e)
none-at [] e n v q = cc q
none-at (None ∷ xs) zero n zero q = cc q
none-at (None ∷ xs) zero n (suc v) q = (q, λ z. cc z)
none-at (Some j ∷ xs) zero n zero q = cc q
none-at (Some j ∷ xs) zero n (suc v) q = (q, λ z. cc z)
none-at (None ∷ xs) (suc e) n zero q = (q, λ z. cc z)
none-at (Some j ∷ xs) (suc e) n zero q = (q, λ z. cc z)
none-at (None ∷ xs) (suc e) n (suc v) q = let h = none-at xs e n v q in (h.0, λ z. h.1 (cc z))
none-at (Some j ∷ xs) (suc e) n (suc v) q = let h = none-at xs e n v q in (h.0, λ z. h.1 (cc z))

-- ---- a list of cells

long-all : (es : List ℕ) (xs : List (Option ℕ)) (n : ℕ) → length (mark_all xs es n) ≡ length xs
long-all [] xs n = refl
long-all (e ∷ es) xs n = long-all es (mark_at xs e n) n ∙ long-at xs e n

from-all : (es : List ℕ) (xs : List (Option ℕ)) (n v k : ℕ) → slice_get (mark_all xs es n) v ≡ Some (Some k) → (slice_get xs v ≡ Some (Some k)) ⊎ ((k ≡ n) × ((i : ℕ) × (slice_get es i ≡ Some v)) × (slice_get xs v ≡ Some None))
from-all [] xs n v k q = inl q
from-all (e ∷ es) xs n v k q = elim (from-all es (mark_at xs e n) n v k q) [
  | inl h ↦ elim (from-at xs e n v k h) [ inl g ↦ inl g | inr g ↦ inr (g.0, (0, ap Some (sym g.1)), g.2) ]
  | inr h ↦ inr (h.0, (suc h.1.0, h.1.1), (none-at xs e n v h.2).0)
]

none-all : (es : List ℕ) (xs : List (Option ℕ)) (n v : ℕ) → slice_get (mark_all xs es n) v ≡ Some None → (slice_get xs v ≡ Some None) × ((i : ℕ) → ¬ (slice_get es i ≡ Some v))
none-all [] xs n v q = (q, λ i e. cc e)
none-all (e ∷ es) xs n v q =
    let h = none-all es (mark_at xs e n) n v q in
    let g = none-at xs e n v h.0 in
    (g.0, not_there h.1 g.1)
  where
    not_there : ((i : ℕ) → ¬ (slice_get es i ≡ Some v)) → ¬ (v ≡ e) → (i : ℕ) → ¬ (slice_get (e ∷ es) i ≡ Some v)
    not_there a b zero z = let w : e ≡ v = cc z in b (sym w)
    not_there a b (suc i) z = a i z

last-all : (es : List ℕ) (xs : List (Option ℕ)) (e n : ℕ) → mark_all xs (es ++ e ∷ []) n ≡ mark_at (mark_all xs es n) e n
last-all [] xs e n = refl
last-all (x ∷ es) xs e n = last-all es (mark_at xs x n) e n

-- one cell more of a list
pub marked-next : (xs first after : List (Option ℕ)) (es : List ℕ) (i e n : ℕ) → slice_get es i ≡ Some e → first ≡ mark_all xs (take i es) n → after ≡ mark_at first e n → after ≡ mark_all xs (take (i + 1) es) n
marked-next xs first after es i e n at h a = a ∙ ap (λ ys. mark_at ys e n) h ∙ sym (last-all (take i es) xs e n) ∙ ap (λ us. mark_all xs us n) (sym (take-next es i e at))

-- ---- gamma terms one after the other

pub first-none : (s : Store) (gs : List GammaCell) (first : List (Option ℕ)) → length first ≡ length s.cells → ((v k : ℕ) → ¬ (slice_get first v ≡ Some (Some k))) → AreFirst s gs 0 first
first-none s gs first l h = record { long = l; marked = λ v k e. absurd (h v k e); unmarked = λ v j g e leaf k. absurd (omega (arith, k)) }

pub first-next : (s : Store) (gs : List GammaCell) (n m : ℕ) (g : GammaCell) (es : List ℕ) (first after : List (Option ℕ)) → slice_get gs n ≡ Some g → AreLeaves s g.term es → AreFirst s gs n first → after ≡ mark_all first es n → m ≡ n + 1 → AreFirst s gs m after
first-next s gs n m g es first after at leaves h a e = subst (AreFirst s gs m) (sym a) (record {
  long = long-all es first n ∙ h.long;
  marked = λ v k q. elim (from-all es first n v k q) [
    | inl old ↦ h.marked v k old
    | inr new ↦ subst (IsFirstOf s gs v) (sym new.0) (here v new.1 new.2)
  ];
  unmarked = λ v j x q leaf l at_j held. (let old = none-all es first n v q in none v j x old.0 old.1 leaf l at_j held);
})
  where
    here : (v : ℕ) → (i : ℕ) × (slice_get es i ≡ Some v) → slice_get first v ≡ Some None → IsFirstOf s gs v n
    here v (i, p) q =
        let own_leaf = leaves.held i v p in
        record { gamma = g; stands = at; held = own_leaf.0; before = λ j x l at_j. h.unmarked v j x q own_leaf.1 l at_j }

    none : (v j : ℕ) (x : GammaCell) → slice_get first v ≡ Some None → ((i : ℕ) → ¬ (slice_get es i ≡ Some v)) → IsLeaf s v → j < m → slice_get gs j ≡ Some x → ¬ Holds s v x.term
    none v j x q not_here leaf l at_j held = elim (cases_lt j n) [
      | inl less ↦ h.unmarked v j x q leaf less at_j held
      | inr more ↦
          let same : n ≡ j = omega (arith, l, e, more) in
          let z : Some g ≡ Some x = sym at ∙ ap (slice_get gs) same ∙ at_j in
          let w : g ≡ x = cc z in
          let found = leaves.all_of_them v (subst (λ y. Holds s v y.term) (sym w) held) leaf in
          not_here found.0 found.1
    ]

-- nothing has a number
pub nothing-first : (xs : List (Option ℕ)) → xs ≡ [] → (length xs ≡ 0) × ((v k : ℕ) → ¬ (slice_get xs v ≡ Some (Some k)))
nothing-first xs e = (ap length e, λ v k q. (let z : None ≡ Some (Some k) = sym (ap (λ ys. slice_get ys v) e) ∙ q in cc z))

pub nothing-more : (n : ℕ) (before xs : List (Option ℕ)) → xs ≡ before ++ None ∷ [] → length before ≡ n → ((v k : ℕ) → ¬ (slice_get before v ≡ Some (Some k))) → (length xs ≡ n + 1) × ((v k : ℕ) → ¬ (slice_get xs v ≡ Some (Some k)))
nothing-more n before xs e l h = (ap length e ∙ length-append before (None ∷ []) ∙ ap (λ k. k + 1) l, λ v k q. by before v k h (sym (ap (λ ys. slice_get ys v) e) ∙ q))
  where
    by : (ys : List (Option ℕ)) (v k : ℕ) → ((v k : ℕ) → ¬ (slice_get ys v ≡ Some (Some k))) → ¬ (slice_get (ys ++ None ∷ []) v ≡ Some (Some k))
    by [] zero k a q = cc q
    by [] (suc v) k a q = cc q
    by (y ∷ ys) zero k a q = a 0 k q
    by (y ∷ ys) (suc v) k a q = by ys v k (λ w j. a (suc w) j) q

-- ---- homes

-- the home is the label of the first gamma term that holds the variable
home-first : (s : Store) (σ : Solution) (v : ℕ) (gs : List GammaCell) (h : List GroundMark) → IsHome s σ v gs h → (k : ℕ) → IsFirstOf s gs v k → label_at σ (label_numbered gs (Some k)) ≡ Some h
home-first s σ v [] h home k f = let z = f.stands in cc z
home-first s σ v (g ∷ gs) h (inl (held, l)) zero f = l
home-first s σ v (g ∷ gs) h (inr (not_held, more)) zero f = let z : g ≡ f.gamma = cc f.stands in absurd (not_held (subst (λ y. Holds s v y.term) (sym z) f.held))
home-first s σ v (g ∷ gs) h (inl (held, l)) (suc k) f = absurd (f.before 0 g (omega arith) refl held)
home-first s σ v (g ∷ gs) h (inr (not_held, more)) (suc k) f = home-first s σ v gs h more k (record { gamma = f.gamma; stands = f.stands; held = f.held; before = λ j x l at. f.before (suc j) x (omega (arith, l)) at })

-- or the root, where none holds it
home-none : (s : Store) (σ : Solution) (v : ℕ) (gs : List GammaCell) (h : List GroundMark) → IsHome s σ v gs h → ((j : ℕ) (g : GammaCell) → slice_get gs j ≡ Some g → ¬ Holds s v g.term) → h ≡ []
home-none s σ v [] h home none = home
home-none s σ v (g ∷ gs) h (inl (held, l)) none = absurd (none 0 g refl held)
home-none s σ v (g ∷ gs) h (inr (not_held, more)) none = home-none s σ v gs h more (λ j x at. none (suc j) x at)

-- where spares of every domain stand for all variables, they are those that are read off
pub common-spares_at : (s : Store) (h : Homes) (gs : List GammaCell) (σ : Solution) → h.common ≡ true → AreOwnSpares true s gs σ (λ v. v) → AreSparesAt s h σ
common-spares_at s h gs σ e spares = record { solves = spares.solves; spares = λ v sort at. by sort v (spares.spares v sort at) }
  where
    by : (sort : Sort) (v : ℕ) → IsOwnSpare true s gs σ sort v v → IsSpareAt (home_of h v) σ sort v
    by StringSort v k = k
    by MarkSort v k = k
    by TermSort v k = subst (λ o. IsSpareAt o σ TermSort v) (sym (ap (λ t. unless_common t (label_numbered h.gammas (number_in (slice_get h.first.items v)))) e)) k

-- own spares are those that are read off by such numbers
pub own-spares_at : (s : Store) (h : Homes) (gs : List GammaCell) (n : ℕ) (σ : Solution) → h.common ≡ false → h.gammas ≡ gs → n ≡ length gs → AreFirst s gs n h.first.items → AreOwnSpares false s gs σ (λ v. v) → AreSparesAt s h σ
own-spares_at s h gs n σ e gammas all first spares = record { solves = spares.solves; spares = λ v sort at. by sort v at (spares.spares v sort at) }
  where
    at-home : (v : ℕ) (w : List GroundMark) → slice_get s.cells v ≡ Some (variable TermSort None) → IsHome s σ v gs w → (o : Option (Option ℕ)) → slice_get h.first.items v ≡ o → label_at σ (label_numbered gs (number_in o)) ≡ Some w
    at-home v w at home (Some (Some k)) q = home-first s σ v gs w home k (first.marked v k q)
    at-home v w at home (Some None) q = ap Some (sym (home-none s σ v gs w home (λ j g at_j. first.unmarked v j g q (variable TermSort None, at, refl, refl) (let l = slice_get_within gs j g at_j in omega (arith, l, all)) at_j)))
    at-home v w at home None q = absurd (none-there h.first.items v q (let l = slice_get_within s.cells v (variable TermSort None) at in let m = first.long in omega (arith, l, m)))
      where
        none-there : (xs : List (Option ℕ)) (k : ℕ) → slice_get xs k ≡ None → k < length xs → ⊥
        none-there [] k z l = omega (arith, l)
        none-there (x ∷ xs) zero z l = cc z
        none-there (x ∷ xs) (suc k) z l = none-there xs k z (omega (arith, l))

    by : (sort : Sort) (v : ℕ) → slice_get s.cells v ≡ Some (variable sort None) → IsOwnSpare false s gs σ sort v v → IsSpareAt (home_of h v) σ sort v
    by StringSort v at k = k
    by MarkSort v at k = k
    by TermSort v at (w, home, k) =
        let label = at-home v w at home (slice_get h.first.items v) refl in
        subst (λ o. IsSpareAt o σ TermSort v) (sym (ap (λ b. unless_common b (label_numbered h.gammas (number_in (slice_get h.first.items v)))) e))
        (w, ap (λ xs. label_at σ (label_numbered xs (number_in (slice_get h.first.items v)))) gammas ∙ label, k)
