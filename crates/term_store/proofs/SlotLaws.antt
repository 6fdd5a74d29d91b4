-- Changes of the list of slots, and what the calculus sees of them.
use Rattle.std.proofs.Common.{◌≡◌, ◌≤◌, ◌<◌, ◌+◌, ◌++◌, ◌∷◌, ◌==◌, ◌||◌, [], Some, IsTrue, length, ℕ, zero, suc, List, Bool, true, false, map, take, refl, sym, ap, ap₂, ◌∙◌, subst, arith, slice_set, inl, inr, eqb-true, eq-eqb, if◌then◌else◌, not}
use Rattle.std.specs.Prelude.{slice_get}
use Rattle.std.proofs.lemmas.Bool.{cases_Bool, false≢true, and_parts}
use Rattle.plain_laws.proofs.Lists.{map-length}
use Rattle.calculus.specs.Equality.{contains}
use Rattle.store_theory.specs.Stores.{is_bound, trail_fits, are_distinct_cells}
use Rattle.calculus.proofs.PlaceLists.{contains-append}
use Rattle.store_theory.proofs.BindingLaws.{is_bound_at, kept_trail, bound-within}
use Rattle.store_theory.proofs.StoreLaws.{contains-take, distinct-take}
use Rattle.term_store.specs.declared.cell.Ref.{Ref}
use Rattle.term_store.specs.declared.cell.Content.{Content}
use Rattle.term_store.specs.declared.cell.Content.TheVariants.{Open, Bound, Fun, Eigen, New, Marks}
use Rattle.term_store.specs.declared.cell.Slot.{Slot}
use Rattle.term_store.specs.Slots.{bound_content, open_content, change_at, slots_bound_by}
use Rattle.term_store.specs.StoreView.{the_cell, the_cell_at, the_store, part_count, IsLaid}

pub length-change_at : (f : Content → Content) (v : ℕ) (slots : List Slot) → length (change_at f v slots) ≡ length slots
length-change_at f v [] = refl
length-change_at f zero (s ∷ slots) = refl
length-change_at f (suc v) (s ∷ slots) = ap suc (length-change_at f v slots)

pub count-bound : (to : Ref) (c : Content) → part_count (bound_content to c) ≡ part_count c
count-bound to (Open sort) = refl
count-bound to (Bound sort r) = refl
count-bound to (Fun f n) = refl
count-bound to (Eigen p n) = refl
count-bound to (New p n) = refl
count-bound to (Marks n) = refl

pub count-open : (c : Content) → part_count (open_content c) ≡ part_count c
count-open (Open sort) = refl
count-open (Bound sort r) = refl
count-open (Fun f n) = refl
count-open (Eigen p n) = refl
count-open (New p n) = refl
count-open (Marks n) = refl

pub laid-change_at : (f : Content → Content) → ((c : Content) → part_count (f c) ≡ part_count c) → (v start : ℕ) (slots : List Slot) (end : ℕ) → IsLaid start slots end → IsLaid start (change_at f v slots) end
laid-change_at f h v start [] end l = l
laid-change_at f h zero start (s ∷ slots) end l = (l.0, subst (λ n. IsLaid (start + n) slots end) (sym (h s.content)) l.1)
laid-change_at f h (suc v) start (s ∷ slots) end l = (l.0, laid-change_at f h v (start + part_count s.content) slots end l.1)

-- ---- taking bindings back

open-twice : (c : Content) → open_content (open_content c) ≡ open_content c
open-twice (Open sort) = refl
open-twice (Bound sort r) = refl
open-twice (Fun f n) = refl
open-twice (Eigen p n) = refl
open-twice (New p n) = refl
open-twice (Marks n) = refl

contains-other : (t : List ℕ) (j k : ℕ) → ¬ (j ≡ k) → contains (t ++ j ∷ []) k ≡ contains t k
contains-other t j k h = contains-append t (j ∷ []) k ∙ rw (other j k h) (or_none (contains t k))
  where
    or_none : (p : Bool) → (p || (false || false)) ≡ p
    or_none true = refl
    or_none false = refl

    other : (j k : ℕ) → ¬ (j ≡ k) → (j == k) ≡ false
    other j k h = elim (cases_Bool (j == k)) [ inl e ↦ absurd (h (eqb-true j k e)) | inr e ↦ e ]

slots-later : (t : List ℕ) (j n : ℕ) (slots : List Slot) → j < n → slots_bound_by (t ++ j ∷ []) n slots ≡ slots_bound_by t n slots
slots-later t j n [] h = refl
slots-later t j n (s ∷ slots) h = ap₂ ◌∷◌ (ap (λ b. let q : Slot = record { content = if b then s.content else open_content s.content; start = s.start } in q) (contains-other t j n (λ e. let e' : j ≡ n = e in omega arith))) (slots-later t j (suc n) slots (omega arith))

-- the last entry of the trail is taken back
pub unbind-step : (t : List ℕ) (v j n : ℕ) (slots : List Slot) → j ≡ n + v → contains t j ≡ false → change_at open_content v (slots_bound_by (t ++ j ∷ []) n slots) ≡ slots_bound_by t n slots
unbind-step t v j n [] e h = refl
unbind-step t zero j n (s ∷ slots) e h = ap₂ ◌∷◌ (ap (λ c. let q : Slot = record { content = c; start = s.start } in q) (rw (ap (contains t) (let p : n ≡ j = omega arith in p) ∙ h) (by (contains (t ++ j ∷ []) n)))) (slots-later t j (suc n) slots (omega arith))
  where
    by : (b : Bool) → open_content (if b then s.content else open_content s.content) ≡ open_content s.content
    by true = refl
    by false = open-twice s.content
unbind-step t (suc v) j n (s ∷ slots) e h = ap₂ ◌∷◌ (ap (λ b. let q : Slot = record { content = if b then s.content else open_content s.content; start = s.start } in q) (contains-other t j n (λ q. let q' : j ≡ n = q in omega arith))) (unbind-step t v j (suc n) slots (omega arith) h)

bound-slots : (t : List ℕ) (n : ℕ) (slots : List Slot) → ((k : ℕ) → contains t (n + k) ≡ is_bound_at (map (the_cell []) slots) k) → slots_bound_by t n slots ≡ slots
bound-slots t n [] h = refl
bound-slots t n (s ∷ slots) h = ap₂ ◌∷◌ (ap (λ c. let q : Slot = record { content = c; start = s.start } in q) (rw (ap (contains t) (let p : n ≡ n + 0 = omega arith in p) ∙ h 0) (by s.content))) (bound-slots t (suc n) slots (λ k. ap (contains t) (let p : suc n + k ≡ n + suc k = omega arith in p) ∙ h (suc k)))
  where
    by : (c : Content) → (if is_bound (the_cell_at [] s.start c) then c else open_content c) ≡ c
    by (Open sort) = refl
    by (Bound sort r) = refl
    by (Fun f n) = refl
    by (Eigen p n) = refl
    by (New p n) = refl
    by (Marks n) = refl

pub unbind-none : (slots : List Slot) (trail : List ℕ) → IsTrue (trail_fits (the_store slots [] trail)) → slots_bound_by trail 0 slots ≡ slots
unbind-none slots trail h = bound-slots trail 0 slots (λ k. ap (contains trail) (let p : 0 + k ≡ k = omega arith in p) ∙ (kept_trail (the_store slots [] trail) h).bound k)

length-slots : (t : List ℕ) (n : ℕ) (slots : List Slot) → length (slots_bound_by t n slots) ≡ length slots
length-slots t n [] = refl
length-slots t n (s ∷ slots) = ap suc (length-slots t (suc n) slots)

distinct-end : (t : List ℕ) (v : ℕ) → IsTrue (are_distinct_cells (t ++ v ∷ [])) → contains t v ≡ false
distinct-end [] v h = refl
distinct-end (r ∷ t) v h =
    let a = and_parts (not (contains (t ++ v ∷ []) r)) (are_distinct_cells (t ++ v ∷ [])) h in
    let rest = distinct-end t v a.1 in
    elim (cases_Bool (r == v)) [
      | inl e ↦ absurd (let there : contains (t ++ v ∷ []) r ≡ true = contains-append t (v ∷ []) r ∙ rw (eq-eqb v r (sym (eqb-true r v e))) (or_true (contains t r)) in false≢true (sym (ap not there) ∙ a.0))
      | inr e ↦ rw e rest
    ]
  where
    or_true : (p : Bool) → (p || (true || false)) ≡ true
    or_true true = refl
    or_true false = refl

-- the last entry of a part of the trail: it is a cell, and stands there once
pub unbind-last : (slots : List Slot) (trail t : List ℕ) (k v : ℕ) → IsTrue (trail_fits (the_store slots [] trail)) → take k trail ≡ t ++ v ∷ [] → (v < length slots) × (contains t v ≡ false)
unbind-last slots trail t k v h e =
    let w = kept_trail (the_store slots [] trail) h in
    let there : contains (take k trail) v ≡ true = ap (λ xs. contains xs v) e ∙ contains-append t (v ∷ []) v ∙ rw (eq-eqb v v refl) (or_true (contains t v)) in
    let b : is_bound_at (map (the_cell []) slots) v ≡ true = sym (w.bound v) ∙ contains-take k trail v there in
    let l = bound-within (map (the_cell []) slots) v b in
    (omega (arith, map-length (the_cell []) slots), distinct-end t v (subst (λ xs. IsTrue (are_distinct_cells xs)) e (distinct-take k trail w.distinct)))
  where
    or_true : (p : Bool) → (p || (true || false)) ≡ true
    or_true true = refl
    or_true false = refl

pub unbind-length : (t : List ℕ) (slots now : List Slot) → now ≡ slots_bound_by t 0 slots → length now ≡ length slots
unbind-length t slots now e = ap length e ∙ length-slots t 0 slots

pub take-shorter : (trail t : List ℕ) (k v : ℕ) → k ≤ length trail → take k trail ≡ t ++ v ∷ [] → (t ≡ take (length t) trail) × (k ≡ length t + 1)
take-shorter trail [] zero v h e = absurd (cc)
take-shorter trail (x ∷ t) zero v h e = absurd (cc)
take-shorter [] t (suc k) v h e = absurd (omega arith)
take-shorter (y ∷ trail) [] (suc zero) v h e = (refl, omega arith)
take-shorter (y ∷ []) [] (suc (suc k)) v h e = absurd (omega arith)
take-shorter (y ∷ z ∷ trail) [] (suc (suc k)) v h e = absurd (cc)
take-shorter (y ∷ trail) (x ∷ t) (suc k) v h e =
    let same : x ≡ y = cc in
    let rest : take k trail ≡ t ++ v ∷ [] = cc in
    let w = take-shorter trail t k v (omega arith) rest in
    (ap₂ ◌∷◌ same w.0, let n = w.1 in omega arith)

pub take-whole : (n : ℕ) (xs : List ℕ) → n ≡ length xs → xs ≡ take n xs
take-whole zero [] h = refl
take-whole (suc n) [] h = absurd (omega arith)
take-whole zero (x ∷ xs) h = absurd (omega arith)
take-whole (suc n) (x ∷ xs) h = ap (λ ys. x ∷ ys) (take-whole n xs (omega arith))

-- one turn of the loop
pub unbind-turn : (slots now after : List Slot) (trail items t : List ℕ) (v k n : ℕ) → IsTrue (trail_fits (the_store slots [] trail)) → now ≡ slots_bound_by items 0 slots → items ≡ take k trail → k ≤ length trail → items ≡ t ++ v ∷ [] → after ≡ change_at open_content v now → n ≡ length t → (after ≡ slots_bound_by t 0 slots) × (t ≡ take n trail)
unbind-turn slots now after trail items t v k n h e f l g a m =
    let w = unbind-last slots trail t k v h (sym f ∙ g) in
    let s = take-shorter trail t k v l (sym f ∙ g) in
    (a ∙ ap (change_at open_content v) (e ∙ ap (λ xs. slots_bound_by xs 0 slots) g) ∙ unbind-step t v v 0 slots (omega arith) w.1, s.0 ∙ ap (λ x. take x trail) (sym m))

pub unbind-place : (slots now : List Slot) (trail items t : List ℕ) (v k : ℕ) → IsTrue (trail_fits (the_store slots [] trail)) → now ≡ slots_bound_by items 0 slots → items ≡ take k trail → items ≡ t ++ v ∷ [] → v < length now
unbind-place slots now trail items t v k h e f g = let w = unbind-last slots trail t k v h (sym f ∙ g) in let n = unbind-length items slots now e in omega arith

-- a slot whose content was read, changed and written back
pub change_at-read : (f : Content → Content) (v : ℕ) (slots : List Slot) (k : Content) (s : Slot) → slice_get slots v ≡ Some s → k ≡ f s.content → slice_set slots v (record { content = k; start = s.start }) ≡ change_at f v slots
change_at-read f v [] k s a e = absurd (cc)
change_at-read f zero (r ∷ slots) k s a e =
    let same : s ≡ r = cc in
    ap₂ (λ c n. let q : Slot = record { content = c; start = n } in q ∷ slots) (e ∙ ap (λ x. f x.content) same) (ap (λ x. x.start) same)
change_at-read f (suc v) (r ∷ slots) k s a e = ap (λ ss. r ∷ ss) (change_at-read f v slots k s a e)

-- the last item, behind those before it
pub take-last : (xs : List ℕ) (n v : ℕ) → slice_get xs n ≡ Some v → length xs ≡ n + 1 → xs ≡ take n xs ++ v ∷ []
take-last [] n v e l = absurd (cc)
take-last (x ∷ []) zero v e l = let same : x ≡ v = cc in ap (λ y. y ∷ []) same
take-last (x ∷ y ∷ xs) zero v e l = absurd (omega arith)
take-last (x ∷ xs) (suc n) v e l = ap (λ ys. x ∷ ys) (take-last xs n v e (omega arith))
