-- The occurs check: the parts of a cell that are still to be looked at, of which those without parts are left out.
use Rattle.std.proofs.Common.{◌≡◌, ◌≤◌, ◌<◌, ◌+◌, ◌++◌, ◌∷◌, [], Some, length, ℕ, zero, suc, List, true, false, map, take, refl, sym, ap, ◌∙◌, subst, arith, inl, inr, append_assoc}
use Rattle.std.specs.Prelude.{slice_get}
use Rattle.plain_laws.proofs.Places.{get-within}
use Rattle.plain_laws.proofs.Lists.{map-last}
use Rattle.store_theory.specs.Stores.{Cell, Store, parts_of, is_bound, OccursIn, here, in_part, EndsAt, stays}
use Rattle.store_theory.specs.Bindings.{EndsIn, IsEnd, IsWellFormed}
use Rattle.store_theory.proofs.BindingLaws.{ends-there}
use Rattle.store_theory.proofs.WeightLaws.{weight, weight_sum, weight_sum-more, weight_sum-append}
use Rattle.term_store.specs.declared.cell.Ref.{Ref}
use Rattle.term_store.specs.RefView.{the_place}
use Rattle.term_unify.specs.Steps.{AddsInner, AreAllCells, AreInner, OccursAmong}
use Rattle.term_unify.specs.Visits.{was_seen}
use Rattle.term_unify.proofs.PairLaws.{all-done, among-back, among-front, among-split, cells-join, cells-split, looks-less, occurs-end, occurs-from_end, take-more, told, weight-ends}
use Rattle.term_unify.proofs.VisitLaws.{Below, Looks, Notes, looks-on, looks-parts, looks-past}

-- cells at which bindings end, and not v
abbrev pub AreOthers : Store → ℕ → List ℕ → Type 0
AreOthers s v [] = Unit {0}
AreOthers s v (r ∷ rs) = IsEnd s r × (¬ (r ≡ v)) × AreOthers s v rs

others-join : (s : Store) (v : ℕ) (rs qs : List ℕ) → AreOthers s v rs → AreOthers s v qs → AreOthers s v (rs ++ qs)
others-join s v [] qs h k = k
others-join s v (r ∷ rs) qs h k = (h.0, h.1, others-join s v rs qs h.2 k)

others-split : (s : Store) (v : ℕ) (rs qs : List ℕ) → AreOthers s v (rs ++ qs) → AreOthers s v rs × AreOthers s v qs
others-split s v [] qs h = (tt, h)
others-split s v (r ∷ rs) qs h = let w = others-split s v rs qs h.2 in ((h.0, h.1, w.0), w.1)

others-cells : (s : Store) (v : ℕ) (rs : List ℕ) → AreOthers s v rs → AreAllCells s rs
others-cells s v [] h = tt
others-cells s v (r ∷ rs) h = (get-within s.cells r h.0.0 h.0.1, others-cells s v rs h.2)

-- ---- what is said of parts, said of those that are looked at

inner-others : (s : Store) (v : ℕ) (rs qs : List ℕ) → AreInner s v rs qs → AreOthers s v qs
inner-others s v [] qs h = subst (AreOthers s v) (sym h) tt
inner-others s v (r ∷ rs) qs (inl (n, h)) = inner-others s v rs qs h
inner-others s v (r ∷ rs) qs (inr (e, more, q, f, d, h)) = subst (AreOthers s v) (sym q) (ends-there s r e f, d, inner-others s v rs more h)

inner-back : (s : Store) (v : ℕ) (rs qs : List ℕ) → IsEnd s v → AreInner s v rs qs → OccursAmong s v qs → OccursAmong s v rs
inner-back s v [] qs w h o = subst (OccursAmong s v) h o
inner-back s v (r ∷ rs) qs w (inl (n, h)) o = inr (inner-back s v rs qs w h o)
inner-back s v (r ∷ rs) qs w (inr (e, more, q, f, d, h)) o = elim (subst (OccursAmong s v) q o) [
  | inl p ↦ inl ((occurs-end s v r e w f).1 p)
  | inr p ↦ inr (inner-back s v rs more w h p)
]

inner-below : (s : Store) (v m : ℕ) (rs qs : List ℕ) → IsWellFormed s → IsEnd s v → AreInner s v rs qs → Below s v rs m → Below s v qs m
inner-below s v m [] qs sound w h (i, x, at, o, l) = absurd (cc)
inner-below s v m (r ∷ rs) qs sound w (inl (n, h)) (zero, x, at, o, l) = absurd (n (subst (OccursIn s v) (let q : x ≡ r = cc in q) o))
inner-below s v m (r ∷ rs) qs sound w (inl (n, h)) (suc i, x, at, o, l) = inner-below s v m rs qs sound w h (i, x, at, o, l)
inner-below s v m (r ∷ rs) qs sound w (inr (e, more, q, f, d, h)) (zero, x, at, o, l) =
    let same : x ≡ r = cc in
    let less = weight-ends s sound r e f in
    let equal = ap (weight s) same in
    (0, e, ap (λ xs. slice_get xs 0) q, (occurs-end s v r e w f).0 (subst (OccursIn s v) same o), omega (arith, less, equal, l))
inner-below s v m (r ∷ rs) qs sound w (inr (e, more, q, f, d, h)) (suc i, x, at, o, l) =
    let (j, y, there, p, less) = inner-below s v m rs more sound w h (i, x, at, o, l) in
    (suc j, y, ap (λ xs. slice_get xs (suc j)) q ∙ there, p, less)

inner-lighter : (s : Store) (v : ℕ) (rs qs : List ℕ) → IsWellFormed s → AreInner s v rs qs → weight_sum s qs ≤ weight_sum s rs
inner-lighter s v [] qs sound h = let q = ap (weight_sum s) h in omega (arith, q)
inner-lighter s v (r ∷ rs) qs sound (inl (n, h)) =
    let k = inner-lighter s v rs qs sound h in
    let z = weight_sum-more s r rs in
    omega (arith, k, z)
inner-lighter s v (r ∷ rs) qs sound (inr (e, more, q, f, d, h)) =
    let k = inner-lighter s v rs more sound h in
    let x = weight_sum-more s r rs in
    let y = ap (weight_sum s) q ∙ weight_sum-more s e more in
    let z = weight-ends s sound r e f in
    omega (arith, k, x, y, z)

below-both : (s : Store) (v m : ℕ) (rest rs qs : List ℕ) → (Below s v rs m → Below s v qs m) → Below s v (rest ++ rs) m → Below s v (rest ++ qs) m
below-both s v m [] rs qs f b = f b
below-both s v m (r ∷ rest) rs qs f (zero, x, at, o, l) = (zero, x, at, o, l)
below-both s v m (r ∷ rest) rs qs f (suc i, x, at, o, l) = let (j, y, there, p, less) = below-both s v m rest rs qs f (i, x, at, o, l) in (suc j, y, there, p, less)

looks-inner : (s : Store) (v t : ℕ) (rest rs qs : List ℕ) (seen : List (ℕ × ℕ)) → IsWellFormed s → IsEnd s v → AreInner s v rs qs → Looks s v t (rest ++ rs) seen → Looks s v t (rest ++ qs) seen
looks-inner s v t rest rs qs seen sound end h w =
    let move : (m : ℕ) → Below s v (rest ++ rs) m → Below s v (rest ++ qs) m = λ m. below-both s v m rest rs qs (inner-below s v m rs qs sound end h) in
    record {
      cells = cells-join s rest qs (cells-split s rest rs w.cells).0 (others-cells s v qs (inner-others s v rs qs h));
      back = λ o. w.back (elim (among-split s v rest qs o) [
        | inl p ↦ among-front s v rest rs p
        | inr p ↦ among-back s v rest rs (inner-back s v rs qs end h p)
      ]);
      first = λ o. move (weight s t) (w.first o);
      others = λ x k o. move (weight s x) (w.others x k o);
    }

-- ---- the loop over cells

-- how far the check has come, where no cell that is left is the variable
pub record LooksInside (s : Store) (v t : ℕ) (rs : List ℕ) (seen : List (ℕ × ℕ)) : Type 0 where
  pub looks : Looks s v t rs seen
  pub ends : AreOthers s v rs

pub inside-first : (s : Store) (v r : ℕ) (before rs : List ℕ) (seen : List (ℕ × ℕ)) → IsWellFormed s → IsEnd s v → IsEnd s r → ¬ (v ≡ r) → before ≡ [] → AddsInner s v r before rs → ((x y : ℕ) → was_seen seen x y ≡ false) → LooksInside s v r rs seen
inside-first s v r before rs seen sound end (c, at, unbound) n e added none =
    let (qs, q, h) = added c at in
    let m : rs ≡ qs = q ∙ ap (λ xs. xs ++ qs) e in
    subst (λ xs. LooksInside s v r xs seen) (sym m) (record {
      looks = looks-inner s v r [] (parts_of c) qs seen sound end h (looks-parts s v r c (parts_of c) seen sound end at n refl none);
      ends = inner-others s v (parts_of c) qs h;
    })

-- the cell that is looked at next
pub inside-next : (s : Store) (v t r : ℕ) (rest rs : List ℕ) (seen : List (ℕ × ℕ)) → LooksInside s v t rs seen → rs ≡ rest ++ r ∷ [] → AreOthers s v rest × IsEnd s r × (¬ (r ≡ v))
inside-next s v t r rest rs seen w e = let k = others-split s v rest (r ∷ []) (subst (AreOthers s v) e w.ends) in (k.0, k.1.0, k.1.1)

pub inside-found : (s : Store) (v t r : ℕ) (rest rs : List ℕ) (seen : List (ℕ × ℕ)) → LooksInside s v t rs seen → rs ≡ rest ++ r ∷ [] → OccursIn s v r → OccursIn s v t
inside-found s v t r rest rs seen w e o = w.looks.back (subst (OccursAmong s v) (sym e) (among-back s v rest (r ∷ []) (inl o)))

pub inside-on : (s : Store) (v t r : ℕ) (rest rs more : List ℕ) (seen noted : List (ℕ × ℕ)) → IsWellFormed s → IsEnd s v → LooksInside s v t rs seen → rs ≡ rest ++ r ∷ [] → AddsInner s v r rest more → Notes seen noted v r → LooksInside s v t more noted
inside-on s v t r rest rs more seen noted sound end w e added notes =
    let k = inside-next s v t r rest rs seen w e in
    let (qs, q, h) = added k.1.0 k.1.1 in
    subst (λ xs. LooksInside s v t xs noted) (sym q) (record {
      looks = looks-inner s v t rest (parts_of k.1.0) qs noted sound end h (looks-on s v t r r k.1.0 rest rs (rest ++ parts_of k.1.0) seen noted sound w.looks end e (stays k.1.1 k.1.2) k.1.1 k.2 refl notes);
      ends = others-join s v rest qs k.0 (inner-others s v (parts_of k.1.0) qs h);
    })

pub inside-past : (s : Store) (v t r : ℕ) (rest rs : List ℕ) (seen noted : List (ℕ × ℕ)) → IsWellFormed s → IsEnd s v → LooksInside s v t rs seen → rs ≡ rest ++ r ∷ [] → was_seen seen v r ≡ true → Notes seen noted v r → LooksInside s v t rest noted
inside-past s v t r rest rs seen noted sound end w e again notes =
    let k = inside-next s v t r rest rs seen w e in
    record {
      looks = looks-past s v t r r rest rs seen noted sound w.looks end e (stays k.1.1 k.1.2) again notes;
      ends = k.0;
    }

pub inside-less : (s : Store) (v t r : ℕ) (rest rs more : List ℕ) (seen : List (ℕ × ℕ)) → IsWellFormed s → LooksInside s v t rs seen → rs ≡ rest ++ r ∷ [] → AddsInner s v r rest more → weight_sum s more < weight_sum s rs
inside-less s v t r rest rs more seen sound w e added =
    let k = inside-next s v t r rest rs seen w e in
    let (qs, q, h) = added k.1.0 k.1.1 in
    let a = looks-less s r r k.1.0 rest rs (rest ++ parts_of k.1.0) sound e (stays k.1.1 k.1.2) k.1.1 refl in
    let b = inner-lighter s v (parts_of k.1.0) qs sound h in
    let x = weight_sum-append s rest (parts_of k.1.0) in
    let y = ap (weight_sum s) q ∙ weight_sum-append s rest qs in
    omega (arith, a, b, x, y)

-- ---- the loop over parts

inner-past : (s : Store) (v k : ℕ) (rs qs : List ℕ) → AreInner s v rs qs → ¬ OccursIn s v k → AreInner s v (rs ++ k ∷ []) qs
inner-past s v k [] qs h n = inl (n, h)
inner-past s v k (r ∷ rs) qs (inl (m, h)) n = inl (m, inner-past s v k rs qs h n)
inner-past s v k (r ∷ rs) qs (inr (e, more, q, f, d, h)) n = inr (e, more, q, f, d, inner-past s v k rs more h n)

inner-kept : (s : Store) (v k e : ℕ) (rs qs : List ℕ) → AreInner s v rs qs → EndsAt s k e → ¬ (e ≡ v) → AreInner s v (rs ++ k ∷ []) (qs ++ e ∷ [])
inner-kept s v k e [] qs h f d = inr (e, [], ap (λ xs. xs ++ e ∷ []) h, f, d, refl)
inner-kept s v k e (r ∷ rs) qs (inl (m, h)) f d = inl (m, inner-kept s v k e rs qs h f d)
inner-kept s v k e (r ∷ rs) qs (inr (e', more, q, f', d', h)) f d = inr (e', more ++ e ∷ [], ap (λ xs. xs ++ e ∷ []) q, f', d', inner-kept s v k e rs more h f d)

-- the parts up to one are those before it and this one
part-more : (s : Store) (r i k : ℕ) (c : Cell) → IsEnd s r → slice_get s.cells r ≡ Some c → EndsIn s r (λ d. slice_get (parts_of d) i ≡ Some k) → take (i + 1) (parts_of c) ≡ take i (parts_of c) ++ k ∷ []
part-more s r i k c end e t =
    let b : is_bound c ≡ false = let q : end.0 ≡ c = let w : Some end.0 ≡ Some c = sym end.1 ∙ e in cc in ap is_bound (sym q) ∙ end.2 in
    take-more i (parts_of c) k (told s r c (λ d. slice_get (parts_of d) i ≡ Some k) e b t)

-- how far the parts were gone over
abbrev pub AddsUpTo : Store → ℕ → ℕ → ℕ → List ℕ → List ℕ → Type 0
AddsUpTo s v r i before after = (c : Cell) → slice_get s.cells r ≡ Some c → (qs : List ℕ) × (after ≡ before ++ qs) × AreInner s v (take i (parts_of c)) qs

pub up_to-kept : (s : Store) (v r i k : ℕ) (place : Ref) (items : List Ref) (before : List ℕ) → IsEnd s r → EndsIn s r (λ d. slice_get (parts_of d) i ≡ Some k) → EndsAt s k place.0 → ¬ (place.0 ≡ v) → AddsUpTo s v r i before (map the_place items) → AddsUpTo s v r (i + 1) before (map the_place (items ++ place ∷ []))
up_to-kept s v r i k place items before end t f d h = λ c e.
    let (qs, q, inner) = h c e in (
      qs ++ place.0 ∷ [],
      map-last the_place items place ∙ ap (λ xs. xs ++ place.0 ∷ []) q ∙ append_assoc before qs (place.0 ∷ []),
      subst (λ xs. AreInner s v xs (qs ++ place.0 ∷ [])) (sym (part-more s r i k c end e t)) (inner-kept s v k place.0 (take i (parts_of c)) qs inner f d),
    )

-- a cell without parts holds no other cell
leaf-apart : (s : Store) (v k e n : ℕ) → IsEnd s v → EndsAt s k e → ¬ (e ≡ v) → EndsIn s e (λ d. n ≡ length (parts_of d)) → n ≡ 0 → ¬ OccursIn s v k
leaf-apart s v k e n w f d t z o = by e (ends-there s k e f) d t ((occurs-end s v k e w f).0 o)
  where
    by : (e : ℕ) → IsEnd s e → ¬ (e ≡ v) → EndsIn s e (λ d. n ≡ length (parts_of d)) → OccursIn s v e → ⊥
    by e end d t here = d refl
    by e end d t (in_part i {k = j} {c = c} h p x) =
        let same : c ≡ end.0 = let q : Some c ≡ Some end.0 = sym h ∙ end.1 in cc in
        let m = told s e end.0 (λ b. n ≡ length (parts_of b)) end.1 end.2 t in
        let l = get-within (parts_of end.0) i j (subst (λ b. slice_get (parts_of b) i ≡ Some j) same p) in
        omega (arith, m, l, z)

pub up_to-past : (s : Store) (v r i k e n : ℕ) (before after : List ℕ) → IsEnd s v → IsEnd s r → EndsIn s r (λ d. slice_get (parts_of d) i ≡ Some k) → EndsAt s k e → ¬ (e ≡ v) → EndsIn s e (λ d. n ≡ length (parts_of d)) → n ≡ 0 → AddsUpTo s v r i before after → AddsUpTo s v r (i + 1) before after
up_to-past s v r i k e n before after w end t f d u z h = λ c at.
    let (qs, q, inner) = h c at in
    (qs, q, subst (λ xs. AreInner s v xs qs) (sym (part-more s r i k c end at t)) (inner-past s v k (take i (parts_of c)) qs inner (leaf-apart s v k e n w f d u z)))

pub up_to-end : (s : Store) (v r i n : ℕ) (before after : List ℕ) → IsEnd s r → EndsIn s r (λ d. n ≡ length (parts_of d)) → i ≡ n → AddsUpTo s v r i before after → AddsInner s v r before after
up_to-end s v r i n before after end t e h = λ c at.
    let (qs, q, inner) = h c at in
    (qs, q, subst (λ xs. AreInner s v xs qs) (ap (λ m. take m (parts_of c)) e ∙ all-done s r n c at end t) inner)

-- a part that is the variable
pub part-found : (s : Store) (v r i k e : ℕ) → IsEnd s r → EndsIn s r (λ d. slice_get (parts_of d) i ≡ Some k) → EndsAt s k e → e ≡ v → OccursIn s v r
part-found s v r i k e end t f q = in_part i end.1 (told s r end.0 (λ d. slice_get (parts_of d) i ≡ Some k) end.1 end.2 t) (occurs-from_end s v k e f (subst (OccursIn s v) (sym q) here))
