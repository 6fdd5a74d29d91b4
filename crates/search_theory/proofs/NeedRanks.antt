-- Where no cell needs itself, each cell is above those that it needs: the length of the longest chain of needs below a cell is its rank.
use Rattle.std.proofs.Common.{◌≡◌, ℕ, zero, suc, ◌<◌, List, [], ◌∷◌, length, Bool, true, false, ◌||◌, IsTrue, refl, sym, ◌∙◌, ap, subst, Option, Some, None, slice_get, eqb, inl, inr, arith, eqb-true}
use Rattle.std.specs.List.{list_any, IsDistinct}
use Rattle.std.proofs.lemmas.Bool.{false≢true, cases_Bool}
use Rattle.std.proofs.lemmas.Option.{slice_get_within}
use Rattle.std.proofs.lemmas.Map.Steps.{length-le_from_distinct_below}
use Rattle.std.proofs.lemmas.Map.Keys.{IsDistinct-cons}
use Rattle.store_theory.specs.Stores.{Cell, Store}
use Rattle.search_theory.specs.CellsIn.{IsPart}
use Rattle.search_theory.proofs.RankLaws.{highest, part-lower, highest-at, highest-same, each-differs, distinct-nothing, has}
use Rattle.search_theory.proofs.RuleLaws.{IsRankedBy}
use Rattle.search_theory.specs.SpareRules.{SpareRule, needed, Needs, at_once, by_way, HasNoNeedCycle, NeedsCells}

abbrev pub depth_at : SpareRule → (ℕ → ℕ) → ℕ → Option Cell → ℕ
depth_at R f r None = 0
depth_at R f r (Some c) = highest f (needed R r c)

-- the longest chain of at most n needs below a cell
abbrev pub need_depth : SpareRule → Store → ℕ → ℕ → ℕ
need_depth R s zero r = 0
need_depth R s (suc n) r = depth_at R (need_depth R s n) r (slice_get s.cells r)

depth-stable : (R : SpareRule) (s : Store) (n r : ℕ) → need_depth R s n r < n → need_depth R s (suc n) r ≡ need_depth R s n r
depth-stable R s zero r l = absurd (omega (arith, l))
depth-stable R s (suc n) r l = by (slice_get s.cells r) l (λ k m. depth-stable R s n k m)
  where
    by : (o : Option Cell) → depth_at R (need_depth R s n) r o < suc n → ((k : ℕ) → need_depth R s n k < n → need_depth R s (suc n) k ≡ need_depth R s n k) → depth_at R (need_depth R s (suc n)) r o ≡ depth_at R (need_depth R s n) r o
    by None m ih = refl
    by (Some c) m ih = highest-same (need_depth R s (suc n)) (need_depth R s n) (needed R r c) (λ k p. ih k (let q = part-lower (need_depth R s n) (needed R r c) k p in omega (arith, q, m)))

-- each is needed by the one before
abbrev IsChain : SpareRule → Store → ℕ → List ℕ → Type 0
IsChain R s r [] = Unit {0}
IsChain R s r (k ∷ ks) = ((c : Cell) × (slice_get s.cells r ≡ Some c) × IsPart k (needed R r c)) × IsChain R s k ks

chain-of : (R : SpareRule) (s : Store) (n r : ℕ) → (ks : List ℕ) × IsChain R s r ks × (length ks ≡ need_depth R s n r)
chain-of R s zero r = ([], tt, refl)
chain-of R s (suc n) r = by (slice_get s.cells r) refl (λ k. chain-of R s n k)
  where
    by : (o : Option Cell) → slice_get s.cells r ≡ o → ((k : ℕ) → (ks : List ℕ) × IsChain R s k ks × (length ks ≡ need_depth R s n k)) → (ks : List ℕ) × IsChain R s r ks × (length ks ≡ depth_at R (need_depth R s n) r o)
    by None e ih = ([], tt, refl)
    by (Some c) e ih = elim (highest-at (need_depth R s n) (needed R r c)) [
      | inl z ↦ ([], tt, sym z)
      | inr w ↦ (let t = ih w.0 in (w.0 ∷ t.0, ((c, e, w.1), t.1), ap suc t.2 ∙ sym w.2))
    ]

-- what stands on a chain is needed by its first cell
chain-needs : (R : SpareRule) (s : Store) (r q : ℕ) (ks : List ℕ) → IsChain R s r ks → IsTrue (has ks q) → Needs R s q r
chain-needs R s r q [] h m = absurd (false≢true m)
chain-needs R s r q (k ∷ ks) h m = elim (cases_Bool (eqb q k)) [
  | inl e ↦ at_once h.0.1 (subst (λ x. IsPart x (needed R r h.0.0)) (sym (eqb-true q k e)) h.0.2)
  | inr e ↦ by_way h.0.1 h.0.2 (chain-needs R s k q ks h.1 (later (eqb q k) (has ks q) e m))
]
  where
    later : (a b : Bool) → a ≡ false → IsTrue (a || b) → IsTrue b
    later true b e x = absurd (false≢true (sym e))
    later false b e x = x

not-on : (R : SpareRule) (s : Store) → HasNoNeedCycle R s → (r : ℕ) (ks : List ℕ) → IsChain R s r ks → has ks r ≡ false
not-on R s no_cycle r ks h = elim (cases_Bool (has ks r)) [
  | inl e ↦ absurd (no_cycle r (chain-needs R s r r ks h e))
  | inr e ↦ e
]

chain-distinct : (R : SpareRule) (s : Store) → HasNoNeedCycle R s → (r : ℕ) (ks : List ℕ) → IsChain R s r ks → IsDistinct eqb (r ∷ ks)
chain-distinct R s no_cycle r [] h = IsDistinct-cons eqb r [] tt distinct-nothing
chain-distinct R s no_cycle r (k ∷ ks) h = IsDistinct-cons eqb r (k ∷ ks) (each-differs r (k ∷ ks) (not-on R s no_cycle r (k ∷ ks) h)) (chain-distinct R s no_cycle k ks h.1)

chain-below : (R : SpareRule) (s : Store) → NeedsCells R s → (r : ℕ) (c : Cell) → slice_get s.cells r ≡ Some c → (ks : List ℕ) → IsChain R s r ks → (q : ℕ) → list_any (eqb q) (r ∷ ks) ≡ true → q < length s.cells
chain-below R s h r c e [] t q m = elim (cases_Bool (eqb q r)) [
  | inl f ↦ (let l = slice_get_within s.cells r c e in let g : q ≡ r = eqb-true q r f in omega (arith, l, g))
  | inr f ↦ absurd (false≢true (sym (none (eqb q r) f) ∙ m))
]
  where
    none : (a : Bool) → a ≡ false → (a || false) ≡ false
    none true x = x
    none false x = refl
chain-below R s h r c e (k ∷ ks) t q m =
    let d = h r k t.0.0 t.0.1 t.0.2 in
    let deeper = chain-below R s h k d.0 d.1 ks t.1 q in
    elim (cases_Bool (eqb q r)) [
      | inl f ↦ (let l = slice_get_within s.cells r c e in let g : q ≡ r = eqb-true q r f in omega (arith, l, g))
      | inr f ↦ deeper (later (eqb q r) (has (k ∷ ks) q) f m)
    ]
  where
    later : (a b : Bool) → a ≡ false → (a || b) ≡ true → b ≡ true
    later true b x y = absurd (false≢true (sym x))
    later false b x y = y

depth-bounded : (R : SpareRule) (s : Store) → NeedsCells R s → HasNoNeedCycle R s → (n r : ℕ) (c : Cell) → slice_get s.cells r ≡ Some c → need_depth R s n r < length s.cells
depth-bounded R s h no_cycle n r c e =
    let (ks, t, l) = chain-of R s n r in
    let most = length-le_from_distinct_below (r ∷ ks) (length s.cells) (chain-distinct R s no_cycle r ks t) (chain-below R s h r c e ks t) in
    omega (arith, most, l)

depth-outside : (R : SpareRule) (s : Store) (n r : ℕ) → slice_get s.cells r ≡ None → need_depth R s n r ≡ 0
depth-outside R s zero r e = refl
depth-outside R s (suc n) r e = ap (depth_at R (need_depth R s n) r) e

abbrev pub need_rank : SpareRule → Store → ℕ → ℕ
need_rank R s r = need_depth R s (length s.cells) r

-- where no cell needs itself there are ranks
pub ranked-by_no_need_cycle : (R : SpareRule) (s : Store) → NeedsCells R s → HasNoNeedCycle R s → IsRankedBy R s (need_rank R s) (suc (length s.cells))
ranked-by_no_need_cycle R s h no_cycle = record {
  falls = λ r k c e p.
      let n = length s.cells in
      let l = depth-bounded R s h no_cycle n r c e in
      let stays : highest (need_depth R s n) (needed R r c) ≡ need_depth R s n r = sym (ap (depth_at R (need_depth R s n) r) e) ∙ depth-stable R s n r l in
      let lower = part-lower (need_depth R s n) (needed R r c) k p in
      omega (arith, lower, stays);
  below = λ r. by r (slice_get s.cells r) refl;
}
  where
    by : (r : ℕ) (o : Option Cell) → slice_get s.cells r ≡ o → need_rank R s r < suc (length s.cells)
    by r None e = let z = depth-outside R s (length s.cells) r e in omega (arith, z)
    by r (Some c) e = let l = depth-bounded R s h no_cycle (length s.cells) r c e in omega (arith, l)
