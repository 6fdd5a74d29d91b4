-- A store without cycles has ranks: the length of the longest chain of bindings and parts below a cell.
use Rattle.std.proofs.Common.{◌≡◌, ◌⊎◌, ℕ, zero, suc, ◌<◌, ◌≤◌, List, [], ◌∷◌, length, Bool, true, false, ◌||◌, IsTrue, refl, sym, ◌∙◌, ap, ap₂, subst, Option, Some, None, slice_get, nat_lt, eqb, inl, inr, arith, eqb-true, ltb-true, lt-ltb, if◌then◌else◌}
use Rattle.std.specs.List.{AllByRecursion, list_any, IsDistinct}
use Rattle.std.proofs.lemmas.Bool.{false≢true, cases_Bool, cases_lt}
use Rattle.std.proofs.lemmas.Option.{slice_get_within}
use Rattle.std.proofs.lemmas.Map.Steps.{length-le_from_distinct_below}
use Rattle.std.proofs.lemmas.Map.Keys.{IsDistinct-cons}
use Rattle.store_theory.specs.Stores.{Cell, Store, parts_of, is_store, OccursIn, here, in_part, HasNoCycle}
use Rattle.search_theory.proofs.SpareLaws.{IsRanked}
use Rattle.search_theory.specs.CellsIn.{IsPart}
use Rattle.search_theory.proofs.GeneralLaws.{part-cell}

-- ---- the greater of two numbers

abbrev pub larger : ℕ → ℕ → ℕ
larger a b = if nat_lt a b then b else a

larger-left : (a b : ℕ) → a ≤ larger a b
larger-left a b = by (nat_lt a b) refl
  where
    by : (t : Bool) → nat_lt a b ≡ t → a ≤ (if t then b else a)
    by true e = let l : a < b = ltb-true a b e in omega (arith, l)
    by false e = omega arith

larger-right : (a b : ℕ) → b ≤ larger a b
larger-right a b = elim (cases_lt a b) [ inl l ↦ by-less (lt-ltb a b l) | inr g ↦ by-more g (nat_lt a b) ]
  where
    by-less : nat_lt a b ≡ true → b ≤ larger a b
    by-less e = rw e (omega arith)

    by-more : b ≤ a → (t : Bool) → b ≤ (if t then b else a)
    by-more g true = omega arith
    by-more g false = g

larger-one : (a b : ℕ) → (larger a b ≡ a) ⊎ (larger a b ≡ b)
larger-one a b = by (nat_lt a b)
  where
    by : (t : Bool) → ((if t then b else a) ≡ a) ⊎ ((if t then b else a) ≡ b)
    by true = inr refl
    by false = inl refl

-- ---- depths

abbrev pub highest : (ℕ → ℕ) → List ℕ → ℕ
highest f [] = 0
highest f (k ∷ ks) = larger (suc (f k)) (highest f ks)

abbrev depth_at : (ℕ → ℕ) → Option Cell → ℕ
depth_at f None = 0
depth_at f (Some c) = highest f (parts_of c)

-- the longest chain of at most n steps below a cell
abbrev pub depth : Store → ℕ → ℕ → ℕ
depth s zero r = 0
depth s (suc n) r = depth_at (depth s n) (slice_get s.cells r)

pub part-lower : (f : ℕ → ℕ) (ks : List ℕ) (k : ℕ) → IsPart k ks → suc (f k) ≤ highest f ks
part-lower f [] k (i, e) = cc e
part-lower f (j ∷ ks) k (zero, e) = let q : j ≡ k = cc e in subst (λ x. suc (f x) ≤ highest f (j ∷ ks)) q (larger-left (suc (f j)) (highest f ks))
part-lower f (j ∷ ks) k (suc i, e) = let l = part-lower f ks k (i, e) in let m = larger-right (suc (f j)) (highest f ks) in omega (arith, l, m)

-- some part has the highest depth
pub highest-at : (f : ℕ → ℕ) (ks : List ℕ) → (highest f ks ≡ 0) ⊎ ((k : ℕ) × IsPart k ks × (highest f ks ≡ suc (f k)))
highest-at f [] = inl refl
highest-at f (k ∷ ks) = elim (larger-one (suc (f k)) (highest f ks)) [
  | inl e ↦ inr (k, (0, refl), e)
  | inr e ↦ elim (highest-at f ks) [
    | inl z ↦ inl (e ∙ z)
    | inr w ↦ inr (w.0, (suc w.1.0, w.1.1), e ∙ w.2)
  ]
]

pub highest-same : (f g : ℕ → ℕ) (ks : List ℕ) → ((k : ℕ) → IsPart k ks → f k ≡ g k) → highest f ks ≡ highest g ks
highest-same f g [] h = refl
highest-same f g (k ∷ ks) h = ap₂ (λ a b. larger (suc a) b) (h k (0, refl)) (highest-same f g ks (λ j p. h j (suc p.0, p.1)))

-- ---- where no longer chain is found, none is there

depth-stable : (s : Store) (n r : ℕ) → depth s n r < n → depth s (suc n) r ≡ depth s n r
depth-stable s zero r l = absurd (omega (arith, l))
depth-stable s (suc n) r l = by (slice_get s.cells r) l (λ k m. depth-stable s n k m)
  where
    by : (o : Option Cell) → depth_at (depth s n) o < suc n → ((k : ℕ) → depth s n k < n → depth s (suc n) k ≡ depth s n k) → depth_at (depth s (suc n)) o ≡ depth_at (depth s n) o
    by None m ih = refl
    by (Some c) m ih = highest-same (depth s (suc n)) (depth s n) (parts_of c) (λ k p. ih k (let q = part-lower (depth s n) (parts_of c) k p in omega (arith, q, m)))

-- ---- chains

-- each is a part of the one before, or what it is bound to
abbrev IsChain : Store → ℕ → List ℕ → Type 0
IsChain s r [] = Unit {0}
IsChain s r (k ∷ ks) = ((c : Cell) × (slice_get s.cells r ≡ Some c) × IsPart k (parts_of c)) × IsChain s k ks

chain-of : (s : Store) (n r : ℕ) → (ks : List ℕ) × IsChain s r ks × (length ks ≡ depth s n r)
chain-of s zero r = ([], tt, refl)
chain-of s (suc n) r = by (slice_get s.cells r) refl (λ k. chain-of s n k)
  where
    by : (o : Option Cell) → slice_get s.cells r ≡ o → ((k : ℕ) → (ks : List ℕ) × IsChain s k ks × (length ks ≡ depth s n k)) → (ks : List ℕ) × IsChain s r ks × (length ks ≡ depth_at (depth s n) o)
    by None e ih = ([], tt, refl)
    by (Some c) e ih = elim (highest-at (depth s n) (parts_of c)) [
      | inl z ↦ ([], tt, sym z)
      | inr w ↦ (let t = ih w.0 in (w.0 ∷ t.0, ((c, e, w.1), t.1), ap suc t.2 ∙ sym w.2))
    ]

abbrev pub has : List ℕ → ℕ → Bool
has ks q = list_any (eqb q) ks

-- what stands on a chain occurs in its first cell
chain-occurs : (s : Store) (r q : ℕ) (ks : List ℕ) → IsChain s r ks → IsTrue (has ks q) → (k : ℕ) × ((c : Cell) × (slice_get s.cells r ≡ Some c) × IsPart k (parts_of c)) × OccursIn s q k
chain-occurs s r q [] h m = absurd (false≢true m)
chain-occurs s r q (k ∷ ks) h m = (
  k,
  h.0,
  elim (cases_Bool (eqb q k)) [
    | inl e ↦ subst (OccursIn s q) (eqb-true q k e) here
    | inr e ↦ (let t = chain-occurs s k q ks h.1 (later (eqb q k) (has ks q) e m) in in_part t.1.2.0 t.1.1 t.1.2.1 t.2)
  ],
)
  where
    later : (a b : Bool) → a ≡ false → IsTrue (a || b) → IsTrue b
    later true b e x = absurd (false≢true (sym e))
    later false b e x = x

not-on : (s : Store) → HasNoCycle s → (r : ℕ) (ks : List ℕ) → IsChain s r ks → has ks r ≡ false
not-on s no_cycle r ks h = elim (cases_Bool (has ks r)) [
  | inl e ↦ (let t = chain-occurs s r r ks h e in absurd (no_cycle t.1.2.0 r t.0 t.1.0 t.1.1 t.1.2.1 t.2))
  | inr e ↦ e
]

pub each-differs : (r : ℕ) (ks : List ℕ) → has ks r ≡ false → AllByRecursion (λ y. eqb r y ≡ false) ks
each-differs r [] h = tt
each-differs r (k ∷ ks) h = (first (eqb r k) (has ks r) h, each-differs r ks (rest (eqb r k) (has ks r) h))
  where
    first : (a b : Bool) → (a || b) ≡ false → a ≡ false
    first true b e = e
    first false b e = refl

    rest : (a b : Bool) → (a || b) ≡ false → b ≡ false
    rest true b e = absurd (false≢true (sym e))
    rest false b e = e

pub distinct-nothing : IsDistinct eqb []
unfolding IsDistinct
distinct-nothing = tt

chain-distinct : (s : Store) → HasNoCycle s → (r : ℕ) (ks : List ℕ) → IsChain s r ks → IsDistinct eqb (r ∷ ks)
chain-distinct s no_cycle r [] h = IsDistinct-cons eqb r [] tt distinct-nothing
chain-distinct s no_cycle r (k ∷ ks) h = IsDistinct-cons eqb r (k ∷ ks) (each-differs r (k ∷ ks) (not-on s no_cycle r (k ∷ ks) h)) (chain-distinct s no_cycle k ks h.1)

chain-below : (s : Store) → IsTrue (is_store s) → (r : ℕ) (c : Cell) → slice_get s.cells r ≡ Some c → (ks : List ℕ) → IsChain s r ks → (q : ℕ) → list_any (eqb q) (r ∷ ks) ≡ true → q < length s.cells
chain-below s h r c e [] t q m = elim (cases_Bool (eqb q r)) [
  | inl f ↦ (let l = slice_get_within s.cells r c e in let g : q ≡ r = eqb-true q r f in omega (arith, l, g))
  | inr f ↦ absurd (false≢true (sym (none (eqb q r) f) ∙ m))
]
  where
    none : (a : Bool) → a ≡ false → (a || false) ≡ false
    none true x = x
    none false x = refl
chain-below s h r c e (k ∷ ks) t q m =
    let d = part-cell s h r k t.0.0 t.0.1 t.0.2 in
    let deeper = chain-below s h k d.0 d.1 ks t.1 q in
    elim (cases_Bool (eqb q r)) [
      | inl f ↦ (let l = slice_get_within s.cells r c e in let g : q ≡ r = eqb-true q r f in omega (arith, l, g))
      | inr f ↦ deeper (later (eqb q r) (has (k ∷ ks) q) f m)
    ]
  where
    later : (a b : Bool) → a ≡ false → (a || b) ≡ true → b ≡ true
    later true b x y = absurd (false≢true (sym x))
    later false b x y = y

-- ---- the law

depth-bounded : (s : Store) → IsTrue (is_store s) → HasNoCycle s → (n r : ℕ) (c : Cell) → slice_get s.cells r ≡ Some c → depth s n r < length s.cells
depth-bounded s h no_cycle n r c e =
    let (ks, t, l) = chain-of s n r in
    let most = length-le_from_distinct_below (r ∷ ks) (length s.cells) (chain-distinct s no_cycle r ks t) (chain-below s h r c e ks t) in
    omega (arith, most, l)

depth-outside : (s : Store) (n r : ℕ) → slice_get s.cells r ≡ None → depth s n r ≡ 0
depth-outside s zero r e = refl
depth-outside s (suc n) r e = ap (depth_at (depth s n)) e

abbrev pub rank_of : Store → ℕ → ℕ
rank_of s r = depth s (length s.cells) r

-- a store without cycles has ranks
pub ranked-by_no_cycle : (s : Store) → IsTrue (is_store s) → HasNoCycle s → IsRanked s (rank_of s) (suc (length s.cells))
ranked-by_no_cycle s h no_cycle = record {
  falls = λ r k c e p.
      let n = length s.cells in
      let l = depth-bounded s h no_cycle n r c e in
      let stays : highest (depth s n) (parts_of c) ≡ depth s n r = sym (ap (depth_at (depth s n)) e) ∙ depth-stable s n r l in
      let lower = part-lower (depth s n) (parts_of c) k p in
      omega (arith, lower, stays);
  below = λ r. by r (slice_get s.cells r) refl;
}
  where
    by : (r : ℕ) (o : Option Cell) → slice_get s.cells r ≡ o → rank_of s r < suc (length s.cells)
    by r None e = let z = depth-outside s (length s.cells) r e in omega (arith, z)
    by r (Some c) e = let l = depth-bounded s h no_cycle (length s.cells) r c e in omega (arith, l)
