-- Cells and pairs that were visited: what was found of them waits in the lists that are left, at cells of a smaller weight.
use Rattle.std.proofs.Common.{◌⊎◌, ◌≡◌, ◌≤◌, ◌<◌, ◌+◌, ◌++◌, ◌∷◌, [], Some, length, ℕ, zero, suc, List, true, false, refl, sym, ap, ◌∙◌, subst, arith, inl, inr}
use Rattle.std.specs.Prelude.{slice_get}
use Rattle.std.proofs.lemmas.Bool.{false≢true}
use Rattle.plain_laws.proofs.Places.{get-back, get-front}
use Rattle.store_theory.specs.Stores.{Cell, Store, parts_of, OccursIn, here, in_part, EndsAt, Solution, Solves}
use Rattle.store_theory.specs.Bindings.{IsEnd, IsWellFormed, SolvesPairs, part_pairs}
use Rattle.calculus.proofs.PlaceLists.{get-last}
use Rattle.store_theory.proofs.SolutionLaws.{ends-same, alike-parts}
use Rattle.store_theory.proofs.WeightLaws.{weight, weight_sum, weight_sum-more, weight_sum-append, weight-parts, weight-positive}
use Rattle.term_unify.specs.Steps.{AreBuilt, AddsParts, AreAllCells, OccursAmong}
use Rattle.term_unify.specs.Visits.{was_seen}
use Rattle.term_unify.proofs.PairLaws.{ComesTo, among-back, among-front, among-from, among-split, cells-join, cells-split, comes-join, comes-occurs, comes-parts, comes-rest, comes-same, comes-split, occurs-end, parts-cells, weight-ends}

part-weight : (s : Store) (rs : List ℕ) (i k : ℕ) → slice_get rs i ≡ Some k → weight s k ≤ weight_sum s rs
part-weight s [] i k e = absurd (cc)
part-weight s (r ∷ rs) zero k e = let q : r ≡ k = cc in let w = weight_sum-more s r rs in let z = ap (weight s) q in omega (arith, w, z)
part-weight s (r ∷ rs) (suc i) k e = let h = part-weight s rs i k e in let w = weight_sum-more s r rs in omega (arith, w, h)

-- ---- the occurs check

-- v occurs in a cell of the list of a smaller weight
abbrev pub Below : Store → ℕ → List ℕ → ℕ → Type 0
Below s v rs m = (i : ℕ) × (x : ℕ) × (slice_get rs i ≡ Some x) × OccursIn s v x × (weight s x < m)

-- where v occurs in w, it does so in a cell that is still to be looked at
abbrev pub Waits : Store → ℕ → List ℕ → ℕ → Type 0
Waits s v rs w = OccursIn s v w → Below s v rs (weight s w)

-- how far the check has come: v occurs in t exactly where it occurs in one of the cells that are left, and so for the visited cells
pub record Looks (s : Store) (v t : ℕ) (rs : List ℕ) (seen : List (ℕ × ℕ)) : Type 0 where
  pub cells : AreAllCells s rs
  pub back : OccursAmong s v rs → OccursIn s v t
  pub first : Waits s v rs t
  pub others : (w : ℕ) → was_seen seen v w ≡ true → Waits s v rs w

-- what occurs in a built cell occurs in one of its parts
inside : (s : Store) (v e : ℕ) (c : Cell) → IsWellFormed s → slice_get s.cells e ≡ Some c → ¬ (e ≡ v) → OccursIn s v e → Below s v (parts_of c) (weight s e)
inside s v e c sound g n here = absurd (n refl)
inside s v e c sound g n (in_part i {k = k} {c = d} h p x) =
    let same : d ≡ c = let z : Some d ≡ Some c = sym h ∙ g in cc in
    let at = ap (λ y. slice_get (parts_of y) i) (sym same) ∙ p in
    let a = part-weight s (parts_of c) i k at in
    let b = weight-parts s sound.fits sound.rank e c g in
    (i, k, at, x, omega (arith, a, b))

moved : (s : Store) (v r e m : ℕ) (c : Cell) (rest rs more : List ℕ) → IsWellFormed s → IsEnd s v → rs ≡ rest ++ r ∷ [] → EndsAt s r e → slice_get s.cells e ≡ Some c → ¬ (e ≡ v) → more ≡ rest ++ parts_of c → Below s v rs m → Below s v more m
moved s v r e m c rest rs more sound end q f g n k (i, x, at, o, l) = elim (get-last rest i x r (ap (λ xs. slice_get xs i) (sym q) ∙ at)) [
  | inl old ↦ (i, x, ap (λ xs. slice_get xs i) k ∙ get-front rest (parts_of c) i x old, o, l)
  | inr new ↦ (
      let (j, y, there, p, less) = inside s v e c sound g n ((occurs-end s v r e end f).0 (subst (OccursIn s v) (sym new.1) o)) in
      let a = weight-ends s sound r e f in
      let b = ap (weight s) new.1 in
      (length rest + j, y, ap (λ xs. slice_get xs (length rest + j)) k ∙ get-back rest (parts_of c) j y there, p, omega (arith, less, a, b, l)))
]

passed : (s : Store) (v r e m : ℕ) (rest rs : List ℕ) → IsWellFormed s → IsEnd s v → rs ≡ rest ++ r ∷ [] → EndsAt s r e → Waits s v rs e → Below s v rs m → Below s v rest m
passed s v r e m rest rs sound end q f w (i, x, at, o, l) = elim (get-last rest i x r (ap (λ xs. slice_get xs i) (sym q) ∙ at)) [
  | inl old ↦ (i, x, old, o, l)
  | inr new ↦ (
      let a = weight-ends s sound r e f in
      let b = ap (weight s) new.1 in
      let (j, y, there, p, less) = w ((occurs-end s v r e end f).0 (subst (OccursIn s v) (sym new.1) o)) in
      elim (get-last rest j y r (ap (λ xs. slice_get xs j) (sym q) ∙ there)) [
        | inl old ↦ (j, y, old, p, omega (arith, less, a, b, l))
        | inr again ↦ absurd (let d = ap (weight s) again.1 in omega (arith, less, a, d))
      ])
]

-- what was noted is the visited cell, or was noted before
abbrev pub Notes : List (ℕ × ℕ) → List (ℕ × ℕ) → ℕ → ℕ → Type 0
Notes before after a b = (x y : ℕ) → was_seen after x y ≡ true → (was_seen before x y ≡ true) ⊎ ((x ≡ a) × (y ≡ b))

-- the parts of a cell are still to be looked at
pub looks-on : (s : Store) (v t r e : ℕ) (c : Cell) (rest rs more : List ℕ) (seen noted : List (ℕ × ℕ)) → IsWellFormed s → Looks s v t rs seen → IsEnd s v → rs ≡ rest ++ r ∷ [] → EndsAt s r e → slice_get s.cells e ≡ Some c → ¬ (e ≡ v) → more ≡ rest ++ parts_of c → Notes seen noted v e → Looks s v t more noted
looks-on s v t r e c rest rs more seen noted sound w end q f g n m k = record {
  cells = subst (AreAllCells s) (sym m) (cells-join s rest (parts_of c) (cells-split s rest (r ∷ []) (subst (AreAllCells s) q w.cells)).0 (parts-cells s e c sound g));
  back = λ o. w.back (subst (OccursAmong s v) (sym q) (elim (among-split s v rest (parts_of c) (subst (OccursAmong s v) m o)) [
    | inl p ↦ among-front s v rest (r ∷ []) p
    | inr p ↦ let x = among-from s v (parts_of c) p in among-back s v rest (r ∷ []) (inl ((occurs-end s v r e end f).1 (in_part x.0 g x.2 x.3)))
  ]));
  first = λ o. moved s v r e (weight s t) c rest rs more sound end q f g n m (w.first o);
  others = λ x h. elim (k v x h) [
    | inl old ↦ (λ o. moved s v r e (weight s x) c rest rs more sound end q f g n m (w.others x old o))
    | inr new ↦ subst (Waits s v more) (sym new.1) (λ o. let (j, y, there, p, less) = inside s v e c sound g n o in (length rest + j, y, ap (λ xs. slice_get xs (length rest + j)) m ∙ get-back rest (parts_of c) j y there, p, less))
  ];
}

-- a cell that was visited is passed over
pub looks-past : (s : Store) (v t r e : ℕ) (rest rs : List ℕ) (seen noted : List (ℕ × ℕ)) → IsWellFormed s → Looks s v t rs seen → IsEnd s v → rs ≡ rest ++ r ∷ [] → EndsAt s r e → was_seen seen v e ≡ true → Notes seen noted v e → Looks s v t rest noted
looks-past s v t r e rest rs seen noted sound w end q f h k = record {
  cells = (cells-split s rest (r ∷ []) (subst (AreAllCells s) q w.cells)).0;
  back = λ o. w.back (subst (OccursAmong s v) (sym q) (among-front s v rest (r ∷ []) o));
  first = λ o. passed s v r e (weight s t) rest rs sound end q f (w.others e h) (w.first o);
  others = λ x g. elim (k v x g) [
    | inl old ↦ (λ o. passed s v r e (weight s x) rest rs sound end q f (w.others e h) (w.others x old o))
    | inr new ↦ subst (Waits s v rest) (sym new.1) (λ o. passed s v r e (weight s e) rest rs sound end q f (w.others e h) (w.others e h o))
  ];
}

pub looks-parts : (s : Store) (v r : ℕ) (c : Cell) (rs : List ℕ) (seen : List (ℕ × ℕ)) → IsWellFormed s → IsEnd s v → slice_get s.cells r ≡ Some c → ¬ (v ≡ r) → rs ≡ parts_of c → ((x y : ℕ) → was_seen seen x y ≡ false) → Looks s v r rs seen
looks-parts s v r c rs seen sound end e n m k = record {
  cells = subst (AreAllCells s) (sym m) (parts-cells s r c sound e);
  back = λ o. let x = among-from s v (parts_of c) (subst (OccursAmong s v) m o) in in_part x.0 e x.2 x.3;
  first = subst (λ xs. Waits s v xs r) (sym m) (inside s v r c sound e (λ q. n (sym q)));
  others = λ w h. absurd (false≢true (sym (k v w) ∙ h));
}

pub looks-rest : (s : Store) (r : ℕ) (rest rs : List ℕ) → rs ≡ rest ++ r ∷ [] → weight_sum s rest < weight_sum s rs
looks-rest s r rest rs e =
    let x = ap (weight_sum s) e ∙ weight_sum-append s rest (r ∷ []) in
    let z = weight_sum-more s r [] in
    let p = weight-positive s r in
    omega (arith, x, z, p)

-- ---- pairs

-- the pairs of a smaller weight are solved
abbrev pub SolvesBelow : Store → Solution → List (ℕ × ℕ) → ℕ → Type 0
SolvesBelow s σ left m = (i : ℕ) (p : ℕ × ℕ) → slice_get left i ≡ Some p → weight s p.0 < m → σ p.0 ≡ σ p.1

-- a and b are equal where the pairs of a smaller weight are
abbrev pub PairWaits : Store → List (ℕ × ℕ) → ℕ → ℕ → Type 0
PairWaits s left a b = (σ : Solution) → Solves s σ → SolvesBelow s σ left (weight s a) → σ a ≡ σ b

pub record Comes (s : Store) (first left seen : List (ℕ × ℕ)) : Type 0 where
  pub comes : ComesTo s first left
  pub waits : (a b : ℕ) → was_seen seen a b ≡ true → PairWaits s left a b

solves-at : (σ : Solution) (ps : List (ℕ × ℕ)) → SolvesPairs σ ps → (i : ℕ) (p : ℕ × ℕ) → slice_get ps i ≡ Some p → σ p.0 ≡ σ p.1
solves-at σ [] h i p e = absurd (cc)
solves-at σ (q ∷ ps) h zero p e = subst (λ x. σ x.0 ≡ σ x.1) (let z : q ≡ p = cc in z) h.0
solves-at σ (q ∷ ps) h (suc i) p e = solves-at σ ps h.1 i p e

solves-from : (σ : Solution) (ps : List (ℕ × ℕ)) → ((i : ℕ) (p : ℕ × ℕ) → slice_get ps i ≡ Some p → σ p.0 ≡ σ p.1) → SolvesPairs σ ps
solves-from σ [] h = tt
solves-from σ (p ∷ ps) h = (h 0 p refl, solves-from σ ps (λ i q e. h (suc i) q e))

pair-left : (rs qs : List ℕ) (i : ℕ) (p : ℕ × ℕ) → slice_get (part_pairs rs qs) i ≡ Some p → slice_get rs i ≡ Some p.0
pair-left [] qs i p e = absurd (cc)
pair-left (r ∷ rs) [] i p e = absurd (cc)
pair-left (r ∷ rs) (q ∷ qs) zero p e = ap (λ (x : ℕ × ℕ). Some x.0) (let z : (r, q) ≡ p = cc in z)
pair-left (r ∷ rs) (q ∷ qs) (suc i) p e = pair-left rs qs i p e

pub same-waits : (s : Store) (first left rest seen : List (ℕ × ℕ)) (a b : ℕ) → Comes s first left seen → left ≡ rest ++ (a, b) ∷ [] → ((σ : Solution) → Solves s σ → σ a ≡ σ b) → Comes s first rest seen
same-waits s first left rest seen a b w e q = record {
  comes = comes-same s first left rest a b w.comes e q;
  waits = λ x y k σ h below. w.waits x y k σ h (λ i p at l. elim (get-last rest i p (a, b) (ap (λ ps. slice_get ps i) (sym e) ∙ at)) [
    | inl old ↦ below i p old l
    | inr new ↦ subst (λ z. σ z.0 ≡ σ z.1) new.1 (q σ h)
  ]);
}

-- built cells are equal where the pairs of their parts are
parts-equal : (s : Store) (σ : Solution) (x y : ℕ) (u : AreBuilt s x y) (rest more : List (ℕ × ℕ)) → IsWellFormed s → Solves s σ → more ≡ rest ++ part_pairs (parts_of u.left) (parts_of u.right) → SolvesBelow s σ more (weight s x) → σ x ≡ σ y
parts-equal s σ x y u rest more sound h m below =
    (alike-parts s σ x y u.left u.right h u.left_at u.right_at u.alike).1 (solves-from σ (part_pairs (parts_of u.left) (parts_of u.right)) (λ i p at.
    let a = part-weight s (parts_of u.left) i p.0 (pair-left (parts_of u.left) (parts_of u.right) i p at) in
    let b = weight-parts s sound.fits sound.rank x u.left u.left_at in
    below (length rest + i) p (ap (λ ps. slice_get ps (length rest + i)) m ∙ get-back rest (part_pairs (parts_of u.left) (parts_of u.right)) i p at) (omega (arith, a, b))))

pub parts-wait : (s : Store) (first left rest more seen noted : List (ℕ × ℕ)) (a b x y : ℕ) → IsWellFormed s → Comes s first left seen → left ≡ rest ++ (a, b) ∷ [] → AreBuilt s x y × EndsAt s a x × EndsAt s b y → AddsParts s x y rest more → Notes seen noted x y → Comes s first more noted
parts-wait s first left rest more seen noted a b x y sound w e (u, f, g) added k =
    let m = added u.left u.right u.left_at u.right_at in
    let less = weight-ends s sound a x f in
    record {
      comes = comes-parts s first left rest more a b x y sound w.comes e (u, f, g) added;
      waits = λ c d z. elim (k c d z) [
        | inl old ↦ (λ σ h below. w.waits c d old σ h (λ i p at l. elim (get-last rest i p (a, b) (ap (λ ps. slice_get ps i) (sym e) ∙ at)) [
          | inl before ↦ below i p (ap (λ ps. slice_get ps i) m ∙ get-front rest (part_pairs (parts_of u.left) (parts_of u.right)) i p before) l
          | inr new ↦ (
              let n = ap (λ (q : ℕ × ℕ). weight s q.0) new.1 in
              let same = parts-equal s σ x y u rest more sound h m (λ j q there lower. below j q there (omega (arith, lower, less, n, l))) in
              subst (λ q. σ q.0 ≡ σ q.1) new.1 (ends-same s σ a x h f ∙ same ∙ sym (ends-same s σ b y h g)))
        ]))
        | inr new ↦ (λ σ h below. ap σ new.0 ∙ parts-equal s σ x y u rest more sound h m (λ j q there lower. below j q there (let n = ap (weight s) new.0 in omega (arith, lower, n))) ∙ ap σ (sym new.1))
      ];
    }

-- a pair that was visited is passed over
pub past-waits : (s : Store) (first left rest seen noted : List (ℕ × ℕ)) (a b x y : ℕ) → IsWellFormed s → Comes s first left seen → left ≡ rest ++ (a, b) ∷ [] → AreBuilt s x y × EndsAt s a x × EndsAt s b y → was_seen seen x y ≡ true → Notes seen noted x y → Comes s first rest noted
past-waits s first left rest seen noted a b x y sound w e (u, f, g) z k =
    let less = weight-ends s sound a x f in
    let equal : (σ : Solution) → Solves s σ → SolvesBelow s σ rest (weight s x) → σ a ≡ σ b = λ σ h below.
    ends-same s σ a x h f ∙ w.waits x y z σ h (λ i p at l. elim (get-last rest i p (a, b) (ap (λ ps. slice_get ps i) (sym e) ∙ at)) [
      | inl old ↦ below i p old l
      | inr new ↦ absurd (let n = ap (λ (q : ℕ × ℕ). weight s q.0) new.1 in omega (arith, less, n, l))
    ]) ∙ sym (ends-same s σ b y h g) in
    let rests : (c d : ℕ) → PairWaits s left c d → PairWaits s rest c d = λ c d o σ h below. o σ h (λ i p at l. elim (get-last rest i p (a, b) (ap (λ ps. slice_get ps i) (sym e) ∙ at)) [
      | inl old ↦ below i p old l
      | inr new ↦ (
          let n = ap (λ (q : ℕ × ℕ). weight s q.0) new.1 in
          subst (λ q. σ q.0 ≡ σ q.1) new.1 (equal σ h (λ j q there lower. below j q there (omega (arith, lower, less, n, l)))))
    ]) in
    record {
      comes = record {
        cells = comes-rest s first left rest a b w.comes e;
        down = λ σ h p. (comes-split s first left rest a b w.comes e σ h p).0;
        up = λ σ h p. comes-join s first left rest a b w.comes e σ h p (equal σ h (λ i q there lower. solves-at σ rest p i q there));
        occurs = λ v o. comes-occurs s first left rest a b w.comes e v (inl o);
      };
      waits = λ c d q. elim (k c d q) [
        | inl old ↦ rests c d (w.waits c d old)
        | inr new ↦ subst (λ m. PairWaits s rest m d) (sym new.0) (subst (PairWaits s rest x) (sym new.1) (rests x y (w.waits x y z)))
      ];
    }
