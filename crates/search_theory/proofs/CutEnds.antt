-- What the search that does not return to solved goals finds at one limit, start by start.
use Rattle.std.proofs.Common.{◌≡◌, ◌+◌, ◌<◌, ◌≤◌, ℕ, zero, suc, List, [], ◌∷◌, ◌++◌, length, map, refl, sym, ◌∙◌, ap, subst, slice_get, arith, inl, inr, append_assoc, append-nil}
use Rattle.std.proofs.lemmas.Bool.{cases_lt}
use Rattle.std.specs.Prelude.{Contains}
use Rattle.std.specs.Cmp.{tied_itself}
use Rattle.std.specs.declared.cmp.Ordering.TheVariants.{Less, Equal}
use Rattle.calculus.specs.declared.sign.Sign.TheVariants.{F}
use Rattle.calculus.specs.declared.sign.Side.{Side}
use Rattle.calculus.specs.Syntax.{Problem}
use Rattle.calculus.specs.Clauses.{clause_size, selections}
use Rattle.calculus.specs.Tableaux.{Tableau}
use Rattle.calculus.specs.Choices.{start, Choice, choices_of, ground_choices, selection_cmp}
use Rattle.calculus.specs.Counting.{IsRising}
use Rattle.calculus.specs.Cut.{First, first, Fills, filled, fill, Stuck, stuck, no_first, Cuts, IsCut, HasCut, followed_by}
use Rattle.calculus.proofs.CutLaws.{Fills-unique, Fills-Stuck}
use Rattle.calculus.proofs.GrowthLaws.{allowed-instance, closed-parts}
use Rattle.calculus.proofs.OrderLaws.{selection_cmp_total}
use Rattle.calculus.proofs.SelectionLaws.{selections-rise}
use Rattle.search_theory.specs.Cutting.{AreLevels, FailsFrom, FailsTo, IsNext, IsTrying, Level}
use Rattle.search_theory.specs.Exploring.{BeginsWith, IsClosedList}
use Rattle.search_theory.specs.Matrix.{MatrixClause, IsTemplateMatrix}
use Rattle.search_theory.specs.OrderedChoices.{selection_of}
use Rattle.search_theory.proofs.BeginningLaws.{closed-beginning, dead-regular}
use Rattle.search_theory.specs.DeadEnds.{IsDead}
use Rattle.search_theory.proofs.LastChoice.{head_of}
use Rattle.search_theory.proofs.LevelLaws.{trying-less}
use Rattle.search_theory.proofs.NextLaws.{selection-in}

-- ---- the list that is reached begins with that from which it was

mutual
  pub first-begins : (P : Problem) (d : ℕ) (c b : List Choice) → First P d c b → BeginsWith c b
  first-begins P d c b (first x s f k) = let r = fills-begin P d _ (followed_by c x) b f in (x ∷ r.0, r.1 ∙ append_assoc c (x ∷ []) r.0)

  pub fills-begin : (P : Problem) (d n : ℕ) (c b : List Choice) → Fills P d n c b → BeginsWith c b
  fills-begin P d n c b filled = ([], sym (append-nil c))
  fills-begin P d n c b (fill {b = a} f g) =
      let r = first-begins P d c a f in
      let q = fills-begin P d _ a b g in
      (r.0 ++ q.0, q.1 ∙ ap (λ xs. xs ++ q.0) r.1 ∙ append_assoc c r.0 q.0)

-- ---- a start that fails

pub fails-stuck : (P : Problem) (d : ℕ) (s : List Side) → Stuck P d (clause_size P s) (start s ∷ []) → FailsFrom P d s
fails-stuck P d s h c t k = Fills-Stuck P d (clause_size P s) (start s ∷ []) c k.solved h

-- no closed tableau has the list that is reached
pub fails-whole : (P : Problem) (d : ℕ) (s : List Side) (c : List Choice) → Fills P d (clause_size P s) (start s ∷ []) c → ¬ IsClosedList P d c → FailsFrom P d s
fails-whole P d s c h none b t k = none (t, k.closed, k.reached ∙ Fills-unique P d (clause_size P s) (start s ∷ []) b c k.solved h)

-- the list of a closed tableau from a start
cut-begins : (P : Problem) (d : ℕ) (s : List Side) (c : List Choice) (t : Tableau) → Cuts P d s c t → BeginsWith (start s ∷ []) (choices_of (ground_choices t))
cut-begins P d s c t k = let r = fills-begin P d (clause_size P s) (start s ∷ []) c k.solved in (r.0, k.reached ∙ r.1)

pub fails-dead : (P : Problem) (d : ℕ) (s : List Side) → IsDead P (start s ∷ []) → FailsFrom P d s
fails-dead P d s dead c t k = dead-regular P d (start s ∷ []) dead (closed-beginning P d (start s ∷ []) (choices_of (ground_choices t)) refl (t, k.closed, refl) (cut-begins P d s c t k))

-- ---- a goal that is not solved

-- no choice is left: the goal is not solved, and so the choice of the level above fails
pub trying-failed : (P : Problem) (d : ℕ) (s : List Side) (ls : List Level) (waiting : ℕ) (c : List Choice) → IsTrying P d s ls waiting c [] → IsNext P d s ls
trying-failed P d s ls waiting c h = by ls h.levels
  where
    none : Stuck P d (suc waiting) c
    none = stuck (no_first (λ y live. elim (h.complete y live) [ inl i ↦ (let z = i.1 in cc z) | inr k ↦ k ]))

    by : (ms : List Level) → AreLevels P d s ms (suc waiting) c → IsNext P d s ms
    by [] k = fails-stuck P d s (k.1.failed none)
    by (l ∷ ms) k = trying-less P d s ms l.waiting l.before l.choice l.rest (record { levels = k.3; rising = k.1.rising; complete = k.1.untried }) (λ live. k.2.failed none)

-- ---- all starts

start-of : (P : Problem) (d : ℕ) (s : List Side) (c : List Choice) (t : Tableau) → Cuts P d s c t → s ≡ t.start.selection
start-of P d s c t k = let r = cut-begins P d s c t k in let e : start t.start.selection ≡ start s = ap (head_of (start s)) r.1 in cc e

-- it is one of the selections
pub cut-inside : (P : Problem) (d : ℕ) (s : List Side) (c : List Choice) (t : Tableau) → Cuts P d s c t → Contains (selections P.formula F) s
cut-inside P d s c t k = subst (Contains (selections P.formula F)) (sym (start-of P d s c t k)) (selection-in P t.start (allowed-instance P t.start (closed-parts P d t k.closed).allowed))

contained-at : (m : List MatrixClause) (s : List Side) → Contains (map (λ (c : MatrixClause). c.selection) m) s → (k : ℕ) × (k < length m) × (selection_of (slice_get m k) ≡ s)
contained-at [] s (k, l, e) = absurd (omega (arith, l))
contained-at (c ∷ m) s (zero, l, e) = (0, omega arith, e)
contained-at (c ∷ m) s (suc k, l, e) = let r = contained-at m s (k, omega (arith, l), e) in (suc r.0, (let n = r.1 in omega (arith, n)), r.2)

-- the clause of a cut
cut-at : (P : Problem) (m : List MatrixClause) (d : ℕ) (s : List Side) (c : List Choice) (t : Tableau) → IsTemplateMatrix P m → Cuts P d s c t → (k : ℕ) × (k < length m) × (selection_of (slice_get m k) ≡ s)
cut-at P m d s c t matrix k = contained-at m s (subst (λ sss. Contains sss s) (sym matrix.in_order) (cut-inside P d s c t k))

pub fails-none : (P : Problem) (m : List MatrixClause) (d : ℕ) → FailsTo P m d 0
fails-none P m d k l = absurd (omega (arith, l))

pub fails-more : (P : Problem) (m : List MatrixClause) (d n : ℕ) → FailsTo P m d n → FailsFrom P d (selection_of (slice_get m n)) → FailsTo P m d (n + 1)
fails-more P m d n h f k l = elim (cases_lt k n) [
  | inl less ↦ h k less
  | inr far ↦ (let e : n ≡ k = omega (arith, l, far) in subst (λ i. FailsFrom P d (selection_of (slice_get m i))) e f)
]

-- all starts fail
pub none-cut : (P : Problem) (m : List MatrixClause) (d n : ℕ) → IsTemplateMatrix P m → length m ≤ n → FailsTo P m d n → ¬ HasCut P d
none-cut P m d n matrix l h (c, s, t, k) =
    let (i, less, e) = cut-at P m d s c t matrix k.cuts in
    h i (omega (arith, less, l)) c t (subst (λ r. Cuts P d r c t) (sym e) k.cuts)

-- the places of two selections
rising-later : (x : List Side) (m : List MatrixClause) (k : ℕ) → IsRising selection_cmp (x ∷ map (λ (c : MatrixClause). c.selection) m) → k < length m → selection_cmp x (selection_of (slice_get m k)) ≡ Less
rising-later x [] k h l = absurd (omega (arith, l))
rising-later x (c ∷ m) zero h l = h.0
rising-later x (c ∷ m) (suc k) h l = selection_cmp_total.trans x c.selection (selection_of (slice_get m k)) h.0 (rising-later c.selection m k h.1 (omega (arith, l)))

not-before : (m : List MatrixClause) (n k : ℕ) → IsRising selection_cmp (map (λ (c : MatrixClause). c.selection) m) → k < length m → n ≤ k → ¬ (selection_cmp (selection_of (slice_get m k)) (selection_of (slice_get m n)) ≡ Less)
not-before [] n k h l f e = absurd (omega (arith, l))
not-before (c ∷ m) zero zero h l f e = let z : Equal ≡ Less = sym (tied_itself selection_cmp_total c.selection) ∙ e in cc z
not-before (c ∷ m) zero (suc k) h l f e =
    let after = rising-later c.selection m k h (omega (arith, l)) in
    let z : Equal ≡ Less = sym (tied_itself selection_cmp_total c.selection) ∙ selection_cmp_total.trans c.selection (selection_of (slice_get m k)) c.selection after e in
    cc z
not-before (c ∷ m) (suc n) zero h l f e = absurd (omega (arith, f))
not-before (c ∷ m) (suc n) (suc k) h l f e = not-before m n k (tail-rising m h) (omega (arith, l)) (omega (arith, f)) e
  where
    tail-rising : (xs : List MatrixClause) → IsRising selection_cmp (c.selection ∷ map (λ (x : MatrixClause). x.selection) xs) → IsRising selection_cmp (map (λ (x : MatrixClause). x.selection) xs)
    tail-rising [] r = tt
    tail-rising (x ∷ xs) r = r.1

-- the first start that does not fail
pub found-cut : (P : Problem) (m : List MatrixClause) (d n : ℕ) (c : List Choice) (t : Tableau) → IsTemplateMatrix P m → n < length m → FailsTo P m d n → Cuts P d (selection_of (slice_get m n)) c t → IsCut P d c (selection_of (slice_get m n)) t
found-cut P m d n c t matrix l h k = record {
  cuts = k;
  least = λ r b u less q.
      let (i, inside, e) = cut-at P m d r b u matrix q in
      let rises : IsRising selection_cmp (map (λ (x : MatrixClause). x.selection) m) = subst (IsRising selection_cmp) (sym matrix.in_order) (selections-rise P.formula F) in
      elim (cases_lt i n) [
        | inl before ↦ h i before b u (subst (λ z. Cuts P d z b u) (sym e) q)
        | inr far ↦ not-before m n i rises inside far (ap (λ z. selection_cmp z (selection_of (slice_get m n))) e ∙ less)
      ];
}
