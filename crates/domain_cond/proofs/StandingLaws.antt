-- Leaves that gamma terms share, constants among them, and the homes of variables.
use Rattle.std.proofs.Common.{◌≡◌, ◌⊎◌, ◌||◌, ◌==◌, ℕ, zero, suc, ◌+◌, ◌<◌, ◌≤◌, List, [], ◌∷◌, ◌++◌, length, Bool, true, false, IsTrue, refl, sym, ◌∙◌, ap, subst, None, Some, slice_get, inl, inr, arith, eqb-true, eq-eqb, if◌then◌else◌}
use Rattle.std.specs.List.{list_all}
use Rattle.std.proofs.lemmas.Bool.{or_left, or_right, cases_lt, false≢true, and_from}
use Rattle.plain_laws.proofs.Every.{all-at}
use Rattle.plain_laws.proofs.Places.{get-end, get-front, get-within}
use Rattle.calculus.specs.declared.sort.Sort.TheVariants.{TermSort}
use Rattle.store_theory.specs.Stores.{variable, Store, GammaCell, Holds}
use Rattle.store_theory.specs.Systems.{AreEqualNow, is_gamma_cell, is_label}
use Rattle.search_theory.specs.Demanding.{HomesAgree, equation}
use Rattle.search_theory.proofs.DemandLaws.{now-label}
use Rattle.search_theory.specs.MarkLists.{IsFlat}
use Rattle.search_theory.specs.HomesTold.{IsHomeLabel, TellsHomes}
use Rattle.search_theory.specs.CellsIn.{IsPart}
use Rattle.term_unify.specs.Flat.{HasNoString}
use Rattle.term_unify.specs.Same.{AreSameLabels}
use Rattle.domain_cond.specs.Conditions.{IsForced}
use Rattle.domain_cond.specs.Leaves.{IsLeaf, is_among}
use Rattle.domain_cond.specs.Standings.{AgreeWith, AreStandings, IsStanding, LabelsAgree, Standing, home_marks, share}
use Rattle.domain_cond.proofs.FirstLaws.{AllTo, all-next, all-whole}
use Rattle.domain_cond.proofs.ConditionLaws.{free-sides, gamma-parts, now-equal}

-- ---- cells among others

or-split : (a b : Bool) → (a || b) ≡ true → (a ≡ true) ⊎ (b ≡ true)
or-split true b h = inl refl
or-split false b h = inr h

pub among-part : (xs : List ℕ) (k : ℕ) → is_among xs k ≡ true → IsPart k xs
among-part [] k h = absurd (false≢true h)
among-part (x ∷ xs) k h = elim (or-split (k == x) (is_among xs k) h) [
  | inl e ↦ (0, ap Some (sym (eqb-true k x e)))
  | inr e ↦ (let q = among-part xs k e in (suc q.0, q.1))
]

pub part-among : (xs : List ℕ) (k : ℕ) → IsPart k xs → is_among xs k ≡ true
part-among [] k (i, e) = cc e
part-among (x ∷ xs) k (zero, e) = let q : x ≡ k = cc e in or_left (k == x) (is_among xs k) (eq-eqb k x (sym q))
part-among (x ∷ xs) k (suc i, e) = or_right (k == x) (is_among xs k) (part-among xs k (i, e))

pub shared : (xs ys : List ℕ) → share xs ys ≡ true → (k : ℕ) × IsPart k xs × IsPart k ys
shared [] ys h = absurd (false≢true h)
shared (x ∷ xs) ys h = elim (or-split (is_among ys x) (share xs ys) h) [
  | inl e ↦ (x, (0, refl), among-part ys x e)
  | inr e ↦ (let q = shared xs ys e in (q.0, (suc q.1.0, q.1.1), q.2))
]

pub share-part : (xs ys : List ℕ) (k : ℕ) → IsPart k xs → IsPart k ys → share xs ys ≡ true
share-part [] ys k (i, e) p = cc e
share-part (x ∷ xs) ys k (zero, e) p = let q : x ≡ k = cc e in or_left (is_among ys x) (share xs ys) (part-among ys x (subst (λ z. IsPart z ys) (sym q) p))
share-part (x ∷ xs) ys k (suc i, e) p = or_right (is_among ys x) (share xs ys) (share-part xs ys k (i, e) p)

-- ---- the standings of gamma terms, one by one

pub record StandingsTo (s : Store) (gs : List GammaCell) (ts : List Standing) (i : ℕ) : Type 0 where
  pub count : length ts ≡ i
  pub each : (j : ℕ) (g : GammaCell) → j < i → slice_get gs j ≡ Some g → (t : Standing) × (slice_get ts j ≡ Some t) × IsStanding s g t

length-last : {A : Type 0} (xs : List A) (x : A) → length (xs ++ x ∷ []) ≡ length xs + 1
length-last [] x = refl
length-last (y ∷ xs) x = let q = length-last xs x in omega (arith, q)

pub standings-next : (s : Store) (gs : List GammaCell) (ts after : List Standing) (i : ℕ) (g : GammaCell) (t : Standing) → StandingsTo s gs ts i → slice_get gs i ≡ Some g → IsStanding s g t → after ≡ ts ++ t ∷ [] → StandingsTo s gs after (i + 1)
standings-next s gs ts after i g t h at is e = subst (λ xs. StandingsTo s gs xs (i + 1)) (sym e) (record {
  count = let z = length-last ts t in let c = h.count in omega (arith, z, c);
  each = λ j x l f. elim (cases_lt j i) [
    | inl less ↦ (let q = h.each j x less f in (q.0, get-front ts (t ∷ []) j q.0 q.1, q.2))
    | inr more ↦ (
        let same : j ≡ i = omega (arith, l, more) in
        let z : g ≡ x = let w : Some g ≡ Some x = sym at ∙ ap (slice_get gs) (sym same) ∙ f in cc w in
        let place : length ts ≡ j = h.count ∙ sym same in
        (t, subst (λ k. slice_get (ts ++ t ∷ []) k ≡ Some t) place (get-end ts t), subst (λ y. IsStanding s y t) z is))
  ];
})

pub standings-whole : (s : Store) (gs : List GammaCell) (ts : List Standing) (i : ℕ) → i ≡ length gs → StandingsTo s gs ts i → AreStandings s gs ts
standings-whole s gs ts i e h = record { count = h.count ∙ e; each = λ j g at. h.each j g (let m = get-within gs j g at in omega (arith, e, m)) at }

-- the standing at the place of a gamma term is its own
pub standing-own : (s : Store) (gs : List GammaCell) (ts : List Standing) (j : ℕ) (g : GammaCell) (t : Standing) → AreStandings s gs ts → slice_get gs j ≡ Some g → slice_get ts j ≡ Some t → IsStanding s g t
standing-own s gs ts j g t h at f = let q = h.each j g at in let z : q.0 ≡ t = let w : Some q.0 ≡ Some t = sym q.1 ∙ f in cc w in subst (IsStanding s g) z q.2

-- ---- homes

variable-leaf : (s : Store) (v : ℕ) → slice_get s.cells v ≡ Some (variable TermSort None) → IsLeaf s v
variable-leaf s v e = (variable TermSort None, e, refl, refl)

-- a variable that a gamma term holds is among its leaves
pub held-among : (s : Store) (g : GammaCell) (t : Standing) (v : ℕ) → IsStanding s g t → slice_get s.cells v ≡ Some (variable TermSort None) → Holds s v g.term → IsPart v t.leaves
held-among s g t v h e held = h.leaves.all_of_them v held (variable-leaf s v e)

home-label : (s : Store) (v : ℕ) → slice_get s.cells v ≡ Some (variable TermSort None) → (gs : List GammaCell) (ts : List Standing) → AreStandings s gs ts → IsHomeLabel s v gs (home_marks ts v)
home-label s v e [] [] h = refl
home-label s v e [] (t ∷ ts) h = let c = h.count in absurd (omega (arith, c))
home-label s v e (g ∷ gs) [] h = let c = h.count in absurd (omega (arith, c))
home-label s v e (g ∷ gs) (t ∷ ts) h = by (is_among t.leaves v) refl (home-label s v e gs ts (record { count = (let c = h.count in omega (arith, c)); each = λ j x at. h.each (suc j) x at }))
  where
    first : IsStanding s g t
    first = standing-own s (g ∷ gs) (t ∷ ts) 0 g t h refl refl

    by : (b : Bool) → is_among t.leaves v ≡ b → IsHomeLabel s v gs (home_marks ts v) → (Holds s v g.term × IsFlat s g.label (if b then t.marks else home_marks ts v)) ⊎ ((¬ Holds s v g.term) × IsHomeLabel s v gs (if b then t.marks else home_marks ts v))
    by true q more = let (i, at) = among-part t.leaves v q in inl ((first.leaves.held i v at).0, first.flat)
    by false q more = inr ((λ held. false≢true (sym q ∙ part-among t.leaves v (held-among s g t v first e held))), more)

pub tells-homes : (s : Store) (gs : List GammaCell) (ts : List Standing) → AreStandings s gs ts → TellsHomes s gs (home_marks ts)
tells-homes s gs ts h v e = home-label s v e gs ts h

-- ---- labels

pub label-forced : (s : Store) (gs : List GammaCell) (i j : ℕ) (g h : GammaCell) (t u : Standing) → IsTrue (list_all (is_gamma_cell s) gs) → ((k : ℕ) (x : GammaCell) → slice_get gs k ≡ Some x → HasNoString s x.label) → slice_get gs i ≡ Some g → slice_get gs j ≡ Some h → IsStanding s g t → IsStanding s h u → share t.leaves u.leaves ≡ true → ¬ AreSameLabels s g.label h.label → IsForced s (LabelsAgree s gs) (equation g.label h.label)
label-forced s gs i j g h t u cells free at_i at_j is_t is_u both differ =
    let (v, p, q) = shared t.leaves u.leaves both in
    let in_g = (is_t.leaves.held p.0 v p.1).0 in
    let in_h = (is_u.leaves.held q.0 v q.1).0 in
    record {
      fits = and_from (is_label s g.label) (is_label s h.label) (gamma-parts s g (all-at (is_gamma_cell s) gs i g cells at_i)).1 (gamma-parts s h (all-at (is_gamma_cell s) gs j h cells at_j)).1;
      no_open_string = free-sides s g.label h.label (free i g at_i) (free j h at_j);
      unequal = λ now. differ (λ σ k. now-label s σ k g.label h.label now);
      forced = λ σ k agree. agree i j v g h at_i at_j in_g in_h;
    }

pub label-agrees : (s : Store) (gs : List GammaCell) (i j : ℕ) (g h : GammaCell) (t u : Standing) → IsTrue (list_all (is_gamma_cell s) gs) → slice_get gs i ≡ Some g → slice_get gs j ≡ Some h → IsStanding s g t → IsStanding s h u → (share t.leaves u.leaves ≡ true → AreSameLabels s g.label h.label) → (v : ℕ) → slice_get s.cells v ≡ Some (variable TermSort None) → Holds s v g.term → Holds s v h.term → AreEqualNow s (equation g.label h.label)
label-agrees s gs i j g h t u cells at_i at_j is_t is_u same v e in_g in_h =
    now-equal s g.label h.label (gamma-parts s g (all-at (is_gamma_cell s) gs i g cells at_i)).1 (gamma-parts s h (all-at (is_gamma_cell s) gs j h cells at_j)).1 (same (share-part t.leaves u.leaves v (held-among s g t v is_t e in_g) (held-among s h u v is_u e in_h)))

-- the label of each of the first i gamma terms that holds a variable of this one is its label already
pub AgreeTo : Store → List GammaCell → ℕ → GammaCell → Type 0
AgreeTo s gs i g = AllTo gs i (λ (h : GammaCell). (v : ℕ) → slice_get s.cells v ≡ Some (variable TermSort None) → Holds s v g.term → Holds s v h.term → AreEqualNow s (equation g.label h.label))

pub agree-start : (s : Store) (gs : List GammaCell) (g : GammaCell) → AgreeTo s gs 0 g
unfolding AgreeTo
agree-start s gs g j x l at = absurd (omega (arith, l))

pub agree-next : (s : Store) (gs : List GammaCell) (i : ℕ) (g h : GammaCell) → AgreeTo s gs i g → slice_get gs i ≡ Some h → ((v : ℕ) → slice_get s.cells v ≡ Some (variable TermSort None) → Holds s v g.term → Holds s v h.term → AreEqualNow s (equation g.label h.label)) → AgreeTo s gs (i + 1) g
unfolding AgreeTo
agree-next s gs i g h before at now = all-next gs i h (λ (x : GammaCell). (v : ℕ) → slice_get s.cells v ≡ Some (variable TermSort None) → Holds s v g.term → Holds s v x.term → AreEqualNow s (equation g.label x.label)) before at now

pub agree-whole : (s : Store) (gs : List GammaCell) (k i : ℕ) (g x : GammaCell) → length gs ≤ i → slice_get gs k ≡ Some g → slice_get gs k ≡ Some x → AgreeTo s gs i g → AgreeWith s gs x
unfolding AgreeTo
agree-whole s gs k i g x l at at' h =
    let same : g ≡ x = let z : Some g ≡ Some x = sym at ∙ at' in cc z in
    subst (AgreeWith s gs) same (λ j v y yt e in_g in_y. h j y (let m = get-within gs j y yt in omega (arith, l, m)) yt v e in_g in_y)

-- each of the first i gamma terms agrees with all
pub AllAgreeTo : Store → List GammaCell → ℕ → Type 0
AllAgreeTo s gs i = AllTo gs i (AgreeWith s gs)

pub all_agree-start : (s : Store) (gs : List GammaCell) → AllAgreeTo s gs 0
unfolding AllAgreeTo
all_agree-start s gs j x l at = absurd (omega (arith, l))

pub all_agree-next : (s : Store) (gs : List GammaCell) (i : ℕ) (g : GammaCell) → AllAgreeTo s gs i → slice_get gs i ≡ Some g → AgreeWith s gs g → AllAgreeTo s gs (i + 1)
unfolding AllAgreeTo
all_agree-next s gs i g h at now = all-next gs i g (AgreeWith s gs) h at now

pub all_agree-whole : (s : Store) (gs : List GammaCell) (i : ℕ) → length gs ≤ i → AllAgreeTo s gs i → HomesAgree s gs
unfolding AllAgreeTo
all_agree-whole s gs n l all i j v g h at_i at_j e in_g in_h = all-whole gs n (AgreeWith s gs) l all i g at_i j v h at_j e in_g in_h
