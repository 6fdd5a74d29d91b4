-- Unbound variables of a running state may have any admitted terms as values, by some ground solution.
use Rattle.std.proofs.Common.{◌≡◌, ◌≢◌, ◌⊎◌, ◌≤◌, ℕ, zero, suc, List, [], ◌∷◌, length, IsTrue, refl, sym, ◌∙◌, ap, subst, Some, None, slice_get, inl, inr}
use Rattle.std.proofs.lemmas.Bool.{cases_eq}
use Rattle.calculus.specs.Choices.{Choice}
use Rattle.calculus.specs.Ground.{GroundTerm}
use Rattle.calculus.specs.Skolem.{is_admitted}
use Rattle.calculus.specs.Syntax.{Problem}
use Rattle.calculus.specs.declared.sort.Sort.{Sort}
use Rattle.calculus.specs.declared.sort.Sort.TheVariants.{TermSort}
use Rattle.store_theory.proofs.SolutionLaws.{FitsOpen, solution_by}
use Rattle.store_theory.specs.Stores.{CellValue, Solution, Solves, Store, a_term, has_sort, variable}
use Rattle.store_theory.specs.Systems.{System}
use Rattle.search_theory.specs.Exploring.{IsIn}
use Rattle.search_theory.specs.States.{IsGround, State}
use Rattle.search_theory.proofs.AdmittedLaws.{IsGood, SparesGood, good-cells}
use Rattle.search_theory.proofs.LabelledEnd.{admitted-good}
use Rattle.search_theory.proofs.RankLaws.{rank_of}
use Rattle.search_theory.proofs.SpareLaws.{IsRanked}
use Rattle.search_theory.proofs.TransplantLaws.{variable-good}
use Rattle.search_tree.specs.Running.{IsRunning}
use Rattle.search_tree.proofs.DistinctStores.{well-ranked}
use Rattle.search_tree.proofs.RunningLaws.{running-ground}

-- a place of the number, or none
place_of : (vs : List ℕ) (v : ℕ) → IsIn v vs ⊎ (¬ IsIn v vs)
place_of [] v = inr none
  where
    none : ¬ IsIn v []
    none (i, e) = let z : None ≡ Some v = e in absurd (cc z)
place_of (w ∷ vs) v = by (cases_eq w v) (place_of vs v)
  where
    by : (w ≡ v) ⊎ (w ≢ v) → IsIn v vs ⊎ (¬ IsIn v vs) → IsIn v (w ∷ vs) ⊎ (¬ IsIn v (w ∷ vs))
    by (inl e) h = inl (zero, ap Some e)
    by (inr other) (inl (i, e)) = inl (suc i, e)
    by (inr other) (inr absent) = inr none
      where
        none : ¬ IsIn v (w ∷ vs)
        none (zero, e) = other (let z : Some w ≡ Some v = e in cc z)
        none (suc i, e) = absent (i, e)

-- the term of its number, or the other value
abbrev value_at : (vs : List ℕ) (v : ℕ) → (ℕ → GroundTerm) → CellValue → IsIn v vs ⊎ (¬ IsIn v vs) → CellValue
value_at vs v f other (inl (i, e)) = a_term (f i)
value_at vs v f other (inr absent) = other

-- a ground solution by which these variables have these terms as values
pub record HasValues (P : Problem) (S : State) (vs : List ℕ) (f : ℕ → GroundTerm) : Type 0 where
  pub solution : Solution
  pub ground : IsGround P S solution
  pub has : (i v : ℕ) → slice_get vs i ≡ Some v → a_term (f i) ≡ solution v

-- where some ground solution gives the other cells their values
values-by : (P : Problem) (base d : ℕ) (c : List Choice) (S : State) (y : System) (τ : Solution) → IsRunning P base d c S y → IsGround P S τ → (vs : List ℕ) (f : ℕ → GroundTerm) → ((i v : ℕ) → slice_get vs i ≡ Some v → slice_get S.store.cells v ≡ Some (variable TermSort None)) → ((i j v : ℕ) → slice_get vs i ≡ Some v → slice_get vs j ≡ Some v → i ≡ j) → ((i : ℕ) → IsTrue (is_admitted P (f i))) → HasValues P S vs f
values-by P base d c S y τ run g vs f unbound once admitted = record {
  solution = found.0;
  ground = record { solves = found.1; admitted = admitted-good P (λ r. base ≤ r) S.store found.0 found.1 (good-cells P (λ r. base ≤ r) S.store (rank_of S.store) (suc (length S.store.cells)) found.0 run.well.fits ranked run.own.labelled found.1 good) S.choices run.choices };
  has = λ i v e. there i v e (place_of vs v) ∙ sym (found.2 v TermSort (unbound i v e));
}
  where
    ranked : IsRanked S.store (rank_of S.store) (suc (length S.store.cells))
    ranked = well-ranked S.store run.well

    fit : (v : ℕ) (sort : Sort) → slice_get S.store.cells v ≡ Some (variable sort None) → (o : IsIn v vs ⊎ (¬ IsIn v vs)) → IsTrue (has_sort sort (value_at vs v f (τ v) o))
    fit v sort e (inl (i, at)) =
        let same : TermSort ≡ sort = let z : Some (variable TermSort None) ≡ Some (variable sort None) = sym (unbound i v at) ∙ e in cc z in
        subst (λ x. IsTrue (has_sort x (a_term (f i)))) same refl
    fit v sort e (inr absent) = g.solves v (variable sort None) e

    found : (σ : Solution) × Solves S.store σ × ((v : ℕ) (sort : Sort) → slice_get S.store.cells v ≡ Some (variable sort None) → σ v ≡ value_at vs v f (τ v) (place_of vs v))
    found = solution_by S.store run.well.fits (rank_of S.store, λ i r k cell e p. ranked.falls r k cell e (i, p)) (λ v. value_at vs v f (τ v) (place_of vs v)) (λ v sort e. fit v sort e (place_of vs v))

    good-at : (v : ℕ) (sort : Sort) → base ≤ v → slice_get S.store.cells v ≡ Some (variable sort None) → (o : IsIn v vs ⊎ (¬ IsIn v vs)) → IsGood P (value_at vs v f (τ v) o)
    good-at v sort l e (inl (i, at)) = admitted i
    good-at v sort l e (inr absent) = variable-good P (λ r. base ≤ r) S.store τ S.choices v g.solves run.choices g.admitted (run.variables v sort l e)

    good : SparesGood P (λ r. base ≤ r) S.store found.0
    good v sort l e smaller = subst (IsGood P) (sym (found.2 v sort e)) (good-at v sort l e (place_of vs v))

    there : (i v : ℕ) → slice_get vs i ≡ Some v → (o : IsIn v vs ⊎ (¬ IsIn v vs)) → a_term (f i) ≡ value_at vs v f (τ v) o
    there i v e (inl (j, at)) = ap (λ k. a_term (f k)) (once i j v e at)
    there i v e (inr absent) = absurd (absent (i, e))

pub has-values : (P : Problem) (base d : ℕ) (c : List Choice) (S : State) (y : System) → IsRunning P base d c S y → (vs : List ℕ) (f : ℕ → GroundTerm) → ((i v : ℕ) → slice_get vs i ≡ Some v → slice_get S.store.cells v ≡ Some (variable TermSort None)) → ((i j v : ℕ) → slice_get vs i ≡ Some v → slice_get vs j ≡ Some v → i ≡ j) → ((i : ℕ) → IsTrue (is_admitted P (f i))) → HasValues P S vs f
has-values P base d c S y run vs f unbound once admitted =
    let (τ, number, distinct, ground) = running-ground P base d c S y run in
    values-by P base d c S y τ run ground vs f unbound once admitted
