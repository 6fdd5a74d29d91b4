-- The system of a state: what a closed tableau with the state's choices asks of labels, strings and gamma terms.
use Rattle.std.specs.Prelude.{◌≡◌, ◌↔◌, ℕ, ◌+◌, List, [], ◌∷◌, ◌++◌, length, map, sum_by, Some, nat_lt, IsTrue}
use Rattle.std.specs.List.{list_all, AllByRecursion}
use Rattle.calculus.specs.declared.sort.Sort.{Sort}
use Rattle.calculus.specs.declared.sort.Sort.TheVariants.{StringSort}
use Rattle.calculus.specs.Syntax.{Problem}
use Rattle.calculus.specs.Instances.{GammaUse}
use Rattle.calculus.specs.ComputedInstances.{is_instance, is_allowed_instance, modal_steps, nu_steps}
use Rattle.calculus.specs.Tableaux.{total_steps}
use Rattle.calculus.specs.Choices.{Choice, growth_of}
use Rattle.calculus.specs.Space.{string_lengths, lengths_in, instances_in}
use Rattle.store_theory.specs.Stores.{Store, has_sort_at, Solution, Solves, GammaCell}
use Rattle.store_theory.specs.Systems.{CellAtom, Pair, System, is_gamma_cell, is_system, AreEqual, AreUses, MeetsDemand, AllAllowed, bound_of, HaveLengths}
use Rattle.search_theory.specs.States.{CellClause, CellGoal, State, clause_at, choice_at, growth_at, new_cell_goals, IsGround, name_of}
use Rattle.search_theory.specs.Joined.{are_joined}

-- the pairs of a goal with the goals above it
abbrev pub pairs_with : CellAtom → List CellAtom → List Pair
pairs_with a [] = []
pairs_with a (b ∷ path) = record { upper = b; lower = a } ∷ pairs_with a path

abbrev pub pairs_of : List CellGoal → List Pair
pairs_of [] = []
pairs_of (g ∷ gs) = pairs_with g.literal g.path ++ pairs_of gs

-- each ground solution of the state gives a tree that follows the choice list c within the limit d
pub record IsTreeOf (P : Problem) (d : ℕ) (c : List Choice) (S : State) : Type 0 where
  pub names : map name_of S.choices ≡ c
  pub within : IsTrue (list_all (λ n. nat_lt n d) S.growth.depths)
  pub sound : (σ : Solution) → IsGround P S σ → growth_of P (map (choice_at σ) S.choices) ≡ Some (growth_at σ S.growth)

-- by each ground solution of the state: connections have agreeing labels and instances are allowed exactly where the equations and the
-- demand hold; the strings are those of the instances, in order; and there are as many nu and pi steps
pub record IsSystemOf (P : Problem) (S : State) (y : System) : Type 0 where
  pub well : IsTrue (is_system S.store y)
  pub pairs : y.pairs ≡ pairs_of S.growth.all_goals
  pub joined : (σ : Solution) → IsGround P S σ → AllByRecursion (AreEqual σ) y.equations → MeetsDemand (AllAllowed P) y σ → IsTrue (are_joined P (map (choice_at σ) S.choices))
  pub equal : (σ : Solution) → IsGround P S σ → IsTrue (are_joined P (map (choice_at σ) S.choices)) → AllByRecursion (AreEqual σ) y.equations × MeetsDemand (AllAllowed P) y σ
  pub lengths : (σ : Solution) → IsGround P S σ → HaveLengths σ y.strings (string_lengths (instances_in (map (choice_at σ) S.choices)))
  pub total : (σ : Solution) → IsGround P S σ → total_steps P (instances_in (map (choice_at σ) S.choices)) ≡ bound_of y
  pub nus : (σ : Solution) → IsGround P S σ → sum_by (nu_steps P) (instances_in (map (choice_at σ) S.choices)) ≡ length y.strings

-- what a copied clause brings: the strings of its nu steps, its gamma terms with their labels, and the number of its pi steps
pub record Brings (P : Problem) (s : Store) (i : CellClause) (strings : List ℕ) (gammas : List GammaCell) (pis : ℕ) : Type 0 where
  pub strings_sorted : IsTrue (list_all (has_sort_at s StringSort) strings)
  pub gammas_sorted : IsTrue (list_all (is_gamma_cell s) gammas)
  pub lengths : (σ : Solution) → Solves s σ → HaveLengths σ strings (lengths_in (clause_at σ i))
  pub allowed : (σ : Solution) → Solves s σ → IsTrue (is_instance P (clause_at σ i)) → IsTrue (is_allowed_instance P (clause_at σ i)) ↔ ((us : List GammaUse) × AreUses σ gammas us × AllAllowed P us)
  pub steps : (σ : Solution) → Solves s σ → IsTrue (is_instance P (clause_at σ i)) → modal_steps P (clause_at σ i) ≡ length strings + pis
  pub nus : (σ : Solution) → Solves s σ → IsTrue (is_instance P (clause_at σ i)) → nu_steps P (clause_at σ i) ≡ length strings

-- ---- how the system grows with the choices

abbrev pub started_system : List ℕ → List GammaCell → ℕ → System
started_system strings gammas pis = record { equations = []; strings = strings; pis = pis; gammas = gammas; pairs = [] }

-- the goal and the ancestor have one label
abbrev pub reduced_system : System → CellAtom → CellAtom → System
reduced_system y g a = record y { equations = y.equations ++ record { left = g.label; right = a.label } ∷ [] }

-- the goal and the connected literal have one label, and the clause brings its strings and gamma terms
abbrev pub extended_system : System → CellGoal → CellClause → ℕ → CellAtom → List ℕ → List GammaCell → ℕ → System
extended_system y g i place b strings gammas pis = record { equations = y.equations ++ record { left = g.literal.label; right = b.label } ∷ []; strings = y.strings ++ strings; pis = y.pis + pis; gammas = y.gammas ++ gammas; pairs = y.pairs ++ pairs_of (new_cell_goals g i place) }

-- the variables of sort string, in order
abbrev pub string_cells : List Sort → List ℕ → List ℕ
string_cells [] rs = []
string_cells (sort ∷ sorts) [] = []
string_cells (StringSort ∷ sorts) (r ∷ rs) = r ∷ string_cells sorts rs
string_cells (sort ∷ sorts) (r ∷ rs) = string_cells sorts rs
