-- What the steps of the search ask of the store, in terms of its ground solutions. Copying and unification are asked for nothing else.
use Rattle.std.specs.Prelude.{◌≡◌, ℕ, ◌≤◌, List, length, map, slice_get, IsTrue}
use Rattle.calculus.specs.declared.sign.Side.{Side}
use Rattle.calculus.specs.Ground.{Value}
use Rattle.calculus.specs.Tableaux.{ancestor}
use Rattle.calculus.specs.Choices.{is_opposite}
use Rattle.store_theory.specs.Stores.{Store, Solution, Solves}
use Rattle.store_theory.specs.Systems.{CellAtom}
use Rattle.store_theory.specs.Patterns.{Template}
use Rattle.store_theory.specs.Templates.{literals_by, have_sorts}
use Rattle.search_theory.specs.States.{CellClause, CellGoal, clause_is_below, terms_by, values_by, literal_by, Agree}

-- the solutions of the new store are those of the old one by which the two lists of terms are equal
pub record AreUnified (old new : Store) (xs ys : List ℕ) : Type 0 where
  pub size : length new.cells ≡ length old.cells
  pub back : (σ : Solution) → Solves new σ → Solves old σ × (terms_by σ xs ≡ terms_by σ ys)
  pub forth : (σ : Solution) → Solves old σ → terms_by σ xs ≡ terms_by σ ys → Solves new σ

-- no solution makes the two lists of terms equal
abbrev pub Clash : Store → List ℕ → List ℕ → Type 0
Clash s xs ys = (σ : Solution) → Solves s σ → ¬ (terms_by σ xs ≡ terms_by σ ys)

-- the clause i is the template with new variables, which no solution of the old store constrains
pub record IsFreshClause (old new : Store) (sides : List Side) (t : Template) (i : CellClause) : Type 0 where
  pub selection : i.selection ≡ sides
  pub longer : length old.cells ≤ length new.cells
  pub names : IsTrue (clause_is_below (length new.cells) i)
  pub back : (σ : Solution) → Solves new σ → Solves old σ × IsTrue (have_sorts t.sorts (values_by σ i.values)) × (map (literal_by σ) i.literals ≡ literals_by (values_by σ i.values) t)
  pub forth : (σ : Solution) → Solves old σ → (vs : List Value) → IsTrue (have_sorts t.sorts vs) → (τ : Solution) × Solves new τ × Agree (length old.cells) σ τ × (values_by τ i.values ≡ vs)

-- the clause i is the template with new variables, and the solutions of the new store are those by which its literal at the place has
-- the atom of the goal and the other sign. The order of copying and unifying is free
pub record IsExtended (old new : Store) (sides : List Side) (t : Template) (i : CellClause) (goal : CellAtom) (place : ℕ) : Type 0 where
  pub selection : i.selection ≡ sides
  pub longer : length old.cells ≤ length new.cells
  pub names : IsTrue (clause_is_below (length new.cells) i)
  pub back : (σ : Solution) → Solves new σ → Solves old σ × IsTrue (have_sorts t.sorts (values_by σ i.values)) × (map (literal_by σ) i.literals ≡ literals_by (values_by σ i.values) t) × IsTrue (is_opposite (literal_by σ goal) (slice_get (map (literal_by σ) i.literals) place))
  pub forth : (σ : Solution) → Solves old σ → (vs : List Value) → IsTrue (have_sorts t.sorts vs) → IsTrue (is_opposite (literal_by σ goal) (slice_get (literals_by vs t) place)) → (τ : Solution) × Solves new τ × Agree (length old.cells) σ τ × (values_by τ i.values ≡ vs)

-- no values make the template's literal at the place opposite to the goal
abbrev pub CannotExtend : Store → Template → CellAtom → ℕ → Type 0
CannotExtend s t goal place = (σ : Solution) → Solves s σ → (vs : List Value) → IsTrue (have_sorts t.sorts vs) → ¬ IsTrue (is_opposite (literal_by σ goal) (slice_get (literals_by vs t) place))

-- the solutions of the new store are those by which the ancestor of this number is opposite to the goal
pub record IsReduced (old new : Store) (g : CellGoal) (up : ℕ) : Type 0 where
  pub size : length new.cells ≡ length old.cells
  pub back : (σ : Solution) → Solves new σ → Solves old σ × IsTrue (is_opposite (literal_by σ g.literal) (ancestor (map (literal_by σ) g.path) up))
  pub forth : (σ : Solution) → Solves old σ → IsTrue (is_opposite (literal_by σ g.literal) (ancestor (map (literal_by σ) g.path) up)) → Solves new σ

-- no solution makes the ancestor opposite to the goal
abbrev pub CannotReduce : Store → CellGoal → ℕ → Type 0
CannotReduce s g up = (σ : Solution) → Solves s σ → ¬ IsTrue (is_opposite (literal_by σ g.literal) (ancestor (map (literal_by σ) g.path) up))

-- ---- the fast order: the connected literal is matched with the goal, and only then the other literals are copied

-- the literals of the clause i are those of the template over variables that are there already
pub record IsRestCopy (old new : Store) (sides : List Side) (t : Template) (i : CellClause) : Type 0 where
  pub selection : i.selection ≡ sides
  pub longer : length old.cells ≤ length new.cells
  pub names : IsTrue (clause_is_below (length new.cells) i)
  pub back : (σ : Solution) → Solves new σ → Solves old σ × (map (literal_by σ) i.literals ≡ literals_by (values_by σ i.values) t)
  pub forth : (σ : Solution) → Solves old σ → (τ : Solution) × Solves new τ × Agree (length old.cells) σ τ

-- ---- unification of two lists of terms, one pair after the other

-- the solutions of the new store are those of the old one by which a and b are equal
pub record IsUnified (old new : Store) (a b : ℕ) : Type 0 where
  pub size : length new.cells ≡ length old.cells
  pub back : (σ : Solution) → Solves new σ → Solves old σ × (σ a ≡ σ b)
  pub forth : (σ : Solution) → Solves old σ → σ a ≡ σ b → Solves new σ
