-- What a key of a goal says: the literals of the goal and of those above it, in which variables have numbers. Each choice of values for
-- the variables gives ground literals.
use Rattle.std.specs.Prelude.{◌≡◌, ◌⊎◌, ◌≤◌, ◌++◌, ℕ, List, [], ◌∷◌, IsTrue, None, Some, length, map, slice_get}
use Rattle.std.specs.List.{AllByRecursion, list_all}
use Rattle.calculus.specs.declared.sign.Sign.{Sign}
use Rattle.calculus.specs.declared.sort.Sort.TheVariants.{TermSort}
use Rattle.calculus.specs.Ground.{GroundLiteral, GroundTerm, GroundTerms, Values, g_eigen, g_fun, more_g_terms, no_g_terms, values_tree}
use Rattle.calculus.specs.Syntax.{Problem}
use Rattle.search_theory.specs.CellsIn.{IsAtomIn, IsGoalIn}
use Rattle.search_theory.specs.Exploring.{IsIn}
use Rattle.search_theory.specs.States.{CellGoal, atom_is_below, literal_by}
use Rattle.store_theory.specs.Stores.{CellValue, Solution, Solves, Store, a_term, variable}
use Rattle.store_theory.specs.Systems.{CellAtom}
use Rattle.store_theory.specs.Templates.{as_term, as_value}
use Rattle.term_store.specs.RefView.{the_place}
use Rattle.search_tree.specs.Looking.{AreBelow}
use Rattle.search_tree.specs.OwnStores.{AreOwn}
use Rattle.search_tree.specs.declared.goal_key.GoalKey.{GoalKey}
use Rattle.search_tree.specs.declared.goal_key.KeyPart.{KeyPart}
use Rattle.search_tree.specs.declared.goal_key.KeyPart.TheVariants.{Eigenvariable, Function, Literal, Variable}

-- ---- what a key spells

abbrev pub terms_of : List CellValue → GroundTerms
terms_of [] = no_g_terms
terms_of (v ∷ vs) = more_g_terms (as_term v) (terms_of vs)

abbrev pub values_of : List CellValue → Values
values_of vs = values_tree (map as_value vs)

-- a literal without a label over these terms
abbrev pub literal_of : Sign → ℕ → List CellValue → GroundLiteral
literal_of sign symbol vs = record { sign = sign; symbol = symbol; args = terms_of vs; label = [] }

-- the parts spell these values, the last one first, and then these literals, where f gives the values of the variables
abbrev pub Spells : (ℕ → GroundTerm) → List KeyPart → List CellValue → List GroundLiteral → Type 0
Spells f [] vs ls = (vs ≡ []) × (ls ≡ [])
Spells f (Variable i ∷ key) vs ls = (rest : List CellValue) × (vs ≡ rest ++ a_term (f i) ∷ []) × Spells f key rest ls
Spells f (Function g n ∷ key) vs ls = (rest : List CellValue) × (args : List CellValue) × (length args ≡ n) × (vs ≡ rest ++ a_term (g_fun g.0 (terms_of args)) ∷ []) × Spells f key (rest ++ args) ls
Spells f (Eigenvariable p n ∷ key) vs ls = (rest : List CellValue) × (args : List CellValue) × (length args ≡ n) × (vs ≡ rest ++ a_term (g_eigen p.0 (values_of args)) ∷ []) × Spells f key (rest ++ args) ls
Spells f (Literal sign symbol n ∷ key) vs ls = (rest : List GroundLiteral) × (args : List CellValue) × (length args ≡ n) × (vs ≡ []) × (ls ≡ literal_of sign symbol.0 args ∷ rest) × Spells f key args rest

-- ---- the variables of a key

-- f gives the variables, by their numbers, the values that they have by the solution
abbrev pub Follows : (ℕ → GroundTerm) → Solution → List ℕ → Type 0
Follows f σ vs = (i v : ℕ) → slice_get vs i ≡ Some v → a_term (f i) ≡ σ v

-- they are unbound variables for terms, each one once
pub record AreVariables (s : Store) (vs : List ℕ) : Type 0 where
  pub unbound : (i v : ℕ) → slice_get vs i ≡ Some v → slice_get s.cells v ≡ Some (variable TermSort None)
  pub once : (i j v : ℕ) → slice_get vs i ≡ Some v → slice_get vs j ≡ Some v → i ≡ j

-- v has the number i, and is there since then where it was not before
abbrev pub IsNumbered : List ℕ → List ℕ → ℕ → ℕ → Type 0
IsNumbered before after v i = (slice_get after i ≡ Some v) × ((after ≡ before) ⊎ ((after ≡ before ++ v ∷ []) × ¬ IsIn v before))

abbrev pub AreFrom : ℕ → List ℕ → Type 0
AreFrom base rs = (r : ℕ) → IsIn r rs → base ≤ r

-- ---- reading a key

-- the key, with what spells the cells that are still to be read and the literals that are left, spells the goal and those above it
pub record IsReading (s : Store) (x : CellGoal) (waiting vs : List ℕ) (key : List KeyPart) (rest : List CellAtom) : Type 0 where
  pub reads : (σ : Solution) (f : ℕ → GroundTerm) → Solves s σ → Follows f σ vs → (more : List KeyPart) → Spells f more (map σ waiting) (map (literal_by σ) rest) → Spells f (key ++ more) [] (map (literal_by σ) (x.literal ∷ x.path))
  pub below : AreBelow (length s.cells) waiting
  pub literals : IsTrue (list_all (atom_is_below (length s.cells)) rest)
  pub variables : AreVariables s vs
  pub own : (P : Problem) (base : ℕ) → AreOwn P base s → IsGoalIn (λ r. base ≤ r) s x → AreFrom base waiting × AreFrom base vs × AllByRecursion (IsAtomIn (λ r. base ≤ r) s) rest

abbrev pub variables_in : GoalKey → List ℕ
variables_in k = map the_place k.variables.items

abbrev pub waiting_in : GoalKey → List ℕ
waiting_in k = map the_place k.waiting.items

abbrev pub IsReadingAt : Store → CellGoal → GoalKey → List CellAtom → Type 0
IsReadingAt s x k rest = IsReading s x (waiting_in k) (variables_in k) k.parts.items rest

-- the same where no cell is still to be read
abbrev pub IsReadAt : Store → CellGoal → GoalKey → List CellAtom → Type 0
IsReadAt s x k rest = IsReading s x [] (variables_in k) k.parts.items rest

-- the part came, and these cells are to be read
pub record IsAdded (before : GoalKey) (part : KeyPart) (rs : List ℕ) (after : GoalKey) : Type 0 where
  pub parts : after.parts.items ≡ before.parts.items ++ part ∷ []
  pub waiting : waiting_in after ≡ waiting_in before ++ rs
  pub variables : variables_in after ≡ variables_in before

-- the key is that of the goal, with these variables
pub record IsKeyOf (s : Store) (x : CellGoal) (vs : List ℕ) (key : List KeyPart) : Type 0 where
  pub spells : (σ : Solution) (f : ℕ → GroundTerm) → Solves s σ → Follows f σ vs → Spells f key [] (map (literal_by σ) (x.literal ∷ x.path))
  pub variables : AreVariables s vs
  pub own : (P : Problem) (base : ℕ) → AreOwn P base s → IsGoalIn (λ r. base ≤ r) s x → AreFrom base vs
