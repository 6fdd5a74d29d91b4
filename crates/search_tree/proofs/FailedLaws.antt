-- Goals that failed: no ground solution closes a goal that has the key of one, and the leftmost open goal fails where no list closes it any
-- more.
use Rattle.std.proofs.Common.{◌≡◌, ◌≤◌, ◌+◌, ◌++◌, ◌∙◌, ℕ, zero, suc, List, [], ◌∷◌, length, map, IsTrue, refl, sym, ap, ap₂, subst, Option, None, Some, slice_get, inr, arith, take}
use Rattle.std.specs.List.{AllByRecursion, list_all}
use Rattle.std.proofs.lemmas.Bool.{and_parts, false≢true}
use Rattle.plain_laws.proofs.Every.{all-at, each-append}
use Rattle.calculus.specs.Choices.{Choice}
use Rattle.calculus.specs.Ground.{GroundLiteral, GroundTerm, common}
use Rattle.calculus.specs.Skolem.{is_admitted}
use Rattle.calculus.specs.Syntax.{Problem}
use Rattle.calculus.specs.declared.sort.Sort.TheVariants.{TermSort}
use Rattle.search_theory.proofs.AdmittedLaws.{IsGood}
use Rattle.search_theory.proofs.RegularLaws.{each-at}
use Rattle.search_theory.proofs.SolvedLaws.{unsolved-open}
use Rattle.search_theory.proofs.TransplantLaws.{variable-good}
use Rattle.search_theory.specs.CellsIn.{IsGoalIn}
use Rattle.search_theory.specs.Closing.{CannotClose, IsCloseable}
use Rattle.search_theory.specs.Jumps.{IsSolvedBehind}
use Rattle.search_theory.specs.Matrix.{MatrixClause}
use Rattle.search_theory.specs.States.{CellGoal, State, goal_at, goal_is_below, literal_by}
use Rattle.store_theory.specs.Stores.{CellValue, Solution, Store, a_mark, a_string, a_term, has_sort, variable}
use Rattle.store_theory.specs.Systems.{System}
use Rattle.store_theory.specs.Templates.{as_term}
use Rattle.search_tree.specs.Failing.{AreFailed, HasFailed, KeyFails, MakesKeyFail, goal_of}
use Rattle.search_tree.specs.GivenUp.{HasLost}
use Rattle.search_tree.specs.GoalKeys.{Follows, IsKeyOf}
use Rattle.search_tree.specs.Running.{IsAtGoal, IsRunning, StandsFor}
use Rattle.search_tree.specs.Trees.{AreOpen, IsGoalAt, tree_system}
use Rattle.search_tree.specs.declared.failed.Entry.{Entry}
use Rattle.search_tree.specs.declared.goal_key.KeyPart.{KeyPart}
use Rattle.search_tree.specs.declared.tree.Goal.{Goal}
use Rattle.search_tree.specs.declared.tree.Step.{Step}
use Rattle.search_tree.proofs.AheadLaws.{leftmost-open}
use Rattle.search_tree.proofs.ChosenValues.{has-values}
use Rattle.search_tree.proofs.KeyLaws.{spells-once}
use Rattle.search_tree.proofs.Places.{take-next}
use Rattle.search_tree.proofs.TreeLaws.{goal-at}

-- ---- a goal that has the key of one that failed

-- the term of a variable by the solution, or some term
abbrev term_of : Solution → Option ℕ → GroundTerm
term_of σ None = common 0
term_of σ (Some v) = as_term (σ v)

term-admitted : (P : Problem) (v : CellValue) → IsTrue (has_sort TermSort v) → IsGood P v → IsTrue (is_admitted P (as_term v))
term-admitted P (a_term t) s h = h
term-admitted P (a_mark m) s h = absurd (false≢true s)
term-admitted P (a_string w) s h = absurd (false≢true s)

term-same : (v : CellValue) → IsTrue (has_sort TermSort v) → a_term (as_term v) ≡ v
term-same (a_term t) s = refl
term-same (a_mark m) s = absurd (false≢true s)
term-same (a_string w) s = absurd (false≢true s)

pub failed-cannot : (P : Problem) (base d : ℕ) (c : List Choice) (S : State) (y : System) (g : CellGoal) → IsRunning P base d c S y → IsGoalIn (λ r. base ≤ r) S.store g → HasFailed P d S.store g → CannotClose P d S g
failed-cannot P base d c S y g run over h σ ground closed = h.fails (λ i. term_of σ (slice_get h.variables i)) admitted (literal_by σ g.literal) (map (literal_by σ) g.path) (h.is_key.spells σ (λ i. term_of σ (slice_get h.variables i)) ground.solves follows) closed
  where
    sorted : (i v : ℕ) → slice_get h.variables i ≡ Some v → IsTrue (has_sort TermSort (σ v))
    sorted i v e = ground.solves v (variable TermSort None) (h.is_key.variables.unbound i v e)

    follows : Follows (λ i. term_of σ (slice_get h.variables i)) σ h.variables
    follows i v e = ap (λ o. a_term (term_of σ o)) e ∙ term-same (σ v) (sorted i v e)

    by : (i : ℕ) (o : Option ℕ) → slice_get h.variables i ≡ o → IsTrue (is_admitted P (term_of σ o))
    by i None e = refl
    by i (Some v) e = term-admitted P (σ v) (sorted i v e) (variable-good P (λ r. base ≤ r) S.store σ S.choices v ground.solves run.choices ground.admitted (run.variables v TermSort (h.is_key.own P base run.own over v (i, e)) (h.is_key.variables.unbound i v e)))

    admitted : (i : ℕ) → IsTrue (is_admitted P (term_of σ (slice_get h.variables i)))
    admitted i = by i (slice_get h.variables i) refl

-- so the list whose leftmost open goal it is goes
pub failed-lost : (P : Problem) (m : List MatrixClause) (base d : ℕ) (c : List Choice) (s : Store) (steps : List Step) (goals : List Goal) (first : Option ℕ) (n goal : ℕ) → StandsFor P m base d c s steps goals first → first ≡ Some goal → ((x : CellGoal) → IsGoalAt steps goals goal x → IsTrue (goal_is_below (length s.cells) x) → HasFailed P d s x) → HasLost P d c n first
failed-lost P m base d c s steps goals first n goal (cs, y, h) e failed =
    let w = leftmost-open steps goals first goal y.open_goals h.tree.open_goals e in
    let (z, on, there) = goal-at steps goals y.all_goals goal w.at.goal h.tree.goals w.at.stands in
    record {
      state = record { store = s; choices = cs; growth = y };
      is_state = h.running.state;
      number = goal;
      goal = z;
      stands = on;
      later = inr (goal, e, omega arith);
      cannot = failed-cannot P base d c (record { store = s; choices = cs; growth = y }) (tree_system m steps goals y.all_goals) z h.running (each-at (IsGoalIn (λ r. base ≤ r) s) y.all_goals goal z h.running.goals on) (failed z there (all-at (goal_is_below (length s.cells)) y.all_goals goal z h.running.state.cells.all_goals on));
    }

pub leftmost-there : (P : Problem) (m : List MatrixClause) (base d : ℕ) (c : List Choice) (s : Store) (steps : List Step) (goals : List Goal) (first : Option ℕ) (goal : ℕ) → StandsFor P m base d c s steps goals first → first ≡ Some goal → (x : CellGoal) × IsGoalAt steps goals goal x × IsTrue (goal_is_below (length s.cells) x)
leftmost-there P m base d c s steps goals first goal (cs, y, h) e =
    let w = leftmost-open steps goals first goal y.open_goals h.tree.open_goals e in
    let (z, on, there) = goal-at steps goals y.all_goals goal w.at.goal h.tree.goals w.at.stands in
    (z, there, all-at (goal_is_below (length s.cells)) y.all_goals goal z h.running.state.cells.all_goals on)

-- ---- a goal that no list closes any more

fails-by : (P : Problem) (base d : ℕ) (c : List Choice) (S : State) (y : System) (g : CellGoal) (gs : List CellGoal) → IsRunning P base d c S y → S.growth.open_goals ≡ g ∷ gs → IsSolvedBehind P d c [] → MakesKeyFail P d S.store g
fails-by P base d c S y g gs run opened none vs key k f admitted x path spells closed =
    let w = has-values P base d c S y run vs f k.variables.unbound k.variables.once admitted in
    let same : x ∷ path ≡ map (literal_by w.solution) (g.literal ∷ g.path) = (spells-once f key [] [] (x ∷ path) (map (literal_by w.solution) (g.literal ∷ g.path)) spells (k.spells w.solution f w.ground.solves w.has)).1 in
    let first : x ≡ literal_by w.solution g.literal = cc same in
    let rest : path ≡ map (literal_by w.solution) g.path = cc same in
    unsolved-open P d c S g gs run.state opened none w.solution w.ground (subst (IsCloseable P d) (ap₂ goal_of first rest) closed)

pub spent-fails : (P : Problem) (m : List MatrixClause) (base d : ℕ) (c : List Choice) (s : Store) (steps : List Step) (goals : List Goal) (goal : ℕ) (g : CellGoal) → IsAtGoal P m base d c s steps goals goal g → IsSolvedBehind P d c [] → MakesKeyFail P d s g
spent-fails P m base d c s steps goals goal g h none = fails-by P base d c (record { store = s; choices = h.made; growth = record { open_goals = g ∷ h.behind; all_goals = h.every; depths = h.depths } }) (tree_system m steps goals h.every) g h.behind h.at.running refl none

pub spent-there : (P : Problem) (m : List MatrixClause) (base d : ℕ) (c : List Choice) (s : Store) (steps : List Step) (goals : List Goal) (goal : ℕ) (g : CellGoal) → IsAtGoal P m base d c s steps goals goal g → IsGoalAt steps goals goal g × IsTrue (goal_is_below (length s.cells) g)
spent-there P m base d c s steps goals goal g h = (
  stands h.at.tree.open_goals,
  (and_parts (goal_is_below (length s.cells) g) (list_all (goal_is_below (length s.cells)) h.behind) h.at.running.state.cells.open_goals).0,
)
  where
    stands : AreOpen steps goals (Some goal) (g ∷ h.behind) → IsGoalAt steps goals goal g
    stands (i, k, e, there, is, rest) = let q : goal ≡ i = cc e in record { goal = k; stands = subst (λ n. slice_get goals n ≡ Some k) (sym q) there; is_goal = is }

-- ---- the keys that are kept

-- one of them
pub failed-at : (P : Problem) (d : ℕ) (es : List Entry) (i : ℕ) (e : Entry) (key : List KeyPart) → AllByRecursion (λ (x : Entry). KeyFails P d x.key.items) es → slice_get es i ≡ Some e → e.key.items ≡ key → KeyFails P d key
failed-at P d es i e key h at q = subst (KeyFails P d) q (each-at (λ (x : Entry). KeyFails P d x.key.items) es i e h at)

-- one more
pub failed-more : (P : Problem) (d : ℕ) (es after : List Entry) (e : Entry) (key : List KeyPart) → after ≡ es ++ e ∷ [] → e.key.items ≡ key → KeyFails P d key → AllByRecursion (λ (x : Entry). KeyFails P d x.key.items) es → AllByRecursion (λ (x : Entry). KeyFails P d x.key.items) after
failed-more P d es after e key q k fails h = subst (AllByRecursion (λ (x : Entry). KeyFails P d x.key.items)) (sym q) (each-append (λ (x : Entry). KeyFails P d x.key.items) es (e ∷ []) h (subst (KeyFails P d) (sym k) fails, tt))

-- ---- keys that are the same

take-long : {A : Type 0} (xs : List A) (i : ℕ) → length xs ≤ i → take i xs ≡ xs
take-long [] zero l = refl
take-long [] (suc i) l = refl
take-long (x ∷ xs) zero l = absurd (omega (arith, l))
take-long (x ∷ xs) (suc i) l = ap (λ ys. x ∷ ys) (take-long xs i (omega (arith, l)))

pub same-next : (a b : List KeyPart) (i : ℕ) (x y : KeyPart) → slice_get a i ≡ Some x → slice_get b i ≡ Some y → x ≡ y → take i a ≡ take i b → take (i + 1) a ≡ take (i + 1) b
same-next a b i x y e f q h = take-next a i x e ∙ ap₂ (λ zs z. zs ++ z ∷ []) h q ∙ sym (take-next b i y f)

pub same-all : (a b : List KeyPart) (i : ℕ) → length a ≤ i → length b ≤ i → take i a ≡ take i b → a ≡ b
same-all a b i l m h = sym (take-long a i l) ∙ h ∙ take-long b i m
