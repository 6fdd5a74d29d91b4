-- Extensions that are set aside before anything is copied: whatever bindings make them, one of their new goals is not closed.
use Rattle.std.proofs.Common.{◌≡◌, ◌⊎◌, ℕ, ◌+◌, ◌≤◌, List, [], ◌∷◌, ◌++◌, length, map, not, ◌&&◌, Bool, true, false, IsTrue, refl, sym, ◌∙◌, ap, subst, Some, slice_get, remove, inl, inr, arith}
use Rattle.std.specs.List.{AllByRecursion}
use Rattle.std.proofs.lemmas.Bool.{false≢true, and_parts}
use Rattle.std.proofs.lemmas.List.{length-map}
use Rattle.plain_laws.proofs.Places.{found-in-map, map-there}
use Rattle.calculus.specs.declared.sign.Side.{Side}
use Rattle.calculus.specs.Syntax.{Problem}
use Rattle.calculus.specs.Ground.{GroundLiteral, Value}
use Rattle.calculus.specs.ComputedInstances.{is_instance}
use Rattle.calculus.specs.Kinds.{other}
use Rattle.calculus.specs.Tableaux.{ancestor, is_new_on}
use Rattle.calculus.specs.Choices.{extension, Choice, GroundChoice, choices_of, Goal, Growth, is_opposite, goals_on, growth_of}
use Rattle.store_theory.specs.Patterns.{PatternAtom, Template}
use Rattle.store_theory.specs.Stores.{Solution, Solves, Store}
use Rattle.store_theory.specs.Systems.{CellAtom}
use Rattle.store_theory.specs.Templates.{IsTemplateOf, have_sorts, literals_by, pattern_literal}
use Rattle.calculus.proofs.GrowthLaws.{is_complement-opposite, closed-new}
use Rattle.search_theory.specs.Ahead.{IsHopeless, IsHopelessAt}
use Rattle.search_theory.specs.Exploring.{BeginsWith, IsClosedList, IsIn}
use Rattle.search_theory.specs.Jumps.{ChoicePoint, IsFruitless, StandsAtPoint}
use Rattle.search_theory.specs.Matrix.{IsTemplateMatrix, MatrixClause, MatrixPlace, places}
use Rattle.search_theory.specs.OrderedChoices.{extension_at, selection_of}
use Rattle.search_theory.specs.States.{CellChoice, CellGoal, IsStateOf, goal_at, literal_by}
use Rattle.search_theory.specs.Uncopied.{goal_like}
use Rattle.search_theory.proofs.BeginningLaws.{not-empty-behind}
use Rattle.search_theory.specs.DeadEnds.{IsDead, irregular}
use Rattle.search_theory.proofs.ExtensionLaws.{extension-of, last-at, state_at}
use Rattle.search_theory.proofs.ImageLaws.{remove-map}
use Rattle.search_theory.proofs.JumpLaws.{LeadsNowhere, nowhere-fruitless}
use Rattle.search_theory.proofs.LastChoice.{grow_once}
use Rattle.search_theory.proofs.LookAheadLaws.{HasReduction, IsMet, closing-beginning, full-met, full-path, like-image, nearly-open, opposite-met}
use Rattle.search_theory.specs.Closing.{IsCloseable}
use Rattle.search_theory.proofs.MeetingLaws.{OppositeParts}
use Rattle.search_theory.proofs.NextLaws.{grown_state}
use Rattle.search_theory.proofs.RegularLaws.{any-there, each-at, not-all}
use Rattle.search_theory.proofs.SolvedLaws.{get-behind, later-closed}
use Rattle.search_theory.proofs.StepLaws.{by-template, if-some}

-- ---- what an extension gives

-- by the solution and these values of the clause's variables the literal at the place is opposite to the goal
pub record IsExtensionBy (s : Store) (t : Template) (place : ℕ) (g : CellGoal) (σ : Solution) (vs : List Value) : Type 0 where
  pub solves : Solves s σ
  pub sorts : IsTrue (have_sorts t.sorts vs)
  pub opposite : IsTrue (is_opposite (literal_by σ g.literal) (slice_get (literals_by vs t) place))

-- the goal that the literal gives
abbrev pub goal_by : Solution → List Value → CellGoal → PatternAtom → Goal
goal_by σ vs g q = record { literal = pattern_literal vs q; path = map (literal_by σ) (g.literal ∷ g.path) }

-- the tree that follows the extension: its goals are those before it and those that the other literals give
pub record ExtensionImage (s : Store) (t : Template) (place : ℕ) (g : CellGoal) (every : List CellGoal) (y : Growth) : Type 0 where
  pub solution : Solution
  pub values : List Value
  pub is_extension : IsExtensionBy s t place g solution values
  pub goals : y.all_goals ≡ map (goal_at solution) every ++ goals_on (map (literal_by solution) (g.literal ∷ g.path)) (remove (literals_by values t) place)

extension-image : (P : Problem) (d : ℕ) (c : List Choice) (s : Store) (cs : List CellChoice) (g : CellGoal) (gs every : List CellGoal) (ds : List ℕ) (sides : List Side) (t : Template) (place : ℕ) → IsStateOf P d c (state_at s cs g gs every ds) → IsTemplateOf P sides t → (hs : List GroundChoice) (y : Growth) → choices_of hs ≡ c ++ extension sides place ∷ [] → growth_of P hs ≡ Some y → ExtensionImage s t place g every y
extension-image P d c s cs g gs every ds sides t place h tm hs y names grows =
    let l = last-at P d c (state_at s cs g gs every ds) (extension sides place) h refl hs y names grows in
    let σ = l.solution in
    let (j, is, selected) = extension-of l.last sides place l.last_name in
    let q = if-some (is_instance P j && is_opposite (literal_by σ g.literal) (slice_get j.literals place)) _ y (ap (λ x. grow_once P x (grown_state g gs every ds σ)) (sym is) ∙ l.grown) in
    let a = and_parts (is_instance P j) (is_opposite (literal_by σ g.literal) (slice_get j.literals place)) q.0 in
    let w = by-template P sides t tm j selected a.0 in
    record {
      solution = σ;
      values = j.values;
      is_extension = record { solves = l.ground.solves; sorts = w.sorts; opposite = subst (λ xs. IsTrue (is_opposite (literal_by σ g.literal) (slice_get xs place))) w.literals a.1 };
      goals = ap (λ (x : Growth). x.all_goals) (sym q.1) ∙ ap (λ xs. map (goal_at σ) every ++ goals_on (map (literal_by σ) (g.literal ∷ g.path)) (remove xs place)) w.literals;
    }

-- where the goal of another literal stands
new-goal-at : (s : Store) (t : Template) (place number : ℕ) (g : CellGoal) (every : List CellGoal) (q : PatternAtom) (y : Growth) (i : ExtensionImage s t place g every y) → slice_get (remove t.literals place) number ≡ Some q → slice_get y.all_goals (length every + number) ≡ Some (goal_by i.solution i.values g q)
new-goal-at s t place number g every q y i at =
    let path = map (literal_by i.solution) (g.literal ∷ g.path) in
    let others = remove (literals_by i.values t) place in
    let literal : slice_get others number ≡ Some (pattern_literal i.values q) = ap (λ xs. slice_get xs number) (remove-map (pattern_literal i.values) t.literals place) ∙ map-there (pattern_literal i.values) (remove t.literals place) number q at in
    ap (λ xs. slice_get xs (length every + number)) i.goals
    ∙ ap (λ n. slice_get (map (goal_at i.solution) every ++ goals_on path others) (n + number)) (sym (length-map every (goal_at i.solution)))
    ∙ get-behind (map (goal_at i.solution) every) (goals_on path others) number
    ∙ map-there (λ (z : GroundLiteral). record { literal = z; path = path }) others number (pattern_literal i.values q) literal

-- ---- barren extensions

-- the extension by the template's literal at the place gives a goal that is not closed within d, by no solution of the store
pub record IsBarren (P : Problem) (d : ℕ) (s : Store) (t : Template) (place : ℕ) (g : CellGoal) : Type 0 where
  pub number : ℕ
  pub literal : PatternAtom
  pub stands : slice_get (remove t.literals place) number ≡ Some literal
  pub cannot : (σ : Solution) (vs : List Value) → IsExtensionBy s t place g σ vs → ¬ IsCloseable P d (goal_by σ vs g literal)

-- no closed tableau begins with the list and the extension
pub barren-pruned : (P : Problem) (d : ℕ) (c : List Choice) (s : Store) (cs : List CellChoice) (g : CellGoal) (gs every : List CellGoal) (ds : List ℕ) (sides : List Side) (t : Template) (place : ℕ) → IsStateOf P d c (state_at s cs g gs every ds) → IsTemplateOf P sides t → IsBarren P d s t place g → (b : List Choice) → IsClosedList P d b → ¬ BeginsWith (c ++ extension sides place ∷ []) b
barren-pruned P d c s cs g gs every ds sides t place h tm bad b closed begins =
    let k = closing-beginning P d (c ++ extension sides place ∷ []) b (not-empty-behind c (extension sides place)) closed begins in
    let i = extension-image P d c s cs g gs every ds sides t place h tm k.choices k.growth k.names k.grows in
    let at = new-goal-at s t place bad.number g every bad.literal k.growth i bad.stands in
    bad.cannot i.solution i.values i.is_extension (each-at (IsCloseable P d) k.growth.all_goals (length every + bad.number) (goal_by i.solution i.values g bad.literal) k.goals at)

-- nor a list that closes the goal of an earlier point
pub barren-fruitless : (P : Problem) (d : ℕ) (c : List Choice) (s : Store) (cs : List CellChoice) (g : CellGoal) (gs every : List CellGoal) (ds : List ℕ) (sides : List Side) (t : Template) (place : ℕ) → IsStateOf P d c (state_at s cs g gs every ds) → IsTemplateOf P sides t → IsBarren P d s t place g → IsFruitless P d (c ++ extension sides place ∷ []) (length every)
barren-fruitless P d c s cs g gs every ds sides t place h tm bad q stand few b k begins =
    let z = later-closed P d q.list (c ++ extension sides place ∷ []) b stand.state (not-empty-behind c (extension sides place)) stand.is_state k begins in
    let i = extension-image P d c s cs g gs every ds sides t place h tm z.choices z.growth z.names z.grows in
    let at = new-goal-at s t place bad.number g every bad.literal z.growth i bad.stands in
    let many = stand.goals in
    bad.cannot i.solution i.values i.is_extension (z.goals (length every + bad.number) (goal_by i.solution i.values g bad.literal) (omega (arith, many, few)) at)

-- ---- a goal that is the same as one above it

-- each extension gives the literal what its solution gives the atom
abbrev pub AlwaysSame : Store → Template → ℕ → CellGoal → PatternAtom → CellAtom → Type 0
AlwaysSame s t place g q a = (σ : Solution) (vs : List Value) → IsExtensionBy s t place g σ vs → pattern_literal vs q ≡ literal_by σ a

repeated-old : (s : Store) (t : Template) (place k : ℕ) (g : CellGoal) (q : PatternAtom) (a : CellAtom) → slice_get (g.literal ∷ g.path) k ≡ Some a → AlwaysSame s t place g q a → (σ : Solution) (vs : List Value) → IsExtensionBy s t place g σ vs → ¬ IsTrue (is_new_on (map (literal_by σ) (g.literal ∷ g.path)) (pattern_literal vs q))
repeated-old s t place k g q a on same σ vs e new =
    let path = map (literal_by σ) (g.literal ∷ g.path) in
    let stands = any-there (pattern_literal vs q) path k (literal_by σ a) (map-there (literal_by σ) (g.literal ∷ g.path) k a on) (same σ vs e) in
    false≢true (sym (ap not stands) ∙ new)

pub repeated-barren : (P : Problem) (d : ℕ) (s : Store) (t : Template) (place number k : ℕ) (g : CellGoal) (q : PatternAtom) (a : CellAtom) → slice_get (remove t.literals place) number ≡ Some q → slice_get (g.literal ∷ g.path) k ≡ Some a → AlwaysSame s t place g q a → IsBarren P d s t place g
repeated-barren P d s t place number k g q a at on same = record {
  number = number;
  literal = q;
  stands = at;
  cannot = λ σ vs e (y, closed). repeated-old s t place k g q a on same σ vs e (closed-new P d y (map (literal_by σ) (g.literal ∷ g.path)) (pattern_literal vs q) closed);
}

-- each tree that follows the extension is irregular
pub repeated-dead : (P : Problem) (d : ℕ) (c : List Choice) (s : Store) (cs : List CellChoice) (g : CellGoal) (gs every : List CellGoal) (ds : List ℕ) (sides : List Side) (t : Template) (place number k : ℕ) (q : PatternAtom) (a : CellAtom) → IsStateOf P d c (state_at s cs g gs every ds) → IsTemplateOf P sides t → slice_get (remove t.literals place) number ≡ Some q → slice_get (g.literal ∷ g.path) k ≡ Some a → AlwaysSame s t place g q a → IsDead P (c ++ extension sides place ∷ [])
repeated-dead P d c s cs g gs every ds sides t place number k q a h tm at on same = irregular (λ hs y names grows.
    let i = extension-image P d c s cs g gs every ds sides t place h tm hs y names grows in
    not-all (λ (x : Goal). is_new_on x.path x.literal) y.all_goals (length every + number) (goal_by i.solution i.values g q) (new-goal-at s t place number g every q y i at)
    (not-new (is_new_on (map (literal_by i.solution) (g.literal ∷ g.path)) (pattern_literal i.values q)) (repeated-old s t place k g q a on same i.solution i.values i.is_extension)))
  where
    not-new : (b : Bool) → ¬ IsTrue b → b ≡ false
    not-new true n = absurd (n refl)
    not-new false n = refl

-- ---- a goal that is lost at the path limit

-- no extension makes the literal opposite to an atom above it
abbrev pub NeverMeets : Store → Template → ℕ → CellGoal → PatternAtom → Type 0
NeverMeets s t place g q = (σ : Solution) (vs : List Value) → IsExtensionBy s t place g σ vs → (k : ℕ) (a : CellAtom) → slice_get (g.literal ∷ g.path) k ≡ Some a → ¬ OppositeParts (pattern_literal vs q) (literal_by σ a)

never-met : (s : Store) (t : Template) (place : ℕ) (g : CellGoal) (q : PatternAtom) → NeverMeets s t place g q → (σ : Solution) (vs : List Value) → IsExtensionBy s t place g σ vs → ¬ IsMet (map (literal_by σ) (g.literal ∷ g.path)) (pattern_literal vs q)
never-met s t place g q none σ vs e m =
    let (a, at, is) = found-in-map (literal_by σ) (g.literal ∷ g.path) m.number m.literal m.on_path in
    none σ vs e m.number a at (subst (OppositeParts (pattern_literal vs q)) is m.parts)

-- nothing above the goal closes it, and its path has room for no extension within d
full-barren : (P : Problem) (d : ℕ) (s : Store) (t : Template) (place number : ℕ) (g : CellGoal) (q : PatternAtom) → slice_get (remove t.literals place) number ≡ Some q → NeverMeets s t place g q → d ≤ length g.path + 1 → IsBarren P d s t place g
full-barren P d s t place number g q at none far = record {
  number = number;
  literal = q;
  stands = at;
  cannot = λ σ vs e (y, closed). never-met s t place g q none σ vs e (full-met P d (map (literal_by σ) (g.literal ∷ g.path)) (pattern_literal vs q) y (full-path d σ (g.literal ∷ g.path) (omega (arith, far))) closed);
}

-- or it has room for one, and none has hope
nearly-barren : (P : Problem) (m : List MatrixClause) (d : ℕ) (s : Store) (t : Template) (place number : ℕ) (g : CellGoal) (q : PatternAtom) → IsTemplateMatrix P m → slice_get (remove t.literals place) number ≡ Some q → NeverMeets s t place g q → d ≤ length g.path + 2 → ((p : MatrixPlace) → IsIn p (places m q.symbol (other q.sign)) → IsHopelessAt m p (goal_like q (g.literal ∷ g.path))) → IsBarren P d s t place g
nearly-barren P m d s t place number g q tm at none far bad = record {
  number = number;
  literal = q;
  stands = at;
  cannot = λ σ vs e.
      let path = map (literal_by σ) (g.literal ∷ g.path) in
      let x = pattern_literal vs q in
      nearly-open P m d (goal_like q (g.literal ∷ g.path)) path x tm (omega (arith, far)) refl refl (like-image σ (g.literal ∷ g.path))
      (λ (r : HasReduction path x). never-met s t place g q none σ vs e (opposite-met path x r.number (is_complement-opposite x (ancestor path r.number) r.is_complement))) bad;
}

pub lost-barren : (P : Problem) (m : List MatrixClause) (d : ℕ) (s : Store) (t : Template) (place number : ℕ) (g : CellGoal) (q : PatternAtom) → IsTemplateMatrix P m → slice_get (remove t.literals place) number ≡ Some q → NeverMeets s t place g q → (d ≤ length g.path + 1) ⊎ ((d ≤ length g.path + 2) × ((p : MatrixPlace) → IsIn p (places m q.symbol (other q.sign)) → IsHopelessAt m p (goal_like q (g.literal ∷ g.path)))) → IsBarren P d s t place g
lost-barren P m d s t place number g q tm at none (inl far) = full-barren P d s t place number g q at none far
lost-barren P m d s t place number g q tm at none (inr (far, bad)) = nearly-barren P m d s t place number g q tm at none far bad

-- ---- by symbols and signs alone

-- an extension without hope, which the marks of a path tell
pub hopeless-barren : (P : Problem) (d : ℕ) (s : Store) (t : Template) (place : ℕ) (g : CellGoal) → d ≤ length g.path + 1 → IsHopeless t place g → IsBarren P d s t place g
hopeless-barren P d s t place g far bad = full-barren P d s t place bad.number g bad.literal bad.stands (λ σ vs e k a at parts. bad.lacking (record { number = k; atom = a; on_path = at; signs = parts.signs; symbols = parts.symbols })) far

template-at : (P : Problem) (m : List MatrixClause) (p : MatrixPlace) (g : CellGoal) → IsTemplateMatrix P m → (bad : IsHopelessAt m p g) → IsTemplateOf P (selection_of (slice_get m p.clause)) bad.clause.template
template-at P m p g tm bad = subst (λ o. IsTemplateOf P (selection_of o) bad.clause.template) (sym bad.stands) (each-at (λ (x : MatrixClause). IsTemplateOf P x.selection x.template) m p.clause bad.clause tm.templates bad.stands)

-- the same for the choice as the search has it
pub hopeless-dropped : (P : Problem) (m : List MatrixClause) (d : ℕ) (c : List Choice) (s : Store) (cs : List CellChoice) (g : CellGoal) (gs every : List CellGoal) (ds : List ℕ) (p : MatrixPlace) → IsTemplateMatrix P m → IsStateOf P d c (state_at s cs g gs every ds) → d ≤ length g.path + 1 → IsHopelessAt m p g → (b : List Choice) → IsClosedList P d b → ¬ BeginsWith (c ++ extension_at m p ∷ []) b
hopeless-dropped P m d c s cs g gs every ds p tm h far bad = barren-pruned P d c s cs g gs every ds (selection_of (slice_get m p.clause)) bad.clause.template p.literal h (template-at P m p g tm bad) (hopeless-barren P d s bad.clause.template p.literal g far bad.hopeless)

pub nowhere-passed : (P : Problem) (m : List MatrixClause) (d : ℕ) (c : List Choice) (s : Store) (cs : List CellChoice) (g : CellGoal) (gs every : List CellGoal) (ds : List ℕ) (p : MatrixPlace) (qs : List ChoicePoint) → IsTemplateMatrix P m → IsStateOf P d c (state_at s cs g gs every ds) → d ≤ length g.path + 1 → IsHopelessAt m p g → AllByRecursion (StandsAtPoint P d) qs → AllByRecursion (LeadsNowhere P d (length every) (c ++ extension_at m p ∷ [])) qs
nowhere-passed P m d c s cs g gs every ds p qs tm h far bad = nowhere-fruitless P d (length every) (c ++ extension_at m p ∷ []) qs (barren-fruitless P d c s cs g gs every ds (selection_of (slice_get m p.clause)) bad.clause.template p.literal h (template-at P m p g tm bad) (hopeless-barren P d s bad.clause.template p.literal g far bad.hopeless))
