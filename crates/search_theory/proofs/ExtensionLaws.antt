-- Lifting: reduction and extension at the leftmost open goal, and where no tree of ground instances takes them.
use Rattle.std.proofs.Common.{◌≡◌, ℕ, ◌≤◌, List, [], ◌∷◌, ◌++◌, length, map, remove, Bool, true, false, ◌&&◌, IsTrue, refl, sym, ◌∙◌, ap, ap₂, subst, Some, None, slice_get, nat_lt, arith}
use Rattle.std.specs.List.{list_all}
use Rattle.std.proofs.lemmas.Bool.{and_parts, and_from}
use Rattle.std.proofs.lemmas.List.{map-append, length-map}
use Rattle.plain_laws.proofs.Every.{all-append, all-weaken}
use Rattle.plain_laws.proofs.Options.{same-some}
use Rattle.calculus.specs.declared.sign.Side.{Side}
use Rattle.calculus.specs.Syntax.{Problem}
use Rattle.calculus.specs.Instances.{ClauseInstance}
use Rattle.calculus.specs.ComputedInstances.{is_instance}
use Rattle.calculus.specs.Tableaux.{ancestor}
use Rattle.calculus.specs.Choices.{start, reduction, extension, Choice, GroundChoice, choice_of, choices_of, Growth, is_opposite, growth_of}
use Rattle.store_theory.specs.Stores.{Store, Solution, names_below}
use Rattle.store_theory.specs.Patterns.{Template}
use Rattle.store_theory.specs.Templates.{is_choice_of_values, IsTemplateOf}
use Rattle.search_theory.specs.States.{CellClause, CellChoice, CellGoal, State, literal_by, clause_at, choice_at, goal_at, growth_at, new_cell_goals, extended, atom_is_below, clause_is_below, choice_is_below, goal_is_below, IsGround, name_of, IsStateOf}
use Rattle.search_theory.specs.Steps.{IsExtended, CannotExtend, IsReduced, CannotReduce}
use Rattle.search_theory.proofs.LastChoice.{grow_once, none≢some, growth-last, growth-before, ends-with}
use Rattle.search_theory.proofs.ImageLaws.{new_goals-image, choices-agree}
use Rattle.search_theory.proofs.BelowLaws.{choice-more, goals-more, goal-more, all-remove, goals-below}
use Rattle.search_theory.proofs.StepLaws.{instance-at, by-template, clause-found, if-some, if-true, admitted-all, admitted-join, admitted-agree}
use Rattle.search_theory.specs.DeadEnds.{Grows}

-- ---- what a tree with a last choice is

-- the choices before the last one, their image, and the last choice
pub record LastAt (P : Problem) (S : State) (gs : List GroundChoice) (y : Growth) (x : Choice) : Type 0 where
  pub solution : Solution
  pub ground : IsGround P S solution
  pub last : GroundChoice
  pub is_list : gs ≡ map (choice_at solution) S.choices ++ last ∷ []
  pub last_name : choice_of last ≡ x
  pub grown : grow_once P last (growth_at solution S.growth) ≡ Some y

abbrev pub is_start : Choice → Bool
is_start (start s) = true
is_start _ = false

pub nothing-alone : (P : Problem) (g : GroundChoice) (y : Growth) (x : Choice) → choice_of g ≡ x → is_start x ≡ false → growth_of P (g ∷ []) ≡ None
nothing-alone P (start i) y x e n = let q : true ≡ false = ap is_start e ∙ n in cc q
nothing-alone P (reduction up) y x e n = refl
nothing-alone P (extension i place) y x e n = refl

pub last-at : (P : Problem) (d : ℕ) (c : List Choice) (S : State) (x : Choice) → IsStateOf P d c S → is_start x ≡ false → (gs : List GroundChoice) (y : Growth) → choices_of gs ≡ c ++ x ∷ [] → growth_of P gs ≡ Some y → LastAt P S gs y x
last-at P d c S x h n gs y e g =
    let k = ends-with gs c x e in
    by k.first k.last k.is_list k.first_names k.last_name
  where
    grown-after : (first : List GroundChoice) (last : GroundChoice) → gs ≡ first ++ last ∷ [] → choices_of first ≡ c → choice_of last ≡ x → (z : Growth) → growth_of P first ≡ Some z → grow_once P last z ≡ Some y → LastAt P S gs y x
    grown-after first last is names last_name z fz lz =
        let (σ, ground, image) = h.complete first z names fz in
        let same : z ≡ growth_at σ S.growth = same-some (growth_of P first) z (growth_at σ S.growth) fz (ap (growth_of P) (sym image) ∙ h.sound σ ground) in
        record { solution = σ; ground = ground; last = last; is_list = is ∙ ap (λ fs. fs ++ last ∷ []) (sym image); last_name = last_name; grown = ap (grow_once P last) (sym same) ∙ lz }

    by : (first : List GroundChoice) (last : GroundChoice) → gs ≡ first ++ last ∷ [] → choices_of first ≡ c → choice_of last ≡ x → LastAt P S gs y x
    by [] last is names last_name = none≢some y (sym (nothing-alone P last y x last_name n) ∙ sym (ap (growth_of P) is) ∙ g)
    by (f ∷ fs) last is names last_name =
        let (z, fz, lz) = growth-before P f fs last y (sym (ap (growth_of P) is) ∙ g) in
        grown-after (f ∷ fs) last is names last_name z fz lz

abbrev pub choice_selection : Choice → List Side
choice_selection (start s) = s
choice_selection (reduction up) = []
choice_selection (extension s place) = s

abbrev pub choice_place : Choice → ℕ
choice_place (start s) = 0
choice_place (reduction up) = up
choice_place (extension s place) = place

-- a ground choice that is named as an extension is one
pub extension-of : (g : GroundChoice) (sides : List Side) (place : ℕ) → choice_of g ≡ extension sides place → (j : ClauseInstance) × (g ≡ extension j place) × (j.selection ≡ sides)
extension-of (start i) sides place e = cc e
extension-of (reduction up) sides place e = cc e
extension-of (extension j k) sides place e = (j, ap (extension j) (ap choice_place e), ap choice_selection e)

pub reduction-of : (g : GroundChoice) (up : ℕ) → choice_of g ≡ reduction up → g ≡ reduction up
reduction-of (start i) up e = cc e
reduction-of (reduction k) up e = ap reduction (ap choice_place e)
reduction-of (extension j k) up e = cc e

-- ---- the states

-- a state whose leftmost open goal is g
abbrev pub state_at : Store → List CellChoice → CellGoal → List CellGoal → List CellGoal → List ℕ → State
state_at s cs g gs every ds = record { store = s; choices = cs; growth = record { open_goals = g ∷ gs; all_goals = every; depths = ds } }

abbrev pub extended_state : Store → List CellChoice → CellGoal → List CellGoal → List CellGoal → List ℕ → CellClause → ℕ → State
extended_state s cs g gs every ds i place = record { store = s; choices = cs ++ extension i place ∷ []; growth = extended g gs i place (record { open_goals = g ∷ gs; all_goals = every; depths = ds }) }

abbrev pub reduced_state : Store → List CellChoice → List CellGoal → List CellGoal → List ℕ → ℕ → State
reduced_state s cs gs every ds up = record { store = s; choices = cs ++ reduction up ∷ []; growth = record { open_goals = gs; all_goals = every; depths = ds } }

-- ---- extension

pub extension-grown : (P : Problem) (σ : Solution) (g : CellGoal) (gs every : List CellGoal) (ds : List ℕ) (i : CellClause) (place : ℕ) → IsTrue (is_instance P (clause_at σ i)) → IsTrue (is_opposite (literal_by σ g.literal) (slice_get (map (literal_by σ) i.literals) place)) → grow_once P (extension (clause_at σ i) place) (growth_at σ (record { open_goals = g ∷ gs; all_goals = every; depths = ds })) ≡ Some (growth_at σ (extended g gs i place (record { open_goals = g ∷ gs; all_goals = every; depths = ds })))
extension-grown P σ g gs every ds i place inst opp =
    let new = new_cell_goals g i place in
    let image = new_goals-image σ g i place in
    if-true (is_instance P (clause_at σ i) && is_opposite (literal_by σ g.literal) (slice_get (map (literal_by σ) i.literals) place)) _ (and_from (is_instance P (clause_at σ i)) (is_opposite (literal_by σ g.literal) (slice_get (map (literal_by σ) i.literals) place)) inst opp)
    ∙ (λ m. Some (record {
      open_goals = (ap (λ xs. xs ++ map (goal_at σ) gs) (sym image) ∙ sym (map-append (goal_at σ) new gs)) m;
      all_goals = (ap (λ xs. map (goal_at σ) every ++ xs) (sym image) ∙ sym (map-append (goal_at σ) every new)) m;
      depths = ds ++ long m ∷ [];
    }))
  where
    long : length (map (literal_by σ) g.path) ≡ length g.path
    long = length-map g.path (literal_by σ)

pub state-extended : (P : Problem) (d : ℕ) (c : List Choice) (old new : Store) (cs : List CellChoice) (g : CellGoal) (gs every : List CellGoal) (ds : List ℕ) (sides : List Side) (t : Template) (i : CellClause) (place : ℕ) → IsStateOf P d c (state_at old cs g gs every ds) → IsTrue (nat_lt (length g.path) d) → IsTemplateOf P sides t → IsExtended old new sides t i g.literal place → IsStateOf P d (c ++ extension sides place ∷ []) (extended_state new cs g gs every ds i place)
state-extended P d c old new cs g gs every ds sides t i place h near tm k = record {
  names = map-append name_of cs (extension i place ∷ []) ∙ ap₂ (λ xs ss. xs ++ extension ss place ∷ []) h.names k.selection;
  within = all-append (λ n. nat_lt n d) ds (length g.path ∷ []) h.within (and_from (nat_lt (length g.path) d) true near refl);
  cells = record {
    choices = all-append (choice_is_below m) cs (extension i place ∷ []) (all-weaken (choice_is_below n) (choice_is_below m) (choice-more n m k.longer) cs h.cells.choices) (and_from (clause_is_below m i) true k.names refl);
    open_goals = all-append (goal_is_below m) (new_cell_goals g i place) gs new_below (goals-more n m k.longer gs opened.1);
    all_goals = all-append (goal_is_below m) every (new_cell_goals g i place) (goals-more n m k.longer every h.cells.all_goals) new_below;
  };
  sound = sound;
  complete = complete;
}
  where
    n : ℕ
    n = length old.cells

    m : ℕ
    m = length new.cells

    opened : IsTrue (goal_is_below n g) × IsTrue (list_all (goal_is_below n) gs)
    opened = and_parts (goal_is_below n g) (list_all (goal_is_below n) gs) h.cells.open_goals

    here : IsTrue (goal_is_below m g)
    here = goal-more n m k.longer g opened.0

    new_below : IsTrue (list_all (goal_is_below m) (new_cell_goals g i place))
    new_below = goals-below m (g.literal ∷ g.path) (remove i.literals place) here (all-remove (atom_is_below m) i.literals place (and_parts (names_below m i.values) (list_all (atom_is_below m) i.literals) k.names).1)

    sound : (σ : Solution) → IsGround P (extended_state new cs g gs every ds i place) σ → growth_of P (map (choice_at σ) (cs ++ extension i place ∷ [])) ≡ Some (growth_at σ (extended g gs i place (record { open_goals = g ∷ gs; all_goals = every; depths = ds })))
    sound σ q =
        let b = k.back σ q.solves in
        let a = admitted-all P σ cs (extension i place) q.admitted in
        let inst = instance-at P sides t tm σ i k.selection b.1 b.2 a.1 in
        ap (growth_of P) (map-append (choice_at σ) cs (extension i place ∷ []))
        ∙ growth-last P (map (choice_at σ) cs) (extension (clause_at σ i) place) _ (h.sound σ (record { solves = b.0; admitted = a.0 }))
        ∙ extension-grown P σ g gs every ds i place inst b.3

    opposite-at : (σ : Solution) (j : ClauseInstance) (y : Growth) → grow_once P (extension j place) (growth_at σ (record { open_goals = g ∷ gs; all_goals = every; depths = ds })) ≡ Some y → IsTrue (is_instance P j) × IsTrue (is_opposite (literal_by σ g.literal) (slice_get j.literals place))
    opposite-at σ j y e = and_parts (is_instance P j) (is_opposite (literal_by σ g.literal) (slice_get j.literals place)) (if-some (is_instance P j && is_opposite (literal_by σ g.literal) (slice_get j.literals place)) _ y e).0

    complete : (hs : List GroundChoice) (y : Growth) → choices_of hs ≡ c ++ extension sides place ∷ [] → growth_of P hs ≡ Some y → (τ : Solution) × IsGround P (extended_state new cs g gs every ds i place) τ × (map (choice_at τ) (cs ++ extension i place ∷ []) ≡ hs)
    complete hs y e gr =
        let l = last-at P d c (state_at old cs g gs every ds) (extension sides place) h refl hs y e gr in
        let σ = l.solution in
        let (j, is, selected) = extension-of l.last sides place l.last_name in
        let p = opposite-at σ j y (ap (λ b. grow_once P b (growth_at σ (record { open_goals = g ∷ gs; all_goals = every; depths = ds }))) (sym is) ∙ l.grown) in
        let b = by-template P sides t tm j selected p.0 in
        let (τ, s, agree, v) = k.forth σ l.ground.solves j.values b.sorts (subst (λ xs. IsTrue (is_opposite (literal_by σ g.literal) (slice_get xs place))) b.literals p.1) in
        let back = k.back τ s in
        let found = clause-found P sides t τ i j k.selection selected v back.2 b.literals in
        let before = choices-agree n σ τ agree cs h.cells.choices in (
          τ,
          record { solves = s; admitted = admitted-join P τ cs (extension i place) (admitted-agree P n σ τ agree cs h.cells.choices l.ground.admitted) (subst (λ vs. IsTrue (is_choice_of_values P vs)) (sym v) b.admitted) },
          map-append (choice_at τ) cs (extension i place ∷ []) ∙ ap₂ (λ xs z. xs ++ z ∷ []) (sym before) (ap (λ z. extension z place) found ∙ sym is) ∙ sym l.is_list,
        )

-- where no values make the literal opposite, no tree takes this extension
pub no-extension : (P : Problem) (d : ℕ) (c : List Choice) (s : Store) (cs : List CellChoice) (g : CellGoal) (gs every : List CellGoal) (ds : List ℕ) (sides : List Side) (t : Template) (place : ℕ) → IsStateOf P d c (state_at s cs g gs every ds) → IsTemplateOf P sides t → CannotExtend s t g.literal place → ¬ Grows P (c ++ extension sides place ∷ [])
no-extension P d c s cs g gs every ds sides t place h tm k (hs, y, e, gr) =
    let l = last-at P d c (state_at s cs g gs every ds) (extension sides place) h refl hs y e gr in
    let σ = l.solution in
    let (j, is, selected) = extension-of l.last sides place l.last_name in
    let p = opposite-at σ j (ap (λ b. grow_once P b (growth_at σ (record { open_goals = g ∷ gs; all_goals = every; depths = ds }))) (sym is) ∙ l.grown) in
    let b = by-template P sides t tm j selected p.0 in
    k σ l.ground.solves j.values b.sorts (subst (λ xs. IsTrue (is_opposite (literal_by σ g.literal) (slice_get xs place))) b.literals p.1)
  where
    opposite-at : (σ : Solution) (j : ClauseInstance) → grow_once P (extension j place) (growth_at σ (record { open_goals = g ∷ gs; all_goals = every; depths = ds })) ≡ Some y → IsTrue (is_instance P j) × IsTrue (is_opposite (literal_by σ g.literal) (slice_get j.literals place))
    opposite-at σ j e = and_parts (is_instance P j) (is_opposite (literal_by σ g.literal) (slice_get j.literals place)) (if-some (is_instance P j && is_opposite (literal_by σ g.literal) (slice_get j.literals place)) _ y e).0

-- ---- reduction

pub state-reduced : (P : Problem) (d : ℕ) (c : List Choice) (old new : Store) (cs : List CellChoice) (g : CellGoal) (gs every : List CellGoal) (ds : List ℕ) (up : ℕ) → IsStateOf P d c (state_at old cs g gs every ds) → IsReduced old new g up → IsStateOf P d (c ++ reduction up ∷ []) (reduced_state new cs gs every ds up)
state-reduced P d c old new cs g gs every ds up h k = record {
  names = map-append name_of cs (reduction up ∷ []) ∙ ap (λ xs. xs ++ reduction up ∷ []) h.names;
  within = h.within;
  cells = record {
    choices = all-append (choice_is_below m) cs (reduction up ∷ []) (all-weaken (choice_is_below n) (choice_is_below m) (choice-more n m more) cs h.cells.choices) refl;
    open_goals = goals-more n m more gs (and_parts (goal_is_below n g) (list_all (goal_is_below n) gs) h.cells.open_goals).1;
    all_goals = goals-more n m more every h.cells.all_goals;
  };
  sound = λ σ q.
      let b = k.back σ q.solves in
      let a = admitted-all P σ cs (reduction up) q.admitted in
      ap (growth_of P) (map-append (choice_at σ) cs (reduction up ∷ []))
      ∙ growth-last P (map (choice_at σ) cs) (reduction up) _ (h.sound σ (record { solves = b.0; admitted = a.0 }))
      ∙ if-true (is_opposite (literal_by σ g.literal) (ancestor (map (literal_by σ) g.path) up)) _ b.1;
  complete = λ hs y e gr.
      let l = last-at P d c (state_at old cs g gs every ds) (reduction up) h refl hs y e gr in
      let σ = l.solution in
      let is = reduction-of l.last up l.last_name in
      let p = (if-some (is_opposite (literal_by σ g.literal) (ancestor (map (literal_by σ) g.path) up)) _ y (ap (λ b. grow_once P b (growth_at σ (record { open_goals = g ∷ gs; all_goals = every; depths = ds }))) (sym is) ∙ l.grown)).0 in (
        σ,
        record { solves = k.forth σ l.ground.solves p; admitted = admitted-join P σ cs (reduction up) l.ground.admitted tt },
        map-append (choice_at σ) cs (reduction up ∷ []) ∙ ap (λ z. map (choice_at σ) cs ++ z ∷ []) (sym is) ∙ sym l.is_list,
      );
}
  where
    n : ℕ
    n = length old.cells

    m : ℕ
    m = length new.cells

    more : n ≤ m
    more = let e = k.size in omega (arith, e)

-- where no solution makes the ancestor opposite, no tree takes this reduction
pub no-reduction : (P : Problem) (d : ℕ) (c : List Choice) (s : Store) (cs : List CellChoice) (g : CellGoal) (gs every : List CellGoal) (ds : List ℕ) (up : ℕ) → IsStateOf P d c (state_at s cs g gs every ds) → CannotReduce s g up → ¬ Grows P (c ++ reduction up ∷ [])
no-reduction P d c s cs g gs every ds up h k (hs, y, e, gr) =
    let l = last-at P d c (state_at s cs g gs every ds) (reduction up) h refl hs y e gr in
    let σ = l.solution in
    let is = reduction-of l.last up l.last_name in
    k σ l.ground.solves (if-some (is_opposite (literal_by σ g.literal) (ancestor (map (literal_by σ) g.path) up)) _ y (ap (λ b. grow_once P b (growth_at σ (record { open_goals = g ∷ gs; all_goals = every; depths = ds }))) (sym is) ∙ l.grown)).0
