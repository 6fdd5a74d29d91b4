-- A state of the search with its system, and what starts, reductions and extensions make of it.
use Rattle.std.proofs.Common.{◌≡◌, ◌<◌, ◌≤◌, ◌+◌, ℕ, zero, suc, List, [], ◌∷◌, ◌++◌, length, map, Bool, true, false, not, ◌&&◌, ◌==◌, IsTrue, refl, sym, ◌∙◌, ap, subst, None, Some, slice_get, arith, append-nil, nat_le, nat_lt}
use Rattle.std.specs.Prelude.{Contains, remove}
use Rattle.std.specs.List.{AllByRecursion, list_all, list_any}
use Rattle.std.proofs.lemmas.Bool.{and_from, and_parts}
use Rattle.plain_laws.proofs.Every.{all-at, all-append, each-append, all-weaken}
use Rattle.plain_laws.proofs.Places.{get-within}
use Rattle.store_theory.proofs.PatternLaws.{length-variables}
use Rattle.store_theory.specs.Bindings.{AddsBuilt, AddsOver, BindsOnly, IsWellFormed, NamesFrom, NamesOver, nothing_more, one_more, places_from, with_cell, with_variables_of}
use Rattle.calculus.specs.Choices.{Choice, IsLeft, IsLive, extension, growth_of, has_depth, is_opposite, is_regular, is_within, reduction, start}
use Rattle.calculus.specs.ComputedInstances.{is_instance}
use Rattle.calculus.specs.Equality.{sign_eq}
use Rattle.store_theory.specs.Patterns.{AreAtomCopies, AreCopies, AreGammaCopies, CopiedClause, HaveSortsAt, IsClauseCopy, PatternAtom, Template, patterns_tree, template_fits, atom_is_from, clause_fits, clause_is_from, gamma_is_from, without_literal}
use Rattle.store_theory.specs.Stores.{GammaCell, Solution, Solves, Store, has_sort_at, has_value_sort_at, is_store, names_below, variable}
use Rattle.calculus.specs.Syntax.{Problem}
use Rattle.store_theory.specs.Systems.{CellAtom, System, cells_of, is_cell_atom, is_equation, is_gamma_cell, is_label, is_system}
use Rattle.store_theory.specs.Templates.{IsTemplateOf, have_sorts}
use Rattle.calculus.specs.declared.sign.Side.{Side}
use Rattle.calculus.specs.declared.sort.Sort.{Sort}
use Rattle.calculus.specs.declared.sort.Sort.TheVariants.{TermSort, MarkSort, StringSort}
use Rattle.store_theory.proofs.BindingLaws.{is_store-with_cell}
use Rattle.calculus.proofs.GrowthLaws.{on-some}
use Rattle.store_theory.proofs.SolutionLaws.{some_solution}
use Rattle.search_theory.specs.Matrix.{MatrixClause, all_shown}
use Rattle.search_theory.specs.Regular.{HasNoSamePair}
use Rattle.search_theory.specs.StateSystems.{Brings, extended_system, pairs_of, reduced_system, started_system, string_cells}
use Rattle.search_theory.specs.States.{CellChoice, CellClause, CellGoal, IsGround, IsStateOf, State, choice_at, clause_at, cell_goals_on, growth_at, literal_by, new_cell_goals, values_by}
use Rattle.search_theory.specs.Steps.{AreUnified, Clash, IsExtended, IsFreshClause, IsReduced, IsRestCopy}
use Rattle.search_theory.specs.CellsIn.{IsAtomIn, IsChoiceIn, IsGoalIn}
use Rattle.search_theory.proofs.BelowLaws.{all-remove}
use Rattle.search_theory.proofs.BringsLaws.{brings-by_template, uses-built}
use Rattle.search_theory.proofs.BuildingLaws.{AreStores, AreValueCells, adds-longer, built-label, copy-by_cells, is_value_cell, is_variable_sort, rest-by_cells, solved-valued, value-cell}
use Rattle.search_theory.proofs.DistinctLaws.{AreDistinct}
use Rattle.search_theory.proofs.ExtensionLaws.{extended_state, no-extension, no-reduction, reduced_state, state-extended, state-reduced, state_at}
use Rattle.search_theory.proofs.LabelledEnd.{admitted-good}
use Rattle.search_theory.proofs.LeftLabels.{regular-by_distinct}
use Rattle.search_theory.proofs.MeetingLaws.{cannot-reduce-by_clash, reduced-by_unifying}
use Rattle.search_theory.proofs.RankLaws.{rank_of}
use Rattle.search_theory.proofs.RegularLaws.{each-at}
use Rattle.search_theory.proofs.StageLaws.{inserted}
use Rattle.search_theory.proofs.StepLaws.{admitted-all, instance-at, live-state, start_state, state-started}
use Rattle.search_theory.specs.DeadEnds.{Grows}
use Rattle.search_theory.proofs.SystemLaws.{tree-by_state}
use Rattle.search_theory.proofs.SystemSteps.{pairs-append, pairs-none, system-extended, system-reduced, system-started}
use Rattle.search_theory.proofs.VariableSorts.{sorts-kept, strings-sorted}
use Rattle.term_store.specs.Fitting.{atom_fits_in, label_fits_in, parts_fit_in}
use Rattle.term_store.specs.Signatures.{BuildsWithin, allows_all, allows_atom, allows_template}
use Rattle.term_store.proofs.FitLaws.{have-new, literals-fit, placed-atoms}
use Rattle.term_store.proofs.OwnLaws.{names-variables, places-own}
use Rattle.term_store.proofs.SignatureLaws.{within-variables}
use Rattle.term_unify.specs.Matching.{HoldsNowhere, MatchTo, Narrows}
pub use Rattle.search_tree.specs.MetAtom.{HeadMatched, met_atom}
use Rattle.search_tree.specs.OwnStores.{AreOwn}
use Rattle.search_tree.specs.Running.{IsMatrixOf, IsRunning}
use Rattle.search_tree.proofs.DistinctStores.{distinct-own, well-ranked}
use Rattle.search_tree.proofs.KeptLaws.{KeepsSorts, args-from, atom-in, atom-there, atoms-equation, atoms-in, choices_in-kept, clause-in, clause-there, goal_in-kept, goals_in-kept, goals_in-on, is_equation_from, label-from, system-added, terms-kept, variables-valued, with_added}
use Rattle.search_tree.proofs.MatchingLaws.{IsHeadMatch, cannot-extend-by_mismatch, extended-by_match, head-matched, head-mismatched, rest-with_head}
use Rattle.search_tree.proofs.OpenVariables.{variables-extended, variables-reduced, variables-started}
use Rattle.search_tree.proofs.OpenStrings.{AreNamed, KeepsCells, cells-built, cells-copied, named-bound, named-built, named-none, named-variables, sorts-both, sorts-of_bound, sorts-of_cells}
use Rattle.search_tree.proofs.OwnCopies.{Allowed, IsOwnTemplate, own_signature, allowed-head, allowed-rest, allowed-whole, own-copied, template-own}
use Rattle.search_tree.proofs.OwnLaws.{own-binds, own-names, own-none}

-- ---- reductions

goal-in : (P : Problem) (base d : ℕ) (c : List Choice) (s : Store) (cs : List CellChoice) (g : CellGoal) (gs every : List CellGoal) (ds : List ℕ) (y : System) → IsRunning P base d c (state_at s cs g gs every ds) y → IsGoalIn (λ r. base ≤ r) s g
goal-in P base d c s cs g gs every ds y h = h.open_goals.0

labels-added : (base : ℕ) (s : Store) (a b : CellAtom) → IsAtomIn (λ r. base ≤ r) s a → IsAtomIn (λ r. base ≤ r) s b → IsTrue (list_all (is_equation s) (record { left = a.label; right = b.label } ∷ [])) × IsTrue (list_all (is_equation_from base) (record { left = a.label; right = b.label } ∷ []))
labels-added base s a b h k = (
  and_from (is_equation s (record { left = a.label; right = b.label })) true (atoms-equation s a b h.sorted k.sorted) refl,
  and_from (is_equation_from base (record { left = a.label; right = b.label })) true (all-append (nat_le base) a.label b.label (label-from base s a h) (label-from base s b k)) refl,
)

reduced-added : (y : System) (g : CellAtom) (a : CellAtom) (every : List CellGoal) → y.pairs ≡ pairs_of every → reduced_system y g a ≡ with_added y (record { left = g.label; right = a.label } ∷ []) [] [] y.pis (pairs_of every)
reduced-added y g a every e = λ i. record {
  equations = y.equations ++ record { left = g.label; right = a.label } ∷ [];
  strings = sym (append-nil y.strings) i;
  pis = y.pis;
  gammas = sym (append-nil y.gammas) i;
  pairs = e i;
}

pub running-reduced : (P : Problem) (base d : ℕ) (c : List Choice) (old new : Store) (cs : List CellChoice) (g : CellGoal) (gs every : List CellGoal) (ds : List ℕ) (k : ℕ) (a : CellAtom) (y : System) → IsRunning P base d c (state_at old cs g gs every ds) y → slice_get g.path k ≡ Some a → IsTrue (not (sign_eq g.literal.sign a.sign)) → g.literal.symbol ≡ a.symbol → AreUnified old new g.literal.args a.args → BindsOnly old new → NamesFrom base new → IsWellFormed new → IsRunning P base d (c ++ reduction (suc k) ∷ []) (reduced_state new cs gs every ds (suc k)) (reduced_system y g.literal a)
running-reduced P base d c old new cs g gs every ds k a y h at sign symbol unified binds names well = record {
  state = state-reduced P d c old new cs g gs every ds (suc k) h.state met;
  well = well;
  from = (let l = h.from in let s = binds.same_length in omega (arith, l, s));
  own = own-binds P base old new h.well.fits binds names h.own;
  choices = each-append (IsChoiceIn (λ r. base ≤ r) new) cs (reduction (suc k) ∷ []) (choices_in-kept (λ r. base ≤ r) old new kept cs h.choices) (tt, tt);
  open_goals = goals_in-kept (λ r. base ≤ r) old new kept gs h.open_goals.1;
  goals = goals;
  system = system-reduced P d c old new cs g gs every ds k a y (tree-by_state P d c (state_at old cs g gs every ds) h.state) h.system met at (subst (λ z. IsTrue (is_system new z)) (sym same) added.0);
  cells = subst (λ z. IsTrue (list_all (nat_le base) (cells_of z))) (sym same) added.1;
  strings = named-bound base old new y.strings binds h.strings;
  variables = variables-reduced base old new cs (suc k) binds h.variables;
}
  where
    met : IsReduced old new g (suc k)
    met = reduced-by_unifying old new g a k at sign symbol unified

    kept : KeepsSorts old new
    kept = sorts-of_bound old new binds

    goals : AllByRecursion (IsGoalIn (λ r. base ≤ r) new) every
    goals = goals_in-kept (λ r. base ≤ r) old new kept every h.goals

    here : IsGoalIn (λ r. base ≤ r) new g
    here = goal_in-kept (λ r. base ≤ r) old new kept g (goal-in P base d c old cs g gs every ds y h)

    labels : IsTrue (list_all (is_equation new) (record { left = g.literal.label; right = a.label } ∷ [])) × IsTrue (list_all (is_equation_from base) (record { left = g.literal.label; right = a.label } ∷ []))
    labels = labels-added base new g.literal a here.literal (each-at (IsAtomIn (λ r. base ≤ r) new) g.path k a here.path at)

    same : reduced_system y g.literal a ≡ with_added y (record { left = g.literal.label; right = a.label } ∷ []) [] [] y.pis (pairs_of every)
    same = reduced-added y g.literal a every h.system.pairs

    added : IsTrue (is_system new (with_added y (record { left = g.literal.label; right = a.label } ∷ []) [] [] y.pis (pairs_of every))) × IsTrue (list_all (nat_le base) (cells_of (with_added y (record { left = g.literal.label; right = a.label } ∷ []) [] [] y.pis (pairs_of every))))
    added = system-added base old new y (record { left = g.literal.label; right = a.label } ∷ []) [] [] y.pis every kept h.system.well h.cells (record { equations_fit = labels.0; equations_from = labels.1; strings_fit = refl; strings_from = refl; gammas_fit = refl; gammas_from = refl }) goals

pub no-reduction-by_clash : (P : Problem) (base d : ℕ) (c : List Choice) (s : Store) (cs : List CellChoice) (g : CellGoal) (gs every : List CellGoal) (ds : List ℕ) (k : ℕ) (a : CellAtom) (y : System) → IsRunning P base d c (state_at s cs g gs every ds) y → slice_get g.path k ≡ Some a → Clash s g.literal.args a.args → ¬ Grows P (c ++ reduction (suc k) ∷ [])
no-reduction-by_clash P base d c s cs g gs every ds k a y h at clash = no-reduction P d c s cs g gs every ds (suc k) h.state (cannot-reduce-by_clash s g a k at clash)

-- ---- stores that are copied

stores-of : (sorts : List Sort) (s : Store) → IsTrue (is_store s) → AreStores sorts s
stores-of [] s h = h
stores-of (sort ∷ sorts) s h = (h, stores-of sorts (with_cell (variable sort None) s) (is_store-with_cell (variable sort None) s h refl refl))

-- before the built cells, and behind them
store-before : (s t : Store) → AddsBuilt s t → IsTrue (is_store t) → IsTrue (is_store s)
store-before s _ nothing_more h = h
store-before s t (one_more c i f b rest) h = i

-- ---- clauses

-- the parts of a copied clause
record ClauseParts (base : ℕ) (s : Store) (clause : CopiedClause) : Type 0 where
  pub literals : IsTrue (list_all (is_cell_atom s) clause.literals)
  pub gammas : IsTrue (list_all (is_gamma_cell s) clause.gammas)
  pub literals_from : IsTrue (list_all (atom_is_from base) clause.literals)
  pub gammas_from : IsTrue (list_all (gamma_is_from base) clause.gammas)

clause-parts : (base : ℕ) (s : Store) (clause : CopiedClause) → IsTrue (clause_fits s clause) → IsTrue (clause_is_from base clause) → ClauseParts base s clause
clause-parts base s clause h k =
    let a = and_parts (list_all (is_cell_atom s) clause.literals && list_all (has_sort_at s StringSort) clause.strings) (list_all (is_gamma_cell s) clause.gammas) h in
    let b = and_parts (list_all (is_cell_atom s) clause.literals) (list_all (has_sort_at s StringSort) clause.strings) a.0 in
    let m = and_parts (list_all (atom_is_from base) clause.literals && list_all (nat_le base) clause.strings) (list_all (gamma_is_from base) clause.gammas) k in
    let n = and_parts (list_all (atom_is_from base) clause.literals) (list_all (nat_le base) clause.strings) m.0 in
    record { literals = b.0; gammas = a.1; literals_from = n.0; gammas_from = m.1 }

-- the strings among the clause's variables
strings-from : (base : ℕ) (sorts : List Sort) (rs : List ℕ) → IsTrue (list_all (nat_le base) rs) → IsTrue (list_all (nat_le base) (string_cells sorts rs))
strings-from base [] rs h = refl
strings-from base (sort ∷ sorts) [] h = refl
strings-from base (sort ∷ sorts) (r ∷ rs) h =
    let w = and_parts (nat_le base r) (list_all (nat_le base) rs) h in
    by sort w.0 (strings-from base sorts rs w.1)
  where
    by : (x : Sort) → IsTrue (nat_le base r) → IsTrue (list_all (nat_le base) (string_cells sorts rs)) → IsTrue (list_all (nat_le base) (string_cells (x ∷ sorts) (r ∷ rs)))
    by TermSort a b = b
    by MarkSort a b = b
    by StringSort a b = and_from (nat_le base r) (list_all (nat_le base) (string_cells sorts rs)) a b

value-cells : (s : Store) (σ : Solution) → Solves s σ → (rs : List ℕ) → IsTrue (list_all (has_value_sort_at s) rs) → AreValueCells σ rs
value-cells s σ h = all-weaken (has_value_sort_at s) (λ r. is_value_cell (σ r)) (λ r k. value-cell (σ r) (solved-valued s σ h r k))

-- what a clause over these variables brings
clause-brings : (P : Problem) (s : Store) (sides : List Side) (t : Template) (i : CellClause) (gammas : List GammaCell) → IsTemplateOf P sides t → i.selection ≡ sides → HaveSortsAt s t.sorts i.values → IsTrue (list_all is_variable_sort t.sorts) → ((σ : Solution) → Solves s σ → IsTrue (have_sorts t.sorts (values_by σ i.values))) → AreGammaCopies s i.values t.gammas gammas → IsTrue (list_all (is_gamma_cell s) gammas) → Brings P s i (string_cells t.sorts i.values) gammas t.pis
clause-brings P s sides t i gammas template selection have sorts values copies fit =
    brings-by_template P s sides t i gammas template selection values
    (λ σ h. uses-built s σ h i.values (value-cells s σ h i.values (variables-valued s t.sorts i.values have sorts)) t.gammas gammas fit copies)
    (strings-sorted s t.sorts i.values have) fit

-- ---- extensions

-- what copying the label of the connected literal and the other literals gives
pub record RestCopied (met new : Store) (t : Template) (place : ℕ) (vs : List ℕ) (p : PatternAtom) (label : List ℕ) (clause : CopiedClause) : Type 0 where
  pub copy : IsClauseCopy new vs (without_literal place t) clause
  pub sorted : IsTrue (clause_fits new clause)
  pub own : NamesOver vs (length met.cells) (λ base. clause_is_from base clause)
  pub label_copy : AreCopies new vs (patterns_tree p.label) label
  pub label_sorted : IsTrue (is_label new label)
  pub label_own : NamesOver vs (length met.cells) (λ base. list_all (nat_le base) label)
  pub adds : AddsOver vs met new
  pub within : BuildsWithin (λ g. allows_all g t.sorts (patterns_tree p.label) && allows_template g (without_literal place t)) met new

all-inserted : (q : CellAtom → Bool) (place : ℕ) (a : CellAtom) (xs : List CellAtom) → IsTrue (q a) → IsTrue (list_all q xs) → IsTrue (list_all q (inserted place a xs))
all-inserted q zero a xs h k = and_from (q a) (list_all q xs) h k
all-inserted q (suc n) a [] h k = and_from (q a) true h refl
all-inserted q (suc n) a (x ∷ xs) h k =
    let w = and_parts (q x) (list_all q xs) k in
    and_from (q x) (list_all q (inserted n a xs)) w.0 (all-inserted q n a xs h w.1)

inserted-at : (place : ℕ) (a : CellAtom) (xs : List CellAtom) → place ≤ length xs → slice_get (inserted place a xs) place ≡ Some a
inserted-at zero a xs l = refl
inserted-at (suc n) a [] l = absurd (omega (arith, l))
inserted-at (suc n) a (x ∷ xs) l = inserted-at n a xs (omega (arith, l))

-- how many other literals there are
copies-count : (s : Store) (vs : List ℕ) (ps : List PatternAtom) (xs : List CellAtom) → AreAtomCopies s vs ps xs → length xs ≡ length ps
copies-count s vs [] xs h = ap length h
copies-count s vs (p ∷ ps) xs (x, ys, e, copy, rest) = ap length e ∙ ap suc (copies-count s vs ps ys rest)

removed-count : (ps : List PatternAtom) (k : ℕ) → k < length ps → suc (length (remove ps k)) ≡ length ps
removed-count [] k l = absurd (omega (arith, l))
removed-count (p ∷ ps) zero l = refl
removed-count (p ∷ ps) (suc k) l = ap suc (removed-count ps k (omega (arith, l)))

pub others-room : (s : Store) (vs : List ℕ) (ps : List PatternAtom) (xs : List CellAtom) (k : ℕ) → AreAtomCopies s vs (remove ps k) xs → k < length ps → k ≤ length xs
others-room s vs ps xs k h l =
    let a = copies-count s vs (remove ps k) xs h in
    let b = removed-count ps k l in
    omega (arith, a, b, l)

-- what holds of a store with the template's variables
record Begun (old : Store) (t : Template) (p : PatternAtom) (args : List ℕ) : Type 0 where
  stores : AreStores t.sorts old
  values : IsTrue (list_all (has_value_sort_at (with_variables_of t.sorts old)) (places_from (length old.cells) (length t.sorts)))
  fits : IsTrue (parts_fit_in (with_variables_of t.sorts old) (places_from (length old.cells) (length t.sorts)) TermSort false (patterns_tree p.args))
  sorted : IsTrue (list_all (has_sort_at (with_variables_of t.sorts old) TermSort) args)
  below : IsTrue (names_below (length old.cells) args)

begun : (old : Store) (t : Template) (place : ℕ) (p : PatternAtom) (a : CellAtom) → IsTrue (is_store old) → IsTrue (list_all is_variable_sort t.sorts) → IsTrue (template_fits t) → slice_get t.literals place ≡ Some p → IsTrue (is_cell_atom old a) → Begun old t p a.args
begun old t place p a w k fits at sorted =
    let new = with_variables_of t.sorts old in
    let places = places_from (length old.cells) (length t.sorts) in
    let have = have-new places t.sorts old new refl refl in
    let atom = all-at (atom_fits_in new places) t.literals place p (placed-atoms new places t.sorts have t.literals (literals-fit t fits)) at in
    record {
      stores = stores-of t.sorts old w;
      values = variables-valued new t.sorts places have k;
      fits = (and_parts (parts_fit_in new places TermSort false (patterns_tree p.args)) (label_fits_in new places p.label) atom).0;
      sorted = terms-kept old new (sorts-of_cells old new (cells-copied t.sorts old new nothing_more)) a.args (and_parts (list_all (has_sort_at old TermSort) a.args) (is_label old a.label) sorted).0;
      below = (and_parts (names_below (length old.cells) a.args) (names_below (length old.cells) a.label) (atom-there old a sorted)).0;
    }

head-met : (old met : Store) (t : Template) (place : ℕ) (vs : List ℕ) (p : PatternAtom) (args : List ℕ) → IsTrue (list_all is_variable_sort t.sorts) → Begun old t p args → HeadMatched old met t place vs p args → IsHeadMatch old met t vs p args
head-met old met t place vs p args k b h =
    subst (λ v. IsHeadMatch old met t v p args) (sym h.variables) (head-matched old met t p args b.stores k b.values b.fits b.sorted b.below (subst (λ v. Narrows (λ σ. (length args ≡ length p.args) × MatchTo v args p.args (length p.args) σ) (with_variables_of t.sorts old) met) h.variables h.narrows))

-- the same for the leftmost open goal
pub head-match : (P : Problem) (base d : ℕ) (c : List Choice) (old met : Store) (cs : List CellChoice) (g : CellGoal) (gs every : List CellGoal) (ds : List ℕ) (sides : List Side) (t : Template) (place : ℕ) (vs : List ℕ) (p : PatternAtom) (y : System) → IsRunning P base d c (state_at old cs g gs every ds) y → IsTemplateOf P sides t → IsTrue (list_all is_variable_sort t.sorts) → HeadMatched old met t place vs p g.literal.args → IsHeadMatch old met t vs p g.literal.args
head-match P base d c old met cs g gs every ds sides t place vs p y h template sorts head = head-met old met t place vs p g.literal.args sorts (begun old t place p g.literal h.well.fits sorts template.fits head.stands (goal-in P base d c old cs g gs every ds y h).literal.sorted) head

-- where the connected literal cannot be matched, no tree follows the extension
pub no-extension-by_mismatch : (P : Problem) (base d : ℕ) (c : List Choice) (old : Store) (cs : List CellChoice) (g : CellGoal) (gs every : List CellGoal) (ds : List ℕ) (sides : List Side) (t : Template) (place : ℕ) (p : PatternAtom) (y : System) → IsRunning P base d c (state_at old cs g gs every ds) y → IsTemplateOf P sides t → IsTrue (list_all is_variable_sort t.sorts) → slice_get t.literals place ≡ Some p → HoldsNowhere (λ σ. (length g.literal.args ≡ length p.args) × MatchTo (places_from (length old.cells) (length t.sorts)) g.literal.args p.args (length p.args) σ) (with_variables_of t.sorts old) → ¬ Grows P (c ++ extension sides place ∷ [])
no-extension-by_mismatch P base d c old cs g gs every ds sides t place p y h template sorts at none =
    let b = begun old t place p g.literal h.well.fits sorts template.fits at (goal-in P base d c old cs g gs every ds y h).literal.sorted in
    no-extension P d c old cs g gs every ds sides t place h.state template (cannot-extend-by_mismatch old t g.literal p place at (head-mismatched old t p g.literal.args b.stores sorts b.values b.fits b.sorted b.below none))

-- the stores of an extension, one after the other
record Stages (P : Problem) (base : ℕ) (old met new : Store) (t : Template) (vs strings : List ℕ) : Type 0 where
  from : base ≤ length met.cells
  longer : base ≤ length new.cells
  variables : IsTrue (list_all (nat_le base) vs)
  own : AreOwn P base new
  have : HaveSortsAt new t.sorts vs
  kept : KeepsSorts old new
  named : AreNamed base new (strings ++ string_cells t.sorts vs)

stages : (P : Problem) (base : ℕ) (old met new : Store) (t : Template) (place : ℕ) (vs xs strings label : List ℕ) (p : PatternAtom) (clause : CopiedClause) → IsTrue (is_store old) → base ≤ length old.cells → AreOwn P base old → AreNamed base old strings → IsTrue (list_all (nat_le base) xs) → Allowed P t → HeadMatched old met t place vs p xs → RestCopied met new t place vs p label clause → IsTrue (is_store new) → Stages P base old met new t vs strings
stages P base old met new t place vs xs strings label p clause st from own named goal allowed head rest well = record {
  from = base_met;
  longer = (let m = adds-longer met new rest.adds.built in omega (arith, base_met, m));
  variables = variables;
  own = own-copied P base met new (λ g. allows_all g t.sorts (patterns_tree p.label) && allows_template g (without_literal place t)) (store-before met new rest.adds.built well) rest.within (and_from (allows_all (own_signature P) t.sorts (patterns_tree p.label)) (allows_template (own_signature P) (without_literal place t)) atom_allowed.1 (allowed-rest P t place allowed)) (rest.adds.names base base_met variables names_met)
      (own-copied P base old met (λ g. list_all g.sorts t.sorts && allows_all g t.sorts (patterns_tree p.args)) st within_met (and_from (list_all (own_signature P).sorts t.sorts) (allows_all (own_signature P) t.sorts (patterns_tree p.args)) head_allowed.0 atom_allowed.0) names_met own);
  have = sorts-kept begun_store new behind t.sorts vs have_begun;
  kept = sorts-both old begun_store new (sorts-of_cells old begun_store kept_begun) behind;
  named = named-built base met new (strings ++ string_cells t.sorts vs) rest.adds.built
      (named-bound base head.cells.mid met (strings ++ string_cells t.sorts vs) head.cells.binds
      (named-built base begun_store head.cells.mid (strings ++ string_cells t.sorts vs) head.cells.built
      (named-variables base t.sorts old strings vs head.variables named)));
}
  where
    begun_store : Store
    begun_store = with_variables_of t.sorts old

    head_allowed : IsTrue (list_all (own_signature P).sorts t.sorts) × IsTrue (allows_atom (own_signature P) t.sorts p)
    head_allowed = and_parts (list_all (own_signature P).sorts t.sorts) (allows_atom (own_signature P) t.sorts p) (allowed-head P t place p allowed head.stands)

    atom_allowed : IsTrue (allows_all (own_signature P) t.sorts (patterns_tree p.args)) × IsTrue (allows_all (own_signature P) t.sorts (patterns_tree p.label))
    atom_allowed = and_parts (allows_all (own_signature P) t.sorts (patterns_tree p.args)) (allows_all (own_signature P) t.sorts (patterns_tree p.label)) head_allowed.1

    have_begun : HaveSortsAt begun_store t.sorts vs
    have_begun = have-new vs t.sorts old begun_store refl head.variables

    within_met : BuildsWithin (λ g. list_all g.sorts t.sorts && allows_all g t.sorts (patterns_tree p.args)) old met
    within_met = within-variables (λ g. allows_all g t.sorts (patterns_tree p.args)) t.sorts old begun_store met refl (head.within t.sorts have_begun)

    kept_begun : KeepsCells old begun_store
    kept_begun = cells-copied t.sorts old begun_store nothing_more

    behind : KeepsSorts begun_store new
    behind = sorts-both begun_store met new (sorts-both begun_store head.cells.mid met (sorts-of_cells begun_store head.cells.mid (cells-built begun_store head.cells.mid head.cells.built)) (sorts-of_bound head.cells.mid met head.cells.binds)) (sorts-of_cells met new (cells-built met new rest.adds.built))

    base_begun : base ≤ length begun_store.cells
    base_begun = let v = length-variables t.sorts old in omega (arith, from, v)

    variables : IsTrue (list_all (nat_le base) vs)
    variables = subst (λ v. IsTrue (list_all (nat_le base) v)) (sym head.variables) (places-own base (length old.cells) (length t.sorts) from)

    names_met : NamesFrom base met
    names_met = head.names base base_begun variables goal (names-variables base t.sorts old (own-names P base old own))

    base_met : base ≤ length met.cells
    base_met =
        let a = adds-longer begun_store head.cells.mid head.cells.built in
        let m = head.cells.binds.same_length in
        omega (arith, base_begun, a, m)

extended-added : (y : System) (g : CellGoal) (i : CellClause) (place : ℕ) (b : CellAtom) (strings : List ℕ) (gammas : List GammaCell) (pis : ℕ) (every : List CellGoal) → y.pairs ≡ pairs_of every → extended_system y g i place b strings gammas pis ≡ with_added y (record { left = g.literal.label; right = b.label } ∷ []) strings gammas (y.pis + pis) (pairs_of (every ++ new_cell_goals g i place))
extended-added y g i place b strings gammas pis every e = ap (λ ps. with_added y (record { left = g.literal.label; right = b.label } ∷ []) strings gammas (y.pis + pis) ps) (ap (λ ps. ps ++ pairs_of (new_cell_goals g i place)) e ∙ sym (pairs-append every (new_cell_goals g i place)))

-- the state after an extension
pub running-extended : (P : Problem) (base d : ℕ) (c : List Choice) (old met new : Store) (cs : List CellChoice) (g : CellGoal) (gs every : List CellGoal) (ds : List ℕ) (sides : List Side) (t : Template) (place : ℕ) (vs label : List ℕ) (p : PatternAtom) (clause : CopiedClause) (y : System) → IsRunning P base d c (state_at old cs g gs every ds) y → IsTrue (nat_lt (length g.path) d) → IsTemplateOf P sides t → IsOwnTemplate P t → IsTrue (not (sign_eq g.literal.sign p.sign)) → g.literal.symbol ≡ p.symbol → HeadMatched old met t place vs p g.literal.args → RestCopied met new t place vs p label clause → IsWellFormed new → IsRunning P base d (c ++ extension sides place ∷ []) (extended_state new cs g gs every ds (record { selection = sides; values = vs; literals = inserted place (met_atom p g.literal.args label) clause.literals }) place) (extended_system y g (record { selection = sides; values = vs; literals = inserted place (met_atom p g.literal.args label) clause.literals }) place (met_atom p g.literal.args label) (string_cells t.sorts vs) clause.gammas clause.pis)
running-extended P base d c old met new cs g gs every ds sides t place vs label p clause y h deep template own sign symbol head rest well = record {
  state = state-extended P d c old new cs g gs every ds sides t i place h.state deep template extended;
  well = well;
  from = stage.longer;
  own = stage.own;
  choices = each-append (IsChoiceIn (λ r. base ≤ r) new) cs (extension i place ∷ []) (choices_in-kept (λ r. base ≤ r) old new stage.kept cs h.choices) (clause-in base new i valued stage.variables, tt);
  open_goals = each-append (IsGoalIn (λ r. base ≤ r) new) (new_cell_goals g i place) gs fresh (goals_in-kept (λ r. base ≤ r) old new stage.kept gs h.open_goals.1);
  goals = goals;
  system = system-extended P d c old new cs g gs every ds i place b y (string_cells t.sorts vs) clause.gammas clause.pis (tree-by_state P d c (state_at old cs g gs every ds) h.state) h.system (λ σ s. (extended.back σ s).0) meets (inserted-at place b clause.literals (others-room new vs t.literals clause.literals place rest.copy.literals (get-within t.literals place p head.stands))) brings (subst (λ z. IsTrue (is_system new z)) (sym same) added.0);
  cells = subst (λ z. IsTrue (list_all (nat_le base) (cells_of z))) (sym same) added.1;
  strings = stage.named;
  variables = variables-extended base old head.cells.mid met new cs t.sorts i place head.variables head.cells.built head.cells.binds rest.adds.built h.variables;
}
  where
    b : CellAtom
    b = met_atom p g.literal.args label

    i : CellClause
    i = record { selection = sides; values = vs; literals = inserted place b clause.literals }

    here : IsGoalIn (λ r. base ≤ r) old g
    here = goal-in P base d c old cs g gs every ds y h

    stage : Stages P base old met new t vs y.strings
    stage = stages P base old met new t place vs g.literal.args y.strings label p clause h.well.fits h.from h.own h.strings (args-from base old g.literal here.literal) own.allowed head rest well.fits

    parts : ClauseParts base new clause
    parts = clause-parts base new clause rest.sorted (rest.own base stage.from stage.variables)

    here_new : IsGoalIn (λ r. base ≤ r) new g
    here_new = goal_in-kept (λ r. base ≤ r) old new stage.kept g here

    args_sorted : IsTrue (list_all (has_sort_at new TermSort) g.literal.args)
    args_sorted = (and_parts (list_all (has_sort_at new TermSort) g.literal.args) (is_label new g.literal.label) here_new.literal.sorted).0

    head_in : IsAtomIn (λ r. base ≤ r) new b
    head_in = atom-in base new b (and_from (list_all (has_sort_at new TermSort) g.literal.args) (is_label new label) args_sorted rest.label_sorted) (and_from (list_all (nat_le base) g.literal.args) (list_all (nat_le base) label) (args-from base old g.literal here.literal) (rest.label_own base stage.from stage.variables))

    valued : IsTrue (list_all (has_value_sort_at new) vs)
    valued = variables-valued new t.sorts vs stage.have own.sorts

    sorted : IsTrue (list_all (is_cell_atom new) (inserted place b clause.literals))
    sorted = all-inserted (is_cell_atom new) place b clause.literals head_in.sorted parts.literals

    literals_from : IsTrue (list_all (atom_is_from base) (inserted place b clause.literals))
    literals_from = all-inserted (atom_is_from base) place b clause.literals (and_from (list_all (nat_le base) g.literal.args) (list_all (nat_le base) label) (args-from base old g.literal here.literal) (rest.label_own base stage.from stage.variables)) parts.literals_from

    met_head : IsHeadMatch old met t vs p g.literal.args
    met_head = head-match P base d c old met cs g gs every ds sides t place vs p y h template own.sorts head

    others : CellClause
    others = record { selection = sides; values = vs; literals = clause.literals }

    copied : IsRestCopy met new sides t i
    copied = rest-with_head old met new sides t vs clause.literals p b place met_head head.stands refl refl (λ σ s. built-label new σ s vs (value-cells new σ s vs valued) p.label label rest.label_copy) (clause-there new i valued sorted)
        (rest-by_cells met new sides (without_literal place t) others refl (clause-there new others valued parts.literals) rest.adds.built valued rest.copy.literals)

    extended : IsExtended old new sides t i g.literal place
    extended = extended-by_match old met new sides t i g.literal p place met_head head.stands sign symbol copied

    meets : (σ : Solution) → IsGround P (extended_state new cs g gs every ds i place) σ → IsTrue (is_instance P (clause_at σ i)) × IsTrue (is_opposite (literal_by σ g.literal) (slice_get (map (literal_by σ) i.literals) place))
    meets σ u =
        let x = extended.back σ u.solves in
        (instance-at P sides t template σ i refl x.1 x.2 (admitted-all P σ cs (extension i place) u.admitted).1, x.3)

    brings : Brings P new i (string_cells t.sorts vs) clause.gammas clause.pis
    brings = subst (Brings P new i (string_cells t.sorts vs) clause.gammas) (sym rest.copy.pis) (clause-brings P new sides t i clause.gammas template refl stage.have own.sorts (λ σ s. (extended.back σ s).1) rest.copy.gammas parts.gammas)

    fresh : AllByRecursion (IsGoalIn (λ r. base ≤ r) new) (new_cell_goals g i place)
    fresh = goals_in-on (λ r. base ≤ r) new (g.literal ∷ g.path) (remove i.literals place) (here_new.literal, here_new.path) (atoms-in base new (remove i.literals place) (all-remove (is_cell_atom new) i.literals place sorted) (all-remove (atom_is_from base) i.literals place literals_from))

    goals : AllByRecursion (IsGoalIn (λ r. base ≤ r) new) (every ++ new_cell_goals g i place)
    goals = each-append (IsGoalIn (λ r. base ≤ r) new) every (new_cell_goals g i place) (goals_in-kept (λ r. base ≤ r) old new stage.kept every h.goals) fresh

    labels : IsTrue (list_all (is_equation new) (record { left = g.literal.label; right = b.label } ∷ [])) × IsTrue (list_all (is_equation_from base) (record { left = g.literal.label; right = b.label } ∷ []))
    labels = labels-added base new g.literal b here_new.literal head_in

    same : extended_system y g i place b (string_cells t.sorts vs) clause.gammas clause.pis ≡ with_added y (record { left = g.literal.label; right = b.label } ∷ []) (string_cells t.sorts vs) clause.gammas (y.pis + clause.pis) (pairs_of (every ++ new_cell_goals g i place))
    same = extended-added y g i place b (string_cells t.sorts vs) clause.gammas clause.pis every h.system.pairs

    added : IsTrue (is_system new (with_added y (record { left = g.literal.label; right = b.label } ∷ []) (string_cells t.sorts vs) clause.gammas (y.pis + clause.pis) (pairs_of (every ++ new_cell_goals g i place)))) × IsTrue (list_all (nat_le base) (cells_of (with_added y (record { left = g.literal.label; right = b.label } ∷ []) (string_cells t.sorts vs) clause.gammas (y.pis + clause.pis) (pairs_of (every ++ new_cell_goals g i place)))))
    added = system-added base old new y (record { left = g.literal.label; right = b.label } ∷ []) (string_cells t.sorts vs) clause.gammas (y.pis + clause.pis) (every ++ new_cell_goals g i place) stage.kept h.system.well h.cells (record { equations_fit = labels.0; equations_from = labels.1; strings_fit = strings-sorted new t.sorts vs stage.have; strings_from = strings-from base t.sorts vs stage.variables; gammas_fit = parts.gammas; gammas_from = parts.gammas_from }) goals

-- ---- starts

-- what copying a start clause gives
pub record StartCopied (old new : Store) (t : Template) (vs : List ℕ) (clause : CopiedClause) : Type 0 where
  pub variables : vs ≡ places_from (length old.cells) (length t.sorts)
  pub copy : IsClauseCopy new vs t clause
  pub sorted : IsTrue (clause_fits new clause)
  pub own : IsTrue (clause_is_from (length old.cells) clause)
  pub names : NamesFrom (length old.cells) new
  pub built : AddsBuilt (with_variables_of t.sorts old) new
  pub within : BuildsWithin (λ g. list_all g.sorts t.sorts && allows_template g t) old new

started-added : (literals : List CellAtom) (strings : List ℕ) (gammas : List GammaCell) (pis : ℕ) → started_system strings gammas pis ≡ with_added (started_system [] [] 0) [] strings gammas pis (pairs_of (cell_goals_on [] literals))
started-added literals strings gammas pis = ap (λ ps. with_added (started_system [] [] 0) [] strings gammas pis ps) (sym (pairs-none literals))

-- the state after a start, whose cells are all new
pub running-started : (P : Problem) (d : ℕ) (old new : Store) (sides : List Side) (t : Template) (vs : List ℕ) (clause : CopiedClause) → IsWellFormed old → IsTemplateOf P sides t → IsOwnTemplate P t → IsTrue (all_shown t) → StartCopied old new t vs clause → IsWellFormed new → IsRunning P (length old.cells) d (start sides ∷ []) (start_state new (record { selection = sides; values = vs; literals = clause.literals })) (started_system (string_cells t.sorts vs) clause.gammas clause.pis)
running-started P d old new sides t vs clause w template own shown copied well = record {
  state = state;
  well = well;
  from = (let v = length-variables t.sorts old in let a = adds-longer (with_variables_of t.sorts old) new copied.built in omega (arith, v, a));
  own = own-copied P base old new (λ g. list_all g.sorts t.sorts && allows_template g t) w.fits copied.within (allowed-whole P t own.allowed) copied.names (own-none P old);
  choices = (clause-in base new i valued variables, tt);
  open_goals = goals;
  goals = goals;
  system = system-started P d (start sides ∷ []) new i (string_cells t.sorts vs) clause.gammas clause.pis (tree-by_state P d (start sides ∷ []) (start_state new i) state) brings (subst (λ z. IsTrue (is_system new z)) (sym same) added.0);
  cells = subst (λ z. IsTrue (list_all (nat_le base) (cells_of z))) (sym same) added.1;
  strings = named-built base (with_variables_of t.sorts old) new (string_cells t.sorts vs) copied.built (named-variables base t.sorts old [] vs copied.variables (named-none old));
  variables = variables-started old new t.sorts i copied.variables copied.built;
}
  where
    base : ℕ
    base = length old.cells

    i : CellClause
    i = record { selection = sides; values = vs; literals = clause.literals }

    solution : (σ : Solution) × Solves old σ
    solution = some_solution old w.fits w.rank

    variables : IsTrue (list_all (nat_le base) vs)
    variables = subst (λ v. IsTrue (list_all (nat_le base) v)) (sym copied.variables) (places-own base base (length t.sorts) (omega arith))

    have : HaveSortsAt new t.sorts vs
    have = sorts-kept (with_variables_of t.sorts old) new (sorts-of_cells (with_variables_of t.sorts old) new (cells-built (with_variables_of t.sorts old) new copied.built)) t.sorts vs (have-new vs t.sorts old (with_variables_of t.sorts old) refl copied.variables)

    valued : IsTrue (list_all (has_value_sort_at new) vs)
    valued = variables-valued new t.sorts vs have own.sorts

    parts : ClauseParts base new clause
    parts = clause-parts base new clause copied.sorted copied.own

    fresh : IsFreshClause old new sides t i
    fresh = copy-by_cells old new sides t i (stores-of t.sorts old w.fits) own.sorts copied.built refl copied.variables (clause-there new i valued parts.literals) copied.copy.literals

    state : IsStateOf P d (start sides ∷ []) (start_state new i)
    state = state-started P d sides t old new i solution.0 template shown fresh solution.1

    brings : Brings P new i (string_cells t.sorts vs) clause.gammas clause.pis
    brings = subst (Brings P new i (string_cells t.sorts vs) clause.gammas) (sym copied.copy.pis) (clause-brings P new sides t i clause.gammas template refl have own.sorts (λ σ s. (fresh.back σ s).1) copied.copy.gammas parts.gammas)

    goals : AllByRecursion (IsGoalIn (λ r. base ≤ r) new) (cell_goals_on [] clause.literals)
    goals = goals_in-on (λ r. base ≤ r) new [] clause.literals tt (atoms-in base new clause.literals parts.literals parts.literals_from)

    same : started_system (string_cells t.sorts vs) clause.gammas clause.pis ≡ with_added (started_system [] [] 0) [] (string_cells t.sorts vs) clause.gammas clause.pis (pairs_of (cell_goals_on [] clause.literals))
    same = started-added clause.literals (string_cells t.sorts vs) clause.gammas clause.pis

    added : IsTrue (is_system new (with_added (started_system [] [] 0) [] (string_cells t.sorts vs) clause.gammas clause.pis (pairs_of (cell_goals_on [] clause.literals)))) × IsTrue (list_all (nat_le base) (cells_of (with_added (started_system [] [] 0) [] (string_cells t.sorts vs) clause.gammas clause.pis (pairs_of (cell_goals_on [] clause.literals)))))
    added = system-added base new new (started_system [] [] 0) [] (string_cells t.sorts vs) clause.gammas clause.pis (cell_goals_on [] clause.literals) (λ r sort e. e) refl refl (record { equations_fit = refl; equations_from = refl; strings_fit = strings-sorted new t.sorts vs have; strings_from = strings-from base t.sorts vs variables; gammas_fit = parts.gammas; gammas_from = parts.gammas_from }) goals

-- ---- what each state has

-- a ground solution that tells its unbound variables apart
pub running-ground : (P : Problem) (base d : ℕ) (c : List Choice) (S : State) (y : System) → IsRunning P base d c S y → (σ : Solution) × (number : ℕ → ℕ) × AreDistinct (λ r. base ≤ r) S.store σ number × IsGround P S σ
running-ground P base d c S y h =
    let (σ, number, distinct, good) = distinct-own P base S.store h.well h.own in
    (σ, number, distinct, record { solves = distinct.solves; admitted = admitted-good P (λ r. base ≤ r) S.store σ distinct.solves good S.choices h.choices })

-- a tree of ground instances follows its choices
pub running-live : (P : Problem) (base d : ℕ) (c : List Choice) (S : State) (y : System) → IsRunning P base d c S y → IsLive P d c
running-live P base d c S y h =
    let (σ, number, distinct, ground) = running-ground P base d c S y h in
    live-state P d c S h.state σ ground

-- an extension from a path of d goals shows that the limit d is left, where no goal is the same as one above it
pub running-left : (P : Problem) (base d : ℕ) (c : List Choice) (S : State) (y : System) → IsRunning P base (d + 1) c S y → HasNoSamePair S → IsTrue (list_any (λ i. i == d) S.growth.depths) → IsLeft P d
running-left P base d c S y h new deep =
    let (σ, number, distinct, ground) = running-ground P base (d + 1) c S y h in
    let x = growth_at σ S.growth in (
      map (choice_at σ) S.choices,
      on-some (λ z. IsTrue (is_within (d + 1) z && has_depth d z && is_regular z)) (growth_of P (map (choice_at σ) S.choices)) x (h.state.sound σ ground)
          (and_from (is_within (d + 1) x && has_depth d x) (is_regular x) (and_from (is_within (d + 1) x) (has_depth d x) h.state.within deep) (regular-by_distinct (λ r. base ≤ r) S (rank_of S.store) (suc (length S.store.cells)) σ number h.well.fits (well-ranked S.store h.well) distinct h.goals new)),
    )

-- ---- the clauses of the matrix

pub record ClauseAt (P : Problem) (m : List MatrixClause) (k : ℕ) : Type 0 where
  pub clause : MatrixClause
  pub stands : slice_get m k ≡ Some clause
  pub template : IsTemplateOf P clause.selection clause.template
  pub own : IsOwnTemplate P clause.template

template-in : (P : Problem) (m : List MatrixClause) (k : ℕ) → AllByRecursion (λ (c : MatrixClause). IsTemplateOf P c.selection c.template) m → k < length m → (c : MatrixClause) × (slice_get m k ≡ Some c) × IsTemplateOf P c.selection c.template × Contains (map (λ (x : MatrixClause). x.selection) m) c.selection
template-in P [] k h l = absurd (omega (arith, l))
template-in P (c ∷ m) zero h l = (c, refl, h.0, (0, omega arith, refl))
template-in P (c ∷ m) (suc k) h l = let (x, e, t, (i, n, q)) = template-in P m k h.1 (omega (arith, l)) in (x, e, t, (suc i, omega (arith, n), q))

pub clause-at : (P : Problem) (m : List MatrixClause) (k : ℕ) → IsMatrixOf P m → k < length m → ClauseAt P m k
clause-at P m k h l =
    let (c, e, t, inside) = template-in P m k h.matrix.templates l in
    record { clause = c; stands = e; template = t; own = template-own P c.selection c.template h.fits (subst (λ sss. Contains sss c.selection) h.matrix.in_order inside) t }
