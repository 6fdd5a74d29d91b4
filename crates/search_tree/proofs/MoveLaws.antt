-- Reductions, extensions and the tests of goals on the program's tree.
use Rattle.std.proofs.Common.{◌≡◌, ◌<◌, ◌≤◌, ℕ, zero, suc, List, [], ◌∷◌, ◌++◌, length, Bool, true, false, ◌&&◌, ◌==◌, IsTrue, refl, sym, ◌∙◌, ap, subst, Option, None, Some, option_map, slice_get, arith, nat_le, eq-eqb}
use Rattle.std.specs.List.{list_all, list_any}
use Rattle.std.proofs.lemmas.Bool.{and_parts, or_right, or_left}
use Rattle.plain_laws.proofs.Every.{all-at}
use Rattle.plain_laws.proofs.Places.{get-within}
use Rattle.plain_laws.proofs.Options.{same-some}
use Rattle.store_theory.specs.Bindings.{AddsBuilt, AddsOver, BindsOnly, IsWellFormed, NamesFrom, NamesOver, nothing_more, places_from, with_variables_of}
use Rattle.calculus.specs.Choices.{Choice, extension, reduction, start}
use Rattle.store_theory.specs.Patterns.{AreCopies, CopiedClause, HaveSortsAt, IsClauseCopy, PatternAtom, Template, clause_fits, clause_is_from, patterns_tree, template_fits, without_literal}
use Rattle.store_theory.specs.Stores.{Store, has_sort_at}
use Rattle.calculus.specs.Syntax.{Problem}
use Rattle.calculus.specs.declared.sort.Sort.{Sort}
use Rattle.calculus.specs.declared.sort.Sort.TheVariants.{TermSort}
use Rattle.store_theory.specs.Systems.{CellAtom, is_label}
use Rattle.store_theory.specs.Templates.{IsTemplateOf}
use Rattle.store_theory.proofs.PatternLaws.{Grows-built, grown-copies, grown-label}
use Rattle.search_theory.specs.Matrix.{MatrixClause, MatrixPlace, all_shown}
use Rattle.search_theory.specs.OrderedChoices.{extension_at, selection_of}
use Rattle.search_theory.specs.StateSystems.{extended_system, reduced_system, started_system, string_cells}
use Rattle.search_theory.specs.States.{CellChoice, CellGoal, cell_goals_on, extended, goal_is_below, new_cell_goals, reduced, started}
use Rattle.search_theory.specs.Steps.{AreUnified, Clash}
use Rattle.search_theory.specs.CellsIn.{IsAtomIn, IsGoalIn}
use Rattle.search_theory.proofs.BeginningLaws.{dead-same}
use Rattle.search_theory.specs.DeadEnds.{IsDead, Grows}
use Rattle.search_theory.proofs.BelowLaws.{goal-more}
use Rattle.search_theory.proofs.BuildingLaws.{variables-longer}
use Rattle.search_theory.proofs.ExtensionLaws.{extended_state, no-extension, reduced_state}
use Rattle.search_theory.proofs.RegularLaws.{each-at}
use Rattle.search_theory.proofs.StepLaws.{start_state}
use Rattle.search_theory.proofs.VariableSorts.{sorts-kept}
use Rattle.term_store.specs.ClauseView.{the_atom}
use Rattle.term_store.specs.RefView.{the_places}
use Rattle.term_store.specs.TemplateView.{the_clause}
use Rattle.term_store.specs.Fitting.{atom_fits_in, label_fits_in, parts_fit_in}
use Rattle.term_store.specs.Signatures.{BuildsOver, BuildsWithin, allows_all, allows_template}
use Rattle.term_store.proofs.FitLaws.{have-new, literals-fit, placed-atoms}
use Rattle.term_store.proofs.OwnLaws.{over-both, own-later}
use Rattle.term_store.specs.declared.clause.CellAtom as program
use Rattle.term_unify.specs.Matching.{AddsAndBinds, AllNamesKept, HoldsNowhere, MatchTo, Narrows}
use Rattle.search_tree.specs.Heads.{HasClash}
use Rattle.search_tree.specs.MetAtom.{HeadMatched, met_atom}
use Rattle.search_tree.specs.Running.{ExtendsBy, IsAtGoal, IsMatrixOf, IsRunning, ReducesBy, StandsDeep, StandsFor}
use Rattle.search_tree.specs.Sameness.{AnyRepeated, IsRepeated}
use Rattle.search_tree.specs.Trees.{AreGoals, AreOpen, HasAtom, IsGoalAt, IsTree, atom_at, clause_with, inserted, sorts_of, strings_in, tree_system}
use Rattle.search_tree.specs.declared.tree.Copied.{Copied}
use Rattle.search_tree.specs.declared.tree.Goal.{Goal}
use Rattle.search_tree.specs.declared.tree.Step.{Step}
use Rattle.search_tree.proofs.KeptLaws.{args-from, args-sorted, terms-kept}
use Rattle.search_tree.proofs.OpenStrings.{cells-built, cells-copied, sorts-both, sorts-of_bound, sorts-of_cells}
use Rattle.search_tree.proofs.OwnCopies.{IsOwnTemplate}
use Rattle.search_tree.proofs.OwnLaws.{own-names}
use Rattle.search_tree.proofs.RunningLaws.{RestCopied, StartCopied, clause-at, no-extension-by_mismatch, no-reduction-by_clash, running-extended, running-reduced, running-started}
use Rattle.search_tree.proofs.HeadLaws.{cannot-extend-by_names}
use Rattle.search_tree.proofs.TreeLaws.{atom-found, goal-at}

-- ---- the leftmost open goal

-- the first of the open goals
pub open-first : (steps : List Step) (goals : List Goal) (i : ℕ) (xs : List CellGoal) → AreOpen steps goals (Some i) xs → (x : CellGoal) × (ys : List CellGoal) × (xs ≡ x ∷ ys) × IsGoalAt steps goals i x
open-first steps goals i [] h = let z : Some i ≡ None = h in absurd (cc z)
open-first steps goals i (x ∷ ys) (j, g, e, stands, is, rest) =
    let here : j ≡ i = cc e in
    (x, ys, refl, record { goal = g; stands = subst (λ n. slice_get goals n ≡ Some g) here stands; is_goal = is })

pub leftmost-wanted : (P : Problem) (m : List MatrixClause) (base d : ℕ) (c : List Choice) (s : Store) (steps : List Step) (goals : List Goal) (first : Option ℕ) (next : ℕ) → StandsFor P m base d c s steps goals first → first ≡ Some next → (x : CellGoal) × IsGoalAt steps goals next x × IsTrue (goal_is_below (length s.cells) x)
leftmost-wanted P m base d c s steps goals first next (cs, y, h) e =
    let (x, ys, is, at) = open-first steps goals next y.open_goals (subst (λ k. AreOpen steps goals k y.open_goals) e h.tree.open_goals) in
    (x, at, (and_parts (goal_is_below (length s.cells) x) (list_all (goal_is_below (length s.cells)) ys) (subst (λ zs. IsTrue (list_all (goal_is_below (length s.cells)) zs)) is h.running.state.cells.open_goals)).0)

-- a goal that is the same as one above it
pub leftmost-repeated : (P : Problem) (m : List MatrixClause) (base d : ℕ) (c : List Choice) (s : Store) (steps : List Step) (goals : List Goal) (first : Option ℕ) (next : ℕ) → StandsFor P m base d c s steps goals first → first ≡ Some next → ((x : CellGoal) → IsGoalAt steps goals next x → IsRepeated s x) → IsDead P c
leftmost-repeated P m base d c s steps goals first next (cs, y, h) e repeated =
    let (x, ys, is, at) = open-first steps goals next y.open_goals (subst (λ k. AreOpen steps goals k y.open_goals) e h.tree.open_goals) in
    let (z, on, there) = goal-at steps goals y.all_goals next at.goal h.tree.goals at.stands in
    let (j, a, path, same) = repeated z there in
    dead-same P d c (record { store = s; choices = cs; growth = y }) h.running.state (next, j, z, a, on, path, same)

-- ---- all goals

pub goals-repeated : (P : Problem) (m : List MatrixClause) (base d : ℕ) (c : List Choice) (s : Store) (steps : List Step) (goals : List Goal) (first : Option ℕ) (n : ℕ) → StandsFor P m base d c s steps goals first → ((xs : List CellGoal) → AreGoals steps goals goals xs → AnyRepeated s n xs) → IsDead P c
goals-repeated P m base d c s steps goals first n (cs, y, h) repeated =
    let (i, x, l, on, (j, a, path, same)) = repeated y.all_goals h.tree.goals in
    dead-same P d c (record { store = s; choices = cs; growth = y }) h.running.state (i, j, x, a, on, path, same)

-- ---- the goal at hand

pub goal-here : (P : Problem) (m : List MatrixClause) (base d : ℕ) (c : List Choice) (s : Store) (steps : List Step) (goals : List Goal) (goal : ℕ) (g : CellGoal) → IsAtGoal P m base d c s steps goals goal g → IsGoalAt steps goals goal g
goal-here P m base d c s steps goals goal g h =
    let (x, ys, is, at) = open-first steps goals goal (g ∷ h.behind) h.at.tree.open_goals in
    let same : x ≡ g = let z : g ∷ h.behind ≡ x ∷ ys = is in cc z in
    subst (IsGoalAt steps goals goal) same at

goal-own : (P : Problem) (m : List MatrixClause) (base d : ℕ) (c : List Choice) (s : Store) (steps : List Step) (goals : List Goal) (goal : ℕ) (g : CellGoal) → IsAtGoal P m base d c s steps goals goal g → IsGoalIn (λ r. base ≤ r) s g
goal-own P m base d c s steps goals goal g h = h.at.running.open_goals.0

pub goal-within : (P : Problem) (m : List MatrixClause) (base d : ℕ) (c : List Choice) (s : Store) (steps : List Step) (goals : List Goal) (goal : ℕ) (g : CellGoal) → IsAtGoal P m base d c s steps goals goal g → goal < length goals
goal-within P m base d c s steps goals goal g h = let at = goal-here P m base d c s steps goals goal g h in within goals goal at.goal at.stands
  where
    within : (xs : List Goal) (i : ℕ) (x : Goal) → slice_get xs i ≡ Some x → i < length xs
    within [] i x e = let z : None ≡ Some x = e in absurd (cc z)
    within (y ∷ xs) zero x e = omega arith
    within (y ∷ xs) (suc i) x e = let q = within xs i x e in omega (arith, q)

-- an ancestor of the goal
path-own : (base : ℕ) (s : Store) (g : CellGoal) (k : ℕ) (a : CellAtom) → IsGoalIn (λ r. base ≤ r) s g → slice_get g.path k ≡ Some a → IsAtomIn (λ r. base ≤ r) s a
path-own base s g k a h e = each-at (IsAtomIn (λ r. base ≤ r) s) g.path k a h.path e

-- the terms of the goal, as they are read
pub goal-terms : (P : Problem) (m : List MatrixClause) (base d : ℕ) (c : List Choice) (s : Store) (steps : List Step) (goals : List Goal) (goal : ℕ) (g : CellGoal) (a : CellAtom) (rs : List ℕ) → IsAtGoal P m base d c s steps goals goal g → ((h : Goal) → slice_get goals goal ≡ Some h → atom_at steps h ≡ Some a) → rs ≡ a.args → rs ≡ g.literal.args
goal-terms P m base d c s steps goals goal g a rs h f e = e ∙ ap (λ (x : CellAtom). x.args) (atom-found steps goals goal g a (goal-here P m base d c s steps goals goal g h) f)

pub ancestor-terms : (steps : List Step) (goals : List Goal) (g : CellGoal) (up ancestor : ℕ) (a : CellAtom) (rs : List ℕ) → (r : ReducesBy steps goals g up ancestor) → ((h : Goal) → slice_get goals ancestor ≡ Some h → atom_at steps h ≡ Some a) → rs ≡ a.args → rs ≡ r.atom.args
ancestor-terms steps goals g up ancestor a rs r f e = e ∙ ap (λ (x : CellAtom). x.args) (same-some (atom_at steps r.goal) a r.atom (f r.goal r.stands) r.is_atom)

pub goal-sorted : (P : Problem) (m : List MatrixClause) (base d : ℕ) (c : List Choice) (s : Store) (steps : List Step) (goals : List Goal) (goal : ℕ) (g : CellGoal) (rs : List ℕ) → IsAtGoal P m base d c s steps goals goal g → rs ≡ g.literal.args → IsTrue (list_all (has_sort_at s TermSort) rs)
goal-sorted P m base d c s steps goals goal g rs h e = subst (λ xs. IsTrue (list_all (has_sort_at s TermSort) xs)) (sym e) (args-sorted s g.literal (goal-own P m base d c s steps goals goal g h).literal.sorted)

pub ancestor-sorted : (P : Problem) (m : List MatrixClause) (base d : ℕ) (c : List Choice) (s : Store) (steps : List Step) (goals : List Goal) (goal up ancestor : ℕ) (g : CellGoal) (rs : List ℕ) → IsAtGoal P m base d c s steps goals goal g → (r : ReducesBy steps goals g up ancestor) → rs ≡ r.atom.args → IsTrue (list_all (has_sort_at s TermSort) rs)
ancestor-sorted P m base d c s steps goals goal up ancestor g rs h r e = subst (λ xs. IsTrue (list_all (has_sort_at s TermSort) xs)) (sym e) (args-sorted s r.atom (path-own base s g r.number r.atom (goal-own P m base d c s steps goals goal g h) r.on_path).sorted)

-- ---- reductions

-- what the tree's own step gives
abbrev pub ReducesTree : List Step → List Goal → ℕ → ℕ → ℕ → List Step → List Goal → Option ℕ → Type 0
ReducesTree steps goals goal up ancestor after all first = (m : List MatrixClause) (cs : List CellChoice) (g : CellGoal) (gs every : List CellGoal) (ds : List ℕ) → HasAtom steps goals ancestor → IsTree m steps goals (Some goal) cs (record { open_goals = g ∷ gs; all_goals = every; depths = ds }) → IsTree m after all first (cs ++ reduction up ∷ []) (reduced gs (record { open_goals = g ∷ gs; all_goals = every; depths = ds }))

abbrev pub ReducesSystem : List Step → List Goal → ℕ → ℕ → List Step → List Goal → Type 0
ReducesSystem steps goals goal ancestor after all = (m : List MatrixClause) (cs : List CellChoice) (g : CellGoal) (gs every : List CellGoal) (ds : List ℕ) (at : Goal) (a : CellAtom) → IsTree m steps goals (Some goal) cs (record { open_goals = g ∷ gs; all_goals = every; depths = ds }) → slice_get goals ancestor ≡ Some at → atom_at steps at ≡ Some a → tree_system m after all every ≡ reduced_system (tree_system m steps goals every) g.literal a

pub at-reduced : (P : Problem) (m : List MatrixClause) (base d : ℕ) (c : List Choice) (old new : Store) (steps after : List Step) (goals all : List Goal) (goal up ancestor : ℕ) (first : Option ℕ) (g : CellGoal) (xs ys : List ℕ) → IsAtGoal P m base d c old steps goals goal g → (r : ReducesBy steps goals g up ancestor) → xs ≡ g.literal.args → ys ≡ r.atom.args → AreUnified old new xs ys → BindsOnly old new → ((b : ℕ) → NamesFrom b old → IsTrue (list_all (nat_le b) xs) → IsTrue (list_all (nat_le b) ys) → NamesFrom b new) → IsWellFormed new → ReducesTree steps goals goal up ancestor after all first → ReducesSystem steps goals goal ancestor after all → StandsFor P m base d (c ++ reduction up ∷ []) new after all first
at-reduced P m base d c old new steps after goals all goal up ancestor first g xs ys h r ex ey unified binds names well tree system =
    let here = goal-own P m base d c old steps goals goal g h in
    let own_left = subst (λ rs. IsTrue (list_all (nat_le base) rs)) (sym ex) (args-from base old g.literal here.literal) in
    let own_right = subst (λ rs. IsTrue (list_all (nat_le base) rs)) (sym ey) (args-from base old r.atom (path-own base old g r.number r.atom here r.on_path)) in
    let met = subst (λ us. AreUnified old new us r.atom.args) ex (subst (AreUnified old new xs) ey unified) in
    let state = running-reduced P base d c old new h.made g h.behind h.every h.depths r.number r.atom (tree_system m steps goals h.every) h.at.running r.on_path r.signs r.symbols met binds (names base (own-names P base old h.at.running.own) own_left own_right) well in
    let same = system m h.made g h.behind h.every h.depths r.goal r.atom h.at.tree r.stands r.is_atom in (
      h.made ++ reduction up ∷ [],
      reduced h.behind (record { open_goals = g ∷ h.behind; all_goals = h.every; depths = h.depths }),
      record {
        running = subst (λ n. IsRunning P base d (c ++ reduction n ∷ []) (record { store = new; choices = h.made ++ reduction n ∷ []; growth = reduced h.behind (record { open_goals = g ∷ h.behind; all_goals = h.every; depths = h.depths }) }) (tree_system m after all h.every)) (sym r.is_number)
            (subst (IsRunning P base d (c ++ reduction (suc r.number) ∷ []) (reduced_state new h.made h.behind h.every h.depths (suc r.number))) (sym same) state);
        tree = tree m h.made g h.behind h.every h.depths (r.goal, r.atom, r.stands, r.is_atom) h.at.tree;
      },
    )

pub reduction-cannot : (P : Problem) (m : List MatrixClause) (base d : ℕ) (c : List Choice) (s : Store) (steps : List Step) (goals : List Goal) (goal up ancestor : ℕ) (g : CellGoal) (xs ys : List ℕ) → IsAtGoal P m base d c s steps goals goal g → (r : ReducesBy steps goals g up ancestor) → xs ≡ g.literal.args → ys ≡ r.atom.args → Clash s xs ys → ¬ Grows P (c ++ reduction up ∷ [])
reduction-cannot P m base d c s steps goals goal up ancestor g xs ys h r ex ey clash =
    let met = subst (λ us. Clash s us r.atom.args) ex (subst (Clash s xs) ey clash) in
    subst (λ n. ¬ Grows P (c ++ reduction n ∷ [])) (sym r.is_number) (no-reduction-by_clash P base d c s h.made g h.behind h.every h.depths r.number r.atom (tree_system m steps goals h.every) h.at.running r.on_path met)

-- ---- the clause of an extension

pub record ClauseFor (P : Problem) (m : List MatrixClause) (k : ℕ) (t : Template) : Type 0 where
  pub template : IsTemplateOf P (selection_of (slice_get m k)) t
  pub own : IsOwnTemplate P t
  pub sorts_are : sorts_of (slice_get m k) ≡ t.sorts

pub clause-for : (P : Problem) (m : List MatrixClause) (k : ℕ) (t : Template) → IsMatrixOf P m → k < length m → option_map (λ (x : MatrixClause). x.template) (slice_get m k) ≡ Some t → ClauseFor P m k t
clause-for P m k t h l e =
    let w = clause-at P m k h l in
    let z : Some w.clause.template ≡ Some t = sym (ap (option_map (λ (x : MatrixClause). x.template)) w.stands) ∙ e in
    let same : w.clause.template ≡ t = cc z in
    record {
      template = subst (λ sides. IsTemplateOf P sides t) (sym (ap selection_of w.stands)) (subst (IsTemplateOf P w.clause.selection) same w.template);
      own = subst (IsOwnTemplate P) same w.own;
      sorts_are = ap sorts_of w.stands ∙ ap (λ (u : Template). u.sorts) same;
    }

pub place-clause : (m : List MatrixClause) (d : ℕ) (g : CellGoal) (p : MatrixPlace) → ExtendsBy m d g p → p.clause < length m
place-clause m d g p e = get-within m p.clause e.clause e.stands

pub literal-found : (m : List MatrixClause) (d : ℕ) (g : CellGoal) (p : MatrixPlace) (t : Template) → (e : ExtendsBy m d g p) → option_map (λ (x : MatrixClause). x.template) (slice_get m p.clause) ≡ Some t → slice_get t.literals p.literal ≡ Some e.literal
literal-found m d g p t e h =
    let z : Some e.clause.template ≡ Some t = sym (ap (option_map (λ (x : MatrixClause). x.template)) e.stands) ∙ h in
    let same : e.clause.template ≡ t = cc z in
    subst (λ (u : Template). slice_get u.literals p.literal ≡ Some e.literal) same e.there

pub literal-within : (m : List MatrixClause) (d : ℕ) (g : CellGoal) (p : MatrixPlace) (t : Template) → ExtendsBy m d g p → option_map (λ (x : MatrixClause). x.template) (slice_get m p.clause) ≡ Some t → p.literal < length t.literals
literal-within m d g p t e h = get-within t.literals p.literal e.literal (literal-found m d g p t e h)

abbrev pub place_of : ℕ → ℕ → MatrixPlace
place_of k place = record { clause = k; literal = place }

-- the connected literal, as it was matched
pub head-matched_by : (old begun met : Store) (t : Template) (place : ℕ) (vs xs : List ℕ) (q p : PatternAtom) → begun ≡ with_variables_of t.sorts old → slice_get t.literals place ≡ Some q → slice_get t.literals place ≡ Some p → vs ≡ places_from (length old.cells) (length t.sorts) → Narrows (λ σ. (length xs ≡ length q.args) × MatchTo vs xs q.args (length q.args) σ) begun met → AddsAndBinds begun met → AllNamesKept vs xs begun met → BuildsOver vs (λ sorts g. allows_all g sorts (patterns_tree q.args)) begun met → HeadMatched old met t place vs p xs
head-matched_by old begun met t place vs xs q p eb aq ap_at ev narrows cells names within =
    let same : q ≡ p = same-some (slice_get t.literals place) q p aq ap_at in
    subst (λ z. HeadMatched old met t place vs z xs) same (record {
      stands = aq;
      variables = ev;
      narrows = subst (λ b. Narrows (λ σ. (length xs ≡ length q.args) × MatchTo vs xs q.args (length q.args) σ) b met) eb narrows;
      cells = subst (λ b. AddsAndBinds b met) eb cells;
      names = subst (λ b. AllNamesKept vs xs b met) eb names;
      within = subst (λ b. BuildsOver vs (λ sorts g. allows_all g sorts (patterns_tree q.args)) b met) eb within;
    })

-- its label and the other literals, as they were copied
pub rest-copied : (met mid new : Store) (t : Template) (place : ℕ) (vs label : List ℕ) (p : PatternAtom) (clause : CopiedClause) → slice_get t.literals place ≡ Some p → (a : PatternAtom) × (slice_get t.literals place ≡ Some a) × AreCopies mid vs (patterns_tree a.label) label → IsTrue (is_label mid label) → NamesOver vs (length met.cells) (λ base. list_all (nat_le base) label) → AddsOver vs met mid → ((a : PatternAtom) → slice_get t.literals place ≡ Some a → BuildsWithin (λ g. allows_all g t.sorts (patterns_tree a.label)) met mid) → IsClauseCopy new vs (without_literal place t) clause → IsTrue (clause_fits new clause) → NamesOver vs (length mid.cells) (λ base. clause_is_from base clause) → AddsOver vs mid new → BuildsWithin (λ g. allows_template g (without_literal place t)) mid new → RestCopied met new t place vs p label clause
rest-copied met mid new t place vs label p clause at (a, aa, copies) label_sorted label_own label_adds label_within copy sorted own adds within =
    let same : a ≡ p = same-some (slice_get t.literals place) a p aa at in
    let grows = Grows-built mid new adds.built in
    record {
      copy = copy;
      sorted = sorted;
      own = own-later vs met mid (λ base. clause_is_from base clause) (Grows-built met mid label_adds.built) own;
      label_copy = subst (λ (z : PatternAtom). AreCopies new vs (patterns_tree z.label) label) same (grown-copies mid new vs (patterns_tree a.label) label grows copies);
      label_sorted = grown-label mid new label grows label_sorted;
      label_own = label_own;
      adds = over-both vs met mid new label_adds adds;
      within = λ g base h k. let w = and_parts (allows_all g t.sorts (patterns_tree p.label)) (allows_template g (without_literal place t)) h in within g base w.1 (label_within p at g base w.0 k);
    }

-- the patterns of the literal fit the variables
pub head-fits : (old begun : Store) (t : Template) (place : ℕ) (vs : List ℕ) (q : PatternAtom) → IsTrue (template_fits t) → begun ≡ with_variables_of t.sorts old → slice_get t.literals place ≡ Some q → vs ≡ places_from (length old.cells) (length t.sorts) → (sort : Sort) × (strings : Bool) × IsTrue (parts_fit_in begun vs sort strings (patterns_tree q.args))
head-fits old begun t place vs q fits eb at ev =
    let have = have-new vs t.sorts old begun eb ev in
    (TermSort, false, (and_parts (parts_fit_in begun vs TermSort false (patterns_tree q.args)) (label_fits_in begun vs q.label) (all-at (atom_fits_in begun vs) t.literals place q (placed-atoms begun vs t.sorts have t.literals (literals-fit t fits)) at)).0)

pub head-kept : (old begun : Store) (t : Template) (rs : List ℕ) → begun ≡ with_variables_of t.sorts old → IsTrue (list_all (has_sort_at old TermSort) rs) → IsTrue (list_all (has_sort_at begun TermSort) rs)
head-kept old begun t rs e h = subst (λ b. IsTrue (list_all (has_sort_at b TermSort) rs)) (sym e) (terms-kept old (with_variables_of t.sorts old) (sorts-of_cells old (with_variables_of t.sorts old) (cells-copied t.sorts old (with_variables_of t.sorts old) nothing_more)) rs h)

-- the variables keep their sorts while the literal is matched
pub sorts-matched : (begun met : Store) (sorts : List Sort) (rs : List ℕ) → AddsAndBinds begun met → HaveSortsAt begun sorts rs → HaveSortsAt met sorts rs
sorts-matched begun met sorts rs h k = sorts-kept begun met (sorts-both begun h.mid met (sorts-of_cells begun h.mid (cells-built begun h.mid h.built)) (sorts-of_bound h.mid met h.binds)) sorts rs k

-- what was matched, over the literal of the place
pub head-met : (m : List MatrixClause) (d : ℕ) (g : CellGoal) (k place : ℕ) (old begun met : Store) (t : Template) (vs xs : List ℕ) (q : PatternAtom) → option_map (λ (x : MatrixClause). x.template) (slice_get m k) ≡ Some t → (e : ExtendsBy m d g (place_of k place)) → begun ≡ with_variables_of t.sorts old → slice_get t.literals place ≡ Some q → vs ≡ places_from (length old.cells) (length t.sorts) → Narrows (λ σ. (length xs ≡ length q.args) × MatchTo vs xs q.args (length q.args) σ) begun met → AddsAndBinds begun met → AllNamesKept vs xs begun met → BuildsOver vs (λ sorts g. allows_all g sorts (patterns_tree q.args)) begun met → HeadMatched old met t place vs e.literal xs
head-met m d g k place old begun met t vs xs q there e eb at ev narrows cells names within = head-matched_by old begun met t place vs xs q e.literal eb at (literal-found m d g (place_of k place) t e there) ev narrows cells names within

-- the variables have their sorts still
pub variables-matched : (old met : Store) (t : Template) (place : ℕ) (vs xs : List ℕ) (p : PatternAtom) → HeadMatched old met t place vs p xs → HaveSortsAt met t.sorts vs
variables-matched old met t place vs xs p h = sorts-matched (with_variables_of t.sorts old) met t.sorts vs h.cells (have-new vs t.sorts old (with_variables_of t.sorts old) refl h.variables)

-- and the goal is there still
pub goal-matched : (P : Problem) (m : List MatrixClause) (base d : ℕ) (c : List Choice) (old met : Store) (steps : List Step) (goals : List Goal) (goal place : ℕ) (g : CellGoal) (t : Template) (vs xs : List ℕ) (p : PatternAtom) → IsAtGoal P m base d c old steps goals goal g → HeadMatched old met t place vs p xs → IsTrue (goal_is_below (length met.cells) g)
goal-matched P m base d c old met steps goals goal place g t vs xs p h head =
    let l = variables-longer t.sorts old in
    let k = head.narrows.longer in
    goal-more (length old.cells) (length met.cells) (omega (arith, l, k)) g (and_parts (goal_is_below (length old.cells) g) (list_all (goal_is_below (length old.cells)) h.behind) h.at.running.state.cells.open_goals).0

-- the template of a clause is one
pub same-template : (m : List MatrixClause) (k : ℕ) (t u : Template) → option_map (λ (x : MatrixClause). x.template) (slice_get m k) ≡ Some t → option_map (λ (x : MatrixClause). x.template) (slice_get m k) ≡ Some u → t ≡ u
same-template m k t u = same-some (option_map (λ (x : MatrixClause). x.template) (slice_get m k)) t u

-- ---- extensions

-- what the tree's own step gives
abbrev pub ExtendsTree : List Step → List Goal → ℕ → Copied → ℕ → program.CellAtom → List Step → List Goal → Option ℕ → Type 0
ExtendsTree steps goals goal copied place atom after all first = (m : List MatrixClause) (cs : List CellChoice) (g : CellGoal) (gs every : List CellGoal) (ds : List ℕ) → copied.clause.0 < length m → IsTree m steps goals (Some goal) cs (record { open_goals = g ∷ gs; all_goals = every; depths = ds }) → IsTree m after all first (cs ++ extension (clause_with m copied (inserted place (the_atom atom) copied.copy.literals)) place ∷ []) (extended g gs (clause_with m copied (inserted place (the_atom atom) copied.copy.literals)) place (record { open_goals = g ∷ gs; all_goals = every; depths = ds }))

abbrev pub ExtendsSystem : List Step → List Goal → ℕ → Copied → ℕ → program.CellAtom → List Step → List Goal → Type 0
ExtendsSystem steps goals goal copied place atom after all = (m : List MatrixClause) (cs : List CellChoice) (g : CellGoal) (gs every : List CellGoal) (ds : List ℕ) → IsTree m steps goals (Some goal) cs (record { open_goals = g ∷ gs; all_goals = every; depths = ds }) → tree_system m after all (every ++ new_cell_goals g (clause_with m copied (inserted place (the_atom atom) copied.copy.literals)) place) ≡ extended_system (tree_system m steps goals every) g (clause_with m copied (inserted place (the_atom atom) copied.copy.literals)) place (the_atom atom) (strings_in m copied) copied.copy.gammas copied.copy.pis

-- the strings of the copy are those of the template
strings-copied : (m : List MatrixClause) (copied : Copied) (t : Template) → sorts_of (slice_get m copied.clause.0) ≡ t.sorts → strings_in m copied ≡ string_cells t.sorts (the_places copied.copy.variables)
strings-copied m copied t e = ap (λ sorts. string_cells sorts (the_places copied.copy.variables)) e

pub at-extended : (P : Problem) (m : List MatrixClause) (base d : ℕ) (c : List Choice) (old met new : Store) (steps after : List Step) (goals all : List Goal) (goal place : ℕ) (first : Option ℕ) (g : CellGoal) (t : Template) (copied : Copied) (atom : program.CellAtom) (xs label : List ℕ) → IsAtGoal P m base d c old steps goals goal g → (e : ExtendsBy m d g (place_of copied.clause.0 place)) → ClauseFor P m copied.clause.0 t → HeadMatched old met t place (the_places copied.copy.variables) e.literal xs → xs ≡ g.literal.args → the_atom atom ≡ met_atom e.literal xs label → RestCopied met new t place (the_places copied.copy.variables) e.literal label (the_clause copied.copy) → IsWellFormed new → ExtendsTree steps goals goal copied place atom after all first → ExtendsSystem steps goals goal copied place atom after all → StandsFor P m base d (c ++ extension_at m (place_of copied.clause.0 place) ∷ []) new after all first
at-extended P m base d c old met new steps after goals all goal place first g t copied atom xs label h e k head ex ea rest well tree system =
    let vs = the_places copied.copy.variables in
    let sides = selection_of (slice_get m copied.clause.0) in
    let y = tree_system m steps goals h.every in
    let is : the_atom atom ≡ met_atom e.literal g.literal.args label = ea ∙ ap (λ us. met_atom e.literal us label) ex in
    let i = clause_with m copied (inserted place (the_atom atom) copied.copy.literals) in
    let strings = strings-copied m copied t k.sorts_are in
    let state = subst (λ z. IsRunning P base d (c ++ extension sides place ∷ []) (extended_state new h.made g h.behind h.every h.depths (clause_with m copied (inserted place z copied.copy.literals)) place) (extended_system y g (clause_with m copied (inserted place z copied.copy.literals)) place z (string_cells t.sorts vs) copied.copy.gammas copied.copy.pis)) (sym is)
    (running-extended P base d c old met new h.made g h.behind h.every h.depths sides t place vs label e.literal (the_clause copied.copy) y h.at.running e.deep k.template k.own e.signs e.symbols (subst (HeadMatched old met t place vs e.literal) ex head) rest well) in
    let same = system m h.made g h.behind h.every h.depths h.at.tree ∙ ap (λ ss. extended_system y g i place (the_atom atom) ss copied.copy.gammas copied.copy.pis) strings in (
      h.made ++ extension i place ∷ [],
      extended g h.behind i place (record { open_goals = g ∷ h.behind; all_goals = h.every; depths = h.depths }),
      record {
        running = subst (IsRunning P base d (c ++ extension sides place ∷ []) (extended_state new h.made g h.behind h.every h.depths i place)) (sym same) state;
        tree = tree m h.made g h.behind h.every h.depths (get-within m copied.clause.0 e.clause e.stands) h.at.tree;
      },
    )

any-last : (xs : List ℕ) (n : ℕ) → IsTrue (list_any (λ k. k == n) (xs ++ n ∷ []))
any-last [] n = or_left (n == n) false (eq-eqb n n refl)
any-last (x ∷ xs) n = or_right (x == n) (list_any (λ k. k == n) (xs ++ n ∷ [])) (any-last xs n)

pub extended-deep : (P : Problem) (m : List MatrixClause) (base d : ℕ) (c : List Choice) (old met new : Store) (steps after : List Step) (goals all : List Goal) (goal place : ℕ) (first : Option ℕ) (g : CellGoal) (t : Template) (copied : Copied) (atom : program.CellAtom) (xs label : List ℕ) → IsAtGoal P m base d c old steps goals goal g → (e : ExtendsBy m d g (place_of copied.clause.0 place)) → ClauseFor P m copied.clause.0 t → HeadMatched old met t place (the_places copied.copy.variables) e.literal xs → xs ≡ g.literal.args → the_atom atom ≡ met_atom e.literal xs label → RestCopied met new t place (the_places copied.copy.variables) e.literal label (the_clause copied.copy) → IsWellFormed new → ExtendsTree steps goals goal copied place atom after all first → ExtendsSystem steps goals goal copied place atom after all → StandsDeep P m base d (c ++ extension_at m (place_of copied.clause.0 place) ∷ []) new after all first (length g.path)
unfolding at-extended
extended-deep P m base d c old met new steps after goals all goal place first g t copied atom xs label h e k head ex ea rest well tree system = let r = at-extended P m base d c old met new steps after goals all goal place first g t copied atom xs label h e k head ex ea rest well tree system in (r.0, r.1, r.2, any-last h.depths (length g.path))

-- the literal cannot be matched
pub extension-cannot : (P : Problem) (m : List MatrixClause) (base d : ℕ) (c : List Choice) (old : Store) (steps : List Step) (goals : List Goal) (goal k place : ℕ) (g : CellGoal) (t : Template) (p : PatternAtom) (vs xs : List ℕ) → IsAtGoal P m base d c old steps goals goal g → ClauseFor P m k t → slice_get t.literals place ≡ Some p → vs ≡ places_from (length old.cells) (length t.sorts) → xs ≡ g.literal.args → HoldsNowhere (λ σ. (length xs ≡ length p.args) × MatchTo vs xs p.args (length p.args) σ) (with_variables_of t.sorts old) → ¬ Grows P (c ++ extension_at m (place_of k place) ∷ [])
extension-cannot P m base d c old steps goals goal k place g t p vs xs h f at ev ex none =
    no-extension-by_mismatch P base d c old h.made g h.behind h.every h.depths (selection_of (slice_get m k)) t place p (tree_system m steps goals h.every) h.at.running f.template f.own.sorts at
    (subst (λ us. HoldsNowhere (λ σ. (length us ≡ length p.args) × MatchTo (places_from (length old.cells) (length t.sorts)) us p.args (length p.args) σ) (with_variables_of t.sorts old)) ex
    (subst (λ v. HoldsNowhere (λ σ. (length xs ≡ length p.args) × MatchTo v xs p.args (length p.args) σ) (with_variables_of t.sorts old)) ev none))

-- the outermost names differ
pub extension-clashes : (P : Problem) (m : List MatrixClause) (base d : ℕ) (c : List Choice) (s : Store) (steps : List Step) (goals : List Goal) (goal k place : ℕ) (g : CellGoal) (t : Template) (p : PatternAtom) (a : CellAtom) → IsAtGoal P m base d c s steps goals goal g → ClauseFor P m k t → slice_get t.literals place ≡ Some p → a ≡ g.literal → HasClash s a p → ¬ Grows P (c ++ extension_at m (place_of k place) ∷ [])
extension-clashes P m base d c s steps goals goal k place g t p a h f there same clash = no-extension P d c s h.made g h.behind h.every h.depths (selection_of (slice_get m k)) t place h.at.running.state f.template (cannot-extend-by_names s t g.literal p place there (subst (λ x. HasClash s x p) same clash))

-- ---- starts

pub shown-for : (m : List MatrixClause) (k : ℕ) (t : Template) → option_map (λ (x : MatrixClause). x.template) (slice_get m k) ≡ Some t → option_map (λ (x : MatrixClause). all_shown x.template) (slice_get m k) ≡ Some true → IsTrue (all_shown t)
shown-for m k t h e = by (slice_get m k) h e
  where
    by : (o : Option MatrixClause) → option_map (λ (x : MatrixClause). x.template) o ≡ Some t → option_map (λ (x : MatrixClause). all_shown x.template) o ≡ Some true → IsTrue (all_shown t)
    by None h e = let z : None ≡ Some t = h in absurd (cc z)
    by (Some c) h e =
        let same : c.template ≡ t = cc h in
        let shown : all_shown c.template ≡ true = cc e in
        subst (λ u. IsTrue (all_shown u)) same shown

pub start-copied : (old new : Store) (t : Template) (vs : List ℕ) (clause : CopiedClause) → vs ≡ places_from (length old.cells) (length t.sorts) → IsClauseCopy new (places_from (length old.cells) (length t.sorts)) t clause → IsTrue (clause_fits new clause) → IsTrue (clause_is_from (length old.cells) clause) → NamesFrom (length old.cells) new → AddsBuilt (with_variables_of t.sorts old) new → BuildsWithin (λ g. list_all g.sorts t.sorts && allows_template g t) old new → StartCopied old new t vs clause
start-copied old new t vs clause variables copy sorted own names built within = record { variables = variables; copy = subst (λ v. IsClauseCopy new v t clause) (sym variables) copy; sorted = sorted; own = own; names = names; built = built; within = within }

-- what the tree's own step gives
abbrev pub StartsTree : Copied → List Step → List Goal → Option ℕ → Type 0
StartsTree copied after all first = (m : List MatrixClause) → copied.clause.0 < length m → IsTree m after all first (start (clause_with m copied copied.copy.literals) ∷ []) (started (clause_with m copied copied.copy.literals))

abbrev pub StartsSystem : Copied → List Step → List Goal → Type 0
StartsSystem copied after all = (m : List MatrixClause) → tree_system m after all (cell_goals_on [] copied.copy.literals) ≡ started_system (strings_in m copied) copied.copy.gammas copied.copy.pis

pub at-started : (P : Problem) (m : List MatrixClause) (d : ℕ) (old new : Store) (after : List Step) (all : List Goal) (first : Option ℕ) (t : Template) (copied : Copied) → copied.clause.0 < length m → ClauseFor P m copied.clause.0 t → IsTrue (all_shown t) → StartCopied old new t (the_places copied.copy.variables) (the_clause copied.copy) → IsWellFormed old → IsWellFormed new → StartsTree copied after all first → StartsSystem copied after all → StandsFor P m (length old.cells) d (start (selection_of (slice_get m copied.clause.0)) ∷ []) new after all first
at-started P m d old new after all first t copied n k shown clause before well tree system =
    let i = clause_with m copied copied.copy.literals in
    let same = system m ∙ ap (λ ss. started_system ss copied.copy.gammas copied.copy.pis) (strings-copied m copied t k.sorts_are) in (
      start i ∷ [],
      started i,
      record {
        running = subst (IsRunning P (length old.cells) d (start (selection_of (slice_get m copied.clause.0)) ∷ []) (start_state new i)) (sym same) (running-started P d old new (selection_of (slice_get m copied.clause.0)) t (the_places copied.copy.variables) (the_clause copied.copy) before k.template k.own shown clause well);
        tree = tree m n;
      },
    )
