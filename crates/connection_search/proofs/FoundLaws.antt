-- By own spares the tree's choices give a closed tableau: without labels, where no goal is the same as one above it.
use Rattle.std.proofs.Common.{◌≡◌, ◌≤◌, ◌+◌, ◌-◌, ℕ, zero, suc, List, [], ◌∷◌, ◌++◌, length, map, Bool, true, false, ◌&&◌, ◌||◌, ◌==◌, IsTrue, refl, sym, ◌∙◌, ap, subst, Option, None, Some, option_map, slice_get, arith, inl, inr, nat_le, nat_lt, leb-true, if◌then◌else◌}
use Rattle.std.specs.List.{AllByRecursion, flat_map, list_all}
use Rattle.std.specs.Option.{option_map_or}
use Rattle.std.proofs.lemmas.Bool.{and_parts, cases_lt, false≢true}
use Rattle.plain_laws.proofs.Every.{all-at, each-append, all-parts}
use Rattle.search_tree.proofs.OwnCopies.{no_labels-classical}
use Rattle.calculus.specs.Choices.{start, reduction, extension, Choice, GroundChoice}
use Rattle.calculus.specs.Tableaux.{Tableau, is_closed}
use Rattle.calculus.specs.Equality.{sort_eq}
use Rattle.calculus.specs.Kinds.{modal_of, other}
use Rattle.calculus.specs.Positions.{Node, node, size, way_from}
use Rattle.calculus.specs.Problems.{formula_fits, is_problem, setting_fits}
use Rattle.calculus.specs.Skolem.{common_spares, fits_way, is_pi, is_pi_position, last_node}
use Rattle.calculus.specs.Space.{has_labels}
use Rattle.calculus.specs.Syntax.{Formula, Problem, Symbol, atom, neg, conj, disj, imp, all, ex, box, dia}
use Rattle.calculus.specs.declared.setting.Domains.{Domains}
use Rattle.calculus.specs.declared.setting.Domains.TheVariants.{Constant, Cumulative, Varying}
use Rattle.calculus.specs.declared.setting.Logic.{Logic}
use Rattle.calculus.specs.declared.setting.Logic.TheVariants.{Classical}
use Rattle.calculus.specs.declared.sign.Sign.{Sign}
use Rattle.calculus.specs.declared.sign.Sign.TheVariants.{F}
use Rattle.calculus.specs.declared.sort.Sort.{Sort}
use Rattle.calculus.specs.declared.sort.Sort.TheVariants.{TermSort, MarkSort, StringSort}
use Rattle.domain_cond.proofs.ConstantLaws.{met-constant}
use Rattle.logic_rules.proofs.ProblemFacts.{kept}
use Rattle.store_theory.specs.Bindings.{IsWellFormed}
use Rattle.store_theory.proofs.BindingLaws.{ends-once}
use Rattle.prefix_split.specs.Later.{IsFoundIn, IsLater}
use Rattle.prefix_split.proofs.TryingLaws.{ends-open}
use Rattle.store_theory.specs.Stores.{here, Cell, variable, fun_cell, eigen_cell, new_cell, string_cell, Store, GammaCell, AreOwnSpares, has_sort_at, sort_of, Solution, label_at}
use Rattle.store_theory.specs.Systems.{AllAllowed, IsOpenString, AreEqualNow, AreTried, CellAtom, Equation, HaveLengths, OwnSparesSolve, Pair, System, cells_of, cells_of_atom, has_label_sort_at, is_equation, is_label}
use Rattle.search_theory.specs.Joined.{IsTableauBy}
use Rattle.search_theory.specs.Regular.{AreSame, HasNoSamePair, HasSamePair, IsNewGoal}
use Rattle.search_theory.specs.Solving.{IsClosedSet, IsSolving}
use Rattle.search_theory.specs.StateSystems.{pairs_of, pairs_with}
use Rattle.search_theory.specs.LabelledCells.{AreLabelled, sort_values}
use Rattle.search_theory.specs.Matrix.{MatrixClause}
use Rattle.search_theory.specs.States.{CellGoal, State, choice_at}
use Rattle.search_theory.proofs.LabelledEnd.{IsSolvedFor, closed-by_found}
use Rattle.search_theory.proofs.RankLaws.{rank_of}
use Rattle.calculus.specs.Cut.{IsRegularLive}
use Rattle.search_theory.proofs.BeginningLaws.{dead-same}
use Rattle.search_theory.proofs.SoundLaws.{dead-unsound}
use Rattle.search_theory.proofs.SolvingLaws.{IsApartNow, found, system-parts}
use Rattle.search_theory.proofs.SpareLaws.{cell-sorted, sort-same}
use Rattle.search_theory.proofs.SystemCells.{labels-in, pairs-in, system-stays}
use Rattle.search_theory.proofs.SystemLaws.{tree-by_state}
use Rattle.connection_search.specs.Deciding.{HasOwnTableau}
use Rattle.tableau_reading.specs.Solving.{IsFound}
use Rattle.tableau_reading.specs.Grounds.{AreSparesAt}
use Rattle.search_tree.specs.OwnStores.{AreOwn}
use Rattle.search_tree.specs.Running.{IsRunning, NamesStringsFrom, StandsFor, StandsWhole}
use Rattle.search_tree.specs.Trees.{the_step, tree_system, gammas_of}
use Rattle.tableau_reading.specs.declared.homes.Homes.{Homes}
use Rattle.search_tree.specs.declared.tree.Goal.{Goal}
use Rattle.search_tree.specs.declared.tree.Step.{Step}
use Rattle.connection_search.proofs.DecidingLaws.{IsMade}
use Rattle.search_tree.proofs.DistinctStores.{well-ranked}
use Rattle.search_tree.proofs.KeptLaws.{KeepsSorts, choices_in-kept}
use Rattle.connection_search.proofs.SpentLaws.{none-open}

pub whole-stands : (P : Problem) (m : List MatrixClause) (base d : ℕ) (c : List Choice) (s : Store) (steps : List Step) (goals : List Goal) (first : Option ℕ) → StandsWhole P m base d c s steps goals first → StandsFor P m base d c s steps goals first
whole-stands P m base d c s steps goals first (cs, x, at, new, whole) = (cs, x, at)

-- ---- the classical logic has no pi positions

abbrev no_pi : Option Node → Bool
no_pi o = option_map_or (λ (n : Node). is_pi (modal_of Classical n.sign n.formula)) o false

-- the last node of a way is that of its rest, if it has one
last-rest : (n : Node) (ns : List Node) → no_pi (Some n) ≡ false → no_pi (last_node ns) ≡ false → no_pi (last_node (n ∷ ns)) ≡ false
last-rest n [] h k = h
last-rest n (m ∷ ns) h k = k

either-way : (b : Bool) (us vs : List Node) → no_pi (last_node us) ≡ false → no_pi (last_node vs) ≡ false → no_pi (last_node (if b then us else vs)) ≡ false
either-way true us vs h k = h
either-way false us vs h k = k

way-plain : (symbols : List Symbol) (d q : ℕ) (s : Sign) (f : Formula) (p : ℕ) → IsTrue (formula_fits Classical symbols d f) → no_pi (last_node (way_from q s f p)) ≡ false
way-plain symbols d q s (atom r ts) zero h = refl
way-plain symbols d q s (atom r ts) (suc p) h = refl
way-plain symbols d q s (neg a) zero h = refl
way-plain symbols d q s (neg a) (suc p) h = last-rest (node q s (neg a)) (way_from (suc q) (other s) a p) refl (way-plain symbols d (suc q) (other s) a p h)
way-plain symbols d q s (conj a b) zero h = refl
way-plain symbols d q s (conj a b) (suc p) h =
    let k = and_parts (formula_fits Classical symbols d a) (formula_fits Classical symbols d b) h in
    last-rest (node q s (conj a b)) (if nat_lt p (size a) then way_from (suc q) s a p else way_from (suc (q + size a)) s b (p - size a)) refl
    (either-way (nat_lt p (size a)) (way_from (suc q) s a p) (way_from (suc (q + size a)) s b (p - size a)) (way-plain symbols d (suc q) s a p k.0) (way-plain symbols d (suc (q + size a)) s b (p - size a) k.1))
way-plain symbols d q s (disj a b) zero h = refl
way-plain symbols d q s (disj a b) (suc p) h =
    let k = and_parts (formula_fits Classical symbols d a) (formula_fits Classical symbols d b) h in
    last-rest (node q s (disj a b)) (if nat_lt p (size a) then way_from (suc q) s a p else way_from (suc (q + size a)) s b (p - size a)) refl
    (either-way (nat_lt p (size a)) (way_from (suc q) s a p) (way_from (suc (q + size a)) s b (p - size a)) (way-plain symbols d (suc q) s a p k.0) (way-plain symbols d (suc (q + size a)) s b (p - size a) k.1))
way-plain symbols d q s (imp a b) zero h = refl
way-plain symbols d q s (imp a b) (suc p) h =
    let k = and_parts (formula_fits Classical symbols d a) (formula_fits Classical symbols d b) h in
    last-rest (node q s (imp a b)) (if nat_lt p (size a) then way_from (suc q) (other s) a p else way_from (suc (q + size a)) s b (p - size a)) refl
    (either-way (nat_lt p (size a)) (way_from (suc q) (other s) a p) (way_from (suc (q + size a)) s b (p - size a)) (way-plain symbols d (suc q) (other s) a p k.0) (way-plain symbols d (suc (q + size a)) s b (p - size a) k.1))
way-plain symbols d q s (all a) zero h = refl
way-plain symbols d q s (all a) (suc p) h = last-rest (node q s (all a)) (way_from (suc q) s a p) refl (way-plain symbols (suc d) (suc q) s a p h)
way-plain symbols d q s (ex a) zero h = refl
way-plain symbols d q s (ex a) (suc p) h = last-rest (node q s (ex a)) (way_from (suc q) s a p) refl (way-plain symbols (suc d) (suc q) s a p h)
way-plain symbols d q s (box a) p h = absurd (false≢true (and_parts false (formula_fits Classical symbols d a) h).0)
way-plain symbols d q s (dia a) p h = absurd (false≢true (and_parts false (formula_fits Classical symbols d a) h).0)

no-pi_position : (P : Problem) (p : ℕ) → P.setting.logic ≡ Classical → IsTrue (formula_fits P.setting.logic P.symbols 0 P.formula) → is_pi_position P p ≡ false
no-pi_position P p e fits =
    let here = either-way (nat_lt p (size P.formula)) (way_from 0 F P.formula p) [] (way-plain P.symbols 0 0 F P.formula p (subst (λ l. IsTrue (formula_fits l P.symbols 0 P.formula)) e fits)) refl in
    ap (λ l. option_map_or (λ (n : Node). is_pi (modal_of l n.sign n.formula)) (last_node (if nat_lt p (size P.formula) then way_from 0 F P.formula p else [])) false) e ∙ here

-- ---- without labels

constant-domains : (P : Problem) → IsTrue (is_problem P) → P.setting.logic ≡ Classical → P.setting.domains ≡ Constant
constant-domains P h e = by P.setting.domains (subst (λ l. IsTrue (setting_fits l P.setting.domains)) e (kept P h).domains)
  where
    by : (d : Domains) → IsTrue (setting_fits Classical d) → d ≡ Constant
    by Constant k = refl
    by Cumulative k = absurd (false≢true k)
    by Varying k = absurd (false≢true k)

-- what holds of a problem in the classical logic, and of the search's own cells
record IsUnlabelled (P : Problem) (base : ℕ) (s : Store) : Type 0 where
  logic : P.setting.logic ≡ Classical
  labels : has_labels P.setting.logic ≡ false
  fits : IsTrue (formula_fits P.setting.logic P.symbols 0 P.formula)
  own : AreOwn P base s

-- there are no cells for marks and strings
no-cell : (P : Problem) (base : ℕ) (s : Store) → IsUnlabelled P base s → (r : ℕ) (c : Cell) → base ≤ r → slice_get s.cells r ≡ Some c → sort_eq TermSort (sort_of c) ≡ true
no-cell P base s u r (variable TermSort b) l e = refl
no-cell P base s u r (variable MarkSort b) l e = absurd (false≢true (u.own.cells r (variable MarkSort b) l e))
no-cell P base s u r (variable StringSort b) l e = absurd (false≢true (sym u.labels ∙ u.own.cells r (variable StringSort b) l e))
no-cell P base s u r (fun_cell f rs) l e = refl
no-cell P base s u r (eigen_cell p rs) l e = refl
no-cell P base s u r (new_cell p rs) l e = absurd (false≢true (sym (no-pi_position P p u.logic u.fits) ∙ (and_parts (is_pi_position P p) (fits_way P p (sort_values s rs)) (u.own.labelled.built r (new_cell p rs) l e)).0))
no-cell P base s u r (string_cell rs) l e = absurd (false≢true (u.own.cells r (string_cell rs) l e))

one-sort : (sort : Sort) (c : Cell) → IsTrue (sort_eq sort (sort_of c)) → sort_eq TermSort (sort_of c) ≡ true → sort ≡ TermSort
one-sort sort c h k = by sort (sort_of c) h k
  where
    by : (a b : Sort) → IsTrue (sort_eq a b) → sort_eq TermSort b ≡ true → a ≡ TermSort
    by TermSort b h k = refl
    by MarkSort TermSort h k = absurd (false≢true h)
    by MarkSort MarkSort h k = absurd (false≢true k)
    by MarkSort StringSort h k = absurd (false≢true k)
    by StringSort TermSort h k = absurd (false≢true h)
    by StringSort MarkSort h k = absurd (false≢true k)
    by StringSort StringSort h k = absurd (false≢true k)

no-sort : (P : Problem) (base : ℕ) (s : Store) → IsUnlabelled P base s → (r : ℕ) → base ≤ r → (sort : Sort) → IsTrue (has_sort_at s sort r) → sort ≡ TermSort
no-sort P base s u r l sort h = let (c, at, is) = cell-sorted s sort r h in one-sort sort c is (no-cell P base s u r c l at)

no-item : (P : Problem) (base : ℕ) (s : Store) → IsUnlabelled P base s → (r : ℕ) → base ≤ r → ¬ IsTrue (has_label_sort_at s r)
no-item P base s u r l h = by (has_sort_at s MarkSort r) refl h
  where
    by : (b : Bool) → has_sort_at s MarkSort r ≡ b → IsTrue (b || has_sort_at s StringSort r) → ⊥
    by true e k = let z : MarkSort ≡ TermSort = no-sort P base s u r l MarkSort e in cc z
    by false e k = let z : StringSort ≡ TermSort = no-sort P base s u r l StringSort k in cc z

-- so labels are empty
label-empty : (P : Problem) (base : ℕ) (s : Store) → IsUnlabelled P base s → (rs : List ℕ) → IsTrue (is_label s rs) → IsTrue (list_all (nat_le base) rs) → rs ≡ []
label-empty P base s u [] h k = refl
label-empty P base s u (r ∷ rs) h k = absurd (no-item P base s u r (leb-true base r (and_parts (nat_le base r) (list_all (nat_le base) rs) k).0) (and_parts (has_label_sort_at s r) (is_label s rs) h).0)

strings-empty : (P : Problem) (base : ℕ) (s : Store) → IsUnlabelled P base s → (rs : List ℕ) → IsTrue (list_all (has_sort_at s StringSort) rs) → IsTrue (list_all (nat_le base) rs) → rs ≡ []
strings-empty P base s u [] h k = refl
strings-empty P base s u (r ∷ rs) h k = let z : StringSort ≡ TermSort = no-sort P base s u r (leb-true base r (and_parts (nat_le base r) (list_all (nat_le base) rs) k).0) StringSort (and_parts (has_sort_at s StringSort r) (list_all (has_sort_at s StringSort) rs) h).0 in absurd (cc z)

abbrev equation_cells : Equation → List ℕ
equation_cells e = e.left ++ e.right

abbrev gamma_cells : GammaCell → List ℕ
gamma_cells g = g.term ∷ g.label

abbrev pair_cells : Pair → List ℕ
pair_cells p = cells_of_atom p.upper ++ cells_of_atom p.lower

equations-equal : (P : Problem) (base : ℕ) (s : Store) → IsUnlabelled P base s → (es : List Equation) → IsTrue (list_all (is_equation s) es) → IsTrue (list_all (nat_le base) (flat_map equation_cells es)) → AllByRecursion (AreEqualNow s) es
equations-equal P base s u [] h k = tt
equations-equal P base s u (e ∷ es) h k =
    let a = and_parts (is_equation s e) (list_all (is_equation s) es) h in
    let b = and_parts (is_label s e.left) (is_label s e.right) a.0 in
    let c = all-parts (nat_le base) (equation_cells e) (flat_map equation_cells es) k in
    let d = all-parts (nat_le base) e.left e.right c.0 in
    let left = label-empty P base s u e.left b.0 d.0 in
    let right = label-empty P base s u e.right b.1 d.1 in
    ((λ σ t. ([], ap (label_at σ) left, ap (label_at σ) right)), equations-equal P base s u es a.1 c.1)

-- ---- pairs

pairs-apart : (s : Store) (a : CellAtom) (path : List CellAtom) → AllByRecursion (λ (b : CellAtom). ¬ AreSame s a b) path → AllByRecursion (IsApartNow s) (pairs_with a path)
pairs-apart s a [] h = tt
pairs-apart s a (b ∷ path) h = ((λ same. h.0 (λ σ t. sym (same σ t))), pairs-apart s a path h.1)

all-apart_now : (s : Store) (gs : List CellGoal) → AllByRecursion (IsNewGoal s) gs → AllByRecursion (IsApartNow s) (pairs_of gs)
all-apart_now s [] h = tt
all-apart_now s (g ∷ gs) h = each-append (IsApartNow s) (pairs_with g.literal g.path) (pairs_of gs) (pairs-apart s g.literal g.path h.0) (all-apart_now s gs h.1)

-- where no pair is the same, no goal is the same as one above it
every : {A : Type 0} (Q : A → Type 0) (xs : List A) → ((i : ℕ) (x : A) → slice_get xs i ≡ Some x → Q x) → AllByRecursion Q xs
every Q [] h = tt
every Q (x ∷ xs) h = (h 0 x refl, every Q xs (λ i y e. h (suc i) y e))

no-same : (S : State) → ¬ HasSamePair S → HasNoSamePair S
no-same S none = every (IsNewGoal S.store) S.growth.all_goals (λ i g e. every (λ (a : CellAtom). ¬ AreSame S.store g.literal a) g.path (λ j a f same. none (i, j, g, a, e, f, same)))

-- so it is with a sound list
pub sound-new : (P : Problem) (m : List MatrixClause) (base d : ℕ) (c : List Choice) (s : Store) (steps : List Step) (goals : List Goal) (first : Option ℕ) → IsRegularLive P d c → first ≡ None → StandsFor P m base d c s steps goals first → StandsWhole P m base d c s steps goals first
sound-new P m base d c s steps goals first sound whole (cs, x, at) =
    let S : State = record { store = s; choices = cs; growth = x } in
    (cs, x, at, no-same S (λ pair. dead-unsound P d c (dead-same P d c S at.running.state pair) sound), whole)

-- ---- own spares solve

-- each cell that is named is one of them
cells-own : (base : ℕ) (rs : List ℕ) → IsTrue (list_all (nat_le base) rs) → (i r : ℕ) → slice_get rs i ≡ Some r → base ≤ r
cells-own base rs h i r e = leb-true base r (all-at (nat_le base) rs i r h e)

abbrev Own : ℕ → ℕ → Type 0
Own base r = base ≤ r

unlabelled-closed : (P : Problem) (base : ℕ) (s : Store) → IsUnlabelled P base s → IsClosedSet (Own base) s
unlabelled-closed P base s u = record {
  no_open_string = λ v l e. false≢true (no-cell P base s u v (variable StringSort None) l e);
  names = u.own.labelled.names;
}

module _ (P : Problem) (base d : ℕ) (c : List Choice) (S : State) (y : System) (h : IsRunning P base d c S y) (u : IsUnlabelled P base S.store) (problem : IsTrue (is_problem P)) (new : HasNoSamePair S) where
  strings-none : y.strings ≡ []
  strings-none =
      let a = all-parts (nat_le base) (flat_map equation_cells y.equations ++ y.strings ++ flat_map gamma_cells y.gammas) (flat_map pair_cells y.pairs) h.cells in
      let b = all-parts (nat_le base) (flat_map equation_cells y.equations ++ y.strings) (flat_map gamma_cells y.gammas) a.0 in
      let k = all-parts (nat_le base) (flat_map equation_cells y.equations) y.strings b.0 in
      strings-empty P base S.store u y.strings (system-parts S.store y h.system.well).strings k.1

  equal-now : AllByRecursion (AreEqualNow S.store) y.equations
  equal-now =
      let a = all-parts (nat_le base) (flat_map equation_cells y.equations ++ y.strings ++ flat_map gamma_cells y.gammas) (flat_map pair_cells y.pairs) h.cells in
      let b = all-parts (nat_le base) (flat_map equation_cells y.equations ++ y.strings) (flat_map gamma_cells y.gammas) a.0 in
      let k = all-parts (nat_le base) (flat_map equation_cells y.equations) y.strings b.0 in
      equations-equal P base S.store u y.equations (system-parts S.store y h.system.well).equations k.0

  solving : IsSolving P.setting.logic (AllAllowed P) S.store y [] S.store
  solving = record {
    longer = omega arith;
    back = λ σ t. (t, subst (λ rs. HaveLengths σ rs []) (sym strings-none) tt);
    forth = λ σ b. (σ, b.solution.solves, λ r l. refl);
  }

  tried : AreTried P.setting.logic y []
  tried = ap (λ (rs : List ℕ). 0 == length rs && true) strings-none

  unlabelled-solve : OwnSparesSolve (common_spares P) P.setting.logic (AllAllowed P) S.store y
  unlabelled-solve = found (common_spares P) P.setting.logic (AllAllowed P) S.store S.store y [] (rank_of S.store) (suc (length S.store.cells)) (Own base) h.well.fits (well-ranked S.store h.well) (unlabelled-closed P base S.store u) (pairs-in (Own base) S.store y h.system.well (cells-own base (cells_of y) h.cells)) solving tried equal-now
      (subst (AllByRecursion (IsApartNow S.store)) (sym h.system.pairs) (all-apart_now S.store S.growth.all_goals new))
      (met-constant P S.store y h.well (constant-domains P problem u.logic) h.system.well)

  unlabelled-solved : IsSolvedFor P (Own base) S y S.store (rank_of S.store) (suc (length S.store.cells))
  unlabelled-solved = record {
    store = h.well.fits;
    ranked = well-ranked S.store h.well;
    labelled = u.own.labelled;
    closed = unlabelled-closed P base S.store u;
    back = λ σ t. t;
    gammas = (system-parts S.store y h.system.well).gammas;
    labels = labels-in (Own base) y (cells-own base (cells_of y) h.cells);
    choices = h.choices;
  }

-- ---- with labels

-- a string that is still unbound would be one of the system's, which are built
no-open : (base : ℕ) (P : Problem) (s new : Store) (y : System) → NamesStringsFrom base s y → IsFoundIn P.setting.logic P y s new → (v : ℕ) → base ≤ v → ¬ IsOpenString new v
no-open base P s new y named found v from o = elim (cases_lt v (length s.cells)) [
  | inr more ↦ found.later.fresh v more o
  | inl less ↦
      let (i, r, e, ends) = named v from (found.later.strings v v less o here).1 in
      let (w, ms, ends_w, string) = found.built i r e in
      let same : v ≡ w = ends-once new r v w (ends-open s new found.later r v ends o) ends_w in
      let z : Some (variable StringSort None) ≡ Some (string_cell ms) = sym o ∙ ap (slice_get new.cells) same ∙ string in
      cc z
]

sorts-kept : (s new : Store) → IsLater s new → KeepsSorts s new
sorts-kept s new later r sort e =
    let has : IsTrue (has_sort_at s sort r) = ap (λ o. option_map_or (sort_eq sort) o false) e ∙ self sort in
    let (c, at, is) = cell-sorted new sort r (later.sorts sort r has) in
    ap (option_map sort_of) at ∙ ap Some (sym (sort-same sort (sort_of c) is))
  where
    self : (x : Sort) → sort_eq x x ≡ true
    self TermSort = refl
    self MarkSort = refl
    self StringSort = refl

-- what solving leaves, where its cells are built right
pub labelled-solved : (P : Problem) (base d : ℕ) (c : List Choice) (S : State) (y : System) (new : Store) → IsRunning P base d c S y → IsFoundIn P.setting.logic P y S.store new → IsWellFormed new → AreLabelled P (Own base) new → IsSolvedFor P (Own base) S y new (rank_of new) (suc (length new.cells))
labelled-solved P base d c S y new h found well right = record {
  store = well.fits;
  ranked = well-ranked new well;
  labelled = right;
  closed = record { no_open_string = no-open base P S.store new y h.strings found; names = right.names };
  back = found.back;
  gammas = (system-parts new y (system-stays S.store new y found.later.sorts h.system.well)).gammas;
  labels = labels-in (Own base) y (cells-own base (cells_of y) h.cells);
  choices = choices_in-kept (Own base) S.store new (sorts-kept S.store new found.later) S.choices h.choices;
}

-- ---- the tableau

-- where own spares solve the tree's system, they give a closed tableau with its choices
pub own-tableau : (P : Problem) (m : List MatrixClause) (base d : ℕ) (c : List Choice) (s new : Store) (steps : List Step) (goals : List Goal) (first : Option ℕ) (In : ℕ → Type 0) (rank : ℕ → ℕ) (bound : ℕ) → (h : StandsFor P m base d c s steps goals first) → first ≡ None → IsSolvedFor P In (record { store = s; choices = h.0; growth = h.1 }) (tree_system m steps goals h.1.all_goals) new rank bound → OwnSparesSolve (common_spares P) P.setting.logic (AllAllowed P) new (tree_system m steps goals h.1.all_goals) → HasOwnTableau P m d new steps
own-tableau P m base d c s new steps goals first In rank bound (cs, x, at) whole solved solve =
    let S : State = record { store = s; choices = cs; growth = x } in
    let y = tree_system m steps goals x.all_goals in
    let (σ, spares, t) = closed-by_found (common_spares P) P d c S y In new rank bound (tree-by_state P d c S at.running.state) at.running.system (none-open steps goals first x.open_goals at.tree.open_goals whole) solved solve in
    record { solution = σ; spares = spares; tableau = t.tableau; is_built = subst (λ ks. IsTableauBy (map (choice_at σ) ks) t.tableau) (sym at.tree.made) t.is_built; closed = t.closed }

-- with labels they do
pub labelled-tableau : (P : Problem) (m : List MatrixClause) (base d : ℕ) (c : List Choice) (s new : Store) (steps : List Step) (goals : List Goal) (first : Option ℕ) (y : System) → StandsWhole P m base d c s steps goals first → IsMade m steps goals y → IsFound P s y new → HasOwnTableau P m d new steps
labelled-tableau P m base d c s new steps goals first y (cs, x, at, distinct, whole) made found = by (subst (λ z. IsFound P s z new) (made x.all_goals at.tree.goals) found)
  where
    by : IsFound P s (tree_system m steps goals x.all_goals) new → HasOwnTableau P m d new steps
    by f =
        let S : State = record { store = s; choices = cs; growth = x } in
        let z = tree_system m steps goals x.all_goals in
        let (σ, spares, solved) = f.spares in
        let right = f.found.right refl σ spares.solves base at.running.from at.running.cells at.running.own.labelled in
        own-tableau P m base d c s new steps goals first (Own base) (rank_of new) (suc (length new.cells)) (cs, x, at) whole (labelled-solved P base d c S z new at.running f.found f.well right) f.spares

-- without labels they do
pub unlabelled-tableau : (P : Problem) (m : List MatrixClause) (base d : ℕ) (c : List Choice) (s : Store) (steps : List Step) (goals : List Goal) (first : Option ℕ) → IsTrue (is_problem P) → has_labels P.setting.logic ≡ false → StandsWhole P m base d c s steps goals first → HasOwnTableau P m d s steps
unlabelled-tableau P m base d c s steps goals first problem labels (cs, x, at, new, whole) =
    let S : State = record { store = s; choices = cs; growth = x } in
    let y = tree_system m steps goals x.all_goals in
    let u : IsUnlabelled P base s = record { logic = no_labels-classical P.setting.logic labels; labels = labels; fits = (kept P problem).formula; own = at.running.own } in
    own-tableau P m base d c s s steps goals first (Own base) (rank_of s) (suc (length s.cells)) (cs, x, at) whole
    (unlabelled-solved P base d c S y at.running u problem new)
    (unlabelled-solve P base d c S y at.running u problem new)

-- ---- what is read off

-- own spares stand at the homes that were found
pub own-spares : (P : Problem) (m : List MatrixClause) (d : ℕ) (s : Store) (h : Homes) (steps : List Step) (b : Bool) (gs : List GammaCell) → (own : HasOwnTableau P m d s steps) → b ≡ common_spares P → gs ≡ flat_map gammas_of steps
    → ((σ : Solution) → AreOwnSpares b s gs σ (λ v. v) → AreSparesAt s h σ) → AreSparesAt s h own.solution
own-spares P m d s h steps b gs own e f at = at own.solution (subst (λ xs. AreOwnSpares b s xs own.solution (λ v. v)) (sym f) (subst (λ c. AreOwnSpares c s (flat_map gammas_of steps) own.solution (λ v. v)) (sym e) own.spares))

-- the tableau that is read off is the one that own spares give
pub read-closed : (P : Problem) (m : List MatrixClause) (d : ℕ) (s : Store) (h : Homes) (steps : List Step) (t : Tableau) → (own : HasOwnTableau P m d s steps) → AreSparesAt s h own.solution → ((σ : Solution) → AreSparesAt s h σ → IsTableauBy (map (choice_at σ) (map (the_step m) steps)) t) → IsTrue (is_closed P d t)
read-closed P m d s h steps t own spares read = by (map (choice_at own.solution) (map (the_step m) steps)) own.is_built (read own.solution spares)
  where
    by : (gs : List GroundChoice) → IsTableauBy gs own.tableau → IsTableauBy gs t → IsTrue (is_closed P d t)
    by [] a b = absurd a
    by (start i ∷ gs) a b = subst (λ u. IsTrue (is_closed P d u)) (a ∙ sym b) own.closed
    by (reduction up ∷ gs) a b = absurd a
    by (extension i place ∷ gs) a b = absurd a

pub unlabelled-of : (P : Problem) (l : Logic) (b : Bool) → l ≡ P.setting.logic → b ≡ has_labels l → b ≡ false → has_labels P.setting.logic ≡ false
unlabelled-of P l b e f g = ap has_labels (sym e) ∙ sym f ∙ g
