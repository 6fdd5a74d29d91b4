-- What atoms, goals and choices of a state and its system keep when cells keep their sorts, and what they need when they come.
use Rattle.std.proofs.Common.{◌≡◌, ◌≤◌, ℕ, suc, List, [], ◌∷◌, ◌++◌, length, Bool, true, false, ◌&&◌, ◌||◌, IsTrue, refl, sym, ◌∙◌, ap, Option, None, Some, option_map, slice_get, nat_le, nat_lt, le-leb}
use Rattle.std.specs.List.{AllByRecursion, list_all, flat_map}
use Rattle.std.specs.Option.{option_map_or}
use Rattle.std.proofs.lemmas.Bool.{and_from, and_parts, false≢true}
use Rattle.std.proofs.lemmas.List.Concat.{flat_map-cons}
use Rattle.plain_laws.proofs.Every.{all-append, each-weaken, all-parts, all-weaken}
use Rattle.search_theory.proofs.FromLaws.{part-from}
use Rattle.calculus.specs.Choices.{extension, reduction, start}
use Rattle.calculus.specs.Equality.{sort_eq}
use Rattle.store_theory.specs.Patterns.{HaveSortsAt, atom_is_from, gamma_is_from}
use Rattle.store_theory.specs.Stores.{GammaCell, Store, has_sort_at, has_value_sort_at, names_below, sort_of}
use Rattle.store_theory.specs.Systems.{CellAtom, Equation, Pair, System, cells_of, cells_of_atom, has_label_sort_at, is_cell_atom, is_equation, is_gamma_cell, is_label, is_pair, is_system}
use Rattle.calculus.specs.declared.sort.Sort.{Sort}
use Rattle.calculus.specs.declared.sort.Sort.TheVariants.{TermSort, MarkSort, StringSort}
use Rattle.store_theory.proofs.BindingLaws.{or-more}
use Rattle.search_theory.specs.States.{CellChoice, CellClause, CellGoal, atom_is_below, cell_goals_on, clause_is_below}
use Rattle.search_theory.specs.StateSystems.{pairs_of, pairs_with}
use Rattle.search_theory.specs.CellsIn.{IsAtomIn, IsChoiceIn, IsClauseIn, IsGoalIn, IsPart}
use Rattle.search_theory.proofs.BuildingLaws.{is_variable_sort}
use Rattle.search_theory.proofs.SolvingLaws.{SystemParts, system-parts, sorted-below}

-- ---- sorts

abbrev pub KeepsSorts : Store → Store → Type 0
KeepsSorts old new = (r : ℕ) (sort : Sort) → option_map sort_of (slice_get old.cells r) ≡ Some sort → option_map sort_of (slice_get new.cells r) ≡ Some sort

pub sorted-kept : (old new : Store) → KeepsSorts old new → (sort : Sort) (r : ℕ) → IsTrue (has_sort_at old sort r) → IsTrue (has_sort_at new sort r)
sorted-kept old new k sort r h = by (option_map sort_of (slice_get old.cells r)) refl h
  where
    by : (o : Option Sort) → option_map sort_of (slice_get old.cells r) ≡ o → IsTrue (option_map_or (sort_eq sort) o false) → IsTrue (has_sort_at new sort r)
    by None e h = absurd (false≢true h)
    by (Some x) e h = ap (λ (o : Option Sort). option_map_or (sort_eq sort) o false) (k r x e) ∙ h

label-kept : (old new : Store) → KeepsSorts old new → (rs : List ℕ) → IsTrue (is_label old rs) → IsTrue (is_label new rs)
label-kept old new k = all-weaken (has_label_sort_at old) (has_label_sort_at new) (λ r. or-more (has_sort_at old MarkSort r) (has_sort_at new MarkSort r) (has_sort_at old StringSort r) (has_sort_at new StringSort r) (sorted-kept old new k MarkSort r) (sorted-kept old new k StringSort r))

values-kept : (old new : Store) → KeepsSorts old new → (rs : List ℕ) → IsTrue (list_all (has_value_sort_at old) rs) → IsTrue (list_all (has_value_sort_at new) rs)
values-kept old new k = all-weaken (has_value_sort_at old) (has_value_sort_at new) (λ r. or-more (has_sort_at old TermSort r) (has_sort_at new TermSort r) (has_sort_at old StringSort r) (has_sort_at new StringSort r) (sorted-kept old new k TermSort r) (sorted-kept old new k StringSort r))

pub terms-kept : (old new : Store) → KeepsSorts old new → (rs : List ℕ) → IsTrue (list_all (has_sort_at old TermSort) rs) → IsTrue (list_all (has_sort_at new TermSort) rs)
terms-kept old new k = all-weaken (has_sort_at old TermSort) (has_sort_at new TermSort) (sorted-kept old new k TermSort)

strings-kept : (old new : Store) → KeepsSorts old new → (rs : List ℕ) → IsTrue (list_all (has_sort_at old StringSort) rs) → IsTrue (list_all (has_sort_at new StringSort) rs)
strings-kept old new k = all-weaken (has_sort_at old StringSort) (has_sort_at new StringSort) (sorted-kept old new k StringSort)

-- ---- atoms, goals and choices

atom-kept : (old new : Store) → KeepsSorts old new → (a : CellAtom) → IsTrue (is_cell_atom old a) → IsTrue (is_cell_atom new a)
atom-kept old new k a h =
    let w = and_parts (list_all (has_sort_at old TermSort) a.args) (is_label old a.label) h in
    and_from (list_all (has_sort_at new TermSort) a.args) (is_label new a.label) (terms-kept old new k a.args w.0) (label-kept old new k a.label w.1)

pub atom_in-kept : (In : ℕ → Type 0) (old new : Store) → KeepsSorts old new → (a : CellAtom) → IsAtomIn In old a → IsAtomIn In new a
atom_in-kept In old new k a h = record { sorted = atom-kept old new k a h.sorted; args = h.args; label = h.label }

pub goal_in-kept : (In : ℕ → Type 0) (old new : Store) → KeepsSorts old new → (g : CellGoal) → IsGoalIn In old g → IsGoalIn In new g
goal_in-kept In old new k g h = record { literal = atom_in-kept In old new k g.literal h.literal; path = each-weaken (IsAtomIn In old) (IsAtomIn In new) (atom_in-kept In old new k) g.path h.path }

pub goals_in-kept : (In : ℕ → Type 0) (old new : Store) → KeepsSorts old new → (gs : List CellGoal) → AllByRecursion (IsGoalIn In old) gs → AllByRecursion (IsGoalIn In new) gs
goals_in-kept In old new k = each-weaken (IsGoalIn In old) (IsGoalIn In new) (goal_in-kept In old new k)

choice_in-kept : (In : ℕ → Type 0) (old new : Store) → KeepsSorts old new → (c : CellChoice) → IsChoiceIn In old c → IsChoiceIn In new c
choice_in-kept In old new k (start i) h = record { sorted = values-kept old new k i.values h.sorted; names = h.names }
choice_in-kept In old new k (reduction up) h = tt
choice_in-kept In old new k (extension i place) h = record { sorted = values-kept old new k i.values h.sorted; names = h.names }

pub choices_in-kept : (In : ℕ → Type 0) (old new : Store) → KeepsSorts old new → (cs : List CellChoice) → AllByRecursion (IsChoiceIn In old) cs → AllByRecursion (IsChoiceIn In new) cs
choices_in-kept In old new k = each-weaken (IsChoiceIn In old) (IsChoiceIn In new) (choice_in-kept In old new k)

pub goals_in-on : (In : ℕ → Type 0) (s : Store) (path xs : List CellAtom) → AllByRecursion (IsAtomIn In s) path → AllByRecursion (IsAtomIn In s) xs → AllByRecursion (IsGoalIn In s) (cell_goals_on path xs)
goals_in-on In s path [] h k = tt
goals_in-on In s path (x ∷ xs) h k = (record { literal = k.0; path = h }, goals_in-on In s path xs h k.1)

-- ---- cells from a number on

pub from-parts : (base : ℕ) (rs : List ℕ) → ((k : ℕ) → IsPart k rs → base ≤ k) → IsTrue (list_all (nat_le base) rs)
from-parts base [] h = refl
from-parts base (r ∷ rs) h = and_from (nat_le base r) (list_all (nat_le base) rs) (le-leb base r (h r (0, refl))) (from-parts base rs (λ k p. h k (suc p.0, p.1)))

pub atom-in : (base : ℕ) (s : Store) (a : CellAtom) → IsTrue (is_cell_atom s a) → IsTrue (atom_is_from base a) → IsAtomIn (λ r. base ≤ r) s a
atom-in base s a h k =
    let w = and_parts (list_all (nat_le base) a.args) (list_all (nat_le base) a.label) k in
    record { sorted = h; args = part-from base a.args w.0; label = part-from base a.label w.1 }

pub atoms-in : (base : ℕ) (s : Store) (xs : List CellAtom) → IsTrue (list_all (is_cell_atom s) xs) → IsTrue (list_all (atom_is_from base) xs) → AllByRecursion (IsAtomIn (λ r. base ≤ r) s) xs
atoms-in base s [] h k = tt
atoms-in base s (x ∷ xs) h k =
    let w = and_parts (is_cell_atom s x) (list_all (is_cell_atom s) xs) h in
    let v = and_parts (atom_is_from base x) (list_all (atom_is_from base) xs) k in
    (atom-in base s x w.0 v.0, atoms-in base s xs w.1 v.1)

pub clause-in : (base : ℕ) (s : Store) (i : CellClause) → IsTrue (list_all (has_value_sort_at s) i.values) → IsTrue (list_all (nat_le base) i.values) → IsClauseIn (λ r. base ≤ r) s i
clause-in base s i h k = record { sorted = h; names = part-from base i.values k }

pub args-from : (base : ℕ) (s : Store) (a : CellAtom) → IsAtomIn (λ r. base ≤ r) s a → IsTrue (list_all (nat_le base) a.args)
args-from base s a h = from-parts base a.args h.args

pub label-from : (base : ℕ) (s : Store) (a : CellAtom) → IsAtomIn (λ r. base ≤ r) s a → IsTrue (list_all (nat_le base) a.label)
label-from base s a h = from-parts base a.label h.label

pub args-sorted : (s : Store) (a : CellAtom) → IsTrue (is_cell_atom s a) → IsTrue (list_all (has_sort_at s TermSort) a.args)
args-sorted s a h = (and_parts (list_all (has_sort_at s TermSort) a.args) (is_label s a.label) h).0

pub label-sorted : (s : Store) (a : CellAtom) → IsTrue (is_cell_atom s a) → IsTrue (is_label s a.label)
label-sorted s a h = (and_parts (list_all (has_sort_at s TermSort) a.args) (is_label s a.label) h).1

-- ---- cells of the store

either-there : (s : Store) (a b : Sort) (r : ℕ) → IsTrue (has_sort_at s a r || has_sort_at s b r) → IsTrue (nat_lt r (length s.cells))
either-there s a b r h = by (has_sort_at s a r) refl h
  where
    by : (t : Bool) → has_sort_at s a r ≡ t → IsTrue (t || has_sort_at s b r) → IsTrue (nat_lt r (length s.cells))
    by true e h = sorted-below s a r e
    by false e h = sorted-below s b r h

pub values-there : (s : Store) (rs : List ℕ) → IsTrue (list_all (has_value_sort_at s) rs) → IsTrue (names_below (length s.cells) rs)
values-there s = all-weaken (has_value_sort_at s) (λ r. nat_lt r (length s.cells)) (either-there s TermSort StringSort)

pub atom-there : (s : Store) (a : CellAtom) → IsTrue (is_cell_atom s a) → IsTrue (atom_is_below (length s.cells) a)
atom-there s a h =
    let w = and_parts (list_all (has_sort_at s TermSort) a.args) (is_label s a.label) h in
    and_from (names_below (length s.cells) a.args) (names_below (length s.cells) a.label)
    (all-weaken (has_sort_at s TermSort) (λ r. nat_lt r (length s.cells)) (sorted-below s TermSort) a.args w.0)
    (all-weaken (has_label_sort_at s) (λ r. nat_lt r (length s.cells)) (either-there s MarkSort StringSort) a.label w.1)

pub clause-there : (s : Store) (i : CellClause) → IsTrue (list_all (has_value_sort_at s) i.values) → IsTrue (list_all (is_cell_atom s) i.literals) → IsTrue (clause_is_below (length s.cells) i)
clause-there s i h k = and_from (names_below (length s.cells) i.values) (list_all (atom_is_below (length s.cells)) i.literals) (values-there s i.values h) (all-weaken (is_cell_atom s) (atom_is_below (length s.cells)) (atom-there s) i.literals k)

-- the variables of a template are terms and strings
pub variables-valued : (s : Store) (sorts : List Sort) (rs : List ℕ) → HaveSortsAt s sorts rs → IsTrue (list_all is_variable_sort sorts) → IsTrue (list_all (has_value_sort_at s) rs)
variables-valued s [] rs h k = ap (list_all (has_value_sort_at s)) h
variables-valued s (sort ∷ sorts) rs (r, qs, e, at, more) k =
    let w = and_parts (is_variable_sort sort) (list_all is_variable_sort sorts) k in
    ap (list_all (has_value_sort_at s)) e ∙ and_from (has_value_sort_at s r) (list_all (has_value_sort_at s) qs) (by sort at w.0) (variables-valued s sorts qs more w.1)
  where
    by : (x : Sort) → option_map sort_of (slice_get s.cells r) ≡ Some x → IsTrue (is_variable_sort x) → IsTrue (has_value_sort_at s r)
    by TermSort a v = ap (λ (o : Option Sort). option_map_or (sort_eq TermSort) o false || option_map_or (sort_eq StringSort) o false) a
    by MarkSort a v = absurd (false≢true v)
    by StringSort a v = ap (λ (o : Option Sort). option_map_or (sort_eq TermSort) o false || option_map_or (sort_eq StringSort) o false) a

-- ---- systems

gamma-kept : (old new : Store) → KeepsSorts old new → (g : GammaCell) → IsTrue (is_gamma_cell old g) → IsTrue (is_gamma_cell new g)
gamma-kept old new k g h =
    let w = and_parts (has_sort_at old TermSort g.term) (is_label old g.label) h in
    and_from (has_sort_at new TermSort g.term) (is_label new g.label) (sorted-kept old new k TermSort g.term w.0) (label-kept old new k g.label w.1)

equation-kept : (old new : Store) → KeepsSorts old new → (e : Equation) → IsTrue (is_equation old e) → IsTrue (is_equation new e)
equation-kept old new k e h =
    let w = and_parts (is_label old e.left) (is_label old e.right) h in
    and_from (is_label new e.left) (is_label new e.right) (label-kept old new k e.left w.0) (label-kept old new k e.right w.1)

pub atoms-equation : (s : Store) (a b : CellAtom) → IsTrue (is_cell_atom s a) → IsTrue (is_cell_atom s b) → IsTrue (is_equation s (record { left = a.label; right = b.label }))
atoms-equation s a b h k = and_from (is_label s a.label) (is_label s b.label) (label-sorted s a h) (label-sorted s b k)

abbrev pub is_pair_from : ℕ → Pair → Bool
is_pair_from base p = list_all (nat_le base) (cells_of_atom p.upper ++ cells_of_atom p.lower)

atom-cells : (base : ℕ) (s : Store) (a : CellAtom) → IsAtomIn (λ r. base ≤ r) s a → IsTrue (list_all (nat_le base) (cells_of_atom a))
atom-cells base s a h = all-append (nat_le base) a.args a.label (args-from base s a h) (label-from base s a h)

pairs-on : (base : ℕ) (s : Store) (a : CellAtom) (path : List CellAtom) → IsAtomIn (λ r. base ≤ r) s a → AllByRecursion (IsAtomIn (λ r. base ≤ r) s) path → IsTrue (list_all (is_pair s) (pairs_with a path)) × IsTrue (list_all (is_pair_from base) (pairs_with a path))
pairs-on base s a [] h k = (refl, refl)
pairs-on base s a (b ∷ path) h k =
    let rest = pairs-on base s a path h k.1 in (
      and_from (is_cell_atom s b && is_cell_atom s a) (list_all (is_pair s) (pairs_with a path)) (and_from (is_cell_atom s b) (is_cell_atom s a) k.0.sorted h.sorted) rest.0,
      and_from (list_all (nat_le base) (cells_of_atom b ++ cells_of_atom a)) (list_all (is_pair_from base) (pairs_with a path)) (all-append (nat_le base) (cells_of_atom b) (cells_of_atom a) (atom-cells base s b k.0) (atom-cells base s a h)) rest.1,
    )

-- the pairs of goals over cells from the number on
pub pairs-in : (base : ℕ) (s : Store) (gs : List CellGoal) → AllByRecursion (IsGoalIn (λ r. base ≤ r) s) gs → IsTrue (list_all (is_pair s) (pairs_of gs)) × IsTrue (list_all (is_pair_from base) (pairs_of gs))
pairs-in base s [] h = (refl, refl)
pairs-in base s (g ∷ gs) h =
    let first = pairs-on base s g.literal g.path h.0.literal h.0.path in
    let rest = pairs-in base s gs h.1 in
    (all-append (is_pair s) (pairs_with g.literal g.path) (pairs_of gs) first.0 rest.0, all-append (is_pair_from base) (pairs_with g.literal g.path) (pairs_of gs) first.1 rest.1)

flat-from : {A : Type 0} (q : ℕ → Bool) (f : A → List ℕ) (xs : List A) → IsTrue (list_all (λ x. list_all q (f x)) xs) → IsTrue (list_all q (flat_map f xs))
flat-from q f [] h = refl
flat-from q f (x ∷ xs) h =
    let w = and_parts (list_all q (f x)) (list_all (λ y. list_all q (f y)) xs) h in
    ap (list_all q) (flat_map-cons f x xs) ∙ all-append q (f x) (flat_map f xs) w.0 (flat-from q f xs w.1)

flat-each : {A : Type 0} (q : ℕ → Bool) (f : A → List ℕ) (xs : List A) → IsTrue (list_all q (flat_map f xs)) → IsTrue (list_all (λ x. list_all q (f x)) xs)
flat-each q f [] h = refl
flat-each q f (x ∷ xs) h =
    let w = all-parts q (f x) (flat_map f xs) (sym (ap (list_all q) (flat_map-cons f x xs)) ∙ h) in
    and_from (list_all q (f x)) (list_all (λ y. list_all q (f y)) xs) w.0 (flat-each q f xs w.1)

abbrev pub is_equation_from : ℕ → Equation → Bool
is_equation_from base e = list_all (nat_le base) (e.left ++ e.right)

-- the cells of a system have the number `base` or greater ones
pub record IsSystemFrom (base : ℕ) (y : System) : Type 0 where
  pub equations : IsTrue (list_all (is_equation_from base) y.equations)
  pub strings : IsTrue (list_all (nat_le base) y.strings)
  pub gammas : IsTrue (list_all (gamma_is_from base) y.gammas)
  pub pairs : IsTrue (list_all (is_pair_from base) y.pairs)

abbrev equation_cells : Equation → List ℕ
equation_cells e = e.left ++ e.right

abbrev gamma_cells : GammaCell → List ℕ
gamma_cells g = g.term ∷ g.label

abbrev pair_cells : Pair → List ℕ
pair_cells p = cells_of_atom p.upper ++ cells_of_atom p.lower

pub system-from : (base : ℕ) (y : System) → IsTrue (list_all (nat_le base) (cells_of y)) → IsSystemFrom base y
system-from base y h =
    let a = all-parts (nat_le base) (flat_map equation_cells y.equations ++ y.strings ++ flat_map gamma_cells y.gammas) (flat_map pair_cells y.pairs) h in
    let b = all-parts (nat_le base) (flat_map equation_cells y.equations ++ y.strings) (flat_map gamma_cells y.gammas) a.0 in
    let c = all-parts (nat_le base) (flat_map equation_cells y.equations) y.strings b.0 in
    record { equations = flat-each (nat_le base) equation_cells y.equations c.0; strings = c.1; gammas = flat-each (nat_le base) gamma_cells y.gammas b.1; pairs = flat-each (nat_le base) pair_cells y.pairs a.1 }

pub cells-from : (base : ℕ) (y : System) → IsSystemFrom base y → IsTrue (list_all (nat_le base) (cells_of y))
cells-from base y h =
    all-append (nat_le base) (flat_map equation_cells y.equations ++ y.strings ++ flat_map gamma_cells y.gammas) (flat_map pair_cells y.pairs)
    (all-append (nat_le base) (flat_map equation_cells y.equations ++ y.strings) (flat_map gamma_cells y.gammas)
    (all-append (nat_le base) (flat_map equation_cells y.equations) y.strings (flat-from (nat_le base) equation_cells y.equations h.equations) h.strings)
    (flat-from (nat_le base) gamma_cells y.gammas h.gammas))
    (flat-from (nat_le base) pair_cells y.pairs h.pairs)

-- what came to a system: equations, strings, gamma terms
pub record Added (base : ℕ) (s : Store) (equations : List Equation) (strings : List ℕ) (gammas : List GammaCell) : Type 0 where
  pub equations_fit : IsTrue (list_all (is_equation s) equations)
  pub equations_from : IsTrue (list_all (is_equation_from base) equations)
  pub strings_fit : IsTrue (list_all (has_sort_at s StringSort) strings)
  pub strings_from : IsTrue (list_all (nat_le base) strings)
  pub gammas_fit : IsTrue (list_all (is_gamma_cell s) gammas)
  pub gammas_from : IsTrue (list_all (gamma_is_from base) gammas)

abbrev pub with_added : System → List Equation → List ℕ → List GammaCell → ℕ → List Pair → System
with_added y equations strings gammas pis pairs = record { equations = y.equations ++ equations; strings = y.strings ++ strings; pis = pis; gammas = y.gammas ++ gammas; pairs = pairs }

-- the system with these, and the pairs of these goals
pub system-added : (base : ℕ) (old new : Store) (y : System) (equations : List Equation) (strings : List ℕ) (gammas : List GammaCell) (pis : ℕ) (every : List CellGoal) → KeepsSorts old new → IsTrue (is_system old y) → IsTrue (list_all (nat_le base) (cells_of y)) → Added base new equations strings gammas → AllByRecursion (IsGoalIn (λ r. base ≤ r) new) every → IsTrue (is_system new (with_added y equations strings gammas pis (pairs_of every))) × IsTrue (list_all (nat_le base) (cells_of (with_added y equations strings gammas pis (pairs_of every))))
system-added base old new y equations strings gammas pis every k h l a goals = (
  and_from (list_all (is_equation new) (y.equations ++ equations) && list_all (has_sort_at new StringSort) (y.strings ++ strings) && list_all (is_gamma_cell new) (y.gammas ++ gammas)) (list_all (is_pair new) (pairs_of every))
      (and_from (list_all (is_equation new) (y.equations ++ equations) && list_all (has_sort_at new StringSort) (y.strings ++ strings)) (list_all (is_gamma_cell new) (y.gammas ++ gammas))
      (and_from (list_all (is_equation new) (y.equations ++ equations)) (list_all (has_sort_at new StringSort) (y.strings ++ strings))
      (all-append (is_equation new) y.equations equations (all-weaken (is_equation old) (is_equation new) (equation-kept old new k) y.equations parts.equations) a.equations_fit)
      (all-append (has_sort_at new StringSort) y.strings strings (strings-kept old new k y.strings parts.strings) a.strings_fit))
      (all-append (is_gamma_cell new) y.gammas gammas (all-weaken (is_gamma_cell old) (is_gamma_cell new) (gamma-kept old new k) y.gammas parts.gammas) a.gammas_fit))
      pairs.0,
  cells-from base (with_added y equations strings gammas pis (pairs_of every)) (record {
    equations = all-append (is_equation_from base) y.equations equations from.equations a.equations_from;
    strings = all-append (nat_le base) y.strings strings from.strings a.strings_from;
    gammas = all-append (gamma_is_from base) y.gammas gammas from.gammas a.gammas_from;
    pairs = pairs.1;
  }),
)
  where
    parts : SystemParts old y
    parts = system-parts old y h

    from : IsSystemFrom base y
    from = system-from base y l

    pairs : IsTrue (list_all (is_pair new) (pairs_of every)) × IsTrue (list_all (is_pair_from base) (pairs_of every))
    pairs = pairs-in base new every goals
