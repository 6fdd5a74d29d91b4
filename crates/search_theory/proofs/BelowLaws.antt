-- What names cells of a store names cells of each longer one.
use Rattle.std.proofs.Common.{ℕ, ◌≤◌, ◌<◌, List, [], ◌∷◌, take, drop, remove, suc, Bool, ◌&&◌, IsTrue, refl, nat_lt, ltb-true, lt-ltb, arith}
use Rattle.std.specs.List.{list_all}
use Rattle.std.proofs.lemmas.Bool.{and_parts, and_from}
use Rattle.plain_laws.proofs.Every.{all-drop, all-append, all-take, all-weaken}
use Rattle.calculus.specs.Choices.{start, reduction, extension}
use Rattle.store_theory.specs.Stores.{names_below}
use Rattle.store_theory.specs.Systems.{CellAtom}
use Rattle.search_theory.specs.States.{CellClause, CellChoice, CellGoal, atom_is_below, clause_is_below, choice_is_below, goal_is_below, cell_goals_on}

cell-more : (n m : ℕ) → n ≤ m → (r : ℕ) → IsTrue (nat_lt r n) → IsTrue (nat_lt r m)
cell-more n m l r h = let e : r < n = ltb-true r n h in lt-ltb r m (omega (arith, e, l))

pub names-more : (n m : ℕ) → n ≤ m → (rs : List ℕ) → IsTrue (names_below n rs) → IsTrue (names_below m rs)
names-more n m l = all-weaken (λ r. nat_lt r n) (λ r. nat_lt r m) (cell-more n m l)

pub atom-more : (n m : ℕ) → n ≤ m → (a : CellAtom) → IsTrue (atom_is_below n a) → IsTrue (atom_is_below m a)
atom-more n m l a h = let p = and_parts (names_below n a.args) (names_below n a.label) h in and_from (names_below m a.args) (names_below m a.label) (names-more n m l a.args p.0) (names-more n m l a.label p.1)

clause-more : (n m : ℕ) → n ≤ m → (i : CellClause) → IsTrue (clause_is_below n i) → IsTrue (clause_is_below m i)
clause-more n m l i h = let p = and_parts (names_below n i.values) (list_all (atom_is_below n) i.literals) h in and_from (names_below m i.values) (list_all (atom_is_below m) i.literals) (names-more n m l i.values p.0) (all-weaken (atom_is_below n) (atom_is_below m) (atom-more n m l) i.literals p.1)

pub choice-more : (n m : ℕ) → n ≤ m → (c : CellChoice) → IsTrue (choice_is_below n c) → IsTrue (choice_is_below m c)
choice-more n m l (start i) h = clause-more n m l i h
choice-more n m l (reduction up) h = refl
choice-more n m l (extension i place) h = clause-more n m l i h

pub goal-more : (n m : ℕ) → n ≤ m → (g : CellGoal) → IsTrue (goal_is_below n g) → IsTrue (goal_is_below m g)
goal-more n m l g h =
    let p = and_parts (atom_is_below n g.literal) (list_all (atom_is_below n) g.path) h in
    and_from (atom_is_below m g.literal) (list_all (atom_is_below m) g.path) (atom-more n m l g.literal p.0) (all-weaken (atom_is_below n) (atom_is_below m) (atom-more n m l) g.path p.1)

pub goals-more : (n m : ℕ) → n ≤ m → (gs : List CellGoal) → IsTrue (list_all (goal_is_below n) gs) → IsTrue (list_all (goal_is_below m) gs)
goals-more n m l = all-weaken (goal_is_below n) (goal_is_below m) (goal-more n m l)

pub all-remove : {A : Type 0} (p : A → Bool) (xs : List A) (k : ℕ) → IsTrue (list_all p xs) → IsTrue (list_all p (remove xs k))
all-remove p xs k h = all-append p (take k xs) (drop (suc k) xs) (all-take p k xs h) (all-drop p (suc k) xs h)

pub goals-below : (n : ℕ) (path xs : List CellAtom) → IsTrue (list_all (atom_is_below n) path) → IsTrue (list_all (atom_is_below n) xs) → IsTrue (list_all (goal_is_below n) (cell_goals_on path xs))
goals-below n path [] h g = refl
goals-below n path (x ∷ xs) h g =
    let p = and_parts (atom_is_below n x) (list_all (atom_is_below n) xs) g in
    and_from (atom_is_below n x && list_all (atom_is_below n) path) (list_all (goal_is_below n) (cell_goals_on path xs)) (and_from (atom_is_below n x) (list_all (atom_is_below n) path) p.0 h) (goals-below n path xs h p.1)
