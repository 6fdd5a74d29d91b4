-- Where the cells of a system stand, that a system stays one, and what adding built cells is for solving.
use Rattle.std.proofs.Common.{◌≡◌, ℕ, zero, suc, ◌+◌, List, [], ◌∷◌, ◌++◌, ◌&&◌, ◌||◌, IsTrue, ap, ◌∙◌, Some, slice_get}
use Rattle.std.specs.List.{list_all, flat_map, AllByRecursion}
use Rattle.std.proofs.lemmas.Bool.{and_parts, and_from}
use Rattle.plain_laws.proofs.Every.{all-weaken}
use Rattle.calculus.specs.declared.sort.Sort.{Sort}
use Rattle.calculus.specs.declared.sort.Sort.TheVariants.{TermSort, MarkSort, StringSort}
use Rattle.store_theory.specs.Stores.{Store, has_sort_at, GammaCell}
use Rattle.store_theory.specs.Systems.{CellAtom, Equation, Pair, System, is_label, is_equation, is_gamma_cell, is_cell_atom, is_pair, is_system, cells_of_atom, cells_of}
use Rattle.search_theory.specs.Solving.{HasCells}
use Rattle.search_theory.proofs.SpareLaws.{or-both}
use Rattle.search_theory.specs.CellsIn.{IsPart}
use Rattle.search_theory.proofs.SolvingLaws.{system-parts, PairIn, HasPairsIn}

-- ---- parts of joined lists

part-left : (k : ℕ) (xs ys : List ℕ) → IsPart k xs → IsPart k (xs ++ ys)
part-left k [] ys p = let z = p.1 in cc z
part-left k (x ∷ xs) ys (zero, e) = (zero, e)
part-left k (x ∷ xs) ys (suc i, e) = let q = part-left k xs ys (i, e) in (suc q.0, q.1)

part-right : (k : ℕ) (xs ys : List ℕ) → IsPart k ys → IsPart k (xs ++ ys)
part-right k [] ys p = p
part-right k (x ∷ xs) ys p = let q = part-right k xs ys p in (suc q.0, q.1)

part-flat : {A : Type 0} (f : A → List ℕ) (xs : List A) (j : ℕ) (x : A) (k : ℕ) → slice_get xs j ≡ Some x → IsPart k (f x) → IsPart k (flat_map f xs)
part-flat f [] j x k e p = cc e
part-flat f (y ∷ ys) zero x k e p = let q : y ≡ x = cc e in part-left k (f y) (flat_map f ys) (p.0, ap (λ z. slice_get (f z) p.0) q ∙ p.1)
part-flat f (y ∷ ys) (suc j) x k e p = part-right k (f y) (flat_map f ys) (part-flat f ys j x k e p)

-- ---- the cells of a system

abbrev gamma_cells : GammaCell → List ℕ
gamma_cells g = g.term ∷ g.label

abbrev pair_cells : Pair → List ℕ
pair_cells p = cells_of_atom p.upper ++ cells_of_atom p.lower

abbrev equation_cells : Equation → List ℕ
equation_cells e = e.left ++ e.right

-- the labels of the gamma terms
pub labels-in : (In : ℕ → Type 0) (y : System) → HasCells In y → (j k : ℕ) (g : GammaCell) → slice_get y.gammas j ≡ Some g → IsPart k g.label → In k
labels-in In y h j k g e p =
    let inside : IsPart k (flat_map gamma_cells y.gammas) = part-flat gamma_cells y.gammas j g k e (suc p.0, p.1) in
    let found : IsPart k (cells_of y) = part-left k (flat_map equation_cells y.equations ++ y.strings ++ flat_map gamma_cells y.gammas) (flat_map pair_cells y.pairs) (part-right k (flat_map equation_cells y.equations ++ y.strings) (flat_map gamma_cells y.gammas) inside) in
    h found.0 k found.1

-- the atoms of the pairs
pub pairs-in : (In : ℕ → Type 0) (s : Store) (y : System) → IsTrue (is_system s y) → HasCells In y → HasPairsIn In s y
pairs-in In s y well h = record { pairs = each y.pairs (system-parts s y well).pairs (λ k p. (let found = part-right k (flat_map equation_cells y.equations ++ y.strings ++ flat_map gamma_cells y.gammas) (flat_map pair_cells y.pairs) p in h found.0 k found.1)) }
  where
    each : (ps : List Pair) → IsTrue (list_all (is_pair s) ps) → ((k : ℕ) → IsPart k (flat_map pair_cells ps) → In k) → AllByRecursion (PairIn In s) ps
    each [] a i = tt
    each (p ∷ ps) a i =
        let q = and_parts (is_pair s p) (list_all (is_pair s) ps) a in
        let r = and_parts (is_cell_atom s p.upper) (is_cell_atom s p.lower) q.0 in
        let here : (k : ℕ) → IsPart k (pair_cells p) → In k = λ k x. i k (part-left k (pair_cells p) (flat_map pair_cells ps) x) in (
          (
            record { sorted = r.0; args = λ k x. here k (part-left k (cells_of_atom p.upper) (cells_of_atom p.lower) (part-left k p.upper.args p.upper.label x)); label = λ k x. here k (part-left k (cells_of_atom p.upper) (cells_of_atom p.lower) (part-right k p.upper.args p.upper.label x)) },
            record { sorted = r.1; args = λ k x. here k (part-right k (cells_of_atom p.upper) (cells_of_atom p.lower) (part-left k p.lower.args p.lower.label x)); label = λ k x. here k (part-right k (cells_of_atom p.upper) (cells_of_atom p.lower) (part-right k p.lower.args p.lower.label x)) },
          ),
          each ps q.1 (λ k x. i k (part-right k (pair_cells p) (flat_map pair_cells ps) x)),
        )

-- ---- sorts stay

-- each cell of the old store has its sort in the new one
abbrev pub KeepsSorts : Store → Store → Type 0
KeepsSorts old new = (sort : Sort) (r : ℕ) → IsTrue (has_sort_at old sort r) → IsTrue (has_sort_at new sort r)

label-stays : (old new : Store) → KeepsSorts old new → (rs : List ℕ) → IsTrue (is_label old rs) → IsTrue (is_label new rs)
label-stays old new k rs h = all-weaken (λ r. has_sort_at old MarkSort r || has_sort_at old StringSort r) (λ r. has_sort_at new MarkSort r || has_sort_at new StringSort r) (λ r. or-both (has_sort_at old MarkSort r) (has_sort_at old StringSort r) (has_sort_at new MarkSort r) (has_sort_at new StringSort r) (k MarkSort r) (k StringSort r)) rs h

atom-stays : (old new : Store) → KeepsSorts old new → (a : CellAtom) → IsTrue (is_cell_atom old a) → IsTrue (is_cell_atom new a)
atom-stays old new k a h =
    let p = and_parts (list_all (has_sort_at old TermSort) a.args) (is_label old a.label) h in
    and_from (list_all (has_sort_at new TermSort) a.args) (is_label new a.label) (all-weaken (has_sort_at old TermSort) (has_sort_at new TermSort) (k TermSort) a.args p.0) (label-stays old new k a.label p.1)

-- a system stays one
pub system-stays : (old new : Store) (y : System) → KeepsSorts old new → IsTrue (is_system old y) → IsTrue (is_system new y)
system-stays old new y k h =
    let p = system-parts old y h in
    and_from (list_all (is_equation new) y.equations && list_all (has_sort_at new StringSort) y.strings && list_all (is_gamma_cell new) y.gammas) (list_all (is_pair new) y.pairs)
    (and_from (list_all (is_equation new) y.equations && list_all (has_sort_at new StringSort) y.strings) (list_all (is_gamma_cell new) y.gammas)
    (and_from (list_all (is_equation new) y.equations) (list_all (has_sort_at new StringSort) y.strings)
    (all-weaken (is_equation old) (is_equation new) (λ e q. (let r = and_parts (is_label old e.left) (is_label old e.right) q in and_from (is_label new e.left) (is_label new e.right) (label-stays old new k e.left r.0) (label-stays old new k e.right r.1))) y.equations p.equations)
    (all-weaken (has_sort_at old StringSort) (has_sort_at new StringSort) (k StringSort) y.strings p.strings))
    (all-weaken (is_gamma_cell old) (is_gamma_cell new) (λ g q. (let r = and_parts (has_sort_at old TermSort g.term) (is_label old g.label) q in and_from (has_sort_at new TermSort g.term) (is_label new g.label) (k TermSort g.term r.0) (label-stays old new k g.label r.1))) y.gammas p.gammas))
    (all-weaken (is_pair old) (is_pair new) (λ q w. (let r = and_parts (is_cell_atom old q.upper) (is_cell_atom old q.lower) w in and_from (is_cell_atom new q.upper) (is_cell_atom new q.lower) (atom-stays old new k q.upper r.0) (atom-stays old new k q.lower r.1))) y.pairs p.pairs)
