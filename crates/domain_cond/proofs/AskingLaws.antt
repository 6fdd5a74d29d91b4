-- What a domain condition asks names no cell below those that its gamma terms name, and what it adds is built right.
use Rattle.std.proofs.Common.{◌≡◌, ℕ, zero, suc, ◌≤◌, List, [], ◌∷◌, ◌++◌, take, length, map, true, ◌&&◌, IsTrue, refl, sym, ◌∙◌, ap, subst, Some, slice_get, arith, nat_le, le-leb, leb-true}
use Rattle.std.specs.List.{list_all, flat_map}
use Rattle.std.proofs.lemmas.Bool.{and_from, and_parts}
use Rattle.plain_laws.proofs.Every.{all-append, all-at, all-parts}
use Rattle.calculus.specs.Skolem.{fits_way, is_delta_position}
use Rattle.calculus.specs.Syntax.{Problem}
use Rattle.calculus.proofs.PlaceLists.{all-from}
use Rattle.cop_base.specs.declared.PosId.{PosId}
use Rattle.store_theory.specs.Bindings.{EndsIn, NamesFrom, with_cell}
use Rattle.store_theory.specs.Stores.{variable, fun_cell, eigen_cell, new_cell, GammaCell, Store, Solution, Solves, Holds, itself, bound, argument}
use Rattle.store_theory.specs.Systems.{AreEqual, Equation, Pair, System, cells_of, cells_of_atom}
use Rattle.search_theory.specs.KeepingCells.{AddsRight, EquatesRight, equation_cells, gamma_cells}
use Rattle.search_theory.specs.LabelledCells.{AreLabelled, sort_values}
use Rattle.search_theory.proofs.FromLaws.{names-labelled}
use Rattle.term_store.specs.Shown.{head_of}
use Rattle.term_store.specs.declared.cell.Head.{Head}
use Rattle.term_store.specs.declared.cell.Head.TheVariants.{Eigen}
use Rattle.domain_cond.specs.Conditions.{IsNeverEqual, NamesGammas}
use Rattle.domain_cond.specs.Leaves.{AreLeaves}
use Rattle.domain_cond.proofs.LeafLaws.{eigen-head}

-- ---- eigenvariables

-- an eigenvariable that is built right has values that fit, so what its home adds is built right
pub right-eigen : (P : Problem) (old new : Store) (e : ℕ) (head : Head) (q : PosId) (p : ℕ) (rs vs ks : List ℕ) → slice_get old.cells e ≡ Some (eigen_cell p rs) → EndsIn old e (λ c. head_of c ≡ head) → head ≡ Eigen q → vs ≡ rs → (IsTrue (fits_way P q.0 (sort_values old vs)) → AddsRight P vs old new ks) → AddsRight P (e ∷ []) old new ks
right-eigen P old new e head q p rs vs ks at t is values home base low from a =
    let place : p ≡ q.0 = (let z = eigen-head old e head p rs at t ∙ is in let y : record { 0 = p } ≡ q = cc z in ap (λ (x : PosId). x.0) y) in
    let l = leb-true base e (and_parts (nat_le base e) true from).0 in
    let fits = (and_parts (is_delta_position P p) (fits_way P p (sort_values old rs)) (a.built e (eigen_cell p rs) l at)).1 in
    let named : IsTrue (list_all (nat_le base) rs) = all-from (nat_le base) rs (λ i k f. le-leb base k (a.names e k i (eigen_cell p rs) l at f)) in
    home (subst (λ xs. IsTrue (fits_way P q.0 (sort_values old xs))) (sym values) (subst (λ x. IsTrue (fits_way P x (sort_values old rs))) place fits)) base low (subst (λ xs. IsTrue (list_all (nat_le base) xs)) (sym values) named) a

-- the equation of a home and a part of the label
pub right-compared : (P : Problem) (old new : Store) (e : ℕ) (label home part : List ℕ) → AddsRight P (e ∷ []) old new home → ((base : ℕ) → NamesFrom base new → IsTrue (list_all (nat_le base) label) → IsTrue (list_all (nat_le base) part)) → AddsRight P (e ∷ label) old new (home ++ part)
right-compared P old new e label home part adds parts base low from a =
    let p = and_parts (nat_le base e) (list_all (nat_le base) label) from in
    let (b, hs) = adds base low (and_from (nat_le base e) true p.0 refl) a in
    (b, all-append (nat_le base) home part hs (parts base (names-labelled P base new b) p.1))

-- ---- gamma terms

-- what stands in a term from `base` on is from `base` on
holds-from : (base : ℕ) (s : Store) → NamesFrom base s → (e r : ℕ) → Holds s e r → base ≤ r → base ≤ e
holds-from base s h e r itself l = l
holds-from base s h e r (bound {k = k} {sort = sort} at more) l = holds-from base s h e k more (leb-true base k (and_parts (nat_le base k) true (h r (variable sort (Some k)) l at)).0)
holds-from base s h e r (argument i {f = f} {k = k} {rs = rs} at p more) l = holds-from base s h e k more (leb-true base k (all-at (nat_le base) rs i k (h r (fun_cell f rs) l at) p))

pub right-leaf : (P : Problem) (old new : Store) (g : GammaCell) (es : List ℕ) (i leaf : ℕ) (ls : List ℕ) → AreLeaves old g.term es → slice_get es i ≡ Some leaf → AddsRight P (leaf ∷ g.label) old new ls → AddsRight P (gamma_cells g) old new ls
right-leaf P old new g es i leaf ls leaves at adds base low from a =
    let p = and_parts (nat_le base g.term) (list_all (nat_le base) g.label) from in
    let l = holds-from base old (names-labelled P base old a) leaf g.term (leaves.held i leaf at).0 (leb-true base g.term p.0) in
    adds base low (and_from (nat_le base leaf) (list_all (nat_le base) g.label) (le-leb base leaf l) p.1) a

abbrev pair_cells : Pair → List ℕ
pair_cells p = cells_of_atom p.upper ++ cells_of_atom p.lower

-- the gamma terms are some of the system's cells
gammas-from : (base : ℕ) (y : System) → IsTrue (list_all (nat_le base) (cells_of y)) → IsTrue (list_all (nat_le base) (flat_map gamma_cells y.gammas))
gammas-from base y h =
    let es = flat_map equation_cells y.equations in
    let gs = flat_map gamma_cells y.gammas in
    (all-parts (nat_le base) (es ++ y.strings) gs (all-parts (nat_le base) (es ++ y.strings ++ gs) (flat_map pair_cells y.pairs) h).0).1

gamma-from : (base : ℕ) (gs : List GammaCell) (j : ℕ) (g : GammaCell) → slice_get gs j ≡ Some g → IsTrue (list_all (nat_le base) (flat_map gamma_cells gs)) → IsTrue (list_all (nat_le base) (gamma_cells g))
gamma-from base [] j g at h = cc at
gamma-from base (x ∷ gs) zero g at h = let z : x ≡ g = cc at in subst (λ y. IsTrue (list_all (nat_le base) (gamma_cells y))) z (all-parts (nat_le base) (gamma_cells x) (flat_map gamma_cells gs) h).0
gamma-from base (x ∷ gs) (suc j) g at h = gamma-from base gs j g at (all-parts (nat_le base) (gamma_cells x) (flat_map gamma_cells gs) h).1

pub right-gamma : (P : Problem) (old new : Store) (y : System) (j : ℕ) (g : GammaCell) (ls : List ℕ) → slice_get y.gammas j ≡ Some g → AddsRight P (gamma_cells g) old new ls → AddsRight P (cells_of y) old new ls
right-gamma P old new y j g ls at adds base low from a = adds base low (gamma-from base y.gammas j g at (gammas-from base y from)) a

-- ---- equations

pub right-asked : (P : Problem) (ks : List ℕ) (old new : Store) (e : Equation) → AddsRight P ks old new (equation_cells e) → EquatesRight P ks old new e
right-asked P ks old new e adds σ t equal = adds

-- an equation that nothing solves
pub right-never : (P : Problem) (ks : List ℕ) (old new : Store) (e : Equation) → IsNeverEqual new e → EquatesRight P ks old new e
right-never P ks old new e never σ t equal = absurd (never σ t equal)

-- an equation between labels of gamma terms, for which nothing was added
pub right-labels : (P : Problem) (s : Store) (y : System) (e : Equation) → NamesGammas y.gammas e → EquatesRight P (cells_of y) s s e
right-labels P s y e names σ t equal base low from a = (a, names base (gammas-from base y from))

pub names-labels : (gs : List GammaCell) (i j : ℕ) (g h : GammaCell) (e : Equation) → slice_get gs i ≡ Some g → slice_get gs j ≡ Some h → e.left ≡ g.label → e.right ≡ h.label → NamesGammas gs e
names-labels gs i j g h e at_g at_h left right base from =
    let p = and_parts (nat_le base g.term) (list_all (nat_le base) g.label) (gamma-from base gs i g at_g from) in
    let q = and_parts (nat_le base h.term) (list_all (nat_le base) h.label) (gamma-from base gs j h at_h from) in
    all-append (nat_le base) e.left e.right (subst (λ xs. IsTrue (list_all (nat_le base) xs)) (sym left) p.1) (subst (λ xs. IsTrue (list_all (nat_le base) xs)) (sym right) q.1)

-- a front of what is named is named
pub taken-from : (base n : ℕ) (xs ys : List ℕ) → ys ≡ take n xs → IsTrue (list_all (nat_le base) xs) → IsTrue (list_all (nat_le base) ys)
taken-from base n xs ys e h = subst (λ zs. IsTrue (list_all (nat_le base) zs)) (sym e) (fewer n xs h)
  where
    fewer : (k : ℕ) (zs : List ℕ) → IsTrue (list_all (nat_le base) zs) → IsTrue (list_all (nat_le base) (take k zs))
    fewer zero zs f = refl
    fewer (suc k) [] f = refl
    fewer (suc k) (z ∷ zs) f = let p = and_parts (nat_le base z) (list_all (nat_le base) zs) f in and_from (nat_le base z) (list_all (nat_le base) (take k zs)) p.0 (fewer k zs p.1)
