-- Meeting a demand: each equation binds a variable, and keeps what meets the demand.
use Rattle.std.proofs.Common.{◌≡◌, ◌⊎◌, ℕ, suc, ◌+◌, ◌<◌, ◌≤◌, List, [], ◌∷◌, ◌++◌, length, Bool, true, false, IsTrue, refl, sym, ◌∙◌, ap, ap₂, Some, None, slice_get, inl, inr, arith, nat_lt, lt-ltb, ltb-true}
use Rattle.std.specs.List.{list_all, flat_map}
use Rattle.std.proofs.lemmas.Bool.{and_parts, and_from, false≢true}
use Rattle.plain_laws.proofs.Every.{all-at, all-append}
use Rattle.store_theory.proofs.BindingLaws.{within-sort}
use Rattle.calculus.specs.declared.sort.Sort.{Sort}
use Rattle.calculus.specs.declared.sort.Sort.TheVariants.{TermSort, StringSort}
use Rattle.store_theory.specs.Bindings.{AddsBuilt, BindsOnly, is_variable, nothing_more, one_more, with_cell}
use Rattle.calculus.specs.Syntax.{Problem}
use Rattle.calculus.specs.Instances.{GammaUse}
use Rattle.store_theory.specs.Stores.{Cell, variable, fun_cell, eigen_cell, new_cell, string_cell, Store, has_sort_at, names_below, Solution, Solves, GammaCell}
use Rattle.store_theory.specs.Systems.{CellAtom, Equation, Pair, System, is_label, is_equation, is_gamma_cell, is_cell_atom, is_pair, is_system, cells_of, cells_of_atom, AreEqual, AreEqualNow, AreUses, MeetsDemand, HasBuiltStrings, HasNoOpenString, IsDemandEquation}
use Rattle.search_theory.specs.KeepingCells.{EquatesRight, KeepsRight, SolvesRight, equation_cells, gamma_cells}
use Rattle.search_theory.specs.Solving.{CannotEqual, IsNarrowed}
use Rattle.search_theory.specs.States.{Agree}
use Rattle.search_theory.proofs.BuildingLaws.{adds-back, adds-forth, adds-longer, agree-both}
use Rattle.search_theory.proofs.SolvingLaws.{all-below, label-below, label_at-agree, system-parts}
use Rattle.search_theory.proofs.SystemCells.{system-stays}
use Rattle.prefix_split.specs.Later.{HasNoString, IsLater}
use Rattle.prefix_split.specs.Meeting.{IsForced}
use Rattle.prefix_split.proofs.LaterLaws.{later-added, later-both, later-same}
use Rattle.prefix_split.proofs.ListItems.{IsItem, item-flat, item-left, item-right}

-- ---- how many variables are unbound

abbrev open_flag : Cell → ℕ
open_flag (variable sort None) = 1
open_flag (variable sort (Some k)) = 0
open_flag (fun_cell f rs) = 0
open_flag (eigen_cell p rs) = 0
open_flag (new_cell p rs) = 0
open_flag (string_cell rs) = 0

pub open_number : List Cell → ℕ
open_number [] = 0
open_number (c ∷ cs) = open_flag c + open_number cs

number-last : (cs : List Cell) (c : Cell) → is_variable c ≡ false → open_number (cs ++ c ∷ []) ≡ open_number cs
unfolding open_number
number-last [] c h = by c h
  where
    by : (c : Cell) → is_variable c ≡ false → open_flag c + 0 ≡ 0
    by (variable sort b) h = absurd (false≢true (sym h))
    by (fun_cell f rs) h = refl
    by (eigen_cell p rs) h = refl
    by (new_cell p rs) h = refl
    by (string_cell rs) h = refl
number-last (d ∷ cs) c h = ap (λ n. open_flag d + n) (number-last cs c h)

number-added : (s t : Store) → AddsBuilt s t → open_number t.cells ≡ open_number s.cells
number-added s t nothing_more = refl
number-added s t (one_more c h f v more) = number-added (with_cell c s) t more ∙ number-last s.cells c v

number-bound : (cs ds : List Cell) → length ds ≡ length cs → ((n : ℕ) (c : Cell) → slice_get cs n ≡ Some c → (slice_get ds n ≡ Some c) ⊎ ((sort : Sort) × (r : ℕ) × (c ≡ variable sort None) × (slice_get ds n ≡ Some (variable sort (Some r))))) → (ds ≡ cs) ⊎ (open_number ds < open_number cs)
unfolding open_number
number-bound [] [] l h = inl refl
number-bound [] (d ∷ ds) l h = cc l
number-bound (c ∷ cs) [] l h = cc l
number-bound (c ∷ cs) (d ∷ ds) l h = by (number-bound cs ds (let k : suc (length ds) ≡ suc (length cs) = l in omega (arith, k)) (λ n x e. h (suc n) x e)) (h 0 c refl)
  where
    by : (ds ≡ cs) ⊎ (open_number ds < open_number cs) → (Some d ≡ Some c) ⊎ ((sort : Sort) × (r : ℕ) × (c ≡ variable sort None) × (Some d ≡ Some (variable sort (Some r)))) → (d ∷ ds ≡ c ∷ cs) ⊎ (open_flag d + open_number ds < open_flag c + open_number cs)
    by (inl q) (inl e) = let p : d ≡ c = cc e in inl (ap₂ (λ x xs. x ∷ xs) p q)
    by (inr k) (inl e) = let p : d ≡ c = cc e in let f = ap open_flag p in inr (omega (arith, k, f))
    by (inl q) (inr (sort, r, p, e)) = let z : d ≡ variable sort (Some r) = cc e in let f = ap open_flag z in let g = ap open_flag p in let n = ap open_number q in inr (omega (arith, f, g, n))
    by (inr k) (inr (sort, r, p, e)) = let z : d ≡ variable sort (Some r) = cc e in let f = ap open_flag z in let g = ap open_flag p in inr (omega (arith, f, g, k))

-- an equation that did not hold yet binds
pub fewer-open : (s t u : Store) (e : Equation) → AddsBuilt s t → BindsOnly t u → IsNarrowed t u (λ σ. AreEqual σ e) → ¬ AreEqualNow t e → open_number u.cells < open_number s.cells
fewer-open s t u e a b n unequal = elim (number-bound t.cells u.cells b.same_length b.cells) [
  | inl same ↦ absurd (unequal (λ σ k. (n.back σ (λ j c q. k j c (ap (λ cs. slice_get cs j) (sym same) ∙ q))).1))
  | inr less ↦ (let m = number-added s t a in omega (arith, less, m))
]

-- ---- cells of the system

below-flat : {A : Type 0} (n : ℕ) (q : A → Bool) (f : A → List ℕ) → ((x : A) → IsTrue (q x) → IsTrue (names_below n (f x))) → (xs : List A) → IsTrue (list_all q xs) → IsTrue (names_below n (flat_map f xs))
below-flat n q f h [] k = refl
below-flat n q f h (x ∷ xs) k = let p = and_parts (q x) (list_all q xs) k in all-append (λ r. nat_lt r n) (f x) (flat_map f xs) (h x p.0) (below-flat n q f h xs p.1)

atom-cells : (s : Store) (a : CellAtom) → IsTrue (is_cell_atom s a) → IsTrue (names_below (length s.cells) (cells_of_atom a))
atom-cells s a h = let p = and_parts (list_all (has_sort_at s TermSort) a.args) (is_label s a.label) h in all-append (λ r. nat_lt r (length s.cells)) a.args a.label (all-below s TermSort a.args p.0) (label-below s a.label p.1)

system-cells : (s : Store) (y : System) → IsTrue (is_system s y) → IsTrue (names_below (length s.cells) (cells_of y))
system-cells s y h =
    let p = system-parts s y h in
    let n = length s.cells in
    let below = λ (r : ℕ). nat_lt r n in
    let equations = below-flat n (is_equation s) (λ (e : Equation). e.left ++ e.right) (λ e q. (let r = and_parts (is_label s e.left) (is_label s e.right) q in all-append below e.left e.right (label-below s e.left r.0) (label-below s e.right r.1))) y.equations p.equations in
    let gammas = below-flat n (is_gamma_cell s) (λ (g : GammaCell). g.term ∷ g.label) (λ g q. (let r = and_parts (has_sort_at s TermSort g.term) (is_label s g.label) q in and_from (below g.term) (names_below n g.label) (lt-ltb g.term n (within-sort s TermSort g.term r.0)) (label-below s g.label r.1))) y.gammas p.gammas in
    let pairs = below-flat n (is_pair s) (λ (q : Pair). cells_of_atom q.upper ++ cells_of_atom q.lower) (λ q k. (let r = and_parts (is_cell_atom s q.upper) (is_cell_atom s q.lower) k in all-append below (cells_of_atom q.upper) (cells_of_atom q.lower) (atom-cells s q.upper r.0) (atom-cells s q.lower r.1))) y.pairs p.pairs in
    let es = flat_map (λ (e : Equation). e.left ++ e.right) y.equations in
    let gs = flat_map (λ (g : GammaCell). g.term ∷ g.label) y.gammas in
    let ps = flat_map (λ (q : Pair). cells_of_atom q.upper ++ cells_of_atom q.lower) y.pairs in
    all-append below (es ++ y.strings ++ gs) ps (all-append below (es ++ y.strings) gs (all-append below es y.strings equations (all-below s StringSort y.strings p.strings)) gammas) pairs

pub cell-within : (s : Store) (y : System) (i r : ℕ) → IsTrue (is_system s y) → slice_get (cells_of y) i ≡ Some r → r < length s.cells
cell-within s y i r h e = ltb-true r (length s.cells) (all-at (λ x. nat_lt x (length s.cells)) (cells_of y) i r (system-cells s y h) e)

abbrev pair_cells : Pair → List ℕ
pair_cells p = cells_of_atom p.upper ++ cells_of_atom p.lower

equation-item : (y : System) (i : ℕ) (e : Equation) (r : ℕ) → slice_get y.equations i ≡ Some e → IsItem r (equation_cells e) → IsItem r (cells_of y)
equation-item y i e r at p =
    let es = flat_map equation_cells y.equations in
    let gs = flat_map gamma_cells y.gammas in
    let ps = flat_map pair_cells y.pairs in
    item-left r (es ++ y.strings ++ gs) ps (item-left r (es ++ y.strings) gs (item-left r es y.strings (item-flat equation_cells y.equations i e r at p)))

pair-item : (y : System) (i : ℕ) (p : Pair) (r : ℕ) → slice_get y.pairs i ≡ Some p → IsItem r (pair_cells p) → IsItem r (cells_of y)
pair-item y i p r at q =
    let es = flat_map equation_cells y.equations in
    let gs = flat_map gamma_cells y.gammas in
    item-right r (es ++ y.strings ++ gs) (flat_map pair_cells y.pairs) (item-flat pair_cells y.pairs i p r at q)

pub equation-free : (s : Store) (y : System) → HasNoOpenString s y → (i : ℕ) (e : Equation) → slice_get y.equations i ≡ Some e → HasNoString s e.left × HasNoString s e.right
equation-free s y h i e at = (
  (λ v j r o q w. (let (n, f) = equation-item y i e r at (item-left r e.left e.right (j, q)) in h v o (n, r, f, w))),
  (λ v j r o q w. (let (n, f) = equation-item y i e r at (item-right r e.left e.right (j, q)) in h v o (n, r, f, w))),
)

pub pair-free : (s : Store) (y : System) → HasNoOpenString s y → (i : ℕ) (p : Pair) → slice_get y.pairs i ≡ Some p → HasNoString s p.upper.label × HasNoString s p.lower.label
pair-free s y h i p at = (
  (λ v j r o q w. (let (n, f) = pair-item y i p r at (item-left r (cells_of_atom p.upper) (cells_of_atom p.lower) (item-right r p.upper.args p.upper.label (j, q))) in h v o (n, r, f, w))),
  (λ v j r o q w. (let (n, f) = pair-item y i p r at (item-right r (cells_of_atom p.upper) (cells_of_atom p.lower) (item-right r p.lower.args p.lower.label (j, q))) in h v o (n, r, f, w))),
)

-- ---- what a system keeps

pub system-later : (s t : Store) (y : System) → IsLater s t → IsTrue (is_system s y) → IsTrue (is_system t y)
system-later s t y l h = system-stays s t y l.sorts h

pub built-later : (s t : Store) (y : System) → IsLater s t → HasBuiltStrings s y → HasBuiltStrings t y
built-later s t y l h i r e = l.built r (h i r e)

pub open-later : (s t : Store) (y : System) → IsLater s t → IsTrue (is_system s y) → HasNoOpenString s y → HasNoOpenString t y
open-later s t y l h k v o (i, r, e, w) = let (x, q) = l.strings v r (cell-within s y i r h e) o w in k v q (i, r, e, x)

-- ---- the demand

uses-agree : (s : Store) (σ τ : Solution) → Agree (length s.cells) σ τ → (gs : List GammaCell) (us : List GammaUse) → IsTrue (list_all (is_gamma_cell s) gs) → AreUses σ gs us → AreUses τ gs us
uses-agree s σ τ a [] us h k = k
uses-agree s σ τ a (g ∷ gs) us h (u, vs, e, at_g, more) =
    let p = and_parts (is_gamma_cell s g) (list_all (is_gamma_cell s) gs) h in
    let q = and_parts (has_sort_at s TermSort g.term) (is_label s g.label) p.0 in
    (u, vs, e, record { term = sym (a g.term (lt-ltb g.term (length s.cells) (within-sort s TermSort g.term q.0))) ∙ at_g.term; label = sym (label_at-agree (length s.cells) σ τ a g.label (label-below s g.label q.1)) ∙ at_g.label }, uses-agree s σ τ a gs vs p.1 more)

meets-agree : (Demanded : List GammaUse → Type 0) (s : Store) (y : System) (σ τ : Solution) → IsTrue (is_system s y) → Agree (length s.cells) σ τ → MeetsDemand Demanded y σ → MeetsDemand Demanded y τ
meets-agree Demanded s y σ τ h a (us, are, d) = (us, uses-agree s σ τ a y.gammas us (system-parts s y h).gammas are, d)

-- equations of the demand were made equal
pub record IsMeeting (Demanded : List GammaUse → Type 0) (y : System) (start cur : Store) : Type 0 where
  pub forced : IsForced Demanded y start cur
  pub later : IsLater start cur

pub meeting-start : (Demanded : List GammaUse → Type 0) (y : System) (s : Store) → IsMeeting Demanded y s s
meeting-start Demanded y s = record { forced = record { longer = omega arith; back = λ σ h. h; forth = λ σ h m. (σ, h, λ r l. refl) }; later = later-same s }

-- the demand added cells
pub forced-added : (Demanded : List GammaUse → Type 0) (y : System) (start s t : Store) → IsForced Demanded y start s → AddsBuilt s t → IsForced Demanded y start t
forced-added Demanded y start s t f a = record {
  longer = let x = f.longer in let z = adds-longer s t a in omega (arith, x, z);
  back = λ σ h. f.back σ (adds-back s t a σ h);
  forth = λ σ h m. (
      let (τ, k, agree) = f.forth σ h m in
      let (υ, l, more) = adds-forth s t a τ k in
      (υ, l, agree-both (length start.cells) (length s.cells) σ τ υ f.longer agree more)
      );
}

pub meeting-added : (Demanded : List GammaUse → Type 0) (y : System) (start s t : Store) → IsMeeting Demanded y start s → AddsBuilt s t → IsMeeting Demanded y start t
meeting-added Demanded y start s t m a = record { forced = forced-added Demanded y start s t m.forced a; later = later-both start s t m.later (later-added s t a) }

-- an equation of the demand was made equal
pub meeting-next : (Demanded : List GammaUse → Type 0) (y : System) (start t u : Store) (e : Equation) → IsTrue (is_system start y) → IsMeeting Demanded y start t → IsDemandEquation Demanded t y e → IsNarrowed t u (λ σ. AreEqual σ e) → IsLater t u → IsMeeting Demanded y start u
meeting-next Demanded y start t u e h m d n later =
    let f = m.forced in
    record {
      forced = record {
        longer = let x = f.longer in let z = n.longer in omega (arith, x, z);
        back = λ σ k. f.back σ (n.back σ k).0;
        forth = λ σ k met. (
            let (τ, l, agree) = f.forth σ k met in
            let (υ, i, more) = n.forth τ l (d.forced τ l (meets-agree Demanded start y σ τ h agree met)) in
            (υ, i, agree-both (length start.cells) (length t.cells) σ τ υ f.longer agree more)
            );
      };
      later = later-both start t u m.later later;
    }

-- an equation of the demand cannot be equal
pub meeting-never : (Demanded : List GammaUse → Type 0) (y : System) (start t : Store) (e : Equation) → IsTrue (is_system start y) → IsMeeting Demanded y start t → IsDemandEquation Demanded t y e → CannotEqual t e → (σ : Solution) → Solves start σ → ¬ MeetsDemand Demanded y σ
meeting-never Demanded y start t e h m d never σ k met =
    let (τ, l, agree) = m.forced.forth σ k met in
    never τ l (d.forced τ l (meets-agree Demanded start y σ τ h agree met))

pub sides-free : (Asked : List GammaUse → Type 0) (t : Store) (y : System) (e : Equation) → IsDemandEquation Asked t y e → HasNoString t e.left × HasNoString t e.right
sides-free Asked t y e d = (
  (λ v i r o q w. (let (j, p) = item-left r e.left e.right (i, q) in d.no_open_string v j r o p w)),
  (λ v i r o q w. (let (j, p) = item-right r e.left e.right (i, q) in d.no_open_string v j r o p w)),
)

-- what was added and bound for an equation of the demand is built right where it was before
pub right-equated : (P : Problem) (y : System) (start cur t u : Store) (e : Equation) → length start.cells ≤ length cur.cells → AddsBuilt cur t → IsNarrowed t u (λ σ. AreEqual σ e) → SolvesRight P (cells_of y) start cur → EquatesRight P (cells_of y) cur t e → KeepsRight P (equation_cells e) t u → SolvesRight P (cells_of y) start u
right-equated P y start cur t u e longer adds narrowed before asked made σ k base low from a =
    let (solved, equal) = narrowed.back σ k in
    let more = adds-longer cur t adds in
    let b = before σ (adds-back cur t adds σ solved) base low from a in
    let (c, named) = asked σ solved equal base (omega (arith, longer, low)) from b in
    made base (omega (arith, longer, low, more)) named c
