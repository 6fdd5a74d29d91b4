-- One list of lengths: what each step that fails shows, and what is found at the end.
use Rattle.std.proofs.Common.{◌≡◌, ◌==◌, ℕ, suc, List, [], ◌∷◌, ◌++◌, length, Bool, IsTrue, refl, sym, ◌∙◌, ap, subst, Some, None, slice_get, arith, nat_le}
use Rattle.std.specs.List.{AllByRecursion, flat_map, list_all}
use Rattle.std.proofs.lemmas.Bool.{and_parts}
use Rattle.plain_laws.proofs.Every.{all-weaken, all-parts}
use Rattle.plain_laws.proofs.Options.{same-some}
use Rattle.calculus.specs.Labels.{is_step_length}
use Rattle.calculus.specs.Space.{is_tried_length}
use Rattle.calculus.specs.Syntax.{Problem}
use Rattle.calculus.specs.declared.setting.Logic.{Logic}
use Rattle.calculus.specs.declared.sort.Sort.TheVariants.{StringSort}
use Rattle.store_theory.specs.Bindings.{IsWellFormed}
use Rattle.calculus.specs.Instances.{GammaUse}
use Rattle.store_theory.specs.Stores.{variable, string_cell, Store, EndsAt, stays, goes_on, Solution, Solves}
use Rattle.store_theory.specs.Systems.{Equation, Pair, System, AreEqual, AreEqualNow, AreTried, HasBuiltStrings, HasNoOpenString, HasSolution, HaveLengths, IsOpenString, MeetsDemand, NamesItsStrings, OccursInSystem, OwnSparesMeet, OwnSparesSolve, bound_of, cells_of, cells_of_atom, is_system}
use Rattle.store_theory.proofs.BindingLaws.{HasNoCycle-rank, ends-once}
use Rattle.search_theory.specs.Regular.{AreSame}
use Rattle.search_theory.specs.KeepingCells.{equation_cells, gamma_cells}
use Rattle.search_theory.specs.Solving.{IsNarrowed, IsSolving}
use Rattle.search_theory.proofs.BuildingLaws.{agree-both}
use Rattle.search_theory.proofs.RankLaws.{rank_of, ranked-by_no_cycle}
use Rattle.search_theory.proofs.SolvingLaws.{carried, found, none-by_pair, system-cells, system-parts, system-set, tried-step}
use Rattle.search_theory.proofs.SystemCells.{pairs-in}
use Rattle.prefix_split.specs.Later.{IsLater, KeepsRight}
use Rattle.prefix_split.specs.Meeting.{IsForced}
use Rattle.prefix_split.specs.Same.{DifferNow}
use Rattle.prefix_split.specs.Trying.{IsSetTo}
use Rattle.prefix_split.proofs.EqualLaws.{equations-agree}
use Rattle.prefix_split.proofs.MeetingLaws.{cell-within, open-later, system-later}

-- ---- setting the lengths

-- bindings stay, so they lead to what is still unbound
pub ends-open : (s t : Store) → IsLater s t → (r v : ℕ) → EndsAt s r v → IsOpenString t v → EndsAt t r v
ends-open s t l r v (stays e b) o = stays o refl
ends-open s t l r v (goes_on {k = k} {sort = sort} e more) o = goes_on (l.bound r k sort e) (ends-open s t l k v more o)

-- once the strings of the system are built, no unbound string occurs in it
pub open-given : (s t : Store) (y : System) → IsTrue (is_system s y) → NamesItsStrings s y → IsLater s t → HasBuiltStrings t y → HasNoOpenString t y
open-given s t y h names l built v o (i, r, e, w) =
    let (x, before) = l.strings v r (cell-within s y i r h e) o w in
    let (j, q, f, ends) = names v before (i, r, e, x) in
    let (u, rs, at, cell) = built j q f in
    let same : v ≡ u = ends-once t q v u (ends-open s t l q v ends o) at in
    let z : variable StringSort None ≡ string_cell rs = same-some (slice_get t.cells u) (variable StringSort None) (string_cell rs) (ap (slice_get t.cells) (sym same) ∙ o) cell in
    cc z

pub cannot-equal : (s t : Store) (y : System) (ns : List ℕ) → IsTrue (is_system s y) → IsNarrowed s t (λ σ. HaveLengths σ y.strings ns) → ((σ : Solution) → Solves t σ → ¬ AllByRecursion (AreEqual σ) y.equations) → (σ : Solution) → Solves s σ → ¬ IsSetTo y ns σ
cannot-equal s t y ns fits n never σ k (h, e) =
    let (τ, th, agree) = n.forth σ k h in
    never τ th (equations-agree s σ τ agree y.equations (system-parts s y fits).equations e)

pub set-both : (s t u : Store) (y : System) (ns : List ℕ) → IsTrue (is_system s y) → IsNarrowed s t (λ σ. HaveLengths σ y.strings ns) → IsNarrowed t u (λ σ. AllByRecursion (AreEqual σ) y.equations) → IsNarrowed s u (IsSetTo y ns)
set-both s t u y ns fits first rest = record {
  longer = let a = first.longer in let b = rest.longer in omega (arith, a, b);
  back = λ σ k. (let b = rest.back σ k in let a = first.back σ b.0 in (a.0, (a.1, b.1)));
  forth = λ σ k q. (
      let (τ, th, agree) = first.forth σ k q.0 in
      let (υ, uh, more) = rest.forth τ th (equations-agree s σ τ agree y.equations (system-parts s y fits).equations q.1) in
      (υ, uh, agree-both (length s.cells) (length t.cells) σ τ υ first.longer agree more)
      );
}

-- ---- what stays built right

abbrev pair_cells : Pair → List ℕ
pair_cells p = cells_of_atom p.upper ++ cells_of_atom p.lower

-- the cells of the equations are some of the system's
pub right-system : (P : Problem) (y : System) (s t : Store) → KeepsRight P (flat_map equation_cells y.equations) s t → KeepsRight P (cells_of y) s t
right-system P y s t h base l from a =
    let one = all-parts (nat_le base) (flat_map equation_cells y.equations ++ y.strings ++ flat_map gamma_cells y.gammas) (flat_map pair_cells y.pairs) from in
    let two = all-parts (nat_le base) (flat_map equation_cells y.equations ++ y.strings) (flat_map gamma_cells y.gammas) one.0 in
    let three = all-parts (nat_le base) (flat_map equation_cells y.equations) y.strings two.0 in
    h base l three.0 a

-- lengths that are tried are steps
pub steps-tried : (P : Problem) (l : Logic) (y : System) (ns : List ℕ) → P.setting.logic ≡ l → AreTried l y ns → IsTrue (list_all (is_step_length P.setting.logic) ns)
steps-tried P l y ns e tried = all-weaken (is_tried_length l (bound_of y)) (is_step_length P.setting.logic) (λ n q. subst (λ k. IsTrue (is_step_length k n)) (sym e) (tried-step l (bound_of y) n q)) ns (and_parts (length ns == length y.strings) (list_all (is_tried_length l (bound_of y)) ns) tried).1

-- ---- trying

solving-set : (l : Logic) (Demanded : List GammaUse → Type 0) (s t : Store) (y : System) (ns : List ℕ) → IsNarrowed s t (IsSetTo y ns) → IsSolving l Demanded s y ns t
solving-set l Demanded s t y ns n = record {
  longer = n.longer;
  back = λ σ k. (let b = n.back σ k in (b.0, b.1.0));
  forth = λ σ b. n.forth σ b.solution.solves (b.lengths, b.solution.equal);
}

solving-met : (l : Logic) (Demanded : List GammaUse → Type 0) (s t u : Store) (y : System) (ns : List ℕ) → IsTrue (is_system s y) → IsSolving l Demanded s y ns t → IsForced Demanded y t u → IsSolving l Demanded s y ns u
solving-met l Demanded s t u y ns fits k f = record {
  longer = let a = k.longer in let b = f.longer in omega (arith, a, b);
  back = λ σ h. k.back σ (f.back σ h);
  forth = λ σ b. (
      let (τ, th, agree, bounded) = carried l Demanded s t y ns fits k σ b in
      let (υ, uh, more) = f.forth τ th bounded.solution.demanded in
      (υ, uh, agree-both (length s.cells) (length t.cells) σ τ υ k.longer agree more)
      );
}

pub none-met : (l : Logic) (Demanded : List GammaUse → Type 0) (s t : Store) (y : System) (ns : List ℕ) → IsTrue (is_system s y) → IsNarrowed s t (IsSetTo y ns) → ((σ : Solution) → Solves t σ → ¬ MeetsDemand Demanded y σ) → ¬ HasSolution l Demanded s y ns
none-met l Demanded s t y ns fits n never (σ, b) =
    let (τ, th, agree, bounded) = carried l Demanded s t y ns fits (solving-set l Demanded s t y ns n) σ b in
    never τ th bounded.solution.demanded

pub none-same : (l : Logic) (Demanded : List GammaUse → Type 0) (s t u : Store) (y : System) (ns : List ℕ) → IsTrue (is_system s y) → IsNarrowed s t (IsSetTo y ns) → IsForced Demanded y t u → (j : ℕ) × (p : Pair) × (slice_get y.pairs j ≡ Some p) × AreSame u p.upper p.lower → ¬ HasSolution l Demanded s y ns
none-same l Demanded s t u y ns fits n f (j, p, at, same) = none-by_pair l Demanded s u y ns j p fits at (solving-met l Demanded s t u y ns fits (solving-set l Demanded s t y ns n) f) same

equal-now : (s : Store) (es : List Equation) → ((σ : Solution) → Solves s σ → AllByRecursion (AreEqual σ) es) → AllByRecursion (AreEqualNow s) es
equal-now s [] h = tt
equal-now s (e ∷ es) h = (λ σ t. (h σ t).0, equal-now s es (λ σ t. (h σ t).1))

pub found-by : (b : Bool) (l : Logic) (Demanded : List GammaUse → Type 0) (s t u : Store) (y : System) (ns : List ℕ) → IsTrue (is_system s y) → IsNarrowed s t (IsSetTo y ns) → IsForced Demanded y t u → IsWellFormed u → IsLater s t → IsLater t u → HasNoOpenString t y → AllByRecursion (DifferNow u) y.pairs → OwnSparesMeet b Demanded u y → AreTried l y ns → OwnSparesSolve b l Demanded u y
found-by b l Demanded s t u y ns fits n f well first second free apart met tried =
    let fits_t = system-later s t y first fits in
    let fits_u = system-later t u y second fits_t in
    let free_u = open-later t u y second fits_t free in
    let solving = solving-met l Demanded s t u y ns fits (solving-set l Demanded s t y ns n) f in
    found b l Demanded s u y ns (rank_of u) (suc (length u.cells)) (OccursInSystem u y) well.fits (ranked-by_no_cycle u well.fits (HasNoCycle-rank u well.rank)) (system-set u y free_u)
    (pairs-in (OccursInSystem u y) u y fits_u (system-cells u y)) solving tried (equal-now u y.equations (λ σ h. (n.back σ (f.back σ h)).1.1)) apart met

pub solved-back : (Demanded : List GammaUse → Type 0) (s t u : Store) (y : System) (ns : List ℕ) → IsNarrowed s t (IsSetTo y ns) → IsForced Demanded y t u → (σ : Solution) → Solves u σ → Solves s σ
solved-back Demanded s t u y ns n f σ h = (n.back σ (f.back σ h)).0
