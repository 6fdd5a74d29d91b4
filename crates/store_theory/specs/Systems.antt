-- Systems of equations between labels, as the prefix unification of Otten and Kreitz solves them, by their solutions of bounded length.
use Rattle.std.specs.Prelude.{◌≡◌, ℕ, ◌+◌, List, [], ◌∷◌, ◌++◌, length, Bool, false, ◌&&◌, ◌||◌, ◌==◌, Some, None, slice_get, IsTrue, ⊤}
use Rattle.std.specs.List.{list_all, flat_map, AllByRecursion}
use Rattle.std.specs.declared.cmp.Ordering.TheVariants.{Greater}
use Rattle.calculus.specs.declared.sign.Sign.{Sign}
use Rattle.calculus.specs.declared.setting.Logic.{Logic}
use Rattle.calculus.specs.declared.sort.Sort.TheVariants.{TermSort, MarkSort, StringSort}
use Rattle.calculus.specs.Syntax.{Problem}
use Rattle.calculus.specs.Ground.{GroundMark, GroundLiteral}
use Rattle.calculus.specs.Equality.{literal_eq}
use Rattle.calculus.specs.Labels.{is_step_length}
use Rattle.calculus.specs.Instances.{GammaUse, gamma_is_allowed}
use Rattle.calculus.specs.Space.{is_tried_length, lengths_cmp}
use Rattle.store_theory.specs.Stores.{Store, variable, string_cell, has_sort_at, OccursIn, EndsAt, a_term, a_string, Solution, terms_at, label_at, Solves, GammaCell, OwnSparesGive}

-- a signed atom at a label, by cells
pub record CellAtom : Type 0 where
  pub sign : Sign
  pub symbol : ℕ
  pub args : List ℕ
  pub label : List ℕ

pub record Equation : Type 0 where
  pub left : List ℕ
  pub right : List ℕ

-- two goals of one branch
pub record Pair : Type 0 where
  pub upper : CellAtom
  pub lower : CellAtom

-- the strings are those of the nu steps, in the order of building; `pis` is the number of pi steps
pub record System : Type 0 where
  pub equations : List Equation
  pub strings : List ℕ
  pub pis : ℕ
  pub gammas : List GammaCell
  pub pairs : List Pair

-- ---- what a system keeps: each reference names a cell of the store, of the sort that its place asks for

-- a label joins marks and strings
abbrev pub has_label_sort_at : Store → ℕ → Bool
has_label_sort_at s r = has_sort_at s MarkSort r || has_sort_at s StringSort r

abbrev pub is_label : Store → List ℕ → Bool
is_label s rs = list_all (has_label_sort_at s) rs

abbrev pub is_equation : Store → Equation → Bool
is_equation s e = is_label s e.left && is_label s e.right

abbrev pub is_gamma_cell : Store → GammaCell → Bool
is_gamma_cell s g = has_sort_at s TermSort g.term && is_label s g.label

abbrev pub is_cell_atom : Store → CellAtom → Bool
is_cell_atom s a = list_all (has_sort_at s TermSort) a.args && is_label s a.label

abbrev pub is_pair : Store → Pair → Bool
is_pair s p = is_cell_atom s p.upper && is_cell_atom s p.lower

abbrev pub is_system : Store → System → Bool
is_system s y = list_all (is_equation s) y.equations && list_all (has_sort_at s StringSort) y.strings && list_all (is_gamma_cell s) y.gammas && list_all (is_pair s) y.pairs

-- ---- the strings that stand in a system

abbrev pub cells_of_atom : CellAtom → List ℕ
cells_of_atom a = a.args ++ a.label

abbrev pub cells_of : System → List ℕ
cells_of y =
    flat_map (λ (e : Equation). e.left ++ e.right) y.equations
    ++ y.strings
    ++ flat_map (λ (g : GammaCell). g.term ∷ g.label) y.gammas
    ++ flat_map (λ (p : Pair). cells_of_atom p.upper ++ cells_of_atom p.lower) y.pairs

-- the cell v occurs in the system, under the bindings
abbrev pub OccursInSystem : Store → System → ℕ → Type 0
OccursInSystem s y v = (i : ℕ) × (r : ℕ) × (slice_get (cells_of y) i ≡ Some r) × OccursIn s v r

abbrev pub IsOpenString : Store → ℕ → Type 0
IsOpenString s v = slice_get s.cells v ≡ Some (variable StringSort None)

-- each unbound string that occurs in the system is one of its strings
abbrev pub NamesItsStrings : Store → System → Type 0
NamesItsStrings s y = (v : ℕ) → IsOpenString s v → OccursInSystem s y v → (i : ℕ) × (r : ℕ) × (slice_get y.strings i ≡ Some r) × EndsAt s r v

-- each string of the system is bound to a built string
abbrev pub HasBuiltStrings : Store → System → Type 0
HasBuiltStrings s y = (i r : ℕ) → slice_get y.strings i ≡ Some r → (v : ℕ) × (rs : List ℕ) × EndsAt s r v × (slice_get s.cells v ≡ Some (string_cell rs))

-- no unbound string occurs in the system
abbrev pub HasNoOpenString : Store → System → Type 0
HasNoOpenString s y = (v : ℕ) → IsOpenString s v → ¬ OccursInSystem s y v

-- ---- solutions

abbrev pub AreEqual : Solution → Equation → Type 0
AreEqual σ e = (w : List GroundMark) × (label_at σ e.left ≡ Some w) × (label_at σ e.right ≡ Some w)

pub record IsLiteral (σ : Solution) (a : CellAtom) (x : GroundLiteral) : Type 0 where
  pub sign : x.sign ≡ a.sign
  pub symbol : x.symbol ≡ a.symbol
  pub args : terms_at σ a.args ≡ Some x.args
  pub label : label_at σ a.label ≡ Some x.label

-- the two goals differ in sign, atom or label
abbrev pub Differ : Solution → Pair → Type 0
Differ σ p = (x : GroundLiteral) × (y : GroundLiteral) × IsLiteral σ p.upper x × IsLiteral σ p.lower y × (literal_eq x y ≡ false)

-- the values of a gamma term and its label
pub record IsUse (σ : Solution) (g : GammaCell) (u : GammaUse) : Type 0 where
  pub term : σ g.term ≡ a_term u.term
  pub label : label_at σ g.label ≡ Some u.label

abbrev pub AreUses : Solution → List GammaCell → List GammaUse → Type 0
AreUses σ [] us = us ≡ []
AreUses σ (g ∷ gs) us = (u : GammaUse) × (vs : List GammaUse) × (us ≡ u ∷ vs) × IsUse σ g u × AreUses σ gs vs

-- a demand is a relation on the gamma terms and their labels
abbrev pub MeetsDemand : (List GammaUse → Type 0) → System → Solution → Type 0
MeetsDemand Demanded y σ = (us : List GammaUse) × AreUses σ y.gammas us × Demanded us

-- the number of nu and pi steps
abbrev pub bound_of : System → ℕ
bound_of y = length y.strings + y.pis

abbrev pub IsStep : Logic → Solution → ℕ → Type 0
IsStep l σ r = (w : List GroundMark) × (σ r ≡ a_string w) × IsTrue (is_step_length l (length w))

-- a solution, where `Demanded` is what is asked of the gamma terms and their labels
pub record IsSolution (l : Logic) (Demanded : List GammaUse → Type 0) (s : Store) (y : System) (σ : Solution) : Type 0 where
  pub solves : Solves s σ
  pub equal : AllByRecursion (AreEqual σ) y.equations
  pub steps : AllByRecursion (IsStep l σ) y.strings
  pub demanded : MeetsDemand Demanded y σ
  pub apart : AllByRecursion (Differ σ) y.pairs

-- ---- the equations of a demand

-- the two sides are equal already: in each solution of the store
abbrev pub AreEqualNow : Store → Equation → Type 0
AreEqualNow s e = (σ : Solution) → Solves s σ → AreEqual σ e

-- an equation that a demand may give: its sides are labels, no unbound string occurs in it, its sides are not equal already, and each
-- solution of the store that meets the demand solves it
pub record IsDemandEquation (Demanded : List GammaUse → Type 0) (s : Store) (y : System) (e : Equation) : Type 0 where
  pub fits : IsTrue (is_equation s e)
  pub no_open_string : (v i r : ℕ) → IsOpenString s v → slice_get (e.left ++ e.right) i ≡ Some r → ¬ OccursIn s v r
  pub unequal : ¬ AreEqualNow s e
  pub forced : (σ : Solution) → Solves s σ → MeetsDemand Demanded y σ → AreEqual σ e

-- ---- solutions whose strings have lengths that are tried

-- one of the lists of lengths that are tried for the strings
abbrev pub AreTried : Logic → System → List ℕ → Type 0
AreTried l y ns = IsTrue (length ns == length y.strings && list_all (is_tried_length l (bound_of y)) ns)

abbrev pub HaveLengths : Solution → List ℕ → List ℕ → Type 0
HaveLengths σ [] [] = ⊤
HaveLengths σ (r ∷ rs) (n ∷ ns) = ((w : List GroundMark) × (σ r ≡ a_string w) × (length w ≡ n)) × HaveLengths σ rs ns
HaveLengths σ [] (n ∷ ns) = ⊥
HaveLengths σ (r ∷ rs) [] = ⊥

-- the solution is bounded: the lengths of its strings are a list that is tried
pub record IsBoundedSolution (l : Logic) (Demanded : List GammaUse → Type 0) (s : Store) (y : System) (ns : List ℕ) (σ : Solution) : Type 0 where
  pub solution : IsSolution l Demanded s y σ
  pub tried : AreTried l y ns
  pub lengths : HaveLengths σ y.strings ns

-- some solution has these lengths
abbrev pub HasSolution : Logic → (List GammaUse → Type 0) → Store → System → List ℕ → Type 0
HasSolution l Demanded s y ns = (σ : Solution) × IsBoundedSolution l Demanded s y ns σ

abbrev pub HasBoundedSolution : Logic → (List GammaUse → Type 0) → Store → System → Type 0
HasBoundedSolution l Demanded s y = (ns : List ℕ) × HasSolution l Demanded s y ns

-- giving each unbound variable its own spare is a bounded solution
abbrev pub OwnSparesSolve : Bool → Logic → (List GammaUse → Type 0) → Store → System → Type 0
OwnSparesSolve is_common l Demanded s y = OwnSparesGive is_common s y.gammas (λ σ. (ns : List ℕ) × IsBoundedSolution l Demanded s y ns σ)

-- giving each unbound variable its own spare meets the demand
abbrev pub OwnSparesMeet : Bool → (List GammaUse → Type 0) → Store → System → Type 0
OwnSparesMeet is_common Demanded s y = OwnSparesGive is_common s y.gammas (MeetsDemand Demanded y)

-- a list of lengths is early: it comes after no list that has a solution
pub record AreEarly (l : Logic) (Demanded : List GammaUse → Type 0) (s : Store) (y : System) (ns : List ℕ) : Type 0 where
  pub tried : AreTried l y ns
  pub before : (ms : List ℕ) → HasSolution l Demanded s y ms → ¬ (lengths_cmp ns ms ≡ Greater)

-- what the problem's domains ask: each gamma term is allowed at its label
abbrev pub AllAllowed : Problem → List GammaUse → Type 0
AllAllowed P us = IsTrue (list_all (gamma_is_allowed P) us)
