-- Sorted by the depth of their values, then by how many these are, then by position, the turns of a tableau are an agenda; and names
-- sorted by the depth of what is inside them are a numbering. A depth is no larger than the number of different lists, where a size
-- doubles with each list that stands in another twice.
use Rattle.std.proofs.Common.{◌≡◌, ◌⊎◌, ◌↔◌, ℕ, ◌<◌, List, length, length-append, Contains, Some, ap, inl, inr, slice_get, arith}
use Rattle.std.proofs.lemmas.Bool.{cases_eq}
use Rattle.calculus.specs.Syntax.{Problem}
use Rattle.calculus.specs.Instances.{Turn}
use Rattle.calculus.specs.Tableaux.{Tableau}
use Rattle.calculus.proofs.Members.{Among}
use Rattle.conversion_theory.specs.Depths.{value_list_depth, inner_depth}
use Rattle.conversion_theory.specs.Numbering.{IsNumbering}
use Rattle.conversion_theory.specs.Turns.{Name, turns_of, names_of_tableau, names_mentioned, names_introduced, IsAgenda}
use Rattle.conversion_theory.proofs.AgendaLaws.{InOrderBy, IsAbove, agenda-by}
use Rattle.conversion_theory.proofs.DepthLaws.{depth-append, below-mentioned, depth-introduced, inside-less_deep}
use Rattle.conversion_theory.proofs.NumberLaws.{AreOrderedBy, numbering-by}

-- by how many values there are, then by the position
abbrev pub ComesShorter : Turn → Turn → Type 0
ComesShorter y x = (length y.values < length x.values) ⊎ ((length y.values ≡ length x.values) × (y.position < x.position))

abbrev pub ComesLessDeep : Turn → Turn → Type 0
ComesLessDeep y x = (value_list_depth y.values < value_list_depth x.values) ⊎ ((value_list_depth y.values ≡ value_list_depth x.values) × ComesShorter y x)

not-shorter_itself : (x : Turn) → ComesShorter x x → ⊥
not-shorter_itself x (inl lt) = absurd (omega arith)
not-shorter_itself x (inr p) = let lt = p.1 in absurd (omega arith)

pub not-less_deep_itself : (x : Turn) → ComesLessDeep x x → ⊥
not-less_deep_itself x (inl lt) = absurd (omega arith)
not-less_deep_itself x (inr p) = not-shorter_itself x p.1

abbrev pub IsInDepthOrder : List Turn → Type 0
IsInDepthOrder agenda = InOrderBy ComesLessDeep agenda

-- a parent has a beginning of the values
above-less_deep : (P : Problem) (t : Tableau) (x y : Turn) → IsAbove P t y x → ComesLessDeep y x
above-less_deep P t x y h =
    let whole = ap value_list_depth h.values in
    let parts = depth-append y.values h.own in
    let count = ap length h.values in
    let counts = length-append y.values h.own in
    let lower = h.lower in
    elim (cases_eq (value_list_depth y.values) (value_list_depth x.values)) [
      | inl e ↦ elim (cases_eq (length y.values) (length x.values)) [ inl d ↦ inr (e, inr (d, lower)) | inr d ↦ inr (e, inl (omega arith)) ]
      | inr d ↦ inl (omega arith)
    ]

introduces-less_deep : (P : Problem) (x y : Turn) (n : Name) → Among (names_mentioned P x) n → Among (names_introduced P y) n → ComesLessDeep y x
introduces-less_deep P x y n h k =
    let lt = below-mentioned P x n h in
    let e = depth-introduced P y n k in
    inl (omega arith)

pub agenda-by_depth : (P : Problem) (t : Tableau) (agenda : List Turn) → ((x : Turn) → Contains (turns_of P t) x ↔ Contains agenda x) → ((i j : ℕ) (x : Turn) → slice_get agenda i ≡ Some x → slice_get agenda j ≡ Some x → i ≡ j) → IsInDepthOrder agenda → IsAgenda P t agenda
agenda-by_depth P t agenda all once ordered = agenda-by ComesLessDeep not-less_deep_itself P t (above-less_deep P t) (introduces-less_deep P) agenda all once ordered

-- no name holds less deep ones than an earlier name does
abbrev pub AreInDepthOrder : List Name → Type 0
AreInDepthOrder names = AreOrderedBy inner_depth names

pub numbering-by_depth : (P : Problem) (t : Tableau) (names : List Name) → ((n : Name) → Contains (names_of_tableau P t) n ↔ Contains names n) → ((i j : ℕ) (n : Name) → slice_get names i ≡ Some n → slice_get names j ≡ Some n → i ≡ j) → AreInDepthOrder names → IsNumbering P t names
numbering-by_depth P t names all once ordered = numbering-by inner_depth inside-less_deep P t names all once ordered
