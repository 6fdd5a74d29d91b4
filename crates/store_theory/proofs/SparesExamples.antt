-- The system of #box:p => #box:#box:p in S4: it has a bounded solution, and own spares exist in its store.
use Rattle.std.proofs.Common.{Bool, true, false, ◌≡◌, ℕ, zero, suc, List, [], ◌∷◌, refl, ap, subst, Some, None}
use Rattle.std.specs.Prelude.{is_some, Option, unwrap_or, slice_get, ⊤}
use Rattle.std.proofs.lemmas.Bool.{false≢true}
use Rattle.calculus.specs.declared.sign.Sign.{Sign}
use Rattle.calculus.specs.declared.sign.Sign.TheVariants.{T, F}
use Rattle.calculus.specs.declared.setting.Logic.TheVariants.{S4}
use Rattle.calculus.specs.declared.sort.Sort.{Sort}
use Rattle.calculus.specs.declared.sort.Sort.TheVariants.{StringSort}
use Rattle.calculus.specs.Ground.{GroundLiteral, no_g_terms, GroundMark, g_new_mark, no_values}
use Rattle.store_theory.specs.Stores.{stays, sort_of, IsOwnSpare, OwnSparesGive, Store, Cell, variable, new_cell, a_mark, a_string, Solution, Solves, CellHolds}
use Rattle.store_theory.specs.Systems.{CellAtom, IsLiteral, Differ, NamesItsStrings, System, HasBoundedSolution}

abbrev n3 : GroundMark
n3 = g_new_mark 3 no_values

abbrev n4 : GroundMark
n4 = g_new_mark 4 no_values

-- the string of the nu step, and the characters of the two pi steps
abbrev store : Store
store = record { cells = variable StringSort None ∷ new_cell 3 [] ∷ new_cell 4 [] ∷ []; trail = [] }

abbrev system : System
system = record { equations = record { left = 0 ∷ []; right = 1 ∷ 2 ∷ [] } ∷ []; strings = 0 ∷ []; pis = 2; gammas = []; pairs = [] }

abbrev by_string : List GroundMark → Solution
by_string w zero = a_string w
by_string w (suc zero) = a_mark n3
by_string w (suc (suc n)) = a_mark n4

held : (σ : Solution) (n : ℕ) (c d : Cell) → Some c ≡ Some d → CellHolds σ n c → CellHolds σ n d
held σ n c d e h = subst (CellHolds σ n) (ap (λ o. unwrap_or o c) e) h

out : (σ : Solution) (n : ℕ) (d : Cell) → None ≡ Some d → CellHolds σ n d
out σ n d e = subst (λ o. is_there o) e tt
  where
    is_there : Option Cell → Type 0
    is_there None = ⊤
    is_there (Some x) = CellHolds σ n d

solves : (w : List GroundMark) → Solves store (by_string w)
solves w zero c e = held (by_string w) 0 (variable StringSort None) c e refl
solves w (suc zero) c e = held (by_string w) 1 (new_cell 3 []) c e (no_values, refl, refl)
solves w (suc (suc zero)) c e = held (by_string w) 2 (new_cell 4 []) c e (no_values, refl, refl)
solves w (suc (suc (suc n))) c e = out (by_string w) (suc (suc (suc n))) c e

bounded : HasBoundedSolution S4 (λ us. ⊤) store system
bounded = (
  2 ∷ [],
  (
    by_string (n3 ∷ n4 ∷ []),
    record {
      solution = record {
        solves = solves (n3 ∷ n4 ∷ []);
        equal = ((n3 ∷ n4 ∷ [], refl, refl), tt);
        steps = ((n3 ∷ n4 ∷ [], refl, refl), tt);
        demanded = ([], refl, tt);
        apart = tt;
      };
      tried = refl;
      lengths = ((n3 ∷ n4 ∷ [], refl, refl), tt);
    },
  ),
)

-- the store's only variable gets the empty string
abbrev sort_in : Option Cell → Sort
sort_in None = StringSort
sort_in (Some c) = sort_of c

abbrev is_variable : Option Cell → Bool
is_variable (Some (variable s b)) = true
is_variable _ = false

own : (v : ℕ) (sort : Sort) → slice_get store.cells v ≡ Some (variable sort None) → IsOwnSpare true store [] (by_string []) sort v v
own zero sort e = subst (λ z. IsOwnSpare true store [] (by_string []) z 0 0) (ap sort_in e) refl
own (suc zero) sort e = absurd (false≢true (ap is_variable e))
own (suc (suc zero)) sort e = absurd (false≢true (ap is_variable e))
own (suc (suc (suc n))) sort e = absurd (false≢true (ap is_variable e))

spares : OwnSparesGive true store [] (λ σ. ⊤)
spares = (by_string [], record { solves = solves []; spares = own; apart = λ v w sort e f p. p }, tt)

-- the only unbound string is one of the system's strings
named : NamesItsStrings store system
named zero e o = (0, 0, refl, stays refl refl)
named (suc zero) e o = absurd (false≢true (ap is_variable e))
named (suc (suc zero)) e o = absurd (false≢true (ap is_variable e))
named (suc (suc (suc n))) e o = absurd (false≢true (ap is_variable e))

-- two goals that differ in sign, and an ill-sorted pair, which does not differ
abbrev goal : Sign → List ℕ → CellAtom
goal s args = record { sign = s; symbol = 0; args = args; label = 0 ∷ [] }

abbrev literal : Sign → GroundLiteral
literal s = record { sign = s; symbol = 0; args = no_g_terms; label = n3 ∷ [] }

is_goal : (s : Sign) → IsLiteral (by_string (n3 ∷ [])) (goal s []) (literal s)
is_goal s = record { sign = refl; symbol = refl; args = refl; label = refl }

differ : Differ (by_string (n3 ∷ [])) (record { upper = goal F []; lower = goal T [] })
differ = (literal F, literal T, is_goal F, is_goal T, refl)

ill_sorted : ¬ Differ (by_string (n3 ∷ [])) (record { upper = goal F (0 ∷ []); lower = goal T (0 ∷ []) })
ill_sorted d = false≢true (ap is_some d.2.args)
