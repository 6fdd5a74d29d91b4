-- A system of label equations in D with a bounded solution, and the own spares that give it.
use Rattle.std.proofs.Common.{◌≡◌, true, false, zero, suc, List, [], ◌∷◌, refl, subst, Some, None}
use Rattle.plain_laws.proofs.Options.{none_some, some_injective}
use Rattle.calculus.specs.declared.setting.Logic.TheVariants.{D}
use Rattle.calculus.specs.declared.sort.Sort.TheVariants.{MarkSort, StringSort}
use Rattle.calculus.specs.Ground.{g_spare_mark}
use Rattle.calculus.specs.Instances.{GammaUse}
use Rattle.store_theory.specs.Stores.{is_store, variable, string_cell, Store, cut_at, a_mark, a_string, Solution, CellHolds, Solves}
use Rattle.store_theory.specs.Systems.{is_system, System, HasBoundedSolution}

-- two strings of one character each, the second bound to the first's cell
store : Store
store = record { cells = variable StringSort (Some 1) ∷ string_cell (2 ∷ []) ∷ variable MarkSort None ∷ variable StringSort (Some 1) ∷ []; trail = 0 ∷ 3 ∷ [] }

system : System
system = record { equations = record { left = 0 ∷ []; right = 3 ∷ [] } ∷ []; strings = 0 ∷ 3 ∷ []; pis = 0; gammas = []; pairs = [] }

solution : Solution
solution zero = a_string (g_spare_mark 7 ∷ [])
solution (suc zero) = a_string (g_spare_mark 7 ∷ [])
solution (suc (suc zero)) = a_mark (g_spare_mark 7)
solution (suc (suc (suc zero))) = a_string (g_spare_mark 7 ∷ [])
solution (suc (suc (suc (suc n)))) = a_mark (g_spare_mark 0)

solves : Solves store solution
unfolding store solution
solves zero c e = subst (CellHolds solution 0) (some_injective (variable StringSort (Some 1)) e) (refl, refl)
solves (suc zero) c e = subst (CellHolds solution 1) (some_injective (string_cell (2 ∷ [])) e) (g_spare_mark 7 ∷ [], refl, refl)
solves (suc (suc zero)) c e = subst (CellHolds solution 2) (some_injective (variable MarkSort None) e) refl
solves (suc (suc (suc zero))) c e = subst (CellHolds solution 3) (some_injective (variable StringSort (Some 1)) e) (refl, refl)
solves (suc (suc (suc (suc n)))) c e = absurd (none_some e)

anything : List GammaUse → Type 0
anything us = Unit {0}

solved : HasBoundedSolution D anything store system
unfolding store system solution anything
solved = (
  1 ∷ 1 ∷ [],
  (
    solution,
    record {
      solution = record {
        solves = solves;
        equal = ((g_spare_mark 7 ∷ [], refl, refl), tt);
        steps = ((g_spare_mark 7 ∷ [], refl, refl), ((g_spare_mark 7 ∷ [], refl, refl), tt));
        demanded = ([], refl, tt);
        apart = tt;
      };
      tried = refl;
      lengths = ((g_spare_mark 7 ∷ [], refl, refl), ((g_spare_mark 7 ∷ [], refl, refl), tt));
    },
  ),
)

-- the references of store and system are right, and stray ones are refused
keeps : is_store store ≡ true
unfolding store
keeps = refl

fits : is_system store system ≡ true
unfolding store system
fits = refl

stray : is_system (record { cells = []; trail = [] }) (record system { strings = 7 ∷ [] }) ≡ false
unfolding system
stray = refl

-- the cut after the first binding keeps the cells and frees the second
cut_store : cut_at (record { cells = 4; entries = 1 }) store ≡ record { cells = variable StringSort (Some 1) ∷ string_cell (2 ∷ []) ∷ variable MarkSort None ∷ variable StringSort None ∷ []; trail = 0 ∷ [] }
unfolding store
cut_store = refl
