-- Values that tell the unbound variables of a search's own cells apart: a spare for each term and mark, and for each string one character.
use Rattle.std.proofs.Common.{◌≡◌, ◌≤◌, ℕ, suc, length, refl, sym, subst, Some, None, slice_get}
use Rattle.calculus.specs.declared.sort.Sort.{Sort}
use Rattle.calculus.specs.declared.sort.Sort.TheVariants.{TermSort, MarkSort, StringSort}
use Rattle.store_theory.specs.Bindings.{IsWellFormed}
use Rattle.store_theory.specs.Stores.{Cell, Solution, Store, variable}
use Rattle.calculus.specs.Syntax.{Problem}
use Rattle.store_theory.proofs.BindingLaws.{HasNoCycle-rank}
use Rattle.search_theory.proofs.AdmittedLaws.{IsGood, SparesGood, good-cells, letters-good}
use Rattle.search_theory.proofs.DistinctLaws.{AreDistinct}
use Rattle.search_theory.proofs.RankLaws.{rank_of, ranked-by_no_cycle}
use Rattle.search_theory.proofs.RuleLaws.{letter_spare, letters, letters-distinct, ranked-letters, rule-fixed, rule_value}
use Rattle.search_theory.proofs.SpareLaws.{IsRanked}
use Rattle.search_tree.specs.OwnStores.{AreOwn}

abbrev pub letter_values : Store → Solution
letter_values s = rule_value letters s (suc (length s.cells))

pub well-ranked : (s : Store) → IsWellFormed s → IsRanked s (rank_of s) (suc (length s.cells))
well-ranked s w = ranked-by_no_cycle s w.fits (HasNoCycle-rank s w.rank)

-- they do so for all cells
pub letters-tell : (s : Store) → IsWellFormed s → AreDistinct (λ r. Unit {0}) s (letter_values s) (λ r. r)
letters-tell s w = letters-distinct (λ r. Unit {0}) s (rank_of s) (suc (length s.cells)) w.fits (well-ranked s w) (λ r k c i e p. tt)

-- a variable for a string is there only where strings of one character are steps
letters-admitted : (P : Problem) (base : ℕ) (s : Store) → IsWellFormed s → AreOwn P base s → SparesGood P (λ r. base ≤ r) s (letter_values s)
letters-admitted P base s w own_cells v sort i e smaller = by sort e (rule-fixed letters s (rank_of s) (suc (length s.cells)) (ranked-letters s (rank_of s) (suc (length s.cells)) (well-ranked s w)) v (variable sort None) e)
  where
    by : (x : Sort) → slice_get s.cells v ≡ Some (variable x None) → letter_values s v ≡ letter_spare (letter_values s) v x → IsGood P (letter_values s v)
    by TermSort f q = subst (IsGood P) (sym q) refl
    by MarkSort f q = subst (IsGood P) (sym q) refl
    by StringSort f q = letters-good P (λ r. base ≤ r) s (rank_of s) (suc (length s.cells)) (own_cells.cells v (variable StringSort None) i f) w.fits (well-ranked s w) v StringSort i f smaller

-- the search's own cells have values that tell their unbound variables apart, and are admitted
pub distinct-own : (P : Problem) (base : ℕ) (s : Store) → IsWellFormed s → AreOwn P base s → (σ : Solution) × (number : ℕ → ℕ) × AreDistinct (λ r. base ≤ r) s σ number × ((r : ℕ) (c : Cell) → base ≤ r → slice_get s.cells r ≡ Some c → IsGood P (σ r))
distinct-own P base s w own_cells =
    let ranked = well-ranked s w in
    let distinct = letters-distinct (λ r. base ≤ r) s (rank_of s) (suc (length s.cells)) w.fits ranked (λ r k c i e p. own_cells.labelled.names r k p.0 c i e p.1) in
    (letter_values s, λ r. r, distinct, good-cells P (λ r. base ≤ r) s (rank_of s) (suc (length s.cells)) (letter_values s) w.fits ranked own_cells.labelled distinct.solves (letters-admitted P base s w own_cells))
