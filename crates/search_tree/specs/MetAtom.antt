-- The connected literal of an extension.
use Rattle.std.specs.Prelude.{◌≡◌, ℕ, List, length, Some, slice_get}
use Rattle.store_theory.specs.Bindings.{places_from, with_variables_of}
use Rattle.store_theory.specs.Patterns.{PatternAtom, Template, patterns_tree}
use Rattle.store_theory.specs.Stores.{Store}
use Rattle.store_theory.specs.Systems.{CellAtom}
use Rattle.term_store.specs.Signatures.{BuildsOver, allows_all}
use Rattle.term_unify.specs.Matching.{AddsAndBinds, AllNamesKept, MatchTo, Narrows}

-- what matching it against the goal's arguments gives
pub record HeadMatched (old met : Store) (t : Template) (place : ℕ) (vs : List ℕ) (p : PatternAtom) (args : List ℕ) : Type 0 where
  pub stands : slice_get t.literals place ≡ Some p
  pub variables : vs ≡ places_from (length old.cells) (length t.sorts)
  pub narrows : Narrows (λ σ. (length args ≡ length p.args) × MatchTo vs args p.args (length p.args) σ) (with_variables_of t.sorts old) met
  pub cells : AddsAndBinds (with_variables_of t.sorts old) met
  pub names : AllNamesKept vs args (with_variables_of t.sorts old) met
  pub within : BuildsOver vs (λ sorts g. allows_all g sorts (patterns_tree p.args)) (with_variables_of t.sorts old) met

-- the literal with the goal's own arguments, which are equal to its own once both are met
abbrev pub met_atom : PatternAtom → List ℕ → List ℕ → CellAtom
met_atom p args label = record { sign = p.sign; symbol = p.symbol; args = args; label = label }
