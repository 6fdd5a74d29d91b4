-- What the walk that edits keeps of the branches.
use Rattle.std.specs.Prelude.{ℕ, List, [], ◌∷◌, map, reverse}
use Rattle.calculus.specs.Kinds as kinds
use Rattle.formula_core.specs.declared.components.Signed.{Signed}
use Rattle.trim_theory.specs.Editing.{Fork, Place, place, fork_at}
use Rattle.derivation_trim.specs.BranchView.{the_bare, the_branch}
use Rattle.derivation_trim.specs.declared.parts.Parts.{Parts}
use Rattle.derivation_trim.specs.declared.parts.Parts.TheVariants.{One, Two}

abbrev pub the_split : ℕ × ℕ × Signed → Fork
the_split f = fork_at f.0 f.1 (the_bare f.2)

-- the right sides that are still to come, of which the last one is the next
abbrev pub the_splits : List (ℕ × ℕ × Signed) → List Fork
the_splits fs = map the_split (reverse fs)

abbrev pub the_place : List Signed → List ℕ → List ℕ → List (ℕ × ℕ × Signed) → Place
the_place branch parents table forks = place (the_branch branch) parents table (the_splits forks)

abbrev pub the_parts : Parts → List kinds.Signed
the_parts (One a) = the_bare a ∷ []
the_parts (Two a b) = the_bare a ∷ the_bare b ∷ []
