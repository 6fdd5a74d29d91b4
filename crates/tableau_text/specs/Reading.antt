-- What the reading of lines keeps.
use Rattle.std.specs.Prelude.{◌≡◌, ℕ, List, [], ◌∷◌, ◌++◌, map, Bool, true, false, codes}
use Rattle.calculus.specs.Syntax.{Symbol}
use Rattle.calculus.specs.TableauText as tree
use Rattle.formula_core.specs.GroundLists.{GroundList}
use Rattle.tableau_text.specs.MoveLines.{IsMoveLine}
use Rattle.tableau_text.specs.MovesView.{IsNormalMove, the_chosen, the_move}
use Rattle.tableau_text.specs.declared.moves.Chosen.{Chosen}
use Rattle.tableau_text.specs.declared.moves.Move.{Move}

-- what is stated by the lists of a table
abbrev pub moves_by : ℕ → List GroundList → Chosen → List Move → tree.Moves
moves_by limit ls start ms = record { limit = limit; start = the_chosen ls start; moves = map (the_move ls) ms }

-- the line is `end`, or one more move; the Bool tells which
abbrev pub IsLineRead : List Symbol → List GroundList → List Move → List Move → List ℕ → Bool → Type 0
IsLineRead S ls old new line true = (line ≡ codes "end") × (new ≡ old)
IsLineRead S ls old new line false = (m : Move) × (new ≡ old ++ m ∷ []) × IsMoveLine S line (the_move ls m) × IsNormalMove ls m

-- the line is neither
abbrev pub NoLine : List Symbol → List ℕ → Type 0
NoLine S line = (¬ (line ≡ codes "end")) × ((m : tree.Move) → ¬ IsMoveLine S line m)
