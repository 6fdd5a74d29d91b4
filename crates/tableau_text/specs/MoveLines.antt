-- The lines behind the head, as values, and the order in which they stand.
use Rattle.std.specs.Prelude.{◌≡◌, ℕ, List, [], ◌∷◌, ◌++◌, map, Bool, true, false, IsTrue, codes, Option, None, Some}
use Rattle.calculus.specs.declared.fault.TableauFault.{TableauFault}
use Rattle.calculus.specs.declared.fault.TableauFault.TheVariants as fault
use Rattle.calculus.specs.Syntax.{Symbol, Problem}
use Rattle.calculus.specs.TableauText.{Chosen, Move, Moves, chosen_text, move_line, chosen_is_written, move_is_written, are_written, tableau_head}
use Rattle.text_lines.specs.Lines.{AreRead}

pub data Line : Type 0 where
  of_start : Chosen → Line
  of_move : Move → Line
  last : Line

abbrev pub line_text : List Symbol → Line → List ℕ
line_text S (of_start i) = codes "start " ++ chosen_text S i
line_text S (of_move m) = move_line S m
line_text S last = codes "end"

abbrev pub line_is_written : List Symbol → Line → Bool
line_is_written S (of_start i) = chosen_is_written S i
line_is_written S (of_move m) = move_is_written S m
line_is_written S last = true

pub data Stage : Type 0 where
  starting : Stage
  moving : Stage
  ended : Stage

abbrev pub stage_after : Stage → Line → Option Stage
stage_after starting (of_start i) = Some moving
stage_after moving (of_move m) = Some moving
stage_after moving last = Some ended
stage_after _ _ = None

-- the lines behind the head; the Bool tells whether `end` is among them
abbrev pub body_to : Moves → Bool → List Line
body_to x false = of_start x.start ∷ map of_move x.moves
body_to x true = of_start x.start ∷ (map of_move x.moves ++ last ∷ [])

-- the text is read up to this place: the moves, and the `end` line where it has been read
pub record IsReadTo (P : Problem) (bytes : List ℕ) (place : ℕ) (x : Moves) (done : Bool) : Type 0 where
  pub written : IsTrue (are_written P x)
  pub lines : AreRead bytes (tableau_head P x.limit ++ map (line_text P.symbols) (body_to x done)) place

abbrev pub with_move : Moves → Move → Moves
with_move x m = record { limit = x.limit; start = x.start; moves = x.moves ++ m ∷ [] }

-- the bytes are the text of an instance, or the line of a move
pub record IsChosenText (S : List Symbol) (bytes : List ℕ) (i : Chosen) : Type 0 where
  pub written : IsTrue (chosen_is_written S i)
  pub same : bytes ≡ chosen_text S i

pub record IsMoveLine (S : List Symbol) (bytes : List ℕ) (m : Move) : Type 0 where
  pub written : IsTrue (move_is_written S m)
  pub same : bytes ≡ move_line S m

-- the fault of the next line; the Bool tells whether `end` has been read
abbrev pub fault_at : Bool → TableauFault
fault_at false = fault.Line
fault_at true = fault.TextAfterEnd
