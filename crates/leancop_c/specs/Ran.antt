-- What C is told of a run of the whole program over the words and files that it gives.
use Rattle.std.specs.Prelude.{◌≡◌, ⊤, ℕ, List, [], length, Some, Bool, true, false}
use Rattle.std.specs.List.{list_all}
use Rattle.std.specs.Str.{is_utf8}
use Rattle.command_line.specs.CommandLine.{Command, command_of}
use Rattle.cop_base.specs.Outside.{Files}
use Rattle.leancop_top.specs.Run.{Decides, Ends}
use Rattle.leancop_top.specs.Statuses.{OnAnswer, exit_of}
use Rattle.leancop_top.specs.declared.status.Status.{Status}
use Rattle.leancop_top.specs.declared.status.Status.TheVariants.{NoMemory, ReadFault, WriteFault}
use Rattle.leancop_c.specs.Told.{placed}

abbrev pub are_texts : List (List ℕ) → Bool
are_texts words = list_all is_utf8 words

-- the two statuses that say nothing of what was asked
abbrev pub is_lost : Status → Bool
is_lost WriteFault = true
is_lost NoMemory = true
is_lost _ = false

-- memory does not fail to be read or written
abbrev pub IsOfMemory : Status → Type 0
IsOfMemory (ReadFault name) = ⊥
IsOfMemory WriteFault = ⊥
IsOfMemory _ = ⊤

-- the status and the whole output of a run over these files and no others: unless memory ends, they
-- have their cause, and what is asked for is decided
pub record IsRun (files : Files) (command : Command) (status : Status) (output : List ℕ) : Type 0 where
  pub answered : OnAnswer status (Ends (Some files) command status output)
  pub decided : OnAnswer status (Decides (Some files) command status)
  pub of_memory : IsOfMemory status
  pub no_memory : status ≡ NoMemory → output ≡ []

-- the exit status, what is in the room, and the length that is told. Words that are not UTF-8 are
-- not read
pub data IsRunTold (files : Files) (words : List (List ℕ)) (room : List ℕ) : (exit : ℕ) (after : List ℕ) (size : ℕ) → Type 0 where
  ran : (status : Status) (output : List ℕ) → IsRun files (command_of words) status output
      → IsRunTold files words room (exit_of status) (placed room output) (length output)
  unread : are_texts words ≡ false → IsRunTold files words room 6 room 0
