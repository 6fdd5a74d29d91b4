-- What C is told of two texts: a problem, and what is to be a derivation of it.
use Rattle.std.specs.Prelude.{◌≡◌, ℕ, List, [], ◌∷◌, ◌++◌, length, drop, replicate, nat_le, if◌then◌else◌}
use Rattle.std.specs.Prelude.{Option, None, Some, Result, Ok, Err}
use Rattle.calculus.specs.declared.fault.CheckFault.{CheckFault}
use Rattle.calculus.specs.Judgement as judgement
use Rattle.calculus.specs.Syntax.{Problem, Setting}
use Rattle.calculus.specs.Text.{formula_text}
use Rattle.cop_base.specs.Outside.{Files}
use Rattle.derivation_check.specs.Only.{IsOnlyVersionJudgement}
use Rattle.leancop_top.specs.Derived.{IsTheorem}
use Rattle.problem_build.specs.Building.{IsProblemOf}
use Rattle.problem_build.specs.Refusals.{Refusal}
use Rattle.leancop_c.specs.Numbers.{fault_number, no_place}
use Rattle.leancop_c.specs.Numbers.{refusal_number, refusal_offset, refusal_status}
use Rattle.leancop_c.specs.declared.LeancopJudgement.{LeancopJudgement}

-- the text is the only file, and has the empty name, which no include can give
abbrev pub alone : List ℕ → Files
alone text = ([], text) ∷ []

-- In the setting that is asked for, the text holds this problem, or has this first refusal, and no
-- other.
pub record Holds (asked : Option Setting) (text : List ℕ) (result : Result Problem Refusal) : Type 0 where
  pub setting : Setting
  pub is_asked : asked ≡ Some setting
  pub reading : IsProblemOf (alone text) [] [] setting result
  pub only : (other : Result Problem Refusal) → IsProblemOf (alone text) [] [] setting other → other ≡ result

-- one problem, which the other text derives: that is its one judgement, and so the formula is a
-- theorem
pub record IsAccepted (asked : Option Setting) (problem derivation : List ℕ) : Type 0 where
  pub told : Problem
  pub held : Holds asked problem (Ok told)
  pub judged : IsOnlyVersionJudgement told derivation judgement.accepted
  pub theorem : IsTheorem told

-- one problem, which the other text does not derive: its one judgement is this first fault
pub record IsRejected (asked : Option Setting) (problem derivation : List ℕ) (line : ℕ) (fault : CheckFault) : Type 0 where
  pub told : Problem
  pub held : Holds asked problem (Ok told)
  pub judged : IsOnlyVersionJudgement told derivation (judgement.rejected line fault)

-- ---- what the struct has

-- what is reserved
abbrev pub zeros : List ℕ
zeros = replicate 4 0

abbrev pub status_alone : ℕ → LeancopJudgement
status_alone status =
    record { status = status; fault = 0; line = 0; offset = no_place; reserved = zeros }

abbrev pub rejection_told : ℕ → CheckFault → LeancopJudgement
rejection_told line fault =
    record {
      status = 8;
      fault = fault_number fault;
      line = line;
      offset = no_place;
      reserved = zeros;
    }

abbrev pub refusal_told : Refusal → LeancopJudgement
refusal_told refusal = record {
  status = refusal_status refusal;
  fault = refusal_number refusal;
  line = 0;
  offset = refusal_offset refusal;
  reserved = zeros;
}

-- nothing is told of want of memory but the status
abbrev pub unread_told : Option Refusal → LeancopJudgement
unread_told None = status_alone 7
unread_told (Some refusal) = refusal_told refusal

abbrev pub unread_status : Option Refusal → ℕ
unread_status None = 7
unread_status (Some refusal) = refusal_status refusal

-- all that is told, and why
pub data IsTold (asked : Option Setting) (problem derivation : List ℕ) : LeancopJudgement → Type 0 where
  accepted : IsAccepted asked problem derivation → IsTold asked problem derivation (status_alone 0)
  rejected : (line : ℕ) (fault : CheckFault) → IsRejected asked problem derivation line fault
      → IsTold asked problem derivation (rejection_told line fault)
  refused : (refusal : Refusal) → Holds asked problem (Err refusal)
      → IsTold asked problem derivation (refusal_told refusal)
  no_setting : asked ≡ None → IsTold asked problem derivation (status_alone 5)
  no_memory : (setting : Setting) → asked ≡ Some setting → IsTold asked problem derivation (status_alone 7)

-- ---- the same, by the status

-- a first refusal that is told by the status, and by this place and number
pub record IsRefused (asked : Option Setting) (problem : List ℕ) (status offset number : ℕ) : Type 0 where
  pub refusal : Refusal
  pub held : Holds asked problem (Err refusal)
  pub status_is : status ≡ refusal_status refusal
  pub offset_is : offset ≡ refusal_offset refusal
  pub number_is : number ≡ refusal_number refusal

-- the one judgement is a rejection at this line, by a fault with this number
abbrev pub IsRejectedBy : Option Setting → (problem derivation : List ℕ) → (line number : ℕ) → Type 0
IsRejectedBy asked problem derivation line number = (fault : CheckFault)
    × IsRejected asked problem derivation line fault × (number ≡ fault_number fault)

-- ---- the caller's room

-- the bytes at the front of the room, where they fit; else the room is left as it was
abbrev pub placed : (room bytes : List ℕ) → List ℕ
placed room bytes =
    if nat_le (length bytes) (length room) then bytes ++ drop (length bytes) room else room

-- the canonical formula of the one problem
pub record IsCanonical (asked : Option Setting) (problem text : List ℕ) : Type 0 where
  pub told : Problem
  pub held : Holds asked problem (Ok told)
  pub text_is : text ≡ formula_text told.symbols 0 told.formula

-- why a status is answered, what is in the room, and the length that is told
pub data IsWritten (asked : Option Setting) (problem room : List ℕ) : (status : ℕ) (after : List ℕ) (size : ℕ) → Type 0 where
  written : (text : List ℕ) → IsCanonical asked problem text
      → IsWritten asked problem room 0 (placed room text) (length text)
  unread : (refusal : Refusal) → Holds asked problem (Err refusal)
      → IsWritten asked problem room (refusal_status refusal) room 0
  without_setting : asked ≡ None → IsWritten asked problem room 5 room 0
  without_memory : (setting : Setting) → asked ≡ Some setting → IsWritten asked problem room 7 room 0

-- the canonical formula of the one problem is placed
abbrev pub IsFormula : Option Setting → (problem room after : List ℕ) → (size : ℕ) → Type 0
IsFormula asked problem room after size = (text : List ℕ)
    × IsCanonical asked problem text × (after ≡ placed room text) × (size ≡ length text)
