-- Faults of the outside, and those of the files alone.
use Rattle.std.specs.Prelude.{◌≡◌, ℕ, List, Bool, true, false}
use Rattle.std.specs.Prelude.{IfSome}
use Rattle.tptp_reader.specs.declared.fault.ReadFault.{ReadFault}
use Rattle.tptp_reader.specs.declared.fault.ReadFault.TheVariants as read
use Rattle.problem_build.specs.declared.fault.BuildFault.{BuildFault}
use Rattle.problem_build.specs.declared.fault.BuildFault.TheVariants.{Missing, Failed, InputTooLarge, NestingTooDeep, FormulaTooLarge, TooManySymbols, Bad, NoMemory}
use Rattle.problem_build.specs.Answers.{the_refusal}
use Rattle.problem_build.specs.Refusals.{bad}
use Rattle.problem_build.specs.Walk.{read_cause}

-- not a fault of the outside
abbrev pub is_inside : BuildFault → Bool
is_inside (Missing n) = false
is_inside (Failed n) = false
is_inside InputTooLarge = true
is_inside NestingTooDeep = true
is_inside FormulaTooLarge = true
is_inside TooManySymbols = true
is_inside (Bad f o c) = true
is_inside NoMemory = true

-- it says that this file is missing, or that there was no memory for the name
abbrev pub IsMissing : BuildFault → List ℕ → Type 0
IsMissing (Missing n) name = n ≡ name
IsMissing NoMemory name = Unit {0}
IsMissing (Failed n) name = ⊥
IsMissing InputTooLarge name = ⊥
IsMissing NestingTooDeep name = ⊥
IsMissing FormulaTooLarge name = ⊥
IsMissing TooManySymbols name = ⊥
IsMissing (Bad f o c) name = ⊥

abbrev pub IsFailed : BuildFault → List ℕ → Type 0
IsFailed (Failed n) name = n ≡ name
IsFailed NoMemory name = Unit {0}
IsFailed (Missing n) name = ⊥
IsFailed InputTooLarge name = ⊥
IsFailed NestingTooDeep name = ⊥
IsFailed FormulaTooLarge name = ⊥
IsFailed TooManySymbols name = ⊥
IsFailed (Bad f o c) name = ⊥

-- the refusal of a file that is not read for this fault
abbrev pub IsUnread : List ℕ → ReadFault → BuildFault → Type 0
IsUnread file (read.At offset cause) r = IfSome (the_refusal r) (λ x. x ≡ bad file offset (read_cause cause))
IsUnread file (read.TooDeep offset) r = r ≡ NestingTooDeep
IsUnread file read.NoMemory r = r ≡ NoMemory
