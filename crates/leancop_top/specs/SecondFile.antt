-- What is read beside a problem.
use Rattle.std.specs.Prelude.{◌≡◌, ⊤, ℕ, List, Option, None, Some, IfSome}
use Rattle.cop_base.specs.Outside.{Files, file_in}
use Rattle.cop_base.specs.Reads.{Read}
use Rattle.command_line.specs.Table.{Word}
use Rattle.leancop_top.specs.Statuses.{IsCounted}
use Rattle.leancop_top.specs.declared.second_file.SecondFile as program
use Rattle.leancop_top.specs.declared.second_file.SecondFile.TheVariants.{Fetched, NotFetched}
use Rattle.leancop_top.specs.declared.status.Status.{Status}
use Rattle.leancop_top.specs.declared.status.Status.TheVariants.{Missing, ReadFault}

-- A library that tells nothing of its files allows any bytes.
abbrev pub HasBytes : Option Files → Word → List ℕ → Type 0
HasBytes told name bytes = IfSome told (λ files. file_in files name ≡ Some bytes)

abbrev pub Lacks : Option Files → Word → Type 0
Lacks told name = IfSome told (λ files. file_in files name ≡ None)

-- why there are no bytes of this file
pub data FetchEnds (told : Option Files) (name : Word) : Status → Type 0 where
  missing : Lacks told name → FetchEnds told name (Missing name)
  unread : FetchEnds told name (ReadFault name)

-- what fetching answers
abbrev pub IsFetching : Option Files → Word → program.SecondFile → Type 0
IsFetching told name (Fetched bytes) = HasBytes told name bytes.items
IsFetching told name (NotFetched status) = FetchEnds told name status

-- its counts
abbrev pub IsFetchingCounted : ℕ → ℕ → ℕ → ℕ → List Read → program.SecondFile → Type 0
IsFetchingCounted m n f g after (Fetched bytes) = ⊤
IsFetchingCounted m n f g after (NotFetched status) = IsCounted m n f g after status
