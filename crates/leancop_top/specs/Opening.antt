-- Which files a run reads.
use Rattle.std.specs.Prelude.{◌≡◌, ◌⊎◌}
use Rattle.cop_base.specs.Outside.{Files}
use Rattle.problem_build.specs.Building.{WalkFetches}
use Rattle.command_line.specs.CommandLine.{Command, ProblemFile, prove, check, check_translated}
use Rattle.command_line.specs.CommandLine.{transfer, migrate, make, model, bad}
use Rattle.command_line.specs.CommandLine.{tableau, tcheck, convert, in_intuitionistic}
use Rattle.command_line.specs.Table.{Word}

-- one of the problem's files, as the walk over its includes fetches them
abbrev pub IsOfProblem : Files → ProblemFile → Word → Type 0
IsOfProblem files p name = WalkFetches files p.name p.root p.setting name

-- one of these, or the file of the second operand
abbrev pub IsOfBoth : Files → ProblemFile → Word → Word → Type 0
IsOfBoth files p second name = IsOfProblem files p name ⊎ (name ≡ second)

-- what a command may read, by the name of the file; a problem that is generated is in no file
abbrev pub MayRead : Files → Command → Word → Type 0
MayRead files (prove p b v) name = IsOfProblem files p name
MayRead files (check p derivation) name = IsOfBoth files p derivation name
MayRead files (check_translated p derivation) name =
    IsOfBoth files (in_intuitionistic p) derivation name
MayRead files (transfer p derivation) name = IsOfBoth files (in_intuitionistic p) derivation name
MayRead files (migrate p derivation) name = IsOfBoth files p derivation name
MayRead files (make g b) name = ⊥
MayRead files (model p structure steps) name = IsOfBoth files p structure name
MayRead files (tableau p b) name = IsOfProblem files p name
MayRead files (tcheck p text) name = IsOfBoth files p text name
MayRead files (convert p text) name = IsOfBoth files p text name
MayRead files (bad place) name = ⊥
