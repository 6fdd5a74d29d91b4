-- What each command takes.
use Rattle.std.specs.Prelude.{ℕ, List, [], ◌∷◌, Bool, ◌==◌, if◌then◌else◌}
use Rattle.std.specs.Prelude.{Option, None, Some, codes}
use Rattle.calculus.specs.Equality.{list_eq}
use Rattle.command_line.specs.declared.table.CommandName.{CommandName}
use Rattle.command_line.specs.declared.table.CommandName.TheVariants.{Prove, Check, Make, Migrate}
use Rattle.command_line.specs.declared.table.CommandName.TheVariants.{Model, Transfer, Tableau}
use Rattle.command_line.specs.declared.table.CommandName.TheVariants.{Tcheck, Convert}
use Rattle.command_line.specs.declared.table.Operand.{Operand}
use Rattle.command_line.specs.declared.table.Operand.TheVariants as file
use Rattle.command_line.specs.declared.table.OptionName.{OptionName}
use Rattle.command_line.specs.declared.table.OptionName.TheVariants.{Root, Logic, Domains, Limit}
use Rattle.command_line.specs.declared.table.OptionName.TheVariants.{Steps, Cut, Format, As}

abbrev pub Word : Type 0
Word = List ℕ

abbrev pub is : Word → Word → Bool
is w v = list_eq ◌==◌ w v

abbrev pub command_named : Word → Option CommandName
command_named w =
    if is w (codes "prove") then Some Prove
    else (if is w (codes "check") then Some Check
    else (if is w (codes "make") then Some Make
    else (if is w (codes "migrate") then Some Migrate
    else (if is w (codes "model") then Some Model
    else (if is w (codes "transfer") then Some Transfer
    else (if is w (codes "tableau") then Some Tableau
    else (if is w (codes "tcheck") then Some Tcheck
    else (if is w (codes "convert") then Some Convert else None))))))))

-- the operands of a command, in their order; all are wanted
abbrev pub operands_of : CommandName → List Operand
operands_of Prove = file.Problem ∷ []
operands_of Check = file.Problem ∷ file.Derivation ∷ []
operands_of Make = file.Family ∷ file.Size ∷ []
operands_of Migrate = file.Problem ∷ file.Derivation ∷ []
operands_of Model = file.Problem ∷ file.Structure ∷ []
operands_of Transfer = file.Problem ∷ file.Derivation ∷ []
operands_of Tableau = file.Problem ∷ []
operands_of Tcheck = file.Problem ∷ file.Tableau ∷ []
operands_of Convert = file.Problem ∷ file.Tableau ∷ []

-- the options of a command
abbrev pub options_of : CommandName → List OptionName
options_of Prove = Root ∷ Logic ∷ Domains ∷ Limit ∷ Steps ∷ Cut ∷ Format ∷ []
options_of Check = Root ∷ Logic ∷ Domains ∷ As ∷ []
options_of Make = Logic ∷ Domains ∷ Limit ∷ Steps ∷ []
options_of Migrate = Root ∷ Logic ∷ Domains ∷ []
options_of Model = Root ∷ Logic ∷ Domains ∷ Steps ∷ []
options_of Transfer = Root ∷ []
options_of Tableau = Root ∷ Logic ∷ Domains ∷ Limit ∷ Steps ∷ Cut ∷ []
options_of Tcheck = Root ∷ Logic ∷ Domains ∷ []
options_of Convert = Root ∷ Logic ∷ Domains ∷ []

-- the word of an option begins so, and its value follows
abbrev pub front_of : OptionName → Word
front_of Root = codes "--root="
front_of Logic = codes "--logic="
front_of Domains = codes "--domains="
front_of Limit = codes "--limit="
front_of Steps = codes "--steps="
front_of Cut = codes "--cut="
front_of Format = codes "--format="
front_of As = codes "--as="
