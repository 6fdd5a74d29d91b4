-- What the value of an option, or an operand, may be.
use Rattle.std.specs.Prelude.{ℕ, [], Bool, if◌then◌else◌, ◌&&◌, not}
use Rattle.std.specs.Prelude.{Option, None, Some, codes, decimal, nat_le, is_some}
use Rattle.std.specs.Str.Parse.{digits_value}
use Rattle.calculus.specs.declared.family.Family.{Family}
use Rattle.calculus.specs.declared.family.Family.TheVariants.{Chain, Shift, Tower}
use Rattle.calculus.specs.declared.version.Version.{Version}
use Rattle.calculus.specs.declared.version.Version.TheVariants.{One, Two}
use Rattle.calculus.specs.declared.limits.TheConstants.{MAX_PATH_LIMIT}
use Rattle.calculus.specs.declared.setting.Domains.{Domains}
use Rattle.calculus.specs.declared.setting.Domains.TheVariants.{Constant, Cumulative, Varying}
use Rattle.calculus.specs.declared.setting.Logic.{Logic}
use Rattle.calculus.specs.declared.setting.Logic.TheVariants.{Classical, Intuitionistic}
use Rattle.calculus.specs.declared.setting.Logic.TheVariants.{D, T, S4, S5}
use Rattle.command_line.specs.Table.{Word, is}
use Rattle.command_line.specs.declared.value.TheConstants.{MAX_SIZE, MAX_STEPS}
use Rattle.command_line.specs.declared.table.Operand.{Operand}
use Rattle.command_line.specs.declared.table.Operand.TheVariants as file
use Rattle.command_line.specs.declared.table.OptionName.{OptionName}
use Rattle.command_line.specs.declared.table.OptionName.TheVariants as option

abbrev pub logic_of : Word → Option Logic
logic_of w =
    if is w (codes "classical") then Some Classical
    else (if is w (codes "intuitionistic") then Some Intuitionistic
    else (if is w (codes "d") then Some D
    else (if is w (codes "t") then Some T
    else (if is w (codes "s4") then Some S4
    else (if is w (codes "s5") then Some S5 else None)))))

abbrev pub domains_of : Word → Option Domains
domains_of w =
    if is w (codes "constant") then Some Constant
    else (if is w (codes "cumulative") then Some Cumulative
    else (if is w (codes "varying") then Some Varying else None))

-- a number from 1, in decimal without sign and without leading zeros
abbrev pub number_of : (most : ℕ) → Word → Option ℕ
number_of most w =
    let n = digits_value 10 w in
    if is w (decimal n) && nat_le 1 n && nat_le n most then Some n else None

abbrev pub version_of : Word → Option Version
version_of w =
    if is w (codes "1") then Some One
    else (if is w (codes "2") then Some Two else None)

abbrev pub family_of : Word → Option Family
family_of w =
    if is w (codes "chain") then Some Chain
    else (if is w (codes "shift") then Some Shift
    else (if is w (codes "tower") then Some Tower else None))

abbrev pub is_value : OptionName → Word → Bool
is_value option.Root v = not (is v [])
is_value option.Logic v = is_some (logic_of v)
is_value option.Domains v = is_some (domains_of v)
is_value option.Limit v = is_some (number_of MAX_PATH_LIMIT v)
is_value option.Steps v = is_some (number_of MAX_STEPS v)
is_value option.Cut v = is_some (number_of MAX_PATH_LIMIT v)
is_value option.Format v = is_some (version_of v)
is_value option.As v = is v (codes "s4")

-- of a word that begins as no option does
abbrev pub is_operand : Operand → Word → Bool
is_operand file.Family w = is_some (family_of w)
is_operand file.Size w = is_some (number_of MAX_SIZE w)
is_operand _ w = not (is w [])
