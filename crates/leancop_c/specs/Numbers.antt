-- The numbers by which C names logics, domains and faults.
use Rattle.std.specs.Prelude.{ℕ, ◌-◌, ◌^◌, ◌==◌, Option, None, Some, if◌then◌else◌}
use Rattle.calculus.specs.Syntax.{Setting, setting_of}
use Rattle.calculus.specs.declared.fault.CheckFault.{CheckFault}
use Rattle.calculus.specs.declared.fault.CheckFault.TheVariants as fault
use Rattle.calculus.specs.declared.fault.StepFault.{StepFault}
use Rattle.calculus.specs.declared.fault.StepFault.TheVariants as step
use Rattle.calculus.specs.declared.fault.TextCause.{TextCause}
use Rattle.calculus.specs.declared.fault.TextCause.TheVariants as text
use Rattle.calculus.specs.declared.setting.Domains.{Domains}
use Rattle.calculus.specs.declared.setting.Domains.TheVariants.{Constant, Cumulative, Varying}
use Rattle.calculus.specs.declared.setting.Logic.{Logic}
use Rattle.calculus.specs.declared.setting.Logic.TheVariants.{Classical, Intuitionistic, D, T, S4, S5}
use Rattle.problem_build.specs.Refusals.{Refusal, missing, input_too_large, nesting_too_deep}
use Rattle.problem_build.specs.Refusals.{formula_too_large, too_many_symbols, bad}
use Rattle.problem_build.specs.declared.fault.Cause.{Cause}
use Rattle.problem_build.specs.declared.fault.Cause.TheVariants as cause

-- ---- settings

abbrev pub logic_numbered : ℕ → Option Logic
logic_numbered n =
    if n == 0 then Some Classical
    else if n == 1 then Some Intuitionistic
    else if n == 2 then Some D
    else if n == 3 then Some T
    else if n == 4 then Some S4
    else if n == 5 then Some S5
    else None

abbrev pub domains_numbered : ℕ → Option Domains
domains_numbered n =
    if n == 0 then Some Constant
    else if n == 1 then Some Cumulative
    else if n == 2 then Some Varying
    else None

abbrev pub setting_from : Option Logic → Option Domains → Option Setting
setting_from (Some logic) (Some domains) = Some (setting_of logic domains)
setting_from _ _ = None

-- domains are settled by the logic, where it has no choice
abbrev pub setting_numbered : (logic domains : ℕ) → Option Setting
setting_numbered logic domains = setting_from (logic_numbered logic) (domains_numbered domains)

-- ---- faults, from 1

abbrev pub cause_number : Cause → ℕ
cause_number cause.Syntax = 1
cause_number cause.Unsupported = 2
cause_number cause.Reserved = 3
cause_number cause.WrongLanguage = 4
cause_number cause.SecondConjecture = 5
cause_number cause.UnknownRole = 6
cause_number cause.IncludeTooDeep = 7
cause_number cause.IncludeNameAbsent = 8
cause_number cause.NoFormula = 9

abbrev pub text_number : TextCause → ℕ
text_number text.Version = 1
text_number text.Setting = 2
text_number text.Formula = 3
text_number text.Limit = 4
text_number text.Name = 5
text_number text.Line = 6
text_number text.TextAfterEnd = 7
text_number text.Label = 8
text_number text.Term = 9
text_number text.Table = 10

abbrev pub step_number : StepFault → ℕ
step_number step.NoEntry = 21
step_number step.NoConnection = 22
step_number step.WrongArguments = 23
step_number step.UnknownName = 24
step_number step.NotReachable = 25
step_number step.NotNew = 26
step_number step.WrongHome = 27
step_number step.NotAllowed = 28

abbrev pub fault_number : CheckFault → ℕ
fault_number (fault.Text c) = text_number c
fault_number (fault.Step f) = step_number f
fault_number fault.AllClosed = 31
fault_number fault.StillOpen = 32

-- ---- refusals of a problem

-- where no place is told
abbrev pub no_place : ℕ
no_place = 2 ^ 64 - 1

abbrev pub refusal_number : Refusal → ℕ
refusal_number (missing name) = 0
refusal_number input_too_large = 10
refusal_number nesting_too_deep = 11
refusal_number formula_too_large = 12
refusal_number too_many_symbols = 13
refusal_number (bad file offset c) = cause_number c

abbrev pub refusal_offset : Refusal → ℕ
refusal_offset (bad file offset c) = offset
refusal_offset _ = no_place

-- what is missing is an included file
abbrev pub refusal_status : Refusal → ℕ
refusal_status (missing name) = 6
refusal_status _ = 4
