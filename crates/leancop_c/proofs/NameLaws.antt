-- The words are those of the program.
use Rattle.std.proofs.Common.{◌≡◌, refl}
use Rattle.calculus.specs.declared.fault.CheckFault.{CheckFault}
use Rattle.calculus.specs.declared.fault.CheckFault.TheVariants as fault
use Rattle.calculus.specs.declared.fault.StepFault.TheVariants as step
use Rattle.calculus.specs.declared.fault.TextCause.TheVariants as text
use Rattle.leancop_top.specs.FaultTexts.{fault_text}
use Rattle.problem_build.specs.Refusals.{Refusal, missing, input_too_large, nesting_too_deep, formula_too_large, too_many_symbols, bad}
use Rattle.problem_build.specs.declared.fault.Cause.TheVariants as cause
use Rattle.leancop_c.specs.Names.{cause_words, fault_words, prints}
use Rattle.leancop_c.specs.Numbers.{fault_number, refusal_number}

pub fault_printed : (f : CheckFault) → fault_words (fault_number f) ≡ fault_text f
fault_printed (fault.Text text.Version) = refl
fault_printed (fault.Text text.Setting) = refl
fault_printed (fault.Text text.Formula) = refl
fault_printed (fault.Text text.Limit) = refl
fault_printed (fault.Text text.Name) = refl
fault_printed (fault.Text text.Line) = refl
fault_printed (fault.Text text.TextAfterEnd) = refl
fault_printed (fault.Text text.Label) = refl
fault_printed (fault.Text text.Term) = refl
fault_printed (fault.Text text.Table) = refl
fault_printed (fault.Step step.NoEntry) = refl
fault_printed (fault.Step step.NoConnection) = refl
fault_printed (fault.Step step.WrongArguments) = refl
fault_printed (fault.Step step.UnknownName) = refl
fault_printed (fault.Step step.NotReachable) = refl
fault_printed (fault.Step step.NotNew) = refl
fault_printed (fault.Step step.WrongHome) = refl
fault_printed (fault.Step step.NotAllowed) = refl
fault_printed fault.AllClosed = refl
fault_printed fault.StillOpen = refl

pub cause_printed : (r : Refusal) → prints r (cause_words (refusal_number r))
cause_printed (missing name) = refl
cause_printed input_too_large = refl
cause_printed nesting_too_deep = refl
cause_printed formula_too_large = refl
cause_printed too_many_symbols = refl
cause_printed (bad file offset cause.Syntax) = refl
cause_printed (bad file offset cause.Unsupported) = refl
cause_printed (bad file offset cause.Reserved) = refl
cause_printed (bad file offset cause.WrongLanguage) = refl
cause_printed (bad file offset cause.SecondConjecture) = refl
cause_printed (bad file offset cause.UnknownRole) = refl
cause_printed (bad file offset cause.IncludeTooDeep) = refl
cause_printed (bad file offset cause.IncludeNameAbsent) = refl
cause_printed (bad file offset cause.NoFormula) = refl
