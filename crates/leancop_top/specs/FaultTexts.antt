-- The text of each fault.
use Rattle.std.specs.Prelude.{ℕ, List, codes}
use Rattle.calculus.specs.declared.fault.CheckFault.{CheckFault}
use Rattle.calculus.specs.declared.fault.CheckFault.TheVariants as check
use Rattle.calculus.specs.declared.fault.StepFault.{StepFault}
use Rattle.calculus.specs.declared.fault.StepFault.TheVariants as step
use Rattle.calculus.specs.declared.fault.StructureCause.{StructureCause}
use Rattle.calculus.specs.declared.fault.StructureCause.TheVariants as structure
use Rattle.calculus.specs.declared.fault.TableauFault.{TableauFault}
use Rattle.calculus.specs.declared.fault.TableauFault.TheVariants as tableau
use Rattle.calculus.specs.declared.fault.TextCause.{TextCause}
use Rattle.calculus.specs.declared.fault.TextCause.TheVariants as cause
use Rattle.problem_build.specs.declared.fault.Cause.{Cause}
use Rattle.problem_build.specs.declared.fault.Cause.TheVariants.{Syntax, Unsupported, Reserved}
use Rattle.problem_build.specs.declared.fault.Cause.TheVariants.{WrongLanguage, SecondConjecture}
use Rattle.problem_build.specs.declared.fault.Cause.TheVariants.{UnknownRole, IncludeTooDeep}
use Rattle.problem_build.specs.declared.fault.Cause.TheVariants.{IncludeNameAbsent, NoFormula}

abbrev pub cause_text : Cause → List ℕ
cause_text Syntax = codes "syntax"
cause_text Unsupported = codes "unsupported"
cause_text Reserved = codes "reserved word"
cause_text WrongLanguage = codes "wrong language"
cause_text SecondConjecture = codes "second conjecture"
cause_text UnknownRole = codes "unknown role"
cause_text IncludeTooDeep = codes "include too deep"
cause_text IncludeNameAbsent = codes "include name absent"
cause_text NoFormula = codes "no formula"

abbrev pub text_cause_text : TextCause → List ℕ
text_cause_text cause.Version = codes "version"
text_cause_text cause.Setting = codes "setting"
text_cause_text cause.Formula = codes "formula"
text_cause_text cause.Limit = codes "limit"
text_cause_text cause.Name = codes "name"
text_cause_text cause.Line = codes "line"
text_cause_text cause.TextAfterEnd = codes "text after end"
text_cause_text cause.Label = codes "label"
text_cause_text cause.Term = codes "term"
text_cause_text cause.Table = codes "table"

abbrev pub step_fault_text : StepFault → List ℕ
step_fault_text step.NoEntry = codes "no entry"
step_fault_text step.NoConnection = codes "no connection"
step_fault_text step.WrongArguments = codes "wrong arguments"
step_fault_text step.UnknownName = codes "unknown name"
step_fault_text step.NotReachable = codes "not reachable"
step_fault_text step.NotNew = codes "not new"
step_fault_text step.WrongHome = codes "wrong home"
step_fault_text step.NotAllowed = codes "not allowed"

abbrev pub fault_text : CheckFault → List ℕ
fault_text (check.Text c) = text_cause_text c
fault_text (check.Step f) = step_fault_text f
fault_text check.AllClosed = codes "all closed"
fault_text check.StillOpen = codes "still open"

abbrev pub structure_cause_text : StructureCause → List ℕ
structure_cause_text structure.Version = codes "version"
structure_cause_text structure.Setting = codes "setting"
structure_cause_text structure.Size = codes "size"
structure_cause_text structure.Line = codes "line"
structure_cause_text structure.TextAfterEnd = codes "text after end"
structure_cause_text structure.EmptyDomain = codes "empty domain"
structure_cause_text structure.Serial = codes "serial"
structure_cause_text structure.Reflexive = codes "reflexive"
structure_cause_text structure.Transitive = codes "transitive"
structure_cause_text structure.Total = codes "total"
structure_cause_text structure.Worlds = codes "worlds"
structure_cause_text structure.Domains = codes "domains"
structure_cause_text structure.Function = codes "function"
structure_cause_text structure.Persistence = codes "persistence"

abbrev pub tableau_fault_text : TableauFault → List ℕ
tableau_fault_text tableau.Version = codes "version"
tableau_fault_text tableau.Setting = codes "setting"
tableau_fault_text tableau.Formula = codes "formula"
tableau_fault_text tableau.Limit = codes "limit"
tableau_fault_text tableau.Line = codes "line"
tableau_fault_text tableau.TextAfterEnd = codes "text after end"
tableau_fault_text tableau.AllClosed = codes "all closed"
tableau_fault_text tableau.PathLimit = codes "path limit"
tableau_fault_text tableau.NoInstance = codes "no instance"
tableau_fault_text tableau.NotAllowed = codes "not allowed"
tableau_fault_text tableau.NotPositive = codes "not positive"
tableau_fault_text tableau.NoConnection = codes "no connection"
tableau_fault_text tableau.NotRegular = codes "not regular"
tableau_fault_text tableau.StillOpen = codes "still open"
tableau_fault_text tableau.StringTooLong = codes "string too long"
