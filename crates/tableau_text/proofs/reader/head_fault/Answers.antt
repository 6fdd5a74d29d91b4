use Rattle.std.proofs.Common.{codes, refl, subst}
use Rattle.calculus.specs.declared.fault.TableauFault.TheVariants as fault
use Rattle.text_lines.specs.Head.{IsHeadFault}
use Rattle.text_lines.specs.declared.head_line.HeadLine.TheVariants.{First, Setting, Formula, Limit}
use Rattle.tableau_text.proofs.MoveFaults.{fault-head}
use Rattle.tableau_text.proofs.reader.head_fault.Goals as goal

pub returns-in-First : goal.returns-in-First
returns-in-First c = λ P bytes w h. fault-head P w bytes First (subst (IsHeadFault (codes "leancop tableau 1") P bytes) c.in-First.is h) fault.Version (λ next. refl)

pub returns-in-Setting : goal.returns-in-Setting
returns-in-Setting c = λ P bytes w h. fault-head P w bytes Setting (subst (IsHeadFault (codes "leancop tableau 1") P bytes) c.in-Setting.is h) fault.Setting (λ next. refl)

pub returns-in-Formula : goal.returns-in-Formula
returns-in-Formula c = λ P bytes w h. fault-head P w bytes Formula (subst (IsHeadFault (codes "leancop tableau 1") P bytes) c.in-Formula.is h) fault.Formula (λ next. refl)

pub returns-in-Limit : goal.returns-in-Limit
returns-in-Limit c = λ P bytes w h. fault-head P w bytes Limit (subst (IsHeadFault (codes "leancop tableau 1") P bytes) c.in-Limit.is h) fault.Limit (λ next. refl)
