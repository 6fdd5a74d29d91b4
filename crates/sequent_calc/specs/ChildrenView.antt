-- The children of the calculus that children of the program stand for, and those that a step's addition leads to.
use Rattle.std.specs.Prelude.{[], ◌∷◌, ◌++◌, Option, None, Some, Result, Ok, Err}
use Rattle.calculus.specs.declared.fault.StepFault.{StepFault}
use Rattle.calculus.specs.Calculus as calculus
use Rattle.calculus.specs.Derivations as derivation
use Rattle.sequent_calc.specs.EntryView.{the_entry}
use Rattle.sequent_calc.specs.declared.rules.Children.{Children}
use Rattle.sequent_calc.specs.declared.rules.Children.TheVariants as children
use Rattle.sequent_calc.specs.declared.addition.Addition.{Addition}
use Rattle.sequent_calc.specs.declared.addition.Addition.TheVariants as addition

abbrev pub the_children : Children → calculus.Children
the_children children.Closed = calculus.closed
the_children (children.One s) = calculus.one s
the_children (children.Two s t) = calculus.two s t

-- the children of a sequent by what a step adds to it
abbrev pub children_by : derivation.Sequent → Addition → calculus.Children
children_by s addition.Close = calculus.closed
children_by s (addition.Extend es) = calculus.one (s ++ es)
children_by s (addition.Fork a b) = calculus.two (s ++ the_entry a ∷ []) (s ++ the_entry b ∷ [])

-- the children, or the fault in their place
abbrev pub faulty : calculus.Children → Option StepFault → Result calculus.Children StepFault
faulty c None = Ok c
faulty c (Some f) = Err f
