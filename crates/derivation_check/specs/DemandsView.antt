-- The demands of the calculus that those of the program stand for.
use Rattle.std.specs.Prelude.{List, [], ◌∷◌}
use Rattle.calculus.specs.declared.fault.StepFault.TheVariants.{WrongArguments, UnknownName, NotReachable, NotNew, WrongHome, NotAllowed}
use Rattle.calculus.specs.Calculus.{Condition, condition}
use Rattle.derivation_check.specs.declared.demands.Demands.{Demands}

abbrev pub the_demands : Demands → List Condition
the_demands d =
    condition d.arguments_fit WrongArguments
    ∷ condition d.is_known UnknownName
    ∷ condition d.is_reachable NotReachable
    ∷ condition d.is_new NotNew
    ∷ condition d.home_is WrongHome
    ∷ condition d.term_allowed NotAllowed
    ∷ []
