-- The derivation of the calculus that a derivation of the program stands for.
use Rattle.calculus.specs.Derivations as derivation
use Rattle.sequent_calc.specs.declared.names.Names.{Names}
use Rattle.sequent_calc.specs.declared.derivation.Derivation.{Derivation}

abbrev pub the_names : Names → derivation.Names
the_names n = record { eigens = n.eigens; spares = n.spares }

abbrev pub the_derivation : Derivation → derivation.Derivation
the_derivation d = record { limit = d.limit; names = the_names d.names; steps = d.steps }
