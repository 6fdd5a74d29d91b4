-- The names of the calculus that names of the program stand for.
use Rattle.std.specs.Prelude.{ℕ}
use Rattle.calculus.specs.Derivations as derivation
use Rattle.sequent_calc.specs.declared.names.Home.{Home}
use Rattle.sequent_calc.specs.declared.names.Home.TheVariants.{Anywhere, At}

abbrev pub the_home : Home → derivation.Home
the_home Anywhere = derivation.anywhere
the_home (At w) = derivation.home_at w

abbrev pub the_eigen : ℕ × derivation.Label → derivation.EigenName
the_eigen x = record { number = x.0; home = x.1 }

abbrev pub the_spare : ℕ × Home → derivation.SpareName
the_spare x = record { number = x.0; home = the_home x.1 }
