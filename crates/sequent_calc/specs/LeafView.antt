-- The tests of the calculus that the program's tests of leaves stand for.
use Rattle.std.specs.Prelude.{Bool}
use Rattle.calculus.specs.Syntax as tree
use Rattle.calculus.specs.Calculus.{is_eigen, is_in_home, is_unknown, is_forbidden}
use Rattle.logic_rules.specs.MarkView.{the_character}
use Rattle.sequent_calc.specs.DerivationView.{the_names}
use Rattle.sequent_calc.specs.declared.leaf.LeafTest.{LeafTest}
use Rattle.sequent_calc.specs.declared.leaf.LeafTest.TheVariants.{IsEigen, HasInHome, IsUnknown, IsForbidden}

abbrev pub the_test : LeafTest → tree.Term → Bool
the_test (IsEigen n) t = is_eigen n t
the_test (HasInHome names mark) t = is_in_home (the_names names.now) (the_character mark) t
the_test (IsUnknown names) t = is_unknown (the_names names.now) t
the_test (IsForbidden problem names label) t = is_forbidden problem.now (the_names names.now) label.now t
