-- The terms and links of the calculus that those of the program stand for.
use Rattle.std.specs.Prelude.{◌≡◌, ℕ, ◌<◌, List, [], length, get_or}
use Rattle.calculus.specs.Syntax as tree
use Rattle.calculus.specs.Derivations as derivation
use Rattle.derivation_branch.specs.declared.substitution.Binding.{Binding}
use Rattle.derivation_branch.specs.declared.substitution.Value.{Value}
use Rattle.derivation_branch.specs.declared.substitution.Value.TheVariants.{Given, Eigen, Free}

abbrev pub the_value : Value → tree.Term
the_value (Given t) = t.now
the_value (Eigen n) = tree.eigen n
the_value (Free n) = tree.var n

abbrev pub the_link : Binding → tree.Term × ℕ
the_link x = (the_value x.term, x.outer)
