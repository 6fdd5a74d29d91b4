use Rattle.std.proofs.Common.{◌≡◌, drop, reverse}
use Rattle.std.specs.List.{list_all}
use Rattle.calculus.specs.Lists.{terms_tree}
use Rattle.calculus.specs.Structures.{predicate_value, term_values}
use Rattle.finite_model.proofs.value.is_atom_true.Given as goal

abbrev pub invariant-loop-world : goal.invariant-loop-world
invariant-loop-world l = list_all (λ v. predicate_value l.structure l.predicate.0 v (term_values l.structure (reverse l.env) (terms_tree l.args))) (drop l.world-index l.worlds) ≡ list_all (λ v. predicate_value l.structure l.predicate.0 v (term_values l.structure (reverse l.env) (terms_tree l.args))) l.worlds
