use Rattle.std.proofs.Common.{◌∙◌}
use Rattle.store_theory.specs.Patterns.{p_var}
use Rattle.search_theory.proofs.BuildingLaws.{built-value}
use Rattle.term_store.specs.RefView.{the_places}
use Rattle.term_unify.proofs.MatchLaws.{value-cells}
use Rattle.term_unify.proofs.solve.Unifier.is_variable_matched.Goals as goal

pub returns : goal.returns
returns c = record {
  matched = λ e σ h.
      let s = c.args.store.now.store in
      let vs = the_places c.args.variables in
      c.in_ok-same.ensures.same e σ h ∙ built-value s σ h vs (value-cells s σ h vs c.requires.values) (p_var c.args.k) c.variable-variable.result.0 c.variable-variable.ensures;
}
