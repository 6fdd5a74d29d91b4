use Rattle.std.proofs.Common.{◌≡◌, map, drop}
use Rattle.std.specs.List.{list_all}
use Rattle.calculus.specs.declared.sign.Sign.TheVariants.{F}
use Rattle.calculus.specs.Equality.{sign_eq}
use Rattle.store_theory.specs.Patterns.{PatternAtom}
use Rattle.search_theory.specs.Matrix.{all_shown}
use Rattle.term_store.specs.ClauseView.{the_pattern_atom}
use Rattle.term_store.specs.TemplateView.{the_template}
use Rattle.matrix_build.proofs.clause.all_shown.Given as goal

abbrev pub invariant-loop-literal : goal.invariant-loop-literal
invariant-loop-literal l = list_all (λ (a : PatternAtom). sign_eq a.sign F) (map the_pattern_atom (drop l.literal-index l.literal-items)) ≡ all_shown (the_template l.template)
