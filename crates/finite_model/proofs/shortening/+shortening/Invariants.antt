use Rattle.std.proofs.Common.{map, take}
use Rattle.calculus.specs.Sizes.{term_size, term_list_size}
use Rattle.formula_core.specs.TermView.{the_term}
use Rattle.finite_model.specs.Shortened.{AreShort}
use Rattle.finite_model.proofs.shortening.+shortening.Given as goal

abbrev pub decreases-short_term : goal.decreases-short_term
decreases-short_term l = term_size (the_term l.term.now)

abbrev pub decreases-short_args : goal.decreases-short_args
decreases-short_args l = term_list_size l.args.now

abbrev pub invariant-short_args-loop-arg : goal.invariant-short_args-loop-arg
invariant-short_args-loop-arg l = AreShort l.structure l.depth (map the_term (take l.arg-index l.arg-items)) l.all
