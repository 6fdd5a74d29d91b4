use Rattle.std.proofs.Common.{◌∙◌, ap, arith, map}
use Rattle.std.specs.Prelude.{reverse}
use Rattle.calculus.specs.Lists.{terms_tree}
use Rattle.cop_base.proofs.Items.{map-end}
use Rattle.tptp_reader.specs.TermView.{the_source_term}
use Rattle.problem_build.specs.Expansion.{expanded_term}
use Rattle.problem_build.proofs.ExpandingLaws.{expanded_terms-list}
use Rattle.problem_build.proofs.expansion.+term_of.Goals as goal

pub terms_of-returns : goal.terms_of-returns
terms_of-returns t c =
    let m = map-end the_source_term c.items-term-items.result.now c.args.terms.now c.loop-term.term-index c.items-term-items.ensures (omega arith) in
    ap terms_tree (c.loop-term.invariant ∙ ap (map (expanded_term c.args.symbols.now (reverse c.args.scope.now))) m)
    ∙ expanded_terms-list c.args.symbols.now (reverse c.args.scope.now) c.args.terms.now
