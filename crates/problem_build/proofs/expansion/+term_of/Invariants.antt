use Rattle.std.proofs.Common.{◌≡◌, take, map}
use Rattle.std.specs.Prelude.{reverse}
use Rattle.tptp_reader.specs.Sizes.{term_size, term_list_size}
use Rattle.tptp_reader.specs.TermView.{the_source_term}
use Rattle.problem_build.specs.Expansion.{expanded_term}
use Rattle.problem_build.proofs.expansion.+term_of.Given as goal

abbrev pub invariant-terms_of-loop-term : goal.invariant-terms_of-loop-term
invariant-terms_of-loop-term l =
    l.made ≡ map (expanded_term l.symbols (reverse l.scope)) (map the_source_term (take l.term-index l.term-items))

abbrev pub decreases-term_of : goal.decreases-term_of
decreases-term_of l = term_size (the_source_term l.term.now)

abbrev pub decreases-terms_of : goal.decreases-terms_of
decreases-terms_of l = term_list_size l.terms.now
