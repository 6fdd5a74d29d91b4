use Rattle.std.proofs.Common.{◌∙◌}
use Rattle.tptp_reader.specs.Lists.{terms_tree}
use Rattle.problem_build.specs.Expansion.{terms_symbols}
use Rattle.problem_build.proofs.AddingLaws.{adds-term, stopped-term}
use Rattle.problem_build.proofs.symbols.+add_term.Goals as goal

pub add_terms-returns-in-Err : goal.add_terms-returns-in-Err
add_terms-returns-in-Err t c =
    stopped-term c.items-term-items.result.now c.loop-term.term-index c.term-item.result c.loop-term.symbols (terms_symbols (terms_tree c.args.terms.now))
    c.args.symbols.now c.in-Err.fault c.loop-term-test.true c.term-item.is c.loop-term.invariant c.in-Err.ensures

pub add_terms-loop-term-preserved : goal.add_terms-loop-term-preserved
add_terms-loop-term-preserved t c =
    adds-term c.items-term-items.result.now c.loop-term.term-index c.term-item.result c.loop-term.symbols c.add_term.new.symbols
    c.loop-term-test.true c.term-item.is c.in_default.ensures
    ∙ c.loop-term.invariant
