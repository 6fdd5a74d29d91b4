use Rattle.std.proofs.Common.{◌∙◌, ◌++◌, ◌∷◌, [], ap}
use Rattle.calculus.specs.Equality.{symbol_eq}
use Rattle.tptp_reader.specs.TermView.{the_source_term}
use Rattle.problem_build.specs.Adding.{with_new}
use Rattle.problem_build.specs.Expansion.{equality_symbol, term_symbols}
use Rattle.problem_build.proofs.AddingLaws.{adds-then, stops-more, stops-then}
use Rattle.problem_build.proofs.symbols.add_equation.Goals as goal

pub returns-in-Err-add_term : goal.returns-in-Err-add_term
returns-in-Err-add_term c =
    stops-then c.args.symbols.now c.add.new.symbols (equality_symbol ∷ [])
    (term_symbols (the_source_term c.args.left.now) ++ term_symbols (the_source_term c.args.right.now)) c.in-Err-add_term.fault
    (c.in_default-add.ensures ∙ ap (λ s. with_new symbol_eq c.args.symbols.now (s ∷ [])) c.in-Ok.ensures)
    (stops-more c.add.new.symbols (term_symbols (the_source_term c.args.left.now)) (term_symbols (the_source_term c.args.right.now))
    c.in-Err-add_term.fault c.in-Err-add_term.ensures)

pub returns : goal.returns
returns c =
    adds-then c.args.symbols.now c.add.new.symbols c.add_term-2.new.symbols (equality_symbol ∷ [])
    (term_symbols (the_source_term c.args.left.now) ++ term_symbols (the_source_term c.args.right.now)) c.add_term-2.result
    (c.in_default-add.ensures ∙ ap (λ s. with_new symbol_eq c.args.symbols.now (s ∷ [])) c.in-Ok.ensures)
    (adds-then c.add.new.symbols c.add_term.new.symbols c.add_term-2.new.symbols (term_symbols (the_source_term c.args.left.now))
    (term_symbols (the_source_term c.args.right.now)) c.add_term-2.result c.in_default-add_term.ensures c.add_term-2.ensures)
