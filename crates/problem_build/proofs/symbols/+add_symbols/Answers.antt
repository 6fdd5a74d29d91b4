use Rattle.std.proofs.Common.{◌∙◌, ◌++◌, ap, sym}
use Rattle.calculus.specs.Equality.{symbol_eq}
use Rattle.tptp_reader.specs.Lists.{sources_tree}
use Rattle.tptp_reader.specs.SourceView.{the_source}
use Rattle.problem_build.specs.Adding.{with_new}
use Rattle.problem_build.specs.Expansion.{symbols_in, symbols_in_all}
use Rattle.problem_build.proofs.AddingLaws.{adds-unit, both-added, both-stopped, stopped-unit}
use Rattle.problem_build.proofs.symbols.+add_symbols.Goals as goal

pub loop-unit-preserved : goal.loop-unit-preserved
loop-unit-preserved t c =
    adds-unit c.items-unit-items.result.now c.loop-unit.unit-index c.unit-item.result c.loop-unit.symbols c.add_symbols-in-loop-unit.new.symbols
    c.loop-unit-test.true c.unit-item.is c.in_default-add_symbols-3.ensures
    ∙ c.loop-unit.invariant

pub returns-in-Err-add_symbols-3 : goal.returns-in-Err-add_symbols-3
returns-in-Err-add_symbols-3 t c =
    stopped-unit c.items-unit-items.result.now c.loop-unit.unit-index c.unit-item.result c.loop-unit.symbols (symbols_in (the_source c.args.source.now))
    c.args.symbols.now c.in-Err-add_symbols-3.fault c.loop-unit-test.true c.unit-item.is
    (c.loop-unit.invariant ∙ ap (λ us. with_new symbol_eq c.args.symbols.now (symbols_in_all (sources_tree us))) c.items-unit-items.ensures
    ∙ ap (λ s. with_new symbol_eq c.args.symbols.now (symbols_in (the_source s))) (sym c.in-Chain.is))
    c.in-Err-add_symbols-3.ensures

pub returns-in-Err-add_symbols : goal.returns-in-Err-add_symbols
returns-in-Err-add_symbols t c =
    both-stopped c.args.symbols.now (symbols_in (the_source c.get.result.now)) (symbols_in c.in-Binary.a) (symbols_in (the_source c.args.source.now))
    c.in-Err-add_symbols.fault
    (ap (λ s. symbols_in (the_source s)) c.in-Binary.is ∙ c.if-is_turned.ensures (symbols_in c.in-Binary.a) (symbols_in c.in-Binary.b)
    ∙ ap (λ x. symbols_in x ++ symbols_in c.in-Binary.a) (sym c.get.ensures))
    c.in-Err-add_symbols.ensures

pub returns-then-is_turned : goal.returns-then-is_turned
returns-then-is_turned t c =
    both-added c.args.symbols.now c.add_symbols.new.symbols c.add_symbols-then-is_turned.new.symbols (symbols_in (the_source c.get.result.now))
    (symbols_in (the_source c.get-then-is_turned.result.now)) (symbols_in (the_source c.args.source.now)) c.add_symbols-then-is_turned.result
    (ap (λ s. symbols_in (the_source s)) c.in-Binary.is ∙ c.if-is_turned.ensures (symbols_in c.in-Binary.a) (symbols_in c.in-Binary.b)
    ∙ ap (λ x. symbols_in x ++ symbols_in c.in-Binary.a) (sym c.get.ensures)
    ∙ ap (λ x. symbols_in (the_source c.get.result.now) ++ symbols_in x) (sym c.get-then-is_turned.ensures))
    c.in_default-add_symbols.ensures c.add_symbols-then-is_turned.ensures

pub returns-in-Err-add_symbols-2 : goal.returns-in-Err-add_symbols-2
returns-in-Err-add_symbols-2 t c =
    both-stopped c.args.symbols.now (symbols_in (the_source c.get-in-Binary.result.now)) (symbols_in c.in-Binary.b) (symbols_in (the_source c.args.source.now))
    c.in-Err-add_symbols-2.fault
    (ap (λ s. symbols_in (the_source s)) c.in-Binary.is ∙ c.if-is_turned.ensures (symbols_in c.in-Binary.a) (symbols_in c.in-Binary.b)
    ∙ ap (λ x. symbols_in x ++ symbols_in c.in-Binary.b) (sym c.get-in-Binary.ensures))
    c.in-Err-add_symbols-2.ensures

pub returns-in_default-add_symbols-2 : goal.returns-in_default-add_symbols-2
returns-in_default-add_symbols-2 t c =
    both-added c.args.symbols.now c.add_symbols-in-Binary.new.symbols c.add_symbols-in-Binary-2.new.symbols (symbols_in (the_source c.get-in-Binary.result.now))
    (symbols_in (the_source c.get-in-Binary-2.result.now)) (symbols_in (the_source c.args.source.now)) c.add_symbols-in-Binary-2.result
    (ap (λ s. symbols_in (the_source s)) c.in-Binary.is ∙ c.if-is_turned.ensures (symbols_in c.in-Binary.a) (symbols_in c.in-Binary.b)
    ∙ ap (λ x. symbols_in x ++ symbols_in c.in-Binary.b) (sym c.get-in-Binary.ensures)
    ∙ ap (λ x. symbols_in (the_source c.get-in-Binary.result.now) ++ symbols_in x) (sym c.get-in-Binary-2.ensures))
    c.in_default-add_symbols-2.ensures c.add_symbols-in-Binary-2.ensures
