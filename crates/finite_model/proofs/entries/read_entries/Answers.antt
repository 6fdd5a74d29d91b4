use Rattle.std.proofs.Common.{refl, ◌∙◌, ap, sym}
use Rattle.formula_text.proofs.Passing.{error-passed}
use Rattle.finite_model.specs.Slots.{predicate_slots, table_sizes}
use Rattle.finite_model.proofs.EntryReading.{behind_domains, behind_relations, left-begun, left-fault, left-last}
use Rattle.finite_model.proofs.entries.read_entries.Goals as goal

pub read_worlds-requires : goal.read_worlds-requires
read_worlds-requires c = c.requires.head.lines.within

pub read_functions-requires-clause-sizes : goal.read_functions-requires-clause-sizes
read_functions-requires-clause-sizes c = c.as_slice-sizes.ensures.value ∙ c.requires.head.sizes ∙ ap (table_sizes c.args.head.now.elements) (sym c.symbols-symbols.ensures.symbols)

pub read_predicates-requires-clause-sizes : goal.read_predicates-requires-clause-sizes
read_predicates-requires-clause-sizes c = c.as_slice-sizes.ensures.value ∙ c.requires.head.sizes ∙ ap (table_sizes c.args.head.now.elements) (sym c.symbols-symbols.ensures.symbols)

pub returns-in_err-read_worlds-clause-fault : goal.returns-in_err-read_worlds-clause-fault
returns-in_err-read_worlds-clause-fault c = λ line why e.
    let k = error-passed c.from_residual.result c.in_err-read_worlds.field-0.0 _ c.from_residual.ensures.1 e in
    (c.in_err-read_worlds.ensures.fault line why k).told c.args.problem.now c.args.head.now (behind_relations c.args.head.now c.symbols-symbols.result.now) (left-begun c.args.problem.now c.args.bytes.now c.args.head.now c.symbols-symbols.result.now _ c.requires.names c.requires.head c.symbols-symbols.ensures.symbols c.new.ensures.items refl)

pub returns-in_err-read_worlds-2-clause-fault : goal.returns-in_err-read_worlds-2-clause-fault
returns-in_err-read_worlds-2-clause-fault c = λ line why e.
    let k = error-passed c.from_residual-in_err-read_worlds-2.result c.in_err-read_worlds-2.field-0.0 _ c.from_residual-in_err-read_worlds-2.ensures.1 e in
    let m = c.in_ok-read_worlds.ensures.ok.leads c.args.problem.now c.args.head.now (behind_relations c.args.head.now c.symbols-symbols.result.now) (left-begun c.args.problem.now c.args.bytes.now c.args.head.now c.symbols-symbols.result.now _ c.requires.names c.requires.head c.symbols-symbols.ensures.symbols c.new.ensures.items refl) in
    (c.in_err-read_worlds-2.ensures.fault line why k).told c.args.problem.now c.args.head.now (behind_domains c.args.head.now c.symbols-symbols.result.now) m

pub returns-in_err-read_functions-clause-fault : goal.returns-in_err-read_functions-clause-fault
returns-in_err-read_functions-clause-fault c = λ line why e.
    let k = error-passed c.from_residual-in_err-read_functions.result c.in_err-read_functions.field-0.0 _ c.from_residual-in_err-read_functions.ensures.1 e in
    let m = c.in_ok-read_worlds.ensures.ok.leads c.args.problem.now c.args.head.now (behind_relations c.args.head.now c.symbols-symbols.result.now) (left-begun c.args.problem.now c.args.bytes.now c.args.head.now c.symbols-symbols.result.now _ c.requires.names c.requires.head c.symbols-symbols.ensures.symbols c.new.ensures.items refl) in
    let n = c.in_ok-read_worlds-2.ensures.ok.leads c.args.problem.now c.args.head.now (behind_domains c.args.head.now c.symbols-symbols.result.now) m in
    (c.in_err-read_functions.ensures.fault line why k).told c.args.problem.now c.args.head.now (predicate_slots c.args.head.now.worlds c.args.head.now.elements c.symbols-symbols.result.now) n

pub returns-in_err-read_predicates-clause-fault : goal.returns-in_err-read_predicates-clause-fault
returns-in_err-read_predicates-clause-fault c = λ line why e.
    let k = error-passed c.from_residual-in_err-read_predicates.result c.in_err-read_predicates.field-0.0 _ c.from_residual-in_err-read_predicates.ensures.1 e in
    let m = c.in_ok-read_worlds.ensures.ok.leads c.args.problem.now c.args.head.now (behind_relations c.args.head.now c.symbols-symbols.result.now) (left-begun c.args.problem.now c.args.bytes.now c.args.head.now c.symbols-symbols.result.now _ c.requires.names c.requires.head c.symbols-symbols.ensures.symbols c.new.ensures.items refl) in
    let n = c.in_ok-read_worlds-2.ensures.ok.leads c.args.problem.now c.args.head.now (behind_domains c.args.head.now c.symbols-symbols.result.now) m in
    let o = c.in_ok-read_functions.ensures.ok.leads c.args.problem.now c.args.head.now (predicate_slots c.args.head.now.worlds c.args.head.now.elements c.symbols-symbols.result.now) n in
    left-fault c.args.problem.now c.args.bytes.now c.args.head.now (predicate_slots c.args.head.now.worlds c.args.head.now.elements c.symbols-symbols.result.now) _ line why o (c.in_err-read_predicates.ensures.fault line why k)

pub returns-clause-ok : goal.returns-clause-ok
returns-clause-ok c =
    let m = c.in_ok-read_worlds.ensures.ok.leads c.args.problem.now c.args.head.now (behind_relations c.args.head.now c.symbols-symbols.result.now) (left-begun c.args.problem.now c.args.bytes.now c.args.head.now c.symbols-symbols.result.now _ c.requires.names c.requires.head c.symbols-symbols.ensures.symbols c.new.ensures.items refl) in
    let n = c.in_ok-read_worlds-2.ensures.ok.leads c.args.problem.now c.args.head.now (behind_domains c.args.head.now c.symbols-symbols.result.now) m in
    let o = c.in_ok-read_functions.ensures.ok.leads c.args.problem.now c.args.head.now (predicate_slots c.args.head.now.worlds c.args.head.now.elements c.symbols-symbols.result.now) n in
    left-last c.args.problem.now c.args.bytes.now c.args.head.now (predicate_slots c.args.head.now.worlds c.args.head.now.elements c.symbols-symbols.result.now) _ _ o c.in_ok-read_predicates.ensures.ok
