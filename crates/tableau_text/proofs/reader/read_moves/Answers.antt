use Rattle.std.proofs.Common.{◌+◌, refl, sym, subst, arith, ap, Err, false}
use Rattle.calculus.specs.FirstWrong.{IsFirstWrong}
use Rattle.calculus.specs.TableauText.{moves_texts, tableau_causes}
use Rattle.logic_rules.proofs.ProblemFacts.{kept}
use Rattle.tableau_text.proofs.LineLaws.{IsReadBy, read-first}
use Rattle.tableau_text.proofs.ReadLaws.{counted-within, fault-after_by, fault-end_by, fault-line_by, step-by, text-by, told-line, told-wrong}
use Rattle.tableau_text.proofs.reader.read_moves.Goals as goal

pub read_line-requires-clause-distinct : goal.read_line-requires-clause-distinct
read_line-requires-clause-distinct c = rw c.symbols-symbols.ensures.symbols (kept c.args.problem.now c.requires.well).distinct

pub read_line-requires-clause-fits : goal.read_line-requires-clause-fits
read_line-requires-clause-fits c = rw c.symbols-symbols.ensures.symbols (kept c.args.problem.now c.requires.well).symbols

pub returns-then-ended-clause-fault : goal.returns-then-ended-clause-fault
returns-then-ended-clause-fault c = λ line cause e.
    told-wrong c.args.problem.now c.args.bytes.now _ line _ cause e
    (fault-after_by c.args.problem.now c.requires.well c.args.bytes.now c.args.limit c.loop-line.table c.args.start.now c.loop-line.moves.items c.loop-line.place c.loop-line.ended c.loop-line.count c.loop-line.invariant c.in-Some.next c.in-Some.line.now c.if-ended.true c.in-Some.ensures.some)

pub returns-in-Err-clause-fault : goal.returns-in-Err-clause-fault
returns-in-Err-clause-fault c = λ line cause e.
    told-line c.args.problem.now c.args.bytes.now _ line cause c.fault_of.result c.in-Err.read c.fault_of.ensures e
    (λ n. fault-line_by c.args.problem.now c.requires.well c.args.bytes.now c.args.limit c.loop-line.table c.args.start.now c.loop-line.moves.items c.loop-line.place c.loop-line.ended c.loop-line.count c.loop-line.invariant c.in-Some.next c.in-Some.line.now c.if-ended.false c.in-Some.ensures.some
    (rw c.symbols-symbols.ensures.symbols at c.in-Err.ensures.none (ap Err n)))

pub loop-line-preserved : goal.loop-line-preserved
loop-line-preserved c =
    step-by c.args.problem.now c.requires.well c.args.bytes.now c.args.limit c.loop-line.table c.args.start.now c.loop-line.moves.items c.loop-line.place c.loop-line.ended c.loop-line.count c.loop-line.invariant c.read_line.new.table c.read_line.new.moves.items c.in-Some.next c.in-Some.line.now c.in-Ok.done c.if-ended.false c.in-Ok.ensures.grown c.in-Some.ensures.some
    (rw c.symbols-symbols.ensures.symbols at c.in-Ok.ensures.ok)

pub returns-then-has_ended-clause-text : goal.returns-then-has_ended-clause-text
returns-then-has_ended-clause-text c =
    let y = c.has_ended.ensures.yes c.if-has_ended.true in
    text-by c.args.problem.now c.requires.well c.args.bytes.now c.args.limit c.loop-line.table c.args.start.now c.loop-line.moves.items c.loop-line.place c.loop-line.ended c.loop-line.count c.loop-line.invariant y.0 y.1

pub loop-line-init : goal.loop-line-init
loop-line-init c =
    subst (λ ms. IsReadBy c.args.problem.now c.args.bytes.now c.args.limit c.args.table.now c.args.start.now ms c.args.from false 5) (sym c.new-moves.ensures.items)
    (read-first c.args.problem.now c.args.bytes.now c.args.limit c.args.table.now c.args.start.now c.args.from c.requires.begun c.requires.normal)

pub line_at-requires : goal.line_at-requires
line_at-requires c = c.loop-line.invariant.read.lines.within

pub overflow_add-count : goal.overflow_add-count
overflow_add-count c = let f = counted-within c.args.problem.now c.requires.well c.args.bytes.now c.args.limit c.loop-line.table c.args.start.now c.loop-line.moves.items c.loop-line.place c.loop-line.ended c.loop-line.count c.loop-line.invariant in omega (arith, f)

pub overflow_add-result-else-has_ended : goal.overflow_add-result-else-has_ended
overflow_add-result-else-has_ended c = let f = counted-within c.args.problem.now c.requires.well c.args.bytes.now c.args.limit c.loop-line.table c.args.start.now c.loop-line.moves.items c.loop-line.place c.loop-line.ended c.loop-line.count c.loop-line.invariant in omega (arith, f)

pub returns-else-has_ended-clause-fault : goal.returns-else-has_ended-clause-fault
returns-else-has_ended-clause-fault c = λ line cause e.
    told-wrong c.args.problem.now c.args.bytes.now _ line _ cause e
    (subst (λ f. IsFirstWrong (moves_texts c.args.problem.now) tableau_causes c.args.bytes.now (c.loop-line.count + 1) f) (sym c.fault_behind.ensures)
    (fault-end_by c.args.problem.now c.requires.well c.args.bytes.now c.args.limit c.loop-line.table c.args.start.now c.loop-line.moves.items c.loop-line.place c.loop-line.ended c.loop-line.count c.loop-line.invariant (c.in_default.ensures.none refl) (c.has_ended.ensures.no c.if-has_ended.false) c.loop-line.invariant.read.lines.within))
