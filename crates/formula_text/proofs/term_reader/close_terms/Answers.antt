use Rattle.std.proofs.Common.{◌≤◌, arith, sym, ◌∙◌}
use Rattle.std.proofs.lemmas.Bool.{false≢true}
use Rattle.formula_text.proofs.Passing.{error-passed}
use Rattle.formula_text.proofs.RowsRead.{argument, closed, none-end, none-follower, none-function, read-in, symbol-within}
use Rattle.formula_text.proofs.term_reader.close_terms.Goals as goal

pub returns-then-has_byte-clause-ok : goal.returns-then-has_byte-clause-ok
returns-then-has_byte-clause-ok c =
    let S = c.args.symbols.now in
    let bytes = c.args.text.now in
    let os = c.pop.new.self.items in
    let h = read-in S bytes c.loop-term.end os c.loop-term.stack.items c.in-Some.term c.loop-term.items.items c.in-Some.ensures.items c.loop-term.invariant.read in
    argument S bytes c.loop-term.end os c.push_reserved.new.self.items c.in-Some.term c.loop-term.items.items h (c.has_byte.ensures.yes c.if-has_byte.true) (c.has_byte.ensures.within c.if-has_byte.true) c.push_reserved.ensures.items

pub returns-then-not-has_byte-clause-none : goal.returns-then-not-has_byte-clause-none
returns-then-not-has_byte-clause-none c = λ _.
    let S = c.args.symbols.now in
    let bytes = c.args.text.now in
    let os = c.pop.new.self.items in
    let h = read-in S bytes c.loop-term.end os c.loop-term.stack.items c.in-Some.term c.loop-term.items.items c.in-Some.ensures.items c.loop-term.invariant.read in
    none-follower S c.requires.distinct bytes c.loop-term.end os c.in-Some.term c.loop-term.items.items h (c.has_byte.ensures.no c.if-has_byte.false) (c.has_byte-in-Some.ensures.no c.if-not-has_byte.true)

pub returns-then-not-ends_at-clause-none : goal.returns-then-not-ends_at-clause-none
returns-then-not-ends_at-clause-none c = λ _.
    let S = c.args.symbols.now in
    let bytes = c.args.text.now in
    let os = c.pop.new.self.items in
    let h = read-in S bytes c.loop-term.end os c.loop-term.stack.items c.in-Some.term c.loop-term.items.items c.in-Some.ensures.items c.loop-term.invariant.read in
    none-end S c.requires.distinct bytes c.loop-term.end os c.in-Some.term c.loop-term.items.items h (c.has_byte-in-Some.ensures.yes c.if-not-has_byte.false)
    (λ e. false≢true (sym c.if-not-ends_at.true ∙ c.ends_at.ensures.1 e))

pub put_symbol-requires-clause-from : goal.put_symbol-requires-clause-from
put_symbol-requires-clause-from c =
    let h = read-in c.args.symbols.now c.args.text.now c.loop-term.end c.pop.new.self.items c.loop-term.stack.items c.in-Some.term c.loop-term.items.items c.in-Some.ensures.items c.loop-term.invariant.read in
    h.last.within

pub put_symbol-requires-clause-at : goal.put_symbol-requires-clause-at
put_symbol-requires-clause-at c =
    let S = c.args.symbols.now in
    let bytes = c.args.text.now in
    let os = c.pop.new.self.items in
    let h = read-in S bytes c.loop-term.end os c.loop-term.stack.items c.in-Some.term c.loop-term.items.items c.in-Some.ensures.items c.loop-term.invariant.read in
    symbol-within S bytes c.loop-term.end os c.in-Some.term c.loop-term.items.items h

pub loop-term-preserved : goal.loop-term-preserved
loop-term-preserved c =
    let S = c.args.symbols.now in
    let bytes = c.args.text.now in
    let os = c.pop.new.self.items in
    let h = read-in S bytes c.loop-term.end os c.loop-term.stack.items c.in-Some.term c.loop-term.items.items c.in-Some.ensures.items c.loop-term.invariant.read in
    let onward : c.args.end ≤ c.loop-term.end = c.loop-term.invariant.onward in record {
      read = closed S bytes c.loop-term.end os c.in-Some.term c.loop-term.items.items c.put_symbol.new.items.items h (c.has_byte-in-Some.ensures.yes c.if-not-has_byte.false) (c.has_byte-in-Some.ensures.within c.if-not-has_byte.false)
          (c.ends_at.ensures.0 c.if-not-ends_at.false) (c.in_ok-put_symbol.ensures.ok h.last.end h.frame.name h.last.named);
      onward = omega arith;
    }

pub returns-in_err-put_symbol-clause-none : goal.returns-in_err-put_symbol-clause-none
returns-in_err-put_symbol-clause-none c = λ e.
    let S = c.args.symbols.now in
    let bytes = c.args.text.now in
    let os = c.pop.new.self.items in
    let h = read-in S bytes c.loop-term.end os c.loop-term.stack.items c.in-Some.term c.loop-term.items.items c.in-Some.ensures.items c.loop-term.invariant.read in
    none-function S c.requires.distinct bytes c.loop-term.end os c.in-Some.term c.loop-term.items.items h (c.has_byte-in-Some.ensures.yes c.if-not-has_byte.false)
    (c.in_err-put_symbol.ensures.none h.last.end h.frame.name h.last.named (error-passed c.from_residual.result c.in_err-put_symbol.field-0.0 _ c.from_residual.ensures.1 e))
