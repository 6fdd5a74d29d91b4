use Rattle.std.proofs.Common.{◌<◌, ◌∷◌, ◌++◌, [], ◌∙◌, length, List, ap, sym, arith}
use Rattle.calculus.specs.Syntax.{Symbol}
use Rattle.cop_base.proofs.Items.{map-end, map-take-item}
use Rattle.formula_core.specs.SymbolView.{the_symbol}
use Rattle.godel_transfer.proofs.SymbolLists.{copied-fewer, copied-new}
use Rattle.godel_transfer.proofs.translation.copy_symbols.Goals as goal

pub add_copy-requires-clause-new : goal.add_copy-requires-clause-new
add_copy-requires-clause-new c = λ h. copied-new c.items-s-items.result.now c.args.symbols.now c.loop-s.copied c.loop-s.s-index c.s-item.result c.items-s-items.ensures c.len-count.ensures.distinct (omega (arith, c.loop-s-test.true)) c.s-item.is c.loop-s.invariant h

pub add_copy-requires-clause-room : goal.add_copy-requires-clause-room
add_copy-requires-clause-room c =
    let fewer = copied-fewer c.items-s-items.result.now c.args.symbols.now c.loop-s.copied c.loop-s.s-index c.items-s-items.ensures (omega (arith, c.loop-s-test.true)) c.loop-s.invariant in
    let most = c.len-count.ensures.most in
    let len = c.len-count.ensures.len in
    omega arith

pub loop-s-preserved : goal.loop-s-preserved
loop-s-preserved c =
    let inside : c.loop-s.s-index < length c.items-s-items.result.now = omega (arith, c.loop-s-test.true) in
    c.in_ok-add_copy.ensures ∙ ap (λ (ss : List Symbol). ss ++ the_symbol c.s-item.result ∷ []) c.loop-s.invariant ∙ sym (map-take-item the_symbol c.items-s-items.result.now c.loop-s.s-index c.s-item.result c.s-item.result inside c.s-item.is)

pub returns : goal.returns
returns c =
    let all = map-end the_symbol c.items-s-items.result.now c.args.symbols.now c.loop-s.s-index c.items-s-items.ensures (omega (arith, c.loop-s-test.false)) in
    c.loop-s.invariant ∙ all
