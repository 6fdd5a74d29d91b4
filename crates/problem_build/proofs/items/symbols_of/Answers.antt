use Rattle.std.proofs.Common.{arith}
use Rattle.tptp_reader.specs.SourceView.{the_source}
use Rattle.problem_build.specs.Expansion.{symbols_in}
use Rattle.problem_build.proofs.AddingLaws.{told-full}
use Rattle.problem_build.proofs.ItemLaws.{symbols-next, symbols-next_full}
use Rattle.problem_build.proofs.ListLaws.{inner-fault}
use Rattle.problem_build.proofs.NameCountLaws.{short-passed}
use Rattle.problem_build.proofs.items.symbols_of.Goals as goal

pub add_symbols-requires : goal.add_symbols-requires
add_symbols-requires c =
    let h = short-passed c.args.passed.now c.loop-item.item-index c.item-item.result c.item-item.result (omega arith) c.item-item.is c.requires in omega (arith, h)

pub returns-in-Err-clause-full : goal.returns-in-Err-clause-full
returns-in-Err-clause-full c = λ e.
    symbols-next_full c.args.passed.now c.loop-item.item-index c.item-item.result c.loop-item.symbols _ (omega arith) c.item-item.is
    (told-full c.loop-item.symbols (symbols_in (the_source c.item-item.result.body)) c.in-Err.fault (inner-fault _ _ e) c.in-Err.ensures) c.loop-item.invariant

pub loop-item-preserved : goal.loop-item-preserved
loop-item-preserved c =
    symbols-next c.args.passed.now c.loop-item.item-index c.item-item.result c.loop-item.symbols _ _ (omega arith) c.item-item.is
    c.in_default.ensures c.loop-item.invariant
