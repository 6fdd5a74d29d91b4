use Rattle.std.proofs.Common.{ap, arith}
use Rattle.store_theory.specs.Patterns.{pattern_list_size}
use Rattle.term_store.specs.PatternFalls.{size-item}
use Rattle.search_tree.proofs.occurrences.+bits.Goals as goal

pub bits_in_all-bits_in-bits-requires : goal.bits_in_all-bits_in-bits-requires
bits_in_all-bits_in-bits-requires t c =
    let n = size-item c.items-pattern-items.result.now c.loop-pattern.pattern-index c.pattern-item.result c.pattern-item.result (omega arith) c.pattern-item.is in
    let same = ap pattern_list_size c.items-pattern-items.ensures in
    let d = c.decreases in
    (omega (arith, n, same, d), tt)
