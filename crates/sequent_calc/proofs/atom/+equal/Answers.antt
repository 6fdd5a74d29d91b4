use Rattle.std.proofs.Common.{sym}
use Rattle.sequent_calc.proofs.TermLists.{terms_eq-items}
use Rattle.sequent_calc.proofs.atom.+equal.Goals as goal

pub are_equal_terms-returns-then-left-right : goal.are_equal_terms-returns-then-left-right
are_equal_terms-returns-then-left-right t c =
    sym (terms_eq-items c.items-left.result.now c.items-right.result.now _ _ c.items-left.ensures c.items-right.ensures c.if-left-right.true)
