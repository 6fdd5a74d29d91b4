use Rattle.std.proofs.Common.{subst}
use Rattle.derivation_branch.specs.RowNumbers.{AreRowsApart}
use Rattle.derivation_branch.proofs.NumberLaws.{numbers-told}
use Rattle.derivation_branch.proofs.row_set.RowSet.are_equal.Goals as goal

pub returns : goal.returns
returns c = λ t u a b. numbers-told c.args.self.now c.args.first c.args.second t u (subst AreRowsApart c.self.view_is c.self.invariant) a b
