use Rattle.std.proofs.Common.{drop}
use Rattle.derivation_branch.proofs.FollowingLaws.{IsAfter}
use Rattle.derivation_branch.proofs.following.after_items.Given as goal

abbrev pub invariant-loop-item : goal.invariant-loop-item
invariant-loop-item l = IsAfter l.items l.front l.rest (drop l.item-index l.front)
