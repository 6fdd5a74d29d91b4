use Rattle.prefix_split.proofs.OrderLaws.{mark-within, marks-other}
use Rattle.prefix_split.proofs.joining.have_other_marks.Goals as goal

pub is_other_mark-requires-clause-within : goal.is_other_mark-requires-clause-within
is_other_mark-requires-clause-within c = mark-within _ c.args.nodes.now c.args.y c.in-Some.r c.requires c.in-Some.ensures

pub returns-in-Some : goal.returns-in-Some
returns-in-Some c = λ e σ value t v. marks-other c.args.store.now.store σ value c.args.nodes.now c.args.y c.args.z c.in-Some.r t v c.in-Some.ensures (c.is_other_mark.ensures e)
