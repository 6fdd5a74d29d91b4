use Rattle.prefix_split.proofs.OrderLaws.{mark-within}
use Rattle.prefix_split.proofs.joining.is_other_mark.Goals as goal

pub are_apart-requires-clause-right : goal.are_apart-requires-clause-right
are_apart-requires-clause-right c = mark-within _ c.args.nodes.now c.args.z c.in-Some.q c.requires.fits c.in-Some.ensures

pub returns-in-Some : goal.returns-in-Some
returns-in-Some c = λ e. (c.in-Some.q, c.in-Some.ensures, c.are_apart.ensures e)
