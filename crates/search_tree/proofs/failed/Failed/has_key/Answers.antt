use Rattle.search_tree.proofs.FailedLaws.{failed-at}
use Rattle.search_tree.proofs.failed.Failed.has_key.Goals as goal

pub returns-then-is_key_of : goal.returns-then-is_key_of
returns-then-is_key_of c = λ t P d h.
    let (e, at, q) = c.is_key_of.ensures c.if-is_key_of.true in
    failed-at P d c.args.self.now.entries.items c.in-Some.number e c.args.self.now.key.parts.items h at q
