use Rattle.term_unify.proofs.FlatLaws.{open-mark}
use Rattle.term_unify.proofs.flat.is_string.Goals as goal

pub returns-in-Open-clause-mark : goal.returns-in-Open-clause-mark
returns-in-Open-clause-mark c = λ e. open-mark c.args.store.now.store c.args.end.0 c.head.result c.in-Open.field-0 c.requires.end c.requires.sort c.requires.free c.head.ensures c.in-Open.is
