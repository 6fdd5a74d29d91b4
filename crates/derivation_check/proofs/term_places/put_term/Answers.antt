use Rattle.derivation_check.proofs.PutLaws.{closed-of, put-first}
use Rattle.derivation_check.proofs.term_places.put_term.Goals as goal

pub put-requires-clause-closed : goal.put-requires-clause-closed
put-requires-clause-closed c = closed-of c.requires.names.0 c.args.t.now c.args.names.now c.requires.names.1 c.if-names.false

pub returns-clause-put : goal.returns-clause-put
returns-clause-put c = put-first c.args.substitutions.now c.put.new.self c.args.t.now c.in_ok-place.place c.in_ok-place.ensures.place c.in_ok-place.ensures.put
