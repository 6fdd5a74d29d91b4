use Rattle.std.proofs.Common.{◌<◌, length}
use Rattle.term_unify.proofs.MatchedLaws.{parts-among, parts-told, stands-end}
use Rattle.term_unify.proofs.PairLaws.{part-inside}
use Rattle.term_unify.proofs.matching.part_of.Goals as goal

pub parts_at-requires : goal.parts_at-requires
parts_at-requires c = stands-end c.args.store.now.store c.args.end.0 c.requires.end

pub part_in-requires : goal.part_in-requires
part_in-requires c = parts-told c.args.store.now.store c.args.end.0 c.parts_at.result.now (λ rs. c.args.i < length rs) c.requires.end c.parts_at.ensures.parts c.requires.there

pub returns-clause-part : goal.returns-clause-part
returns-clause-part c = parts-among c.args.store.now.store c.args.end.0 c.args.i c.part_in.result.0 c.parts_at.result.now c.requires.end c.parts_at.ensures.parts c.part_in.ensures

pub returns-clause-within : goal.returns-clause-within
returns-clause-within c = part-inside c.args.store.now.store c.args.end.0 c.args.i c.part_in.result.0 c.parts_at.result.now c.parts_at.ensures.well c.parts_at.ensures.parts c.part_in.ensures
