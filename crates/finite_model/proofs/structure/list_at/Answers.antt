use Rattle.std.proofs.Common.{◌∙◌, arith}
use Rattle.finite_model.proofs.ValueLaws.{list-there, list-past}
use Rattle.finite_model.proofs.structure.list_at.Goals as goal

pub returns-then-place-lists : goal.returns-then-place-lists
returns-then-place-lists c = c.as_slice.ensures.value ∙ list-there c.args.lists.now c.args.number c.index-lists-place.result (omega arith) c.index-lists-place.is

pub returns-else-place-lists : goal.returns-else-place-lists
returns-else-place-lists c = list-past c.args.lists.now c.args.number (omega arith)
