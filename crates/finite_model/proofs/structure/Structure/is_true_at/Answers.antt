use Rattle.std.proofs.Common.{◌∙◌, sym, ap, false, slice_index}
use Rattle.std.specs.Option.{option_map_or}
use Rattle.calculus.specs.Structures.{list_at, truth_in}
use Rattle.finite_model.specs.StructureView.{is_one, the_lists}
use Rattle.finite_model.proofs.ValueLaws.{row-bit, shown-truths}
use Rattle.finite_model.proofs.structure.Structure.is_true_at.Goals as goal

pub returns-in-Some-Truths : goal.returns-in-Some-Truths
returns-in-Some-Truths c = λ k e.
    c.is_one_at.ensures k e
    ∙ ap (λ rows. is_one (slice_index (list_at (the_lists rows) c.args.world) k)) c.as_slice.ensures.value
    ∙ row-bit c.in-Some-Truths.rows.items c.args.world k
    ∙ sym (ap (λ m. option_map_or (truth_in c.args.world k) m false) c.meaning.ensures ∙ shown-truths c.meaning.result c.in-Some-Truths.field-0 c.in-Some-Truths.rows c.args.world k c.in-Some-Truths.is c.in-Some-Truths.field-0-is)
