use Rattle.std.proofs.Common.{◌∙◌, ap, slice_index}
use Rattle.finite_model.specs.StructureView.{is_one}
use Rattle.finite_model.proofs.structure.is_one_at.Goals as goal

pub returns : goal.returns
returns c = λ k e. ap is_one (c.entry_at.ensures k e ∙ ap (λ xs. slice_index xs k) c.list_at.ensures)
