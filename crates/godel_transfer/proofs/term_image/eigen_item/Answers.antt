use Rattle.std.proofs.Common.{get_or, sym, ap, ◌∙◌}
use Rattle.calculus.specs.Syntax.{Term}
use Rattle.formula_text.specs.Rows.{row_of}
use Rattle.formula_text.specs.declared.term_row.RowItem.TheVariants as item
use Rattle.godel_transfer.specs.ImagesView.{images_of}
use Rattle.godel_transfer.proofs.ImagesLaws.{eigen-some, eigen-none}
use Rattle.godel_transfer.proofs.term_image.eigen_item.Goals as goal

pub returns-in-Some : goal.returns-in-Some
returns-in-Some c = ap (λ (t : Term). get_or (row_of t) 0 (item.Spare 1)) (sym (eigen-some (images_of c.args.eigens.now) c.args.number c.in-Some.image (sym c.find.ensures ∙ c.in-Some.is)))

pub returns-in-None : goal.returns-in-None
returns-in-None c = ap (λ (t : Term). get_or (row_of t) 0 (item.Spare 1)) (sym (eigen-none (images_of c.args.eigens.now) c.args.number (sym c.find.ensures ∙ c.in-None.is)))
