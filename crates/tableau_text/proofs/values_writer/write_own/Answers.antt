use Rattle.std.proofs.Common.{◌++◌, ◌∙◌, ap, append_assoc, codes, decimal}
use Rattle.std.proofs.lemmas.Bool.{and_parts}
use Rattle.tableau_text.proofs.PieceLaws.{wrote-behind}
use Rattle.tableau_text.proofs.values_writer.write_own.Goals as goal

pub open_marks-requires : goal.open_marks-requires
open_marks-requires c = (and_parts _ _ c.requires).1

pub returns : goal.returns
returns c =
    wrote-behind c.args.symbols.now c.args.table.now (codes "$$s" ++ decimal c.args.k ++ codes "@") _ _ _ _ _ _
    (c.in_ok-write_bytes.ensures.ok ∙ ap (λ l. l ++ codes "@") c.in_ok-write_numbered.ensures ∙ append_assoc c.args.out.now.items (codes "$$s" ++ decimal c.args.k) (codes "@")) c.in_ok-open_marks.ensures
