use Rattle.std.proofs.Common.{◌==◌, ap, arith, length, refl, sym, ◌∙◌}
use Rattle.std.proofs.lemmas.List.{length-map}
use Rattle.formula_core.specs.GroundLists.{the_marks, the_mark}
use Rattle.tableau_core.proofs.Numbered.KnownLaws.{marks-looked, no-marks, or-else, or-then}
use Rattle.tableau_core.proofs.admission.are_known_marks.Goals as goal

pub returns-then-place-known : goal.returns-then-place-known
returns-then-place-known c = λ P look. no-marks P (the_marks c.args.table.now c.args.list) (c.requires (omega arith))

pub returns-then-told : goal.returns-then-told
returns-then-told c = λ P look. let n = length c.marks-items.result.now in c.if-told.true ∙ or-then _ (n == 0) _ (marks-looked P c.args.table.now c.args.known.now c.args.list.0 _ (n == 0) _ look (omega arith) refl n refl (sym (length-map c.marks-items.result.now (the_mark c.args.table.now)) ∙ ap length c.marks-items.ensures.list)) c.if-told.true

pub returns-else-told : goal.returns-else-told
returns-else-told c = λ P look. let n = length c.marks-items.result.now in c.is_empty.ensures ∙ or-else _ (n == 0) _ (marks-looked P c.args.table.now c.args.known.now c.args.list.0 _ (n == 0) _ look (omega arith) refl n refl (sym (length-map c.marks-items.result.now (the_mark c.args.table.now)) ∙ ap length c.marks-items.ensures.list)) c.if-told.false
