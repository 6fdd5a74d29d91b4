use Rattle.std.proofs.Common.{◌==◌, ap, arith, length, refl, sym, ◌∙◌}
use Rattle.std.proofs.lemmas.List.{length-map}
use Rattle.formula_core.specs.GroundLists.{the_terms, the_g_term}
use Rattle.tableau_core.proofs.Numbered.KnownLaws.{terms-looked, no-terms, or-else, or-then}
use Rattle.tableau_core.proofs.admission.are_known_terms.Goals as goal

pub returns-then-place-known : goal.returns-then-place-known
returns-then-place-known c = λ P look. no-terms P (the_terms c.args.table.now c.args.list) (c.requires (omega arith))

pub returns-then-told : goal.returns-then-told
returns-then-told c = λ P look. let n = length c.terms-items.result.now in c.if-told.true ∙ or-then _ (n == 0) _ (terms-looked P c.args.table.now c.args.known.now c.args.list.0 _ (n == 0) _ look (omega arith) refl n refl (sym (length-map c.terms-items.result.now (the_g_term c.args.table.now)) ∙ ap length c.terms-items.ensures.list)) c.if-told.true

pub returns-else-told : goal.returns-else-told
returns-else-told c = λ P look. let n = length c.terms-items.result.now in c.is_empty.ensures ∙ or-else _ (n == 0) _ (terms-looked P c.args.table.now c.args.known.now c.args.list.0 _ (n == 0) _ look (omega arith) refl n refl (sym (length-map c.terms-items.result.now (the_g_term c.args.table.now)) ∙ ap length c.terms-items.ensures.list)) c.if-told.false
