use Rattle.std.proofs.Common.{sym, ◌∙◌, ap, length}
use Rattle.calculus.specs.Structures.{list_at}
use Rattle.finite_model.specs.Conditions.{is_row_kept}
use Rattle.finite_model.specs.StructureView.{the_lists}
use Rattle.finite_model.proofs.PersistenceLaws.{kept-rows, no-meaning, no-values, rows-as_long, shown-rows}
use Rattle.finite_model.proofs.structure.Structure.is_kept.Goals as goal

pub is_row_kept-requires : goal.is_row_kept-requires
is_row_kept-requires c =
    ap length (c.list_at-row.ensures ∙ ap (λ vs. list_at (the_lists vs) c.args.world) c.as_slice.ensures.value)
    ∙ rows-as_long c.args.self.now c.args.predicate.0 c.args.arity c.args.world c.args.other c.in-Some-Truths.rows.items c.requires.rows (shown-rows c.args.self.now c.args.predicate.0 c.args.arity c.meaning.result c.in-Some-Truths.field-0 c.in-Some-Truths.rows c.meaning.ensures c.in-Some-Truths.is c.in-Some-Truths.field-0-is) c.requires.world c.requires.other
    ∙ sym (ap length (c.list_at-others.ensures ∙ ap (λ vs. list_at (the_lists vs) c.args.other) c.as_slice-in-Some-Truths.ensures.value))

pub returns-in-Some-Truths : goal.returns-in-Some-Truths
returns-in-Some-Truths c =
    c.is_row_kept.ensures
    ∙ (λ i. is_row_kept ((c.list_at-row.ensures ∙ ap (λ vs. list_at (the_lists vs) c.args.world) c.as_slice.ensures.value) i) ((c.list_at-others.ensures ∙ ap (λ vs. list_at (the_lists vs) c.args.other) c.as_slice-in-Some-Truths.ensures.value) i))
    ∙ kept-rows c.args.self.now c.args.predicate.0 c.args.arity c.args.world c.args.other c.in-Some-Truths.rows.items c.requires.rows (shown-rows c.args.self.now c.args.predicate.0 c.args.arity c.meaning.result c.in-Some-Truths.field-0 c.in-Some-Truths.rows c.meaning.ensures c.in-Some-Truths.is c.in-Some-Truths.field-0-is) c.requires.world c.requires.other

pub returns-in-Some-Values : goal.returns-in-Some-Values
returns-in-Some-Values c = absurd (no-values c.args.self.now c.args.predicate.0 c.args.arity c.meaning.result c.in-Some-Values.field-0 _ c.requires.rows c.meaning.ensures c.in-Some-Values.is c.in-Some-Values.field-0-is)

pub returns-in-None : goal.returns-in-None
returns-in-None c = absurd (no-meaning c.args.self.now c.args.predicate.0 c.args.arity c.meaning.result c.requires.rows c.meaning.ensures c.in-None.is)
