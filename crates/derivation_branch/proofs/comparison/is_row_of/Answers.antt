use Rattle.std.proofs.Common.{◌≡◌, ◌++◌, List, subst}
use Rattle.std.specs.Prelude.{IfSome, IsNone}
use Rattle.formula_core.specs.TermView.{the_term}
use Rattle.derivation_branch.specs.EntryView.{term_under}
use Rattle.formula_text.specs.Rows.{row_of}
use Rattle.formula_text.specs.declared.term_row.RowItem.{RowItem}
use Rattle.derivation_branch.proofs.comparison.is_row_of.Goals as goal

pub returns-clause-told : goal.returns-clause-told
returns-clause-told c =
    let u = term_under c.args.substitutions.now c.args.i (the_term c.args.t.now) in
    c.is_whole.ensures.told c.args.row.now u
    (subst (λ l. IfSome c.after_term.result (λ r. l ≡ row_of u ++ r.now)) c.items.ensures c.after_term.ensures.some)
    (subst (λ l. IsNone c.after_term.result → (r : List RowItem) → ¬ (l ≡ row_of u ++ r)) c.items.ensures c.after_term.ensures.none)

pub returns-clause-turned : goal.returns-clause-turned
returns-clause-turned c =
    let u = term_under c.args.substitutions.now c.args.i (the_term c.args.t.now) in
    c.is_whole.ensures.turned c.args.row.now u
    (subst (λ l. IfSome c.after_term.result (λ r. l ≡ row_of u ++ r.now)) c.items.ensures c.after_term.ensures.some)
    (subst (λ l. IsNone c.after_term.result → (r : List RowItem) → ¬ (l ≡ row_of u ++ r)) c.items.ensures c.after_term.ensures.none)
