use Rattle.std.proofs.Common.{map, refl, ap, sym, ◌∙◌, arith}
use Rattle.std.specs.List.{list_all}
use Rattle.calculus.specs.Syntax.{Setting}
use Rattle.calculus.specs.Tableaux.{is_shown}
use Rattle.tableau_core.specs.Counted.{longest_string, is_short_count}
use Rattle.tableau_core.specs.Numbered.LiteralView.{the_literal}
use Rattle.tableau_core.specs.Numbered.TableauView.{the_tableau}
use Rattle.tableau_core.specs.declared.count.Count.{Count}
use Rattle.tableau_core.proofs.CloseLaws.{from-start, not-shown, not-closed, closed-by}
use Rattle.tableau_core.proofs.closed.is_closed_within.Goals as goal

-- The answers behind the goals, and behind the bound on strings.

pub returns-in-None-all : goal.returns-in-None-all
returns-in-None-all c = let P = c.args.problem.now in let t = the_tableau c.args.t.now in
    let start : Count = record { steps = c.in-Some.steps; longest = c.longest_string.result } in
    not-closed P c.args.limit t start (from-start P c.args.limit t _ _ _ start (sym c.in-None-all.is ∙ c.in_ok-all-in-Some.ensures) refl (ap (map (the_literal c.args.t.now.table)) c.items-literals.ensures))

pub returns-in-Some-all : goal.returns-in-Some-all
returns-in-Some-all c = let P = c.args.problem.now in let t = the_tableau c.args.t.now in let all = c.in-Some-all.count in
    let start : Count = record { steps = c.in-Some.steps; longest = c.longest_string.result } in
    c.is_short.ensures ∙ ap (λ l. is_short_count l all) (c.logic.ensures ∙ ap (λ (s : Setting). s.logic) c.setting.ensures.setting)
    ∙ closed-by P c.args.limit t c.in-Some.steps start all (sym c.in-Some.is ∙ c.in_ok-own.ensures) (sym (ap (λ xs. list_all is_shown (map (the_literal c.args.t.now.table) xs)) c.items-literals.ensures) ∙ sym c.are_shown.ensures ∙ c.if-not-are_shown.false) refl (c.longest_string.ensures ∙ ap longest_string c.values.ensures.list) (from-start P c.args.limit t _ _ _ start (sym c.in-Some-all.is ∙ c.in_ok-all-in-Some.ensures) refl (ap (map (the_literal c.args.t.now.table)) c.items-literals.ensures)) (omega arith)

pub returns-then-not-are_shown : goal.returns-then-not-are_shown
returns-then-not-are_shown c = not-shown c.args.problem.now c.args.limit (the_tableau c.args.t.now) (sym (ap (λ xs. list_all is_shown (map (the_literal c.args.t.now.table) xs)) c.items-literals.ensures) ∙ sym c.are_shown.ensures ∙ c.if-not-are_shown.true)
