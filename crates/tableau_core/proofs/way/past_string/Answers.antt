use Rattle.std.proofs.Common.{rules, map, length, ap, sym, ◌∙◌}
use Rattle.std.proofs.lemmas.List.{length-map}
use Rattle.formula_core.specs.GroundLists.{the_mark, the_value}
use Rattle.tableau_core.proofs.StringLaws.{string-past, string-stays}
use Rattle.tableau_core.proofs.way.past_string.Goals as goal

pub returns-then-is_step_length : goal.returns-then-is_step_length
returns-then-is_step_length c = let h = c.in-Some-Steps-default in
    string-past c.args.logic (map (the_value c.args.table.now) c.args.values.now) (map (the_value c.args.table.now) h.rest.now) _ _ (search rules) (sym (length-map c.marks.result.now (the_mark c.args.table.now)) ∙ ap length c.marks.ensures.list) (sym c.is_step_length.ensures ∙ c.if-is_step_length.true)

pub returns-else-is_step_length : goal.returns-else-is_step_length
returns-else-is_step_length c = let h = c.in-Some-Steps-default in string-stays c.args.logic (map (the_value c.args.table.now) c.args.values.now) (map (the_value c.args.table.now) h.rest.now) _ _ (search rules) (sym (length-map c.marks.result.now (the_mark c.args.table.now)) ∙ ap length c.marks.ensures.list) (sym c.is_step_length.ensures ∙ c.if-is_step_length.false)
