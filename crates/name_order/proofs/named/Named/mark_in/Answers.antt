use Rattle.std.proofs.Common.{ap, arith, length, subst, sym, ◌∙◌}
use Rattle.std.proofs.lemmas.List.{length-map}
use Rattle.calculus.specs.Ground.{g_new_mark, values_tree}
use Rattle.conversion_theory.specs.Numbering.{number_in}
use Rattle.conversion_theory.specs.Turns.{mark_name}
use Rattle.formula_core.specs.GroundLists.{the_value, the_values, IsGrown}
use Rattle.name_order.specs.ByNumber.NamedView.{NamedValue}
use Rattle.name_order.proofs.ByNumber.InsideLaws.{empty, filled}
use Rattle.name_order.proofs.ByNumber.NumberLaws.{no-number, same-empty, same-low}
use Rattle.name_order.proofs.named.Named.mark_in.Goals as goal

pub returns-then-number-count : goal.returns-then-number-count
returns-then-number-count c =
    let table = c.args.table.now in
    let lists = ap (λ (v : NamedValue). length v.lists) c.self.view_is in
    let n = c.len-count.ensures.len in
    let low = c.if-number-count.true in
    let same = same-low c.args.self.now.lists table c.requires.grown c.normal_values-list.ensures.apart c.normal_values-list.result (omega (arith, lists, n, low)) in
    c.mark.ensures ∙ ap (λ vs. number_in c.args.self.now.names (mark_name (g_new_mark c.args.p.0 (values_tree vs)))) (same ∙ c.normal_values-list.ensures.same)

pub returns-then-is_empty : goal.returns-then-is_empty
returns-then-is_empty c =
    let table = c.args.table.now in
    let none = empty (the_values table c.normal_values-list.result) (length c.values.result.now) c.is_empty.result (sym (length-map c.values.result.now (the_value table)) ∙ ap length c.values.ensures.list) c.is_empty.ensures c.if-is_empty.true in
    let same = same-empty c.args.self.now.lists table c.requires.grown c.normal_values-list.ensures.apart c.normal_values-list.result c.normal_values-list.ensures.normal none in
    c.mark-then-is_empty.ensures ∙ ap (λ vs. number_in c.args.self.now.names (mark_name (g_new_mark c.args.p.0 (values_tree vs)))) (same ∙ c.normal_values-list.ensures.same)

pub returns : goal.returns
returns c =
    let table = c.args.table.now in
    let list = c.normal_values-list.result in
    let some = filled (the_values table list) (length c.values.result.now) c.is_empty.result (sym (length-map c.values.result.now (the_value table)) ∙ ap length c.values.ensures.list) c.is_empty.ensures c.if-is_empty.false in
    let grown = subst (λ (v : NamedValue). IsGrown v.lists table) (sym c.self.view_is) c.requires.grown in
    let n = c.len-count.ensures.len in
    let high = c.if-number-count.false in
    no-number c.self.inside.table table grown c.normal_values-list.ensures.apart c.self.inside.names.keys c.args.p.0 list c.self.invariant.2 c.normal_values-list.ensures.normal (omega (arith, n, high)) some
    ∙ ap (λ (v : NamedValue). number_in v.names (mark_name (g_new_mark c.args.p.0 (values_tree (the_values table list))))) c.self.view_is
    ∙ ap (λ vs. number_in c.args.self.now.names (mark_name (g_new_mark c.args.p.0 (values_tree vs)))) c.normal_values-list.ensures.same
