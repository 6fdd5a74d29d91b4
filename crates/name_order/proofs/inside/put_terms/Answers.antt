use Rattle.std.proofs.Common.{ap, length, refl, sym, ◌∙◌}
use Rattle.std.proofs.lemmas.List.{length-map}
use Rattle.formula_core.specs.GroundLists.{the_g_term, the_terms}
use Rattle.name_order.proofs.ByNumber.InsideLaws.{put-bound, terms-put}
use Rattle.name_order.proofs.inside.put_terms.Goals as goal

pub returns-clause-sees : goal.returns-clause-sees
returns-clause-sees c =
    let ls = c.args.table.now in
    terms-put ls c.args.search.now _ c.args.list (length c.terms.result.now) c.is_empty.result c.requires.normal (sym (length-map c.terms.result.now (the_g_term ls)) ∙ ap length c.terms.ensures.list) c.is_empty.ensures c.if-is_empty.false refl c.in_ok-insert.ensures.keys

pub returns-clause-bound : goal.returns-clause-bound
returns-clause-bound c m lower le =
    let ls = c.args.table.now in
    put-bound (the_terms ls c.args.list) (length c.terms.result.now) c.args.list.0 m c.is_empty.result c.args.search.now.ahead.keys c.insert.new.self.keys lower (sym (length-map c.terms.result.now (the_g_term ls)) ∙ ap length c.terms.ensures.list) c.is_empty.ensures c.if-is_empty.false c.in_ok-insert.ensures.keys le
