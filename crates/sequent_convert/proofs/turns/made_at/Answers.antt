use Rattle.std.proofs.Common.{◌≡◌, List, get_or, refl, subst, ◌∙◌, ap}
use Rattle.calculus.specs.Syntax.{Setting}
use Rattle.sequent_convert.specs.declared.node.Node.{Node}
use Rattle.sequent_convert.specs.ByNumber.RunView.{the_lists, the_source}
use Rattle.sequent_convert.proofs.ByNumber.TurnsAt.{made-by, takes-by}
use Rattle.sequent_convert.proofs.turns.made_at.Goals as goal

pub make-requires : goal.make-requires
make-requires c =
    let read = subst (λ (ns : List Node). c.index-nodes-place.result ≡ get_or ns c.args.place c.index-nodes-place.result) c.as_slice-nodes.ensures.value c.index-nodes-place.is in
    let logic = c.logic.ensures ∙ ap (λ (s : Setting). s.logic) c.setting.ensures.setting in
    record { within = c.index-nodes-place.result.within; taken = takes-by (the_lists c.args.source.now) c.table-table.result.now c.table-table.ensures (the_source c.args.source.now) c.agenda-agenda.result.now c.agenda-agenda.ensures.turns c.args.turn c.requires.within c.args.branch.now.nodes.items c.args.place c.index-nodes-place.result c.values-taken.result.now c.values.result.now c.values_from-own.result.now _ _ c.logic.result read c.values-taken.ensures.list refl c.values.ensures.list c.values_from-own.ensures logic c.requires.works c.requires.taken }

pub returns : goal.returns
returns c =
    let read = subst (λ (ns : List Node). c.index-nodes-place.result ≡ get_or ns c.args.place c.index-nodes-place.result) c.as_slice-nodes.ensures.value c.index-nodes-place.is in
    let logic = c.logic.ensures ∙ ap (λ (s : Setting). s.logic) c.setting.ensures.setting in
    made-by (the_lists c.args.source.now) c.table-table.result.now c.table-table.ensures (the_source c.args.source.now) c.agenda-agenda.result.now c.agenda-agenda.ensures.turns c.args.turn c.requires.within c.args.branch.now.nodes.items c.args.place c.index-nodes-place.result c.values-taken.result.now c.values.result.now c.values_from-own.result.now _ _ c.logic.result c.in_ok-made.made read c.values-taken.ensures.list refl c.values.ensures.list c.values_from-own.ensures logic c.in_ok-made.ensures
