use Rattle.std.proofs.Common.{◌≡◌, ◌↔◌, ◌==◌, [], List, Contains, ap, map, subst, ◌∙◌}
use Rattle.calculus.specs.Ground as tree
use Rattle.conversion_theory.specs.Turns.{Name}
use Rattle.name_order.specs.ByNumber.Inside.{all_with_marks, the_names}
use Rattle.name_order.specs.Mentioned.{names_in}
use Rattle.name_order.specs.Found.{before_in, introducers_in}
use Rattle.name_order.specs.Keeping.{keep_all}
use Rattle.formula_core.specs.GroundLists.{GroundList, the_value}
use Rattle.name_order.specs.ByNumber.ReachedView.{the_keys, the_reached}
use Rattle.name_order.specs.PlaceView.{the_places}
use Rattle.name_order.proofs.ByNumber.HomeLaws.{waits-for}
use Rattle.name_order.proofs.ByNumber.WaitLaws.{own-values}
use Rattle.name_order.proofs.awaited.waits_of.Goals as goal

pub returns : goal.returns
returns c =
    let P = c.args.problem.now in
    let ls = c.args.table.now in
    let ps = the_places c.args.places.now in
    let ks = the_keys ls c.args.agenda.now.keys in
    let own = own-values ls ps (the_reached ls c.args.turn.now) c.as_slice-values.result.now c.taken_before-before.result (ap (map (the_value ls)) c.as_slice-values.ensures.value) (subst (λ (l : List GroundList). c.taken_before-before.result ≡ before_in ps (the_reached l c.args.turn.now)) c.table-plain.ensures c.taken_before-before.ensures.count) in
    let inside = the_names ls c.in_ok-names.names.keys in
    let same = subst (λ (vs : List tree.Value). (n : Name) → Contains inside n ↔ Contains (names_in vs) n) own c.in_ok-names.ensures in
    waits-for P ps ks (the_reached ls c.args.turn.now) inside c.in_ok-all.all same (c.in_ok-all.ensures ∙ c.as_slice-turns.ensures.keys ∙ subst (λ (l : List GroundList). c.in_ok-waits.waits.keys ≡ keep_all ◌==◌ [] (introducers_in ps (the_keys l c.args.agenda.now.keys) (all_with_marks P (the_names l c.as_slice-found.result.now)))) c.table-plain.ensures c.in_ok-waits.ensures ∙ ap (λ ns. keep_all ◌==◌ [] (introducers_in ps ks (all_with_marks P (the_names ls ns)))) c.as_slice-found.ensures.keys)
