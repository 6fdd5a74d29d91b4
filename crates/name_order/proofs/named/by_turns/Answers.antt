use Rattle.std.proofs.Common.{map, Some, ap, subst, sym, length, arith, ◌∙◌}
use Rattle.std.specs.List.{AllZip}
use Rattle.std.proofs.lemmas.List.{length-map}
use Rattle.formula_core.specs.GroundLists.{IsGrown}
use Rattle.name_order.specs.ByNumber.Naming.{AreGathered, the_names}
use Rattle.name_order.specs.ByNumber.ReachedView.{the_all, the_keys, the_reached}
use Rattle.name_order.specs.ByNumber.TurnView.{the_turn}
use Rattle.name_order.specs.ByNumber.Waiting.{WaitFor}
use Rattle.name_order.specs.PlaceView.{the_places}
use Rattle.name_order.proofs.ByNumber.Promises.{gathered-ordered}
use Rattle.name_order.proofs.named.by_turns.Goals as goal

pub with_guide-requires : goal.with_guide-requires
with_guide-requires c =
    let ls = c.args.table.now in
    let table = c.in_ok-naming.naming.table in
    let a = ap length c.in_ok-naming.ensures.turns in
    let b = length-map c.in_ok-naming.naming.turns.items (the_turn table) in
    let d = length-map c.as_slice.result.now (the_reached ls) in
    let k = ap length c.as_slice.ensures.keys in
    let few = c.requires.few in
    record { names = c.in_ok-naming.ensures.good.names; turns = c.in_ok-naming.ensures.good.turns; once = c.in_ok-naming.ensures.names.once; few = omega (arith, a, b, d, k, few) }

pub returns-clause-grown : goal.returns-clause-grown
returns-clause-grown c = subst (IsGrown c.args.table.now) (sym c.in_ok-named.ensures.lists) c.in_ok-naming.ensures.good.grown

pub returns-clause-names : goal.returns-clause-names
returns-clause-names c =
    let ls = c.args.table.now in
    let gathered = subst (λ rs. AreGathered c.args.problem.now (the_places c.args.places.now) (the_all ls rs) (the_names c.in_ok-naming.naming)) c.as_slice.ensures.keys c.in_ok-naming.ensures.names in
    gathered-ordered c.args.problem.now (the_places c.args.places.now) (the_all ls c.args.turns.now.agenda.keys) (the_names c.in_ok-naming.naming) c.in_ok-named.named.names gathered c.in_ok-named.ensures.names

pub returns-clause-agenda : goal.returns-clause-agenda
returns-clause-agenda c = c.in_ok-named.ensures.agenda ∙ c.in_ok-naming.ensures.turns ∙ ap (the_all c.args.table.now) c.as_slice.ensures.keys

pub returns-clause-order : goal.returns-clause-order
returns-clause-order c = c.in_ok-guide.ensures.order ∙ ap (map (map Some)) (sym c.in_ok-named.ensures.order)

pub returns-clause-parents : goal.returns-clause-parents
returns-clause-parents c = c.in_ok-named.ensures.parents ∙ c.in_ok-guide.ensures.parents

pub returns-clause-waits : goal.returns-clause-waits
returns-clause-waits c = subst (AllZip (WaitFor c.args.problem.now (the_places c.args.places.now) (the_keys c.args.table.now c.args.turns.now.agenda.keys)) (the_all c.args.table.now c.args.turns.now.agenda.keys)) (sym c.in_ok-named.ensures.waits) c.in_ok-guide.ensures.waits
