use Rattle.std.proofs.Common.{◌≡◌, ◌∙◌, [], arith, length, subst, sym}
use Rattle.std.specs.List.{AllByRecursion}
use Rattle.tableau_core.specs.declared.tableau.Tableau.{Tableau}
use Rattle.search_theory.specs.Joined.{closings_by}
use Rattle.tableau_reading.specs.Reading.{AreClosingsOf, IsStarted, stacked}
use Rattle.tableau_reading.specs.Readable.{IsReadableStep}
use Rattle.tableau_reading.proofs.BuiltLaws.{closings-none, whole-built}
use Rattle.tableau_reading.proofs.StackLaws.{started-inner, started-parts, whole-names}
use Rattle.tableau_reading.proofs.closings.tableau_of.Goals as goal

pub start_of-requires : goal.start_of-requires
start_of-requires c = subst IsStarted (sym c.deref.ensures.value) c.requires.started

pub add_closings-requires-clause-steps : goal.add_closings-requires-clause-steps
add_closings-requires-clause-steps c = (started-parts (IsReadableStep c.args.from.now.store.now.store c.args.from.now.matrix.now) c.deref.result.now c.start_of.result.1.now c.start_of.result.0.now c.start_of.ensures (subst (AllByRecursion (IsReadableStep c.args.from.now.store.now.store c.args.from.now.matrix.now)) (sym c.deref.ensures.value) c.requires.steps)).1

pub add_closings-requires-clause-inner : goal.add_closings-requires-clause-inner
add_closings-requires-clause-inner c = started-inner c.deref.result.now c.start_of.result.1.now c.start_of.result.0.now c.start_of.ensures (subst IsStarted (sym c.deref.ensures.value) c.requires.started)

pub start_instance-requires-clause-readable : goal.start_instance-requires-clause-readable
start_instance-requires-clause-readable c = (started-parts (IsReadableStep c.args.from.now.store.now.store c.args.from.now.matrix.now) c.deref.result.now c.start_of.result.1.now c.start_of.result.0.now c.start_of.ensures (subst (AllByRecursion (IsReadableStep c.args.from.now.store.now.store c.args.from.now.matrix.now)) (sym c.deref.ensures.value) c.requires.steps)).0

pub returns-clause-names : goal.returns-clause-names
returns-clause-names c =
    let t : Tableau = record { table = c.start_instance.new.grounds.table; start = c.in_ok-start.start; goals = c.in_ok-goals.goals } in
    let k = c.add_closings.new.stack.ok.0 in
    let l = c.len-count.ensures in
    let all : c.len-count.result ≡ length c.add_closings.new.stack.items = omega (arith, k, l) in
    whole-names c.args.from.now.matrix.now c.args.tree.now.steps.items c.start_of.result.1.now c.start_of.result.0.now t c.new-stack.result.items c.add_closings.new.stack.items c.take_closings.new.stack.items c.len-count.result (sym c.deref.ensures.value ∙ c.start_of.ensures) c.in_ok-start.ensures.selection c.new-stack.ensures.items c.in_ok-add_closings.ensures.names c.in_ok-goals.ensures.taken c.in_ok-goals.ensures.fewer all

pub returns-clause-built : goal.returns-clause-built
returns-clause-built c = λ σ sp.
    let t : Tableau = record { table = c.start_instance.new.grounds.table; start = c.in_ok-start.start; goals = c.in_ok-goals.goals } in
    let k = c.add_closings.new.stack.ok.0 in
    let l = c.len-count.ensures in
    let all : c.len-count.result ≡ length c.add_closings.new.stack.items = omega (arith, k, l) in
    let none = subst (λ xs. AreClosingsOf c.in_ok-grounds.grounds.table (stacked xs) (closings_by [])) (sym c.new-stack.ensures.items) (closings-none c.in_ok-grounds.grounds.table) in
    whole-built c.args.from.now.matrix.now c.args.tree.now.steps.items c.start_of.result.1.now c.start_of.result.0.now t c.add_closings.new.grounds.table σ c.add_closings.new.stack.items c.take_closings.new.stack.items c.len-count.result (sym c.deref.ensures.value ∙ c.start_of.ensures) (c.in_ok-start.ensures.is_instance σ sp) c.in_ok-start.ensures.grown (c.in_ok-add_closings.ensures.built σ sp [] none) c.in_ok-goals.ensures.taken c.in_ok-goals.ensures.fewer all
