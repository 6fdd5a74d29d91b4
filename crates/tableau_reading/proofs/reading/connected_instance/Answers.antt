use Rattle.std.proofs.Common.{[], ◌++◌, ◌∷◌, IsTrue, length, map, subst, sym, take}
use Rattle.std.specs.List.{list_all}
use Rattle.search_theory.specs.States.{atom_is_below, literal_by}
use Rattle.term_store.specs.ClauseView.{the_atom}
use Rattle.tableau_reading.specs.Reading.{AreLiteralsOf}
use Rattle.search_tree.specs.Trees.{inserted}
use Rattle.tableau_reading.proofs.BuiltLaws.{connected-read, literals-grown, literals-none, literals-push}
use Rattle.std.proofs.lemmas.Result.{IfOk-weaker}
use Rattle.formula_core.proofs.GrownLaws.{grown-both}
use Rattle.tableau_reading.proofs.ReadingLaws.{all-back, all-front, back-atoms, front-atoms}
use Rattle.tableau_reading.proofs.reading.connected_instance.Goals as goal

pub add_literals-requires-clause-below : goal.add_literals-requires-clause-below
add_literals-requires-clause-below c = subst (λ xs. IsTrue (list_all (atom_is_below (length c.args.from.now.store.now.store.cells)) xs)) (sym (front-atoms c.args.place c.items-goals.result.now c.args.copied.now.copy.literals c.items-goals.ensures)) (all-front (atom_is_below (length c.args.from.now.store.now.store.cells)) c.args.place c.args.copied.now.copy.literals c.requires.readable.literals)

pub add_literals-requires-2-clause-below : goal.add_literals-requires-2-clause-below
add_literals-requires-2-clause-below c = subst (λ xs. IsTrue (list_all (atom_is_below (length c.args.from.now.store.now.store.cells)) xs)) (sym (back-atoms c.args.place c.items-goals.result.now c.args.copied.now.copy.literals c.items-goals.ensures)) (all-back (atom_is_below (length c.args.from.now.store.now.store.cells)) c.args.place c.args.copied.now.copy.literals c.requires.readable.literals)

pub returns-clause-grown : goal.returns-clause-grown
returns-clause-grown c = IfOk-weaker c.instance_of.result _ _ (λ i g. grown-both _ _ _ c.in_ok-add_literals.ensures.grown (grown-both _ _ _ c.in_ok-connected.ensures.grown (grown-both _ _ _ c.in_ok-add_literals-2.ensures.grown g))) c.instance_of.ensures.grown

pub returns-clause-is_instance : goal.returns-clause-is_instance
returns-clause-is_instance c = IfOk-weaker c.instance_of.result _ _ (λ i g σ sp.
    let atoms = c.args.copied.now.copy.literals in
    let front = c.in_ok-add_literals.ensures.literals σ sp [] (subst (λ xs. AreLiteralsOf c.args.grounds.now.table xs []) (sym c.new-literals.ensures) (literals-none c.args.grounds.now.table)) in
    let before = ([] ++ map (literal_by σ) (map the_atom (take c.args.place c.items-goals.result.now))) ++ literal_by σ (the_atom c.args.atom.now) ∷ [] in
    let with_atom = literals-push c.literal_of.new.grounds.table c.add_literals.new.literals _ c.in_ok-connected.connected (literal_by σ (the_atom c.args.atom.now)) (literals-grown c.add_literals.new.grounds.table c.literal_of.new.grounds.table c.in_ok-connected.ensures.grown c.add_literals.new.literals _ front) (c.in_ok-connected.ensures.literal σ sp) in
    let all = c.in_ok-add_literals-2.ensures.literals σ sp before (subst (λ xs. AreLiteralsOf c.literal_of.new.grounds.table xs before) (sym c.in_ok-push.ensures.ok) with_atom) in
    g σ sp (inserted c.args.place (the_atom c.args.atom.now) atoms)
    (connected-read c.add_literals-2.new.grounds.table σ c.args.place (the_atom c.args.atom.now) atoms _ _ c.add_literals-2.new.literals (front-atoms c.args.place c.items-goals.result.now atoms c.items-goals.ensures) (back-atoms c.args.place c.items-goals.result.now atoms c.items-goals.ensures) all))
    c.instance_of.ensures.is_instance
