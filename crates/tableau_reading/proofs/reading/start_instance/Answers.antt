use Rattle.std.proofs.Common.{[], IsTrue, length, map, subst, sym}
use Rattle.std.specs.List.{list_all}
use Rattle.search_theory.specs.States.{atom_is_below, literal_by}
use Rattle.tableau_reading.specs.Reading.{AreLiteralsOf}
use Rattle.tableau_reading.proofs.BuiltLaws.{literals-none}
use Rattle.std.proofs.lemmas.Result.{IfOk-weaker}
use Rattle.formula_core.proofs.GrownLaws.{grown-both}
use Rattle.tableau_reading.proofs.reading.start_instance.Goals as goal

pub add_literals-requires-clause-below : goal.add_literals-requires-clause-below
add_literals-requires-clause-below c = subst (λ xs. IsTrue (list_all (atom_is_below (length c.args.from.now.store.now.store.cells)) xs)) (sym c.items.ensures) c.requires.readable.literals

pub returns-clause-grown : goal.returns-clause-grown
returns-clause-grown c = IfOk-weaker c.instance_of.result _ _ (λ i g. grown-both _ _ _ c.in_ok-add_literals.ensures.grown g) c.instance_of.ensures.grown

pub returns-clause-is_instance : goal.returns-clause-is_instance
returns-clause-is_instance c = IfOk-weaker c.instance_of.result _ _ (λ i g σ sp. g σ sp c.args.copied.now.copy.literals
    (subst (λ xs. AreLiteralsOf c.add_literals.new.grounds.table c.add_literals.new.literals (map (literal_by σ) xs)) c.items.ensures
    (c.in_ok-add_literals.ensures.literals σ sp [] (subst (λ xs. AreLiteralsOf c.args.grounds.now.table xs []) (sym c.new-literals.ensures) (literals-none c.args.grounds.now.table)))))
    c.instance_of.ensures.is_instance
