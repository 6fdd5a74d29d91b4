use Rattle.std.proofs.Common.{◌∙◌, ◌∷◌, ap, length, slice_get, subst, sym}
use Rattle.std.proofs.lemmas.List.{length-map}
use Rattle.calculus.specs.Choices.{extension}
use Rattle.search_theory.specs.Joined.{closings_by}
use Rattle.search_theory.specs.States.{clause_at}
use Rattle.tableau_core.specs.declared.closing.Closing.TheVariants as program
use Rattle.term_store.specs.ClauseView.{the_atom}
use Rattle.tableau_reading.specs.Reading.{AreClosingsOf, stacked}
use Rattle.search_tree.specs.Trees.{clause_with, inserted}
use Rattle.tableau_reading.proofs.BuiltLaws.{closings-extend, closings-grown, others-count}
use Rattle.tableau_reading.proofs.StackLaws.{names-extend, stacked-more}
use Rattle.tableau_reading.proofs.closings.add_extension.Goals as goal

pub returns-clause-names : goal.returns-clause-names
returns-clause-names c = names-extend c.args.from.now.matrix.now c.push.new.self.items c.take_closings.new.stack.items c.args.stack.now.items c.in_ok-instance.instance c.args.copied.now.clause.0 c.args.place c.in_ok-goals.goals c.in_ok-push.ensures.items c.in_ok-goals.ensures.taken c.in_ok-instance.ensures.selection

pub returns-clause-built : goal.returns-clause-built
returns-clause-built c = λ σ sp gs h.
    let table = c.connected_instance.new.grounds.table in
    let atoms = c.args.copied.now.copy.literals in
    let clause = clause_at σ (clause_with c.args.from.now.matrix.now c.args.copied.now (inserted c.args.place (the_atom c.args.atom.now) atoms)) in
    subst (λ cs. AreClosingsOf table cs (closings_by (extension clause c.args.place ∷ gs))) (sym (stacked-more c.push.new.self.items c.take_closings.new.stack.items (program.Extend c.in_ok-instance.instance c.args.place c.in_ok-goals.goals) c.in_ok-push.ensures.items))
    (closings-extend table c.in_ok-instance.instance clause c.args.place (length c.items.result.now) (stacked c.args.stack.now.items) c.in_ok-goals.goals (stacked c.take_closings.new.stack.items) gs (c.in_ok-instance.ensures.is_instance σ sp)
    (sym (length-map c.items.result.now the_atom) ∙ ap length c.items.ensures ∙ others-count σ c.args.place (the_atom c.args.atom.now) atoms c.requires.step.place_within)
    c.in_ok-goals.ensures.front c.in_ok-goals.ensures.others (closings-grown c.args.grounds.now.table table c.in_ok-instance.ensures.grown (stacked c.args.stack.now.items) (closings_by gs) h))
