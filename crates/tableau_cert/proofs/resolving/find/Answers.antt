use Rattle.std.proofs.Common.{sym, ◌∙◌}
use Rattle.std.specs.Option.{option_map}
use Rattle.calculus.proofs.SpotLaws.{proper-values}
use Rattle.formula_core.specs.GroundLists.{the_values}
use Rattle.tableau_core.proofs.Numbered.KnownLaws.{values-past}
use Rattle.tableau_cert.specs.Gathering.{gathered_instance, summary}
use Rattle.tableau_text.specs.MovesView.{the_chosen}
use Rattle.tableau_cert.proofs.FoundLaws.{found-unknown}
use Rattle.tableau_cert.proofs.SteppingLaws.{grown-none}
use Rattle.tableau_cert.proofs.resolving.find.Goals as goal

pub are_known_values-requires : goal.are_known_values-requires
are_known_values-requires c = λ h. values-past c.args.given.now c.args.chosen.now.values.0 _ (sym c.requires.admitted.all) h

pub returns-then-not-are_known_values : goal.returns-then-not-are_known_values
returns-then-not-are_known_values c = let P = c.args.problem.now in let given = c.args.given.now in let ls = c.args.table.now in
    found-unknown P given ls ls (the_chosen given c.args.chosen.now) _ (grown-none ls c.requires.grown.most) (sym (proper-values P (the_values given c.args.chosen.now.values)) ∙ sym (c.are_known_values.ensures P c.requires.admitted.known) ∙ c.if-not-are_known_values.true) c.none.ensures.outcome c.none.ensures.steps

pub gather-requires-clause-values : goal.gather-requires-clause-values
gather-requires-clause-values c = c.values.ensures.normal

pub returns : goal.returns
returns c = let P = c.args.problem.now in let given = c.args.given.now in let k = c.in_ok-gathered.ensures in
    c.in_ok-found.ensures P c.args.table.now c.gather.new.table c.requires.grown (sym (proper-values P (the_values given c.args.chosen.now.values)) ∙ sym (c.are_known_values.ensures P c.requires.admitted.known) ∙ c.if-not-are_known_values.false) k.normal k.grown
    (k.same ∙ (λ i. option_map summary (gathered_instance P (record { sides = c.items.ensures i; values = c.values.ensures.list i }))))
