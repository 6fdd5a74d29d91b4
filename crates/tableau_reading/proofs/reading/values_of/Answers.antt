use Rattle.std.proofs.Common.{IsTrue, ◌∙◌, ap, length, map, subst, sym}
use Rattle.store_theory.specs.Stores.{names_below}
use Rattle.search_theory.specs.States.{values_by}
use Rattle.tableau_reading.specs.Reading.{AreValuesOf}
use Rattle.term_store.specs.RefView.{the_place}
use Rattle.tableau_reading.proofs.reading.values_of.Goals as goal

pub values_at-requires-clause-below : goal.values_at-requires-clause-below
values_at-requires-clause-below c = subst (λ rs. IsTrue (names_below (length c.args.from.now.store.now.store.cells) rs)) (sym (ap (map the_place) c.deref.ensures.value ∙ c.in_ok-refs.ensures)) c.requires.below

pub returns-clause-values : goal.returns-clause-values
returns-clause-values c = λ σ sp. subst (λ rs. AreValuesOf c.values_at.new.grounds.table c.in_ok-values.values (values_by σ rs)) (ap (map the_place) c.deref.ensures.value ∙ c.in_ok-refs.ensures) (c.in_ok-values.ensures.values σ sp)
