use Rattle.std.proofs.Common.{IsTrue, length, map, refl, subst, sym}
use Rattle.store_theory.specs.Stores.{names_below}
use Rattle.term_store.specs.ClauseView.{the_atom}
use Rattle.formula_core.proofs.GrownLaws.{grown-both}
use Rattle.term_store.specs.RefView.{the_place}
use Rattle.tableau_reading.proofs.ReadingLaws.{atom-parts}
use Rattle.tableau_reading.proofs.ReadOffLaws.{literal-read}
use Rattle.tableau_reading.proofs.reading.literal_of.Goals as goal

pub terms_of-requires-clause-below : goal.terms_of-requires-clause-below
terms_of-requires-clause-below c = subst (λ rs. IsTrue (names_below (length c.args.from.now.store.now.store.cells) rs)) (sym c.items.ensures) (atom-parts (length c.args.from.now.store.now.store.cells) (the_atom c.args.atom.now) c.requires.below).0

pub label_of-requires-clause-below : goal.label_of-requires-clause-below
label_of-requires-clause-below c = subst (λ rs. IsTrue (names_below (length c.args.from.now.store.now.store.cells) rs)) (sym c.items-2.ensures) (atom-parts (length c.args.from.now.store.now.store.cells) (the_atom c.args.atom.now) c.requires.below).1

pub returns-clause-literal : goal.returns-clause-literal
returns-clause-literal c = λ σ sp. literal-read c.terms_of.new.grounds.table c.label_of.new.grounds.table c.in_ok-label.ensures.grown _ (the_atom c.args.atom.now) (map the_place c.items.result.now) (map the_place c.items-2.result.now) σ c.items.ensures c.items-2.ensures refl refl (c.in_ok-args.ensures.terms σ sp) (c.in_ok-label.ensures.label σ sp)

pub returns-clause-grown : goal.returns-clause-grown
returns-clause-grown c = grown-both _ _ _ c.in_ok-args.ensures.grown c.in_ok-label.ensures.grown
