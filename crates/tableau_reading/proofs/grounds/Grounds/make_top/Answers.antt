use Rattle.std.proofs.Common.{IsTrue, ◌<◌, ◌∙◌, ap, length, map, subst, sym}
use Rattle.store_theory.specs.Stores.{names_below}
use Rattle.term_store.specs.RefView.{the_place}
use Rattle.tableau_reading.proofs.PartLaws.{end-within}
use Rattle.tableau_reading.proofs.MakingLaws.{reading-noted}
use Rattle.tableau_reading.proofs.ReadingLaws.{end-of}
use Rattle.tableau_reading.proofs.WaitingLaws.{begun-asked, keeps-made, unmade-lighter, waits-made}
use Rattle.tableau_reading.specs.Grounds.{Needs}
use Rattle.tableau_reading.specs.Waiting.{AreAllMade}
use Rattle.tableau_reading.proofs.grounds.Grounds.make_top.Goals as goal

pub first_unmade-requires : goal.first_unmade-requires
first_unmade-requires c = subst (λ xs. IsTrue (names_below (length c.args.store.now.store.cells) (map the_place xs))) (sym c.deref.ensures.value) c.in_ok-refs.ensures.below

-- ---- a part is not made

pub wait_for-requires-clause-part : goal.wait_for-requires-clause-part
wait_for-requires-clause-part c = end-of c.args.store.now.store c.in-Some.ensures.cell c.in-Some.part.0 c.in-Some.ensures.ends

pub wait_for-requires-clause-unmade : goal.wait_for-requires-clause-unmade
wait_for-requires-clause-unmade c = c.in-Some.ensures.unmade

pub wait_for-requires-clause-lighter : goal.wait_for-requires-clause-lighter
wait_for-requires-clause-lighter c =
    unmade-lighter c.args.store.now.store c.args.homes.now c.args.top.0 c.in-Some.part.0 (map the_place c.deref.result.now) c.args.self.now.made.items c.requires.end
    (subst (λ xs. Needs c.args.store.now.store c.args.homes.now c.args.top.0 (map the_place xs)) (sym c.deref.ensures.value) c.in_ok-refs.ensures.needs)
    c.in-Some.ensures

pub returns-in-Some-clause-reading : goal.returns-in-Some-clause-reading
returns-in-Some-clause-reading c =
    begun-asked c.args.store.now.store c.args.homes.now c.args.self.now c.wait_for.new.self c.requires.reading c.in_ok-wait_for.ensures.table c.in_ok-wait_for.ensures.made c.in_ok-wait_for.ensures.marked

-- ---- all parts are made

pub build-requires-clause-needs : goal.build-requires-clause-needs
build-requires-clause-needs c = subst (λ xs. Needs c.args.store.now.store c.args.homes.now c.args.top.0 (map the_place xs)) (sym c.deref-2.ensures.value) c.in_ok-refs.ensures.needs

pub build-requires-clause-below : goal.build-requires-clause-below
build-requires-clause-below c = subst (λ xs. IsTrue (names_below (length c.args.store.now.store.cells) (map the_place xs))) (sym c.deref-2.ensures.value) c.in_ok-refs.ensures.below

pub build-requires-clause-made : goal.build-requires-clause-made
build-requires-clause-made c = subst (λ xs. AreAllMade c.args.store.now.store c.args.self.now.made.items (map the_place xs)) (c.deref.ensures.value ∙ sym c.deref-2.ensures.value) c.in_default.ensures

pub build-requires-clause-most : goal.build-requires-clause-most
build-requires-clause-most c = c.requires.reading.most

pub note-requires : goal.note-requires
note-requires c = subst (λ n. c.args.top.0 < n) (sym (ap (λ v. length v.items) c.in_ok-ground.ensures.made ∙ c.requires.reading.all)) (end-within c.args.store.now.store c.args.top.0 c.requires.end)

pub returns-clause-reading : goal.returns-clause-reading
returns-clause-reading c =
    reading-noted c.args.store.now.store c.args.homes.now c.args.self.now c.build.new.self c.note.new.self c.args.top.0 c.in_ok-ground.ground c.requires.reading c.in_ok-ground.ensures.grown c.in_ok-ground.ensures.made (c.note.ensures.asked ∙ c.in_ok-ground.ensures.asked) c.note.ensures.table c.note.ensures.made c.in_ok-ground.ensures.value

pub returns-clause-kept : goal.returns-clause-kept
returns-clause-kept c = keeps-made c.args.self.now c.build.new.self c.note.new.self c.args.top.0 c.in_ok-ground.ground c.in_ok-ground.ensures.made c.note.ensures.made

pub returns-clause-waits : goal.returns-clause-waits
returns-clause-waits c =
    waits-made c.args.store.now.store c.args.homes.now c.args.self.now c.build.new.self c.note.new.self c.args.waiting.now.items c.args.top c.in_ok-ground.ground c.requires.waits
    (subst (λ n. c.args.top.0 < n) (sym c.requires.reading.all) (end-within c.args.store.now.store c.args.top.0 c.requires.end))
    c.in_ok-ground.ensures.made c.in_ok-ground.ensures.asked c.note.ensures.made c.note.ensures.asked
