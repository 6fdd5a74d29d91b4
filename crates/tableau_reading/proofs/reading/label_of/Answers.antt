use Rattle.std.proofs.Common.{map, refl}
use Rattle.formula_core.proofs.GrownLaws.{grown-both}
use Rattle.term_store.specs.RefView.{the_place}
use Rattle.tableau_reading.proofs.MakingLaws.{reading-grown}
use Rattle.tableau_reading.proofs.ReadOffLaws.{marks-read}
use Rattle.tableau_reading.proofs.reading.label_of.Goals as goal

pub returns-clause-label : goal.returns-clause-label
returns-clause-label c = marks-read c.args.from.now.store.now.store c.args.from.now.homes.now c.make_all.new.grounds c.add_marks.new.self (map the_place c.args.refs.now) c.in_ok-label.label c.in_ok-items.items.items c.deref.result.now c.in_ok-make_all.ensures.reading c.in_ok-items.ensures c.deref.ensures.value c.in_ok-label.ensures.normal c.in_ok-label.ensures.list

pub returns-clause-reading : goal.returns-clause-reading
returns-clause-reading c = reading-grown c.args.from.now.store.now.store c.args.from.now.homes.now c.make_all.new.grounds _ c.in_ok-make_all.ensures.reading c.add_marks.ensures.grown refl refl

pub returns-clause-grown : goal.returns-clause-grown
returns-clause-grown c = grown-both _ _ _ c.in_ok-make_all.ensures.grown c.add_marks.ensures.grown
