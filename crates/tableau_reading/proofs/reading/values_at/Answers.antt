use Rattle.std.proofs.Common.{map, refl}
use Rattle.formula_core.proofs.GrownLaws.{grown-both}
use Rattle.term_store.specs.RefView.{the_place}
use Rattle.tableau_reading.proofs.MakingLaws.{reading-grown}
use Rattle.tableau_reading.proofs.ReadOffLaws.{values-read}
use Rattle.tableau_reading.proofs.reading.values_at.Goals as goal

pub returns-clause-values : goal.returns-clause-values
returns-clause-values c = values-read c.args.from.now.store.now.store c.args.from.now.homes.now c.make_all.new.grounds c.add_values.new.self (map the_place c.args.refs.now) c.in_ok-values.values c.in_ok-items.items.items c.deref.result.now c.in_ok-make_all.ensures.reading c.in_ok-items.ensures c.deref.ensures.value c.in_ok-values.ensures.normal c.in_ok-values.ensures.list

pub returns-clause-reading : goal.returns-clause-reading
returns-clause-reading c = reading-grown c.args.from.now.store.now.store c.args.from.now.homes.now c.make_all.new.grounds _ c.in_ok-make_all.ensures.reading c.add_values.ensures.grown refl refl

pub returns-clause-grown : goal.returns-clause-grown
returns-clause-grown c = grown-both _ _ _ c.in_ok-make_all.ensures.grown c.add_values.ensures.grown
