use Rattle.std.proofs.Common.{◌∙◌, ap, map, sym}
use Rattle.term_store.specs.RefView.{the_place}
use Rattle.tableau_reading.proofs.PartLaws.{home-none, home-some, items-below, places-all}
use Rattle.tableau_reading.proofs.parts.home_items.Goals as goal

pub returns-in-None-clause-items : goal.returns-in-None-clause-items
returns-in-None-clause-items c = ap (map the_place) c.new-refs.ensures.items ∙ home-none _ _ _ c.in-None.is c.label_of.ensures

pub returns-in-None-clause-below : goal.returns-in-None-clause-below
returns-in-None-clause-below c = items-below c.args.store.now.store c.args.homes.now c.args.variable.0 (map the_place c.new-refs.result.items) c.requires (ap (map the_place) c.new-refs.ensures.items ∙ home-none _ _ _ c.in-None.is c.label_of.ensures)

pub returns-in_ok-extend_from_slice-in-Some-clause-items : goal.returns-in_ok-extend_from_slice-in-Some-clause-items
returns-in_ok-extend_from_slice-in-Some-clause-items c = ap (map the_place) (places-all c.extend_from_slice.new.self.items c.new-refs.result.items c.in-Some.label.now c.in_ok-extend_from_slice-in-Some.ensures.items c.new-refs.ensures.items) ∙ home-some _ _ c.in-Some.label _ c.in-Some.is c.label_of.ensures

pub returns-in_ok-extend_from_slice-in-Some-clause-below : goal.returns-in_ok-extend_from_slice-in-Some-clause-below
returns-in_ok-extend_from_slice-in-Some-clause-below c = items-below c.args.store.now.store c.args.homes.now c.args.variable.0 (map the_place c.extend_from_slice.new.self.items) c.requires (ap (map the_place) (places-all c.extend_from_slice.new.self.items c.new-refs.result.items c.in-Some.label.now c.in_ok-extend_from_slice-in-Some.ensures.items c.new-refs.ensures.items) ∙ home-some _ _ c.in-Some.label _ c.in-Some.is c.label_of.ensures)
