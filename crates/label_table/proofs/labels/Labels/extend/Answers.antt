use Rattle.std.proofs.Common.{refl}
use Rattle.label_table.specs.LabelTable.{label_table}
use Rattle.label_table.proofs.LabelLaws.{extended-at, extended-kept, extended-longer, label-one}
use Rattle.label_table.proofs.labels.Labels.extend.Goals as goal

pub invariant_of-self-2 : goal.invariant_of-self-2
invariant_of-self-2 c =
    let new = c.in_ok-index.ensures in
    extended-kept c.self.inside.links.entries c.insert_full.new.self.entries c.link_of.result c.in_ok-rung.rung c.args.self.now c.args.front c.self.view_is c.self.invariant.0 c.requires c.link_of.ensures.front new.entries c.self.invariant.2 c.in_ok-rung.ensures new.unique

pub returns-clause-place : goal.returns-clause-place
returns-clause-place c =
    let new = c.in_ok-index.ensures in
    extended-at c.self.inside.links.entries c.insert_full.new.self.entries c.link_of.result c.in_ok-rung.rung c.args.self.now c.args.front c.self.view_is c.self.invariant.0 c.requires c.link_of.ensures.front new.entries c.in_ok-index.index _ c.link_of.ensures.last new.index

pub returns-clause-grown : goal.returns-clause-grown
returns-clause-grown c = extended-longer c.self.inside.links.entries c.insert_full.new.self.entries c.link_of.result c.in_ok-rung.rung c.args.self.now c.args.front c.self.view_is c.self.invariant.0 c.requires c.link_of.ensures.front c.in_ok-index.ensures.entries

pub returns-clause-once : goal.returns-clause-once
returns-clause-once c = λ i j hi hj e.
    let new = c.in_ok-index.ensures in
    let after = c.insert_full.new.self.entries in
    let kept = extended-kept c.self.inside.links.entries after c.link_of.result c.in_ok-rung.rung c.args.self.now c.args.front c.self.view_is c.self.invariant.0 c.requires c.link_of.ensures.front new.entries c.self.invariant.2 c.in_ok-rung.ensures new.unique in
    label-one after (label_table after) i j refl kept.0 kept.1 hi hj e
