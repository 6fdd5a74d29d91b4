use Rattle.std.proofs.Common.{refl, arith}
use Rattle.label_table.proofs.LabelLaws.{label-first, label-length, root-rung, rung-shown}
use Rattle.label_table.proofs.labels.Labels.rung.Goals as goal

pub returns-then-place-eq0 : goal.returns-then-place-eq0
returns-then-place-eq0 c = root-rung c.args.self.now c.args.place _ c.if-place-eq0.true (label-first c.self.inside.links.entries c.args.self.now c.self.view_is) refl refl refl

pub index-requires : goal.index-requires
index-requires c = let size = label-length c.self.inside.links.entries c.args.self.now c.self.view_is in omega (arith, size, c.requires, c.if-place-eq0.false)

pub returns : goal.returns
returns c = rung-shown c.self.inside.links.entries c.args.self.now c.args.place c.index.result.now c.self.view_is c.self.invariant.0 c.self.invariant.2 (omega (arith, c.if-place-eq0.false)) c.requires c.index.ensures
