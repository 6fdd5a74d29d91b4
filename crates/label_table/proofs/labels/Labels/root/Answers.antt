use Rattle.std.proofs.Common.{◌∙◌, [], get_or, ap, arith}
use Rattle.label_table.proofs.LabelLaws.{label-first, label-one, label-some}
use Rattle.label_table.proofs.labels.Labels.root.Goals as goal

pub returns : goal.returns
returns c = record {
  within = let some = label-some c.self.inside.links.entries c.args.self.now c.self.view_is in omega (arith, some);
  root = ap (λ k. get_or c.args.self.now k []) (omega arith) ∙ label-first c.self.inside.links.entries c.args.self.now c.self.view_is;
  once = λ i j hi hj e. label-one c.self.inside.links.entries c.args.self.now i j c.self.view_is c.self.invariant.0 c.self.invariant.1 hi hj e;
}
