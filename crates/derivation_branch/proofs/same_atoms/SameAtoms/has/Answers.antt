use Rattle.std.proofs.Common.{subst, sym}
use Rattle.derivation_branch.specs.SameView.{AreSame}
use Rattle.derivation_branch.proofs.SameLaws.{same-found}
use Rattle.derivation_branch.proofs.same_atoms.SameAtoms.has.Goals as goal

pub returns : goal.returns
returns c = λ old table parts h.
    same-found table parts c.self.inside.pairs.keys c.args.pair c.contains.result c.contains.ensures old (subst (AreSame table parts) (sym c.self.view_is) h)
