use Rattle.std.proofs.Common.{subst, sym}
use Rattle.derivation_branch.specs.SameView.{AreSame}
use Rattle.derivation_branch.proofs.SameLaws.{same-added}
use Rattle.derivation_branch.proofs.same_atoms.SameAtoms.add.Goals as goal

pub returns : goal.returns
returns c = λ table parts h k.
    same-added table parts c.self.inside.pairs.keys c.insert.new.self.keys c.args.pair c.in_ok-insert.ensures.keys (subst (AreSame table parts) (sym c.self.view_is) h) k
