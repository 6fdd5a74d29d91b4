use Rattle.std.proofs.Common.{refl}
use Rattle.calculus.specs.Lists.{terms_tree}
use Rattle.calculus.specs.Syntax.{atom}
use Rattle.finite_model.proofs.FormulaArms.{form-Atom}
use Rattle.finite_model.proofs.ShortLaws.{short-atom, short-form}
use Rattle.finite_model.proofs.shortening.short_atom.Goals as goal

pub returns : goal.returns
returns c =
    short-form c.args.structure.now c.args.depth _ (atom c.args.predicate.0 (terms_tree c.args.args.now)) (atom c.args.predicate.0 (terms_tree c.in_ok-short.short.terms)) _ refl (form-Atom _ c.args.predicate c.in_ok-short.short.terms refl)
    (short-atom c.args.structure.now c.args.depth c.args.predicate.0 c.args.args.now c.in_ok-short.short c.in_ok-short.ensures)
