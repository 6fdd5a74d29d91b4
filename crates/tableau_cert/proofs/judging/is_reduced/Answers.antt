use Rattle.std.proofs.Common.{◌∙◌, ap, sym, arith, refl}
use Rattle.calculus.specs.Tableaux.{is_complement}
use Rattle.tableau_core.specs.Numbered.LiteralView.{the_literal}
use Rattle.tableau_cert.proofs.JudgingLaws.{at-ancestor}
use Rattle.tableau_cert.proofs.judging.is_reduced.Goals as goal

pub returns : goal.returns
returns c = c.are_complementary.ensures ∙ sym (ap (is_complement (the_literal c.args.table.now c.args.goal)) (at-ancestor c.args.table.now c.args.path.now c.args.up _ _ _ (omega arith) (omega arith) refl refl))
