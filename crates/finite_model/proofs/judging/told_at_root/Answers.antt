use Rattle.std.proofs.Common.{reverse, take}
use Rattle.formula_core.specs.FormulaView.{the_formula}
use Rattle.finite_model.proofs.ShortLaws.{root-told}
use Rattle.finite_model.specs.Seeking.{left}
use Rattle.finite_model.proofs.judging.told_at_root.Goals as goal

pub returns-clause-told : goal.returns-clause-told
returns-clause-told c = λ f h. root-told c.args.logic c.args.structure.now f (the_formula c.args.short.now) (reverse (take 256 c.args.env.now)) (left c.args.ledger.now) c.truth_at.result c.truth_at.new.ledger h c.requires.elements c.truth_at.ensures.told
