use Rattle.std.proofs.Common.{◌≡◌, ◌-◌, arith, refl, subst, sym}
use Rattle.std.specs.Prelude.{IfOk}
use Rattle.search_theory.specs.Matrix.{IsTemplateMatrix}
use Rattle.connection_search.specs.Outcomes.{IsDeepAnswer}
use Rattle.connection_search.proofs.deepening.deepen.Goals as goal

pub returns-in_err-sized-clause-rises : goal.returns-in_err-sized-clause-rises
returns-in_err-sized-clause-rises c = omega arith

pub deepen_sized-requires : goal.deepen_sized-requires
deepen_sized-requires c = subst (λ P. IsTemplateMatrix P c.args.matrix.now) (sym c.in_ok-sized.ensures) c.requires

pub returns-clause-answer : goal.returns-clause-answer
returns-clause-answer c = subst (λ P. IfOk c.deepen_sized.result (IsDeepAnswer P c.args.max_limit.number (c.args.ledger.now.budget - c.args.ledger.now.used))) c.in_ok-sized.ensures c.deepen_sized.ensures.answer

pub returns-clause-ended : goal.returns-clause-ended
returns-clause-ended c = c.deepen_sized.ensures.ended

pub returns-clause-rises : goal.returns-clause-rises
returns-clause-rises c = c.deepen_sized.ensures.rises

pub returns-clause-budget : goal.returns-clause-budget
returns-clause-budget c = c.deepen_sized.ensures.budget

pub returns-in_err-store-clause-rises : goal.returns-in_err-store-clause-rises
returns-in_err-store-clause-rises c = omega arith
