use Rattle.std.proofs.Common.{◌≡◌, ◌-◌, ℕ, [], arith, refl, subst, sym}
use Rattle.std.specs.Prelude.{IfOk}
use Rattle.calculus.specs.Counting.{AtLeastMany}
use Rattle.calculus.specs.Space.{IsMember, member_cmp}
use Rattle.search_theory.specs.Matrix.{IsTemplateMatrix}
use Rattle.connection_search.specs.CutOutcomes.{IsCutAnswer, IsCutLimit}
use Rattle.connection_search.proofs.cutting.deepen_cut.Goals as goal

pub returns-in_err-sized-clause-count : goal.returns-in_err-sized-clause-count
returns-in_err-sized-clause-count c = λ e limit. ([], record { rising = tt; members = tt }, omega arith)

pub returns-in_err-sized-clause-rises : goal.returns-in_err-sized-clause-rises
returns-in_err-sized-clause-rises c = omega arith

pub deepen_cut_sized-requires : goal.deepen_cut_sized-requires
deepen_cut_sized-requires c = subst (λ P. IsTemplateMatrix P c.args.matrix.now) (sym c.in_ok-sized.ensures) c.requires

pub returns-clause-answer : goal.returns-clause-answer
returns-clause-answer c = subst (λ P. IfOk c.deepen_cut_sized.result (IsCutAnswer P c.args.cut_limit.number (c.args.ledger.now.budget - c.args.ledger.now.used))) c.in_ok-sized.ensures c.deepen_cut_sized.ensures.answer

pub returns-clause-ended : goal.returns-clause-ended
returns-clause-ended c = c.deepen_cut_sized.ensures.ended

pub returns-clause-count : goal.returns-clause-count
returns-clause-count c = subst (λ P. (e : ℕ) → IsCutLimit P c.args.cut_limit.number e → AtLeastMany member_cmp (IsMember P e) (c.deepen_cut_sized.new.ledger.used - c.args.ledger.now.used)) c.in_ok-sized.ensures c.deepen_cut_sized.ensures.count

pub returns-clause-rises : goal.returns-clause-rises
returns-clause-rises c = c.deepen_cut_sized.ensures.rises

pub returns-clause-budget : goal.returns-clause-budget
returns-clause-budget c = c.deepen_cut_sized.ensures.budget
