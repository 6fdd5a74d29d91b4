use Rattle.std.proofs.Common.{◌+◌, ◌<◌, ◌≤◌, ◌∙◌, arith, length, refl, slice_get, subst}
use Rattle.search_theory.proofs.CutEnds.{fails-none, found-cut, none-cut}
use Rattle.search_theory.proofs.CutLimits.{told-itself}
use Rattle.connection_search.proofs.CuttingLaws.{cut-fails-more, passing-counted, passing-first, passing-start}
use Rattle.connection_search.proofs.SearchedLaws.{starts_from}
use Rattle.search_theory.specs.OrderedChoices.{selection_of}
use Rattle.tableau_core.specs.Numbered.TableauView.{the_tableau}
use Rattle.calculus.specs.Cut.{Cuts}
use Rattle.connection_search.proofs.limit_search.LimitSearch.run_cut.Goals as goal

pub loop-number-init : goal.loop-number-init
loop-number-init c = record {
  passing = passing-first c.args.self.now.problem.now c.args.self.now.matrix.now c.args.self.now.limit c.args.ledger.now.used c.requires.matrix.matrix;
  fails = λ e told. fails-none c.args.self.now.problem.now c.args.self.now.matrix.now e;
  budget = refl;
}

pub returns-in_err-clause-clause-counted : goal.returns-in_err-clause-clause-counted
returns-in_err-clause-clause-counted c = passing-counted c.args.self.now.problem.now c.args.self.now.limit (starts_from c.args.self.now.matrix.now c.loop-number.number) c.args.ledger.now.used c.loop-number.ledger.used c.loop-number.invariant.passing

pub returns-in_err-clause-clause-budget : goal.returns-in_err-clause-clause-budget
returns-in_err-clause-clause-budget c = c.loop-number.invariant.budget

pub start_cut-requires-clause-passing : goal.start_cut-requires-clause-passing
start_cut-requires-clause-passing c = ((starts_from c.args.self.now.matrix.now (c.loop-number.number + 1)), c.args.ledger.now.used, c.requires, (passing-start c.args.self.now.problem.now c.args.self.now.matrix.now c.args.self.now.limit c.loop-number.number c.in_ok-clause.clause.0 c.args.ledger.now.used c.loop-number.ledger.used (let n = c.len-number-end.ensures in let l : c.loop-number.number < length c.args.self.now.matrix.now = omega arith in l) c.in_ok-clause.ensures c.loop-number.invariant.passing))

pub start_cut-requires-clause-clause : goal.start_cut-requires-clause-clause
start_cut-requires-clause-clause c = let e = c.in_ok-clause.ensures in let n = c.len-number-end.ensures in omega arith

pub returns-in_err-start_cut-clause-counted : goal.returns-in_err-start_cut-clause-counted
returns-in_err-start_cut-clause-counted c = c.start_cut.ensures.counted (starts_from c.args.self.now.matrix.now (c.loop-number.number + 1)) c.args.ledger.now.used c.requires (passing-start c.args.self.now.problem.now c.args.self.now.matrix.now c.args.self.now.limit c.loop-number.number c.in_ok-clause.clause.0 c.args.ledger.now.used c.loop-number.ledger.used (let n = c.len-number-end.ensures in let l : c.loop-number.number < length c.args.self.now.matrix.now = omega arith in l) c.in_ok-clause.ensures c.loop-number.invariant.passing)

pub returns-in_err-start_cut-clause-budget : goal.returns-in_err-start_cut-clause-budget
returns-in_err-start_cut-clause-budget c = c.start_cut.ensures.budget ∙ c.loop-number.invariant.budget

pub returns-in-Closed-clause-end : goal.returns-in-Closed-clause-end
returns-in-Closed-clause-end c =
    let end = rw c.in-Closed.is at c.in_ok-start_cut.ensures.end in
    let (b, cuts) = end (starts_from c.args.self.now.matrix.now (c.loop-number.number + 1)) c.args.ledger.now.used c.requires (passing-start c.args.self.now.problem.now c.args.self.now.matrix.now c.args.self.now.limit c.loop-number.number c.in_ok-clause.clause.0 c.args.ledger.now.used c.loop-number.ledger.used (let n = c.len-number-end.ensures in let l : c.loop-number.number < length c.args.self.now.matrix.now = omega arith in l) c.in_ok-clause.ensures c.loop-number.invariant.passing) in
    (b, selection_of (slice_get c.args.self.now.matrix.now c.loop-number.number), found-cut c.args.self.now.problem.now c.args.self.now.matrix.now c.args.self.now.limit c.loop-number.number b (the_tableau c.in-Closed.tableau) c.requires.matrix.matrix (let n = c.len-number-end.ensures in let l : c.loop-number.number < length c.args.self.now.matrix.now = omega arith in l) (c.loop-number.invariant.fails c.args.self.now.limit (told-itself c.args.self.now.limit c.loop-number.left)) (subst (λ k. Cuts c.args.self.now.problem.now c.args.self.now.limit (selection_of (slice_get c.args.self.now.matrix.now k)) b (the_tableau c.in-Closed.tableau)) c.in_ok-clause.ensures cuts))

pub returns-in-Closed-clause-counted : goal.returns-in-Closed-clause-counted
returns-in-Closed-clause-counted c = c.start_cut.ensures.counted (starts_from c.args.self.now.matrix.now (c.loop-number.number + 1)) c.args.ledger.now.used c.requires (passing-start c.args.self.now.problem.now c.args.self.now.matrix.now c.args.self.now.limit c.loop-number.number c.in_ok-clause.clause.0 c.args.ledger.now.used c.loop-number.ledger.used (let n = c.len-number-end.ensures in let l : c.loop-number.number < length c.args.self.now.matrix.now = omega arith in l) c.in_ok-clause.ensures c.loop-number.invariant.passing)

pub returns-in-Closed-clause-budget : goal.returns-in-Closed-clause-budget
returns-in-Closed-clause-budget c = c.start_cut.ensures.budget ∙ c.loop-number.invariant.budget

pub returns-in-Steps-clause-end : goal.returns-in-Steps-clause-end
returns-in-Steps-clause-end c =
    let end = rw c.in-Steps.is at c.in_ok-start_cut.ensures.end in
    end (starts_from c.args.self.now.matrix.now (c.loop-number.number + 1)) c.args.ledger.now.used c.requires (passing-start c.args.self.now.problem.now c.args.self.now.matrix.now c.args.self.now.limit c.loop-number.number c.in_ok-clause.clause.0 c.args.ledger.now.used c.loop-number.ledger.used (let n = c.len-number-end.ensures in let l : c.loop-number.number < length c.args.self.now.matrix.now = omega arith in l) c.in_ok-clause.ensures c.loop-number.invariant.passing)

pub returns-in-Steps-clause-counted : goal.returns-in-Steps-clause-counted
returns-in-Steps-clause-counted c = c.start_cut.ensures.counted (starts_from c.args.self.now.matrix.now (c.loop-number.number + 1)) c.args.ledger.now.used c.requires (passing-start c.args.self.now.problem.now c.args.self.now.matrix.now c.args.self.now.limit c.loop-number.number c.in_ok-clause.clause.0 c.args.ledger.now.used c.loop-number.ledger.used (let n = c.len-number-end.ensures in let l : c.loop-number.number < length c.args.self.now.matrix.now = omega arith in l) c.in_ok-clause.ensures c.loop-number.invariant.passing)

pub returns-in-Steps-clause-budget : goal.returns-in-Steps-clause-budget
returns-in-Steps-clause-budget c = c.start_cut.ensures.budget ∙ c.loop-number.invariant.budget

pub loop-number-preserved : goal.loop-number-preserved
loop-number-preserved c =
    let on = rw c.in-On.is at c.in_ok-start_cut.ensures.on in
    let r = on (starts_from c.args.self.now.matrix.now (c.loop-number.number + 1)) c.args.ledger.now.used c.requires (passing-start c.args.self.now.problem.now c.args.self.now.matrix.now c.args.self.now.limit c.loop-number.number c.in_ok-clause.clause.0 c.args.ledger.now.used c.loop-number.ledger.used (let n = c.len-number-end.ensures in let l : c.loop-number.number < length c.args.self.now.matrix.now = omega arith in l) c.in_ok-clause.ensures c.loop-number.invariant.passing) in
    record {
      passing = r.1;
      fails = cut-fails-more c.args.self.now.problem.now c.args.self.now.matrix.now c.args.self.now.limit c.loop-number.number c.in_ok-clause.clause.0 c.loop-number.left c.start_cut.new.left _ c.in_ok-clause.ensures refl c.loop-number.invariant.fails r.0;
      budget = c.start_cut.ensures.budget ∙ c.loop-number.invariant.budget;
    }

pub returns-clause-none : goal.returns-clause-none
returns-clause-none c = let n = c.len-number-end.ensures in let l : length c.args.self.now.matrix.now ≤ c.loop-number.number = omega arith in λ e told. none-cut c.args.self.now.problem.now c.args.self.now.matrix.now e c.loop-number.number c.requires.matrix.matrix l (c.loop-number.invariant.fails e told)

pub returns-clause-counted : goal.returns-clause-counted
returns-clause-counted c = passing-counted c.args.self.now.problem.now c.args.self.now.limit (starts_from c.args.self.now.matrix.now c.loop-number.number) c.args.ledger.now.used c.loop-number.ledger.used c.loop-number.invariant.passing

pub returns-clause-budget : goal.returns-clause-budget
returns-clause-budget c = c.loop-number.invariant.budget
