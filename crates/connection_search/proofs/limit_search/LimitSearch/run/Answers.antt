use Rattle.std.proofs.Common.{◌+◌, ◌<◌, ◌≤◌, ◌∙◌, arith, length, refl, subst}
use Rattle.store_theory.specs.Bindings.{KeepsMarks}
use Rattle.connection_search.proofs.SearchedLaws.{marks-of_same, room-both, searched-end, searched-first, searched-next, starts_from}
use Rattle.connection_search.proofs.SpentLaws.{counted}
use Rattle.connection_search.proofs.limit_search.LimitSearch.run.Goals as goal

pub loop-number-init : goal.loop-number-init
loop-number-init c = record {
  searched = searched-first c.args.self.now.problem.now c.args.self.now.matrix.now c.args.self.now.limit c.args.ledger.now.used c.requires.matrix.matrix;
  steps = c.new-work.ensures.steps;
  goals = c.new-work.ensures.goals;
  failed = c.new-failed.ensures c.args.self.now.problem.now c.args.self.now.limit;
  budget = refl;
  store = refl;
  room = (omega arith, omega arith);
}

pub returns-in_err-clause-clause-counted : goal.returns-in_err-clause-clause-counted
returns-in_err-clause-clause-counted c = counted c.args.self.now.problem.now c.args.self.now.limit (starts_from c.args.self.now.matrix.now c.loop-number.number) c.args.ledger.now.used c.loop-number.ledger.used c.loop-number.left c.loop-number.invariant.searched

pub returns-in_err-clause-clause-budget : goal.returns-in_err-clause-clause-budget
returns-in_err-clause-clause-budget c = c.loop-number.invariant.budget

pub returns-in_err-clause-clause-marks : goal.returns-in_err-clause-clause-marks
returns-in_err-clause-clause-marks c = marks-of_same c.args.store.now.store c.loop-number.store.store c.loop-number.invariant.store

pub returns-in_err-clause-clause-room : goal.returns-in_err-clause-clause-room
returns-in_err-clause-clause-room c = c.loop-number.invariant.room

pub start_with-requires-clause-searched : goal.start_with-requires-clause-searched
start_with-requires-clause-searched c = ((starts_from c.args.self.now.matrix.now (c.loop-number.number + 1)), c.args.ledger.now.used, c.requires, (searched-next c.args.self.now.problem.now c.args.self.now.matrix.now c.args.self.now.limit c.loop-number.number c.in_ok-clause.clause.0 c.args.ledger.now.used c.loop-number.ledger.used c.loop-number.left (let n = c.len-number-end.ensures in let l : c.loop-number.number < length c.args.self.now.matrix.now = omega arith in l) c.in_ok-clause.ensures c.loop-number.invariant.searched))

pub start_with-requires-clause-clause : goal.start_with-requires-clause-clause
start_with-requires-clause-clause c = let e = c.in_ok-clause.ensures in let n = c.len-number-end.ensures in omega arith

pub start_with-requires-clause-steps : goal.start_with-requires-clause-steps
start_with-requires-clause-steps c = c.loop-number.invariant.steps

pub start_with-requires-clause-goals : goal.start_with-requires-clause-goals
start_with-requires-clause-goals c = c.loop-number.invariant.goals

pub returns-in_err-start_with-clause-counted : goal.returns-in_err-start_with-clause-counted
returns-in_err-start_with-clause-counted c = c.start_with.ensures.counted (starts_from c.args.self.now.matrix.now (c.loop-number.number + 1)) c.args.ledger.now.used c.requires (searched-next c.args.self.now.problem.now c.args.self.now.matrix.now c.args.self.now.limit c.loop-number.number c.in_ok-clause.clause.0 c.args.ledger.now.used c.loop-number.ledger.used c.loop-number.left (let n = c.len-number-end.ensures in let l : c.loop-number.number < length c.args.self.now.matrix.now = omega arith in l) c.in_ok-clause.ensures c.loop-number.invariant.searched)

pub returns-in_err-start_with-clause-budget : goal.returns-in_err-start_with-clause-budget
returns-in_err-start_with-clause-budget c = c.start_with.ensures.budget ∙ c.loop-number.invariant.budget

pub returns-in_err-start_with-clause-marks : goal.returns-in_err-start_with-clause-marks
returns-in_err-start_with-clause-marks c = subst (λ s. KeepsMarks s c.start_with.new.store.store) c.loop-number.invariant.store c.start_with.ensures.marks

pub returns-in_err-start_with-clause-room : goal.returns-in_err-start_with-clause-room
returns-in_err-start_with-clause-room c = room-both c.args.store.now c.loop-number.store c.start_with.new.store c.loop-number.invariant.room c.start_with.ensures.room

pub returns-in-Closed-clause-outcome : goal.returns-in-Closed-clause-outcome
returns-in-Closed-clause-outcome c =
    let end = rw c.in-Closed.is at c.in_ok-start_with.ensures.end in
    end (starts_from c.args.self.now.matrix.now (c.loop-number.number + 1)) c.args.ledger.now.used c.requires (searched-next c.args.self.now.problem.now c.args.self.now.matrix.now c.args.self.now.limit c.loop-number.number c.in_ok-clause.clause.0 c.args.ledger.now.used c.loop-number.ledger.used c.loop-number.left (let n = c.len-number-end.ensures in let l : c.loop-number.number < length c.args.self.now.matrix.now = omega arith in l) c.in_ok-clause.ensures c.loop-number.invariant.searched)

pub returns-in-Closed-clause-counted : goal.returns-in-Closed-clause-counted
returns-in-Closed-clause-counted c = c.start_with.ensures.counted (starts_from c.args.self.now.matrix.now (c.loop-number.number + 1)) c.args.ledger.now.used c.requires (searched-next c.args.self.now.problem.now c.args.self.now.matrix.now c.args.self.now.limit c.loop-number.number c.in_ok-clause.clause.0 c.args.ledger.now.used c.loop-number.ledger.used c.loop-number.left (let n = c.len-number-end.ensures in let l : c.loop-number.number < length c.args.self.now.matrix.now = omega arith in l) c.in_ok-clause.ensures c.loop-number.invariant.searched)

pub returns-in-Closed-clause-budget : goal.returns-in-Closed-clause-budget
returns-in-Closed-clause-budget c = c.start_with.ensures.budget ∙ c.loop-number.invariant.budget

pub returns-in-Closed-clause-store : goal.returns-in-Closed-clause-store
returns-in-Closed-clause-store c = c.in_ok-start_with.ensures.store ∙ c.loop-number.invariant.store

pub returns-in-Closed-clause-marks : goal.returns-in-Closed-clause-marks
returns-in-Closed-clause-marks c = subst (λ s. KeepsMarks s c.start_with.new.store.store) c.loop-number.invariant.store c.start_with.ensures.marks

pub returns-in-Closed-clause-room : goal.returns-in-Closed-clause-room
returns-in-Closed-clause-room c = room-both c.args.store.now c.loop-number.store c.start_with.new.store c.loop-number.invariant.room c.start_with.ensures.room

pub returns-in-Steps-clause-outcome : goal.returns-in-Steps-clause-outcome
returns-in-Steps-clause-outcome c = tt

pub returns-in-Steps-clause-steps : goal.returns-in-Steps-clause-steps
returns-in-Steps-clause-steps c =
    let end = rw c.in-Steps.is at c.in_ok-start_with.ensures.end in
    end (starts_from c.args.self.now.matrix.now (c.loop-number.number + 1)) c.args.ledger.now.used c.requires (searched-next c.args.self.now.problem.now c.args.self.now.matrix.now c.args.self.now.limit c.loop-number.number c.in_ok-clause.clause.0 c.args.ledger.now.used c.loop-number.ledger.used c.loop-number.left (let n = c.len-number-end.ensures in let l : c.loop-number.number < length c.args.self.now.matrix.now = omega arith in l) c.in_ok-clause.ensures c.loop-number.invariant.searched)

pub returns-in-Steps-clause-counted : goal.returns-in-Steps-clause-counted
returns-in-Steps-clause-counted c = c.start_with.ensures.counted (starts_from c.args.self.now.matrix.now (c.loop-number.number + 1)) c.args.ledger.now.used c.requires (searched-next c.args.self.now.problem.now c.args.self.now.matrix.now c.args.self.now.limit c.loop-number.number c.in_ok-clause.clause.0 c.args.ledger.now.used c.loop-number.ledger.used c.loop-number.left (let n = c.len-number-end.ensures in let l : c.loop-number.number < length c.args.self.now.matrix.now = omega arith in l) c.in_ok-clause.ensures c.loop-number.invariant.searched)

pub returns-in-Steps-clause-budget : goal.returns-in-Steps-clause-budget
returns-in-Steps-clause-budget c = c.start_with.ensures.budget ∙ c.loop-number.invariant.budget

pub returns-in-Steps-clause-store : goal.returns-in-Steps-clause-store
returns-in-Steps-clause-store c = c.in_ok-start_with.ensures.store ∙ c.loop-number.invariant.store

pub returns-in-Steps-clause-marks : goal.returns-in-Steps-clause-marks
returns-in-Steps-clause-marks c = subst (λ s. KeepsMarks s c.start_with.new.store.store) c.loop-number.invariant.store c.start_with.ensures.marks

pub returns-in-Steps-clause-room : goal.returns-in-Steps-clause-room
returns-in-Steps-clause-room c = room-both c.args.store.now c.loop-number.store c.start_with.new.store c.loop-number.invariant.room c.start_with.ensures.room

pub loop-number-preserved : goal.loop-number-preserved
loop-number-preserved c = record {
  searched =
      let on = rw c.in-On.is at c.in_ok-start_with.ensures.on in
      on (starts_from c.args.self.now.matrix.now (c.loop-number.number + 1)) c.args.ledger.now.used c.requires (searched-next c.args.self.now.problem.now c.args.self.now.matrix.now c.args.self.now.limit c.loop-number.number c.in_ok-clause.clause.0 c.args.ledger.now.used c.loop-number.ledger.used c.loop-number.left (let n = c.len-number-end.ensures in let l : c.loop-number.number < length c.args.self.now.matrix.now = omega arith in l) c.in_ok-clause.ensures c.loop-number.invariant.searched);
  steps = c.in_ok-start_with.ensures.steps;
  goals = c.in_ok-start_with.ensures.goals;
  failed = c.in_ok-start_with.ensures.failed;
  budget = c.start_with.ensures.budget ∙ c.loop-number.invariant.budget;
  store = c.in_ok-start_with.ensures.store ∙ c.loop-number.invariant.store;
  room = room-both c.args.store.now c.loop-number.store c.start_with.new.store c.loop-number.invariant.room c.start_with.ensures.room;
}

pub returns-clause-outcome : goal.returns-clause-outcome
returns-clause-outcome c = let n = c.len-number-end.ensures in let l : length c.args.self.now.matrix.now ≤ c.loop-number.number = omega arith in searched-end c.args.self.now.problem.now c.args.self.now.matrix.now c.args.self.now.limit c.loop-number.number c.args.ledger.now.used c.loop-number.ledger.used c.loop-number.left l c.loop-number.invariant.searched

pub returns-clause-counted : goal.returns-clause-counted
returns-clause-counted c = counted c.args.self.now.problem.now c.args.self.now.limit (starts_from c.args.self.now.matrix.now c.loop-number.number) c.args.ledger.now.used c.loop-number.ledger.used c.loop-number.left c.loop-number.invariant.searched

pub returns-clause-budget : goal.returns-clause-budget
returns-clause-budget c = c.loop-number.invariant.budget

pub returns-clause-store : goal.returns-clause-store
returns-clause-store c = c.loop-number.invariant.store

pub returns-clause-marks : goal.returns-clause-marks
returns-clause-marks c = marks-of_same c.args.store.now.store c.loop-number.store.store c.loop-number.invariant.store

pub returns-clause-room : goal.returns-clause-room
returns-clause-room c = c.loop-number.invariant.room

pub start_with-requires-clause-failed : goal.start_with-requires-clause-failed
start_with-requires-clause-failed c = c.loop-number.invariant.failed
