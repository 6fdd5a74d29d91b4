use Rattle.std.proofs.Common.{◌∙◌, ap, subst, sym}
use Rattle.store_theory.specs.Bindings.{with_binding}
use Rattle.term_unify.specs.Closed.{IsClosedBelow}
use Rattle.term_unify.proofs.OnePairLaws.{apart-ends, binds-pair, occurs-pair, unifies-ends, unifies-same, within-ends}
use Rattle.term_unify.proofs.solve.Unifier.unify_below.Goals as goal

pub returns-in-Same-clause-unifies : goal.returns-in-Same-clause-unifies
returns-in-Same-clause-unifies c = λ t. unifies-same c.args.store.now.store c.args.a.0 c.args.b.0 c.in-Same.ensures.well c.in-Same.ensures.step

pub returns-then-branch-clause-apart : goal.returns-then-branch-clause-apart
returns-then-branch-clause-apart c = λ t. occurs-pair c.args.store.now.store c.args.a.0 c.args.b.0 c.in-Bind.v c.in-Bind.to c.in-Bind.ensures.step (c.in_ok-occurs_from-in-Bind.ensures.yes c.if-branch.true)

pub returns-in_ok-reserve-in-Bind-clause-unifies : goal.returns-in_ok-reserve-in-Bind-clause-unifies
returns-in_ok-reserve-in-Bind-clause-unifies c = λ t. (binds-pair c.args.store.now.store c.bind.new.self.store c.args.a.0 c.args.b.0 c.in-Bind.v c.in-Bind.to c.in-Bind.ensures.well c.requires.left c.requires.right c.in-Bind.ensures.step (c.in_ok-occurs_from-in-Bind.ensures.no c.if-branch.false) (c.bind.ensures.store ∙ ap (with_binding c.in-Bind.v.0 c.in-Bind.to.0) c.in_ok-reserve-in-Bind.ensures.store)).0

pub returns-in_ok-reserve-in-Bind-clause-closed : goal.returns-in_ok-reserve-in-Bind-clause-closed
returns-in_ok-reserve-in-Bind-clause-closed c = λ t.
    let binding = c.in-Bind.ensures.step.0 in
    subst (IsClosedBelow c.closed_by.result) (sym (c.bind.ensures.store ∙ ap (with_binding c.in-Bind.v.0 c.in-Bind.to.0) c.in_ok-reserve-in-Bind.ensures.store)) (c.closed_by.ensures c.args.store.now.store binding.sort binding.open_cell c.requires.closed)

pub returns-in_ok-reserve-in-Bind-clause-binds : goal.returns-in_ok-reserve-in-Bind-clause-binds
returns-in_ok-reserve-in-Bind-clause-binds c = (binds-pair c.args.store.now.store c.bind.new.self.store c.args.a.0 c.args.b.0 c.in-Bind.v c.in-Bind.to c.in-Bind.ensures.well c.requires.left c.requires.right c.in-Bind.ensures.step (c.in_ok-occurs_from-in-Bind.ensures.no c.if-branch.false) (c.bind.ensures.store ∙ ap (with_binding c.in-Bind.v.0 c.in-Bind.to.0) c.in_ok-reserve-in-Bind.ensures.store)).1

pub returns-in_ok-reserve-in-Bind-clause-within : goal.returns-in_ok-reserve-in-Bind-clause-within
returns-in_ok-reserve-in-Bind-clause-within c = (binds-pair c.args.store.now.store c.bind.new.self.store c.args.a.0 c.args.b.0 c.in-Bind.v c.in-Bind.to c.in-Bind.ensures.well c.requires.left c.requires.right c.in-Bind.ensures.step (c.in_ok-occurs_from-in-Bind.ensures.no c.if-branch.false) (c.bind.ensures.store ∙ ap (with_binding c.in-Bind.v.0 c.in-Bind.to.0) c.in_ok-reserve-in-Bind.ensures.store)).2

pub returns-in_ok-equal-in-Parts-clause-unifies : goal.returns-in_ok-equal-in-Parts-clause-unifies
returns-in_ok-equal-in-Parts-clause-unifies c = λ t. unifies-ends c.args.store.now.store c.unify_parts.new.store.store c.args.a.0 c.args.b.0 c.in-Parts.left.0 c.in-Parts.right.0 c.in-Parts.ensures.step.1 c.in-Parts.ensures.step.2 (c.in_ok-equal-in-Parts.ensures.unifies t)

pub returns-in_ok-equal-in-Parts-clause-apart : goal.returns-in_ok-equal-in-Parts-clause-apart
returns-in_ok-equal-in-Parts-clause-apart c = λ t. apart-ends c.args.store.now.store c.args.a.0 c.args.b.0 c.in-Parts.left.0 c.in-Parts.right.0 c.in-Parts.ensures.step.1 c.in-Parts.ensures.step.2 (c.in_ok-equal-in-Parts.ensures.apart t)

pub returns-in_ok-equal-in-Parts-clause-within : goal.returns-in_ok-equal-in-Parts-clause-within
returns-in_ok-equal-in-Parts-clause-within c = within-ends c.args.store.now.store c.unify_parts.new.store.store c.args.a.0 c.args.b.0 c.in-Parts.left.0 c.in-Parts.right.0 c.in-Parts.ensures.step.1 c.in-Parts.ensures.step.2 c.unify_parts.ensures.within
