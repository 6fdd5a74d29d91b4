use Rattle.std.proofs.Common.{◌∙◌, ap, inl, subst, sym}
use Rattle.store_theory.specs.Bindings.{MayBind, with_binding}
use Rattle.term_unify.specs.Closed.{IsClosedBelow}
use Rattle.term_unify.proofs.ClosedLaws.{closed-bound}
use Rattle.term_unify.proofs.OnePairLaws.{apart-ends, binds-pair, newer-may, newer-pair, unifies-ends, within-ends}
use Rattle.term_unify.proofs.solve.Unifier.unify_newer.Goals as goal

pub bind-requires-clause-may : goal.bind-requires-clause-may
bind-requires-clause-may c =
    let n = newer-pair c.args.store.now.store c.args.below.now c.args.a.0 c.args.b.0 c.end-left.result c.end-right.result c.end-left.ensures.ends c.end-left.ensures.shows c.end-right.ensures.ends c.end-right.ensures.shows (c.is_newer.ensures.open c.if-is_newer.true) (c.is_newer.ensures.sorts c.if-is_newer.true) (c.is_newer.ensures.older c.if-is_newer.true) (c.is_newer.ensures.newer c.if-is_newer.true) c.requires.closed in
    subst (λ s. MayBind s c.end-right.result.place.0 c.end-left.result.place.0) (sym c.in_ok-reserve.ensures.store) (newer-may c.args.store.now.store c.args.a.0 c.args.b.0 c.end-left.result.place c.end-right.result.place n)

pub returns-then-is_newer-clause-unifies : goal.returns-then-is_newer-clause-unifies
returns-then-is_newer-clause-unifies c = λ t.
    let n = newer-pair c.args.store.now.store c.args.below.now c.args.a.0 c.args.b.0 c.end-left.result c.end-right.result c.end-left.ensures.ends c.end-left.ensures.shows c.end-right.ensures.ends c.end-right.ensures.shows (c.is_newer.ensures.open c.if-is_newer.true) (c.is_newer.ensures.sorts c.if-is_newer.true) (c.is_newer.ensures.older c.if-is_newer.true) (c.is_newer.ensures.newer c.if-is_newer.true) c.requires.closed in
    (binds-pair c.args.store.now.store c.bind.new.self.store c.args.a.0 c.args.b.0 c.end-right.result.place c.end-left.result.place c.end-left.ensures.well c.requires.left c.requires.right n.binds n.free (c.bind.ensures.store ∙ ap (with_binding c.end-right.result.place.0 c.end-left.result.place.0) c.in_ok-reserve.ensures.store)).0

pub returns-then-is_newer-clause-closed : goal.returns-then-is_newer-clause-closed
returns-then-is_newer-clause-closed c = λ t.
    let n = newer-pair c.args.store.now.store c.args.below.now c.args.a.0 c.args.b.0 c.end-left.result c.end-right.result c.end-left.ensures.ends c.end-left.ensures.shows c.end-right.ensures.ends c.end-right.ensures.shows (c.is_newer.ensures.open c.if-is_newer.true) (c.is_newer.ensures.sorts c.if-is_newer.true) (c.is_newer.ensures.older c.if-is_newer.true) (c.is_newer.ensures.newer c.if-is_newer.true) c.requires.closed in
    let m = c.is_newer.ensures.newer c.if-is_newer.true in
    subst (IsClosedBelow c.args.below.now) (sym (c.bind.ensures.store ∙ ap (with_binding c.end-right.result.place.0 c.end-left.result.place.0) c.in_ok-reserve.ensures.store)) (closed-bound c.args.below.now c.args.store.now.store c.end-right.result.place.0 c.end-left.result.place.0 n.binds.0.sort n.binds.0.open_cell (inl m) c.requires.closed)

pub returns-then-is_newer-clause-binds : goal.returns-then-is_newer-clause-binds
returns-then-is_newer-clause-binds c =
    let n = newer-pair c.args.store.now.store c.args.below.now c.args.a.0 c.args.b.0 c.end-left.result c.end-right.result c.end-left.ensures.ends c.end-left.ensures.shows c.end-right.ensures.ends c.end-right.ensures.shows (c.is_newer.ensures.open c.if-is_newer.true) (c.is_newer.ensures.sorts c.if-is_newer.true) (c.is_newer.ensures.older c.if-is_newer.true) (c.is_newer.ensures.newer c.if-is_newer.true) c.requires.closed in
    (binds-pair c.args.store.now.store c.bind.new.self.store c.args.a.0 c.args.b.0 c.end-right.result.place c.end-left.result.place c.end-left.ensures.well c.requires.left c.requires.right n.binds n.free (c.bind.ensures.store ∙ ap (with_binding c.end-right.result.place.0 c.end-left.result.place.0) c.in_ok-reserve.ensures.store)).1

pub returns-then-is_newer-clause-within : goal.returns-then-is_newer-clause-within
returns-then-is_newer-clause-within c =
    let n = newer-pair c.args.store.now.store c.args.below.now c.args.a.0 c.args.b.0 c.end-left.result c.end-right.result c.end-left.ensures.ends c.end-left.ensures.shows c.end-right.ensures.ends c.end-right.ensures.shows (c.is_newer.ensures.open c.if-is_newer.true) (c.is_newer.ensures.sorts c.if-is_newer.true) (c.is_newer.ensures.older c.if-is_newer.true) (c.is_newer.ensures.newer c.if-is_newer.true) c.requires.closed in
    (binds-pair c.args.store.now.store c.bind.new.self.store c.args.a.0 c.args.b.0 c.end-right.result.place c.end-left.result.place c.end-left.ensures.well c.requires.left c.requires.right n.binds n.free (c.bind.ensures.store ∙ ap (with_binding c.end-right.result.place.0 c.end-left.result.place.0) c.in_ok-reserve.ensures.store)).2

pub returns-clause-unifies : goal.returns-clause-unifies
returns-clause-unifies c = λ t. unifies-ends c.args.store.now.store c.unify_below.new.store.store c.args.a.0 c.args.b.0 c.end-left.result.place.0 c.end-right.result.place.0 c.end-left.ensures.ends c.end-right.ensures.ends (c.in_ok-equal.ensures.unifies t)

pub returns-clause-apart : goal.returns-clause-apart
returns-clause-apart c = λ t. apart-ends c.args.store.now.store c.args.a.0 c.args.b.0 c.end-left.result.place.0 c.end-right.result.place.0 c.end-left.ensures.ends c.end-right.ensures.ends (c.in_ok-equal.ensures.apart t)

pub returns-clause-within : goal.returns-clause-within
returns-clause-within c = within-ends c.args.store.now.store c.unify_below.new.store.store c.args.a.0 c.args.b.0 c.end-left.result.place.0 c.end-right.result.place.0 c.end-left.ensures.ends c.end-right.ensures.ends c.unify_below.ensures.within
