use Rattle.std.proofs.Common.{◌≡◌, ◌∙◌, ap, arith, map, subst, sym}
use Rattle.store_theory.specs.Bindings.{with_binding}
use Rattle.store_theory.proofs.WeightLaws.{open_count, open_count-bind}
use Rattle.term_unify.specs.Closed.{IsClosedBelow}
use Rattle.term_unify.specs.PairView.{the_pair}
use Rattle.term_unify.proofs.PairLaws.{Unified, unified-binding, unified-occurs}
use Rattle.term_unify.proofs.solve.solve_pairs.Goals as goal

pub returns-then-branch-clause-apart : goal.returns-then-branch-clause-apart
returns-then-branch-clause-apart c = λ t.
    let b = rw c.in-Bind.is at c.in_ok-next_binding.ensures.next in
    unified-occurs c.args.store.now.store c.loop-v.store.store (map the_pair c.args.pairs.now.items) (map the_pair c.loop-v.pairs.items) (map the_pair c.next_binding.new.pairs.items) c.in-Bind.v.0 c.in-Bind.to.0 c.loop-v.invariant.unified b.0 b.1 (c.in_ok-occurs_from-in-Bind.ensures.yes c.if-branch.true)

pub loop-v-smaller : goal.loop-v-smaller
loop-v-smaller c =
    let b = rw c.in-Bind.is at c.in_ok-next_binding.ensures.next in
    let after : c.bind.new.self.store ≡ with_binding c.in-Bind.v.0 c.in-Bind.to.0 c.loop-v.store.store = c.bind.ensures.store ∙ ap (with_binding c.in-Bind.v.0 c.in-Bind.to.0) c.in_ok-reserve-in-Bind.ensures.store in
    let n = open_count-bind c.in-Bind.v.0 c.in-Bind.to.0 b.0.sort c.loop-v.store.store.cells b.0.open_cell in
    let e = ap (λ s. open_count s.cells) after in
    omega arith

pub loop-v-preserved : goal.loop-v-preserved
loop-v-preserved c =
    let b = rw c.in-Bind.is at c.in_ok-next_binding.ensures.next in
    let after : c.bind.new.self.store ≡ with_binding c.in-Bind.v.0 c.in-Bind.to.0 c.loop-v.store.store = c.bind.ensures.store ∙ ap (with_binding c.in-Bind.v.0 c.in-Bind.to.0) c.in_ok-reserve-in-Bind.ensures.store in
    let more = c.bind.ensures.room in
    let reserved = c.in_ok-reserve-in-Bind.ensures.room in
    let before = c.loop-v.invariant.room in
    record {
      unified = subst (λ s. Unified c.args.store.now.store s (map the_pair c.args.pairs.now.items) (map the_pair c.next_binding.new.pairs.items)) (sym after)
          (unified-binding c.args.store.now.store c.loop-v.store.store (map the_pair c.args.pairs.now.items) (map the_pair c.loop-v.pairs.items) (map the_pair c.next_binding.new.pairs.items) c.in-Bind.v.0 c.in-Bind.to.0 c.loop-v.invariant.unified b.0 b.1 b.2 c.in_ok-next_binding.ensures.cells (c.in_ok-occurs_from-in-Bind.ensures.no c.if-branch.false));
      room = (omega arith, omega arith);
      closed = subst (IsClosedBelow c.closed_by.result) (sym after) (c.closed_by.ensures c.loop-v.store.store b.0.sort b.0.open_cell c.loop-v.invariant.closed);
    }
