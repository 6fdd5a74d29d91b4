use Rattle.std.proofs.Common.{inl, inr}
use Rattle.std.proofs.lemmas.Result.{IfOk-weaker}
use Rattle.prefix_split.specs.Beginnings.{Refutes}
use Rattle.prefix_split.proofs.choosing.+choose.Goals as goal

pub returns-clause-refuted : goal.returns-clause-refuted
returns-clause-refuted t c = IfOk-weaker c.choose-2.result (λ left. Refutes c.args.store.now.store c.args.nodes.now c.assume-2.new.order c.choose-2.new.order) (λ left. Refutes c.args.store.now.store c.args.nodes.now c.args.order.now c.choose-2.new.order) (λ left h e σ value k v held. elim (c.in-Some.ensures σ value v held) [
  | inl b ↦ h e σ value k v (c.assume-2.ensures σ value k v b held)
  | inr b ↦ c.in_ok-left.ensures.refuted c.if-not-tried.false σ value k v (c.assume.ensures σ value k v b (c.in_ok-tried.ensures value held))
]) c.choose-2.ensures.refuted
