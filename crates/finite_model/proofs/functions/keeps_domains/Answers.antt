use Rattle.std.proofs.Common.{length, sym, ◌∙◌, arith}
use Rattle.finite_model.specs.Conditions.{keeps_domain_at}
use Rattle.finite_model.proofs.WorldChecks.{below-all, below-one, one-further}
use Rattle.finite_model.proofs.functions.keeps_domains.Goals as goal

pub loop-world-init : goal.loop-world-init
loop-world-init c = λ u h. absurd (omega arith)

pub loop-world-preserved : goal.loop-world-preserved
loop-world-preserved c = one-further (keeps_domain_at c.args.s.now c.args.function.0 c.args.arity) c.loop-world.world c.loop-world.invariant (sym (c.in_ok-keeps.ensures c.loop-world.invariant) ∙ c.if-not-keeps.false)

pub returns-then-not-keeps : goal.returns-then-not-keeps
returns-then-not-keeps c = sym (below-one (keeps_domain_at c.args.s.now c.args.function.0 c.args.arity) 0 (length c.args.s.now.successors) c.loop-world.world c.loop-world.world (omega arith) (omega arith) (sym (c.in_ok-keeps.ensures c.loop-world.invariant) ∙ c.if-not-keeps.true))

pub returns : goal.returns
returns c = sym (below-all (keeps_domain_at c.args.s.now c.args.function.0 c.args.arity) 0 (length c.args.s.now.successors) (λ u h. c.loop-world.invariant u (omega arith)))
