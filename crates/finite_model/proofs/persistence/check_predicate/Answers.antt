use Rattle.std.proofs.Common.{◌+◌, length, sym, ◌∙◌, refl, arith}
use Rattle.calculus.specs.StructureText.{at_worlds, persists_at}
use Rattle.calculus.specs.declared.fault.StructureCause.TheVariants as cause
use Rattle.finite_model.proofs.CheckLaws.{broken-told}
use Rattle.finite_model.proofs.WorldChecks.{checks-on, worlds-begun, worlds-broken, worlds-hold}
use Rattle.finite_model.proofs.persistence.check_predicate.Goals as goal

pub loop-world-init : goal.loop-world-init
loop-world-init c = worlds-begun c.args.s.now (λ w. c.args.first + w) cause.Persistence (persists_at c.args.s.now c.args.predicate.0 c.args.arity)

pub loop-world-preserved : goal.loop-world-preserved
loop-world-preserved c = sym (checks-on (λ w. c.args.first + w) cause.Persistence (persists_at c.args.s.now c.args.predicate.0 c.args.arity) c.loop-world.world (length c.args.s.now.successors) (omega arith) (sym c.persists_at.ensures ∙ c.if-not-persists_at.false)) ∙ c.loop-world.invariant

pub returns-then-not-persists_at-clause-bad : goal.returns-then-not-persists_at-clause-bad
returns-then-not-persists_at-clause-bad c = λ line why e. broken-told (at_worlds c.args.s.now (λ w. c.args.first + w) cause.Persistence (persists_at c.args.s.now c.args.predicate.0 c.args.arity)) _ line _ why e (worlds-broken c.args.s.now (λ w. c.args.first + w) cause.Persistence _ (persists_at c.args.s.now c.args.predicate.0 c.args.arity) c.loop-world.world (length c.args.s.now.successors) _ (omega arith) (sym c.persists_at.ensures ∙ c.if-not-persists_at.true) (omega arith) refl c.loop-world.invariant)

pub returns-clause-ok : goal.returns-clause-ok
returns-clause-ok c = worlds-hold c.args.s.now (λ w. c.args.first + w) cause.Persistence (persists_at c.args.s.now c.args.predicate.0 c.args.arity) c.loop-world.world (length c.args.s.now.successors) (omega arith) c.loop-world.invariant
