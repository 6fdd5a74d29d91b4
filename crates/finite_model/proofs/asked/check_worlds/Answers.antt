use Rattle.std.proofs.Common.{◌+◌, length, sym, ◌∙◌, arith}
use Rattle.calculus.specs.StructureText.{at_worlds}
use Rattle.finite_model.specs.Conditions.{cause_of, holds_at}
use Rattle.finite_model.proofs.CheckLaws.{broken-told}
use Rattle.finite_model.proofs.WorldChecks.{checks-on, worlds-begun, worlds-broken, worlds-hold}
use Rattle.finite_model.proofs.asked.check_worlds.Goals as goal

pub loop-world-init : goal.loop-world-init
loop-world-init c = worlds-begun c.args.s.now (λ w. c.args.first + w) (cause_of c.args.asked) (holds_at c.args.s.now c.args.asked)

pub loop-world-preserved : goal.loop-world-preserved
loop-world-preserved c = sym (checks-on (λ w. c.args.first + w) (cause_of c.args.asked) (holds_at c.args.s.now c.args.asked) c.loop-world.world (length c.args.s.now.successors) (omega arith) (sym c.holds_at.ensures ∙ c.if-not-holds_at.false)) ∙ c.loop-world.invariant

pub returns-then-not-holds_at-clause-bad : goal.returns-then-not-holds_at-clause-bad
returns-then-not-holds_at-clause-bad c = λ line why e. broken-told (at_worlds c.args.s.now (λ w. c.args.first + w) (cause_of c.args.asked) (holds_at c.args.s.now c.args.asked)) _ line _ why e (worlds-broken c.args.s.now (λ w. c.args.first + w) (cause_of c.args.asked) _ (holds_at c.args.s.now c.args.asked) c.loop-world.world (length c.args.s.now.successors) _ (omega arith) (sym c.holds_at.ensures ∙ c.if-not-holds_at.true) (omega arith) c.cause_of.ensures c.loop-world.invariant)

pub returns-clause-ok : goal.returns-clause-ok
returns-clause-ok c = worlds-hold c.args.s.now (λ w. c.args.first + w) (cause_of c.args.asked) (holds_at c.args.s.now c.args.asked) c.loop-world.world (length c.args.s.now.successors) (omega arith) c.loop-world.invariant
