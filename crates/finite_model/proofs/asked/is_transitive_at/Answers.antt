use Rattle.std.proofs.Common.{sym, ◌∙◌, ap, arith}
use Rattle.std.specs.List.{list_all}
use Rattle.calculus.specs.Structures.{includes, successors_of}
use Rattle.finite_model.proofs.ArgLaws.{all-on, all-false, all-end}
use Rattle.finite_model.proofs.asked.is_transitive_at.Goals as goal

pub loop-other-init : goal.loop-other-init
loop-other-init c = ap (λ r. list_all (λ v. includes r (successors_of c.args.s.now v)) r) c.successors_of-reached.ensures

pub loop-other-preserved : goal.loop-other-preserved
loop-other-preserved c = sym (all-on (λ v. includes c.successors_of-reached.result.now (successors_of c.args.s.now v)) c.successors_of-reached.result.now c.loop-other.other-index (omega arith) (ap (includes c.successors_of-reached.result.now) (sym c.successors_of.ensures) ∙ sym c.includes.ensures ∙ c.if-not-includes.false)) ∙ c.loop-other.invariant

pub returns-then-not-includes : goal.returns-then-not-includes
returns-then-not-includes c = sym (all-false (λ v. includes c.successors_of-reached.result.now (successors_of c.args.s.now v)) c.successors_of-reached.result.now c.loop-other.other-index (omega arith) (ap (includes c.successors_of-reached.result.now) (sym c.successors_of.ensures) ∙ sym c.includes.ensures ∙ c.if-not-includes.true)) ∙ c.loop-other.invariant

pub returns : goal.returns
returns c = sym (all-end (λ v. includes c.successors_of-reached.result.now (successors_of c.args.s.now v)) c.successors_of-reached.result.now c.loop-other.other-index (omega arith)) ∙ c.loop-other.invariant
