use Rattle.std.proofs.Common.{sym, ◌∙◌, ap, arith}
use Rattle.std.specs.List.{list_all}
use Rattle.calculus.specs.Structures.{domain_of, includes}
use Rattle.finite_model.proofs.ArgLaws.{all-on, all-false, all-end}
use Rattle.finite_model.proofs.asked.is_domain_kept.Goals as goal

pub loop-other-init : goal.loop-other-init
loop-other-init c = λ i. list_all (λ v. includes (domain_of c.args.s.now v) (c.domain_of-domain.ensures i)) (c.successors_of-reached.ensures i)

pub loop-other-preserved : goal.loop-other-preserved
loop-other-preserved c = sym (all-on (λ v. includes (domain_of c.args.s.now v) c.domain_of-domain.result.now) c.successors_of-reached.result.now c.loop-other.other-index (omega arith) (ap (λ d. includes d c.domain_of-domain.result.now) (sym c.domain_of.ensures) ∙ sym c.includes.ensures ∙ c.if-not-includes.false)) ∙ c.loop-other.invariant

pub returns-then-not-includes : goal.returns-then-not-includes
returns-then-not-includes c = sym (all-false (λ v. includes (domain_of c.args.s.now v) c.domain_of-domain.result.now) c.successors_of-reached.result.now c.loop-other.other-index (omega arith) (ap (λ d. includes d c.domain_of-domain.result.now) (sym c.domain_of.ensures) ∙ sym c.includes.ensures ∙ c.if-not-includes.true)) ∙ c.loop-other.invariant

pub returns : goal.returns
returns c = sym (all-end (λ v. includes (domain_of c.args.s.now v) c.domain_of-domain.result.now) c.successors_of-reached.result.now c.loop-other.other-index (omega arith)) ∙ c.loop-other.invariant
