use Rattle.std.proofs.Common.{sym, ◌∙◌, ap}
use Rattle.calculus.specs.Equality.{contains}
use Rattle.calculus.specs.Structures.{has_element, includes, numbers_from}
use Rattle.finite_model.specs.Conditions.{holds_at}
use Rattle.finite_model.proofs.asked.holds_at.Goals as goal

pub returns-in-Element : goal.returns-in-Element
returns-in-Element c = c.is_inhabited.ensures ∙ ap has_element c.domain_of.ensures ∙ sym (ap (λ a. holds_at c.args.s.now a c.args.world) c.in-Element.is)

pub returns-in-Successor : goal.returns-in-Successor
returns-in-Successor c = c.is_inhabited-in-Successor.ensures ∙ ap has_element c.successors_of.ensures ∙ sym (ap (λ a. holds_at c.args.s.now a c.args.world) c.in-Successor.is)

pub returns-in-Reflexive : goal.returns-in-Reflexive
returns-in-Reflexive c = c.has.ensures ∙ ap (λ l. contains l c.args.world) c.successors_of-in-Reflexive.ensures ∙ sym (ap (λ a. holds_at c.args.s.now a c.args.world) c.in-Reflexive.is)

pub returns-in-Transitive : goal.returns-in-Transitive
returns-in-Transitive c = c.is_transitive_at.ensures ∙ sym (ap (λ a. holds_at c.args.s.now a c.args.world) c.in-Transitive.is)

pub returns-in-Total : goal.returns-in-Total
returns-in-Total c = c.includes_below.ensures ∙ (λ i. includes (c.successors_of-in-Total.ensures i) (numbers_from 0 (c.worlds.ensures.count i))) ∙ sym (ap (λ a. holds_at c.args.s.now a c.args.world) c.in-Total.is)

pub returns-in-SameDomain : goal.returns-in-SameDomain
returns-in-SameDomain c = c.is_domain_of_root.ensures ∙ sym (ap (λ a. holds_at c.args.s.now a c.args.world) c.in-SameDomain.is)

pub returns-in-KeptDomain : goal.returns-in-KeptDomain
returns-in-KeptDomain c = c.is_domain_kept.ensures ∙ sym (ap (λ a. holds_at c.args.s.now a c.args.world) c.in-KeptDomain.is)
