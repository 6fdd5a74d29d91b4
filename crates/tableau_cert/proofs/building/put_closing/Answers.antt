use Rattle.std.proofs.Common.{ap, sym, ◌∙◌}
use Rattle.tableau_cert.specs.Building.{put_closer, the_stack}
use Rattle.tableau_cert.specs.Resolving.{the_closer}
use Rattle.tableau_cert.specs.declared.resolving.Closer.TheVariants.{Extension}
use Rattle.tableau_cert.proofs.BuildingLaws.{stack-pushed}
use Rattle.tableau_cert.proofs.building.put_closing.Goals as goal

pub returns-in_ok-push-in-Reduction : goal.returns-in_ok-push-in-Reduction
returns-in_ok-push-in-Reduction c ls = stack-pushed ls c.args.stack.now.items c.push.new.self.items _ c.in_ok-push-in-Reduction.ensures.items ∙ sym (ap (λ x. put_closer (the_closer ls x) (the_stack ls c.args.stack.now.items)) c.in-Reduction.is)

pub returns-in-NoInstance : goal.returns-in-NoInstance
returns-in-NoInstance c ls = sym (ap (λ x. put_closer (the_closer ls x) (the_stack ls c.args.stack.now.items)) (c.in-Extension.is ∙ ap (Extension c.in-Extension.place) c.in-NoInstance.is))

pub returns-in-NotAllowed : goal.returns-in-NotAllowed
returns-in-NotAllowed c ls = sym (ap (λ x. put_closer (the_closer ls x) (the_stack ls c.args.stack.now.items)) (c.in-Extension.is ∙ ap (Extension c.in-Extension.place) c.in-NotAllowed.is))

pub returns-in_ok-extension-in-Instance : goal.returns-in_ok-extension-in-Instance
returns-in_ok-extension-in-Instance c ls = c.in_ok-extension-in-Instance.ensures ls ∙ sym (ap (λ x. put_closer (the_closer ls x) (the_stack ls c.args.stack.now.items)) (c.in-Extension.is ∙ ap (Extension c.in-Extension.place) c.in-Instance.is))
