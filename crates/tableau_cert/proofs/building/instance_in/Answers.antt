use Rattle.std.proofs.Common.{ap, sym, ◌∙◌}
use Rattle.tableau_cert.specs.Building.{instance_in}
use Rattle.tableau_cert.specs.Resolving.{the_outcome}
use Rattle.tableau_cert.proofs.building.instance_in.Goals as goal

pub returns-in-NoInstance : goal.returns-in-NoInstance
returns-in-NoInstance c ls h = c.nothing.ensures ls h ∙ sym (ap (λ o. instance_in (the_outcome ls o)) c.in-NoInstance.is)

pub returns-in-NotAllowed : goal.returns-in-NotAllowed
returns-in-NotAllowed c ls h = c.nothing-in-NotAllowed.ensures ls h ∙ sym (ap (λ o. instance_in (the_outcome ls o)) c.in-NotAllowed.is)

pub returns-in-Instance : goal.returns-in-Instance
returns-in-Instance c ls h = sym (ap (λ o. instance_in (the_outcome ls o)) c.in-Instance.is)
