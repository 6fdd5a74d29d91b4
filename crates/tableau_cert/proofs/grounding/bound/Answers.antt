use Rattle.std.proofs.Common.{◌-◌, arith, length, refl}
use Rattle.formula_core.specs.GroundLists.{IsNormalTerm}
use Rattle.tableau_core.proofs.Numbered.KnownLaws.{all-item}
use Rattle.tableau_cert.proofs.SteppingLaws.{bound-last, unbound-last}
use Rattle.tableau_cert.proofs.grounding.bound.Goals as goal

pub returns-then-place-bindings-clause-term : goal.returns-then-place-bindings-clause-term
returns-then-place-bindings-clause-term c ls = unbound-last ls c.args.bindings.now c.args.k (omega arith)

pub returns-clause-term : goal.returns-clause-term
returns-clause-term c ls = bound-last ls c.args.bindings.now c.args.k _ _ (omega arith) refl

pub returns-clause-normal : goal.returns-clause-normal
returns-clause-normal c ls n = all-item (IsNormalTerm ls) c.args.bindings.now (length c.args.bindings.now - 1 - c.args.k) _ _ n (omega arith) refl
