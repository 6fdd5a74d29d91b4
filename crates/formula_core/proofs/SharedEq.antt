-- The `==` of ground terms and characters holds between equal ones alone.
use Rattle.std.proofs.Common.{◌≡◌, true, rules, subst}
use Rattle.std.specs.Bool.{Decides}
use Rattle.formula_core.specs.declared.ground.GroundTerm.{GroundTerm}
use Rattle.formula_core.specs.declared.ground.GroundMark.{GroundMark}
use Rattle.formula_core.specs.contracts.ground.GroundTermPartialEq.TheImpl as term
use Rattle.formula_core.specs.contracts.ground.GroundMarkPartialEq.TheImpl as mark

term-exact : (a b : GroundTerm) → term.eq-value.it a b ≡ true → a ≡ b
term-exact a b h = search rules

term-self : (a : GroundTerm) → term.eq-value.it a a ≡ true
term-self a = search rules

pub term-decides : (a b : GroundTerm) → Decides (term.eq-value.it a b) (a ≡ b)
term-decides a b = (term-exact a b, λ e. subst (λ x. term.eq-value.it a x ≡ true) e (term-self a))

mark-exact : (a b : GroundMark) → mark.eq-value.it a b ≡ true → a ≡ b
mark-exact a b h = search rules

mark-self : (a : GroundMark) → mark.eq-value.it a a ≡ true
mark-self a = search rules

pub mark-decides : (a b : GroundMark) → Decides (mark.eq-value.it a b) (a ≡ b)
mark-decides a b = (mark-exact a b, λ e. subst (λ x. mark.eq-value.it a x ≡ true) e (mark-self a))
