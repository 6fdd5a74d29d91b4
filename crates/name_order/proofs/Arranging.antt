-- From the turns of a tableau to its agenda.
use Rattle.std.proofs.Common.{◌≡◌, ℕ, Bool, true, ◌&&◌, ◌==◌, IsTrue, refl, subst, arith}
use Rattle.std.proofs.lemmas.Bool.{and_parts, eqb-true}
use Rattle.calculus.specs.Equality.{values_eq}
use Rattle.calculus.specs.Ground.{values_tree}
use Rattle.calculus.specs.Lists.{values_tree-inj}
use Rattle.calculus.proofs.EqualityLaws.{Tells, values_eq-tells}
use Rattle.name_order.specs.Keeping.{turn_eq}

same-number : (p q : ℕ) → (p == q) ≡ true → p ≡ q
same-number p q e = eqb-true p q e

pub turn_eq-tells : Tells turn_eq
turn_eq-tells x y = (
  λ e. (let parts = and_parts (x.position == y.position) (values_eq (values_tree x.values) (values_tree y.values)) e in let n = same-number x.position y.position parts.0 in let v = values_tree-inj x.values y.values ((values_eq-tells (values_tree x.values) (values_tree y.values)).0 parts.1) in λ i. record { position = n i; values = v i }),
  λ e. subst (λ z. IsTrue (turn_eq x z)) e (both (x.position == x.position) (values_eq (values_tree x.values) (values_tree x.values)) (grind arith) ((values_eq-tells (values_tree x.values) (values_tree x.values)).1 refl)),
)
  where
    both : (a b : Bool) → a ≡ true → b ≡ true → (a && b) ≡ true
    both a b p q = rw (p, q) refl
