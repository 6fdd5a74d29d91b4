-- Laws of numbers and of their comparison.
use Rattle.std.proofs.Common.{IsTrue, eq-eqb, arith, false, inl, inr, nat_lt, refl, rules, subst, suc, sym, true, zero, ℕ, ◌<◌, ◌==◌, ◌^◌, ◌↔◌, ◌∙◌, ◌≡◌, ◌≢◌, ◌≤◌, ◌⊎◌}
use Rattle.std.proofs.Math.Nat.{pow-suc}
use Rattle.std.proofs.lemmas.Bool.{cases_Bool, eqb-true}
use Rattle.std.specs.Cmp.{nat_cmp_is}
use Rattle.std.specs.Ordering.{nat_cmp}
use Rattle.std.specs.declared.cmp.Ordering.TheVariants.{Equal, Greater, Less}

pub order : (m n : ℕ) → (m < n) ⊎ (n ≤ m)
order m n = grind arith

pub eqb-iff : (a b : ℕ) → IsTrue (a == b) ↔ (a ≡ b)
eqb-iff a b = (eqb-true a b, eq-eqb a b)

pub cmp-less : (k d : ℕ) → k < d → nat_cmp k d ≡ Less
cmp-less k d h = sym (nat_cmp_is k d Less h)

pub less-test : (a b : ℕ) → a < b → nat_lt a b ≡ true
less-test a b l = search rules

pub cmp-equal : (k d : ℕ) → k ≡ d → nat_cmp k d ≡ Equal
cmp-equal k d h = sym (nat_cmp_is k d Equal h)

pub cmp-greater : (k d : ℕ) → d < k → nat_cmp k d ≡ Greater
cmp-greater k d h = sym (nat_cmp_is k d Greater h)

pub other-number : (a x : ℕ) → ¬ (a ≡ x) → (a == x) ≡ false
other-number a x h = elim (cases_Bool (a == x)) [
  | inl e ↦ absurd (h (eqb-true a x e))
  | inr e ↦ e
]

pub one-power : (n : ℕ) → 1 ^ n ≡ 1
one-power zero = refl
one-power (suc n) = pow-suc 1 n ∙ (let h = one-power n in omega (arith, h))
