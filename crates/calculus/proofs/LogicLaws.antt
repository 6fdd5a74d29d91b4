-- The words of a logic for labels and steps fit each other: what keeps the label in front, and which lengths lie between the least and
-- the greatest.
use Rattle.std.proofs.Common.{◌≡◌, ℕ, ◌<◌, ◌≤◌, List, [], ◌∷◌, ◌++◌, Bool, true, false, ◌==◌, nat_le, Option, Some, None, refl, sym, ◌∙◌, ap, arith}
use Rattle.std.proofs.lemmas.Bool.{false≢true}
use Rattle.std.proofs.lemmas.Bool.Decides.{nat_tests}
use Rattle.calculus.specs.declared.setting.Logic.{Logic}
use Rattle.calculus.specs.declared.setting.Logic.TheVariants.{Classical, Intuitionistic, D, T as LogicT, S4, S5}
use Rattle.calculus.specs.Labels.{keeps_prefix, nu_label, pi_label, is_step_length, least_length, greatest_length}

pub too-short : (l : Logic) (n : ℕ) → n < least_length l → is_step_length l n ≡ false
too-short Classical n h = absurd (omega (arith, h))
too-short Intuitionistic n h = absurd (omega (arith, h))
too-short D n h = grind (arith, nat_tests)
too-short LogicT n h = absurd (omega (arith, h))
too-short S4 n h = absurd (omega (arith, h))
too-short S5 n h = absurd (omega (arith, h))

abbrev pub is_at_most : ℕ → Option ℕ → Bool
is_at_most n None = true
is_at_most n (Some most) = nat_le n most

pub long-enough : (l : Logic) (n : ℕ) → least_length l ≤ n → is_step_length l n ≡ is_at_most n (greatest_length l)
long-enough Classical n h = grind (arith, nat_tests)
long-enough Intuitionistic n h = refl
long-enough D n h = grind (arith, nat_tests)
long-enough LogicT n h = refl
long-enough S4 n h = refl
long-enough S5 n h = refl

pub most-length : (l : Logic) (n most : ℕ) → least_length l ≤ n → Some most ≡ greatest_length l → nat_le n most ≡ is_step_length l n
most-length l n most h e = ap (is_at_most n) e ∙ sym (long-enough l n h)

pub any-length : (l : Logic) (n : ℕ) → least_length l ≤ n → None ≡ greatest_length l → true ≡ is_step_length l n
any-length l n h e = ap (is_at_most n) e ∙ sym (long-enough l n h)

pub ruleset lengths = (too-short, most-length, any-length)

pub nu-behind : {C : Type 0} (l : Logic) (w s : List C) → keeps_prefix l ≡ true → nu_label l w s ≡ w ++ s
nu-behind Classical w s h = refl
nu-behind Intuitionistic w s h = refl
nu-behind D w s h = refl
nu-behind LogicT w s h = refl
nu-behind S4 w s h = refl
nu-behind S5 w s h = absurd (false≢true h)

pub nu-anew : {C : Type 0} (l : Logic) (w s : List C) → keeps_prefix l ≡ false → nu_label l w s ≡ s
nu-anew Classical w s h = absurd (false≢true (sym h))
nu-anew Intuitionistic w s h = absurd (false≢true (sym h))
nu-anew D w s h = absurd (false≢true (sym h))
nu-anew LogicT w s h = absurd (false≢true (sym h))
nu-anew S4 w s h = absurd (false≢true (sym h))
nu-anew S5 w s h = refl

pub pi-behind : {C : Type 0} (l : Logic) (w : List C) (c : C) → keeps_prefix l ≡ true → pi_label l w c ≡ w ++ c ∷ []
pi-behind Classical w c h = refl
pi-behind Intuitionistic w c h = refl
pi-behind D w c h = refl
pi-behind LogicT w c h = refl
pi-behind S4 w c h = refl
pi-behind S5 w c h = absurd (false≢true h)

pub pi-anew : {C : Type 0} (l : Logic) (w : List C) (c : C) → keeps_prefix l ≡ false → pi_label l w c ≡ c ∷ []
pi-anew Classical w c h = absurd (false≢true (sym h))
pi-anew Intuitionistic w c h = absurd (false≢true (sym h))
pi-anew D w c h = absurd (false≢true (sym h))
pi-anew LogicT w c h = absurd (false≢true (sym h))
pi-anew S4 w c h = absurd (false≢true (sym h))
pi-anew S5 w c h = refl

pub ruleset labels = (nu-behind, nu-anew, pi-behind, pi-anew)
