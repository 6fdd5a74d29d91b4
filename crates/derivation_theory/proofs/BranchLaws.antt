-- The two formulas that an entry and its place have are of one kind, and their components say the same.
use Rattle.std.proofs.Common.{◌≡◌, ℕ, List, [], ◌∷◌, refl}
use Rattle.calculus.specs.declared.sign.Sign.{Sign}
use Rattle.calculus.specs.declared.sign.Sign.TheVariants.{T, F}
use Rattle.calculus.specs.declared.setting.Logic.{Logic}
use Rattle.calculus.specs.declared.setting.Logic.TheVariants.{Intuitionistic}
use Rattle.calculus.specs.declared.kind.Shape.TheVariants.{Alpha, Beta, Gamma, Delta, Literal}
use Rattle.calculus.specs.Syntax.{Terms, Formula, atom}
use Rattle.calculus.specs.Ground.{GroundTerm}
use Rattle.calculus.specs.Kinds.{signed, other, shape_of, modal_of, components}
use Rattle.derivation_theory.proofs.Meanings.{Meaning, Says, says_atom, says_neg, says_conj, says_disj, says_imp, says_all, says_ex, says_box, says_dia}

-- the logic's modal part is that of the connective
pub same-modal : (l : Logic) (s : Sign) (r : Meaning) {d : ℕ} {env : List GroundTerm} {f g : Formula} → Says r d env f g → modal_of l s f ≡ modal_of l s g
same-modal Intuitionistic s r (says_box h) = refl
same-modal Intuitionistic s r _ = refl
same-modal _ s r (says_box h) = refl
same-modal _ s r _ = refl

pub data Kind (r : Meaning) (env : List GroundTerm) (s : Sign) (f g : Formula) : Type 0 where
  literal_kind : (p : ℕ) (us : Terms) → g ≡ atom p us → shape_of s f ≡ Literal → shape_of s g ≡ Literal → components s g ≡ signed s g ∷ [] → Kind r env s f g
  only_kind : (t : Sign) (a b : Formula) → shape_of s f ≡ Alpha → shape_of s g ≡ Alpha → components s f ≡ signed t a ∷ [] → components s g ≡ signed t b ∷ [] → Says r 0 env a b → Kind r env s f g
  alpha_kind : (t u : Sign) (a a2 b b2 : Formula) → shape_of s f ≡ Alpha → shape_of s g ≡ Alpha → components s f ≡ signed t a ∷ signed u a2 ∷ [] → components s g ≡ signed t b ∷ signed u b2 ∷ [] → Says r 0 env a b → Says r 0 env a2 b2 → Kind r env s f g
  beta_kind : (t u : Sign) (a a2 b b2 : Formula) → shape_of s f ≡ Beta → shape_of s g ≡ Beta → components s f ≡ signed t a ∷ signed u a2 ∷ [] → components s g ≡ signed t b ∷ signed u b2 ∷ [] → Says r 0 env a b → Says r 0 env a2 b2 → Kind r env s f g
  gamma_kind : (a b : Formula) → shape_of s f ≡ Gamma → shape_of s g ≡ Gamma → components s f ≡ signed s a ∷ [] → components s g ≡ signed s b ∷ [] → Says r 1 env a b → Kind r env s f g
  delta_kind : (a b : Formula) → shape_of s f ≡ Delta → shape_of s g ≡ Delta → components s f ≡ signed s a ∷ [] → components s g ≡ signed s b ∷ [] → Says r 1 env a b → Kind r env s f g

pub kind_of : (r : Meaning) {env : List GroundTerm} (s : Sign) {f g : Formula} → Says r 0 env f g → Kind r env s f g
kind_of r s (says_atom h) = literal_kind _ _ refl refl refl refl
kind_of r s (says_neg {a = a} {b = b} h) = only_kind (other s) a b refl refl refl refl h
kind_of r T (says_conj {a = a} {b = b} {a2 = a2} {b2 = b2} h k) = alpha_kind T T a a2 b b2 refl refl refl refl h k
kind_of r F (says_conj {a = a} {b = b} {a2 = a2} {b2 = b2} h k) = beta_kind F F a a2 b b2 refl refl refl refl h k
kind_of r T (says_disj {a = a} {b = b} {a2 = a2} {b2 = b2} h k) = beta_kind T T a a2 b b2 refl refl refl refl h k
kind_of r F (says_disj {a = a} {b = b} {a2 = a2} {b2 = b2} h k) = alpha_kind F F a a2 b b2 refl refl refl refl h k
kind_of r T (says_imp {a = a} {b = b} {a2 = a2} {b2 = b2} h k) = beta_kind F T a a2 b b2 refl refl refl refl h k
kind_of r F (says_imp {a = a} {b = b} {a2 = a2} {b2 = b2} h k) = alpha_kind T F a a2 b b2 refl refl refl refl h k
kind_of r T (says_all {a = a} {b = b} h) = gamma_kind a b refl refl refl refl h
kind_of r F (says_all {a = a} {b = b} h) = delta_kind a b refl refl refl refl h
kind_of r T (says_ex {a = a} {b = b} h) = delta_kind a b refl refl refl refl h
kind_of r F (says_ex {a = a} {b = b} h) = gamma_kind a b refl refl refl refl h
kind_of r s (says_box {a = a} {b = b} h) = only_kind s a b refl refl refl refl h
kind_of r s (says_dia {a = a} {b = b} h) = only_kind s a b refl refl refl refl h
