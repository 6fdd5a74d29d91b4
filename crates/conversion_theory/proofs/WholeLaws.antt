-- The kinds of signed formulas, the term of a gamma turn, and the branch before any turn.
use Rattle.std.proofs.Common.{◌≡◌, ◌⊎◌, ℕ, List, [], ◌∷◌, ◌++◌, true, false, IsTrue, refl, sym, ◌∙◌, ap, subst, inl, inr}
use Rattle.std.proofs.lemmas.Bool.{false≢true}
use Rattle.calculus.specs.declared.sign.Sign.{Sign}
use Rattle.calculus.specs.declared.sign.Sign.TheVariants.{T, F}
use Rattle.calculus.specs.declared.kind.Shape.{Shape}
use Rattle.calculus.specs.declared.kind.Shape.TheVariants.{Alpha, Beta, Gamma, Delta}
use Rattle.calculus.specs.declared.kind.ModalPart.{ModalPart}
use Rattle.calculus.specs.declared.kind.ModalPart.TheVariants.{Plain, Nu, Pi}
use Rattle.calculus.specs.Syntax.{Terms, Formula, atom, neg, conj, disj, imp, all, ex, box, dia, Problem}
use Rattle.calculus.specs.Ground.{GroundTerm, term}
use Rattle.calculus.specs.Kinds.{Signed, signed, other, shape_of, components}
use Rattle.calculus.specs.Problems.{formula_fits}
use Rattle.calculus.specs.Instances.{Spot, root_spot, GammaUse, Turn}
use Rattle.calculus.specs.Derivations.{Step}
use Rattle.std.specs.List.{list_all}
use Rattle.calculus.specs.DerivationText.{step_is_written}
use Rattle.conversion_theory.proofs.PlaceLaws.{Takes, nothing_more, one_term, root-stood, gamma_use}
use Rattle.calculus.proofs.SpotLaws.{is_gamma}
use Rattle.conversion_theory.proofs.BranchLaws.{item, IsItem, IsBranch, Known}

-- ---- the kinds of signed formulas

pub data KindOf (s : Sign) (f : Formula) : Type 0 where
  literal_kind : (p : ℕ) (ts : Terms) → f ≡ atom p ts → KindOf s f
  only_kind : (a : Signed) → shape_of s f ≡ Alpha → components s f ≡ a ∷ [] → KindOf s f
  pair_kind : (a b : Signed) → shape_of s f ≡ Alpha → components s f ≡ a ∷ b ∷ [] → KindOf s f
  either_kind : (a b : Signed) → shape_of s f ≡ Beta → components s f ≡ a ∷ b ∷ [] → KindOf s f
  gamma_kind : (a : Signed) → shape_of s f ≡ Gamma → components s f ≡ a ∷ [] → KindOf s f
  delta_kind : (a : Signed) → shape_of s f ≡ Delta → components s f ≡ a ∷ [] → KindOf s f

pub kind_of : (s : Sign) (f : Formula) → KindOf s f
kind_of s (atom p ts) = literal_kind p ts refl
kind_of s (neg a) = only_kind (signed (other s) a) refl refl
kind_of T (conj a b) = pair_kind (signed T a) (signed T b) refl refl
kind_of F (conj a b) = either_kind (signed F a) (signed F b) refl refl
kind_of T (disj a b) = either_kind (signed T a) (signed T b) refl refl
kind_of F (disj a b) = pair_kind (signed F a) (signed F b) refl refl
kind_of T (imp a b) = either_kind (signed F a) (signed T b) refl refl
kind_of F (imp a b) = pair_kind (signed T a) (signed F b) refl refl
kind_of T (all a) = gamma_kind (signed T a) refl refl
kind_of F (all a) = delta_kind (signed F a) refl refl
kind_of T (ex a) = delta_kind (signed T a) refl refl
kind_of F (ex a) = gamma_kind (signed F a) refl refl
kind_of s (box a) = only_kind (signed s a) refl refl
kind_of s (dia a) = only_kind (signed s a) refl refl

pub modal-cases : (m : ModalPart) → (m ≡ Plain) ⊎ (m ≡ Plain → ⊥)
modal-cases Plain = inl refl
modal-cases Nu = inr (λ e. cc)
modal-cases Pi = inr (λ e. cc)

-- ---- the entry of a turn

-- the term of a gamma turn
pub gamma-term : (G : GammaUse → Type 0) (h : Shape) (d : Spot) (x : Turn) → Takes G h d x → h ≡ Gamma → (t : GroundTerm) × (x.values ≡ d.taken ++ term t ∷ []) × G (gamma_use t d.label)
gamma-term G h d x (nothing_more e) g = absurd (let q : false ≡ true = sym e ∙ ap is_gamma g in false≢true q)
gamma-term G h d x (one_term t e u) g = (t, refl, u)

-- ---- what is printed

-- the steps can be printed
abbrev pub AreWritten : Problem → List Step → Type 0
AreWritten P xs = list_all (step_is_written P.symbols) xs ≡ true

-- the branch of the whole formula, before any turn
pub first-branch : (P : Problem) → IsTrue (formula_fits P.setting.logic P.symbols 0 P.formula) → IsBranch P [] (item root_spot F P.formula ∷ [])
first-branch P fit = record {
  each = λ i h. elim h [ inl e ↦ subst (IsItem P (Known P [])) e (record { place = λ q. ([], root-stood P); env = tt; label = tt; fits = fit }) | inr q ↦ elim q [ ] ];
  saturated = record {
    literal = λ c d s p ts h m k. elim k [ ];
    only = λ c d s f a e q h m k. elim k [ ];
    left = λ c d s f a b e q h m k. elim k [ ];
    right = λ c d s f a b e q h m k. elim k [ ];
    either = λ c d s f a b e q h m k. elim k [ ];
    gamma = λ c d s f a u e q h m k. elim k [ ];
    delta = λ c d s f a e q h m k. elim k [ ];
  };
}
