-- What expands a signed formula, shape by shape.
use Rattle.std.proofs.Common.{◌≡◌, ◌⊎◌, ℕ, suc, List, [], ◌∷◌, ◌++◌, Bool, true, false, IsTrue, refl, sym, ◌∙◌, ap, subst, inl, inr}
use Rattle.std.proofs.lemmas.Bool.{false≢true, and_parts}
use Rattle.conversion_theory.proofs.PlaceLaws.{only-is, two-are, two≢one}
use Rattle.calculus.specs.declared.sign.Sign.{Sign}
use Rattle.calculus.specs.declared.sign.Sign.TheVariants.{T, F}
use Rattle.calculus.specs.declared.setting.Logic.{Logic}
use Rattle.calculus.specs.declared.kind.Shape.{Shape}
use Rattle.calculus.specs.declared.kind.Shape.TheVariants.{Alpha, Beta, Gamma, Delta, Literal}
use Rattle.calculus.specs.declared.kind.ModalPart.{ModalPart}
use Rattle.calculus.specs.declared.kind.ModalPart.TheVariants.{Plain, Nu, Pi}
use Rattle.calculus.specs.Syntax.{Symbol, Terms, Formula, atom, neg, conj, disj, imp, all, ex, box, dia}
use Rattle.calculus.specs.Ground.{GroundTerm, Value, g_eigen, term, values_tree, GroundLiteral}
use Rattle.calculus.specs.Kinds.{Signed, shape_of, components}
use Rattle.calculus.specs.Positions.{size}
use Rattle.calculus.specs.Problems.{formula_fits}
use Rattle.calculus.specs.Instances.{Spot, down_by, spot_inside, Turn}
use Rattle.calculus.specs.Calculus.{has_step}
use Rattle.conversion_theory.proofs.HitLaws.{literal_at}
use Rattle.calculus.proofs.CasesLaws.{one≢two}

abbrev pub is_quantified : Shape → Bool
is_quantified Gamma = true
is_quantified Delta = true
is_quantified _ = false

-- the results of a turn on a signed formula, whose modal part leads to d
pub record IsExpanded (l : Logic) (d : Spot) (s : Sign) (f : Formula) (x : Turn) (Has : Spot → Sign → Formula → Type 0) (Holds : GroundLiteral → Type 0) : Type 0 where
  pub literal : (p : ℕ) (ts : Terms) → f ≡ atom p ts → Holds (literal_at d s p ts)
  pub only : (a : Signed) → shape_of s f ≡ Alpha → components s f ≡ a ∷ [] → Has (down_by 1 d) a.sign a.formula
  pub left : (a b : Signed) → shape_of s f ≡ Alpha → components s f ≡ a ∷ b ∷ [] → Has (down_by 1 d) a.sign a.formula
  pub right : (a b : Signed) → shape_of s f ≡ Alpha → components s f ≡ a ∷ b ∷ [] → Has (down_by (suc (size a.formula)) d) b.sign b.formula
  pub either : (a b : Signed) → shape_of s f ≡ Beta → components s f ≡ a ∷ b ∷ [] → Has (down_by 1 d) a.sign a.formula ⊎ Has (down_by (suc (size a.formula)) d) b.sign b.formula
  pub gamma : (a : Signed) (t : GroundTerm) → shape_of s f ≡ Gamma → components s f ≡ a ∷ [] → x.values ≡ d.taken ++ term t ∷ [] → Has (spot_inside t (d.taken ++ term t ∷ []) d) a.sign a.formula
  pub delta : (a : Signed) → shape_of s f ≡ Delta → components s f ≡ a ∷ [] → Has (spot_inside (g_eigen d.position (values_tree d.taken)) d.taken d) a.sign a.formula

pub values_last : (xs : List Value) (t u : GroundTerm) → xs ++ term t ∷ [] ≡ xs ++ term u ∷ [] → t ≡ u
values_last [] t u e = cc
values_last (x ∷ xs) t u e = values_last xs t u (let tail : xs ++ term t ∷ [] ≡ xs ++ term u ∷ [] = cc in tail)

module _ (l : Logic) (d : Spot) (s : Sign) (f : Formula) (x : Turn) (Has : Spot → Sign → Formula → Type 0) (Holds : GroundLiteral → Type 0) where
  clash : (h k : Shape) {A : Type 0} → shape_of s f ≡ h → shape_of s f ≡ k → (h ≡ k → ⊥) → A
  clash h k e q n = absurd (n (sym e ∙ q))

  atom-shape : (p : ℕ) (ts : Terms) → f ≡ atom p ts → shape_of s f ≡ Literal
  atom-shape p ts e = ap (shape_of s) e

  pub expanded-literal : shape_of s f ≡ Literal → ((p : ℕ) (ts : Terms) → f ≡ atom p ts → Holds (literal_at d s p ts)) → IsExpanded l d s f x Has Holds
  expanded-literal e h = record {
    literal = h;
    only = λ a q g. clash Literal Alpha e q (λ k. cc);
    left = λ a b q g. clash Literal Alpha e q (λ k. cc);
    right = λ a b q g. clash Literal Alpha e q (λ k. cc);
    either = λ a b q g. clash Literal Beta e q (λ k. cc);
    gamma = λ a t q g v. clash Literal Gamma e q (λ k. cc);
    delta = λ a q g. clash Literal Delta e q (λ k. cc);
  }

  pub expanded-only : (a : Signed) → shape_of s f ≡ Alpha → components s f ≡ a ∷ [] → Has (down_by 1 d) a.sign a.formula → IsExpanded l d s f x Has Holds
  expanded-only a e g h = record {
    literal = λ p ts q. clash Alpha Literal e (atom-shape p ts q) (λ k. cc);
    only = λ b q k. subst (λ (z : Signed). Has (down_by 1 d) z.sign z.formula) (only-is (sym g ∙ k)) h;
    left = λ b c q k. absurd (one≢two (sym g ∙ k));
    right = λ b c q k. absurd (one≢two (sym g ∙ k));
    either = λ b c q k. clash Alpha Beta e q (λ k. cc);
    gamma = λ b t q k v. clash Alpha Gamma e q (λ k. cc);
    delta = λ b q k. clash Alpha Delta e q (λ k. cc);
  }

  pub expanded-pair : (a b : Signed) → shape_of s f ≡ Alpha → components s f ≡ a ∷ b ∷ [] → Has (down_by 1 d) a.sign a.formula → Has (down_by (suc (size a.formula)) d) b.sign b.formula → IsExpanded l d s f x Has Holds
  expanded-pair a b e g h j = record {
    literal = λ p ts q. clash Alpha Literal e (atom-shape p ts q) (λ k. cc);
    only = λ c q k. absurd (two≢one (sym g ∙ k));
    left = λ c y q k. subst (λ (z : Signed). Has (down_by 1 d) z.sign z.formula) (two-are (sym g ∙ k)).0 h;
    right = λ c y q k. let r = two-are (sym g ∙ k) in subst (λ (z : Signed). Has (down_by (suc (size z.formula)) d) y.sign y.formula) r.0 (subst (λ (z : Signed). Has (down_by (suc (size a.formula)) d) z.sign z.formula) r.1 j);
    either = λ c y q k. clash Alpha Beta e q (λ k. cc);
    gamma = λ c t q k v. clash Alpha Gamma e q (λ k. cc);
    delta = λ c q k. clash Alpha Delta e q (λ k. cc);
  }

  pub expanded-either : (a b : Signed) → shape_of s f ≡ Beta → components s f ≡ a ∷ b ∷ [] → Has (down_by 1 d) a.sign a.formula ⊎ Has (down_by (suc (size a.formula)) d) b.sign b.formula → IsExpanded l d s f x Has Holds
  expanded-either a b e g h = record {
    literal = λ p ts q. clash Beta Literal e (atom-shape p ts q) (λ k. cc);
    only = λ c q k. clash Beta Alpha e q (λ k. cc);
    left = λ c y q k. clash Beta Alpha e q (λ k. cc);
    right = λ c y q k. clash Beta Alpha e q (λ k. cc);
    either = λ c y q k. let r = two-are (sym g ∙ k) in elim h [
      | inl i ↦ inl (subst (λ (z : Signed). Has (down_by 1 d) z.sign z.formula) r.0 i)
      | inr i ↦ inr (subst (λ (z : Signed). Has (down_by (suc (size z.formula)) d) y.sign y.formula) r.0 (subst (λ (z : Signed). Has (down_by (suc (size a.formula)) d) z.sign z.formula) r.1 i))
    ];
    gamma = λ c t q k v. clash Beta Gamma e q (λ k. cc);
    delta = λ c q k. clash Beta Delta e q (λ k. cc);
  }

  pub expanded-gamma : (a : Signed) (u : GroundTerm) → shape_of s f ≡ Gamma → components s f ≡ a ∷ [] → x.values ≡ d.taken ++ term u ∷ [] → Has (spot_inside u (d.taken ++ term u ∷ []) d) a.sign a.formula → IsExpanded l d s f x Has Holds
  expanded-gamma a u e g v h = record {
    literal = λ p ts q. clash Gamma Literal e (atom-shape p ts q) (λ k. cc);
    only = λ c q k. clash Gamma Alpha e q (λ k. cc);
    left = λ c y q k. clash Gamma Alpha e q (λ k. cc);
    right = λ c y q k. clash Gamma Alpha e q (λ k. cc);
    either = λ c y q k. clash Gamma Beta e q (λ k. cc);
    gamma = λ c t q k z. let same = values_last d.taken u t (sym v ∙ z) in subst (λ r. Has (spot_inside r (d.taken ++ term r ∷ []) d) c.sign c.formula) same (subst (λ (y : Signed). Has (spot_inside u (d.taken ++ term u ∷ []) d) y.sign y.formula) (only-is (sym g ∙ k)) h);
    delta = λ c q k. clash Gamma Delta e q (λ k. cc);
  }

  pub expanded-delta : (a : Signed) → shape_of s f ≡ Delta → components s f ≡ a ∷ [] → Has (spot_inside (g_eigen d.position (values_tree d.taken)) d.taken d) a.sign a.formula → IsExpanded l d s f x Has Holds
  expanded-delta a e g h = record {
    literal = λ p ts q. clash Delta Literal e (atom-shape p ts q) (λ k. cc);
    only = λ c q k. clash Delta Alpha e q (λ k. cc);
    left = λ c y q k. clash Delta Alpha e q (λ k. cc);
    right = λ c y q k. clash Delta Alpha e q (λ k. cc);
    either = λ c y q k. clash Delta Beta e q (λ k. cc);
    gamma = λ c t q k z. clash Delta Gamma e q (λ k. cc);
    delta = λ c q k. subst (λ (y : Signed). Has (spot_inside (g_eigen d.position (values_tree d.taken)) d.taken d) y.sign y.formula) (only-is (sym g ∙ k)) h;
  }

-- ---- components fit

pub fits-only : (l : Logic) (symbols : List Symbol) (n : ℕ) (s : Sign) (f : Formula) (a : Signed) → shape_of s f ≡ Alpha → components s f ≡ a ∷ [] → IsTrue (formula_fits l symbols n f) → IsTrue (formula_fits l symbols n a.formula)
fits-only l symbols n s (atom p ts) a e g h = absurd cc
fits-only l symbols n s (neg b) a e g h = subst (λ (z : Signed). IsTrue (formula_fits l symbols n z.formula)) (only-is g) h
fits-only l symbols n s (conj b c) a e g h = absurd (two≢one g)
fits-only l symbols n s (disj b c) a e g h = absurd (two≢one g)
fits-only l symbols n s (imp b c) a e g h = absurd (two≢one g)
fits-only l symbols n T (all b) a e g h = absurd cc
fits-only l symbols n F (all b) a e g h = absurd cc
fits-only l symbols n T (ex b) a e g h = absurd cc
fits-only l symbols n F (ex b) a e g h = absurd cc
fits-only l symbols n s (box b) a e g h = subst (λ (z : Signed). IsTrue (formula_fits l symbols n z.formula)) (only-is g) (and_parts _ (formula_fits l symbols n b) h).1
fits-only l symbols n s (dia b) a e g h = subst (λ (z : Signed). IsTrue (formula_fits l symbols n z.formula)) (only-is g) (and_parts _ (formula_fits l symbols n b) h).1

pub fits-two : (l : Logic) (symbols : List Symbol) (n : ℕ) (s : Sign) (f : Formula) (a b : Signed) → components s f ≡ a ∷ b ∷ [] → IsTrue (formula_fits l symbols n f) → IsTrue (formula_fits l symbols n a.formula) × IsTrue (formula_fits l symbols n b.formula)
fits-two l symbols n s (atom p ts) a b g h = absurd (one≢two g)
fits-two l symbols n s (neg c) a b g h = absurd (one≢two g)
fits-two l symbols n s (conj c e) a b g h = let r = two-are g in let p = and_parts (formula_fits l symbols n c) (formula_fits l symbols n e) h in (subst (λ (z : Signed). IsTrue (formula_fits l symbols n z.formula)) r.0 p.0, subst (λ (z : Signed). IsTrue (formula_fits l symbols n z.formula)) r.1 p.1)
fits-two l symbols n s (disj c e) a b g h = let r = two-are g in let p = and_parts (formula_fits l symbols n c) (formula_fits l symbols n e) h in (subst (λ (z : Signed). IsTrue (formula_fits l symbols n z.formula)) r.0 p.0, subst (λ (z : Signed). IsTrue (formula_fits l symbols n z.formula)) r.1 p.1)
fits-two l symbols n s (imp c e) a b g h = let r = two-are g in let p = and_parts (formula_fits l symbols n c) (formula_fits l symbols n e) h in (subst (λ (z : Signed). IsTrue (formula_fits l symbols n z.formula)) r.0 p.0, subst (λ (z : Signed). IsTrue (formula_fits l symbols n z.formula)) r.1 p.1)
fits-two l symbols n s (all c) a b g h = absurd (one≢two g)
fits-two l symbols n s (ex c) a b g h = absurd (one≢two g)
fits-two l symbols n s (box c) a b g h = absurd (one≢two g)
fits-two l symbols n s (dia c) a b g h = absurd (one≢two g)

pub fits-inside : (l : Logic) (symbols : List Symbol) (n : ℕ) (s : Sign) (f : Formula) (a : Signed) → is_quantified (shape_of s f) ≡ true → components s f ≡ a ∷ [] → IsTrue (formula_fits l symbols n f) → IsTrue (formula_fits l symbols (suc n) a.formula)
fits-inside l symbols n s (atom p ts) a e g h = absurd (false≢true e)
fits-inside l symbols n s (neg b) a e g h = absurd (false≢true e)
fits-inside l symbols n s (conj b c) a e g h = absurd (two≢one g)
fits-inside l symbols n s (disj b c) a e g h = absurd (two≢one g)
fits-inside l symbols n s (imp b c) a e g h = absurd (two≢one g)
fits-inside l symbols n s (all b) a e g h = subst (λ (z : Signed). IsTrue (formula_fits l symbols (suc n) z.formula)) (only-is g) h
fits-inside l symbols n s (ex b) a e g h = subst (λ (z : Signed). IsTrue (formula_fits l symbols (suc n) z.formula)) (only-is g) h
fits-inside l symbols n s (box b) a e g h = absurd (false≢true e)
fits-inside l symbols n s (dia b) a e g h = absurd (false≢true e)

-- only a literal without a modal part has no step
pub has_step-shape : (m : ModalPart) (h : Shape) → (h ≡ Literal → ⊥) → has_step m h ≡ true
has_step-shape Plain Literal n = absurd (n refl)
has_step-shape Plain Alpha n = refl
has_step-shape Plain Beta n = refl
has_step-shape Plain Gamma n = refl
has_step-shape Plain Delta n = refl
has_step-shape Nu h n = refl
has_step-shape Pi h n = refl

pub has_step-modal : (m : ModalPart) (h : Shape) → (m ≡ Plain → ⊥) → has_step m h ≡ true
has_step-modal Plain h n = absurd (n refl)
has_step-modal Nu h n = refl
has_step-modal Pi h n = refl
