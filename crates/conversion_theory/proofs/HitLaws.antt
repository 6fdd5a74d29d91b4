-- Each instance has a literal on a saturated branch. A branch is saturated where each turn that is done on one of its entries has left its
-- result there: a literal, the components of an alpha formula, one component of a beta formula, the component of a quantifier.
use Rattle.std.proofs.Common.{◌≡◌, ◌⊎◌, ℕ, suc, List, [], ◌∷◌, ◌++◌, IsTrue, inl, inr}
use Rattle.std.specs.List.{AllByRecursion}
use Rattle.plain_laws.proofs.Every.{each-parts}
use Rattle.calculus.specs.declared.sign.Sign.{Sign}
use Rattle.calculus.specs.declared.setting.Logic.{Logic}
use Rattle.calculus.specs.declared.kind.Shape.TheVariants.{Alpha, Beta, Gamma, Delta}
use Rattle.calculus.specs.declared.kind.ModalPart.TheVariants.{Plain, Nu, Pi}
use Rattle.calculus.specs.Syntax.{Terms, Formula, atom}
use Rattle.calculus.specs.Ground.{GroundTerm, Marks, Value, g_eigen, term, marks_list, values_tree, GroundLiteral}
use Rattle.calculus.specs.Equality.{mark_eq}
use Rattle.calculus.specs.Kinds.{Signed, shape_of, modal_of, components}
use Rattle.calculus.specs.Labels.{steps_to, nu_label}
use Rattle.calculus.specs.Positions.{size}
use Rattle.calculus.specs.Instances.{grounds_of, Spot, down_by, spot_inside, after_string, after_character, Turn, Share, Gives, Shaped, by_plain, by_nu, by_pi, is_literal, by_only, by_left, by_right, by_both, by_gamma, by_delta}
use Rattle.calculus.proofs.WalkLaws.{SomeIn}

-- the modal part of a signed formula leads from one spot to another
pub data Moves (l : Logic) (s : Sign) (f : Formula) : Spot → Spot → Type 0 where
  plain : {c : Spot} → modal_of l s f ≡ Plain → Moves l s f c c
  by_string : {c : Spot} (w : Marks) → modal_of l s f ≡ Nu → IsTrue (steps_to mark_eq l c.label (nu_label l c.label (marks_list w))) → Moves l s f c (after_string l w c)
  by_character : {c : Spot} → modal_of l s f ≡ Pi → Moves l s f c (after_character l c)

abbrev pub turn : ℕ → List Value → Turn
turn p vs = record { position = p; values = vs }

abbrev pub literal_at : Spot → Sign → ℕ → Terms → GroundLiteral
literal_at d s p ts = record { sign = s; symbol = p; args = grounds_of d.env ts; label = d.label }

-- `Done` tells which turns are done, `Has c s f` that f with sign s stands on the branch as the spot c has it, before its own modal part,
-- and `Holds` which literals the branch has
pub record IsSaturated (l : Logic) (Done : Turn → Type 0) (Has : Spot → Sign → Formula → Type 0) (Holds : GroundLiteral → Type 0) : Type 0 where
  pub literal : (c d : Spot) (s : Sign) (p : ℕ) (ts : Terms) → Has c s (atom p ts) → Moves l s (atom p ts) c d → Done (turn d.position d.taken) → Holds (literal_at d s p ts)
  pub only : (c d : Spot) (s : Sign) (f : Formula) (a : Signed) → shape_of s f ≡ Alpha → components s f ≡ a ∷ [] → Has c s f → Moves l s f c d → Done (turn d.position d.taken) → Has (down_by 1 d) a.sign a.formula
  pub left : (c d : Spot) (s : Sign) (f : Formula) (a b : Signed) → shape_of s f ≡ Alpha → components s f ≡ a ∷ b ∷ [] → Has c s f → Moves l s f c d → Done (turn d.position d.taken) → Has (down_by 1 d) a.sign a.formula
  pub right : (c d : Spot) (s : Sign) (f : Formula) (a b : Signed) → shape_of s f ≡ Alpha → components s f ≡ a ∷ b ∷ [] → Has c s f → Moves l s f c d → Done (turn d.position d.taken) → Has (down_by (suc (size a.formula)) d) b.sign b.formula
  pub either : (c d : Spot) (s : Sign) (f : Formula) (a b : Signed) → shape_of s f ≡ Beta → components s f ≡ a ∷ b ∷ [] → Has c s f → Moves l s f c d → Done (turn d.position d.taken) → Has (down_by 1 d) a.sign a.formula ⊎ Has (down_by (suc (size a.formula)) d) b.sign b.formula
  pub gamma : (c d : Spot) (s : Sign) (f : Formula) (a : Signed) (t : GroundTerm) → shape_of s f ≡ Gamma → components s f ≡ a ∷ [] → Has c s f → Moves l s f c d → Done (turn d.position (d.taken ++ term t ∷ [])) → Has (spot_inside t (d.taken ++ term t ∷ []) d) a.sign a.formula
  pub delta : (c d : Spot) (s : Sign) (f : Formula) (a : Signed) → shape_of s f ≡ Delta → components s f ≡ a ∷ [] → Has c s f → Moves l s f c d → Done (turn d.position d.taken) → Has (spot_inside (g_eigen d.position (values_tree d.taken)) d.taken d) a.sign a.formula

SomeIn-left : (S : GroundLiteral → Type 0) (xs ys : List GroundLiteral) → SomeIn S xs → SomeIn S (xs ++ ys)
SomeIn-left S [] ys h = elim h [ ]
SomeIn-left S (x ∷ xs) ys (inl e) = inl e
SomeIn-left S (x ∷ xs) ys (inr h) = inr (SomeIn-left S xs ys h)

SomeIn-right : (S : GroundLiteral → Type 0) (xs ys : List GroundLiteral) → SomeIn S ys → SomeIn S (xs ++ ys)
SomeIn-right S [] ys h = h
SomeIn-right S (x ∷ xs) ys h = inr (SomeIn-right S xs ys h)

-- what an entry of the branch gives by turns that are done has a literal on the branch
mutual
  pub hit : (l : Logic) (Done : Turn → Type 0) (Has : Spot → Sign → Formula → Type 0) (Holds : GroundLiteral → Type 0) → IsSaturated l Done Has Holds → (c : Spot) (s : Sign) (f : Formula) (x : Share) → Gives l c s f x → AllByRecursion Done x.turns → Has c s f → SomeIn Holds x.literals
  hit l Done Has Holds k c s f x (by_plain e g) ts h = hit_shaped l Done Has Holds k c c s f x g ts h (plain e)
  hit l Done Has Holds k c s f x (by_nu {x = y} w e q g) ts h = hit_shaped l Done Has Holds k c (after_string l w c) s f y g ts h (by_string w e q)
  hit l Done Has Holds k c s f x (by_pi {x = y} e g) ts h = hit_shaped l Done Has Holds k c (after_character l c) s f y g ts h (by_character e)

  pub hit_shaped : (l : Logic) (Done : Turn → Type 0) (Has : Spot → Sign → Formula → Type 0) (Holds : GroundLiteral → Type 0) → IsSaturated l Done Has Holds → (c d : Spot) (s : Sign) (f : Formula) (x : Share) → Shaped l d s f x → AllByRecursion Done x.turns → Has c s f → Moves l s f c d → SomeIn Holds x.literals
  hit_shaped l Done Has Holds k c d s f x (is_literal {p = p} {ts = ts}) t h m = inl (k.literal c d s p ts h m t.0)
  hit_shaped l Done Has Holds k c d s f x (by_only {x = y} {a = a} e q g) t h m = hit l Done Has Holds k (down_by 1 d) a.sign a.formula y g t.1 (k.only c d s f a e q h m t.0)
  hit_shaped l Done Has Holds k c d s f x (by_left {x = y} {a = a} {b = b} e q g) t h m = hit l Done Has Holds k (down_by 1 d) a.sign a.formula y g t.1 (k.left c d s f a b e q h m t.0)
  hit_shaped l Done Has Holds k c d s f x (by_right {x = y} {a = a} {b = b} e q g) t h m = hit l Done Has Holds k (down_by (suc (size a.formula)) d) b.sign b.formula y g t.1 (k.right c d s f a b e q h m t.0)
  hit_shaped l Done Has Holds k c d s f x (by_both {x = y} {y = z} {a = a} {b = b} e q g j) t h m =
      let each = each-parts Done y.turns z.turns t.1 in
      elim (k.either c d s f a b e q h m t.0) [
        | inl first ↦ SomeIn-left Holds y.literals z.literals (hit l Done Has Holds k (down_by 1 d) a.sign a.formula y g each.0 first)
        | inr second ↦ SomeIn-right Holds y.literals z.literals (hit l Done Has Holds k (down_by (suc (size a.formula)) d) b.sign b.formula z j each.1 second)
      ]
  hit_shaped l Done Has Holds k c d s f x (by_gamma {x = y} {a = a} u e q g) t h m = hit l Done Has Holds k (spot_inside u (d.taken ++ term u ∷ []) d) a.sign a.formula y g t.1 (k.gamma c d s f a u e q h m t.0)
  hit_shaped l Done Has Holds k c d s f x (by_delta {x = y} {a = a} e q g) t h m = hit l Done Has Holds k (spot_inside (g_eigen d.position (values_tree d.taken)) d.taken d) a.sign a.formula y g t.1 (k.delta c d s f a e q h m t.0)
