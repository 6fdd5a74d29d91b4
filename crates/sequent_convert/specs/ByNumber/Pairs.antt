-- Pairs of items that make an axiom: a T and an F item of one ground atom at one label.
use Rattle.std.specs.Prelude.{◌≡◌, ℕ, suc, List, true, Option, Some, slice_get}
use Rattle.calculus.specs.declared.sign.Sign.TheVariants.{T, F}
use Rattle.calculus.specs.Instances.{Spot, grounds_of}
use Rattle.calculus.specs.Syntax.{Terms, atom}
use Rattle.calculus.specs.Text.{is_number}
use Rattle.conversion_theory.specs.Branches.{Item}
use Rattle.sequent_convert.specs.declared.axiom.Pair as pair

-- the atoms are one, and so are the labels
abbrev pub AreSameLiterals : Spot → ℕ → Terms → Spot → ℕ → Terms → Type 0
AreSameLiterals c p ts d q us = (p ≡ q) × (grounds_of c.env ts ≡ grounds_of d.env us) × (c.label ≡ d.label)

-- both are atoms, and these literals
pub record SameAtoms (i j : Item) : Type 0 where
  pub symbol : ℕ
  pub other : ℕ
  pub args : Terms
  pub others : Terms
  pub given_atom : i.formula ≡ atom symbol args
  pub shown_atom : j.formula ≡ atom other others
  pub same : AreSameLiterals i.spot symbol args j.spot other others

pub record MakeAxiom (i j : Item) : Type 0 where
  pub given : i.sign ≡ T
  pub shown : j.sign ≡ F
  pub atoms : SameAtoms i j

abbrev pub MakesAxiom : Option Item → Option Item → Type 0
MakesAxiom (Some i) (Some j) = MakeAxiom i j
MakesAxiom _ _ = ⊥

-- the items at two places make an axiom
abbrev pub MakesAxiomAt : List Item → ℕ → ℕ → Type 0
MakesAxiomAt items j k = MakesAxiom (slice_get items j) (slice_get items k)

-- the numbers are those of two places that make an axiom
pub record ArePair (items : List Item) (p : pair.Pair) : Type 0 where
  pub given : ℕ
  pub shown : ℕ
  pub given_is : p.given ≡ suc given
  pub shown_is : p.shown ≡ suc shown
  pub given_fits : is_number p.given ≡ true
  pub shown_fits : is_number p.shown ≡ true
  pub makes : MakesAxiomAt items given shown
