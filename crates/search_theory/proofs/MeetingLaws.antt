-- Literals that are opposite, and what unification gives for a reduction: the step, or that there is none.
use Rattle.std.proofs.Common.{◌≡◌, ℕ, zero, suc, List, map, not, ◌&&◌, ◌==◌, IsTrue, sym, ◌∙◌, ap, Option, Some, None, option_map, slice_get, eq-eqb, eqb-true}
use Rattle.std.proofs.lemmas.Bool.{false≢true, and_parts, and_from}
use Rattle.std.proofs.lemmas.Option.{slice_get-map}
use Rattle.plain_laws.proofs.Places.{map-there}
use Rattle.calculus.specs.Ground.{GroundLiteral}
use Rattle.calculus.specs.Equality.{sign_eq, grounds_eq}
use Rattle.calculus.specs.Tableaux.{ancestor}
use Rattle.calculus.specs.Choices.{are_opposite, is_opposite}
use Rattle.store_theory.specs.Stores.{Store}
use Rattle.store_theory.specs.Systems.{CellAtom}
use Rattle.calculus.proofs.EqualityLaws.{grounds_eq-tells}
use Rattle.search_theory.specs.States.{CellGoal, literal_by}
use Rattle.search_theory.specs.Steps.{AreUnified, Clash, IsReduced, CannotReduce}

-- ---- opposite literals

-- the signs differ, and the symbols and arguments agree
pub record OppositeParts (a b : GroundLiteral) : Type 0 where
  pub signs : IsTrue (not (sign_eq a.sign b.sign))
  pub symbols : a.symbol ≡ b.symbol
  pub args : a.args ≡ b.args

pub opposite-parts : (a b : GroundLiteral) → IsTrue (are_opposite a b) → OppositeParts a b
opposite-parts a b h =
    let p = and_parts (not (sign_eq a.sign b.sign) && a.symbol == b.symbol) (grounds_eq a.args b.args) h in
    let q = and_parts (not (sign_eq a.sign b.sign)) (a.symbol == b.symbol) p.0 in
    record { signs = q.0; symbols = eqb-true a.symbol b.symbol q.1; args = (grounds_eq-tells a.args b.args).0 p.1 }

pub opposite-from : (a b : GroundLiteral) → OppositeParts a b → IsTrue (are_opposite a b)
opposite-from a b h =
    and_from (not (sign_eq a.sign b.sign) && a.symbol == b.symbol) (grounds_eq a.args b.args)
    (and_from (not (sign_eq a.sign b.sign)) (a.symbol == b.symbol) h.signs (eq-eqb a.symbol b.symbol h.symbols))
    ((grounds_eq-tells a.args b.args).1 h.args)

pub opposite-some : (a : GroundLiteral) (o : Option GroundLiteral) (b : GroundLiteral) → o ≡ Some b → IsTrue (is_opposite a o) → IsTrue (are_opposite a b)
opposite-some a o b e h = rw e at h

pub some-opposite : (a : GroundLiteral) (o : Option GroundLiteral) (b : GroundLiteral) → o ≡ Some b → IsTrue (are_opposite a b) → IsTrue (is_opposite a o)
some-opposite a o b e h = rw e h

-- ---- reduction

pub ancestor-there : (f : CellAtom → GroundLiteral) (path : List CellAtom) (up : ℕ) (a : CellAtom) → slice_get path up ≡ Some a → ancestor (map f path) (suc up) ≡ Some (f a)
ancestor-there f path up a e = map-there f path up a e

-- the ancestor of the number k + 1 is unified with the goal
pub reduced-by_unifying : (old new : Store) (g : CellGoal) (a : CellAtom) (k : ℕ) → slice_get g.path k ≡ Some a → IsTrue (not (sign_eq g.literal.sign a.sign)) → g.literal.symbol ≡ a.symbol → AreUnified old new g.literal.args a.args → IsReduced old new g (suc k)
reduced-by_unifying old new g a k at signs symbols u = record {
  size = u.size;
  back = λ σ s. let v = u.back σ s in (v.0, some-opposite (literal_by σ g.literal) (ancestor (map (literal_by σ) g.path) (suc k)) (literal_by σ a) (ancestor-there (literal_by σ) g.path k a at) (opposite-from (literal_by σ g.literal) (literal_by σ a) (record { signs = signs; symbols = symbols; args = v.1 })));
  forth = λ σ s opp. u.forth σ s (opposite-parts (literal_by σ g.literal) (literal_by σ a) (opposite-some (literal_by σ g.literal) (ancestor (map (literal_by σ) g.path) (suc k)) (literal_by σ a) (ancestor-there (literal_by σ) g.path k a at) opp)).args;
}

pub cannot-reduce-by_clash : (s : Store) (g : CellGoal) (a : CellAtom) (k : ℕ) → slice_get g.path k ≡ Some a → Clash s g.literal.args a.args → CannotReduce s g (suc k)
cannot-reduce-by_clash s g a k at clash σ h opp = clash σ h (opposite-parts (literal_by σ g.literal) (literal_by σ a) (opposite-some (literal_by σ g.literal) (ancestor (map (literal_by σ) g.path) (suc k)) (literal_by σ a) (ancestor-there (literal_by σ) g.path k a at) opp)).args

pub cannot-reduce-by_sign : (s : Store) (g : CellGoal) (a : CellAtom) (k : ℕ) → slice_get g.path k ≡ Some a → IsTrue (sign_eq g.literal.sign a.sign) → CannotReduce s g (suc k)
cannot-reduce-by_sign s g a k at same σ h opp = false≢true (sym (ap not same) ∙ (opposite-parts (literal_by σ g.literal) (literal_by σ a) (opposite-some (literal_by σ g.literal) (ancestor (map (literal_by σ) g.path) (suc k)) (literal_by σ a) (ancestor-there (literal_by σ) g.path k a at) opp)).signs)

pub cannot-reduce-by_symbol : (s : Store) (g : CellGoal) (a : CellAtom) (k : ℕ) → slice_get g.path k ≡ Some a → ¬ (g.literal.symbol ≡ a.symbol) → CannotReduce s g (suc k)
cannot-reduce-by_symbol s g a k at differs σ h opp = differs (opposite-parts (literal_by σ g.literal) (literal_by σ a) (opposite-some (literal_by σ g.literal) (ancestor (map (literal_by σ) g.path) (suc k)) (literal_by σ a) (ancestor-there (literal_by σ) g.path k a at) opp)).symbols

-- there is no ancestor of this number
pub cannot-reduce-by_number : (s : Store) (g : CellGoal) (k : ℕ) → slice_get g.path k ≡ None → CannotReduce s g (suc k)
cannot-reduce-by_number s g k at σ h opp =
    let none : ancestor (map (literal_by σ) g.path) (suc k) ≡ None = slice_get-map (literal_by σ) g.path k ∙ ap (option_map (literal_by σ)) at in
    false≢true (rw none at opp)

pub cannot-reduce-by_zero : (s : Store) (g : CellGoal) → CannotReduce s g zero
cannot-reduce-by_zero s g σ h opp = false≢true opp
