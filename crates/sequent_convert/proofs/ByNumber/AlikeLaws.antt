-- Tests of terms under what is put for their variables.
use Rattle.std.proofs.Common.{◌≡◌, ◌↔◌, List, map, Bool, IsTrue, sym, ◌∙◌, ap}
use Rattle.std.proofs.lemmas.Simd.{map-map}
use Rattle.calculus.specs.Ground.{GroundTerm}
use Rattle.calculus.specs.Instances.{ground_of, grounds_of}
use Rattle.calculus.specs.Lists.{g_terms_tree, g_terms_tree-inj, terms_tree}
use Rattle.calculus.specs.Syntax.{Term}
use Rattle.tableau_core.proofs.Environments.{grounds-map}

pub same-first : (r : Bool) (x y z : GroundTerm) → x ≡ y → (IsTrue r ↔ (y ≡ z)) → IsTrue r ↔ (x ≡ z)
same-first r x y z e h = (λ t. e ∙ h.0 t, λ q. h.1 (sym e ∙ q))

pub same-last : (r : Bool) (x y z : GroundTerm) → x ≡ y → (IsTrue r ↔ (z ≡ y)) → IsTrue r ↔ (x ≡ z)
same-last r x y z e h = (λ t. e ∙ sym (h.0 t), λ q. h.1 (sym q ∙ e))

pub same-turned : (r : Bool) (x y : GroundTerm) → (IsTrue r ↔ (x ≡ y)) → IsTrue r ↔ (y ≡ x)
same-turned r x y h = (λ t. sym (h.0 t), λ q. h.1 (sym q))

pub ruleset turning = (same-first, same-last, same-turned)

module _ {X Y : Type 0} (f : X → Term) (g : Y → Term) (env other : List GroundTerm) (xs : List X) (ys : List Y) (ts us : List Term) (p : map f xs ≡ ts) (q : map g ys ≡ us) where
  abbrev AreAlike : Type 0
  AreAlike = map (λ x. ground_of env (f x)) xs ≡ map (λ y. ground_of other (g y)) ys

  abbrev HaveOneInstance : Type 0
  HaveOneInstance = grounds_of env (terms_tree ts) ≡ grounds_of other (terms_tree us)

  pub alike-by_items : AreAlike → HaveOneInstance
  alike-by_items e = grounds-map env ts ∙ ap g_terms_tree (ap (map (ground_of env)) (sym p) ∙ map-map (ground_of env) f xs ∙ e ∙ sym (map-map (ground_of other) g ys) ∙ ap (map (ground_of other)) q) ∙ sym (grounds-map other us)

  pub items-by_alike : HaveOneInstance → AreAlike
  items-by_alike e = sym (map-map (ground_of env) f xs) ∙ ap (map (ground_of env)) p ∙ g_terms_tree-inj (map (ground_of env) ts) (map (ground_of other) us) (sym (grounds-map env ts) ∙ e ∙ grounds-map other us) ∙ sym (ap (map (ground_of other)) q) ∙ map-map (ground_of other) g ys
