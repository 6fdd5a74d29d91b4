-- Terms under the terms put for their variables.
use Rattle.std.specs.Prelude.{◌≡◌, ℕ, ◌<◌, ◌≤◌, List, [], ◌∷◌, map, length, slice_index_or}
use Rattle.std.proofs.Common.{arith, get_or, zero, suc, ap, sym, ◌∙◌, refl}
use Rattle.std.proofs.lemmas.Simd.{map-map}
use Rattle.calculus.specs.Ground.{GroundTerm, common, more_g_terms}
use Rattle.calculus.specs.Instances.{ground_of, grounds_of}
use Rattle.calculus.specs.Lists.{g_terms_tree, g_terms_tree-inj, terms_tree}
use Rattle.calculus.specs.Syntax.{Term}

-- what is put for a variable
pub bound-at : {X : Type 0} (f : X → GroundTerm) (xs : List X) (k : ℕ) (x d : X) → k < length xs → x ≡ get_or xs k d → slice_index_or (map f xs) k (common 0) ≡ f x
bound-at f [] k x d h e = absurd (omega arith)
bound-at f (a ∷ xs) zero x d h e = sym (ap f e)
bound-at f (a ∷ xs) (suc k) x d h e = bound-at f xs k x d (omega arith) e

pub unbound-at : {X : Type 0} (f : X → GroundTerm) (xs : List X) (k : ℕ) → length xs ≤ k → slice_index_or (map f xs) k (common 0) ≡ common 0
unbound-at f [] zero h = refl
unbound-at f [] (suc k) h = refl
unbound-at f (a ∷ xs) zero h = absurd (omega arith)
unbound-at f (a ∷ xs) (suc k) h = unbound-at f xs k (omega arith)

pub ruleset environment = (bound-at, unbound-at)

-- instances of lists are lists of instances
pub grounds-map : (env : List GroundTerm) (ts : List Term) → grounds_of env (terms_tree ts) ≡ g_terms_tree (map (ground_of env) ts)
grounds-map env [] = refl
grounds-map env (t ∷ ts) = ap (λ us. more_g_terms (ground_of env t) us) (grounds-map env ts)

module _ {X Y : Type 0} (f : X → Term) (h : Y → GroundTerm) (env : List GroundTerm) (xs : List X) (ys : List Y) (ts : List Term) (us : List GroundTerm) (p : map f xs ≡ ts) (q : map h ys ≡ us) where
  abbrev AreAlike : Type 0
  AreAlike = map (λ x. ground_of env (f x)) xs ≡ map h ys

  abbrev AreInstances : Type 0
  AreInstances = grounds_of env (terms_tree ts) ≡ g_terms_tree us

  pub instances-by_items : AreAlike → AreInstances
  instances-by_items e = grounds-map env ts ∙ ap g_terms_tree (ap (map (ground_of env)) (sym p) ∙ map-map (ground_of env) f xs ∙ e ∙ q)

  pub items-by_instances : AreInstances → AreAlike
  items-by_instances e = sym (map-map (ground_of env) f xs) ∙ ap (map (ground_of env)) p ∙ g_terms_tree-inj (map (ground_of env) ts) us (sym (grounds-map env ts) ∙ e) ∙ sym q
