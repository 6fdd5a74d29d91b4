-- The world of a label of ground marks: each mark leads from a world to a successor, and a label is followed from the root. A nu step
-- is then a step of the relation, and an element of the domain of a home lies in the domain of each label that the home allows.
use Rattle.std.proofs.Common.{◌≡◌, ℕ, suc, ◌+◌, ◌≤◌, List, [], ◌∷◌, ◌++◌, length, true, ◌==◌, IsTrue, refl, sym, ◌∙◌, ap, subst, arith, eqb-true, nat_le, slice_index_or, append_assoc, length-append}
use Rattle.std.proofs.lemmas.Bool.{false≢true, and_parts, leb-true}
use Rattle.calculus.specs.declared.setting.Logic.{Logic}
use Rattle.calculus.specs.declared.setting.Logic.TheVariants.{Classical, Intuitionistic, D, T as LogicT, S4, S5}
use Rattle.calculus.specs.declared.setting.Domains.{Domains}
use Rattle.calculus.specs.declared.setting.Domains.TheVariants.{Constant, Cumulative, Varying}
use Rattle.calculus.specs.Syntax.{Problem}
use Rattle.calculus.specs.Ground.{GroundMark, g_spare_mark}
use Rattle.calculus.specs.Equality.{list_eq, mark_eq}
use Rattle.calculus.specs.Labels.{is_prefix, steps_to, nu_label, home_allows}
use Rattle.calculus.specs.Derivations.{Mark, new_mark, spare_mark, Label}
use Rattle.calculus.specs.Models.{Model, IsWorld, Reaches, IsIn, IsReflexive, IsTransitive, RelationFits, DomainsFit, IsModel}
use Rattle.calculus.specs.Skolem.{common_spares}
use Rattle.calculus.proofs.EqualityLaws.{list_eq-tells, mark_eq-tells}
use Rattle.calculus.proofs.WorldLaws.{world_along}
use Rattle.calculus.proofs.Interpretations.{IsCommon}

abbrev pub world_from : {W : Type 0} → (GroundMark → W → W) → W → List GroundMark → W
world_from step x [] = x
world_from step x (m ∷ w) = world_from step (step m x) w

pub from-append : {W : Type 0} (step : GroundMark → W → W) (x : W) (w v : List GroundMark) → world_from step x (w ++ v) ≡ world_from step (world_from step x w) v
from-append step x [] v = refl
from-append step x (m ∷ w) v = from-append step (step m x) w v

-- each mark leads from each world to a successor
abbrev pub AreMarkSteps : {W E : Type 0} → Model W E → (GroundMark → W → W) → Type 0
AreMarkSteps {W} S step = (m : GroundMark) (x : W) → IsWorld S x → Reaches S x (step m x)

same-label : (w v : List GroundMark) → list_eq mark_eq w v ≡ true → w ≡ v
same-label w v h = (list_eq-tells mark_eq mark_eq-tells w v).0 h

module _ {W E : Type 0} (P : Problem) (S : Model W E) (c : IsModel P S) (step : GroundMark → W → W) (steps : AreMarkSteps S step) where
  pub from-world : (x : W) (w : List GroundMark) → IsWorld S x → IsWorld S (world_from step x w)
  from-world x [] world = world
  from-world x (m ∷ w) world = from-world (step m x) w (c.successors x (step m x) world (steps m x world))

  pub label-world : (w : List GroundMark) → IsWorld S (world_from step S.root w)
  label-world w = from-world S.root w c.root

  -- ---- steps

  many-reached : IsReflexive S → IsTransitive S → (x : W) (v : List GroundMark) → IsWorld S x → Reaches S x (world_from step x v)
  many-reached reflexive transitive x [] world = reflexive x world
  many-reached reflexive transitive x (m ∷ v) world =
      let first = steps m x world in
      transitive x (step m x) (world_from step (step m x) v) world first (many-reached reflexive transitive (step m x) v (c.successors x (step m x) world first))

  one-reached : (x : W) (v : List GroundMark) → IsWorld S x → length v ≡ 1 → Reaches S x (world_from step x v)
  one-reached x [] world e = absurd (omega (arith, e))
  one-reached x (m ∷ []) world e = steps m x world
  one-reached x (m ∷ n ∷ v) world e = absurd (omega (arith, e))

  few-reached : IsReflexive S → (x : W) (v : List GroundMark) → IsWorld S x → length v ≤ 1 → Reaches S x (world_from step x v)
  few-reached reflexive x [] world e = reflexive x world
  few-reached reflexive x (m ∷ []) world e = steps m x world
  few-reached reflexive x (m ∷ n ∷ v) world e = absurd (omega (arith, e))

  behind : (w v : List GroundMark) → Reaches S (world_from step S.root w) (world_from step (world_from step S.root w) v) → Reaches S (world_from step S.root w) (world_from step S.root (w ++ v))
  behind w v h = subst (Reaches S (world_from step S.root w)) (sym (from-append step S.root w v)) h

  pub nu-reached : (l : Logic) → RelationFits l S → (w v : List GroundMark) → IsTrue (steps_to mark_eq l w (nu_label l w v)) → Reaches S (world_from step S.root w) (world_from step S.root (nu_label l w v))
  nu-reached Classical r w v h = subst (λ u. Reaches S (world_from step S.root w) (world_from step S.root u)) (same-label w (w ++ v) h) (r.0 (world_from step S.root w) (label-world w))
  nu-reached Intuitionistic r w v h = behind w v (many-reached r.0 r.1 (world_from step S.root w) v (label-world w))
  nu-reached D r w v h =
      let long = eqb-true (length (w ++ v)) (length w + 1) (and_parts (is_prefix mark_eq w (w ++ v)) (length (w ++ v) == length w + 1) h).1 in
      let sum = length-append w v in
      behind w v (one-reached (world_from step S.root w) v (label-world w) (omega (arith, long, sum)))
  nu-reached LogicT r w v h =
      let long = leb-true (length (w ++ v)) (length w + 1) (and_parts (is_prefix mark_eq w (w ++ v)) (nat_le (length (w ++ v)) (length w + 1)) h).1 in
      let sum = length-append w v in
      behind w v (few-reached r (world_from step S.root w) v (label-world w) (omega (arith, long, sum)))
  nu-reached S4 r w v h = behind w v (many-reached r.0 r.1 (world_from step S.root w) v (label-world w))
  nu-reached S5 r w v h = r (world_from step S.root w) (world_from step S.root v) (label-world w) (label-world v)

  -- ---- domains

  kept : DomainsFit Cumulative S → (e : E) (x : W) (h w : List GroundMark) → IsWorld S x → is_prefix mark_eq h w ≡ true → IsIn S (world_from step x h) e → IsIn S (world_from step x w) e
  kept grow e x [] [] world p m = m
  kept grow e x [] (n ∷ w) world p m = let first = steps n x world in kept grow e (step n x) [] w (c.successors x (step n x) world first) refl (grow x (step n x) e world first m)
  kept grow e x (n ∷ h) [] world p m = absurd (false≢true p)
  kept grow e x (n ∷ h) (k ∷ w) world p m =
      let parts = and_parts (mark_eq n k) (is_prefix mark_eq h w) p in
      subst (λ z. IsIn S (world_from step (step z x) w) e) ((mark_eq-tells n k).0 parts.0) (kept grow e (step n x) h w (c.successors x (step n x) world (steps n x world)) parts.1 m)

  pub allowed-inside : (d : Domains) → DomainsFit d S → (e : E) (h w : List GroundMark) → IsTrue (home_allows mark_eq d h w) → IsIn S (world_from step S.root h) e → IsIn S (world_from step S.root w) e
  allowed-inside Constant fit e h w allowed m = fit (world_from step S.root h) (world_from step S.root w) e (label-world h) (label-world w) m
  allowed-inside Cumulative fit e h w allowed m = kept fit e S.root h w c.root allowed m
  allowed-inside Varying fit e h w allowed m = subst (λ u. IsIn S (world_from step S.root u) e) (same-label h w allowed) m

  -- ---- the element of every domain, by the label of a derivation that counts the marks

  abbrev counted : ℕ → List GroundMark → Label
  counted k [] = []
  counted k (m ∷ w) = new_mark k ∷ counted (suc k) w

  abbrev step_at : List GroundMark → Mark → W → W
  step_at ms (new_mark k) x = step (slice_index_or ms k (g_spare_mark 0)) x
  step_at ms (spare_mark k) x = step (g_spare_mark k) x

  mark-at : (w v : List GroundMark) (m d : GroundMark) → slice_index_or (w ++ m ∷ v) (length w) d ≡ m
  mark-at [] v m d = refl
  mark-at (n ∷ w) v m d = mark-at w v m d

  counted-world : (ms before w : List GroundMark) (x : W) → ms ≡ before ++ w → world_along (step_at ms) x (counted (length before) w) ≡ world_from step x w
  counted-world ms before [] x e = refl
  counted-world ms before (m ∷ w) x e =
      let here : slice_index_or ms (length before) (g_spare_mark 0) ≡ m = ap (λ ns. slice_index_or ns (length before) (g_spare_mark 0)) e ∙ mark-at before w m (g_spare_mark 0) in
      let longer : length (before ++ m ∷ []) ≡ suc (length before) = length-append before (m ∷ []) ∙ (omega arith) in
      let rest = counted-world ms (before ++ m ∷ []) w (step m x) (e ∙ sym (append_assoc before (m ∷ []) w)) in
      ap (λ n. world_along (step_at ms) (step n x) (counted (suc (length before)) w)) here
      ∙ ap (λ k. world_along (step_at ms) (step m x) (counted k w)) (sym longer)
      ∙ rest

  pub common-inside : (common : E) → IsCommon P S common → IsTrue (common_spares P) → (w : List GroundMark) → IsIn S (world_from step S.root w) common
  common-inside common is_common exists w = subst (λ x. IsIn S x common) (counted-world w [] w S.root refl) (is_common exists (step_at w) are (counted 0 w))
    where
      are : (m : Mark) (x : W) → IsWorld S x → Reaches S x (step_at w m x)
      are (new_mark k) x world = steps (slice_index_or w k (g_spare_mark 0)) x world
      are (spare_mark k) x world = steps (g_spare_mark k) x world
