-- The world of a label: each character leads from a world to a successor, and a label is followed from the root. Steps between labels
-- are then steps of the relation, in each logic, and a name's element lies in the domain of each world at whose label it may stand.
use Rattle.std.proofs.Common.{◌≡◌, ◌+◌, ◌≤◌, [], ◌∷◌, ◌++◌, length, true, false, ◌&&◌, ◌==◌, refl, ◌∙◌, ap, subst, inl, inr, arith, eqb-true, nat_le, if◌then◌else◌}
use Rattle.std.proofs.lemmas.Bool.{false≢true, cases_Bool, and_parts, and_from, or_parts, leb-true}
use Rattle.calculus.specs.declared.setting.Logic.{Logic}
use Rattle.calculus.specs.declared.setting.Logic.TheVariants.{Classical, Intuitionistic, D, T as LogicT, S4, S5}
use Rattle.calculus.specs.declared.setting.Domains.{Domains}
use Rattle.calculus.specs.declared.setting.Domains.TheVariants.{Constant, Cumulative, Varying}
use Rattle.calculus.specs.Syntax.{Problem}
use Rattle.calculus.specs.Equality.{list_eq}
use Rattle.calculus.specs.Labels.{is_prefix, steps_to, pi_label, home_allows}
use Rattle.calculus.specs.Derivations.{Mark, Label, character_eq}
use Rattle.calculus.specs.Calculus.{holds_character}
use Rattle.calculus.specs.Models.{Model, IsWorld, Reaches, IsIn, IsReflexive, IsTransitive, RelationFits, DomainsFit, IsModel}
use Rattle.calculus.proofs.EqualityLaws.{list_eq-tells, character_eq-tells}

-- the world to which the characters of a label lead from x
abbrev pub world_along : {W : Type 0} → (Mark → W → W) → W → Label → W
world_along step x [] = x
world_along step x (c ∷ w) = world_along step (step c x) w

abbrev pub world_of : {W E : Type 0} → Model W E → (Mark → W → W) → Label → W
world_of S step w = world_along step S.root w

-- the root and the successors are worlds
pub record Range {W E : Type 0} (S : Model W E) : Type 0 where
  pub root : IsWorld S S.root
  pub successors : (w v : W) → IsWorld S w → Reaches S w v → IsWorld S v

pub range_of : {W E : Type 0} (P : Problem) (S : Model W E) → IsModel P S → Range S
range_of P S c = record { root = c.root; successors = c.successors }

-- each character leads from each world to a successor
abbrev pub AreSteps : {W E : Type 0} → Model W E → (Mark → W → W) → Type 0
AreSteps {W} S step = (c : Mark) (x : W) → IsWorld S x → Reaches S x (step c x)

pub along-world : {W E : Type 0} (S : Model W E) → Range S → (step : Mark → W → W) → AreSteps S step → (x : W) (w : Label) → IsWorld S x → IsWorld S (world_along step x w)
along-world S r step h x [] world = world
along-world S r step h x (c ∷ w) world = along-world S r step h (step c x) w (r.successors x (step c x) world (h c x world))

pub along-more : {W : Type 0} (step : Mark → W → W) (x : W) (w : Label) (c : Mark) → world_along step x (w ++ c ∷ []) ≡ step c (world_along step x w)
along-more step x [] c = refl
along-more step x (d ∷ w) c = along-more step (step d x) w c

same-label : (w v : Label) → list_eq character_eq w v ≡ true → w ≡ v
same-label w v h = (list_eq-tells character_eq character_eq-tells w v).0 h

same-character : (c d : Mark) → character_eq c d ≡ true → c ≡ d
same-character c d h = (character_eq-tells c d).0 h

-- ---- steps between labels are steps of the relation

-- a longer label, where the relation is reflexive and transitive
prefix-reaches : {W E : Type 0} (S : Model W E) → Range S → IsReflexive S → IsTransitive S → (step : Mark → W → W) → AreSteps S step → (x : W) → IsWorld S x → (w v : Label) → is_prefix character_eq w v ≡ true → Reaches S (world_along step x w) (world_along step x v)
prefix-reaches S r reflexive transitive step h x world [] [] p = reflexive x world
prefix-reaches S r reflexive transitive step h x world [] (c ∷ v) p =
    let first = h c x world in
    let next = r.successors x (step c x) world first in
    transitive x (step c x) (world_along step (step c x) v) world first (prefix-reaches S r reflexive transitive step h (step c x) next [] v refl)
prefix-reaches S r reflexive transitive step h x world (c ∷ w) [] p = absurd (false≢true p)
prefix-reaches S r reflexive transitive step h x world (c ∷ w) (d ∷ v) p =
    let parts = and_parts (character_eq c d) (is_prefix character_eq w v) p in
    subst (λ z. Reaches S (world_along step (step c x) w) (world_along step (step z x) v)) (same-character c d parts.0) (prefix-reaches S r reflexive transitive step h (step c x) (r.successors x (step c x) world (h c x world)) w v parts.1)

-- a label with one character more
one-more-reaches : {W E : Type 0} (S : Model W E) → Range S → (step : Mark → W → W) → AreSteps S step → (x : W) → IsWorld S x → (w v : Label) → is_prefix character_eq w v ≡ true → length v ≡ length w + 1 → Reaches S (world_along step x w) (world_along step x v)
one-more-reaches S r step h x world [] [] p e = absurd (omega arith)
one-more-reaches S r step h x world [] (c ∷ []) p e = h c x world
one-more-reaches S r step h x world [] (c ∷ d ∷ v) p e = absurd (omega arith)
one-more-reaches S r step h x world (c ∷ w) [] p e = absurd (false≢true p)
one-more-reaches S r step h x world (c ∷ w) (d ∷ v) p e =
    let parts = and_parts (character_eq c d) (is_prefix character_eq w v) p in
    subst (λ z. Reaches S (world_along step (step c x) w) (world_along step (step z x) v)) (same-character c d parts.0) (one-more-reaches S r step h (step c x) (r.successors x (step c x) world (h c x world)) w v parts.1 (omega arith))

-- the same label, or one with one character more, where the relation is reflexive
at-most-one-reaches : {W E : Type 0} (S : Model W E) → Range S → IsReflexive S → (step : Mark → W → W) → AreSteps S step → (x : W) → IsWorld S x → (w v : Label) → is_prefix character_eq w v ≡ true → length v ≤ length w + 1 → Reaches S (world_along step x w) (world_along step x v)
at-most-one-reaches S r reflexive step h x world [] [] p e = reflexive x world
at-most-one-reaches S r reflexive step h x world [] (c ∷ []) p e = h c x world
at-most-one-reaches S r reflexive step h x world [] (c ∷ d ∷ v) p e = absurd (omega arith)
at-most-one-reaches S r reflexive step h x world (c ∷ w) [] p e = absurd (false≢true p)
at-most-one-reaches S r reflexive step h x world (c ∷ w) (d ∷ v) p e =
    let parts = and_parts (character_eq c d) (is_prefix character_eq w v) p in
    subst (λ z. Reaches S (world_along step (step c x) w) (world_along step (step z x) v)) (same-character c d parts.0) (at-most-one-reaches S r reflexive step h (step c x) (r.successors x (step c x) world (h c x world)) w v parts.1 (omega arith))

pub step-reaches : {W E : Type 0} (l : Logic) (S : Model W E) → Range S → RelationFits l S → (step : Mark → W → W) → AreSteps S step → (w v : Label) → steps_to character_eq l w v ≡ true → Reaches S (world_of S step w) (world_of S step v)
step-reaches Classical S r relation step h w v e = subst (λ u. Reaches S (world_of S step w) (world_of S step u)) (same-label w v e) (relation.0 (world_of S step w) (along-world S r step h S.root w r.root))
step-reaches Intuitionistic S r relation step h w v e =
    prefix-reaches S r relation.0 relation.1 step h S.root r.root w v e
step-reaches D S r relation step h w v e =
    let parts = and_parts (is_prefix character_eq w v) (length v == length w + 1) e in
    one-more-reaches S r step h S.root r.root w v parts.0 (eqb-true (length v) (length w + 1) parts.1)
step-reaches LogicT S r relation step h w v e =
    let parts = and_parts (is_prefix character_eq w v) (nat_le (length v) (length w + 1)) e in
    at-most-one-reaches S r relation step h S.root r.root w v parts.0 (leb-true (length v) (length w + 1) parts.1)
step-reaches S4 S r relation step h w v e =
    prefix-reaches S r relation.0 relation.1 step h S.root r.root w v e
step-reaches S5 S r relation step h w v e = relation (world_of S step w) (world_of S step v) (along-world S r step h S.root w r.root) (along-world S r step h S.root v r.root)

-- ---- where a name may stand, its element lies in the domain

prefix-in : {W E : Type 0} (S : Model W E) → Range S → DomainsFit Cumulative S → (step : Mark → W → W) → AreSteps S step → (e : E) (x : W) → IsWorld S x → (w v : Label) → is_prefix character_eq w v ≡ true → IsIn S (world_along step x w) e → IsIn S (world_along step x v) e
prefix-in S r grow step h e x world [] [] p m = m
prefix-in S r grow step h e x world [] (c ∷ v) p m =
    let first = h c x world in
    prefix-in S r grow step h e (step c x) (r.successors x (step c x) world first) [] v refl (grow x (step c x) e world first m)
prefix-in S r grow step h e x world (c ∷ w) [] p m = absurd (false≢true p)
prefix-in S r grow step h e x world (c ∷ w) (d ∷ v) p m =
    let parts = and_parts (character_eq c d) (is_prefix character_eq w v) p in
    subst (λ z. IsIn S (world_along step (step z x) v) e) (same-character c d parts.0) (prefix-in S r grow step h e (step c x) (r.successors x (step c x) world (h c x world)) w v parts.1 m)

pub allowed-in : {W E : Type 0} (d : Domains) (S : Model W E) → Range S → DomainsFit d S → (step : Mark → W → W) → AreSteps S step → (e : E) (w v : Label) → home_allows character_eq d w v ≡ true → IsIn S (world_of S step w) e → IsIn S (world_of S step v) e
allowed-in Constant S r fit step h e w v allowed m = fit (world_of S step w) (world_of S step v) e (along-world S r step h S.root w r.root) (along-world S r step h S.root v r.root) m
allowed-in Cumulative S r fit step h e w v allowed m = prefix-in S r fit step h e S.root r.root w v allowed m
allowed-in Varying S r fit step h e w v allowed m = subst (λ u. IsIn S (world_of S step u) e) (same-label w v allowed) m

-- ---- a new character leads to one world, from each world that reaches it

abbrev pub with_step : {W E : Type 0} → Model W E → (Mark → W → W) → Mark → W → Mark → W → W
with_step S step c goal d x = if character_eq c d && S.reaches x goal then goal else step d x

pub with_step-steps : {W E : Type 0} (S : Model W E) (step : Mark → W → W) (c : Mark) (goal : W) → AreSteps S step → AreSteps S (with_step S step c goal)
with_step-steps S step c goal h d x world = elim (cases_Bool (character_eq c d && S.reaches x goal)) [
  | inl e ↦ rw e ((and_parts (character_eq c d) (S.reaches x goal) e).1)
  | inr e ↦ rw e (h d x world)
]

-- labels without the character keep their worlds
pub with_step-same : {W E : Type 0} (S : Model W E) (step : Mark → W → W) (c : Mark) (goal x : W) (w : Label) → holds_character c w ≡ false → world_along (with_step S step c goal) x w ≡ world_along step x w
with_step-same S step c goal x [] h = refl
with_step-same S step c goal x (d ∷ w) h =
    let parts = or_parts (character_eq c d) (holds_character c w) h in
    rw parts.0 (with_step-same S step c goal (step d x) w parts.1)

-- where the step begins that leads from w to the label of a pi step
abbrev pub pi_start : {W E : Type 0} → Logic → Model W E → (Mark → W → W) → Label → W
pi_start S5 S step w = S.root
pi_start _ S step w = world_of S step w

self-character : (c : Mark) → character_eq c c ≡ true
self-character c = (character_eq-tells c c).1 refl

at-start : {W E : Type 0} (S : Model W E) (step : Mark → W → W) (c : Mark) (from goal : W) → Reaches S from goal → with_step S step c goal c from ≡ goal
at-start S step c from goal reached = rw (and_from (character_eq c c) (S.reaches from goal) (self-character c) reached) refl

pi-more : {W E : Type 0} (S : Model W E) (step : Mark → W → W) (w : Label) (c : Mark) (goal : W) → Reaches S (world_of S step w) goal → holds_character c w ≡ false → world_of S (with_step S step c goal) (w ++ c ∷ []) ≡ goal
pi-more S step w c goal reached h =
    along-more (with_step S step c goal) S.root w c
    ∙ ap (with_step S step c goal c) (with_step-same S step c goal S.root w h)
    ∙ at-start S step c (world_of S step w) goal reached

pub pi-world : {W E : Type 0} (l : Logic) (S : Model W E) (step : Mark → W → W) (w : Label) (c : Mark) (goal : W) → Reaches S (pi_start l S step w) goal → holds_character c w ≡ false → world_of S (with_step S step c goal) (pi_label l w c) ≡ goal
pi-world S5 S step w c goal reached h = at-start S step c S.root goal reached
pi-world Classical S step w c goal reached h = pi-more S step w c goal reached h
pi-world Intuitionistic S step w c goal reached h = pi-more S step w c goal reached h
pi-world D S step w c goal reached h = pi-more S step w c goal reached h
pi-world LogicT S step w c goal reached h = pi-more S step w c goal reached h
pi-world S4 S step w c goal reached h = pi-more S step w c goal reached h

pub pi_start-reaches : {W E : Type 0} (l : Logic) (S : Model W E) → Range S → RelationFits l S → (step : Mark → W → W) → AreSteps S step → (w : Label) (goal : W) → Reaches S (world_of S step w) goal → Reaches S (pi_start l S step w) goal
pi_start-reaches S5 S r relation step steps w goal h = relation S.root goal r.root (r.successors (world_of S step w) goal (along-world S r step steps S.root w r.root) h)
pi_start-reaches _ S r relation step steps w goal h = h
