-- Truth in a finite structure by steps that are counted: one for each way, which is a position of the formula with the worlds and
-- elements that are chosen on the way to it.
use Rattle.std.specs.Prelude.{◌≡◌, ℕ, zero, suc, ◌+◌, ◌*◌, ◌<◌, ◌≤◌, List, [], ◌∷◌, length, Bool, true, false, not, sum_by, if◌then◌else◌}
use Rattle.calculus.specs.declared.setting.Logic.{Logic}
use Rattle.calculus.specs.declared.setting.Logic.TheVariants.{Intuitionistic}
use Rattle.calculus.specs.Syntax.{Formula, atom, neg, conj, disj, imp, all, ex, box, dia, Problem}
use Rattle.calculus.specs.Structures.{Structure, successors_of, domain_of, is_true_at}

-- ---- the ways

abbrev pub chosen_worlds : Logic → Structure → ℕ → List ℕ
chosen_worlds Intuitionistic S w = successors_of S w
chosen_worlds _ S w = w ∷ []

-- the number of ways from a formula at the world w
abbrev pub ways_at : Logic → Structure → Formula → ℕ → ℕ
ways_at l S (atom p ts) w = 1
ways_at l S (neg a) w = 1 + sum_by (ways_at l S a) (chosen_worlds l S w)
ways_at l S (conj a b) w = 1 + (ways_at l S a w + ways_at l S b w)
ways_at l S (disj a b) w = 1 + (ways_at l S a w + ways_at l S b w)
ways_at l S (imp a b) w = 1 + sum_by (λ v. ways_at l S a v + ways_at l S b v) (chosen_worlds l S w)
ways_at l S (all a) w = 1 + sum_by (λ v. length (domain_of S v) * ways_at l S a v) (chosen_worlds l S w)
ways_at l S (ex a) w = 1 + length (domain_of S w) * ways_at l S a w
ways_at l S (box a) w = 1 + sum_by (ways_at l S a) (successors_of S w)
ways_at l S (dia a) w = 1 + sum_by (ways_at l S a) (successors_of S w)

abbrev pub ways : Problem → Structure → ℕ
ways P S = ways_at P.setting.logic S P.formula 0

-- ---- truth by steps

-- a truth value with the steps that are left, or the steps ran out
pub data Told : Type 0 where
  told : Bool → ℕ → Told
  ran_out : Told

abbrev pub after_told : Told → (Bool → ℕ → Told) → Told
after_told (told b n) go = go b n
after_told ran_out go = ran_out

-- a step is taken first
abbrev pub with_step : (ℕ → Told) → ℕ → Told
with_step go zero = ran_out
with_step go (suc n) = go n

abbrev pub not_told : (ℕ → Told) → ℕ → Told
not_told go n = after_told (go n) (λ b m. told (not b) m)

-- the second one is not asked where the first one decides
abbrev pub both_told : (ℕ → Told) → (ℕ → Told) → ℕ → Told
both_told first second n = after_told (first n) (λ b m. if b then second m else told false m)

abbrev pub either_told : (ℕ → Told) → (ℕ → Told) → ℕ → Told
either_told first second n = after_told (first n) (λ b m. if b then told true m else second m)

-- in order, up to the first one that decides
abbrev pub each_told : {A : Type 0} → (A → ℕ → Told) → List A → ℕ → Told
each_told go [] n = told true n
each_told go (x ∷ xs) n = both_told (go x) (each_told go xs) n

abbrev pub some_told : {A : Type 0} → (A → ℕ → Told) → List A → ℕ → Told
some_told go [] n = told false n
some_told go (x ∷ xs) n = either_told (go x) (some_told go xs) n

-- truth at a world, one step being taken for each way that is visited
abbrev pub told_at : Logic → Structure → Formula → List ℕ → ℕ → ℕ → Told
told_at l S (atom p ts) env w = with_step (told (is_true_at l S (atom p ts) env w))
told_at l S (neg a) env w = with_step (each_told (λ v. not_told (told_at l S a env v)) (chosen_worlds l S w))
told_at l S (conj a b) env w = with_step (both_told (told_at l S a env w) (told_at l S b env w))
told_at l S (disj a b) env w = with_step (either_told (told_at l S a env w) (told_at l S b env w))
told_at l S (imp a b) env w = with_step (each_told (λ v. either_told (not_told (told_at l S a env v)) (told_at l S b env v)) (chosen_worlds l S w))
told_at l S (all a) env w = with_step (each_told (λ v. each_told (λ x. told_at l S a (x ∷ env) v) (domain_of S v)) (chosen_worlds l S w))
told_at l S (ex a) env w = with_step (some_told (λ x. told_at l S a (x ∷ env) w) (domain_of S w))
told_at l S (box a) env w = with_step (each_told (told_at l S a env) (successors_of S w))
told_at l S (dia a) env w = with_step (some_told (told_at l S a env) (successors_of S w))

-- ---- what is promised of any way of telling truth

-- the value is this one, and no more steps were taken than there are ways; or there are more ways than steps were left
abbrev pub Tells : (truth : Bool) (ways left : ℕ) → Told → Type 0
Tells truth n left (told b after) = (b ≡ truth) × (after ≤ left) × (left ≤ after + n)
Tells truth n left ran_out = left < n
