-- Truth that is told by steps is truth, and takes no more steps than there are ways.
use Rattle.std.proofs.Common.{◌≡◌, ℕ, zero, suc, ◌+◌, ◌*◌, ◌≤◌, List, [], ◌∷◌, length, Bool, true, false, not, ◌&&◌, ◌||◌, refl, sym, ◌∙◌, ap, subst, arith, sum_by, if◌then◌else◌}
use Rattle.std.specs.List.{list_all, list_any}
use Rattle.std.proofs.lemmas.List.Sums.{sum_by-cons}
use Rattle.calculus.specs.declared.setting.Logic.{Logic}
use Rattle.calculus.specs.declared.setting.Logic.TheVariants.{Classical, Intuitionistic, D, T as LogicT, S4, S5}
use Rattle.calculus.specs.Syntax.{Formula, atom, neg, conj, disj, imp, all, ex, box, dia}
use Rattle.calculus.specs.Structures.{Structure, successors_of, domain_of, from_here, is_true_at}
use Rattle.calculus.specs.StructureTruth.{chosen_worlds, ways_at, Told, told, ran_out, after_told, with_step, not_told, both_told, either_told, each_told, some_told, told_at, Tells}

-- ---- one law for each way of joining

-- what tells a value from any number of steps
abbrev TellsFrom : Bool → ℕ → (ℕ → Told) → Type 0
TellsFrom truth n go = (left : ℕ) → Tells truth n left (go left)

pub told-step : (truth : Bool) (n : ℕ) (go : ℕ → Told) → TellsFrom truth n go → TellsFrom truth (1 + n) (with_step go)
told-step truth n go h zero = omega arith
told-step truth n go h (suc left) = by (go left) (h left)
  where
    by : (x : Told) → Tells truth n left x → Tells truth (1 + n) (suc left) x
    by (told b m) k = (k.0, omega (arith, k.1), omega (arith, k.2))
    by ran_out k = omega (arith, k)

pub told-not : (truth : Bool) (n : ℕ) (go : ℕ → Told) → TellsFrom truth n go → TellsFrom (not truth) n (not_told go)
told-not truth n go h left = by (go left) (h left)
  where
    by : (x : Told) → Tells truth n left x → Tells (not truth) n left (after_told x (λ b m. told (not b) m))
    by (told b m) k = (ap not k.0, k.1, k.2)
    by ran_out k = k

pub told-both : (p q : Bool) (m n : ℕ) (first second : ℕ → Told) → TellsFrom p m first → TellsFrom q n second → TellsFrom (p && q) (m + n) (both_told first second)
told-both p q m n first second h k left = by (first left) (h left)
  where
    rest : (b : Bool) (after : ℕ) → b ≡ p → after ≤ left → left ≤ after + m → Tells (p && q) (m + n) left (if b then second after else told false after)
    rest false after e less cost = (ap (λ c. c && q) e, less, omega (arith, cost))
    rest true after e less cost = subst (λ c. Tells (c && q) (m + n) left (second after)) e (more (second after) (k after))
      where
        more : (x : Told) → Tells q n after x → Tells q (m + n) left x
        more (told c end) f = (f.0, omega (arith, f.1, less), omega (arith, f.2, cost))
        more ran_out f = omega (arith, f, cost)

    by : (x : Told) → Tells p m left x → Tells (p && q) (m + n) left (after_told x (λ b after. if b then second after else told false after))
    by (told b after) f = rest b after f.0 f.1 f.2
    by ran_out f = omega (arith, f)

pub told-either : (p q : Bool) (m n : ℕ) (first second : ℕ → Told) → TellsFrom p m first → TellsFrom q n second → TellsFrom (p || q) (m + n) (either_told first second)
told-either p q m n first second h k left = by (first left) (h left)
  where
    rest : (b : Bool) (after : ℕ) → b ≡ p → after ≤ left → left ≤ after + m → Tells (p || q) (m + n) left (if b then told true after else second after)
    rest true after e less cost = (ap (λ c. c || q) e, less, omega (arith, cost))
    rest false after e less cost = subst (λ c. Tells (c || q) (m + n) left (second after)) e (more (second after) (k after))
      where
        more : (x : Told) → Tells q n after x → Tells q (m + n) left x
        more (told c end) f = (f.0, omega (arith, f.1, less), omega (arith, f.2, cost))
        more ran_out f = omega (arith, f, cost)

    by : (x : Told) → Tells p m left x → Tells (p || q) (m + n) left (after_told x (λ b after. if b then told true after else second after))
    by (told b after) f = rest b after f.0 f.1 f.2
    by ran_out f = omega (arith, f)

-- lists
pub told-each : {A : Type 0} (truth : A → Bool) (n : A → ℕ) (go : A → ℕ → Told) → ((x : A) → TellsFrom (truth x) (n x) (go x)) → (xs : List A) → TellsFrom (list_all truth xs) (sum_by n xs) (each_told go xs)
told-each truth n go h [] left = (refl, omega arith, omega arith)
told-each truth n go h (x ∷ xs) left =
    subst (λ k. Tells (truth x && list_all truth xs) k left (both_told (go x) (each_told go xs) left)) (sym (sum_by-cons n x xs))
    (told-both (truth x) (list_all truth xs) (n x) (sum_by n xs) (go x) (each_told go xs) (h x) (told-each truth n go h xs) left)

pub told-some : {A : Type 0} (truth : A → Bool) (n : A → ℕ) (go : A → ℕ → Told) → ((x : A) → TellsFrom (truth x) (n x) (go x)) → (xs : List A) → TellsFrom (list_any truth xs) (sum_by n xs) (some_told go xs)
told-some truth n go h [] left = (refl, omega arith, omega arith)
told-some truth n go h (x ∷ xs) left =
    subst (λ k. Tells (truth x || list_any truth xs) k left (either_told (go x) (some_told go xs) left)) (sym (sum_by-cons n x xs))
    (told-either (truth x) (list_any truth xs) (n x) (sum_by n xs) (go x) (some_told go xs) (h x) (told-some truth n go h xs) left)

-- ---- the formula

each-same : {A : Type 0} (n : ℕ) (xs : List A) → sum_by (λ x. n) xs ≡ length xs * n
each-same n [] = omega arith
each-same n (x ∷ xs) = sum_by-cons (λ y. n) x xs ∙ ap (λ k. n + k) (each-same n xs) ∙ omega arith

told-one : (truth : ℕ → Bool) (n : ℕ → ℕ) (go : ℕ → ℕ → Told) → ((v : ℕ) → TellsFrom (truth v) (n v) (go v)) → (w : ℕ) → TellsFrom (truth w) (sum_by n (w ∷ [])) (each_told go (w ∷ []))
told-one truth n go h w left = by (go w left) (h w left)
  where
    rest : (b : Bool) (after : ℕ) → b ≡ truth w → after ≤ left → left ≤ after + n w → Tells (truth w) (sum_by n (w ∷ [])) left (if b then told true after else told false after)
    rest true after e less cost = (e, less, omega (arith, cost))
    rest false after e less cost = (e, less, omega (arith, cost))

    by : (x : Told) → Tells (truth w) (n w) left x → Tells (truth w) (sum_by n (w ∷ [])) left (after_told x (λ b m. if b then each_told go [] m else told false m))
    by (told b m) k = rest b m k.0 k.1 k.2
    by ran_out k = omega (arith, k)

-- at the worlds that are chosen
told-here : (l : Logic) (S : Structure) (w : ℕ) (truth : ℕ → Bool) (n : ℕ → ℕ) (go : ℕ → ℕ → Told) → ((v : ℕ) → TellsFrom (truth v) (n v) (go v)) → TellsFrom (from_here l S w truth) (sum_by n (chosen_worlds l S w)) (each_told go (chosen_worlds l S w))
told-here Intuitionistic S w truth n go h = told-each truth n go h (successors_of S w)
told-here Classical S w truth n go h = told-one truth n go h w
told-here D S w truth n go h = told-one truth n go h w
told-here LogicT S w truth n go h = told-one truth n go h w
told-here S4 S w truth n go h = told-one truth n go h w
told-here S5 S w truth n go h = told-one truth n go h w

-- truth by steps is truth, at no more steps than there are ways
pub told-truth : (l : Logic) (S : Structure) (f : Formula) (env : List ℕ) (w : ℕ) → TellsFrom (is_true_at l S f env w) (ways_at l S f w) (told_at l S f env w)
told-truth l S (atom p ts) env w = told-step (is_true_at l S (atom p ts) env w) 0 (told (is_true_at l S (atom p ts) env w)) (λ left. (refl, omega arith, omega arith))
told-truth l S (neg a) env w = told-step _ _ _ (told-here l S w (λ v. not (is_true_at l S a env v)) (ways_at l S a) (λ v. not_told (told_at l S a env v)) (λ v. told-not _ _ _ (told-truth l S a env v)))
told-truth l S (conj a b) env w = told-step _ _ _ (told-both _ _ _ _ _ _ (told-truth l S a env w) (told-truth l S b env w))
told-truth l S (disj a b) env w = told-step _ _ _ (told-either _ _ _ _ _ _ (told-truth l S a env w) (told-truth l S b env w))
told-truth l S (imp a b) env w = told-step _ _ _ (told-here l S w (λ v. not (is_true_at l S a env v) || is_true_at l S b env v) (λ v. ways_at l S a v + ways_at l S b v) (λ v. either_told (not_told (told_at l S a env v)) (told_at l S b env v)) (λ v. told-either _ _ _ _ _ _ (told-not _ _ _ (told-truth l S a env v)) (told-truth l S b env v)))
told-truth l S (all a) env w = told-step _ _ _ (told-here l S w (λ v. list_all (λ x. is_true_at l S a (x ∷ env) v) (domain_of S v)) (λ v. length (domain_of S v) * ways_at l S a v) (λ v. each_told (λ x. told_at l S a (x ∷ env) v) (domain_of S v)) (λ v left. subst (λ k. Tells (list_all (λ x. is_true_at l S a (x ∷ env) v) (domain_of S v)) k left (each_told (λ x. told_at l S a (x ∷ env) v) (domain_of S v) left)) (each-same (ways_at l S a v) (domain_of S v)) (told-each (λ x. is_true_at l S a (x ∷ env) v) (λ x. ways_at l S a v) (λ x. told_at l S a (x ∷ env) v) (λ x. told-truth l S a (x ∷ env) v) (domain_of S v) left)))
told-truth l S (ex a) env w = told-step _ _ _ (λ left. subst (λ k. Tells (list_any (λ x. is_true_at l S a (x ∷ env) w) (domain_of S w)) k left (some_told (λ x. told_at l S a (x ∷ env) w) (domain_of S w) left)) (each-same (ways_at l S a w) (domain_of S w)) (told-some (λ x. is_true_at l S a (x ∷ env) w) (λ x. ways_at l S a w) (λ x. told_at l S a (x ∷ env) w) (λ x. told-truth l S a (x ∷ env) w) (domain_of S w) left))
told-truth l S (box a) env w = told-step _ _ _ (told-each (λ v. is_true_at l S a env v) (ways_at l S a) (told_at l S a env) (λ v. told-truth l S a env v) (successors_of S w))
told-truth l S (dia a) env w = told-step _ _ _ (told-some (λ v. is_true_at l S a env v) (ways_at l S a) (told_at l S a env) (λ v. told-truth l S a env v) (successors_of S w))
