-- What is told of the parts of a formula tells its truth, one step having been taken for it.
use Rattle.std.proofs.Common.{Result, Ok, ◌≡◌, ◌↔◌, ℕ, zero, suc, ◌+◌, ◌-◌, ◌<◌, ◌≤◌, List, ◌∷◌, Bool, true, false, not, IsTrue, refl, sym, ◌∙◌, ap, subst, arith, if◌then◌else◌}
use Rattle.std.specs.List.{list_all}
use Rattle.std.proofs.lemmas.Bool.{true≢false, false≢true}
use Rattle.calculus.specs.declared.setting.Logic.{Logic}
use Rattle.calculus.specs.Syntax.{Formula, Terms, atom, neg, conj, disj, imp, all, ex, box, dia}
use Rattle.calculus.specs.Structures.{Structure, successors_of, domain_of, is_true_at, predicate_value, term_values}
use Rattle.calculus.specs.StructureTruth.{Told, told, ran_out, after_told, chosen_worlds, told_at, not_told, each_told, either_told}
use Rattle.cop_base.specs.declared.ledger.Ledger.{Ledger}
use Rattle.finite_model.specs.declared.truth.StepsEnded.{StepsEnded}
use Rattle.finite_model.specs.Seeking.{seek_told, decide_told, left, IsTold}
use Rattle.finite_model.proofs.SeekLaws.{told-stepped, each-sought, each-not_sought, some-sought, both-decided, either-decided, implied-decided, each-same}
use Rattle.finite_model.proofs.ValueLaws.{here-chosen}

told-so : (r : Result Bool StepsEnded) (led : Ledger) (s t : Told) → IsTold r led s → s ≡ t → IsTold r led t
told-so r led s t h e = subst (IsTold r led) e h

pub arm-atom : (l : Logic) (S : Structure) (p : ℕ) (ts : Terms) (env : List ℕ) (w n : ℕ) (b : Bool) (led : Ledger) (ws : List ℕ) → n ≡ suc (left led) → ws ≡ chosen_worlds l S w → b ≡ list_all (λ v. predicate_value S p v (term_values S env ts)) ws → IsTold (Ok b) led (told_at l S (atom p ts) env w n)
arm-atom l S p ts env w n b led ws e chosen value =
    told-stepped (Ok b) led (told (is_true_at l S (atom p ts) env w)) n (left led) e
    (ap (λ c. told c (left led)) (sym (value ∙ ap (list_all (λ v. predicate_value S p v (term_values S env ts))) chosen ∙ here-chosen l S w (λ v. predicate_value S p v (term_values S env ts)))))

pub arm-not : (l : Logic) (S : Structure) (a : Formula) (env : List ℕ) (w n m : ℕ) (r : Result Bool StepsEnded) (led : Ledger) (ws : List ℕ) → n ≡ suc m → ws ≡ chosen_worlds l S w → IsTold r led (after_told (seek_told true (told_at l S a env) ws m) (λ b k. told (not b) k)) → IsTold r led (told_at l S (neg a) env w n)
arm-not l S a env w n m r led ws e chosen h =
    told-stepped r led (each_told (λ v. not_told (told_at l S a env v)) (chosen_worlds l S w)) n m e
    (told-so r led _ _ h (each-not_sought (told_at l S a env) ws m ∙ ap (λ vs. each_told (λ v. not_told (told_at l S a env v)) vs m) chosen))

pub arm-and : (l : Logic) (S : Structure) (a b : Formula) (env : List ℕ) (w n m : ℕ) (r : Result Bool StepsEnded) (led : Ledger) → n ≡ suc m → IsTold r led (decide_told false false (told_at l S a env w) (told_at l S b env w) m) → IsTold r led (told_at l S (conj a b) env w n)
arm-and l S a b env w n m r led e h = told-stepped r led _ n m e (told-so r led _ _ h (both-decided (told_at l S a env w) (told_at l S b env w) m))

pub arm-or : (l : Logic) (S : Structure) (a b : Formula) (env : List ℕ) (w n m : ℕ) (r : Result Bool StepsEnded) (led : Ledger) → n ≡ suc m → IsTold r led (decide_told true true (told_at l S a env w) (told_at l S b env w) m) → IsTold r led (told_at l S (disj a b) env w n)
arm-or l S a b env w n m r led e h = told-stepped r led _ n m e (told-so r led _ _ h (either-decided (told_at l S a env w) (told_at l S b env w) m))

pub arm-imp : (l : Logic) (S : Structure) (a b : Formula) (env : List ℕ) (w n m : ℕ) (r : Result Bool StepsEnded) (led : Ledger) (ws : List ℕ) → n ≡ suc m → ws ≡ chosen_worlds l S w → IsTold r led (each_told (λ v. decide_told false true (told_at l S a env v) (told_at l S b env v)) ws m) → IsTold r led (told_at l S (imp a b) env w n)
arm-imp l S a b env w n m r led ws e chosen h =
    told-stepped r led (each_told (λ v. either_told (not_told (told_at l S a env v)) (told_at l S b env v)) (chosen_worlds l S w)) n m e
    (told-so r led _ _ h (each-same _ _ (λ v k. implied-decided (told_at l S a env v) (told_at l S b env v) k) ws m ∙ ap (λ vs. each_told (λ v. either_told (not_told (told_at l S a env v)) (told_at l S b env v)) vs m) chosen))

pub arm-all : (l : Logic) (S : Structure) (a : Formula) (env : List ℕ) (w n m : ℕ) (r : Result Bool StepsEnded) (led : Ledger) (ws : List ℕ) → n ≡ suc m → ws ≡ chosen_worlds l S w → IsTold r led (each_told (λ v. not_told (seek_told false (λ x. told_at l S a (x ∷ env) v) (domain_of S v))) ws m) → IsTold r led (told_at l S (all a) env w n)
arm-all l S a env w n m r led ws e chosen h =
    told-stepped r led (each_told (λ v. each_told (λ x. told_at l S a (x ∷ env) v) (domain_of S v)) (chosen_worlds l S w)) n m e
    (told-so r led _ _ h (each-same _ _ (λ v k. each-sought (λ x. told_at l S a (x ∷ env) v) (domain_of S v) k) ws m ∙ ap (λ vs. each_told (λ v. each_told (λ x. told_at l S a (x ∷ env) v) (domain_of S v)) vs m) chosen))

pub arm-ex : (l : Logic) (S : Structure) (a : Formula) (env : List ℕ) (w n m : ℕ) (r : Result Bool StepsEnded) (led : Ledger) → n ≡ suc m → IsTold r led (seek_told true (λ x. told_at l S a (x ∷ env) w) (domain_of S w) m) → IsTold r led (told_at l S (ex a) env w n)
arm-ex l S a env w n m r led e h = told-stepped r led _ n m e (told-so r led _ _ h (some-sought (λ x. told_at l S a (x ∷ env) w) (domain_of S w) m))

pub arm-box : (l : Logic) (S : Structure) (a : Formula) (env : List ℕ) (w n m : ℕ) (r : Result Bool StepsEnded) (led : Ledger) (ws : List ℕ) → n ≡ suc m → ws ≡ successors_of S w → IsTold r led (after_told (seek_told false (told_at l S a env) ws m) (λ b k. told (not b) k)) → IsTold r led (told_at l S (box a) env w n)
arm-box l S a env w n m r led ws e reached h =
    told-stepped r led (each_told (told_at l S a env) (successors_of S w)) n m e
    (told-so r led _ _ h (each-sought (told_at l S a env) ws m ∙ ap (λ vs. each_told (told_at l S a env) vs m) reached))

pub arm-dia : (l : Logic) (S : Structure) (a : Formula) (env : List ℕ) (w n m : ℕ) (r : Result Bool StepsEnded) (led : Ledger) (ws : List ℕ) → n ≡ suc m → ws ≡ successors_of S w → IsTold r led (seek_told true (told_at l S a env) ws m) → IsTold r led (told_at l S (dia a) env w n)
arm-dia l S a env w n m r led ws e reached h =
    told-stepped r led _ n m e
    (told-so r led _ _ (subst (λ vs. IsTold r led (seek_told true (told_at l S a env) vs m)) reached h) (some-sought (told_at l S a env) (successors_of S w) m))

-- at a formula that has this form
pub at-form : (l : Logic) (S : Structure) (f g : Formula) (env : List ℕ) (w n : ℕ) (r : Result Bool StepsEnded) (led : Ledger) → f ≡ g → IsTold r led (told_at l S g env w n) → IsTold r led (told_at l S f env w n)
at-form l S f g env w n r led e h = subst (λ k. IsTold r led (told_at l S k env w n)) (sym e) h

-- ---- the step

pub no-step : (l : Logic) (S : Structure) (f : Formula) (env : List ℕ) (w n : ℕ) → n ≡ 0 → told_at l S f env w n ≡ ran_out
no-step l S f env w n e = ap (told_at l S f env w) e ∙ by f
  where
    by : (f : Formula) → told_at l S f env w zero ≡ ran_out
    by (atom p ts) = refl
    by (neg a) = refl
    by (conj a b) = refl
    by (disj a b) = refl
    by (imp a b) = refl
    by (all a) = refl
    by (ex a) = refl
    by (box a) = refl
    by (dia a) = refl

pub none-left : (r : Bool) (used budget after : ℕ) → used ≤ budget → (IsTrue r ↔ used < budget) → after ≡ (if r then used + 1 else used) → r ≡ false → (budget - used ≡ 0) × (after ≡ budget)
none-left true used budget after h k e f = absurd (true≢false f)
none-left false used budget after h k e f =
    let full : ¬ (used < budget) = λ lt. true≢false (sym (k.1 lt)) in
    let same : used ≡ budget = omega (arith, full) in
    (omega arith, e ∙ same)

pub one-taken : (r : Bool) (used budget after left_budget : ℕ) → (IsTrue r ↔ used < budget) → after ≡ (if r then used + 1 else used) → left_budget ≡ budget → r ≡ true → budget - used ≡ suc (left_budget - after)
one-taken false used budget after left_budget k e b f = absurd (false≢true f)
one-taken true used budget after left_budget k e b f = let lt : used < budget = k.0 refl in omega arith
