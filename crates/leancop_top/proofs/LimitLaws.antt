-- Within the limit 0 no tableau is closed, since each clause has a literal.
use Rattle.std.proofs.Common.{ℕ, zero, suc, ◌<◌, ◌≤◌, List, [], ◌∷◌, length, length-append, IsTrue, sym, subst, arith}
use Rattle.std.proofs.lemmas.Bool.{false≢true, and_parts}
use Rattle.calculus.specs.declared.setting.Logic.{Logic}
use Rattle.calculus.specs.declared.sign.Sign.{Sign}
use Rattle.calculus.specs.Syntax.{Formula, Problem}
use Rattle.calculus.specs.Ground.{GroundLiteral}
use Rattle.calculus.specs.Instances.{Spot, Share, Gives, Shaped, by_plain, by_nu, by_pi, is_literal, by_only, by_left, by_right, by_both, by_gamma, by_delta, ClauseInstance}
use Rattle.calculus.specs.ComputedInstances.{is_allowed_instance}
use Rattle.calculus.specs.Tableaux.{Closing, Closings, reduce, extend, no_closings, more_closings, ancestor, is_complement, is_new_on, closes, closes_all, HasClosed}
use Rattle.calculus.proofs.CasesLaws.{is_allowed_instance-exact}
use Rattle.calculus.proofs.GrowthLaws.{closed-parts, extended-parts}

mutual
  some-literal : (l : Logic) (c : Spot) (s : Sign) (f : Formula) (x : Share) → Gives l c s f x → 1 ≤ length x.literals
  some-literal l c s f x (by_plain e g) = some-shaped l c s f x g
  some-literal l c s f x (by_nu {x = y} w e q g) = some-shaped l _ s f y g
  some-literal l c s f x (by_pi {x = y} e g) = some-shaped l _ s f y g

  some-shaped : (l : Logic) (d : Spot) (s : Sign) (f : Formula) (x : Share) → Shaped l d s f x → 1 ≤ length x.literals
  some-shaped l d s f x is_literal = omega arith
  some-shaped l d s f x (by_only {x = y} e q g) = some-literal l _ _ _ y g
  some-shaped l d s f x (by_left {x = y} e q g) = some-literal l _ _ _ y g
  some-shaped l d s f x (by_right {x = y} e q g) = some-literal l _ _ _ y g
  some-shaped l d s f x (by_both {x = y} {y = z} e q g j) = let n = some-literal l _ _ _ y g in let m = length-append y.literals z.literals in omega arith
  some-shaped l d s f x (by_gamma {x = y} t e q g) = some-literal l _ _ _ y g
  some-shaped l d s f x (by_delta {x = y} e q g) = some-literal l _ _ _ y g

instance-literal : (P : Problem) (i : ClauseInstance) → IsTrue (is_allowed_instance P i) → 1 ≤ length i.literals
instance-literal P i h =
    let x = (is_allowed_instance-exact P i).0 h in
    subst (λ (j : ClauseInstance). 1 ≤ length j.literals) (sym x.2) (some-literal P.setting.logic _ _ P.formula x.0 x.1.instance.given)

none-without_path : (P : Problem) (x : GroundLiteral) (c : Closing) → IsTrue (closes P 0 [] x c) → ⊥
none-without_path P x (reduce zero) h = false≢true (and_parts (is_new_on [] x) (is_complement x (ancestor [] zero)) h).1
none-without_path P x (reduce (suc k)) h = false≢true (and_parts (is_new_on [] x) (is_complement x (ancestor [] (suc k))) h).1
none-without_path P x (extend i place below) h = false≢true (extended-parts P 0 [] x i place below h).within

none-at_once : (P : Problem) (xs : List GroundLiteral) (cs : Closings) → 1 ≤ length xs → IsTrue (closes_all P 0 [] xs cs) → ⊥
none-at_once P [] cs e h = absurd (omega arith)
none-at_once P (x ∷ xs) no_closings e h = false≢true h
none-at_once P (x ∷ xs) (more_closings c cs) e h = none-without_path P x c (and_parts (closes P 0 [] x c) (closes_all P 0 [] xs cs) h).0

none-within_0 : (P : Problem) → HasClosed P 0 → ⊥
none-within_0 P h =
    let c = closed-parts P 0 h.tableau h.closed in
    none-at_once P h.tableau.start.literals h.tableau.goals (instance-literal P h.tableau.start c.allowed) c.all_closed

-- what holds of the limits from 1 holds of all
pub none_below : (P : Problem) (d : ℕ) → ((e : ℕ) → 1 ≤ e → e < d → ¬ HasClosed P e) → (e : ℕ) → e < d → ¬ HasClosed P e
none_below P d h zero less = none-within_0 P
none_below P d h (suc e) less = h (suc e) (omega arith) less

pub none_within : (P : Problem) (d : ℕ) → ((e : ℕ) → 1 ≤ e → e ≤ d → ¬ HasClosed P e) → ¬ HasClosed P d
none_within P zero h = none-within_0 P
none_within P (suc d) h = h (suc d) (omega arith) (omega arith)
