-- What is still ahead of a led branch costs something.
use Rattle.std.proofs.Common.{ℕ, ◌≤◌, arith, List, [], ◌∷◌, length, length-append, ap}
use Rattle.calculus.specs.declared.sign.Sign.{Sign}
use Rattle.calculus.specs.declared.setting.Logic.{Logic}
use Rattle.calculus.specs.Syntax.{Formula, Problem}
use Rattle.calculus.specs.Instances.{Spot, Turn, Share, Gives, Shaped, by_plain, by_nu, by_pi, is_literal, by_only, by_left, by_right, by_both, by_gamma, by_delta}
use Rattle.calculus.specs.Tableaux.{Tableau}
use Rattle.conversion_theory.specs.Turns.{Name}
use Rattle.conversion_theory.specs.Leading.{End, ends_cost}
use Rattle.conversion_theory.proofs.RunLaws.{Branch}
use Rattle.conversion_theory.proofs.TaskLaws.{length-ends}
use Rattle.conversion_theory.proofs.LedLaws.{turn-first}
use Rattle.conversion_theory.proofs.SegmentLaws.{Leads}
use Rattle.conversion_theory.proofs.LeadEnds.{end-positive}

-- ---- a branch that is open has something ahead

mutual
  some-literal : (l : Logic) (c : Spot) (s : Sign) (f : Formula) (x : Share) → Gives l c s f x → 1 ≤ length x.literals
  some-literal l c s f x (by_plain e g) = some-shaped l c s f x g
  some-literal l c s f x (by_nu {x = y} w e q g) = some-shaped l _ s f y g
  some-literal l c s f x (by_pi {x = y} e g) = some-shaped l _ s f y g

  some-shaped : (l : Logic) (d : Spot) (s : Sign) (f : Formula) (x : Share) → Shaped l d s f x → 1 ≤ length x.literals
  some-shaped l d s f x is_literal = omega arith
  some-shaped l d s f x (by_only {x = y} e q g) = some-literal l _ _ _ y g
  some-shaped l d s f x (by_left {x = y} e q g) = some-literal l _ _ _ y g
  some-shaped l d s f x (by_right {x = y} e q g) = some-literal l _ _ _ y g
  some-shaped l d s f x (by_both {x = y} {y = z} e q g j) = let n = some-literal l _ _ _ y g in let m = length-append y.literals z.literals in omega arith
  some-shaped l d s f x (by_gamma {x = y} t e q g) = some-literal l _ _ _ y g
  some-shaped l d s f x (by_delta {x = y} e q g) = some-literal l _ _ _ y g

cost-positive : (es : List End) → 1 ≤ length es → 1 ≤ ends_cost es
cost-positive [] h = absurd (omega arith)
cost-positive (e ∷ es) h = let p = end-positive e in omega arith

module _ (P : Problem) (d : ℕ) (t : Tableau) (names : List Name) where
  pub leads-cost : (b : Branch) (ts : List Turn) (es : List End) → Leads P d t names b ts es → 1 ≤ ends_cost es
  leads-cost b ts es l =
      let k = l.task in
      let some = some-literal P.setting.logic k.spot k.sign k.formula k.share l.right.gives in
      let many = length-ends P t d k.path k.share.literals k.ends l.right.ends in
      let same = ap length l.ends in
      cost-positive es (omega arith)

  pub leads-turns : (b : Branch) (ts : List Turn) (es : List End) → Leads P d t names b ts es → 1 ≤ length ts
  leads-turns b ts es l = let f = turn-first P d t names b l.task l.right in let n = ap length f.1 in let m = ap length l.turns in omega arith
