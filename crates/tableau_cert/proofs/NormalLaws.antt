-- Goals and those above them when the table grows.
use Rattle.std.proofs.Common.{◌≡◌, ℕ, List, [], ◌∷◌, ◌++◌, map, reverse, take, Some, None, Option, refl, sym, ◌∙◌, ap, subst}
use Rattle.std.specs.List.{AllByRecursion}
use Rattle.calculus.specs.declared.fault.TableauFault.{TableauFault}
use Rattle.formula_core.specs.GroundLists.{GroundList, IsGrown}
use Rattle.tableau_core.specs.declared.literal.GroundLiteral as numbered
use Rattle.tableau_cert.proofs.AllLaws.{all-joined, all-reversed, all-taken}
use Rattle.tableau_cert.proofs.SteppingLaws.{literal-grown, literals-grown, literals-normal-grown}
use Rattle.tableau_cert.specs.Gathering.{AreNormalLiterals, IsNormalLiteral}
use Rattle.tableau_cert.specs.Judging.{AreNormalGoals, IsNormalGoal, Takes, closed_by, goal_of, the_open}
use Rattle.tableau_cert.specs.Resolving.{Closer}
use Rattle.tableau_cert.specs.declared.judging.OpenGoal as program

-- ---- lists of which something holds throughout

module _ {X : Type 0} (P : X → Type 0) where
  all-but_last : (xs : List X) (x : X) → AllByRecursion P (xs ++ x ∷ []) → P x × AllByRecursion P xs
  all-but_last [] x h = (h.0, tt)
  all-but_last (y ∷ ys) x h = let r = all-but_last ys x h.1 in (r.0, (h.0, r.1))

-- ---- goals

-- the goal is closed by literals that are normal
pub next-normal : (ls : List GroundList) (path : List numbered.GroundLiteral) (goals : List program.OpenGoal) (g : program.OpenGoal) (below_it long : List numbered.GroundLiteral) (more : List program.OpenGoal) (k : ℕ) → AreNormalGoals ls path (g ∷ goals) → AreNormalLiterals ls below_it → long ≡ take g.depth path ++ g.literal ∷ [] → more ≡ goals ++ reverse (map (goal_of k) below_it) → AreNormalGoals ls long more
next-normal ls path goals g below_it long more k n h e q = record {
  path = subst (AreNormalLiterals ls) (sym e) (all-joined (IsNormalLiteral ls) (take g.depth path) (g.literal ∷ []) (all-taken (IsNormalLiteral ls) g.depth path n.path) (n.goals.0, tt));
  goals = subst (AllByRecursion (IsNormalGoal ls)) (sym q) (all-joined (IsNormalGoal ls) goals (reverse (map (goal_of k) below_it)) n.goals.1 (all-reversed (IsNormalGoal ls) (map (goal_of k) below_it) (by below_it h)));
}
  where
    by : (xs : List numbered.GroundLiteral) → AreNormalLiterals ls xs → AllByRecursion (IsNormalGoal ls) (map (goal_of k) xs)
    by [] h = tt
    by (x ∷ xs) h = (h.0, by xs h.1)

-- the last goal comes next
pub normal-popped : (ls : List GroundList) (path : List numbered.GroundLiteral) (all rest : List program.OpenGoal) (g : program.OpenGoal) → all ≡ rest ++ g ∷ [] → AreNormalGoals ls path all → AreNormalGoals ls path (g ∷ rest)
normal-popped ls path all rest g e n = record { path = n.path; goals = all-but_last (IsNormalGoal ls) rest g (subst (AllByRecursion (IsNormalGoal ls)) e n.goals) }

pub normal-begins : (ls : List GroundList) (goals path : List numbered.GroundLiteral) (begun : List program.OpenGoal) → path ≡ [] → begun ≡ reverse (map (goal_of 0) goals) → AreNormalLiterals ls goals → AreNormalGoals ls path begun
normal-begins ls goals path begun p e n = record {
  path = subst (AreNormalLiterals ls) (sym p) tt;
  goals = subst (AllByRecursion (IsNormalGoal ls)) (sym e) (all-reversed (IsNormalGoal ls) (map (goal_of 0) goals) (by goals n));
}
  where
    by : (xs : List numbered.GroundLiteral) → AreNormalLiterals ls xs → AllByRecursion (IsNormalGoal ls) (map (goal_of 0) xs)
    by [] h = tt
    by (x ∷ xs) h = (h.0, by xs h.1)

-- ---- the table grows

module _ (a b : List GroundList) (g : IsGrown a b) (path : List numbered.GroundLiteral) (p : AreNormalLiterals a path) where
  pub open-grown : (x : program.OpenGoal) → IsNormalGoal a x → the_open b path x ≡ the_open a path x
  open-grown x h = λ i. record { path = literals-grown a b g (reverse (take x.depth path)) (all-reversed (IsNormalLiteral a) (take x.depth path) (all-taken (IsNormalLiteral a) x.depth path p)) i; goal = literal-grown a b g x.literal h i }

  opens-grown : (xs : List program.OpenGoal) → AllByRecursion (IsNormalGoal a) xs → map (the_open b path) xs ≡ map (the_open a path) xs
  opens-grown [] h = refl
  opens-grown (x ∷ xs) h = λ i. open-grown x h.0 i ∷ opens-grown xs h.1 i

goals-normal-grown : (a b : List GroundList) (g : IsGrown a b) (xs : List program.OpenGoal) → AllByRecursion (IsNormalGoal a) xs → AllByRecursion (IsNormalGoal b) xs
goals-normal-grown a b g [] h = tt
goals-normal-grown a b g (x ∷ xs) h = ((literals-normal-grown a b g (x.literal ∷ []) (h.0, tt)).0, goals-normal-grown a b g xs h.1)

pub goals-grown : (a b : List GroundList) → IsGrown a b → (path : List numbered.GroundLiteral) (xs : List program.OpenGoal) → AreNormalGoals a path xs → AreNormalGoals b path xs
goals-grown a b g path xs n = record { path = literals-normal-grown a b g path n.path; goals = goals-normal-grown a b g xs n.goals }

-- the goal is closed over a table that has grown since it was opened
pub taken-grown : (a b : List GroundList) → IsGrown a b → (limit : ℕ) (path longer : List numbered.GroundLiteral) (goals more : List program.OpenGoal) (x : program.OpenGoal) (c d : Closer) (o : Option TableauFault) → AreNormalGoals a path (x ∷ goals) → c ≡ d → Takes b b path goals longer more (closed_by limit (the_open b path x) c) o → Takes a b path goals longer more (closed_by limit (the_open a path x) d) o
taken-grown a b g limit path longer goals more x c d o n e h = by o (subst (λ r. Takes b b path goals longer more r o) (λ i. closed_by limit (open-grown a b g path n.path x n.goals.0 i) (e i)) h)
  where
    by : (o : Option TableauFault) → Takes b b path goals longer more (closed_by limit (the_open a path x) d) o → Takes a b path goals longer more (closed_by limit (the_open a path x) d) o
    by (Some f) h = h
    by None h = record {
      new = h.new;
      closes = h.closes;
      opened = h.opened ∙ ap (λ xs. h.new ++ xs) (opens-grown a b g path n.path (reverse goals) (all-reversed (IsNormalGoal a) goals n.goals.1));
      nested = h.nested;
      normal = h.normal;
    }
