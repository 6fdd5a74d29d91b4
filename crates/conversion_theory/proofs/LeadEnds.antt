-- Where a led branch has come to a literal, an instance begins there or a complementary literal stands on the path; and where a led
-- run begins.
use Rattle.std.proofs.Common.{◌≡◌, ℕ, ◌+◌, ◌≤◌, arith, List, [], ◌∷◌, length, ◌&&◌, true, IsTrue, refl, ap, inl, inr, slice_get, remove, nat_lt}
use Rattle.std.specs.List.{AllByRecursion, list_all}
use Rattle.std.proofs.lemmas.Bool.{false≢true, and_parts}
use Rattle.calculus.specs.declared.sign.Sign.TheVariants.{F}
use Rattle.calculus.specs.Syntax.{Problem}
use Rattle.calculus.specs.Ground.{GroundLiteral}
use Rattle.calculus.specs.Problems.{formula_fits}
use Rattle.calculus.specs.Instances.{root_spot, ClauseInstance}
use Rattle.calculus.specs.ComputedInstances.{is_allowed_instance}
use Rattle.calculus.specs.Text.{is_number}
use Rattle.calculus.specs.Tableaux.{Closings, reduce, extend, Tableau, instances, instances_of_all, are_complementary, is_complement, ancestor, is_new_on, closes_all, is_closed, is_shown, is_short}
use Rattle.conversion_theory.specs.Turns.{Name, turns_of_instance, closings_count}
use Rattle.conversion_theory.specs.Numbering.{IsNumbering}
use Rattle.conversion_theory.specs.Branches.{item}
use Rattle.conversion_theory.specs.Leading.{End, meets_path, by_closing, closes_at_once, ends_of, ends_at, end_cost, closings_weight, Task, whole_task, task_cost, task_weight}
use Rattle.calculus.proofs.Members.{Among, all-among}
use Rattle.calculus.proofs.WalkLaws.{SomeIn, HasPair, pair_from, ancestor-All}
use Rattle.conversion_theory.proofs.BranchLaws.{Holding, complete-none}
use Rattle.conversion_theory.proofs.RunLaws.{Branch, branch, IsGood, run-start}
use Rattle.conversion_theory.proofs.TaskLaws.{IsEnd, ends-start, ends-extension, cost-start, weight-start, closing-positive}
use Rattle.conversion_theory.proofs.LedLaws.{IsTask}
use Rattle.conversion_theory.proofs.LeadLaws.{led, IsLed, whole-task}

-- a literal of the path that is complementary to one of S
path-pair : (S : GroundLiteral → Type 0) (x : GroundLiteral) (path : List GroundLiteral) → S x → AllByRecursion S path → SomeIn (λ y. IsTrue (are_complementary y x)) path → HasPair S
path-pair S x [] h held some = elim some [ ]
path-pair S x (y ∷ ys) h held (inl e) = (y, x, held.0, h, e)
path-pair S x (y ∷ ys) h held (inr some) = path-pair S x ys h held.1 some

pub end-positive : (e : End) → 1 ≤ end_cost e
end-positive meets_path = omega arith
end-positive (by_closing c) = closing-positive c

module _ (P : Problem) (d : ℕ) (t : Tableau) (names : List Name) (shut : IsTrue (is_closed P d t)) (numbering : IsNumbering P t names) (long : IsTrue (is_number (length names))) where
  -- an instance begins at the literal
  pub end-extends : (b : Branch) (k : Task) → IsTask P d t names b k → IsGood P t names b → (x : GroundLiteral) → Holding P.setting.logic b.items x → (i : ClauseInstance) (place : ℕ) (below : Closings) → IsEnd P t d k.path x (by_closing (extend i place below)) → (j : Task) × IsTask P d t names b j × (j.share.turns ≡ turns_of_instance P i) × (j.ends ≡ ends_at place below)
  end-extends b k h good x holds i place below end =
      let fresh = is_new_on k.path x && nat_lt (length k.path) d in
      let outer = and_parts (fresh && is_allowed_instance P i && is_complement x (slice_get i.literals place)) (closes_all P d (x ∷ k.path) (remove i.literals place) below) end.0 in
      let inner = and_parts (fresh && is_allowed_instance P i) (is_complement x (slice_get i.literals place)) outer.0 in
      let allowed = and_parts fresh (is_allowed_instance P i) inner.0 in
      let right = ends-extension P t d k.path x i.literals place below inner.1 outer.1 end.1.1 in
      let next = whole-task P d t names shut numbering long b i end.1.0 allowed.1 good (ends_at place below) (x ∷ k.path) right (holds, h.path) in
      (whole_task P next.0 (ends_at place below) (x ∷ k.path), next.1, next.2, refl)

  -- or a complementary literal stands on the path
  pub end-pair : (b : Branch) (k : Task) → IsTask P d t names b k → (x : GroundLiteral) → Holding P.setting.logic b.items x → (e : End) → closes_at_once e ≡ true → IsEnd P t d k.path x e → HasPair (Holding P.setting.logic b.items)
  end-pair b k h x holds meets_path once end = path-pair (Holding P.setting.logic b.items) x k.path holds h.path end
  end-pair b k h x holds (by_closing (reduce up)) once end =
      let parts = and_parts (is_new_on k.path x) (is_complement x (ancestor k.path up)) end.0 in
      pair_from (Holding P.setting.logic b.items) x (ancestor k.path up) holds (λ y e. ancestor-All (Holding P.setting.logic b.items) k.path up y h.path e) parts.1
  end-pair b k h x holds (by_closing (extend i place below)) once end = absurd (false≢true once)

  -- ---- the start

  -- the problem's formula, with the task of the start
  pub record Start : Type 0 where
    pub task : Task
    pub led : IsLed P d t names [] (led (branch (item root_spot F P.formula ∷ []) []) task ∷ [])
    pub cost : task_cost task ≡ closings_count t.goals
    pub weight : task_weight P task ≡ length (turns_of_instance P t.start) + closings_weight P t.goals
    pub turns : task.share.turns ≡ turns_of_instance P t.start
    pub ends : task.ends ≡ ends_of t.goals

  pub led-start : IsTrue (formula_fits P.setting.logic P.symbols 0 P.formula) → Start
  led-start fit =
      let started = is_allowed_instance P t.start && list_all is_shown t.start.literals in
      let outer = and_parts (started && closes_all P d [] t.start.literals t.goals) (is_short P t) shut in
      let inner = and_parts started (closes_all P d [] t.start.literals t.goals) outer.0 in
      let first = and_parts (is_allowed_instance P t.start) (list_all is_shown t.start.literals) inner.0 in
      let run = run-start P t names fit in
      let b = branch (item root_spot F P.formula ∷ []) [] in
      let inside = all-among (Among (instances t)) (instances_of_all t.goals) (λ i m. inr m) in
      let right = ends-start P t d [] t.start.literals t.goals inner.1 inside in
      let whole = whole-task P d t names shut numbering long b t.start (inl refl) first.0 run.good.0 (ends_of t.goals) [] right tt in
      let turns = ap length whole.2 in
      let weights = weight-start P t.goals in
      record {
        task = whole_task P whole.0 (ends_of t.goals) [];
        led = record { run = run; kept = (record { task = whole.1; left = λ y m. elim m [ ]; complete = complete-none P t }, tt) };
        cost = cost-start t.goals;
        weight = omega arith;
        turns = whole.2;
        ends = refl;
      }
