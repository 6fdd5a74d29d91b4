-- The judgement of moves whose instances are found.
use Rattle.std.specs.Prelude.{◌≡◌, ℕ, suc, ◌≤◌, List, [], ◌∷◌, ◌++◌, length, map, reverse, take, Bool, Option, Some, None, Result, Ok, Err, nat_lt, if◌then◌else◌}
use Rattle.std.specs.List.{list_all, AllByRecursion}
use Rattle.calculus.specs.declared.fault.TableauFault.{TableauFault}
use Rattle.calculus.specs.declared.fault.TableauFault.TheVariants as fault
use Rattle.calculus.specs.Ground.{GroundLiteral}
use Rattle.calculus.specs.Instances.{ClauseInstance}
use Rattle.calculus.specs.Tableaux.{ancestor, is_complement, is_shown}
use Rattle.calculus.specs.Syntax.{Problem}
use Rattle.calculus.specs.TableauText.{Move, OpenGoal, TableauVerdict, tableau_accepted, tableau_rejected, below, extended, verdict_after_move}
use Rattle.formula_core.specs.GroundLists.{GroundList, IsGrown}
use Rattle.tableau_core.specs.Walks.{capped}
use Rattle.tableau_core.specs.Numbered.LiteralView.{the_literal}
use Rattle.tableau_core.specs.declared.literal.GroundLiteral as numbered
use Rattle.tableau_cert.specs.Gathering.{AreNormalLiterals, IsNormalLiteral}
use Rattle.tableau_cert.specs.Resolving.{Closer, by_reduction, by_extension, closer_of, move_steps}
use Rattle.tableau_cert.specs.declared.judging.OpenGoal as program
use Rattle.tableau_cert.specs.declared.judging.Closed.{Closed}
use Rattle.tableau_cert.specs.declared.judging.Closed.TheVariants.{Goals, Wrong}

abbrev pub literals_in : Result ClauseInstance TableauFault → Result (List GroundLiteral) TableauFault
literals_in (Err f) = Err f
literals_in (Ok i) = Ok i.literals

abbrev pub closed_by : ℕ → OpenGoal → Closer → Result (List OpenGoal) TableauFault
closed_by limit g (by_reduction k) = if is_complement g.goal (ancestor g.path k) then Ok [] else Err fault.NoConnection
closed_by limit g (by_extension place r) = if nat_lt (length g.path) limit then extended g place (literals_in r) else Err fault.PathLimit

-- the open goals, the first one being closed next; the first move stands in this line; `last` is the verdict at `end`
unfoldable pub closers_verdict : ℕ → (ℕ → TableauVerdict) → List OpenGoal → List Closer → ℕ → TableauVerdict
closers_verdict limit last [] [] line = last line
closers_verdict limit last (g ∷ gs) [] line = tableau_rejected line fault.StillOpen
closers_verdict limit last [] (c ∷ cs) line = tableau_rejected line fault.AllClosed
closers_verdict limit last (g ∷ gs) (c ∷ cs) line = verdict_after_move line (closed_by limit g c) (λ new. closers_verdict limit last (new ++ gs) cs (suc line))

abbrev pub last_verdict : Bool → ℕ → TableauVerdict
last_verdict short line = if short then tableau_accepted else tableau_rejected line fault.StringTooLong

abbrev pub resolved_verdict : ℕ → Result ClauseInstance TableauFault → List Closer → Bool → TableauVerdict
resolved_verdict limit (Err f) cs short = tableau_rejected 5 f
resolved_verdict limit (Ok i) cs short = if list_all is_shown i.literals then closers_verdict limit (last_verdict short) (below [] i.literals) cs 6 else tableau_rejected 5 fault.NotPositive

-- a path has its nearest goal at its end
abbrev pub the_path : List GroundList → List numbered.GroundLiteral → List GroundLiteral
the_path ls path = map (the_literal ls) (reverse path)

abbrev pub goal_at : List GroundList → List numbered.GroundLiteral → numbered.GroundLiteral → OpenGoal
goal_at ls path x = record { path = the_path ls path; goal = the_literal ls x }

-- the goal, whose path is the beginning of this one
abbrev pub the_open : List GroundList → List numbered.GroundLiteral → program.OpenGoal → OpenGoal
the_open ls path g = goal_at ls (take g.depth path) g.literal

abbrev pub the_closed : List GroundList → List numbered.GroundLiteral → numbered.GroundLiteral → Closed → Result (List OpenGoal) TableauFault
the_closed ls path x (Goals v) = Ok (below (the_literal ls x ∷ the_path ls path) (map (the_literal ls) v.items))
the_closed ls path x (Wrong f) = Err f

-- each goal has no longer a path than the one before it
abbrev pub AreNested : ℕ → List program.OpenGoal → Type 0
AreNested k [] = k ≡ k
AreNested k (g ∷ gs) = (g.depth ≤ k) × AreNested g.depth gs

abbrev pub goal_of : ℕ → numbered.GroundLiteral → program.OpenGoal
goal_of depth x = record { literal = x; depth = depth }

-- ---- literals that stay the same when the table grows

abbrev pub IsNormalGoal : List GroundList → program.OpenGoal → Type 0
IsNormalGoal ls g = IsNormalLiteral ls g.literal

pub record AreNormalGoals (ls : List GroundList) (above : List numbered.GroundLiteral) (below_it : List program.OpenGoal) : Type 0 where
  pub path : AreNormalLiterals ls above
  pub goals : AllByRecursion (IsNormalGoal ls) below_it

abbrev pub IsNormalClosed : List GroundList → Closed → Type 0
IsNormalClosed ls (Goals v) = AreNormalLiterals ls v.items
IsNormalClosed ls (Wrong f) = f ≡ f

-- ---- one move

-- the goal that comes next is closed: these goals are open instead, over the table that there is then
pub record IsNext (before ls : List GroundList) (path : List numbered.GroundLiteral) (goals : List program.OpenGoal) (longer : List numbered.GroundLiteral) (more : List program.OpenGoal) (r : Result (List OpenGoal) TableauFault) : Type 0 where
  pub new : List OpenGoal
  pub closes : r ≡ Ok new
  pub opened : map (the_open ls longer) (reverse more) ≡ new ++ map (the_open before path) (reverse goals)
  pub nested : AreNested (length longer) (reverse more)
  pub normal : AreNormalGoals ls longer more

abbrev pub Takes : List GroundList → List GroundList → List numbered.GroundLiteral → List program.OpenGoal → List numbered.GroundLiteral → List program.OpenGoal → Result (List OpenGoal) TableauFault → Option TableauFault → Type 0
Takes before ls path goals longer more r (Some f) = r ≡ Err f
Takes before ls path goals longer more r None = IsNext before ls path goals longer more r

-- the goal that comes next is taken by the move, whose instance has so many steps
pub record IsMoved (P : Problem) (limit : ℕ) (before : List GroundList) (path : List numbered.GroundLiteral) (goals : List program.OpenGoal) (g : program.OpenGoal) (m : Move) (after : List GroundList) (longer : List numbered.GroundLiteral) (more : List program.OpenGoal) (o : Option TableauFault) (n : ℕ) : Type 0 where
  pub takes : Takes before after path goals longer more (closed_by limit (the_open before path g) (closer_of P m)) o
  pub steps : n ≡ capped (move_steps P m)
  pub grown : IsGrown before after

abbrev pub end_verdict : Bool → Bool → ℕ → TableauVerdict
end_verdict closed short line = if closed then last_verdict short line else tableau_rejected line fault.StillOpen
