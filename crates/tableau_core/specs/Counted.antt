-- Closings, with what is counted of their instances.
use Rattle.std.specs.Prelude.{ℕ, ◌+◌, max, List, [], ◌∷◌, Bool, true, ◌&&◌, Option, Some, None, nat_lt, nat_le, length, slice_get, if◌then◌else◌}
use Rattle.calculus.specs.declared.setting.Logic.{Logic}
use Rattle.calculus.specs.ComputedInstances.{is_allowed_instance, modal_steps}
use Rattle.calculus.specs.Ground.{GroundLiteral, Value, term, steps, marks_list}
use Rattle.calculus.specs.Instances.{ClauseInstance}
use Rattle.calculus.specs.Syntax.{Problem}
use Rattle.calculus.specs.Tableaux.{Closing, Closings, closes, closes_all, has_unbounded_strings, instances_below, instances_of_all, is_complement, is_new_on, total_steps}
use Rattle.tableau_core.specs.Walks.{capped}
use Rattle.tableau_core.specs.declared.count.Count.{Count}

abbrev pub string_length : Value → ℕ
string_length (term t) = 0
string_length (steps w) = length (marks_list w)

abbrev pub longest_string : List Value → ℕ
longest_string [] = 0
longest_string (v ∷ vs) = max (string_length v) (longest_string vs)

abbrev pub longest_of : List ClauseInstance → ℕ
longest_of [] = 0
longest_of (i ∷ is) = max (longest_string i.values) (longest_of is)

-- what is counted so far, and k steps and a string of length w more
abbrev pub and_more : Count → ℕ → ℕ → Count
and_more n k w = record { steps = capped (n.steps + k); longest = max n.longest w }

abbrev pub counted : Bool → Count → ℕ → ℕ → Option Count
counted b n k w = if b then Some (and_more n k w) else None

-- what is counted so far and below a goal, where it is closed
unfoldable pub closed_one : Problem → ℕ → List GroundLiteral → GroundLiteral → Closing → Count → Option Count
closed_one P d path goal c n = counted (closes P d path goal c) n (total_steps P (instances_below c)) (longest_of (instances_below c))

-- what is counted so far and below these goals, where they are closed
unfoldable pub closed_all : Problem → ℕ → List GroundLiteral → List GroundLiteral → Closings → Count → Option Count
closed_all P d path goals cs n = counted (closes_all P d path goals cs) n (total_steps P (instances_of_all cs)) (longest_of (instances_of_all cs))

-- an instance that is allowed extends a path that is short enough
abbrev pub extends : Problem → ℕ → List GroundLiteral → GroundLiteral → ClauseInstance → ℕ → Bool
extends P d path goal i place = is_new_on path goal && nat_lt (length path) d && is_allowed_instance P i && is_complement goal (slice_get i.literals place)

-- the number of its steps
unfoldable pub steps_if_extends : Problem → ℕ → List GroundLiteral → GroundLiteral → ClauseInstance → ℕ → Option ℕ
steps_if_extends P d path goal i place = if extends P d path goal i place then Some (capped (modal_steps P i)) else None

-- no string is longer than the number of steps, where the logic asks for it
abbrev pub is_short_count : Logic → Count → Bool
is_short_count l n = if has_unbounded_strings l then nat_le n.longest n.steps else true
