-- Lists of ground choices whose connections have agreeing labels and whose instances are allowed, as closed tableaux ask.
use Rattle.std.specs.Prelude.{List, [], ◌∷◌, Bool, true, false, ◌&&◌, slice_get, ◌≡◌, length, take, drop, remove, if◌then◌else◌}
use Rattle.std.specs.List.{list_all}
use Rattle.std.specs.Option.{option_map_or}
use Rattle.calculus.specs.Syntax.{Problem}
use Rattle.calculus.specs.ComputedInstances.{is_allowed_instance}
use Rattle.calculus.specs.Lists.{closings_tree}
use Rattle.calculus.specs.Tableaux.{is_complement, ancestor, Closing, reduce, extend, Tableau, has_unbounded_strings, strings_within, total_steps}
use Rattle.calculus.specs.Space.{instances_in}
use Rattle.calculus.specs.Choices.{start, reduction, extension, GroundChoice, Goal, Growth, after_start, grow_at}

-- the choice at the leftmost open goal joins literals that are complementary, by an instance that is allowed
abbrev pub joins_at : Problem → GroundChoice → List Goal → Bool
joins_at P (start i) gs = false
joins_at P (reduction up) [] = false
joins_at P (reduction up) (g ∷ gs) = is_complement g.literal (ancestor g.path up)
joins_at P (extension i place) [] = false
joins_at P (extension i place) (g ∷ gs) = is_allowed_instance P i && is_complement g.literal (slice_get i.literals place)

-- each choice does
abbrev pub joins_all : Problem → List GroundChoice → Growth → Bool
joins_all P [] x = true
joins_all P (c ∷ cs) x = joins_at P c x.open_goals && option_map_or (joins_all P cs) (grow_at P c x.open_goals x) false

abbrev pub are_joined : Problem → List GroundChoice → Bool
are_joined P (start i ∷ cs) = is_allowed_instance P i && option_map_or (joins_all P cs) (after_start P i) false
are_joined P _ = false

-- ---- the tableau of a list of choices

-- the closings of the goals that the choices close one after the other: an extension takes as many of those behind it as its clause has
-- other literals
abbrev pub closings_by : List GroundChoice → List Closing
closings_by [] = []
closings_by (start i ∷ cs) = closings_by cs
closings_by (reduction up ∷ cs) = reduce up ∷ closings_by cs
closings_by (extension i place ∷ cs) = extend i place (closings_tree (take (length (remove i.literals place)) (closings_by cs))) ∷ drop (length (remove i.literals place)) (closings_by cs)

-- the tableau of a list of choices that begins with a start
abbrev pub IsTableauBy : List GroundChoice → Tableau → Type 0
IsTableauBy (start i ∷ cs) t = t ≡ record { start = i; goals = closings_tree (closings_by cs) }
IsTableauBy _ t = ⊥

-- in the logics without a bound of their own the strings of these instances are short, as closed tableaux ask
abbrev pub are_short : Problem → List GroundChoice → Bool
are_short P gs = if has_unbounded_strings P.setting.logic then list_all (strings_within (total_steps P (instances_in gs))) (instances_in gs) else true
