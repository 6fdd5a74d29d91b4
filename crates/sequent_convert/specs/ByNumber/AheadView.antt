-- What is ahead of a branch, as the program has it: turns as places of the agenda, with the ends of the literals among them.
use Rattle.std.specs.Prelude.{◌≡◌, ℕ, suc, List, [], ◌∷◌, ◌++◌, length, map, Option, Some, None}
use Rattle.conversion_theory.specs.Leading as leading
use Rattle.formula_core.specs.GroundLists.{GroundList}
use Rattle.tableau_core.specs.Numbered.Closings as numbered
use Rattle.tableau_core.specs.Numbered.ClosingView.{closing_in, the_closing}
use Rattle.tableau_core.specs.declared.closing.Closing as closing
use Rattle.sequent_convert.specs.AheadView.{Ahead, meeting}
use Rattle.sequent_convert.specs.declared.ahead.Ahead as ahead
use Rattle.sequent_convert.specs.declared.ahead.Ends as ends
use Rattle.sequent_convert.specs.declared.ahead.End as end_type
use Rattle.sequent_convert.specs.declared.ahead.End.TheVariants.{MeetsPath, By}

abbrev pub the_end : List GroundList → end_type.End → leading.End
the_end ls MeetsPath = leading.meets_path
the_end ls (By c) = leading.by_closing (closing_in ls (the_closing c.now))

abbrev pub closing_ends : List GroundList → List closing.Closing → List leading.End
closing_ends ls cs = map (λ c. leading.by_closing (closing_in ls (the_closing c))) cs

abbrev pub the_ends : List GroundList → ends.Ends → List leading.End
the_ends ls e = closing_ends ls e.before.now ++ meeting e.meets_path ++ closing_ends ls e.after.now

abbrev pub starts_with : List GroundList → List leading.End → Option end_type.End → Type 0
starts_with ls [] o = o ≡ None
starts_with ls (e ∷ es) None = ⊥
starts_with ls (e ∷ es) (Some x) = e ≡ the_end ls x

-- for each instance of closings, in preorder, how many instances its own closing has
abbrev mutual
  pub closing_sizes : numbered.Closing → List ℕ
  closing_sizes (numbered.reduce up) = []
  closing_sizes (numbered.extend i place below) = suc (length (closings_sizes below)) ∷ closings_sizes below

  pub closings_sizes : numbered.Closings → List ℕ
  closings_sizes numbered.no_closings = []
  closings_sizes (numbered.more_closings c cs) = closing_sizes c ++ closings_sizes cs

abbrev pub sizes_in_all : List numbered.Closing → List ℕ
sizes_in_all cs = closings_sizes (numbered.closings_tree cs)

abbrev pub sizes_among : List closing.Closing → List ℕ
sizes_among cs = sizes_in_all (map the_closing cs)

abbrev pub the_ahead : List GroundList → ahead.Ahead → Ahead
the_ahead ls a = record { turns = a.turns.now; ends = the_ends ls a.ends; instance = a.instance }
