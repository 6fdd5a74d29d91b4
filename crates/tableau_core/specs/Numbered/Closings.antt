-- Closings as the program has them: their instances name ground values by numbers.
use Rattle.std.specs.Prelude.{ℕ, suc, ◌+◌, List, [], ◌∷◌}
use Rattle.tableau_core.specs.declared.instance.ClauseInstance.{ClauseInstance}

mutual
  pub data Closing : Type 0 where
    reduce : ℕ → Closing
    extend : ClauseInstance → ℕ → Closings → Closing

  pub data Closings : Type 0 where
    no_closings : Closings
    more_closings : Closing → Closings → Closings

abbrev pub closings_tree : List Closing → Closings
closings_tree [] = no_closings
closings_tree (c ∷ cs) = more_closings c (closings_tree cs)

-- their sizes, by which recursions over them end
abbrev mutual
  pub closing_size : Closing → ℕ
  closing_size (reduce up) = 1
  closing_size (extend i place below) = suc (closings_size below)

  pub closings_size : Closings → ℕ
  closings_size no_closings = 0
  closings_size (more_closings c cs) = suc (closing_size c + closings_size cs)

abbrev pub closing_list_size : List Closing → ℕ
closing_list_size cs = closings_size (closings_tree cs)
