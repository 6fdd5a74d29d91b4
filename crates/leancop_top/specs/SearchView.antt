-- What deepening answers, as a search tells it.
use Rattle.std.specs.Prelude.{ℕ}
use Rattle.connection_search.specs.declared.deepening.Answer.{Answer}
use Rattle.connection_search.specs.declared.deepening.Answer.TheVariants as deep
use Rattle.leancop_top.specs.declared.status.Status.TheVariants as status
use Rattle.leancop_top.specs.declared.tableau_search.Searched.{Searched}
use Rattle.leancop_top.specs.declared.tableau_search.Searched.TheVariants.{Found, Fruitless}

-- with the budget that was given
abbrev pub searched_as : Answer → ℕ → Searched
searched_as (deep.Closed limit tableau) steps = Found limit tableau
searched_as (deep.Exhausted limit) steps = Fruitless (status.Exhausted limit)
searched_as (deep.NoTableau limit) steps = Fruitless (status.NoTableau limit)
searched_as (deep.Steps limit) steps = Fruitless (status.StepsEnded limit steps)
