-- The tableau that moves with their instances close.
use Rattle.std.specs.Prelude.{◌≡◌, ◌-◌, ℕ, List, [], ◌∷◌, length, map, reverse, take, drop, Result, Ok, Err, IsTrue}
use Rattle.calculus.specs.declared.fault.TableauFault.{TableauFault}
use Rattle.calculus.specs.Instances.{ClauseInstance}
use Rattle.calculus.specs.Lists.{closings_tree}
use Rattle.calculus.specs.Syntax.{Problem}
use Rattle.calculus.specs.Tableaux.{Closing, reduce, extend, Tableau, is_closed}
use Rattle.calculus.specs.TableauText.{Moves, tableau_moves}
use Rattle.formula_core.specs.GroundLists.{GroundList}
use Rattle.tableau_core.specs.Numbered.ClosingView.{closing_in, the_closing}
use Rattle.tableau_core.specs.declared.closing.Closing as program
use Rattle.tableau_cert.specs.Resolving.{Closer, by_reduction, by_extension}

-- the extension takes the closings of its goals, which come first
abbrev pub put_extension : ℕ → Result ClauseInstance TableauFault → List Closing → List Closing
put_extension place (Err f) cs = cs
put_extension place (Ok i) cs = extend i place (closings_tree (take (length i.literals - 1) cs)) ∷ drop (length i.literals - 1) cs

abbrev pub put_closer : Closer → List Closing → List Closing
put_closer (by_reduction k) cs = reduce k ∷ cs
put_closer (by_extension place r) cs = put_extension place r cs

-- the moves put before these closings, the last one first
abbrev pub built_on : List Closer → List Closing → List Closing
built_on [] rest = rest
built_on (c ∷ cs) rest = put_closer c (built_on cs rest)

-- the closings that the moves write, in order
abbrev pub built : List Closer → List Closing
built cs = built_on cs []

abbrev pub instance_in : Result ClauseInstance TableauFault → ClauseInstance
instance_in (Err f) = record { selection = []; values = []; literals = [] }
instance_in (Ok i) = i

abbrev pub built_tableau : Result ClauseInstance TableauFault → List Closer → Tableau
built_tableau r cs = record { start = instance_in r; goals = closings_tree (built cs) }

-- a stack has its first closing at its end
abbrev pub the_stack : List GroundList → List program.Closing → List Closing
the_stack ls items = map (λ y. closing_in ls (the_closing y)) (reverse items)

-- the tableau is closed within the moves' limit, and they are its moves
pub record IsBuilt (P : Problem) (x : Moves) (t : Tableau) : Type 0 where
  pub closed : IsTrue (is_closed P x.limit t)
  pub moves : tableau_moves t x.limit ≡ x
