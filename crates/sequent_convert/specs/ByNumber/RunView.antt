-- The state of a conversion as the program has it. Nodes name lists of the table of the names, closings those of the tableau's.
use Rattle.std.specs.Prelude.{◌≡◌, ℕ, List, map, reverse, length, drop, Option, Some, None, slice_get}
use Rattle.calculus.specs.Ground.{Value}
use Rattle.calculus.specs.Kinds.{modal_of, shape_of}
use Rattle.conversion_theory.specs.Branches.{Item, past_modal}
use Rattle.conversion_theory.specs.Numbering.{number_of}
use Rattle.formula_core.specs.GroundLists.{GroundList}
use Rattle.name_order.specs.NamedView as plain
use Rattle.name_order.specs.ByNumber.NamedView.{NamedValue}
use Rattle.sequent_calc.specs.DerivationView.{the_names}
use Rattle.tableau_core.specs.Numbered.TableauView.{the_tableau}
use Rattle.sequent_convert.specs.ByNumber.AheadView.{the_ahead}
use Rattle.sequent_convert.specs.ByNumber.NodeView.{the_node}
use Rattle.sequent_convert.specs.ByNumber.PastView.{taken_after}
use Rattle.sequent_convert.specs.ByNumber.Pairs.{ArePair}
use Rattle.sequent_convert.specs.State.{Basis, Waiting, State, Works, turn_at}
use Rattle.sequent_convert.specs.declared.axiom.Pair as pair
use Rattle.sequent_convert.specs.declared.run.Run as run
use Rattle.sequent_convert.specs.declared.run.Waiting as waiting
use Rattle.sequent_convert.specs.declared.source.Source as source

-- names and turns without their table
abbrev pub the_named : NamedValue → plain.NamedValue
the_named n = record { names = n.names; agenda = n.agenda; order = n.order; parents = n.parents; waits = n.waits }

abbrev pub the_source : source.Source → Basis
the_source s = record { problem = s.problem.now; tableau = the_tableau s.tableau.now; limit = s.limit; named = the_named s.named.now; lines = the_names s.names.now; atoms = s.atoms.now; sizes = s.sizes.now }

-- the lists that nodes name, and those that closings name
abbrev pub the_lists : source.Source → List GroundList
the_lists s = s.named.now.lists

abbrev pub the_table : source.Source → List GroundList
the_table s = s.tableau.now.table

abbrev pub the_waiting : source.Source → waiting.Waiting → Waiting
the_waiting s w = record { nodes = w.nodes; done = w.done; node = the_node (the_lists s) w.node; ahead = the_ahead (the_table s) w.ahead }

abbrev pub the_run : source.Source → run.Run → State
the_run s r = record { is_open = r.is_open; steps = r.steps; items = map (the_node (the_lists s)) r.branch.nodes.items; done = r.branch.done; ahead = the_ahead (the_table s) r.ahead; waiting = map (the_waiting s) (reverse r.waiting.items) }

-- an axiom that is seen is one
abbrev pub IsSeen : List Item → Option pair.Pair → Type 0
IsSeen items None = Unit {0}
IsSeen items (Some p) = ArePair items p

-- the own values of a turn at an item
abbrev pub own_values : Basis → ℕ → Item → List Value
own_values B k i = drop (length i.spot.taken) (turn_at B k).values

-- the turn works on the item at the place
abbrev pub WorksAt : Basis → List Item → ℕ → ℕ → Type 0
WorksAt B items k n = (i : Item) × (slice_get items n ≡ Some i) × Works B k i (own_values B k i)

-- what the turn takes at the item is all that it has
abbrev pub TakesAll : Basis → ℕ → Item → Type 0
TakesAll B k i = taken_after (shape_of i.sign i.formula) (past_modal (number_of B.named.names) B.problem.setting.logic (modal_of B.problem.setting.logic i.sign i.formula) i.spot (own_values B k i)) ≡ (turn_at B k).values
