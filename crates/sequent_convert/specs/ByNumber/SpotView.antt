-- The spots of the calculus that those of the program stand for, by the lists of a table.
use Rattle.std.specs.Prelude.{List, [], map, if◌then◌else◌}
use Rattle.calculus.specs.Ground.{Value}
use Rattle.calculus.specs.Instances as tree
use Rattle.calculus.specs.Labels.{keeps_prefix}
use Rattle.calculus.specs.declared.setting.Logic.{Logic}
use Rattle.formula_core.specs.GroundLists.{GroundList, the_g_term, the_mark, the_values}
use Rattle.formula_core.specs.declared.ground.GroundMark.{GroundMark}
use Rattle.sequent_convert.specs.declared.spot.Spot as program

abbrev pub the_spot : List GroundList → program.Spot → tree.Spot
the_spot ls c = record { position = c.position; label = map (the_mark ls) c.label.value.items; taken = the_values ls c.taken; env = map (the_g_term ls) c.env.value.items }

-- the spot once these values are taken
abbrev pub taken_is : List Value → tree.Spot → tree.Spot
taken_is vs c = record { position = c.position; label = c.label; taken = vs; env = c.env }

-- the characters from which a step of the logic goes on
abbrev pub kept_marks : Logic → List GroundMark → List GroundMark
kept_marks l w = if keeps_prefix l then w else []
