-- Which values are those of a name, told without labels.
use Rattle.std.specs.Prelude.{List, [], ◌∷◌, length, Bool, false, ◌&&◌, Option, Some, None, option_and_then, if◌then◌else◌}
use Rattle.std.specs.Option.{option_map_or}
use Rattle.calculus.specs.declared.setting.Logic.{Logic}
use Rattle.calculus.specs.declared.kind.Shape.{Shape}
use Rattle.calculus.specs.declared.kind.Shape.TheVariants.{Gamma}
use Rattle.calculus.specs.declared.kind.ModalPart.{ModalPart}
use Rattle.calculus.specs.declared.kind.ModalPart.TheVariants.{Nu}
use Rattle.calculus.specs.Ground.{Value, term, steps, marks_list}
use Rattle.calculus.specs.Kinds.{shape_of, modal_of}
use Rattle.calculus.specs.Labels.{is_step_length}
use Rattle.calculus.specs.Positions.{Node}
use Rattle.calculus.specs.Skolem.{is_delta, is_pi, is_empty, last_node}
use Rattle.tableau_core.specs.declared.way.Maker.{Maker}
use Rattle.tableau_core.specs.declared.way.Maker.TheVariants as maker

-- the values that are left past a position, where it finds those that it takes
abbrev pub past_string : Logic → List Value → Option (List Value)
past_string l (steps s ∷ vs) = if is_step_length l (length (marks_list s)) then Some vs else None
past_string l _ = None

abbrev pub past_modal : Logic → ModalPart → List Value → Option (List Value)
past_modal l Nu vs = past_string l vs
past_modal l _ vs = Some vs

abbrev pub past_term : List Value → Option (List Value)
past_term (term t ∷ vs) = Some vs
past_term _ = None

abbrev pub past_shape : Shape → List Value → Option (List Value)
past_shape Gamma vs = past_term vs
past_shape _ vs = Some vs

abbrev pub past_node : Logic → ModalPart → Shape → List Value → Option (List Value)
past_node l m h vs = option_and_then (past_shape h) (past_modal l m vs)

abbrev pub past : Logic → Node → List Value → Option (List Value)
past l n vs = past_node l (modal_of l n.sign n.formula) (shape_of n.sign n.formula) vs

-- the values are those of the way
unfoldable pub fits : Logic → List Node → List Value → Bool
fits l [] vs = is_empty vs
fits l (n ∷ ns) vs = option_map_or (fits l ns) (past l n vs) false

abbrev pub is_maker : Maker → ModalPart → Shape → Bool
is_maker maker.Delta m h = is_delta h
is_maker maker.Pi m h = is_pi m

-- a way ends where such a name is made, and the values are those of the way
unfoldable pub is_made : Maker → Logic → List Node → List Value → Bool
is_made k l ns vs = option_map_or (λ (n : Node). is_maker k (modal_of l n.sign n.formula) (shape_of n.sign n.formula)) (last_node ns) false && fits l ns vs
