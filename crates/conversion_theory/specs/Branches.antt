-- Branches of a conversion: what stands there, and what a turn does to the signed formula that it works on.
use Rattle.std.specs.Prelude.{ℕ, suc, List, [], ◌∷◌, ◌++◌, map, Bool, true, false}
use Rattle.calculus.specs.declared.sign.Sign.{Sign}
use Rattle.calculus.specs.declared.setting.Logic.{Logic}
use Rattle.calculus.specs.declared.kind.Shape.{Shape}
use Rattle.calculus.specs.declared.kind.Shape.TheVariants.{Alpha, Beta, Gamma, Delta, Literal}
use Rattle.calculus.specs.declared.kind.ModalPart.{ModalPart}
use Rattle.calculus.specs.declared.kind.ModalPart.TheVariants.{Plain, Nu, Pi}
use Rattle.calculus.specs.Syntax.{Terms, Formula, atom}
use Rattle.calculus.specs.Ground.{Value, g_eigen, g_new_mark, term, steps, values_tree}
use Rattle.calculus.specs.Kinds.{Signed, shape_of, modal_of, components}
use Rattle.calculus.specs.Positions.{size}
use Rattle.calculus.specs.Instances.{Spot, down_by, spot_inside, after_string, after_character}
use Rattle.calculus.specs.Derivations.{Entry, Sequent, ModalArg, no_modal, to, by_new, TermArg, no_term, by_term, by_name}
use Rattle.conversion_theory.specs.Turns.{Name, term_name, mark_name}
use Rattle.conversion_theory.specs.Numbering.{numbered_label, numbered_term, entry_by}

-- a signed formula of the problem at a spot, or an atom that is past its modal part
pub record Item : Type 0 where
  pub spot : Spot
  pub sign : Sign
  pub formula : Formula
  pub past : Bool

abbrev pub item : Spot → Sign → Formula → Item
item c s f = record { spot = c; sign = s; formula = f; past = false }

abbrev pub landed : Spot → Sign → ℕ → Terms → Item
landed d s p ts = record { spot = d; sign = s; formula = atom p ts; past = true }

abbrev pub entry_of_item : (Name → ℕ) → Item → Entry
entry_of_item num i = entry_by num i.spot i.sign i.formula

abbrev pub entries_of : (Name → ℕ) → List Item → Sequent
entries_of num items = map (entry_of_item num) items

-- ---- what a turn does

-- past the modal part: the spot, the argument, and the values that are left
pub record Past : Type 0 where
  pub spot : Spot
  pub arg : ModalArg
  pub rest : List Value

abbrev pub past_string : (Name → ℕ) → Logic → Spot → List Value → Past
past_string num l c (steps w ∷ vs) = record { spot = after_string l w c; arg = to (numbered_label num (after_string l w c).label); rest = vs }
past_string num l c vs = record { spot = c; arg = no_modal; rest = vs }

-- a nu part takes the next string, a pi part makes the character of the position
abbrev pub past_modal : (Name → ℕ) → Logic → ModalPart → Spot → List Value → Past
past_modal num l Plain c vs = record { spot = c; arg = no_modal; rest = vs }
past_modal num l Nu c vs = past_string num l c vs
past_modal num l Pi c vs = record { spot = after_character l c; arg = by_new (num (mark_name (g_new_mark c.position (values_tree c.taken)))); rest = vs }

-- nothing, one step that adds items to the branch, or one that forks it
pub data Made : Type 0 where
  rests : Made
  grows : ModalArg → TermArg → List Item → Made
  splits : ModalArg → Item → Item → Made

abbrev pub made_literal : ModalPart → Past → Sign → Formula → Made
made_literal Plain q s f = rests
made_literal m q s (atom p ts) = grows q.arg no_term (landed q.spot s p ts ∷ [])
made_literal m q s f = rests

abbrev pub made_alpha : Past → List Signed → Made
made_alpha q (a ∷ []) = grows q.arg no_term (item (down_by 1 q.spot) a.sign a.formula ∷ [])
made_alpha q (a ∷ b ∷ []) = grows q.arg no_term (item (down_by 1 q.spot) a.sign a.formula ∷ item (down_by (suc (size a.formula)) q.spot) b.sign b.formula ∷ [])
made_alpha q xs = rests

abbrev pub made_beta : Past → List Signed → Made
made_beta q (a ∷ b ∷ []) = splits q.arg (item (down_by 1 q.spot) a.sign a.formula) (item (down_by (suc (size a.formula)) q.spot) b.sign b.formula)
made_beta q xs = rests

-- a gamma position takes the next term
abbrev pub made_gamma : (Name → ℕ) → Past → List Value → List Signed → Made
made_gamma num q (term t ∷ vs) (a ∷ []) = grows q.arg (by_term (numbered_term num t)) (item (spot_inside t (q.spot.taken ++ term t ∷ []) q.spot) a.sign a.formula ∷ [])
made_gamma num q vs xs = rests

abbrev pub made_delta : (Name → ℕ) → Past → List Signed → Made
made_delta num q (a ∷ []) = grows q.arg (by_name (num (term_name (g_eigen q.spot.position (values_tree q.spot.taken))))) (item (spot_inside (g_eigen q.spot.position (values_tree q.spot.taken)) q.spot.taken q.spot) a.sign a.formula ∷ [])
made_delta num q xs = rests

abbrev pub made_shape : (Name → ℕ) → Shape → ModalPart → Past → Sign → Formula → Made
made_shape num Literal m q s f = made_literal m q s f
made_shape num Alpha m q s f = made_alpha q (components s f)
made_shape num Beta m q s f = made_beta q (components s f)
made_shape num Gamma m q s f = made_gamma num q q.rest (components s f)
made_shape num Delta m q s f = made_delta num q (components s f)

-- what the turn with these own values (those that it takes itself) does to a signed formula at a spot
abbrev pub made : (Name → ℕ) → Logic → Spot → Sign → Formula → List Value → Made
made num l c s f own = made_shape num (shape_of s f) (modal_of l s f) (past_modal num l (modal_of l s f) c own) s f
