-- What a walk through an instance gathers.
use Rattle.std.specs.Prelude.{◌≡◌, ◌&&◌, ◌+◌, ◌<◌, ◌≤◌, ℕ, Bool, true, List, [], ◌∷◌, ◌++◌, map, Option, Some, None}
use Rattle.std.specs.List.{list_all, AllByRecursion}
use Rattle.std.specs.Option.{option_map}
use Rattle.std.specs.Prelude.{option_and_then, IfSome}
use Rattle.calculus.specs.declared.sign.Sign.{Sign}
use Rattle.calculus.specs.declared.sign.Sign.TheVariants.{F}
use Rattle.calculus.specs.Skolem.{is_empty}
use Rattle.calculus.specs.declared.setting.Logic.{Logic}
use Rattle.calculus.specs.declared.kind.ModalPart.{ModalPart}
use Rattle.calculus.specs.ComputedInstances.{Supply, Part, part_of, at_modal}
use Rattle.calculus.specs.Ground.{GroundLiteral}
use Rattle.calculus.specs.Instances as tree
use Rattle.calculus.specs.Kinds.{components, shape_of}
use Rattle.calculus.specs.Positions.{size}
use Rattle.calculus.specs.Syntax.{Formula, Problem}
use Rattle.formula_core.specs.FormulaView.{the_formula}
use Rattle.formula_core.specs.GroundLists.{GroundList, IsGrown, IsNormalValue, the_value, AreNormalMarks, AreNormalTerms}
use Rattle.tableau_core.specs.Walks.{capped, shaped_by}
use Rattle.tableau_core.specs.Numbered.LiteralView.{the_literal}
use Rattle.tableau_core.specs.declared.literal.GroundLiteral as numbered
use Rattle.tableau_cert.specs.WayView.{IsInside, IsLabelOf, IsLonger, IsNormalWay, WayLists, cut_back, label_marks, point_of, the_spot}
use Rattle.tableau_cert.specs.declared.way.WayPoint.{WayPoint}
use Rattle.tableau_cert.specs.declared.task.PlacedPart.{PlacedPart}
use Rattle.tableau_cert.specs.declared.task.Task as task
use Rattle.tableau_cert.specs.declared.task.Supply as supply
use Rattle.tableau_cert.specs.declared.task.Entered as entered
use Rattle.tableau_cert.specs.declared.task.Opened as opened
use Rattle.tableau_cert.specs.declared.task.Opened.TheVariants.{Literal, One, Two}
use Rattle.tableau_cert.specs.declared.task.Step as step
use Rattle.tableau_cert.specs.declared.gathering.Gathered as program_gathered

-- the literals so far, whether the gamma terms are allowed, the number of nu and pi steps, which stops at the end of 64 bits, and what is still to be used
pub record Gathered : Type 0 where
  pub literals : List GroundLiteral
  pub allowed : Bool
  pub steps : ℕ
  pub rest : Supply

abbrev pub gathered_part : Problem → Gathered → Part → Gathered
gathered_part P g x = record { literals = g.literals ++ x.literals; allowed = g.allowed && list_all (tree.gamma_is_allowed P) x.gammas; steps = capped (g.steps + (x.nus + x.pis)); rest = x.left_over }

unfoldable pub gathered_after : Problem → Gathered → Option Part → Option Gathered
gathered_after P g o = option_map (gathered_part P g) o

unfoldable pub gathered : Problem → (tree.Spot → Supply → Option Part) → tree.Spot → Gathered → Option Gathered
gathered P go c g = gathered_after P g (go c g.rest)

-- the same literals, and what is still to be used
abbrev pub with_rest : Gathered → ℕ → Bool → Supply → Gathered
with_rest g n b u = record { literals = g.literals; allowed = g.allowed && b; steps = capped (g.steps + n); rest = u }

-- ---- what is open

pub record Open : Type 0 where
  pub sign : Sign
  pub formula : Formula
  pub spot : tree.Spot

unfoldable pub gathered_all : Problem → Logic → List Open → Gathered → Option Gathered
gathered_all P l [] g = Some g
gathered_all P l (t ∷ ts) g = option_and_then (gathered_all P l ts) (gathered P (part_of l t.formula t.sign) t.spot g)

-- a part at the end of the way
abbrev pub the_part : List GroundList → WayLists → PlacedPart → Open
the_part ls w t = record { sign = t.part.sign; formula = the_formula t.part.formula.now; spot = the_spot ls w t.position }

-- the parts that wait, the next one first: the way to each is a beginning of the way to the one before it
abbrev pub open_tasks : List GroundList → WayLists → List task.Task → List Open
open_tasks ls w [] = []
open_tasks ls w (t ∷ ts) = the_part ls (cut_back w t.point) t.placed ∷ open_tasks ls (cut_back w t.point) ts

abbrev pub the_supply : List GroundList → supply.Supply → Supply
the_supply ls u = record { sides = u.sides.now; values = map (the_value ls) u.values.now }

abbrev pub AreNormal : List GroundList → supply.Supply → Type 0
AreNormal ls u = AllByRecursion (IsNormalValue ls) u.values.now

-- the number of positions of a part
abbrev pub part_size : PlacedPart → ℕ
part_size t = size (the_formula t.part.formula.now)

abbrev pub IsFit : PlacedPart → Type 0
IsFit t = t.position + part_size t < 4294967296

-- the part waits at a point of the way
pub record IsWaiting (ls : List GroundList) (w : WayLists) (t : task.Task) : Type 0 where
  pub fits : IsFit t.placed
  pub inside : IsInside t.point (point_of w)
  pub start : t.point.start ≤ t.point.marks
  pub label : IfSome t.point.label (IsLabelOf ls (label_marks (cut_back w t.point)))

abbrev pub AreWaiting : List GroundList → WayLists → List task.Task → Type 0
AreWaiting ls w [] = w ≡ w
AreWaiting ls w (t ∷ ts) = IsWaiting ls w t × AreWaiting ls (cut_back w t.point) ts

pub record IsNormalLiteral (ls : List GroundList) (x : numbered.GroundLiteral) : Type 0 where
  pub args : AreNormalTerms ls x.args
  pub label : AreNormalMarks ls x.label

-- ---- past the modal step

pub record IsPast (given ls : List GroundList) (v w : WayLists) (e : entered.Entered) : Type 0 where
  pub way : IsNormalWay ls w
  pub longer : IsLonger v w
  pub values : AreNormal given e.supply

-- what is gathered of any part at a spot by what is left past its modal step
abbrev pub modal_by : Problem → List GroundList → List GroundList → WayLists → ℕ → (tree.Spot → Supply → Option Part) → Option entered.Entered → Gathered → Option Gathered
modal_by P given ls w p go None g = None
modal_by P given ls w p go (Some e) g = gathered P go (the_spot ls w p) (with_rest g e.steps true (the_supply given e.supply))

pub record IsModal (l : Logic) (m : ModalPart) (given before after : List GroundList) (v w : WayLists) (p : ℕ) (u : supply.Supply) (o : Option entered.Entered) : Type 0 where
  pub same : (P : Problem) (go : tree.Spot → Supply → Option Part) (g : Gathered) → g.rest ≡ the_supply given u → gathered P (at_modal l m go) (the_spot before v p) g ≡ modal_by P given after w p go o g
  pub past : IfSome o (IsPast given after v w)
  pub grown : IsGrown before after

pub record IsEntered (l : Logic) (given before after : List GroundList) (v w : WayLists) (s : Sign) (f : Formula) (p : ℕ) (u : supply.Supply) (o : Option entered.Entered) : Type 0 where
  pub same : (P : Problem) (g : Gathered) → g.rest ≡ the_supply given u → gathered P (part_of l f s) (the_spot before v p) g ≡ modal_by P given after w p (shaped_by l (shape_of s f) (components s f)) o g
  pub past : IfSome o (IsPast given after v w)
  pub grown : IsGrown before after

-- ---- what a part gives

abbrev pub parts_in : opened.Opened → List PlacedPart
parts_in (Literal x) = []
parts_in (One t) = t ∷ []
parts_in (Two t u) = t ∷ u ∷ []

abbrev pub task_at : WayPoint → PlacedPart → task.Task
task_at p t = record { placed = t; point = p }

abbrev pub literals_of : opened.Opened → List numbered.GroundLiteral
literals_of (Literal x) = x ∷ []
literals_of (One t) = []
literals_of (Two t u) = []

abbrev pub open_parts : List GroundList → WayLists → opened.Opened → List Open
open_parts ls w (Literal x) = []
open_parts ls w (One t) = the_part ls w t ∷ []
open_parts ls w (Two t u) = the_part ls w t ∷ the_part ls w u ∷ []

-- with what the step gives
abbrev pub with_step : List GroundList → Gathered → opened.Opened → Bool → Supply → Gathered
with_step ls g (Literal x) b u = record { literals = g.literals ++ the_literal ls x ∷ []; allowed = g.allowed && b; steps = capped (g.steps + 0); rest = u }
with_step ls g (One t) b u = with_rest g 0 b u
with_step ls g (Two t v) b u = with_rest g 0 b u

-- with what the step gives past so many modal steps
abbrev pub with_steps : List GroundList → Gathered → opened.Opened → Bool → ℕ → Supply → Gathered
with_steps ls g o b n u = record { literals = g.literals ++ map (the_literal ls) (literals_of o); allowed = g.allowed && b; steps = capped (g.steps + n); rest = u }

abbrev pub opened_by : Problem → Logic → List GroundList → List GroundList → WayLists → Option step.Step → Gathered → Option Gathered
opened_by P l given ls w None g = None
opened_by P l given ls w (Some x) g = gathered_all P l (open_parts ls w x.opened) (with_step ls g x.opened x.allowed (the_supply given x.supply))

abbrev pub AreFit : List GroundList → opened.Opened → Type 0
AreFit ls (Literal x) = IsNormalLiteral ls x
AreFit ls (One t) = IsFit t
AreFit ls (Two t u) = IsFit t × IsFit u

-- the number of positions of the open parts
abbrev pub opened_size : opened.Opened → ℕ
opened_size (Literal x) = 0
opened_size (One t) = part_size t
opened_size (Two t u) = part_size t + part_size u

pub record IsStep (given ls : List GroundList) (v w : WayLists) (n : ℕ) (x : step.Step) : Type 0 where
  pub way : IsNormalWay ls w
  pub longer : IsLonger v w
  pub parts : AreFit ls x.opened
  pub values : AreNormal given x.supply
  pub smaller : opened_size x.opened < n

-- the goal is what is gathered of a signed formula past its modal step
pub record IsOpened (P : Problem) (l : Logic) (given before after : List GroundList) (v w : WayLists) (go : tree.Spot → Supply → Option Part) (n : ℕ) (p : ℕ) (u : supply.Supply) (o : Option step.Step) : Type 0 where
  pub same : (g : Gathered) → g.rest ≡ the_supply given u → gathered P go (the_spot before v p) g ≡ opened_by P l given after w o g
  pub step : IfSome o (IsStep given after v w n)
  pub grown : IsGrown before after

-- ---- the whole instance

-- what is told of an instance
pub record Summary : Type 0 where
  pub literals : List GroundLiteral
  pub allowed : Bool
  pub steps : ℕ
  pub used_up : Bool

abbrev pub summary : Gathered → Summary
summary g = record { literals = g.literals; allowed = g.allowed; steps = g.steps; used_up = is_empty g.rest.sides && is_empty g.rest.values }

abbrev pub the_summary : List GroundList → program_gathered.Gathered → Summary
the_summary ls g = record { literals = map (the_literal ls) g.literals; allowed = g.allowed; steps = g.steps; used_up = g.used_up }

abbrev pub nothing_yet : Supply → Gathered
nothing_yet u = record { literals = []; allowed = true; steps = 0; rest = u }

abbrev pub AreNormalLiterals : List GroundList → List numbered.GroundLiteral → Type 0
AreNormalLiterals ls xs = AllByRecursion (IsNormalLiteral ls) xs

-- all that is gathered of an instance
abbrev pub gathered_instance : Problem → Supply → Option Gathered
gathered_instance P u = gathered P (part_of P.setting.logic P.formula F) tree.root_spot (nothing_yet u)

pub record IsGathered (P : Problem) (given before after : List GroundList) (u : supply.Supply) (o : Option program_gathered.Gathered) : Type 0 where
  pub same : option_map (the_summary after) o ≡ option_map summary (gathered_instance P (the_supply given u))
  pub normal : IfSome o (λ g. AreNormalLiterals after g.literals)
  pub grown : IsGrown before after

abbrev pub root_part : Problem → Open
root_part P = record { sign = F; formula = P.formula; spot = tree.root_spot }

-- what is gathered of an open part by what it gives and the number of its steps
abbrev pub taken_by : Problem → Logic → List GroundList → List GroundList → WayLists → Option (step.Step × ℕ) → Gathered → Option Gathered
taken_by P l given ls w None g = None
taken_by P l given ls w (Some x) g = gathered_all P l (open_parts ls w x.0.opened) (with_steps ls g x.0.opened x.0.allowed x.1 (the_supply given x.0.supply))

pub record IsTaken (P : Problem) (l : Logic) (given before after : List GroundList) (v w : WayLists) (t : PlacedPart) (u : supply.Supply) (o : Option (step.Step × ℕ)) : Type 0 where
  pub same : (g : Gathered) → g.rest ≡ the_supply given u → gathered P (part_of l (the_formula t.part.formula.now) t.part.sign) (the_spot before v t.position) g ≡ taken_by P l given after w o g
  pub step : IfSome o (λ x. IsStep given after v w (part_size t) x.0)
  pub grown : IsGrown before after
