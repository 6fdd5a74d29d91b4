-- What stands on the way to a part, by the lists of a table.
use Rattle.std.specs.Prelude.{◌≡◌, ◌≤◌, ℕ, List, [], ◌++◌, length, map, reverse, take, drop, if◌then◌else◌, Option, Some, None, IfSome}
use Rattle.std.specs.List.{AllByRecursion}
use Rattle.calculus.specs.declared.setting.Logic.{Logic}
use Rattle.calculus.specs.Ground as ground
use Rattle.calculus.specs.Instances as tree
use Rattle.calculus.specs.Labels.{keeps_prefix}
use Rattle.formula_core.specs.GroundLists.{GroundList, the_g_term, the_mark, the_marks, the_value, AreNormalMarks, IsNormalMark, IsNormalTerm, IsNormalValue}
use Rattle.formula_core.specs.declared.ground.GroundLabel.{GroundLabel}
use Rattle.formula_core.specs.declared.ground.GroundMark.{GroundMark}
use Rattle.formula_core.specs.declared.ground.GroundTerm.{GroundTerm}
use Rattle.formula_core.specs.declared.ground.Value.{Value}
use Rattle.tableau_cert.specs.declared.way.Way as program
use Rattle.tableau_cert.specs.declared.way.WayPoint as point

pub record WayLists : Type 0 where
  pub label : Option GroundLabel
  pub start : ℕ
  pub marks : List GroundMark
  pub taken : List Value
  pub bindings : List GroundTerm

abbrev pub the_way : program.Way → WayLists
the_way w = record { label = w.label; start = w.start; marks = w.marks.items; taken = w.taken.items; bindings = w.bindings.items }

-- the way to the root
abbrev pub empty_way : WayLists
empty_way = record { label = None; start = 0; marks = []; taken = []; bindings = [] }

abbrev pub point_of : WayLists → point.WayPoint
point_of w = record { label = w.label; start = w.start; marks = length w.marks; taken = length w.taken; bindings = length w.bindings }

abbrev pub cut_back : WayLists → point.WayPoint → WayLists
cut_back w p = record { label = p.label; start = p.start; marks = take p.marks w.marks; taken = take p.taken w.taken; bindings = take p.bindings w.bindings }

-- the way where a step begins
abbrev pub begun : Logic → WayLists → WayLists
begun l w = record { label = None; start = if keeps_prefix l then w.start else length w.marks; marks = w.marks; taken = w.taken; bindings = w.bindings }

-- the number of its label is known
abbrev pub labelled : WayLists → GroundLabel → WayLists
labelled w n = record { label = Some n; start = w.start; marks = w.marks; taken = w.taken; bindings = w.bindings }

-- ---- what it stands for

abbrev pub label_marks : WayLists → List GroundMark
label_marks w = drop w.start w.marks

abbrev pub the_label : List GroundList → WayLists → List ground.GroundMark
the_label ls w = map (the_mark ls) (label_marks w)

abbrev pub the_taken : List GroundList → WayLists → List ground.Value
the_taken ls w = map (the_value ls) w.taken

-- the terms put for variables, the innermost first
abbrev pub bound_terms : List GroundList → List GroundTerm → List ground.GroundTerm
bound_terms ls ts = map (the_g_term ls) (reverse ts)

abbrev pub the_spot : List GroundList → WayLists → ℕ → tree.Spot
the_spot ls w p = record { position = p; label = the_label ls w; taken = the_taken ls w; env = bound_terms ls w.bindings }

-- ---- what stays the same when the table grows

-- the number is that of the label of these characters
pub record IsLabelOf (ls : List GroundList) (ms : List GroundMark) (n : GroundLabel) : Type 0 where
  pub same : the_marks ls n ≡ map (the_mark ls) ms
  pub normal : AreNormalMarks ls n

pub record IsNormalWay (ls : List GroundList) (w : WayLists) : Type 0 where
  pub label : IfSome w.label (IsLabelOf ls (label_marks w))
  pub start : w.start ≤ length w.marks
  pub marks : AllByRecursion (IsNormalMark ls) w.marks
  pub taken : AllByRecursion (IsNormalValue ls) w.taken
  pub bindings : AllByRecursion (IsNormalTerm ls) w.bindings

-- ---- ways that go on

pub record Begins {A : Type 0} (xs ys : List A) : Type 0 where
  pub more : List A
  pub joined : ys ≡ xs ++ more

pub record IsLonger (v w : WayLists) : Type 0 where
  pub marks : Begins v.marks w.marks
  pub taken : Begins v.taken w.taken
  pub bindings : Begins v.bindings w.bindings

-- the point is one of a way that goes as far as the other point, or farther
pub record IsInside (p q : point.WayPoint) : Type 0 where
  pub marks : p.marks ≤ q.marks
  pub taken : p.taken ≤ q.taken
  pub bindings : p.bindings ≤ q.bindings
