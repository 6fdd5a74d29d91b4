-- What is made by putting lists into a table or items onto a way: what it stands for, and that it stays the same when the table grows on.
use Rattle.std.specs.Prelude.{◌≡◌, ℕ, List, [], if◌then◌else◌}
use Rattle.calculus.specs.declared.setting.Logic.{Logic}
use Rattle.calculus.specs.Ground as tree
use Rattle.calculus.specs.Instances as at
use Rattle.calculus.specs.Labels.{keeps_prefix}
use Rattle.calculus.specs.Lists.{g_terms_tree}
use Rattle.formula_core.specs.GroundLists.{GroundList, IsGrown, the_g_term, the_terms, AreNormalTerms, IsNormalTerm}
use Rattle.formula_core.specs.declared.ground.GroundTerms.{GroundTerms}
use Rattle.formula_core.specs.declared.ground.GroundLabel.{GroundLabel}
use Rattle.formula_core.specs.declared.ground.GroundTerm.{GroundTerm}
use Rattle.tableau_cert.specs.WayView.{IsLabelOf, IsLonger, IsNormalWay, WayLists, label_marks, labelled, the_spot}

-- the label from which a step goes on
abbrev pub start_of : Logic → List tree.GroundMark → List tree.GroundMark
start_of l w = if keeps_prefix l then w else []

pub record IsTermMade (before after : List GroundList) (x : tree.GroundTerm) (t : GroundTerm) : Type 0 where
  pub same : the_g_term after t ≡ x
  pub normal : IsNormalTerm after t
  pub grown : IsGrown before after

pub record AreArgsMade (before after : List GroundList) (xs : tree.GroundTerms) (n : GroundTerms) : Type 0 where
  pub same : g_terms_tree (the_terms after n) ≡ xs
  pub normal : AreNormalTerms after n
  pub grown : IsGrown before after

-- the number of the way's label is known
pub record IsLabelled (before after : List GroundList) (v w : WayLists) (n : GroundLabel) : Type 0 where
  pub way : w ≡ labelled v n
  pub label : IsLabelOf after (label_marks v) n
  pub grown : IsGrown before after

-- the way goes on to the spot at the position
pub record IsWayMade (before after : List GroundList) (v w : WayLists) (x : at.Spot) (p : ℕ) : Type 0 where
  pub same : the_spot after w p ≡ x
  pub normal : IsNormalWay after w
  pub longer : IsLonger v w
  pub grown : IsGrown before after
