-- Whether eigenvariables and spare constants are allowed, by their values and labels as lists.
use Rattle.std.proofs.Common.{◌≡◌, ℕ, List, Bool, refl, ◌∙◌}
use Rattle.calculus.specs.Equality.{mark_eq}
use Rattle.calculus.specs.Ground.{GroundMark, Value, g_eigen, own, marks_tree, values_tree}
use Rattle.calculus.specs.Labels.{home_allows}
use Rattle.calculus.specs.Lists.{marks_list-marks_tree, values_list-values_tree}
use Rattle.calculus.specs.Skolem.{is_allowed, label_of}
use Rattle.calculus.specs.Syntax.{Problem}

pub eigen-allowed : (P : Problem) (w h : List GroundMark) (p : ℕ) (vs us : List Value) (b : Bool) → us ≡ vs → h ≡ label_of P p us → b ≡ home_allows mark_eq P.setting.domains h w → b ≡ is_allowed P w (g_eigen p (values_tree vs))
eigen-allowed P w h p vs us b u e d = d ∙ rw (e, u, values_list-values_tree vs) refl

pub own-allowed : (P : Problem) (w h us : List GroundMark) (k : ℕ) (b : Bool) → us ≡ h → b ≡ home_allows mark_eq P.setting.domains us w → b ≡ is_allowed P w (own k (marks_tree h))
own-allowed P w h us k b u d = d ∙ rw (u, marks_list-marks_tree h) refl
