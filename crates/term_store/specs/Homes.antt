-- Labels that are beginnings of others: homes of names in terms, and the labels at which the terms stand.
use Rattle.std.specs.Prelude.{◌≡◌, ℕ, List, Bool, true, ◌&&◌, Some, IsTrue}
use Rattle.calculus.specs.Equality.{mark_eq}
use Rattle.calculus.specs.Ground.{GroundMark}
use Rattle.calculus.specs.Labels.{is_prefix}
use Rattle.store_theory.specs.Stores.{Store, Solution, label_at}
use Rattle.store_theory.specs.Systems.{is_label}

pub record Home : Type 0 where
  pub home : List ℕ
  pub label : List ℕ
  pub is_whole : Bool

abbrev pub is_home : Store → Home → Bool
is_home s h = is_label s h.home && is_label s h.label

-- the home is a beginning of the label, and all of it where this is said
abbrev pub BeginsLabel : Solution → Home → Type 0
BeginsLabel σ h = (v : List GroundMark) × (w : List GroundMark) × (label_at σ h.home ≡ Some v) × (label_at σ h.label ≡ Some w) × IsTrue (is_prefix mark_eq v w) × (h.is_whole ≡ true → v ≡ w)
