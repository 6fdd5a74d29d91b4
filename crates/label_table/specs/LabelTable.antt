-- The table of labels by its links, and the ways from a label to its beginnings.
use Rattle.std.specs.Prelude.{◌≡◌, ⊤, ℕ, suc, ◌<◌, ◌≤◌, Bool, true, false, List, [], ◌∷◌, length, get_or, map, reverse}
use Rattle.calculus.specs.Derivations as derivation
use Rattle.calculus.specs.Derivations.{new_mark, spare_mark}
use Rattle.label_table.specs.Chains.{chains}
use Rattle.label_table.specs.Longer.{IsLonger}
use Rattle.label_table.specs.declared.labels.Link.{Link}
use Rattle.label_table.specs.declared.labels.Rung.{Rung}

abbrev pub mark_of : Bool → ℕ → derivation.Mark
mark_of true n = new_mark n
mark_of false n = spare_mark n

abbrev pub the_last : Link → derivation.Mark
the_last l = mark_of l.is_new l.number

abbrev pub the_label_link : Link × Rung → derivation.Mark × ℕ
the_label_link x = (the_last x.0, x.0.front)

abbrev pub label_table : List (Link × Rung) → List derivation.Label
label_table xs = map reverse (chains (map the_label_link xs))

-- no link comes twice
abbrev pub AreApart : List (derivation.Mark × ℕ) → Type 0
AreApart xs = (i j : ℕ) (z : derivation.Mark × ℕ) → i < length xs → j < length xs → get_or xs i z ≡ get_or xs j z → i ≡ j

-- the ways of a label that adds a mark to the label `front`
pub record IsRungFrom (labels : List derivation.Label) (front : ℕ) (r : Rung) : Type 0 where
  pub place : r.front ≡ front
  pub within : front < length labels
  pub size : r.length ≡ suc (length (get_or labels front []))
  pub jump : r.jump ≤ front
  pub earlier : IsLonger (get_or labels r.jump []) (get_or labels front [])

abbrev pub AreRungs : List derivation.Label → List (Link × Rung) → Type 0
AreRungs labels [] = ⊤
AreRungs labels (x ∷ xs) = IsRungFrom labels x.0.front x.1 × AreRungs labels xs

-- the ways of the label at a place; those of the root lead to itself
pub record IsRung (labels : List derivation.Label) (place : ℕ) (r : Rung) : Type 0 where
  pub size : r.length ≡ length (get_or labels place [])
  pub front : r.front ≤ place
  pub before : 0 < r.length → r.front < place
  pub jump : r.jump ≤ r.front
  pub begins : IsLonger (get_or labels r.front []) (get_or labels place [])
  pub next : length (get_or labels place []) ≤ suc (length (get_or labels r.front []))
  pub earlier : IsLonger (get_or labels r.jump []) (get_or labels r.front [])

-- the label stands at the place
abbrev pub IsLabelAt : List derivation.Label → ℕ → derivation.Label → Type 0
IsLabelAt labels k w = (k < length labels) × (get_or labels k [] ≡ w)

-- no label has two places
abbrev pub HasEachOnce : List derivation.Label → Type 0
HasEachOnce labels = (i j : ℕ) → i < length labels → j < length labels → get_or labels i [] ≡ get_or labels j [] → i ≡ j
