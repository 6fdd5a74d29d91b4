-- How much a choice point still has to try, which falls with each try.
use Rattle.std.specs.Prelude.{◌+◌, ◌-◌, ◌*◌, ◌^◌, ℕ, List, sum_by}
use Rattle.search_tree.specs.declared.point.Point.{Point}

-- how much is still to be tried at a point, at most
abbrev pub weight : Point → ℕ
weight p = (p.depth - p.up) + (p.end - p.next) + 1

abbrev pub weight_of_all : List Point → ℕ
weight_of_all points = sum_by weight points

-- no point is heavier
abbrev pub greatest_weight : ℕ
greatest_weight = 2 ^ 65

-- how much is left: each step that may still be taken brings a point at most
abbrev pub work_left : ℕ → ℕ → List Point → ℕ
work_left budget used points = (budget - used) * (greatest_weight + 1) + weight_of_all points
