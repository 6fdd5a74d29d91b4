-- Where a signed formula stands, by what was passed on the way to it.
use Rattle.std.specs.Prelude.{ℕ, List, [], ◌∷◌, ◌++◌}
use Rattle.calculus.specs.declared.setting.Logic.{Logic}
use Rattle.calculus.specs.Labels.{pi_label}
use Rattle.store_theory.specs.Patterns.{Pattern, p_var, p_new, patterns_tree}
use Rattle.search_theory.specs.TemplateOf.{PatternSpot}
use Rattle.matrix_build.specs.declared.way.Way.{Way}

abbrev pub spot_at : ℕ → Way → PatternSpot
spot_at p w = record { position = p; label = w.label; taken = w.taken; env = w.env }

-- the variables that are taken, with one more
abbrev pub taken_with : ℕ → Way → List Pattern
taken_with n w = w.taken ++ p_var n ∷ []

-- behind a nu step that takes the variable n
abbrev pub nu_spot : Logic → ℕ → PatternSpot → PatternSpot
nu_spot l n c = record c { label = pi_label l c.label (p_var n); taken = c.taken ++ p_var n ∷ [] }

-- behind a pi step
abbrev pub pi_spot : Logic → PatternSpot → PatternSpot
pi_spot l c = record c { label = pi_label l c.label (p_new c.position (patterns_tree c.taken)) }
