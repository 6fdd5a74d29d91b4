-- Ground values as lists of numbers: different values have different lists.
use Rattle.std.specs.Prelude.{ℕ, List, [], ◌∷◌, ◌++◌, Bool, ◌==◌}
use Rattle.std.specs.Cmp.Lexicographic.{pointwise}
use base.Stored.{Gv, gnil, gnum, gcons}
use Rattle.calculus.specs.Codes.{values_gv}
use Rattle.calculus.specs.Ground.{Value, values_tree}
use Rattle.calculus.specs.Instances.{Turn}

-- a code in preorder, each part behind the number of its kind
abbrev pub flat : Gv → List ℕ
flat gnil = 0 ∷ []
flat (gnum n) = 1 ∷ n ∷ []
flat (gcons a b) = 2 ∷ (flat a ++ flat b)

abbrev pub words_of_values : List Value → List ℕ
words_of_values vs = flat (values_gv (values_tree vs))

abbrev pub words_of_turn : Turn → List ℕ
words_of_turn x = x.position ∷ words_of_values x.values

abbrev pub words_eq : List ℕ → List ℕ → Bool
words_eq = pointwise ◌==◌
