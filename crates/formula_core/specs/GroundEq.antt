-- Equality of ground values as a test.
use Rattle.std.specs.Prelude.{◌≡◌, List}
use Rattle.std.proofs.Common.{ap}
use Rattle.std.specs.Bool.{Decides}
use Rattle.cop_base.proofs.Items.{map-item}
use Rattle.calculus.specs.Ground as tree
use Rattle.calculus.specs.Lists.{g_terms_tree, g_terms_tree-inj, marks_tree-inj, values_tree-inj}
use Rattle.calculus.specs.Equality.{grounds_eq}
use Rattle.calculus.proofs.EqualityLaws.{grounds_eq-tells}

-- the tests at lists
pub g_terms_eq-tells : (xs ys : List tree.GroundTerm) → Decides (grounds_eq (g_terms_tree xs) (g_terms_tree ys)) (xs ≡ ys)
g_terms_eq-tells xs ys = (λ h. g_terms_tree-inj xs ys ((grounds_eq-tells (g_terms_tree xs) (g_terms_tree ys)).0 h), λ e. (grounds_eq-tells (g_terms_tree xs) (g_terms_tree ys)).1 (ap g_terms_tree e))

pub ruleset tree_equality = (g_terms_tree-inj, marks_tree-inj, values_tree-inj, map-item)
