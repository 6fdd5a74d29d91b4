use Rattle.std.proofs.Common.{◌≡◌, ℕ, ◌+◌, min, arith}
use Rattle.formula_core.specs.FormulaView.{the_formula}
use Rattle.godel_transfer.proofs.TranslationSizes.{translation-nodes}
use Rattle.godel_transfer.proofs.measures.translation_nodes.Goals as goal

capped : (x y a b t r : ℕ) → x ≡ min a 4000001 → y ≡ min b 4000001 → r ≡ min (x + y) 4000001 → t ≡ a + b → r ≡ min t 4000001
capped x y a b t r h g k l = omega arith

pub returns : goal.returns
returns c = capped c.node_count.result c.boxes_added.result _ _ _ _ c.node_count.ensures c.boxes_added.ensures c.min.ensures (translation-nodes (the_formula c.args.f.now))
