use Rattle.std.proofs.Common.{length, refl}
use Rattle.std.proofs.lemmas.Option.{slice_get_read}
use Rattle.search_tree.proofs.GrowthLaws.{tree-reduced}
use Rattle.search_tree.proofs.SystemGrowth.{system-reduced}
use Rattle.search_tree.proofs.tree.Tree.reduce.Goals as goal

pub returns-clause-tree : goal.returns-clause-tree
returns-clause-tree c = λ m cs g gs every ds w h. tree-reduced m c.args.self.now.steps.items c.args.self.now.goals.items c.args.goal c.index.result.now c.args.up c.args.ancestor _ _ cs g gs every ds w h (slice_get_read c.args.self.now.goals.items (length c.args.self.now.goals.items) c.args.goal c.index.result.now refl c.requires.goal c.index.ensures) c.in_ok-push.ensures.items refl

pub returns-clause-system : goal.returns-clause-system
returns-clause-system c = λ m cs g gs every ds at a h ea atom.
    system-reduced m c.args.self.now.steps.items _ c.args.self.now.goals.items c.args.goal c.args.up c.args.ancestor c.index.result.now at cs g a gs every ds h
    (slice_get_read c.args.self.now.goals.items (length c.args.self.now.goals.items) c.args.goal c.index.result.now refl c.requires.goal c.index.ensures) ea atom c.in_ok-push.ensures.items
