use Rattle.search_tree.specs.declared.tree.Step.TheVariants.{Start}
use Rattle.search_tree.proofs.GrowthLaws.{grows-first, tree-started}
use Rattle.search_tree.proofs.SystemGrowth.{system-started}
use Rattle.search_tree.proofs.tree.Tree.start.Goals as goal

pub returns-clause-tree : goal.returns-clause-tree
returns-clause-tree c = λ m n. tree-started m c.args.copied c.grow.new.self.steps.items c.grow.new.self.goals.items c.grow.new.self.open n (grows-first c.args.self.now.steps.items c.grow.new.self.steps.items c.args.self.now.goals.items c.grow.new.self.goals.items (Start c.args.copied) c.grow.new.self.open c.requires.steps c.requires.goals c.in_ok-grow.ensures.steps c.in_ok-grow.ensures.goals c.in_ok-grow.ensures.first)

pub returns-clause-system : goal.returns-clause-system
returns-clause-system c = λ m. system-started m c.args.copied c.args.self.now.steps.items c.grow.new.self.steps.items c.grow.new.self.goals.items c.requires.steps c.in_ok-grow.ensures.steps
