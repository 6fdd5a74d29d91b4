use Rattle.std.proofs.Common.{◌+◌, Some, length, refl}
use Rattle.std.proofs.lemmas.Option.{slice_get_read}
use Rattle.search_tree.proofs.GrowthLaws.{tree-extended}
use Rattle.search_tree.proofs.SystemGrowth.{system-extended}
use Rattle.search_tree.specs.Trees.{fresh_goals}
use Rattle.search_tree.proofs.tree.Tree.extend.Goals as goal

pub returns-clause-tree : goal.returns-clause-tree
returns-clause-tree c = λ m cs g gs every ds n h.
    tree-extended m c.args.self.now.steps.items c.args.self.now.goals.items c.args.goal c.index-at.result.now c.args.copied c.args.place c.args.atom c.grow.new.self.steps.items c.grow.new.self.goals.items c.grow.new.self.open cs g gs every ds n h
    (slice_get_read c.args.self.now.goals.items (length c.args.self.now.goals.items) c.args.goal c.index-at.result.now refl c.requires.goal c.index-at.ensures) c.requires.place
    (record { steps_are = c.in_ok-grow.ensures.steps; goals_are = c.in_ok-grow.ensures.goals; first_is = c.in_ok-grow.ensures.first })

pub returns-clause-system : goal.returns-clause-system
returns-clause-system c = λ m cs g gs every ds h.
    system-extended m c.args.self.now.steps.items c.grow.new.self.steps.items c.args.self.now.goals.items (fresh_goals (length c.args.self.now.steps.items) (length c.args.self.now.goals.items) (Some c.args.goal) c.index-at.result.now.behind (c.index-at.result.now.depth + 1) 0 (length c.args.copied.copy.literals)) c.grow.new.self.goals.items c.args.goal c.args.copied c.args.place c.args.atom c.index-at.result.now cs g gs every ds h
    (slice_get_read c.args.self.now.goals.items (length c.args.self.now.goals.items) c.args.goal c.index-at.result.now refl c.requires.goal c.index-at.ensures)
    c.in_ok-grow.ensures.steps c.in_ok-grow.ensures.goals
