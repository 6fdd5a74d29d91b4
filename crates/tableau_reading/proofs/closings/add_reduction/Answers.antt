use Rattle.std.proofs.Common.{◌∷◌, subst, sym}
use Rattle.calculus.specs.Choices.{reduction}
use Rattle.search_theory.specs.Joined.{closings_by}
use Rattle.tableau_core.specs.declared.closing.Closing.TheVariants as program
use Rattle.tableau_reading.specs.Reading.{AreClosingsOf, stacked}
use Rattle.tableau_reading.proofs.BuiltLaws.{closings-reduce}
use Rattle.tableau_reading.proofs.StackLaws.{names-reduce, stacked-more}
use Rattle.tableau_reading.proofs.closings.add_reduction.Goals as goal

pub returns-clause-names : goal.returns-clause-names
returns-clause-names c = names-reduce c.push.new.self.items c.args.stack.now.items c.args.up c.in_ok-push.ensures.items

pub returns-clause-built : goal.returns-clause-built
returns-clause-built c = λ ls gs h. subst (λ cs. AreClosingsOf ls cs (closings_by (reduction c.args.up ∷ gs))) (sym (stacked-more c.push.new.self.items c.args.stack.now.items (program.Reduce c.args.up) c.in_ok-push.ensures.items)) (closings-reduce ls c.args.up (stacked c.args.stack.now.items) gs h)
