use Rattle.derivation_branch.specs.TableView.{the_link}
use Rattle.label_table.proofs.TableLaws.{first-empty}
use Rattle.derivation_branch.proofs.substitution.Substitutions.value.Goals as goal

pub returns-clause-first : goal.returns-clause-first
returns-clause-first c = first-empty the_link c.self.inside.bindings.items c.args.self.now c.self.view_is
