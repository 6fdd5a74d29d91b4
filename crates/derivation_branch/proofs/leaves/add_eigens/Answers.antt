use Rattle.std.proofs.Common.{◌∙◌}
use Rattle.label_table.proofs.TableLaws.{longer-taken}
use Rattle.derivation_branch.proofs.leaves.add_eigens.Goals as goal

pub returns-in-Err-clause-err : goal.returns-in-Err-clause-err
returns-in-Err-clause-err c = c.cut.ensures ∙ longer-taken c.args.set.now c.add_each_eigen.new.set c.in_ok-count.count c.add_each_eigen.ensures.kept c.in_ok-count.ensures
