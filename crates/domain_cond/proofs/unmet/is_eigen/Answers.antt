use Rattle.std.proofs.Common.{◌∙◌}
use Rattle.domain_cond.proofs.LeafLaws.{eigen-head, head-eigen}
use Rattle.domain_cond.proofs.unmet.is_eigen.Goals as goal

pub returns-in-Eigen-clause-yes : goal.returns-in-Eigen-clause-yes
returns-in-Eigen-clause-yes c = λ e. head-eigen c.args.store.now.store c.args.end.0 c.head.result c.in-Eigen.field-0 c.requires c.head.ensures c.in-Eigen.is

pub returns-in-Open-clause-no : goal.returns-in-Open-clause-no
returns-in-Open-clause-no c = λ e p rs at. (let z = eigen-head c.args.store.now.store c.args.end.0 c.head.result p rs at c.head.ensures ∙ c.in-Open.is in cc z)

pub returns-in-Fun-clause-no : goal.returns-in-Fun-clause-no
returns-in-Fun-clause-no c = λ e p rs at. (let z = eigen-head c.args.store.now.store c.args.end.0 c.head.result p rs at c.head.ensures ∙ c.in-Fun.is in cc z)

pub returns-in-New-clause-no : goal.returns-in-New-clause-no
returns-in-New-clause-no c = λ e p rs at. (let z = eigen-head c.args.store.now.store c.args.end.0 c.head.result p rs at c.head.ensures ∙ c.in-New.is in cc z)

pub returns-in-Marks-clause-no : goal.returns-in-Marks-clause-no
returns-in-Marks-clause-no c = λ e p rs at. (let z = eigen-head c.args.store.now.store c.args.end.0 c.head.result p rs at c.head.ensures ∙ c.in-Marks.is in cc z)
