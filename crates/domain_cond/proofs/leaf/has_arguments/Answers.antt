use Rattle.std.proofs.Common.{sym, ◌∙◌}
use Rattle.domain_cond.proofs.LeafLaws.{arguments-count, arguments-head}
use Rattle.domain_cond.proofs.leaf.has_arguments.Goals as goal

pub returns-in-Fun : goal.returns-in-Fun
returns-in-Fun c d at = arguments-count c.args.store.now.store c.args.end.0 c.parts.result c.head.result c.in-Fun.field-0 d at c.requires c.head.ensures c.in-Fun.is c.parts.ensures.count

pub returns-in-Open : goal.returns-in-Open
returns-in-Open c d at = sym (arguments-head c.args.store.now.store c.args.end.0 c.head.result d at c.requires c.head.ensures (λ f e. (let z = sym c.in-Open.is ∙ e in cc z)))

pub returns-in-Eigen : goal.returns-in-Eigen
returns-in-Eigen c d at = sym (arguments-head c.args.store.now.store c.args.end.0 c.head.result d at c.requires c.head.ensures (λ f e. (let z = sym c.in-Eigen.is ∙ e in cc z)))

pub returns-in-New : goal.returns-in-New
returns-in-New c d at = sym (arguments-head c.args.store.now.store c.args.end.0 c.head.result d at c.requires c.head.ensures (λ f e. (let z = sym c.in-New.is ∙ e in cc z)))

pub returns-in-Marks : goal.returns-in-Marks
returns-in-Marks c d at = sym (arguments-head c.args.store.now.store c.args.end.0 c.head.result d at c.requires c.head.ensures (λ f e. (let z = sym c.in-Marks.is ∙ e in cc z)))
