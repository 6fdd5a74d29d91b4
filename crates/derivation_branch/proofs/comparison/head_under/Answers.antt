use Rattle.std.proofs.Common.{◌∙◌, [], get_or, ap, sym}
use Rattle.calculus.specs.Syntax as tree
use Rattle.formula_core.specs.TermView.{the_term}
use Rattle.derivation_branch.specs.EntryView.{term_under}
use Rattle.derivation_branch.proofs.PuttingLaws.{eigen-all, spare-all}
use Rattle.derivation_branch.proofs.UnderLaws.{under-fun, under-value}
use Rattle.derivation_branch.proofs.comparison.head_under.Goals as goal

pub returns-in-Given-clause-head : goal.returns-in-Given-clause-head
returns-in-Given-clause-head c =
    let table = c.args.substitutions.now in
    under-value table c.args.place c.in-Var.k c.in-Given.row.now c.value.ensures.closed c.in-Given.ensures.value
    ∙ ap (term_under table c.args.place) (sym (ap the_term c.in-Var.is))

pub returns-in-Eigen-value-clause-head : goal.returns-in-Eigen-value-clause-head
returns-in-Eigen-value-clause-head c =
    let table = c.args.substitutions.now in
    under-value table c.args.place c.in-Var.k (tree.eigen c.in-Eigen-value.n) c.value.ensures.closed c.in-Eigen-value.ensures.value
    ∙ ap (term_under table c.args.place) (sym (ap the_term c.in-Var.is))

pub returns-in-Free-clause-head : goal.returns-in-Free-clause-head
returns-in-Free-clause-head c =
    let table = c.args.substitutions.now in
    under-value table c.args.place c.in-Var.k (tree.var c.in-Free.n) c.value.ensures.closed c.in-Free.ensures.value
    ∙ ap (term_under table c.args.place) (sym (ap the_term c.in-Var.is))

pub returns-in-Fun-clause-head : goal.returns-in-Fun-clause-head
returns-in-Fun-clause-head c =
    let table = c.args.substitutions.now in
    under-fun table c.args.place c.in-Fun.f.0 c.in-Fun.args ∙ ap (term_under table c.args.place) (sym (ap the_term c.in-Fun.is))

pub returns-in-Eigen-clause-head : goal.returns-in-Eigen-clause-head
returns-in-Eigen-clause-head c =
    let table = c.args.substitutions.now in
    sym (eigen-all (get_or table c.args.place []) 0 c.in-Eigen.n) ∙ ap (term_under table c.args.place) (sym (ap the_term c.in-Eigen.is))

pub returns-in-Spare-clause-head : goal.returns-in-Spare-clause-head
returns-in-Spare-clause-head c =
    let table = c.args.substitutions.now in
    sym (spare-all (get_or table c.args.place []) 0 c.in-Spare.n) ∙ ap (term_under table c.args.place) (sym (ap the_term c.in-Spare.is))
