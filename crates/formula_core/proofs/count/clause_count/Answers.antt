use Rattle.std.proofs.Common.{◌∙◌, ◌+◌, ap, sym, min}
use Rattle.calculus.proofs.ClauseLaws.{length-selections}
use Rattle.formula_core.specs.FormulaView.{the_formula}
use Rattle.formula_core.proofs.count.clause_count.Goals as goal

pub returns : goal.returns
returns c =
    c.counts.ensures.clauses ∙ ap (λ n. min n (c.args.limit + 1)) (sym (length-selections (the_formula c.args.f.now) c.args.sign))
