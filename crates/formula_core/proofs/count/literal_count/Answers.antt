use Rattle.std.proofs.Common.{◌∙◌, ◌+◌, ap, sym, min}
use Rattle.calculus.proofs.SelectionLaws.{total_size-selections}
use Rattle.formula_core.specs.FormulaView.{the_formula}
use Rattle.formula_core.proofs.count.literal_count.Goals as goal

pub returns : goal.returns
returns c =
    c.counts.ensures.literals ∙ ap (λ n. min n (c.args.limit + 1)) (sym (total_size-selections (the_formula c.args.f.now) c.args.sign))
