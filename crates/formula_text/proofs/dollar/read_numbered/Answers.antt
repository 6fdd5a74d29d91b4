use Rattle.std.proofs.Common.{subst}
use Rattle.formula_text.proofs.Marks.{no_zero}
use Rattle.formula_text.specs.Runs.{IsNumberAt}
use Rattle.formula_text.proofs.dollar.read_numbered.Goals as goal

pub returns-then-number-eq0-clause-none : goal.returns-then-number-eq0-clause-none
returns-then-number-eq0-clause-none c = λ _ to letter n.
    no_zero c.args.text.now c.args.from c.in_ok-number.end to letter c.in_ok-letter.letter n c.in_ok-letter.ensures.some
    (subst (IsNumberAt c.args.text.now _ c.in_ok-number.end) c.if-number-eq0.true c.in_ok-number.ensures.some)
