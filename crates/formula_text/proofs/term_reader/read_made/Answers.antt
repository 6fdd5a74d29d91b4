use Rattle.std.proofs.Common.{refl, sym, ◌∙◌}
use Rattle.std.proofs.lemmas.Bool.{false≢true}
use Rattle.formula_text.proofs.Heads.{no_numbered, no_made_end}
use Rattle.formula_text.proofs.term_reader.read_made.Goals as goal

pub returns-in_err-found-clause-none : goal.returns-in_err-found-clause-none
returns-in_err-found-clause-none c = λ _. no_numbered c.args.text.now c.args.from (c.in_err-found.ensures.none refl)

pub returns-then-not-ends_at-clause-none : goal.returns-then-not-ends_at-clause-none
returns-then-not-ends_at-clause-none c = λ _.
    no_made_end c.args.text.now c.args.from c.in_ok-found.found.end c.in_ok-found.found.letter c.in_ok-found.found.number c.in_ok-found.ensures.some (λ e. false≢true (sym c.if-not-ends_at.true ∙ c.ends_at.ensures.1 e))
