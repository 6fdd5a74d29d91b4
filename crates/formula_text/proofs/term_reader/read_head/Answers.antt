use Rattle.std.proofs.Common.{refl, sym, ◌∙◌, drop}
use Rattle.std.proofs.lemmas.Bool.{false≢true}
use Rattle.formula_text.proofs.Heads.{no_made, no_name, no_constant, not_known}
use Rattle.formula_text.proofs.Passing.{error-passed}
use Rattle.formula_text.proofs.RowsRead.{constant-leaf, made-leaf}
use Rattle.formula_text.proofs.term_reader.read_head.Goals as goal

pub returns-in-Some-clause-ok : goal.returns-in-Some-clause-ok
returns-in-Some-clause-ok c = made-leaf c.args.symbols.now c.args.text.now c.args.from c.in-Some.end c.in-Some.item c.in-Some.ensures.some c.in-Some.ensures.within

pub returns-in-None-clause-none : goal.returns-in-None-clause-none
returns-in-None-clause-none c = λ _. no_made c.args.symbols.now c.args.text.now c.args.from (c.has_byte.ensures.yes c.if-has_byte.true) (c.in-None.ensures.none refl)

pub returns-clause-ok : goal.returns-clause-ok
returns-clause-ok c =
    constant-leaf c.args.symbols.now c.args.text.now c.args.from c.in_ok-name.end c.in_ok-id.id c.in_ok-name.name c.in_ok-name.ensures.ok c.in_ok-name.ensures.within (c.ends_at.ensures.0 c.if-not-ends_at.false) c.in_ok-id.ensures.ok

pub returns-in_err-name-clause-none : goal.returns-in_err-name-clause-none
returns-in_err-name-clause-none c = λ e.
    no_name c.args.symbols.now c.args.text.now c.args.from c.requires.fits (c.has_byte.ensures.no c.if-has_byte.false) (c.in_err-name.ensures.none (error-passed c.from_residual.result c.in_err-name.field-0.0 _ c.from_residual.ensures.1 e))

pub returns-then-not-ends_at-clause-none : goal.returns-then-not-ends_at-clause-none
returns-then-not-ends_at-clause-none c = λ _.
    no_constant c.args.symbols.now c.args.text.now c.args.from c.in_ok-name.end c.in_ok-name.name (c.has_byte.ensures.no c.if-has_byte.false) c.in_ok-name.ensures.ok (c.has_byte-2.ensures.no c.if-has_byte-2.false)
    (λ f h e. false≢true (sym c.if-not-ends_at.true ∙ c.ends_at.ensures.1 e))

pub returns-in_err-id-clause-none : goal.returns-in_err-id-clause-none
returns-in_err-id-clause-none c = λ e.
    no_constant c.args.symbols.now c.args.text.now c.args.from c.in_ok-name.end c.in_ok-name.name (c.has_byte.ensures.no c.if-has_byte.false) c.in_ok-name.ensures.ok (c.has_byte-2.ensures.no c.if-has_byte-2.false)
    (not_known c.args.symbols.now c.in_ok-name.name (drop c.in_ok-name.end c.args.text.now) (c.in_err-id.ensures.none (error-passed c.from_residual-in_err-id.result c.in_err-id.field-0.0 _ c.from_residual-in_err-id.ensures.1 e)))
