use Rattle.std.proofs.Common.{sym, ◌∙◌}
use Rattle.std.proofs.lemmas.Bool.{false≢true}
use Rattle.formula_text.proofs.Passing.{error-passed}
use Rattle.formula_text.proofs.Quoted.{quoted-name, no_characters, no_whole}
use Rattle.formula_text.proofs.name_reader.read_quoted.Goals as goal

pub returns-in_err-name-clause-none : goal.returns-in_err-name-clause-none
returns-in_err-name-clause-none c = λ e.
    no_characters c.args.text.now c.args.from c.requires.begins (c.in_err-name.ensures.none (error-passed c.from_residual.result c.in_err-name.field-0.0 _ c.from_residual.ensures.1 e))

pub returns-then-not-is_whole-clause-none : goal.returns-then-not-is_whole-clause-none
returns-then-not-is_whole-clause-none c = λ _.
    no_whole c.args.text.now c.args.from c.in_ok-name.to c.in_ok-name.name.items c.requires.begins c.in_ok-name.ensures.ok
    (λ w. false≢true (sym c.if-not-is_whole.true ∙ c.is_whole.ensures.1 (rw c.as_slice.ensures.value w)))

pub returns-clause-ok : goal.returns-clause-ok
returns-clause-ok c =
    rw (c.in_ok-name-2.ensures.ok, c.as_slice-2.ensures.value)
    (quoted-name c.args.text.now c.args.from c.in_ok-name.to c.in_ok-name.name.items c.requires.within c.requires.begins c.in_ok-name.ensures.within c.in_ok-name.ensures.ok
    (rw c.as_slice.ensures.value at (c.is_whole.ensures.0 c.if-not-is_whole.false)))
