use Rattle.std.proofs.Common.{sym, ◌∙◌, subst, ◌∷◌, []}
use Rattle.tptp_reader.specs.declared.source.Source.TheVariants.{Atom}
use Rattle.tptp_reader.specs.Standing.{SideRead}
use Rattle.tptp_reader.specs.TermView.{the_source_term}
use Rattle.tptp_reader.proofs.AtomReading.{side-equal, side-unequal, side-none}
use Rattle.tptp_reader.specs.Expecting.{term}
use Rattle.tptp_reader.specs.Failing.{OnStacks, Fails, side_part}
use Rattle.tptp_reader.proofs.FailLaws.{stops-at}
use Rattle.tptp_reader.proofs.AtomFails.{fails-equal, fails-unequal, fails-applied, fails-variable}
use Rattle.tptp_reader.proofs.formula_reader.read_side.Goals as goal

pub returns-then-is_equal-clause-read : goal.returns-then-is_equal-clause-read
returns-then-is_equal-clause-read c = side-equal c.args.depth c.args.left c.in_ok-right.right (sym c.is_equal.ensures ∙ c.if-is_equal.true) c.in_ok-right.ensures.read

pub returns-then-is_unequal-clause-read : goal.returns-then-is_unequal-clause-read
returns-then-is_unequal-clause-read c = side-unequal c.args.depth c.args.left c.in_ok-right-2.right (sym c.is_unequal.ensures ∙ c.if-is_unequal.true) c.in_ok-right-2.ensures.read

pub returns-in-Fun-clause-read : goal.returns-in-Fun-clause-read
returns-in-Fun-clause-read c =
    subst (λ z. SideRead c.args.text.now c.args.depth (the_source_term z) c.args.sign (Atom c.in-Fun.name c.in-Fun.args, c.args.sign)) (sym c.in-Fun.is)
    (side-none c.args.depth c.in-Fun.name c.in-Fun.args)

pub returns-in_err-right-clause-settles : goal.returns-in_err-right-clause-settles
returns-in_err-right-clause-settles c = λ modal.
    stops-at modal c.args.text.now (side_part (the_source_term c.args.left) c.args.depth ∷ []) c.args.sign (OnStacks (λ es. Fails modal c.args.text.now (term c.args.depth ∷ es) c.args.sign.end)) c.from_residual.result c.in_err-right.field-0.0 c.from_residual.ensures.1 (c.in_err-right.ensures.settles modal)
    (λ h es b. fails-equal modal c.args.depth (the_source_term c.args.left) es (sym c.is_equal.ensures ∙ c.if-is_equal.true) (h es b))

pub returns-then-is_equal-clause-settles : goal.returns-then-is_equal-clause-settles
returns-then-is_equal-clause-settles c = λ modal es b h.
    fails-equal modal c.args.depth (the_source_term c.args.left) es (sym c.is_equal.ensures ∙ c.if-is_equal.true) (c.in_ok-right.ensures.settles modal es b h)

pub returns-in_err-right-2-clause-settles : goal.returns-in_err-right-2-clause-settles
returns-in_err-right-2-clause-settles c = λ modal.
    stops-at modal c.args.text.now (side_part (the_source_term c.args.left) c.args.depth ∷ []) c.args.sign (OnStacks (λ es. Fails modal c.args.text.now (term c.args.depth ∷ es) c.args.sign.end)) c.from_residual-in_err-right-2.result c.in_err-right-2.field-0.0 c.from_residual-in_err-right-2.ensures.1 (c.in_err-right-2.ensures.settles modal)
    (λ h es b. fails-unequal modal c.args.depth (the_source_term c.args.left) es (sym c.is_unequal.ensures ∙ c.if-is_unequal.true) (h es b))

pub returns-then-is_unequal-clause-settles : goal.returns-then-is_unequal-clause-settles
returns-then-is_unequal-clause-settles c = λ modal es b h.
    fails-unequal modal c.args.depth (the_source_term c.args.left) es (sym c.is_unequal.ensures ∙ c.if-is_unequal.true) (c.in_ok-right-2.ensures.settles modal es b h)

pub returns-in-Fun-clause-settles : goal.returns-in-Fun-clause-settles
returns-in-Fun-clause-settles c = λ modal es b h.
    fails-applied modal c.args.depth c.args.left c.in-Fun.name c.in-Fun.args es c.in-Fun.is (sym c.is_equal.ensures ∙ c.if-is_equal.false) (sym c.is_unequal.ensures ∙ c.if-is_unequal.false) h

pub returns-clause-settles : goal.returns-clause-settles
returns-clause-settles c = λ modal es b.
    fails-variable modal c.args.depth c.args.left c.in-Var.field-0 es c.in-Var.is (sym c.is_equal.ensures ∙ c.if-is_equal.false) (sym c.is_unequal.ensures ∙ c.if-is_unequal.false)
