use Rattle.std.proofs.Common.{sym, ◌∙◌, ap, ◌++◌, ◌∷◌, [], ◌<◌, List, subst, arith, ◌≡◌, refl, false, suc}
use Rattle.std.proofs.lemmas.Result.{IfOk-weaker}
use Rattle.plain_laws.proofs.Options.{not-some}
use Rattle.tptp_reader.specs.Sources as tree
use Rattle.tptp_reader.specs.SourceView.{the_source}
use Rattle.tptp_reader.specs.Standing.{AtomRead, BinaryRead, ChainRead, ChainUpTo, FormulaRead, IsClosed, UnitRead, prefix_in, chain_in}
use Rattle.tptp_reader.proofs.FormulaReading.{unit-atom, unit-bracket, unit-negation, unit-universal, unit-existential, unit-necessity, unit-possibility, formula-single, formula-chain, formula-binary, binary-read, chain-begun, chain-on, chain-done}
use Rattle.tptp_reader.specs.Expecting.{this, a_closing, a_colon, atom, unit, formula, formula_rest, chain_rest}
use Rattle.tptp_reader.specs.Failing.{OnStacks, Behind, Fails, FailsAt, quantifier_parts}
use Rattle.tptp_reader.specs.Following.{is_shallow}
use Rattle.tptp_reader.specs.TerminalView.{the_terminal}
use Rattle.tptp_reader.specs.declared.formula_reader.Prefix.TheVariants.{Bracket, Negation, Universal, Existential, Necessity, Possibility}
use Rattle.tptp_reader.proofs.FailLaws.{fails-next, stops-at, stops-behind, passes-at, passes-on}
use Rattle.tptp_reader.proofs.FormulaFails.{fails-prefix, prefix-deep, fails-bracketed, fails-negated, fails-universal, fails-existential, fails-necessity, fails-possibility, fails-atomic, fails-formula, fails-chain, fails-binary, fails-alone, fails-further, fails-last}
use Rattle.tptp_reader.proofs.formula_reader.+read_tree.Goals as goal

pub read_unit-returns-in_default-clause-read : goal.read_unit-returns-in_default-clause-read
read_unit-returns-in_default-clause-read m c =
    IfOk-weaker c.read_atom.result (AtomRead c.args.text.now c.args.depth c.args.p) (UnitRead c.args.modal c.args.text.now c.args.depth c.args.p)
    (λ r h. unit-atom c.args.depth r.0 h)
    c.read_atom.ensures.read

pub read_bracketed-returns-clause-read : goal.read_bracketed-returns-clause-read
read_bracketed-returns-clause-read m c =
    IfOk-weaker c.closed.result (IsClosed c.args.text.now (the_source c.in_ok-source.source) c.in_ok-source.close) (UnitRead c.args.modal c.args.text.now c.args.depth c.args.p)
    (λ r h. unit-bracket c.args.depth c.in_ok-inner.inner c.in_ok-source.source r c.requires.prefix c.in_ok-inner.ensures.inner c.in_ok-inner.ensures.shallow c.in_ok-start.ensures.next c.in_ok-source.ensures.read h)
    c.closed.ensures.read

pub read_bracketed-returns-clause-onward : goal.read_bracketed-returns-clause-onward
read_bracketed-returns-clause-onward m c =
    IfOk-weaker c.closed.result (λ r. c.in_ok-source.close.end < r.1.end) (λ r. c.args.p.end < r.1.end)
    (λ r h. omega (arith, h, c.in_ok-start.ensures.onward, c.in_ok-source.ensures.onward))
    c.closed.ensures.onward

pub read_inner-returns-clause-read : goal.read_inner-returns-clause-read
read_inner-returns-clause-read m c = (c.in_ok-source.source, c.in_ok-inner.ensures, c.in_ok-source.ensures.read)

pub read_negation-returns-clause-read : goal.read_negation-returns-clause-read
read_negation-returns-clause-read m c = unit-negation c.args.depth c.in_ok-below.below c.in_ok-inner.inner c.requires.prefix c.in_ok-below.ensures.inner c.in_ok-below.ensures.shallow c.in_ok-start.ensures.next c.in_ok-inner.ensures.read

pub read_universal-returns-clause-read : goal.read_universal-returns-clause-read
read_universal-returns-clause-read m c = unit-universal c.args.depth c.in_ok-below.below c.in_ok-names.names c.in_ok-inner.inner c.requires.prefix c.in_ok-below.ensures.inner c.in_ok-below.ensures.shallow c.in_ok-names.ensures.read c.in_ok-inner.ensures.read

pub read_existential-returns-clause-read : goal.read_existential-returns-clause-read
read_existential-returns-clause-read m c = unit-existential c.args.depth c.in_ok-below.below c.in_ok-names.names c.in_ok-inner.inner c.requires.prefix c.in_ok-below.ensures.inner c.in_ok-below.ensures.shallow c.in_ok-names.ensures.read c.in_ok-inner.ensures.read

pub read_necessity-returns-clause-read : goal.read_necessity-returns-clause-read
read_necessity-returns-clause-read m c = unit-necessity c.args.depth c.in_ok-below.below c.in_ok-inner.inner c.requires.prefix c.in_ok-below.ensures.inner c.in_ok-below.ensures.shallow c.in_ok-start.ensures.read c.in_ok-inner.ensures.read

pub read_possibility-returns-clause-read : goal.read_possibility-returns-clause-read
read_possibility-returns-clause-read m c = unit-possibility c.args.depth c.in_ok-below.below c.in_ok-inner.inner c.requires.prefix c.in_ok-below.ensures.inner c.in_ok-below.ensures.shallow c.in_ok-start.ensures.read c.in_ok-inner.ensures.read

pub read_tree-returns-in-Some-clause-read : goal.read_tree-returns-in-Some-clause-read
read_tree-returns-in-Some-clause-read m c =
    IfOk-weaker c.read_chain.result (ChainRead c.args.modal c.args.text.now c.args.depth c.in-Some.kind (the_source c.in_ok-first.first) c.in_ok-first.sign) (FormulaRead c.args.modal c.args.text.now c.args.depth c.args.p)
    (λ r h. formula-chain c.args.depth c.in-Some.kind c.in_ok-first.first r c.in_ok-first.ensures.read (sym c.chain_of.ensures ∙ c.in-Some.is) h)
    c.read_chain.ensures.read

pub read_tree-returns-in-Some-clause-onward : goal.read_tree-returns-in-Some-clause-onward
read_tree-returns-in-Some-clause-onward m c =
    IfOk-weaker c.read_chain.result (λ r. c.in_ok-first.sign.end < r.1.end) (λ r. c.args.p.end < r.1.end)
    (λ r h. omega (arith, h, c.in_ok-first.ensures.onward))
    c.read_chain.ensures.onward

pub read_tree-returns-in-Some-binary_of-clause-read : goal.read_tree-returns-in-Some-binary_of-clause-read
read_tree-returns-in-Some-binary_of-clause-read m c =
    IfOk-weaker c.read_binary.result (BinaryRead c.args.modal c.args.text.now c.args.depth c.in-Some-binary_of.kind (the_source c.in_ok-first.first) c.in_ok-first.sign) (FormulaRead c.args.modal c.args.text.now c.args.depth c.args.p)
    (λ r h. formula-binary c.args.depth c.in-Some-binary_of.kind c.in_ok-first.first r c.in_ok-first.ensures.read (sym c.binary_of.ensures ∙ c.in-Some-binary_of.is) h)
    c.read_binary.ensures.read

pub read_tree-returns-in-Some-binary_of-clause-onward : goal.read_tree-returns-in-Some-binary_of-clause-onward
read_tree-returns-in-Some-binary_of-clause-onward m c =
    IfOk-weaker c.read_binary.result (λ r. c.in_ok-first.sign.end < r.1.end) (λ r. c.args.p.end < r.1.end)
    (λ r h. omega (arith, h, c.in_ok-first.ensures.onward))
    c.read_binary.ensures.onward

pub read_tree-returns-in-None-clause-read : goal.read_tree-returns-in-None-clause-read
read_tree-returns-in-None-clause-read m c = formula-single c.args.depth c.in_ok-first.first c.in_ok-first.ensures.read

pub read_binary-returns-clause-read : goal.read_binary-returns-clause-read
read_binary-returns-clause-read m c = binary-read c.args.depth c.args.kind c.in_ok-left.left (the_source c.args.first) c.in_ok-right.right c.in_ok-left.ensures c.in_ok-start.ensures.next c.in_ok-right.ensures.read

pub read_chain-loop-units-init : goal.read_chain-loop-units-init
read_chain-loop-units-init m c = record {
  read = chain-begun c.args.depth c.args.kind (the_source c.args.first) c.push.new.self (c.in_ok-push.ensures.ok ∙ ap (λ z. z ++ the_source c.args.first ∷ []) c.new-units.ensures);
  settles = λ es b h. h;
  onward = omega arith;
  within = c.requires;
}

pub read_chain-loop-units-preserved : goal.read_chain-loop-units-preserved
read_chain-loop-units-preserved m c = record {
  read =
      subst (λ (z : List tree.Source). ChainUpTo c.args.modal c.args.text.now c.args.depth c.args.kind (the_source c.args.first) c.args.sign z c.in_ok-unit.next) (sym c.in_ok-push-2.ensures.ok)
      (chain-on c.args.depth c.args.kind (the_source c.args.first) c.loop-units.units c.in_ok-unit.unit c.loop-units.invariant.read c.in_ok-start.ensures.next c.in_ok-unit.ensures.read (sym c.is_chain.ensures ∙ c.if-not-is_chain.false));
  settles = λ es b h. c.loop-units.invariant.settles es b (fails-next c.args.modal (unit c.args.depth ∷ chain_rest c.args.kind c.args.depth ∷ es) refl c.in_ok-start.ensures.next (c.in_ok-unit.ensures.settles (chain_rest c.args.kind c.args.depth ∷ es) b (fails-further c.args.modal c.args.depth c.args.kind es (sym c.is_chain.ensures ∙ c.if-not-is_chain.false) h)));
  onward = omega (arith, c.loop-units.invariant.onward, c.in_ok-start.ensures.onward, c.in_ok-unit.ensures.onward);
  within = c.in_ok-unit.ensures.within;
}

pub read_chain-returns-then-not-is_chain-clause-read : goal.read_chain-returns-then-not-is_chain-clause-read
read_chain-returns-then-not-is_chain-clause-read m c =
    chain-done c.args.depth c.args.kind (the_source c.args.first) c.loop-units.units c.push-in-loop-units.new.self c.in_ok-unit.unit c.loop-units.invariant.read c.in_ok-start.ensures.next c.in_ok-unit.ensures.read c.in_ok-push-2.ensures.ok

pub read_unit-returns-in_default-clause-settles : goal.read_unit-returns-in_default-clause-settles
read_unit-returns-in_default-clause-settles m c =
    passes-at c.args.modal c.args.text.now (atom c.args.depth ∷ []) c.args.p (unit c.args.depth ∷ []) c.args.p c.read_atom.result
    (λ es b h. fails-atomic c.args.modal c.args.depth es (not-some (prefix_in c.args.modal (the_terminal c.args.p.terminal)) (λ v e. c.in_default.not-Some v (c.prefix_of.ensures ∙ e))) h) (c.read_atom.ensures.settles c.args.modal)

pub read_bracketed-returns-in_err-inner-clause-settles : goal.read_bracketed-returns-in_err-inner-clause-settles
read_bracketed-returns-in_err-inner-clause-settles m c =
    stops-at c.args.modal c.args.text.now (unit c.args.depth ∷ []) c.args.p (is_shallow c.args.depth ≡ false) c.from_residual.result c.in_err-inner.field-0.0 c.from_residual.ensures.1 (c.in_err-inner.ensures.deep)
    (λ h es b. prefix-deep c.args.modal c.args.depth Bracket es c.requires.prefix h)

pub read_bracketed-returns-in_err-start-clause-settles : goal.read_bracketed-returns-in_err-start-clause-settles
read_bracketed-returns-in_err-start-clause-settles m c =
    stops-at c.args.modal c.args.text.now (unit c.args.depth ∷ []) c.args.p (OnStacks (Behind c.args.modal c.args.text.now c.args.p.end)) c.from_residual-in_err-start.result c.in_err-start.field-0.0 c.from_residual-in_err-start.ensures.1 (c.in_err-start.ensures.settles c.args.modal)
    (λ h es b. fails-prefix c.args.modal c.args.depth Bracket es c.requires.prefix (h (formula (suc c.args.depth) ∷ this a_closing (suc c.args.depth) ∷ es) refl))

pub read_bracketed-returns-in_err-source-clause-settles : goal.read_bracketed-returns-in_err-source-clause-settles
read_bracketed-returns-in_err-source-clause-settles m c =
    stops-at c.args.modal c.args.text.now (unit c.args.depth ∷ []) c.args.p (OnStacks (λ es. FailsAt c.args.modal c.args.text.now (formula c.in_ok-inner.inner ∷ es) c.in_ok-start.start)) c.from_residual-in_err-source.result c.in_err-source.field-0.0 c.from_residual-in_err-source.ensures.1 (c.in_err-source.ensures.settles)
    (λ h es b. fails-bracketed c.args.modal c.args.depth c.in_ok-inner.inner es c.requires.prefix c.in_ok-inner.ensures.inner c.in_ok-start.ensures.next (h (this a_closing c.in_ok-inner.inner ∷ es) refl))

pub read_bracketed-returns-clause-settles : goal.read_bracketed-returns-clause-settles
read_bracketed-returns-clause-settles m c =
    passes-at c.args.modal c.args.text.now (this a_closing c.in_ok-inner.inner ∷ []) c.in_ok-source.close (unit c.args.depth ∷ []) c.args.p c.closed.result
    (λ es b h. fails-bracketed c.args.modal c.args.depth c.in_ok-inner.inner es c.requires.prefix c.in_ok-inner.ensures.inner c.in_ok-start.ensures.next (c.in_ok-source.ensures.settles (this a_closing c.in_ok-inner.inner ∷ es) refl h)) (c.closed.ensures.settles c.args.modal c.in_ok-inner.inner)

pub read_inner-returns-in_err-source-clause-settles : goal.read_inner-returns-in_err-source-clause-settles
read_inner-returns-in_err-source-clause-settles m c =
    stops-at c.args.modal c.args.text.now (unit c.args.depth ∷ []) c.args.p (OnStacks (λ es. FailsAt c.args.modal c.args.text.now (unit c.args.depth ∷ es) c.args.p)) c.from_residual.result c.in_err-source.field-0.0 c.from_residual.ensures.1 (c.in_err-source.ensures.settles)
    (λ h. h)

pub read_inner-returns-clause-settles : goal.read_inner-returns-clause-settles
read_inner-returns-clause-settles m c = λ es b h. c.in_ok-source.ensures.settles es b h

pub read_negation-returns-in_err-below-clause-settles : goal.read_negation-returns-in_err-below-clause-settles
read_negation-returns-in_err-below-clause-settles m c =
    stops-at c.args.modal c.args.text.now (unit c.args.depth ∷ []) c.args.p (is_shallow c.args.depth ≡ false) c.from_residual.result c.in_err-below.field-0.0 c.from_residual.ensures.1 (c.in_err-below.ensures.deep)
    (λ h es b. prefix-deep c.args.modal c.args.depth Negation es c.requires.prefix h)

pub read_negation-returns-in_err-start-clause-settles : goal.read_negation-returns-in_err-start-clause-settles
read_negation-returns-in_err-start-clause-settles m c =
    stops-at c.args.modal c.args.text.now (unit c.args.depth ∷ []) c.args.p (OnStacks (Behind c.args.modal c.args.text.now c.args.p.end)) c.from_residual-in_err-start.result c.in_err-start.field-0.0 c.from_residual-in_err-start.ensures.1 (c.in_err-start.ensures.settles c.args.modal)
    (λ h es b. fails-prefix c.args.modal c.args.depth Negation es c.requires.prefix (h (unit (suc c.args.depth) ∷ es) refl))

pub read_negation-returns-in_err-inner-clause-settles : goal.read_negation-returns-in_err-inner-clause-settles
read_negation-returns-in_err-inner-clause-settles m c =
    stops-at c.args.modal c.args.text.now (unit c.args.depth ∷ []) c.args.p (OnStacks (λ es. FailsAt c.args.modal c.args.text.now (unit c.in_ok-below.below ∷ es) c.in_ok-start.start)) c.from_residual-in_err-inner.result c.in_err-inner.field-0.0 c.from_residual-in_err-inner.ensures.1 (c.in_err-inner.ensures.settles)
    (λ h es b. fails-negated c.args.modal c.args.depth c.in_ok-below.below es c.requires.prefix c.in_ok-below.ensures.inner c.in_ok-start.ensures.next (h es b))

pub read_negation-returns-clause-settles : goal.read_negation-returns-clause-settles
read_negation-returns-clause-settles m c = λ es b h. fails-negated c.args.modal c.args.depth c.in_ok-below.below es c.requires.prefix c.in_ok-below.ensures.inner c.in_ok-start.ensures.next (c.in_ok-inner.ensures.settles es b h)

pub read_universal-returns-in_err-below-clause-settles : goal.read_universal-returns-in_err-below-clause-settles
read_universal-returns-in_err-below-clause-settles m c =
    stops-at c.args.modal c.args.text.now (unit c.args.depth ∷ []) c.args.p (is_shallow c.args.depth ≡ false) c.from_residual.result c.in_err-below.field-0.0 c.from_residual.ensures.1 (c.in_err-below.ensures.deep)
    (λ h es b. prefix-deep c.args.modal c.args.depth Universal es c.requires.prefix h)

pub read_universal-returns-in_err-names-clause-settles : goal.read_universal-returns-in_err-names-clause-settles
read_universal-returns-in_err-names-clause-settles m c =
    stops-at c.args.modal c.args.text.now (unit c.args.depth ∷ []) c.args.p (OnStacks (λ es. Fails c.args.modal c.args.text.now (quantifier_parts c.args.depth ++ es) c.args.p.end)) c.from_residual-in_err-names.result c.in_err-names.field-0.0 c.from_residual-in_err-names.ensures.1 (c.in_err-names.ensures.settles c.args.modal c.args.depth)
    (λ h es b. fails-prefix c.args.modal c.args.depth Universal es c.requires.prefix (h (unit (suc c.args.depth) ∷ es) refl))

pub read_universal-returns-in_err-inner-clause-settles : goal.read_universal-returns-in_err-inner-clause-settles
read_universal-returns-in_err-inner-clause-settles m c =
    stops-at c.args.modal c.args.text.now (unit c.args.depth ∷ []) c.args.p (OnStacks (λ es. FailsAt c.args.modal c.args.text.now (unit c.in_ok-below.below ∷ es) c.in_ok-names.start)) c.from_residual-in_err-inner.result c.in_err-inner.field-0.0 c.from_residual-in_err-inner.ensures.1 (c.in_err-inner.ensures.settles)
    (λ h es b. fails-universal c.args.modal c.args.depth c.in_ok-below.below es c.requires.prefix c.in_ok-below.ensures.inner (c.in_ok-names.ensures.settles c.args.modal c.args.depth) (h es b))

pub read_universal-returns-clause-settles : goal.read_universal-returns-clause-settles
read_universal-returns-clause-settles m c = λ es b h. fails-universal c.args.modal c.args.depth c.in_ok-below.below es c.requires.prefix c.in_ok-below.ensures.inner (c.in_ok-names.ensures.settles c.args.modal c.args.depth) (c.in_ok-inner.ensures.settles es b h)

pub read_existential-returns-in_err-below-clause-settles : goal.read_existential-returns-in_err-below-clause-settles
read_existential-returns-in_err-below-clause-settles m c =
    stops-at c.args.modal c.args.text.now (unit c.args.depth ∷ []) c.args.p (is_shallow c.args.depth ≡ false) c.from_residual.result c.in_err-below.field-0.0 c.from_residual.ensures.1 (c.in_err-below.ensures.deep)
    (λ h es b. prefix-deep c.args.modal c.args.depth Existential es c.requires.prefix h)

pub read_existential-returns-in_err-names-clause-settles : goal.read_existential-returns-in_err-names-clause-settles
read_existential-returns-in_err-names-clause-settles m c =
    stops-at c.args.modal c.args.text.now (unit c.args.depth ∷ []) c.args.p (OnStacks (λ es. Fails c.args.modal c.args.text.now (quantifier_parts c.args.depth ++ es) c.args.p.end)) c.from_residual-in_err-names.result c.in_err-names.field-0.0 c.from_residual-in_err-names.ensures.1 (c.in_err-names.ensures.settles c.args.modal c.args.depth)
    (λ h es b. fails-prefix c.args.modal c.args.depth Existential es c.requires.prefix (h (unit (suc c.args.depth) ∷ es) refl))

pub read_existential-returns-in_err-inner-clause-settles : goal.read_existential-returns-in_err-inner-clause-settles
read_existential-returns-in_err-inner-clause-settles m c =
    stops-at c.args.modal c.args.text.now (unit c.args.depth ∷ []) c.args.p (OnStacks (λ es. FailsAt c.args.modal c.args.text.now (unit c.in_ok-below.below ∷ es) c.in_ok-names.start)) c.from_residual-in_err-inner.result c.in_err-inner.field-0.0 c.from_residual-in_err-inner.ensures.1 (c.in_err-inner.ensures.settles)
    (λ h es b. fails-existential c.args.modal c.args.depth c.in_ok-below.below es c.requires.prefix c.in_ok-below.ensures.inner (c.in_ok-names.ensures.settles c.args.modal c.args.depth) (h es b))

pub read_existential-returns-clause-settles : goal.read_existential-returns-clause-settles
read_existential-returns-clause-settles m c = λ es b h. fails-existential c.args.modal c.args.depth c.in_ok-below.below es c.requires.prefix c.in_ok-below.ensures.inner (c.in_ok-names.ensures.settles c.args.modal c.args.depth) (c.in_ok-inner.ensures.settles es b h)

pub read_necessity-returns-in_err-below-clause-settles : goal.read_necessity-returns-in_err-below-clause-settles
read_necessity-returns-in_err-below-clause-settles m c =
    stops-at c.args.modal c.args.text.now (unit c.args.depth ∷ []) c.args.p (is_shallow c.args.depth ≡ false) c.from_residual.result c.in_err-below.field-0.0 c.from_residual.ensures.1 (c.in_err-below.ensures.deep)
    (λ h es b. prefix-deep c.args.modal c.args.depth Necessity es c.requires.prefix h)

pub read_necessity-returns-in_err-start-clause-settles : goal.read_necessity-returns-in_err-start-clause-settles
read_necessity-returns-in_err-start-clause-settles m c =
    stops-at c.args.modal c.args.text.now (unit c.args.depth ∷ []) c.args.p (OnStacks (λ es. Fails c.args.modal c.args.text.now (this a_colon c.args.depth ∷ es) c.args.p.end)) c.from_residual-in_err-start.result c.in_err-start.field-0.0 c.from_residual-in_err-start.ensures.1 (c.in_err-start.ensures.settles c.args.modal c.args.depth)
    (λ h es b. fails-prefix c.args.modal c.args.depth Necessity es c.requires.prefix (h (unit (suc c.args.depth) ∷ es) refl))

pub read_necessity-returns-in_err-inner-clause-settles : goal.read_necessity-returns-in_err-inner-clause-settles
read_necessity-returns-in_err-inner-clause-settles m c =
    stops-at c.args.modal c.args.text.now (unit c.args.depth ∷ []) c.args.p (OnStacks (λ es. FailsAt c.args.modal c.args.text.now (unit c.in_ok-below.below ∷ es) c.in_ok-start.start)) c.from_residual-in_err-inner.result c.in_err-inner.field-0.0 c.from_residual-in_err-inner.ensures.1 (c.in_err-inner.ensures.settles)
    (λ h es b. fails-necessity c.args.modal c.args.depth c.in_ok-below.below es c.requires.prefix c.in_ok-below.ensures.inner (c.in_ok-start.ensures.settles c.args.modal c.args.depth) (h es b))

pub read_necessity-returns-clause-settles : goal.read_necessity-returns-clause-settles
read_necessity-returns-clause-settles m c = λ es b h. fails-necessity c.args.modal c.args.depth c.in_ok-below.below es c.requires.prefix c.in_ok-below.ensures.inner (c.in_ok-start.ensures.settles c.args.modal c.args.depth) (c.in_ok-inner.ensures.settles es b h)

pub read_possibility-returns-in_err-below-clause-settles : goal.read_possibility-returns-in_err-below-clause-settles
read_possibility-returns-in_err-below-clause-settles m c =
    stops-at c.args.modal c.args.text.now (unit c.args.depth ∷ []) c.args.p (is_shallow c.args.depth ≡ false) c.from_residual.result c.in_err-below.field-0.0 c.from_residual.ensures.1 (c.in_err-below.ensures.deep)
    (λ h es b. prefix-deep c.args.modal c.args.depth Possibility es c.requires.prefix h)

pub read_possibility-returns-in_err-start-clause-settles : goal.read_possibility-returns-in_err-start-clause-settles
read_possibility-returns-in_err-start-clause-settles m c =
    stops-at c.args.modal c.args.text.now (unit c.args.depth ∷ []) c.args.p (OnStacks (λ es. Fails c.args.modal c.args.text.now (this a_colon c.args.depth ∷ es) c.args.p.end)) c.from_residual-in_err-start.result c.in_err-start.field-0.0 c.from_residual-in_err-start.ensures.1 (c.in_err-start.ensures.settles c.args.modal c.args.depth)
    (λ h es b. fails-prefix c.args.modal c.args.depth Possibility es c.requires.prefix (h (unit (suc c.args.depth) ∷ es) refl))

pub read_possibility-returns-in_err-inner-clause-settles : goal.read_possibility-returns-in_err-inner-clause-settles
read_possibility-returns-in_err-inner-clause-settles m c =
    stops-at c.args.modal c.args.text.now (unit c.args.depth ∷ []) c.args.p (OnStacks (λ es. FailsAt c.args.modal c.args.text.now (unit c.in_ok-below.below ∷ es) c.in_ok-start.start)) c.from_residual-in_err-inner.result c.in_err-inner.field-0.0 c.from_residual-in_err-inner.ensures.1 (c.in_err-inner.ensures.settles)
    (λ h es b. fails-possibility c.args.modal c.args.depth c.in_ok-below.below es c.requires.prefix c.in_ok-below.ensures.inner (c.in_ok-start.ensures.settles c.args.modal c.args.depth) (h es b))

pub read_possibility-returns-clause-settles : goal.read_possibility-returns-clause-settles
read_possibility-returns-clause-settles m c = λ es b h. fails-possibility c.args.modal c.args.depth c.in_ok-below.below es c.requires.prefix c.in_ok-below.ensures.inner (c.in_ok-start.ensures.settles c.args.modal c.args.depth) (c.in_ok-inner.ensures.settles es b h)

pub read_tree-returns-in_err-first-clause-settles : goal.read_tree-returns-in_err-first-clause-settles
read_tree-returns-in_err-first-clause-settles m c =
    stops-at c.args.modal c.args.text.now (formula c.args.depth ∷ []) c.args.p (OnStacks (λ es. FailsAt c.args.modal c.args.text.now (unit c.args.depth ∷ es) c.args.p)) c.from_residual.result c.in_err-first.field-0.0 c.from_residual.ensures.1 (c.in_err-first.ensures.settles)
    (λ h es b. fails-formula c.args.modal c.args.depth es (h (formula_rest c.args.depth ∷ es) b))

pub read_tree-returns-in-Some-clause-settles : goal.read_tree-returns-in-Some-clause-settles
read_tree-returns-in-Some-clause-settles m c =
    passes-on c.args.modal c.args.text.now (unit c.args.depth ∷ chain_rest c.in-Some.kind c.args.depth ∷ []) c.in_ok-first.sign.end (formula c.args.depth ∷ []) c.args.p c.read_chain.result
    (λ es b h. fails-formula c.args.modal c.args.depth es (c.in_ok-first.ensures.settles (formula_rest c.args.depth ∷ es) b (fails-chain c.args.modal c.args.depth c.in-Some.kind es (sym c.chain_of.ensures ∙ c.in-Some.is) h))) c.read_chain.ensures.settles

pub read_tree-returns-in-Some-binary_of-clause-settles : goal.read_tree-returns-in-Some-binary_of-clause-settles
read_tree-returns-in-Some-binary_of-clause-settles m c =
    passes-on c.args.modal c.args.text.now (unit c.args.depth ∷ []) c.in_ok-first.sign.end (formula c.args.depth ∷ []) c.args.p c.read_binary.result
    (λ es b h. fails-formula c.args.modal c.args.depth es (c.in_ok-first.ensures.settles (formula_rest c.args.depth ∷ es) b (fails-binary c.args.modal c.args.depth c.in-Some-binary_of.kind es (sym c.binary_of.ensures ∙ c.in-Some-binary_of.is) h))) c.read_binary.ensures.settles

pub read_tree-returns-in-None-clause-settles : goal.read_tree-returns-in-None-clause-settles
read_tree-returns-in-None-clause-settles m c = λ es b h. fails-formula c.args.modal c.args.depth es (c.in_ok-first.ensures.settles (formula_rest c.args.depth ∷ es) b (fails-alone c.args.modal c.args.depth es (not-some (chain_in (the_terminal c.in_ok-first.sign.terminal)) (λ v e. c.in_default.not-Some v (c.chain_of.ensures ∙ e))) (sym c.binary_of.ensures ∙ c.in-None.is) h))

pub read_binary-returns-in_err-start-clause-settles : goal.read_binary-returns-in_err-start-clause-settles
read_binary-returns-in_err-start-clause-settles m c =
    stops-behind c.args.modal c.args.text.now (unit c.args.depth ∷ []) c.args.sign.end (OnStacks (Behind c.args.modal c.args.text.now c.args.sign.end)) c.from_residual-in_err-start.result c.in_err-start.field-0.0 c.from_residual-in_err-start.ensures.1 (c.in_err-start.ensures.settles c.args.modal)
    (λ h es b. h (unit c.args.depth ∷ es) refl)

pub read_binary-returns-in_err-right-clause-settles : goal.read_binary-returns-in_err-right-clause-settles
read_binary-returns-in_err-right-clause-settles m c =
    stops-behind c.args.modal c.args.text.now (unit c.args.depth ∷ []) c.args.sign.end (OnStacks (λ es. FailsAt c.args.modal c.args.text.now (unit c.args.depth ∷ es) c.in_ok-start.start)) c.from_residual-in_err-right.result c.in_err-right.field-0.0 c.from_residual-in_err-right.ensures.1 (c.in_err-right.ensures.settles)
    (λ h es b. fails-next c.args.modal (unit c.args.depth ∷ es) refl c.in_ok-start.ensures.next (h es b))

pub read_binary-returns-clause-settles : goal.read_binary-returns-clause-settles
read_binary-returns-clause-settles m c = λ es b h. fails-next c.args.modal (unit c.args.depth ∷ es) refl c.in_ok-start.ensures.next (c.in_ok-right.ensures.settles es b h)

pub read_chain-returns-in_err-start-clause-settles : goal.read_chain-returns-in_err-start-clause-settles
read_chain-returns-in_err-start-clause-settles m c =
    stops-behind c.args.modal c.args.text.now (unit c.args.depth ∷ chain_rest c.args.kind c.args.depth ∷ []) c.args.sign.end (OnStacks (Behind c.args.modal c.args.text.now c.loop-units.here.end)) c.from_residual-in_err-start.result c.in_err-start.field-0.0 c.from_residual-in_err-start.ensures.1 (c.in_err-start.ensures.settles c.args.modal)
    (λ h es b. c.loop-units.invariant.settles es b (h (unit c.args.depth ∷ chain_rest c.args.kind c.args.depth ∷ es) refl))

pub read_chain-returns-in_err-unit-clause-settles : goal.read_chain-returns-in_err-unit-clause-settles
read_chain-returns-in_err-unit-clause-settles m c =
    stops-behind c.args.modal c.args.text.now (unit c.args.depth ∷ chain_rest c.args.kind c.args.depth ∷ []) c.args.sign.end (OnStacks (λ es. FailsAt c.args.modal c.args.text.now (unit c.args.depth ∷ es) c.in_ok-start.start)) c.from_residual-in_err-unit.result c.in_err-unit.field-0.0 c.from_residual-in_err-unit.ensures.1 (c.in_err-unit.ensures.settles)
    (λ h es b. c.loop-units.invariant.settles es b (fails-next c.args.modal (unit c.args.depth ∷ chain_rest c.args.kind c.args.depth ∷ es) refl c.in_ok-start.ensures.next (h (chain_rest c.args.kind c.args.depth ∷ es) b)))

pub read_chain-returns-then-not-is_chain-clause-settles : goal.read_chain-returns-then-not-is_chain-clause-settles
read_chain-returns-then-not-is_chain-clause-settles m c = λ es b h. c.loop-units.invariant.settles es b (fails-next c.args.modal (unit c.args.depth ∷ chain_rest c.args.kind c.args.depth ∷ es) refl c.in_ok-start.ensures.next (c.in_ok-unit.ensures.settles (chain_rest c.args.kind c.args.depth ∷ es) b (fails-last c.args.modal c.args.depth c.args.kind es (sym c.is_chain.ensures ∙ c.if-not-is_chain.true) h)))
