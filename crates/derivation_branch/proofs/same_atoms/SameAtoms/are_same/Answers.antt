use Rattle.std.proofs.Common.{◌∙◌, sym}
use Rattle.formula_core.specs.FormulaView.{the_formula}
use Rattle.derivation_branch.proofs.SameLaws.{same-pair, same-told}
use Rattle.derivation_branch.proofs.same_atoms.SameAtoms.are_same.Goals as goal

pub returns-then-has-clause-told : goal.returns-then-has-clause-told
returns-then-has-clause-told c =
    let table = c.args.substitutions.now in
    let same = c.requires.same in
    let pair = c.pair_of-pair in
    sym (same-told table same.0 pair.result _ _ _ _ (the_formula c.args.given.formula.now) (the_formula c.args.shown.formula.now) pair.ensures.given pair.ensures.shown same.2 same.3 (c.has.ensures c.if-has.true table same.0 same.1))

pub returns-clause-same : goal.returns-clause-same
returns-clause-same c = λ parts h at there.
    let table = c.args.substitutions.now in
    let pair = c.pair_of-pair in
    c.in_ok-add.ensures table parts h
    (same-pair table parts pair.result _ _ _ _ (the_formula c.args.given.formula.now) (the_formula c.args.shown.formula.now) pair.ensures.given pair.ensures.shown c.requires.given c.requires.shown at there (sym c.are_same_atom-told.ensures ∙ c.if-not-told.false))
