use Rattle.std.proofs.Common.{◌∙◌, ap, arith, length, refl, subst, sym}
use Rattle.calculus.specs.Versions.{stated}
use Rattle.formula_core.specs.FormulaView.{the_formula}
use Rattle.derivation_branch.specs.OutlineView.{parts_of}
use Rattle.derivation_branch.proofs.OutlineLaws.{outline-parts}
use Rattle.derivation_check.specs.ArgumentView.{ArePlaces}
use Rattle.derivation_check.specs.NamesTold.{AreNamed}
use Rattle.derivation_check.proofs.NodeLaws.{nodes-first}
use Rattle.derivation_check.proofs.StateLaws.{first-shown, first-state}
use Rattle.derivation_check.proofs.state.State.new.Goals as goal

pub returns-clause-kept : goal.returns-clause-kept
returns-clause-kept c =
    let x = c.args.d.now in
    let f = the_formula c.formula-formula.result.now in
    let labels = c.add_labels.new.table in
    let places = subst (λ ps. ArePlaces x.labels labels ps) (sym c.as_slice.ensures.value) (subst (λ ls. ArePlaces ls labels c.in_ok-places.places.items) c.labels.ensures.list c.in_ok-places.ensures.places) in
    record {
      nested = c.in_ok-sequents.ensures.nested;
      sequents = first-state (stated x).names c.args.problem.now _ _ _ _ _ _ _ c.new-substitutions.ensures c.new-labels.ensures c.in_ok-places.ensures.grown c.new-eigens.ensures c.new-marks.ensures c.in_ok-sequents.ensures.sequents refl refl c.formula-formula.ensures.formula c.formula-formula.ensures.well;
      homes = c.in_ok-homes.ensures labels places;
      told = rw c.new-told.ensures tt;
      parts = parts_of f;
      outline = c.in_ok-outline.ensures ∙ outline-parts f;
      nodes = nodes-first (parts_of f) _ _ c.in_ok-sequents.ensures.sequents (c.in_ok-node.ensures f c.in_ok-outline.ensures);
      same = rw c.new-same.ensures tt;
    }

pub returns-clause-first : goal.returns-clause-first
returns-clause-first c = first-shown c.args.problem.now _ _ _ _ _ c.new-substitutions.ensures c.new-labels.ensures c.in_ok-places.ensures.grown c.in_ok-sequents.ensures.sequents refl refl refl c.formula-formula.ensures.formula

pub returns-clause-named : goal.returns-clause-named
returns-clause-named c = subst (λ ts. AreNamed c.in_ok-homes.homes ts c.in_ok-named.named.items) c.terms.ensures c.in_ok-named.ensures

pub returns-clause-some : goal.returns-clause-some
returns-clause-some c = let size = ap length c.new-substitutions.ensures in omega (arith, size)
