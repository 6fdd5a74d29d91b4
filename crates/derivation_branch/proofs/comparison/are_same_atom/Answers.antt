use Rattle.std.proofs.Common.{◌≡◌, ◌∙◌, map, ap, refl}
use Rattle.calculus.specs.Lists.{terms_tree}
use Rattle.calculus.specs.Syntax as tree
use Rattle.formula_core.specs.FormulaView.{the_formula}
use Rattle.derivation_branch.specs.EntryView.{formula_under, term_under}
use Rattle.derivation_branch.proofs.UnderLaws.{no_atom, under-atom}
use Rattle.derivation_branch.proofs.comparison.are_same_atom.Goals as goal

pub returns-in-Some : goal.returns-in-Some
returns-in-Some c =
    let table = c.args.substitutions.now in
    let e : formula_under table c.args.i (the_formula c.args.f.now) ≡ tree.atom c.in-Some.p.0 (terms_tree (map (term_under table c.args.i) c.in-Some.ts.now)) = ap (formula_under table c.args.i) c.in-Some.ensures.some ∙ under-atom table c.args.i c.in-Some.p.0 c.in-Some.ts.now in
    rw e c.is_atom_of.ensures

pub returns-in-None : goal.returns-in-None
returns-in-None c = rw (no_atom c.args.substitutions.now c.args.i (the_formula c.args.f.now) (c.in-None.ensures.none refl)) refl
