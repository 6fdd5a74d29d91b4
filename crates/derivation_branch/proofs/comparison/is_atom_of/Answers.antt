use Rattle.std.proofs.Common.{◌≡◌, ◌∙◌, map, ap, refl, rules}
use Rattle.calculus.specs.Lists.{terms_tree}
use Rattle.calculus.specs.Syntax as tree
use Rattle.formula_core.specs.FormulaView.{the_formula}
use Rattle.derivation_branch.specs.EntryView.{formula_under, term_under}
use Rattle.derivation_branch.proofs.UnderLaws.{no_atom-equal, under-atom}
use Rattle.derivation_branch.proofs.comparison.is_atom_of.Goals as goal

pub returns-then-eq : goal.returns-then-eq
returns-then-eq c =
    let table = c.args.substitutions.now in
    let e : formula_under table c.args.j (the_formula c.args.g.now) ≡ tree.atom c.in-Some.q.0 (terms_tree (map (term_under table c.args.j) c.in-Some.us.now)) = ap (formula_under table c.args.j) c.in-Some.ensures.some ∙ under-atom table c.args.j c.in-Some.q.0 c.in-Some.us.now in
    rw e (search rules)

pub returns-else-eq : goal.returns-else-eq
returns-else-eq c =
    let table = c.args.substitutions.now in
    let e : formula_under table c.args.j (the_formula c.args.g.now) ≡ tree.atom c.in-Some.q.0 (terms_tree (map (term_under table c.args.j) c.in-Some.us.now)) = ap (formula_under table c.args.j) c.in-Some.ensures.some ∙ under-atom table c.args.j c.in-Some.q.0 c.in-Some.us.now in
    rw e (search rules)

pub returns-in-None : goal.returns-in-None
returns-in-None c = no_atom-equal c.args.substitutions.now c.args.j c.args.p.0 (terms_tree (map (term_under c.args.substitutions.now c.args.i) c.args.ts.now)) (the_formula c.args.g.now) (c.in-None.ensures.none refl)
