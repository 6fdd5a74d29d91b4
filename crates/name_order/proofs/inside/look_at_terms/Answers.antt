use Rattle.std.proofs.Common.{ap, arith, map, refl, ◌||◌}
use Rattle.calculus.specs.Lists.{g_terms_tree}
use Rattle.conversion_theory.specs.Turns.{names_of_terms, names_of_term}
use Rattle.formula_core.specs.GroundLists.{the_g_term, IsLowerTerm}
use Rattle.name_order.specs.ByNumber.Inside.{has}
use Rattle.name_order.specs.ByNumber.Seeing.{sees}
use Rattle.name_order.proofs.ByNumber.DepthLaws.{all-item}
use Rattle.name_order.proofs.ByNumber.InsideLaws.{see-end, see-step}
use Rattle.name_order.proofs.inside.look_at_terms.Goals as goal

pub loop-term-init : goal.loop-term-init
loop-term-init c =
    let ls = c.args.table.now in
    record {
      normal = c.requires.normal;
      bound = c.requires.bound;
      seen = λ n. ap (λ xs. sees ls c.args.search.now n || has n (names_of_terms (g_terms_tree xs))) c.terms-terms.ensures.list;
    }

pub loop-term-preserved : goal.loop-term-preserved
loop-term-preserved c =
    let ls = c.args.table.now in
    let xs = c.terms-terms.result.now in
    record {
      normal = c.in_ok-see_term.ensures.sees.normal;
      bound = c.in_ok-see_term.ensures.bound c.args.list.0 (all-item (IsLowerTerm ls c.args.list.0) xs c.loop-term.term-index _ _ c.terms-terms.ensures.lower (omega arith) refl) c.loop-term.invariant.bound;
      seen = see-step ls (λ ys. names_of_terms (g_terms_tree (map (the_g_term ls) ys))) (λ y. names_of_term (the_g_term ls y)) (λ y ys. refl) c.loop-term.search c.see_term.new.search xs c.loop-term.term-index _ _ _ (omega arith) refl c.in_ok-see_term.ensures.sees c.loop-term.invariant.seen;
    }

pub returns-clause-sees : goal.returns-clause-sees
returns-clause-sees c =
    let ls = c.args.table.now in
    see-end ls (λ ys. names_of_terms (g_terms_tree (map (the_g_term ls) ys))) refl c.args.search.now c.loop-term.search c.terms-terms.result.now c.loop-term.term-index _ (omega arith) c.loop-term.invariant.normal c.loop-term.invariant.seen
