use Rattle.std.proofs.Common.{◌∙◌, subst, sym}
use Rattle.term_store.specs.PatternView.{the_pattern}
use Rattle.term_store.specs.RefView.{the_places}
use Rattle.term_store.specs.Shown.{the_head}
use Rattle.term_store.proofs.StoreFacts.{shown-end}
use Rattle.search_tree.specs.Heads.{IsApartAt}
use Rattle.search_tree.proofs.HeadLaws.{apart-by_names, apart-over, variable-apart}
use Rattle.search_tree.proofs.heads.is_apart_over.Goals as goal

pub returns-in-Var : goal.returns-in-Var
returns-in-Var c = λ t.
    subst (λ p. IsApartAt c.args.store.now.store (the_places c.args.variables) c.args.r.0 (the_pattern p)) (sym c.in-Var.is)
    (variable-apart c.args.store.now.store (the_places c.args.variables) c.args.r.0 c.in-Var.k c.variable-variable.result.0 c.head-left.result c.head-right.result c.variable-variable.ensures c.head-left.ensures c.head-right.ensures (sym c.ends_differ.ensures ∙ t))

pub returns-in-Fun : goal.returns-in-Fun
returns-in-Fun c = λ t.
    apart-over c.args.store.now.store (the_places c.args.variables) c.args.r.0 (the_pattern c.args.pattern.now)
    (apart-by_names c.args.store.now.store c.args.r.0 c.end.result.place.0 (the_head c.end.result.content) (the_pattern c.args.pattern.now) c.end.ensures.ends (shown-end c.args.store.now.store c.args.r.0 c.end.result.place.0 c.end.result.content c.end.ensures.ends c.end.ensures.shows).0 (sym c.names_differ.ensures ∙ t))

pub returns-in-Eigen : goal.returns-in-Eigen
returns-in-Eigen c = λ t.
    apart-over c.args.store.now.store (the_places c.args.variables) c.args.r.0 (the_pattern c.args.pattern.now)
    (apart-by_names c.args.store.now.store c.args.r.0 c.end-in-Eigen.result.place.0 (the_head c.end-in-Eigen.result.content) (the_pattern c.args.pattern.now) c.end-in-Eigen.ensures.ends (shown-end c.args.store.now.store c.args.r.0 c.end-in-Eigen.result.place.0 c.end-in-Eigen.result.content c.end-in-Eigen.ensures.ends c.end-in-Eigen.ensures.shows).0 (sym c.names_differ-in-Eigen.ensures ∙ t))
