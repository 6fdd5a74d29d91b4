use Rattle.std.proofs.Common.{◌≡◌, ◌∙◌, ◌++◌, IsTrue, ap, map, subst, sym}
use Rattle.std.specs.List.{list_all}
use Rattle.store_theory.specs.Bindings.{nothing_more}
use Rattle.store_theory.specs.Stores.{eigen_cell, has_value_sort_at}
use Rattle.term_store.specs.RefView.{the_place}
use Rattle.domain_cond.proofs.AskingLaws.{right-eigen}
use Rattle.domain_cond.proofs.ConditionLaws.{eigen-end, eigen-values, eigen-within, found-eigen}
use Rattle.domain_cond.proofs.LeafLaws.{eigen-head}
use Rattle.domain_cond.proofs.unmet.eigen_home.Goals as goal

pub push_parts-requires : goal.push_parts-requires
push_parts-requires c = eigen-end c.args.store.now.store c.args.eigen.0 c.requires

pub head-requires : goal.head-requires
head-requires c = eigen-within c.args.store.now.store c.args.eigen.0 c.requires

pub home-requires : goal.home-requires
home-requires c =
    let (p, rs, at) = c.requires in
    let values : map the_place c.push_parts.new.items.items ≡ rs = c.in_ok-push_parts.ensures (eigen_cell p rs) at ∙ ap (λ xs. map the_place xs ++ rs) c.new-values.ensures.items in
    subst (λ xs. IsTrue (list_all (has_value_sort_at c.args.store.now.store) (map the_place xs))) (sym c.deref.ensures.value) (subst (λ xs. IsTrue (list_all (has_value_sort_at c.args.store.now.store) xs)) (sym values) (eigen-values c.args.store.now.store c.args.eigen.0 p rs c.mark-now.ensures.well.fits at))

pub returns-clause-found : goal.returns-clause-found
returns-clause-found c = λ p rs at.
    let values : map the_place c.deref.result.now ≡ rs = ap (map the_place) c.deref.ensures.value ∙ c.in_ok-push_parts.ensures (eigen_cell p rs) at ∙ ap (λ xs. map the_place xs ++ rs) c.new-values.ensures.items in
    found-eigen c.args.problem.now c.args.store.now.store c.home.new.store.store c.args.eigen.0 c.head.result c.in-Eigen.p p rs (map the_place c.deref.result.now) (map the_place c.in_ok-label.label.items) at c.head.ensures c.in-Eigen.is values c.in_ok-label.ensures.found

pub returns-in_err-push_parts-clause-adds : goal.returns-in_err-push_parts-clause-adds
returns-in_err-push_parts-clause-adds c = nothing_more

pub unreachable-requires : goal.unreachable-requires
unreachable-requires c =
    let (p, rs, at) = c.requires in
    c.in_default.not-Eigen (record { 0 = p }) (sym (eigen-head c.args.store.now.store c.args.eigen.0 c.head.result p rs at c.head.ensures))

pub returns-clause-right : goal.returns-clause-right
returns-clause-right c =
    let (p, rs, at) = c.requires in
    let values : map the_place c.deref.result.now ≡ rs = ap (map the_place) c.deref.ensures.value ∙ c.in_ok-push_parts.ensures (eigen_cell p rs) at ∙ ap (λ xs. map the_place xs ++ rs) c.new-values.ensures.items in
    right-eigen c.args.problem.now c.args.store.now.store c.home.new.store.store c.args.eigen.0 c.head.result c.in-Eigen.p p rs (map the_place c.deref.result.now) (map the_place c.in_ok-label.label.items) at c.head.ensures c.in-Eigen.is values c.in_ok-label.ensures.right
