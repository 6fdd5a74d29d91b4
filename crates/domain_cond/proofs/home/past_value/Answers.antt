use Rattle.std.proofs.Common.{◌∙◌, IsTrue, arith, inl, inr, map, subst, sym}
use Rattle.std.proofs.lemmas.List.{length-map}
use Rattle.store_theory.specs.Stores.{has_sort_at}
use Rattle.store_theory.proofs.BindingLaws.{sort_eq-true}
use Rattle.term_store.specs.RefView.{the_place}
use Rattle.domain_cond.proofs.WayLaws.{get-none, sort-other, value-below}
use Rattle.domain_cond.proofs.home.past_value.Goals as goal

pub returns-then-taken-values-clause-none : goal.returns-then-taken-values-clause-none
returns-then-taken-values-clause-none c = λ e. inl (get-none (map the_place c.args.values.now) c.args.taken (let n = length-map c.args.values.now the_place in omega (arith, n)))

pub sort_at-requires : goal.sort_at-requires
sort_at-requires c = value-below c.args.store.now.store (map the_place c.args.values.now) c.args.taken c.value_at.result.0 c.requires c.value_at.ensures

pub returns-then-not-is_same_sort-clause-none : goal.returns-then-not-is_same_sort-clause-none
returns-then-not-is_same_sort-clause-none c = λ e. inr (c.value_at.result.0, c.value_at.ensures, sort-other c.args.store.now.store c.args.sort c.sort_at.result c.value_at.result.0 c.sort_at.ensures (sym c.is_same_sort.ensures ∙ c.if-not-is_same_sort.true))

pub returns-clause-some : goal.returns-clause-some
returns-clause-some c =
    let same = sort_eq-true c.args.sort c.sort_at.result (sym c.is_same_sort.ensures ∙ c.if-not-is_same_sort.false) in
    (c.value_at.result.0, c.value_at.ensures, subst (λ x. IsTrue (has_sort_at c.args.store.now.store x c.value_at.result.0)) (sym same) c.sort_at.ensures, omega arith)
