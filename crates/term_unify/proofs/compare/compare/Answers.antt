use Rattle.std.proofs.Common.{ap₂, sym, ◌∙◌}
use Rattle.calculus.specs.Equality.{sort_eq}
use Rattle.term_store.specs.Shown.{the_head}
use Rattle.term_store.proofs.StoreFacts.{shown-end}
use Rattle.term_unify.proofs.StepLaws.{ended, parts-counted, step-counts, step-left, step-names, step-parts, step-right, step-same, step-sorts, step-sorts_right}
use Rattle.term_unify.proofs.compare.compare.Goals as goal

pub returns-then-left-right-clause-step : goal.returns-then-left-right-clause-step
returns-then-left-right-clause-step c = step-same c.args.store.now.store c.args.a.0 c.args.b.0 c.end-left.result.place.0 c.end-right.result.place.0 c.end-left.ensures.ends c.end-right.ensures.ends c.if-left-right.true

pub returns-then-not-are_same_sort-clause-step : goal.returns-then-not-are_same_sort-clause-step
returns-then-not-are_same_sort-clause-step c = step-sorts_right c.args.store.now.store c.args.a.0 c.args.b.0 c.end-left.result.place.0 c.end-right.result.place.0 (the_head c.end-left.result.content) (the_head c.end-right.result.content) (ended _ _ _ _ c.end-left.ensures.ends (shown-end c.args.store.now.store c.args.a.0 c.end-left.result.place.0 c.end-left.result.content c.end-left.ensures.ends c.end-left.ensures.shows).0) (ended _ _ _ _ c.end-right.ensures.ends (shown-end c.args.store.now.store c.args.b.0 c.end-right.result.place.0 c.end-right.result.content c.end-right.ensures.ends c.end-right.ensures.shows).0) (ap₂ sort_eq (sym c.sort_of.ensures) (sym c.sort_of-then-is_right_bound.ensures) ∙ sym c.are_same_sort.ensures ∙ c.if-not-are_same_sort.true)

pub returns-then-is_right_bound-clause-step : goal.returns-then-is_right_bound-clause-step
returns-then-is_right_bound-clause-step c = step-right c.args.store.now.store c.args.a.0 c.args.b.0 c.end-left.result.place.0 c.end-right.result.place.0 (the_head c.end-left.result.content) (the_head c.end-right.result.content) (ended _ _ _ _ c.end-left.ensures.ends (shown-end c.args.store.now.store c.args.a.0 c.end-left.result.place.0 c.end-left.result.content c.end-left.ensures.ends c.end-left.ensures.shows).0) (ended _ _ _ _ c.end-right.ensures.ends (shown-end c.args.store.now.store c.args.b.0 c.end-right.result.place.0 c.end-right.result.content c.end-right.ensures.ends c.end-right.ensures.shows).0) c.if-left-right.false (ap₂ sort_eq (sym c.sort_of.ensures) (sym c.sort_of-then-is_right_bound.ensures) ∙ sym c.are_same_sort.ensures ∙ c.if-not-are_same_sort.false) (c.is_right_bound.ensures.open c.if-is_right_bound.true)

pub returns-then-not-are_same_sort-2-clause-step : goal.returns-then-not-are_same_sort-2-clause-step
returns-then-not-are_same_sort-2-clause-step c = step-sorts c.args.store.now.store c.args.a.0 c.args.b.0 c.end-left.result.place.0 c.end-right.result.place.0 (the_head c.end-left.result.content) (the_head c.end-right.result.content) (ended _ _ _ _ c.end-left.ensures.ends (shown-end c.args.store.now.store c.args.a.0 c.end-left.result.place.0 c.end-left.result.content c.end-left.ensures.ends c.end-left.ensures.shows).0) (ended _ _ _ _ c.end-right.ensures.ends (shown-end c.args.store.now.store c.args.b.0 c.end-right.result.place.0 c.end-right.result.content c.end-right.ensures.ends c.end-right.ensures.shows).0) (ap₂ sort_eq (sym c.sort_of-then-is_open.ensures) (sym c.sort_of-then-is_open-2.ensures) ∙ sym c.are_same_sort-then-is_open.ensures ∙ c.if-not-are_same_sort-2.true)

pub returns-then-is_open-clause-step : goal.returns-then-is_open-clause-step
returns-then-is_open-clause-step c = step-left c.args.store.now.store c.args.a.0 c.args.b.0 c.end-left.result.place.0 c.end-right.result.place.0 (the_head c.end-left.result.content) (the_head c.end-right.result.content) (ended _ _ _ _ c.end-left.ensures.ends (shown-end c.args.store.now.store c.args.a.0 c.end-left.result.place.0 c.end-left.result.content c.end-left.ensures.ends c.end-left.ensures.shows).0) (ended _ _ _ _ c.end-right.ensures.ends (shown-end c.args.store.now.store c.args.b.0 c.end-right.result.place.0 c.end-right.result.content c.end-right.ensures.ends c.end-right.ensures.shows).0) c.if-left-right.false (ap₂ sort_eq (sym c.sort_of-then-is_open.ensures) (sym c.sort_of-then-is_open-2.ensures) ∙ sym c.are_same_sort-then-is_open.ensures ∙ c.if-not-are_same_sort-2.false) (sym c.is_open.ensures ∙ c.if-is_open.true)

pub returns-then-not-have_same_name-clause-step : goal.returns-then-not-have_same_name-clause-step
returns-then-not-have_same_name-clause-step c = step-names c.args.store.now.store c.args.a.0 c.args.b.0 c.end-left.result.place.0 c.end-right.result.place.0 (the_head c.end-left.result.content) (the_head c.end-right.result.content) (ended _ _ _ _ c.end-left.ensures.ends (shown-end c.args.store.now.store c.args.a.0 c.end-left.result.place.0 c.end-left.result.content c.end-left.ensures.ends c.end-left.ensures.shows).0) (ended _ _ _ _ c.end-right.ensures.ends (shown-end c.args.store.now.store c.args.b.0 c.end-right.result.place.0 c.end-right.result.content c.end-right.ensures.ends c.end-right.ensures.shows).0) (sym c.is_open.ensures ∙ c.if-is_open.false) (c.is_right_bound.ensures.built c.if-is_right_bound.false (sym c.is_open.ensures ∙ c.if-is_open.false)) (sym c.have_same_name.ensures ∙ c.if-not-have_same_name.true)

pub returns-then-count_in-clause-step : goal.returns-then-count_in-clause-step
returns-then-count_in-clause-step c = step-counts c.args.store.now.store c.args.a.0 c.args.b.0 c.end-left.result.place.0 c.end-right.result.place.0 c.count_in.result c.count_in-2.result (the_head c.end-left.result.content) (the_head c.end-right.result.content) (ended _ _ _ _ c.end-left.ensures.ends (shown-end c.args.store.now.store c.args.a.0 c.end-left.result.place.0 c.end-left.result.content c.end-left.ensures.ends c.end-left.ensures.shows).0) (ended _ _ _ _ c.end-right.ensures.ends (shown-end c.args.store.now.store c.args.b.0 c.end-right.result.place.0 c.end-right.result.content c.end-right.ensures.ends c.end-right.ensures.shows).0) (sym c.is_open.ensures ∙ c.if-is_open.false) (c.is_right_bound.ensures.built c.if-is_right_bound.false (sym c.is_open.ensures ∙ c.if-is_open.false)) (parts-counted c.args.store.now.store c.args.a.0 c.end-left.result.place.0 c.end-left.result.content c.count_in.result c.end-left.ensures.ends c.end-left.ensures.shows c.count_in.ensures) (parts-counted c.args.store.now.store c.args.b.0 c.end-right.result.place.0 c.end-right.result.content c.count_in-2.result c.end-right.ensures.ends c.end-right.ensures.shows c.count_in-2.ensures) c.if-count_in.true

pub returns-clause-step : goal.returns-clause-step
returns-clause-step c = step-parts c.args.store.now.store c.args.a.0 c.args.b.0 c.end-left.result.place.0 c.end-right.result.place.0 c.count_in.result c.count_in-2.result (the_head c.end-left.result.content) (the_head c.end-right.result.content) (ended _ _ _ _ c.end-left.ensures.ends (shown-end c.args.store.now.store c.args.a.0 c.end-left.result.place.0 c.end-left.result.content c.end-left.ensures.ends c.end-left.ensures.shows).0) (ended _ _ _ _ c.end-right.ensures.ends (shown-end c.args.store.now.store c.args.b.0 c.end-right.result.place.0 c.end-right.result.content c.end-right.ensures.ends c.end-right.ensures.shows).0) (sym c.is_open.ensures ∙ c.if-is_open.false) (sym c.have_same_name.ensures ∙ c.if-not-have_same_name.false) (parts-counted c.args.store.now.store c.args.a.0 c.end-left.result.place.0 c.end-left.result.content c.count_in.result c.end-left.ensures.ends c.end-left.ensures.shows c.count_in.ensures) (parts-counted c.args.store.now.store c.args.b.0 c.end-right.result.place.0 c.end-right.result.content c.count_in-2.result c.end-right.ensures.ends c.end-right.ensures.shows c.count_in-2.ensures) c.if-count_in.false
