use Rattle.std.proofs.Common.{IsTrue, map, nat_le, subst, sym}
use Rattle.std.specs.List.{list_all}
use Rattle.calculus.specs.declared.sort.Sort.TheVariants.{MarkSort}
use Rattle.store_theory.specs.Stores.{has_sort_at}
use Rattle.search_theory.specs.Solving.{IsNarrowed}
use Rattle.term_store.specs.RefView.{the_place}
use Rattle.term_unify.proofs.PairLaws.{BindsOnly-same}
use Rattle.search_theory.proofs.GivingLaws.{equation-made, equation-never}
use Rattle.search_theory.specs.MarkLists.{NeverSame, SameMarks}
use Rattle.prefix_split.specs.Equated.{equated}
use Rattle.prefix_split.proofs.EqualLaws.{right-flat}
use Rattle.prefix_split.proofs.LaterLaws.{later-same}
use Rattle.prefix_split.proofs.equal.make_equal.Goals as goal

pub unify_marks-requires-clause-left : goal.unify_marks-requires-clause-left
unify_marks-requires-clause-left c = subst (λ xs. IsTrue (list_all (has_sort_at c.args.store.now.store MarkSort) (map the_place xs))) (sym c.deref.ensures.value) c.in_ok-xs.ensures.flat.sorted

pub unify_marks-requires-clause-right : goal.unify_marks-requires-clause-right
unify_marks-requires-clause-right c = subst (λ xs. IsTrue (list_all (has_sort_at c.args.store.now.store MarkSort) (map the_place xs))) (sym c.deref-2.ensures.value) c.in_ok-ys.ensures.flat.sorted

pub returns-clause-made : goal.returns-clause-made
returns-clause-made c = λ e.
    let s = c.args.store.now.store in
    let t = c.unify_marks.new.store.store in
    let n = subst (λ ys. IsNarrowed s t (SameMarks (map the_place c.in_ok-xs.xs.items) (map the_place ys))) c.deref-2.ensures.value (subst (λ xs. IsNarrowed s t (SameMarks (map the_place xs) (map the_place c.deref-2.result.now))) c.deref.ensures.value (c.in_ok-made.ensures.same e)) in
    equation-made s t (equated (map the_place c.args.left.now) (map the_place c.args.right.now)) (map the_place c.in_ok-xs.xs.items) (map the_place c.in_ok-ys.ys.items) c.in_ok-xs.ensures.flat c.in_ok-ys.ensures.flat n

pub returns-clause-never : goal.returns-clause-never
returns-clause-never c = λ e.
    let s = c.args.store.now.store in
    let n = subst (λ ys. NeverSame s (map the_place c.in_ok-xs.xs.items) (map the_place ys)) c.deref-2.ensures.value (subst (λ xs. NeverSame s (map the_place xs) (map the_place c.deref-2.result.now)) c.deref.ensures.value (c.in_ok-made.ensures.never e)) in
    equation-never s (equated (map the_place c.args.left.now) (map the_place c.args.right.now)) (map the_place c.in_ok-xs.xs.items) (map the_place c.in_ok-ys.ys.items) c.in_ok-xs.ensures.flat c.in_ok-ys.ensures.flat n

pub returns-in_err-xs-clause-binds : goal.returns-in_err-xs-clause-binds
returns-in_err-xs-clause-binds c = BindsOnly-same c.args.store.now.store

pub returns-in_err-xs-clause-later : goal.returns-in_err-xs-clause-later
returns-in_err-xs-clause-later c = later-same c.args.store.now.store

pub returns-in_err-ys-clause-binds : goal.returns-in_err-ys-clause-binds
returns-in_err-ys-clause-binds c = BindsOnly-same c.args.store.now.store

pub returns-in_err-ys-clause-later : goal.returns-in_err-ys-clause-later
returns-in_err-ys-clause-later c = later-same c.args.store.now.store

pub returns-clause-right : goal.returns-clause-right
returns-clause-right c = λ e P. right-flat P c.args.store.now.store c.unify_marks.new.store.store (map the_place c.args.left.now) (map the_place c.args.right.now) (map the_place c.deref.result.now) (map the_place c.deref-2.result.now)
    (λ base names k. subst (λ xs. IsTrue (list_all (nat_le base) (map the_place xs))) (sym c.deref.ensures.value) (c.in_ok-xs.ensures.from base names k))
    (λ base names k. subst (λ xs. IsTrue (list_all (nat_le base) (map the_place xs))) (sym c.deref-2.ensures.value) (c.in_ok-ys.ensures.from base names k))
    (c.in_ok-made.ensures.right e P)
