use Rattle.std.proofs.Common.{◌+◌, ◌++◌, ◌∷◌, ◌≡◌, ◌∙◌, [], IsTrue, None, ap, ap₂, arith, length, refl, replicate, subst, sym}
use Rattle.std.specs.List.{list_all}
use Rattle.calculus.specs.declared.sort.Sort.TheVariants.{MarkSort}
use Rattle.store_theory.specs.Stores.{has_sort_at, variable}
use Rattle.store_theory.specs.Bindings.{KeepsMarks, places_from, with_cell, with_variables_of}
use Rattle.store_theory.proofs.BindingLaws.{KeepsMarks-both}
use Rattle.store_theory.proofs.PatternLaws.{KeepsMarks-built}
use Rattle.term_store.proofs.MarkLaws.{length-marks, more-places, more-variables, variables-fit}
use Rattle.term_store.proofs.store.Store.add_marks.Goals as goal

pub loop-i-preserved : goal.loop-i-preserved
loop-i-preserved c =
    let s = c.args.self.now.store in
    let reserved : c.reserve.new.self.store ≡ with_variables_of (replicate c.loop-i._i MarkSort) s = c.in_ok-reserve.ensures.store ∙ c.loop-i.invariant.store in
    let n : length c.reserve.new.self.store.cells ≡ length s.cells + c.loop-i._i = ap (λ x. length x.cells) reserved ∙ length-marks c.loop-i._i s in
    let a = c.loop-i.invariant.room in
    let b = c.in_ok-reserve.ensures.room in
    let d = c.fresh.ensures.room in
    record {
      store = c.fresh.ensures.store ∙ ap (with_cell (variable MarkSort None)) reserved ∙ more-variables c.loop-i._i MarkSort s;
      places = c.in_ok-push.ensures.items ∙ ap₂ (λ xs x. xs ++ x ∷ []) c.loop-i.invariant.places (c.fresh.ensures.place ∙ n) ∙ more-places (length s.cells) c.loop-i._i;
      marks = KeepsMarks-both s c.loop-i.self.store c.fresh.new.self.store c.loop-i.invariant.marks (subst (λ x. KeepsMarks x c.fresh.new.self.store) c.in_ok-reserve.ensures.store c.fresh.ensures.marks);
      room = (omega arith, omega arith);
    }

pub build-requires : goal.build-requires
build-requires c =
    let e = c.deref.ensures.value ∙ c.loop-i.invariant.places in
    let s = c.args.self.now.store in
    subst (λ xs. IsTrue (list_all (has_sort_at c.loop-i.self.store MarkSort) xs)) (sym e)
    (subst (λ x. IsTrue (list_all (has_sort_at x MarkSort) (places_from (length s.cells) c.loop-i._i))) (sym c.loop-i.invariant.store) (variables-fit c.loop-i._i MarkSort s (length s.cells) refl))

pub returns-clause-place : goal.returns-clause-place
returns-clause-place c =
    let e = c.in_ok-string.ensures.place in
    let n = ap (λ x. length x.cells) c.loop-i.invariant.store ∙ length-marks c.loop-i._i c.args.self.now.store in
    omega arith

pub returns-clause-marks : goal.returns-clause-marks
returns-clause-marks c = KeepsMarks-both c.args.self.now.store c.loop-i.self.store c.build.new.self.store c.loop-i.invariant.marks (KeepsMarks-built c.loop-i.self.store c.build.new.self.store c.in_ok-string.ensures.adds.built)
