use Rattle.std.proofs.Common.{◌≡◌, ◌+◌, ◌-◌, ◌∙◌, ◌∷◌, [], None, ap, ap₂, arith, get_or, length, length-append, refl, take}
use Rattle.store_theory.specs.Bindings.{places_from, with_cell, with_variables_of}
use Rattle.calculus.specs.declared.sort.Sort.TheVariants.{TermSort}
use Rattle.store_theory.specs.Stores.{variable}
use Rattle.store_theory.proofs.BindingLaws.{KeepsMarks-both}
use Rattle.term_store.proofs.MarkLaws.{take-more, variables-last}
use Rattle.term_store.proofs.store.Store.new_variables.Goals as goal

pub fresh-variable-requires : goal.fresh-variable-requires
fresh-variable-requires c =
    let n = c.loop-sort.invariant.spare in
    omega arith

pub loop-sort-preserved : goal.loop-sort-preserved
loop-sort-preserved c =
    let s = c.reserve_variables.new.self.store in
    let items = c.items-sort-items.result.now in
    let i = c.loop-sort.sort-index in
    let sort = get_or items i TermSort in
    let at = c.loop-sort.invariant in
    let a = at.room in
    let d = c.fresh-variable.ensures.room in
    let n = at.spare in
    let cells = ap (λ x. length x.cells) c.fresh-variable.ensures.store ∙ length-append c.loop-sort.self.store.cells (variable sort None ∷ []) in
    let trail = ap (λ x. length x.trail) c.fresh-variable.ensures.store in
    record {
      store = c.fresh-variable.ensures.store ∙ ap (with_cell (variable sort None)) at.store ∙ variables-last (take i items) sort s ∙ ap (λ xs. with_variables_of xs s) (take-more items i sort TermSort (omega arith) refl);
      marks = KeepsMarks-both s c.loop-sort.self.store c.fresh-variable.new.self.store at.marks c.fresh-variable.ensures.marks;
      room = (omega arith, omega arith);
      spare = omega arith;
    }

pub returns-clause-places : goal.returns-clause-places
returns-clause-places c = ap₂ places_from c.in_ok-first.ensures.place (let n : (c.in_ok-first.first + length c.items-count.result.now) - c.in_ok-first.first ≡ length c.items-count.result.now = omega arith in n ∙ ap length c.items-count.ensures)
