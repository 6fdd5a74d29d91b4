use Rattle.std.proofs.Common.{arith, subst, ◌≡◌}
use Rattle.store_theory.specs.Stores.{IsGood, cut_at}
use Rattle.store_theory.proofs.BindingLaws.{cut-now, good-now}
use Rattle.term_store.specs.StoreView.{the_mark}
use Rattle.term_store.proofs.StoreFacts.{length-cells}
use Rattle.term_store.proofs.store.Store.mark.Goals as goal

pub returns-clause-good : goal.returns-clause-good
returns-clause-good c =
    let l = length-cells c.self.inside.cells.list c.self.inside.parts.items in
    subst (λ v. IsGood (the_mark (record { cells = c.len.result; entries = c.len-2.result })) v.store) c.self.view_is (good-now _ _ c.self.invariant.fits (omega arith) (omega arith))

pub returns-clause-whole : goal.returns-clause-whole
returns-clause-whole c =
    let l = length-cells c.self.inside.cells.list c.self.inside.parts.items in
    subst (λ v. cut_at (the_mark (record { cells = c.len.result; entries = c.len-2.result })) v.store ≡ v.store) c.self.view_is (cut-now _ _ c.self.invariant.fits (omega arith) (omega arith))
