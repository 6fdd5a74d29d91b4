use Rattle.std.proofs.Common.{◌≡◌, [], IsTrue, arith, map, nat_le, refl, subst, sym}
use Rattle.std.specs.List.{list_all}
use Rattle.std.proofs.lemmas.List.{length-map}
use Rattle.term_store.specs.RefView.{the_place}
use Rattle.term_unify.proofs.FlatLaws.{IsFlatTo, flat-all, flat-from, flat-more, flat-start, item-clean, item-sorted}
use Rattle.term_unify.proofs.flat.flat_label.Goals as goal

pub loop-i-init : goal.loop-i-init
loop-i-init c =
    let e : c.new-marks.result.items ≡ [] = cc in
    record {
      flat = subst (λ xs. IsFlatTo c.args.store.now.store (map the_place c.args.label.now) (map the_place xs) 0) (sym e) (flat-start c.args.store.now.store (map the_place c.args.label.now));
      from = λ base names k. subst (λ xs. IsTrue (list_all (nat_le base) (map the_place xs))) (sym e) refl;
    }

pub push_flat-requires-clause-sort : goal.push_flat-requires-clause-sort
push_flat-requires-clause-sort c = item-sorted c.args.store.now.store (map the_place c.args.label.now) c.loop-i.i c.reference_at.result.0 c.requires.label c.reference_at.ensures

pub push_flat-requires-clause-free : goal.push_flat-requires-clause-free
push_flat-requires-clause-free c = item-clean c.args.store.now.store (map the_place c.args.label.now) c.loop-i.i c.reference_at.result.0 c.requires.free c.reference_at.ensures

pub loop-i-preserved : goal.loop-i-preserved
loop-i-preserved c =
    let (ks, joined, item) = c.in_ok-push_flat.ensures in
    record {
      flat = flat-more c.args.store.now.store (map the_place c.args.label.now) (map the_place c.loop-i.marks.items) (map the_place c.push_flat.new.marks.items) ks c.loop-i.i c.reference_at.result.0 c.mark-now.ensures.well.fits c.requires.free c.loop-i.invariant.flat c.reference_at.ensures joined item;
      from = λ base names k. flat-from base c.args.store.now.store (map the_place c.args.label.now) (map the_place c.loop-i.marks.items) (map the_place c.push_flat.new.marks.items) ks c.loop-i.i c.reference_at.result.0 names k c.reference_at.ensures item joined (c.loop-i.invariant.from base names k);
    }

pub returns-clause-flat : goal.returns-clause-flat
returns-clause-flat c =
    let n = length-map c.args.label.now the_place in
    flat-all c.args.store.now.store (map the_place c.args.label.now) (map the_place c.loop-i.marks.items) c.loop-i.i c.loop-i.invariant.flat (omega (arith, n))

pub returns-clause-free : goal.returns-clause-free
returns-clause-free c = c.loop-i.invariant.flat.free

pub returns-clause-from : goal.returns-clause-from
returns-clause-from c = c.loop-i.invariant.from
