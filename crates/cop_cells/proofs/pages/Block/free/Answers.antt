use Rattle.std.proofs.Common.{◌≡◌, ◌+◌, ◌-◌, ◌++◌, ℕ, length, take, ap, sym, subst, ◌∙◌, arith, length-append}
use denote.RawPtr.{Ptr}
use Rattle.cop_cells.specs.Layout.{spots, spots_of}
use Rattle.cop_cells.proofs.LayoutLaws.{last-page, some-page}
use Rattle.cop_cells.proofs.pages.Block.free.Goals as goal

pub loop-taken-init : goal.loop-taken-init
loop-taken-init g c =
    let i = c.self.invariant in
    let n = c.self.inside.count in
    let at = c.self.inside.base.ptr in
    let all = spots_of c.args.table.now.items in
    let r = c.last_places-places.result in
    let front = take (length all - n) all in
    let same : (at, n) ≡ c.args.self = ap (λ p. (p, n)) (sym i.0) ∙ c.self.view_is in
    let whole : all ≡ front ++ spots at n = subst
    (λ (b : Ptr × ℕ). all ≡ take (length all - b.1) all ++ spots b.0 b.1) (sym same) c.requires in
    let one : n ≡ (n - 1) + 1 = omega (arith, i.3) in
    let t = last-page front all (spots_of c.last_places-places.new.table.items) at n (n - 1)
    (r.at, r.start) one whole c.last_places-places.ensures.spots in
    record { some = omega arith; left = t.0; at = t.1; start = t.2; long = c.last_places-places.ensures.long }

pub last_places-requires : goal.last_places-requires
last_places-requires g c =
    let n = c.self.inside.count in
    let all = spots_of c.args.table.now.items in
    some-page (take (length all - n) all) (spots_of c.loop-taken.table.items) c.self.inside.base.ptr
    (n - c.loop-taken._taken) c.loop-taken.invariant.left (omega (arith, c.loop-taken-test.true))

pub join-places-requires : goal.join-places-requires
join-places-requires g c =
    let l = c.loop-taken in
    let n = c.self.inside.count in
    let all = spots_of c.args.table.now.items in
    let r = c.last_places.result in
    let one : n - l._taken ≡ (n - (l._taken + 1)) + 1 = omega (arith, c.loop-taken-test.true) in
    let t = last-page (take (length all - n) all) (spots_of l.table.items)
    (spots_of c.last_places.new.table.items) c.self.inside.base.ptr (n - l._taken) (n - (l._taken + 1))
    (r.at, r.start) one l.invariant.left c.last_places.ensures.spots in
    (l.invariant.at ∙ sym t.1, omega (arith, l.invariant.start, t.2, c.last_places.ensures.long, one))

pub loop-taken-preserved : goal.loop-taken-preserved
loop-taken-preserved g c =
    let l = c.loop-taken in
    let n = c.self.inside.count in
    let all = spots_of c.args.table.now.items in
    let r = c.last_places.result in
    let j = c.join-places.ensures in
    let one : n - l._taken ≡ (n - (l._taken + 1)) + 1 = omega (arith, c.loop-taken-test.true) in
    let t = last-page (take (length all - n) all) (spots_of l.table.items)
    (spots_of c.last_places.new.table.items) c.self.inside.base.ptr (n - l._taken) (n - (l._taken + 1))
    (r.at, r.start) one l.invariant.left c.last_places.ensures.spots in
    record {
      some = omega arith;
      left = t.0;
      at = j.0 ∙ t.1;
      start = j.1 ∙ t.2;
      long = omega (
        arith,
        ap (λ cs. length cs) j.3,
        length-append r.slots l.places.slots,
        c.last_places.ensures.long,
        l.invariant.long,
      );
    }
