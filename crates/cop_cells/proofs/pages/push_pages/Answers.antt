use Rattle.std.proofs.Common.{◌≡◌, ◌+◌, ◌-◌, ◌*◌, [], ◌∷◌, ◌++◌, None, take, drop, replicate, refl, ap, sym, ◌∙◌, arith}
use Rattle.cop_cells.specs.Layout.{blank_page}
use Rattle.cop_cells.proofs.Fronts.{drop-same, take-same}
use Rattle.cop_cells.proofs.LayoutLaws.{blank-next}
use Rattle.cop_cells.proofs.pages.push_pages.Goals as goal

pub push_page-requires-clause-places : goal.push_page-requires-clause-places
push_page-requires-clause-places g c =
    let l = c.loop-cut in
    let n = c.args.count in
    c.split-page.ensures.3 ∙ ap (take 4096) l.invariant.slots
    ∙ take-same None 4096 ((n - l._cut) * 4096) ((n - (l._cut + 1)) * 4096) (omega (arith, c.loop-cut-test.true))

pub loop-cut-preserved : goal.loop-cut-preserved
loop-cut-preserved g c =
    let l = c.loop-cut in
    let n = c.args.count in
    let s = c.split-page.ensures in
    record {
      items = c.push_page.ensures.items
          ∙ (λ i. l.invariant.items i ++ blank_page ((s.0 ∙ l.invariant.at) i) ((s.1 ∙ l.invariant.start) i) ∷ [])
          ∙ blank-next c.args.table.now.items c.args.places.at (l._cut + 1) l._cut refl;
      room = omega
          (arith, c.push_page.ensures.len, c.push_page.ensures.capacity, l.invariant.room, c.loop-cut-test.true);
      base = sym s.6;
      at = s.4 ∙ l.invariant.at;
      start = omega (arith, s.5, l.invariant.start);
      slots = s.7 ∙ ap (drop 4096) l.invariant.slots
          ∙ drop-same None 4096 ((n - l._cut) * 4096) ((n - (l._cut + 1)) * 4096)
          (omega (arith, c.loop-cut-test.true));
    }

pub push_page-requires-2-clause-places : goal.push_page-requires-2-clause-places
push_page-requires-2-clause-places g c =
    let l = c.loop-cut in
    let one : (c.args.count - l._cut) * 4096 ≡ 4096 = omega
    (arith, c.loop-cut-test.false, l.auto._cut-end, c.requires.some) in
    l.invariant.slots ∙ ap (λ n. replicate n None) one

pub returns : goal.returns
returns g c =
    let l = c.loop-cut in
    let one : c.args.count ≡ l._cut + 1 = omega
    (arith, c.loop-cut-test.false, l.auto._cut-end, c.requires.some) in
    c.push_page-2.ensures.items
    ∙ (λ i. l.invariant.items i ++ blank_page (l.invariant.at i) (l.invariant.start i) ∷ [])
    ∙ blank-next c.args.table.now.items c.args.places.at c.args.count l._cut one
