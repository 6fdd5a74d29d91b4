use Rattle.std.proofs.Common.{◌≡◌, ◌∙◌, ◌+◌, ◌-◌, ◌*◌, ◌++◌, [], ap, ap₂, arith, subst, sym}
use Rattle.prefix_split.specs.LengthLists.{IsTakenOff, least_list}
use Rattle.prefix_split.proofs.LengthListLaws.{below-full, empty-list, off-fits, off-last, off-many, off-next, off-number, off-raised, off-sum, product-fits}
use Rattle.prefix_split.proofs.next_lengths.next_lengths.Goals as goal

pub push_least-requires-clause-room : goal.push_least-requires-clause-room
push_least-requires-clause-room c =
    let fits = off-fits c.args.range.least c.args.range.spread c.args.lengths.now.items c.loop-length.lengths.items c.loop-length.count c.loop-length.above c.requires.within c.loop-length.invariant in
    omega (arith, fits)

pub returns-then-can_rise-clause-next : goal.returns-then-can_rise-clause-next
returns-then-can_rise-clause-next c = λ e.
    let x = c.args.range.least in
    let p = c.args.range.spread in
    off-raised x p c.args.lengths.now.items c.loop-length.lengths.items c.pop.new.self.items c.push_least.new.lengths.items c.in-Some.length c.loop-length.count c.loop-length.above c.requires.within c.loop-length.invariant c.in-Some.ensures.items (c.can_rise.ensures.some c.if-can_rise.true) (c.can_rise.ensures.below c.if-can_rise.true)
    (c.in_ok-push_least.ensures ∙ ap (λ xs. xs ++ least_list x p c.loop-length.count (c.loop-length.above - 1)) c.in_ok-push.ensures.items)

pub overflow_sub-length : goal.overflow_sub-length
overflow_sub-length c = (off-number c.args.range.least c.args.range.spread c.args.lengths.now.items c.loop-length.lengths.items c.pop.new.self.items c.in-Some.length c.loop-length.count c.loop-length.above c.requires.within c.loop-length.invariant c.in-Some.ensures.items).0

pub overflow_add-above : goal.overflow_add-above
overflow_add-above c =
    let x = c.args.range.least in
    let p = c.args.range.spread in
    let old = c.args.lengths.now.items in
    let next = off-next x p old c.loop-length.lengths.items c.pop.new.self.items c.in-Some.length c.loop-length.count c.loop-length.above c.requires.within c.loop-length.invariant c.in-Some.ensures.items (c.can_rise.ensures.cannot c.if-can_rise.false) in
    let most = off-fits x p old c.pop.new.self.items (c.loop-length.count + 1) (c.loop-length.above + (c.in-Some.length - x)) c.requires.within next in
    let many = off-many x p old c.pop.new.self.items (c.loop-length.count + 1) (c.loop-length.above + (c.in-Some.length - x)) next in
    let few = c.requires.few in
    let fits = c.requires.fits in
    let small = product-fits (c.loop-length.count + 1) p (omega (arith, many, few)) (omega (arith, fits)) in
    let same = c.from-above.ensures in
    omega (arith, most, small, same)

pub loop-length-preserved : goal.loop-length-preserved
loop-length-preserved c =
    let x = c.args.range.least in
    let p = c.args.range.spread in
    let old = c.args.lengths.now.items in
    let next = off-next x p old c.loop-length.lengths.items c.pop.new.self.items c.in-Some.length c.loop-length.count c.loop-length.above c.requires.within c.loop-length.invariant c.in-Some.ensures.items (c.can_rise.ensures.cannot c.if-can_rise.false) in
    subst (λ z. IsTakenOff x p old c.pop.new.self.items (c.loop-length.count + 1) (c.loop-length.above + z)) (sym c.from-above.ensures) next

pub returns-then-above-from-clause-last : goal.returns-then-above-from-clause-last
returns-then-above-from-clause-last c = λ e.
    let n = c.pop.new.self.ok.0 in
    let z = c.in_default.ensures.cases.1 in
    let none : c.pop.new.self.items ≡ [] = empty-list c.pop.new.self.items (omega (arith, n, z)) in
    off-last c.args.range.least c.args.range.spread c.args.lengths.now.items c.loop-length.lengths.items c.loop-length.count c.loop-length.above c.requires.within c.loop-length.invariant
    (c.in_default.ensures.items ∙ ap (λ xs. xs ++ []) none) (c.if-above-from.true ∙ ap₂ (λ i j. i * j) c.from.ensures c.from-2.ensures)

pub overflow_add-above-2 : goal.overflow_add-above-2
overflow_add-above-2 c =
    let x = c.args.range.least in
    let p = c.args.range.spread in
    let old = c.args.lengths.now.items in
    let most = off-fits x p old c.loop-length.lengths.items c.loop-length.count c.loop-length.above c.requires.within c.loop-length.invariant in
    let many = off-many x p old c.loop-length.lengths.items c.loop-length.count c.loop-length.above c.loop-length.invariant in
    let few = c.requires.few in
    let fits = c.requires.fits in
    let small = product-fits c.loop-length.count p (omega (arith, many, few)) (omega (arith, fits)) in
    omega (arith, most, small)

pub push_least-requires-2-clause-room : goal.push_least-requires-2-clause-room
push_least-requires-2-clause-room c =
    let fits = off-fits c.args.range.least c.args.range.spread c.args.lengths.now.items c.loop-length.lengths.items c.loop-length.count c.loop-length.above c.requires.within c.loop-length.invariant in
    let other = c.if-above-from.false in
    let full : c.from.result * c.from-2.result ≡ c.loop-length.count * c.args.range.spread = ap₂ (λ i j. i * j) c.from.ensures c.from-2.ensures in
    below-full c.loop-length.above (c.from.result * c.from-2.result) (c.loop-length.count * c.args.range.spread) full other fits

pub returns-clause-next : goal.returns-clause-next
returns-clause-next c = λ e.
    let x = c.args.range.least in
    let p = c.args.range.spread in
    let n = c.pop.new.self.ok.0 in
    let z = c.in_default.ensures.cases.1 in
    let none : c.pop.new.self.items ≡ [] = empty-list c.pop.new.self.items (omega (arith, n, z)) in
    let emptied : c.loop-length.lengths.items ≡ [] = c.in_default.ensures.items ∙ ap (λ xs. xs ++ []) none in
    let full : c.from.result * c.from-2.result ≡ c.loop-length.count * p = ap₂ (λ i j. i * j) c.from.ensures c.from-2.ensures in
    off-sum x p c.args.lengths.now.items c.loop-length.lengths.items c.push_least-2.new.lengths.items c.loop-length.count c.loop-length.above c.requires.within c.loop-length.invariant emptied
    (λ q. c.if-above-from.false (q ∙ sym full))
    (c.in_ok-push_least-2.ensures ∙ ap (λ xs. xs ++ least_list x p c.loop-length.count (c.loop-length.above + 1)) (none ∙ sym emptied))
