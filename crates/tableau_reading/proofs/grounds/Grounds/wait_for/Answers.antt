use Rattle.std.proofs.Common.{◌≡◌, ◌+◌, ◌∷◌, [], ◌∙◌, ap, length, length-append, set, suc, true, arith}
use Rattle.tableau_reading.specs.Waiting.{unasked}
use Rattle.tableau_reading.proofs.PartLaws.{end-within}
use Rattle.tableau_reading.proofs.WaitingLaws.{keeps-asked, part-new, unasked-falls, waits-asked}
use Rattle.tableau_reading.proofs.grounds.Grounds.wait_for.Goals as goal

pub ask-requires : goal.ask-requires
ask-requires c = omega (arith, end-within c.args.store.now.store c.args.part.0 c.requires.part, c.requires.reading.marked)

pub returns-clause-asked : goal.returns-clause-asked
returns-clause-asked c = keeps-asked c.args.self.now c.ask.new.self c.args.part.0 c.ask.ensures.asked

pub returns-clause-waits : goal.returns-clause-waits
returns-clause-waits c =
    waits-asked c.args.store.now.store c.args.homes.now c.args.self.now c.ask.new.self c.args.waiting.now.items c.push.new.self.items c.push-2.new.self.items c.args.top c.args.part c.requires.waits c.ask.ensures.made c.ask.ensures.asked
    c.in_ok-push.ensures.items c.in_ok-push-2.ensures.items c.requires.lighter

pub returns-clause-falls : goal.returns-clause-falls
returns-clause-falls c =
    let new = part-new c.args.store.now.store c.args.homes.now c.args.self.now c.args.waiting.now.items c.args.top c.args.part c.requires.spares c.requires.waits (omega (arith, end-within c.args.store.now.store c.args.part.0 c.requires.part, c.requires.reading.marked)) c.requires.unmade c.requires.lighter in
    let f : suc (unasked (set c.args.self.now.asked.items c.args.part.0 true)) ≡ unasked c.args.self.now.asked.items = unasked-falls c.args.self.now.asked.items c.args.part.0 new in
    let u : unasked c.ask.new.self.asked.items ≡ unasked (set c.args.self.now.asked.items c.args.part.0 true) = ap unasked c.ask.ensures.asked in
    let l : length c.push.new.self.items ≡ length c.args.waiting.now.items + 1 = ap length c.in_ok-push.ensures.items ∙ length-append c.args.waiting.now.items (c.args.top ∷ []) in
    let m : length c.push-2.new.self.items ≡ length c.push.new.self.items + 1 = ap length c.in_ok-push-2.ensures.items ∙ length-append c.push.new.self.items (c.args.part ∷ []) in
    omega (arith, f, u, l, m)
