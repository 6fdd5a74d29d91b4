use Rattle.std.proofs.Common.{◌≡◌, ◌++◌, ◌∷◌, [], map, length, take, reverse, false, arith, sym, ◌∙◌}
use Rattle.calculus.specs.Derivations.{close}
use Rattle.sequent_convert.specs.ByNumber.RunView.{the_run, the_source, the_waiting}
use Rattle.sequent_convert.proofs.MoveLaws.{close-last, close-next}
use Rattle.sequent_convert.proofs.ByNumber.Stack.{stack-push, stack-none}
use Rattle.sequent_convert.proofs.ByNumber.PairLaws.{seen-axiom}
use Rattle.sequent_convert.proofs.run.Run.close.Goals as goal

pub returns-in-None-clause-moves : goal.returns-in-None-clause-moves
returns-in-None-clause-moves c =
    let s = the_run c.args.source.now c.args.self.now in
    let ok = c.args.self.now.waiting.ok.0 in
    let zero = c.in-None.ensures.cases.0 in
    let no_items : length c.args.self.now.waiting.items ≡ 0 = omega (arith, ok, zero) in
    let none = stack-none c.args.source.now c.args.self.now.waiting.items c.pop.new.self.items c.in-None.ensures.items no_items in
    close-last (the_source c.args.source.now) s _ c.args.pair.given c.args.pair.shown (seen-axiom (the_source c.args.source.now) s c.requires.run c.args.pair c.requires.pair) none.0
    (λ i. record s { is_open = false; steps = c.in_ok-push_axiom.ensures i; waiting = (none.1 ∙ sym none.0) i })

pub returns-in_ok-resume-in-Some-clause-moves : goal.returns-in_ok-resume-in-Some-clause-moves
returns-in_ok-resume-in-Some-clause-moves c =
    let s = the_run c.args.source.now c.args.self.now in
    let w = the_waiting c.args.source.now c.in-Some.next in
    let rest = map (the_waiting c.args.source.now) (reverse c.pop.new.self.items) in
    let some = stack-push c.args.source.now c.args.self.now.waiting.items c.pop.new.self.items c.in-Some.next c.in-Some.ensures.items in
    close-next (the_source c.args.source.now) s _ c.args.pair.given c.args.pair.shown w rest (seen-axiom (the_source c.args.source.now) s c.requires.run c.args.pair c.requires.pair) some
    (c.in_ok-resume-in-Some.ensures.run ∙ (λ i. record s { steps = c.in_ok-push_axiom.ensures i; items = take w.nodes s.items ++ w.node ∷ []; done = take w.done s.done; ahead = w.ahead; waiting = rest }))
