use Rattle.std.proofs.Common.{◌≡◌, ◌≤◌, ◌+◌, ◌++◌, ◌==◌, [], map, reverse, length, get_or, refl, ap, sym, ◌∙◌, subst, arith}
use Rattle.calculus.specs.TableauText.{below, bare_instances, strings_are_short}
use Rattle.calculus.specs.Tableaux.{total_steps}
use Rattle.formula_core.proofs.GrownLaws.{grown-both}
use Rattle.tableau_core.specs.Numbered.LiteralView.{the_literal}
use Rattle.tableau_core.specs.Walks.{capped}
use Rattle.tableau_text.specs.MovesView.{the_move, the_moves}
use Rattle.tableau_text.specs.declared.moves.Move.{Move}
use Rattle.tableau_text.specs.declared.moves.Move.TheVariants.{Reduction}
use Rattle.tableau_cert.specs.Judging.{AreNested, Takes, closed_by, closers_verdict, end_verdict, goal_of, last_verdict, the_open}
use Rattle.tableau_cert.specs.Resolving.{closer_of, moves_steps}
use Rattle.tableau_cert.proofs.FoundLaws.{moves-view, steps-end, steps-so_far, steps-whole}
use Rattle.tableau_cert.proofs.JudgingLaws.{loop-none, loop-wrong, loop-next, loop-end, loop-begins, nested-begins, popped-nested}
use Rattle.tableau_cert.proofs.NormalLaws.{normal-begins, normal-popped}
use Rattle.tableau_cert.proofs.SteppingLaws.{grown-none}
use Rattle.tableau_cert.proofs.judging.verdict_from.Goals as goal

pub returns-in-None : goal.returns-in-None
returns-in-None c = let P = c.args.problem.now in let x = the_moves c.args.moves.now in let l = c.loop-i in
    let ok = l.open_goals.ok.0 in
    let zero = c.in-None.ensures.cases.0 in
    let none : length l.open_goals.items ≡ 0 = omega (arith, ok, zero) in
    c.rejected.ensures ∙ loop-none (λ m. closer_of P (the_move c.args.moves.now.table m)) l.table x.limit (strings_are_short P (bare_instances x)) l.path.items l.open_goals.items c.as_slice-given_moves.result.now l.i _ _ (get_or c.as_slice-given_moves.result.now l.i (Reduction 0)) (Reduction 0) l.invariant.same refl none c.loop-i-test.true refl

pub close_by_move-requires-clause-grown : goal.close_by_move-requires-clause-grown
close_by_move-requires-clause-grown c = grown-both _ _ _ c.requires.grown c.loop-i.invariant.grown

pub close_by_move-requires-clause-nested : goal.close_by_move-requires-clause-nested
close_by_move-requires-clause-nested c = popped-nested (length c.loop-i.path.items) c.loop-i.open_goals.items c.pop.new.self.items c.in-Some.goal c.in-Some.ensures.items c.loop-i.invariant.nested

pub close_by_move-requires-clause-normal : goal.close_by_move-requires-clause-normal
close_by_move-requires-clause-normal c = normal-popped c.loop-i.table c.loop-i.path.items c.loop-i.open_goals.items c.pop.new.self.items c.in-Some.goal c.in-Some.ensures.items c.loop-i.invariant.normal

pub returns-in-Some-fault : goal.returns-in-Some-fault
returns-in-Some-fault c = let P = c.args.problem.now in let x = the_moves c.args.moves.now in let l = c.loop-i in let f = λ (m : Move). closer_of P (the_move c.args.moves.now.table m) in let m = c.index-given_moves-i.result in
    c.rejected-in-Some-fault.ensures ∙ loop-wrong f l.table x.limit (strings_are_short P (bare_instances x)) l.path.items l.open_goals.items c.as_slice-given_moves.result.now l.i _ _ c.pop.new.self.items c.in-Some.goal m m c.in-Some-fault.fault l.invariant.same refl c.in-Some.ensures.items c.loop-i-test.true c.index-given_moves-i.is
    (subst (Takes l.table c.close_by_move.new.table l.path.items c.pop.new.self.items c.close_by_move.new.path.items c.close_by_move.new.open_goals.items (closed_by x.limit (the_open l.table l.path.items c.in-Some.goal) (f m))) c.in-Some-fault.is c.in_ok-fault-in-Some.ensures.takes)

pub loop-i-init : goal.loop-i-init
loop-i-init c = let P = c.args.problem.now in let x = the_moves c.args.moves.now in let ls = c.args.table.now in let mt = c.args.moves.now.table in let gm = c.as_slice-given_moves.result.now in
    let last = last_verdict (strings_are_short P (bare_instances x)) in
    let f = λ (m : Move). closer_of P (the_move mt m) in
    let begun = c.in_ok-put_goals.ensures ∙ ap (λ xs. xs ++ reverse (map (goal_of 0) c.args.goals.now)) c.new-open_goals.ensures.items in record {
      grown = grown-none ls c.requires.grown.most;
      same =
          (λ j. closers_verdict x.limit last (map (the_open ls (c.new-path.ensures.items j)) (reverse c.put_goals.new.open_goals.items)) (map f gm) 6)
          ∙ ap (λ xs. closers_verdict x.limit last xs (map f gm) 6) (loop-begins ls c.args.goals.now c.put_goals.new.open_goals.items begun)
          ∙ ap (λ xs. closers_verdict x.limit last (below [] (map (the_literal ls) c.args.goals.now)) xs 6) (moves-view P mt gm ∙ ap (λ ms. map (closer_of P) (map (the_move mt) ms)) c.as_slice-given_moves.ensures.value);
      nested = subst (λ k. AreNested k (reverse c.put_goals.new.open_goals.items)) (sym (ap length c.new-path.ensures.items)) (nested-begins c.args.goals.now c.put_goals.new.open_goals.items begun);
      normal = normal-begins ls c.args.goals.now _ _ c.new-path.ensures.items begun c.requires.normal;
      steps = ap (λ ms. capped (c.args.begun + moves_steps P (map (the_move mt) ms))) c.as_slice-given_moves.ensures.value ∙ c.requires.begun;
      whole = omega arith;
    }

pub loop-i-preserved : goal.loop-i-preserved
loop-i-preserved c = let P = c.args.problem.now in let x = the_moves c.args.moves.now in let l = c.loop-i in let mt = c.args.moves.now.table in let gm = c.as_slice-given_moves.result.now in
    let f = λ (m : Move). closer_of P (the_move mt m) in let m = c.index-given_moves-i.result in let moved = c.in_ok-fault-in-Some.ensures in
    let k = subst (Takes l.table c.close_by_move.new.table l.path.items c.pop.new.self.items c.close_by_move.new.path.items c.close_by_move.new.open_goals.items (closed_by x.limit (the_open l.table l.path.items c.in-Some.goal) (f m))) c.in-None-fault.is moved.takes in record {
      grown = grown-both _ _ _ l.invariant.grown moved.grown;
      same = loop-next f l.table x.limit (strings_are_short P (bare_instances x)) l.path.items l.open_goals.items gm l.i _ c.close_by_move.new.table c.pop.new.self.items c.close_by_move.new.open_goals.items c.in-Some.goal c.close_by_move.new.path.items m m l.invariant.same c.in-Some.ensures.items c.loop-i-test.true c.index-given_moves-i.is k;
      nested = k.nested;
      normal = k.normal;
      steps = steps-so_far P mt gm l.i m m c.loop-i-test.true c.index-given_moves-i.is l.steps c.in_ok-fault-in-Some.more _ _ l.invariant.steps c.steps_with-steps.ensures moved.steps;
      whole = steps-whole _ _ c.steps_with-steps.ensures;
    }

pub are_short-short-requires : goal.are_short-short-requires
are_short-short-requires c = let P = c.args.problem.now in let x = the_moves c.args.moves.now in
    let t : length c.as_slice-given_moves.result.now ≤ c.loop-i.i = c.loop-i-test.false in
    steps-end P c.args.moves.now.table c.as_slice-given_moves.result.now c.loop-i.i c.loop-i.steps (total_steps P (bare_instances x)) c.loop-i.invariant.steps t c.loop-i.invariant.whole

pub returns : goal.returns
returns c = let P = c.args.problem.now in let x = the_moves c.args.moves.now in let l = c.loop-i in let gm = c.as_slice-given_moves.result.now in
    let t : length gm ≤ l.i = c.loop-i-test.false in
    let u : l.i ≤ length gm = l.auto.i-end in
    c.verdict_at_end.ensures ∙ ap (λ s. end_verdict c.is_empty.result s (length gm + 6)) c.are_short-short.ensures
    ∙ loop-end (λ m. closer_of P (the_move c.args.moves.now.table m)) l.table x.limit (strings_are_short P (bare_instances x)) l.path.items l.open_goals.items gm l.i _ (length gm + 6) c.is_empty.result l.invariant.same t (omega (arith, t, u)) (c.is_empty.ensures ∙ ap (λ xs. length xs == 0) c.as_slice-rest.ensures.value)
