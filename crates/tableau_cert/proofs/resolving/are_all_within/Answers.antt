use Rattle.std.proofs.Common.{◌∙◌, ap, arith, get_or, length, refl, sym}
use Rattle.tableau_text.specs.MovesView.{the_move}
use Rattle.tableau_cert.specs.Resolving.{is_move_within}
use Rattle.tableau_cert.proofs.FoundLaws.{all-ends, all-next, all-stops, first-goes, first-stops}
use Rattle.tableau_cert.proofs.resolving.are_all_within.Goals as goal

pub returns-then-not-are_within : goal.returns-then-not-are_within
returns-then-not-are_within c n e = first-stops _ _ _ (c.are_within.ensures n e) c.if-not-are_within.true

pub loop-given_move-init : goal.loop-given_move-init
loop-given_move-init c n e = refl

pub loop-given_move-preserved : goal.loop-given_move-preserved
loop-given_move-preserved c n e = let x = c.args.moves.now in let m = c.given_move-item.result in let i = c.loop-given_move.given_move-index in
    let d = c.deref-given_move-items.ensures.value in let k = ap length d in
    all-next (is_move_within n) (the_move x.table) x.moves.items i m m _ (c.loop-given_move.invariant n e) (omega (arith, k)) (c.given_move-item.is ∙ ap (λ xs. get_or xs i m) d) (sym (c.is_move_within.ensures n e) ∙ c.if-not-is_move_within.false)

pub returns-then-not-is_move_within : goal.returns-then-not-is_move_within
returns-then-not-is_move_within c n e = let x = c.args.moves.now in let m = c.given_move-item.result in let i = c.loop-given_move.given_move-index in
    let d = c.deref-given_move-items.ensures.value in let k = ap length d in
    first-goes _ _ _ _ (c.are_within.ensures n e) c.if-not-are_within.false (all-stops (is_move_within n) (the_move x.table) x.moves.items i m m _ (c.loop-given_move.invariant n e) (omega (arith, k)) (c.given_move-item.is ∙ ap (λ xs. get_or xs i m) d) (sym (c.is_move_within.ensures n e) ∙ c.if-not-is_move_within.true))

pub returns : goal.returns
returns c n e = let x = c.args.moves.now in let d = c.deref-given_move-items.ensures.value in let k = ap length d in
    first-goes _ _ _ _ (c.are_within.ensures n e) c.if-not-are_within.false (all-ends (is_move_within n) (the_move x.table) x.moves.items c.loop-given_move.given_move-index _ (c.loop-given_move.invariant n e) (omega (arith, k)))
