use Rattle.std.proofs.Common.{append-nil, sym, arith}
use Rattle.leancop_top.proofs.Pieces.{all-out, full-out, last-out, on_err, put_part, put_piece, split_whole, take-short}
use Rattle.std.proofs.lemmas.Result.{on_err_weaker}
use Rattle.leancop_top.proofs.writing.put_all.Goals as goal

pub returns-in_err-put-clause-part : goal.returns-in_err-put-clause-part
returns-in_err-put-clause-part g c =
    let cut = c.in_err-put.ensures.part in
    on_err c.from_residual.result (put_part _ _ _ _ _ _ _ c.loop-rest.invariant.0 (split_whole 4096 _ _ _ c.split_at.ensures.front c.split_at.ensures.back) (cut.0, cut.1))

pub returns-in_err-put-clause-pieces : goal.returns-in_err-put-clause-pieces
returns-in_err-put-clause-pieces g c =
    let cut = c.in_err-put.ensures.part in
    last-out _ _ _ _ c.loop-rest.invariant.2 (take-short cut.0 _ (omega (arith, c.split_at.ensures.front_len))) cut.2

pub loop-rest-preserved : goal.loop-rest-preserved
loop-rest-preserved g c = (
  put_piece _ _ _ _ _ _ _ c.loop-rest.invariant.0 (split_whole 4096 _ _ _ c.split_at.ensures.front c.split_at.ensures.back) c.in_ok-put.ensures.ok,
  omega (arith, c.loop-rest.invariant.1, c.in_ok-put.ensures.more_faults),
  full-out _ _ _ _ c.loop-rest.invariant.2 c.split_at.ensures.front_len c.in_ok-put.ensures.whole,
)

pub returns-clause-part : goal.returns-clause-part
returns-clause-part g c =
    on_err_weaker c.put-2.result (λ p. put_part _ _ _ _ _ _ _ c.loop-rest.invariant.0 (sym (append-nil _)) (p.0, p.1)) c.put-2.ensures.part

pub returns-clause-pieces : goal.returns-clause-pieces
returns-clause-pieces g c =
    all-out c.put-2.result _ _ _ _ c.loop-rest.invariant.2 c.loop-rest-test.false c.put-2.ensures.whole (on_err_weaker c.put-2.result (λ p. (p.0, p.2)) c.put-2.ensures.part)
