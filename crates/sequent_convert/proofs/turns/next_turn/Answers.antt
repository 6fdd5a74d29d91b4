use Rattle.std.proofs.Common.{sym, subst, inl, inr, arith}
use Rattle.sequent_convert.specs.ByNumber.RunView.{the_source}
use Rattle.sequent_convert.specs.State.{IsAwaitedBy}
use Rattle.sequent_convert.proofs.turns.next_turn.Goals as goal

pub loop-earlier-preserved : goal.loop-earlier-preserved
loop-earlier-preserved c =
    let r = c.in-Some.ensures in
    let le = c.loop-earlier.invariant.0 in
    let lt = r.1 in (
      omega (arith, le, lt),
      r.2,
      elim c.loop-earlier.invariant.2 [
        | inl e ↦ inr (c.in-Some.earlier, subst (λ k. IsAwaitedBy (the_source c.args.source.now) k c.in-Some.earlier) (sym e) r.0, r.2)
        | inr w ↦ inr w
      ],
    )
