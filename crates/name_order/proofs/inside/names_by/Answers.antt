use Rattle.std.proofs.Common.{ap, arith, refl, ◌∙◌}
use Rattle.tableau_core.specs.Numbered.Ahead.{bound}
use Rattle.tableau_core.proofs.Numbered.AheadLaws.{append-bound, below-bound}
use Rattle.name_order.proofs.ByNumber.InsideLaws.{see-popped}
use Rattle.name_order.proofs.inside.names_by.Goals as goal

pub look_at-requires-clause-bound : goal.look_at-requires-clause-bound
look_at-requires-clause-bound c = below-bound c.pop_last.new.self.keys c.in-Some.number c.in-Some.ensures.all_below

pub loop-number-smaller : goal.loop-number-smaller
loop-number-smaller c =
    let after = c.in_ok-look_at.ensures.bound in
    let before = ap bound c.in-Some.ensures.removal in
    let seam = append-bound c.pop_last.new.self.keys c.in-Some.number in
    omega (arith, after, before, seam)

pub loop-number-preserved : goal.loop-number-preserved
loop-number-preserved c = record {
  normal = c.in_ok-look_at.ensures.sees.normal;
  seen = λ n. see-popped c.args.table.now c.loop-number.search _ c.look_at.new.search c.in-Some.number refl c.in-Some.ensures.removal c.in_ok-look_at.ensures.sees n ∙ c.loop-number.invariant.seen n;
}
