use Rattle.std.proofs.Common.{arith, sym, ◌∙◌, refl}
use Rattle.tableau_core.specs.Numbered.SpotView.{the_mark_at}
use Rattle.tableau_core.proofs.Numbered.LabelLaws.{begins-all, begins-next, begins-not, longer-home}
use Rattle.tableau_core.proofs.allowance.begins.Goals as goal

pub returns-then-at-home : goal.returns-then-at-home
returns-then-at-home c = longer-home (the_mark_at c.args.table.now) c.args.home.now c.args.at.now (omega arith)

pub returns-then-not-is_same_mark : goal.returns-then-not-is_same_mark
returns-then-not-is_same_mark c =
    begins-not (the_mark_at c.args.table.now) c.args.home.now c.args.at.now c.loop-i.i _ _ _ _ c.is_same_mark.result (omega arith) (omega arith) refl refl c.is_same_mark.ensures c.if-not-is_same_mark.true ∙ c.loop-i.invariant

pub loop-i-preserved : goal.loop-i-preserved
loop-i-preserved c =
    begins-next (the_mark_at c.args.table.now) c.args.home.now c.args.at.now c.loop-i.i _ _ _ _ _ c.is_same_mark.result (omega arith) (omega arith) (omega arith) refl refl c.is_same_mark.ensures c.if-not-is_same_mark.false ∙ c.loop-i.invariant

pub returns : goal.returns
returns c = begins-all (the_mark_at c.args.table.now) c.args.home.now c.args.at.now c.loop-i.i (omega arith) ∙ c.loop-i.invariant
