use Rattle.std.proofs.Common.{refl}
use Rattle.tableau_text.proofs.SideLaws.{letter-more}
use Rattle.tableau_text.proofs.line_reader.read_letters.Goals as goal

pub loop-side-preserved : goal.loop-side-preserved
loop-side-preserved c = letter-more c.args.text.now c.loop-side.sides c.push.new.self c.loop-side.rest.now c.in-Some.after.now c.in-Some.side c.loop-side.invariant c.in-Some.ensures.some c.in_ok-push.ensures.ok

pub returns-clause-ok : goal.returns-clause-ok
returns-clause-ok c = record { text = c.loop-side.invariant; stops = c.in_default.ensures.none refl }
