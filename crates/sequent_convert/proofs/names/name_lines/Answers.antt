use Rattle.std.proofs.Common.{refl}
use Rattle.conversion_theory.specs.Numbering.{number_of}
use Rattle.sequent_convert.proofs.ByNumber.NameLines.{lines-step}
use Rattle.sequent_convert.proofs.names.name_lines.Goals as goal

pub loop-name-preserved : goal.loop-name-preserved
loop-name-preserved c = lines-step c.args.named.now.lists (number_of c.args.named.now.names) c.args.problem.now c.names-name-items.result.now c.loop-name.name-index _ _ c.loop-name-test.true refl _ _ c.loop-name.invariant.0 c.in_ok-add_name.ensures.eigens _ _ c.loop-name.invariant.1 c.in_ok-add_name.ensures.spares
