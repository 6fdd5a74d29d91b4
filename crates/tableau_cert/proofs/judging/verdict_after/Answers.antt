use Rattle.std.proofs.Common.{subst, sym}
use Rattle.tableau_cert.specs.Gathering.{AreNormalLiterals}
use Rattle.tableau_cert.specs.Resolving.{IsNormalOutcome}
use Rattle.tableau_text.specs.MovesView.{the_moves}
use Rattle.tableau_cert.proofs.FoundLaws.{steps-begin}
use Rattle.tableau_cert.proofs.judging.verdict_after.Goals as goal

pub verdict_from-requires-clause-begun : goal.verdict_from-requires-clause-begun
verdict_from-requires-clause-begun c = steps-begin c.args.problem.now (the_moves c.args.moves.now) c.args.start.now.steps c.requires.steps
