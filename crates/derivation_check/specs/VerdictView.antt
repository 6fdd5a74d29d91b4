-- The verdict of the calculus that a verdict of the program stands for.
use Rattle.calculus.specs.Judgement as judgement
use Rattle.derivation_check.specs.declared.verdict.Verdict.{Verdict}
use Rattle.derivation_check.specs.declared.verdict.Verdict.TheVariants.{Accepted, Rejected}

abbrev pub the_verdict : Verdict → judgement.Verdict
the_verdict Accepted = judgement.accepted
the_verdict (Rejected line fault) = judgement.rejected line fault
