-- The verdict of the calculus that a verdict of the program stands for.
use Rattle.calculus.specs.TableauText as tree
use Rattle.tableau_cert.specs.declared.verdict.TableauVerdict.{TableauVerdict}
use Rattle.tableau_cert.specs.declared.verdict.TableauVerdict.TheVariants.{Accepted, Rejected}

abbrev pub the_verdict : TableauVerdict → tree.TableauVerdict
the_verdict Accepted = tree.tableau_accepted
the_verdict (Rejected line fault) = tree.tableau_rejected line fault
