-- The line of a body that a line of the program stands for.
use Rattle.sequent_calc.specs.NamesView.{the_eigen, the_spare}
use Rattle.derivation_text.specs.RowView.{the_row_step}
use Rattle.derivation_text.specs.Body as body
use Rattle.derivation_text.specs.declared.body_line.BodyLine.{BodyLine}
use Rattle.derivation_text.specs.declared.body_line.BodyLine.TheVariants.{Eigen, Spare, Step, End}

abbrev pub the_body_line : BodyLine → body.BodyLine
the_body_line (Eigen n w) = body.of_eigen (the_eigen (n, w))
the_body_line (Spare n h) = body.of_spare (the_spare (n, h))
the_body_line (Step x) = body.of_step (the_row_step x)
the_body_line End = body.last
