use Rattle.std.proofs.Common.{◌∙◌, sym}
use Rattle.std.proofs.lemmas.Bool.{false≢true}
use Rattle.prefix_split.proofs.refuting.chosen.Goals as goal

pub returns-in-Some : goal.returns-in-Some
returns-in-Some c = λ e. absurd (false≢true (sym (rw c.in-Some.is at c.in_ok-told.ensures) ∙ e))

pub returns : goal.returns
returns c = λ e σ value t v a p. c.in_ok-_left.ensures.refuted e σ value t v (c.refute_equal.ensures value a (c.in_ok-order.ensures σ value t v p))
