-- The pi steps and the eigenvariables of an instance.
use Rattle.std.specs.Prelude.{List, [], ◌∷◌, ◌++◌}
use Rattle.calculus.specs.declared.sign.Sign.{Sign}
use Rattle.calculus.specs.declared.setting.Logic.{Logic}
use Rattle.calculus.specs.Syntax.{Formula}
use Rattle.calculus.specs.Ground.{GroundTerm, g_eigen, g_new_mark, values_tree}
use Rattle.calculus.specs.Instances.{Spot, Share, Gives, Shaped, by_plain, by_nu, by_pi, is_literal, by_only, by_left, by_right, by_both, by_gamma, by_delta}
use Rattle.string_theory.proofs.Folding.{PiStep}

abbrev mutual
  pub steps_of : {l : Logic} {c : Spot} {s : Sign} {f : Formula} {x : Share} → Gives l c s f x → List PiStep
  steps_of (by_plain e g) = steps_in g
  steps_of (by_nu w e h g) = steps_in g
  steps_of {c = c} (by_pi e g) = record { before = c.label; mark = g_new_mark c.position (values_tree c.taken) } ∷ steps_in g

  pub steps_in : {l : Logic} {c : Spot} {s : Sign} {f : Formula} {x : Share} → Shaped l c s f x → List PiStep
  steps_in is_literal = []
  steps_in (by_only e k g) = steps_of g
  steps_in (by_left e k g) = steps_of g
  steps_in (by_right e k g) = steps_of g
  steps_in (by_both e k g h) = steps_of g ++ steps_of h
  steps_in (by_gamma t e k g) = steps_of g
  steps_in (by_delta e k g) = steps_of g

abbrev mutual
  pub eigens_of : {l : Logic} {c : Spot} {s : Sign} {f : Formula} {x : Share} → Gives l c s f x → List GroundTerm
  eigens_of (by_plain e g) = eigens_in g
  eigens_of (by_nu w e h g) = eigens_in g
  eigens_of (by_pi e g) = eigens_in g

  pub eigens_in : {l : Logic} {c : Spot} {s : Sign} {f : Formula} {x : Share} → Shaped l c s f x → List GroundTerm
  eigens_in is_literal = []
  eigens_in (by_only e k g) = eigens_of g
  eigens_in (by_left e k g) = eigens_of g
  eigens_in (by_right e k g) = eigens_of g
  eigens_in (by_both e k g h) = eigens_of g ++ eigens_of h
  eigens_in (by_gamma t e k g) = eigens_of g
  eigens_in {c = c} (by_delta e k g) = g_eigen c.position (values_tree c.taken) ∷ eigens_of g
