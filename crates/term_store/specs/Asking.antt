-- What a demand asks of ground gamma terms, by its test.
use Rattle.std.specs.Prelude.{List, Bool, IsTrue}
use Rattle.calculus.specs.Instances.{GammaUse}

abbrev pub Asks : (List GammaUse → Bool) → List GammaUse → Type 0
Asks test us = IsTrue (test us)
