-- A list that begins with an older one: what a writer leaves, also where memory ends in the middle of its text.
use Rattle.std.specs.Prelude.{◌≡◌, List, ◌++◌}

pub record Extends {A : Type 0} (old new : List A) : Type 0 where
  pub more : List A
  pub all : new ≡ old ++ more
