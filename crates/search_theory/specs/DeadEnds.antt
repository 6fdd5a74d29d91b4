-- Lists of choices that no tree follows, or only irregular ones.
use Rattle.std.specs.Prelude.{◌≡◌, List, [], ◌∷◌, Bool, true, false, Some}
use Rattle.calculus.specs.Syntax.{Problem}
use Rattle.calculus.specs.Choices.{Choice, GroundChoice, choices_of, Growth, growth_of, is_regular}

abbrev pub is_not_empty : List Choice → Bool
is_not_empty [] = false
is_not_empty (x ∷ xs) = true

-- some tree of ground instances follows the choice list, whatever the limit
abbrev pub Grows : Problem → List Choice → Type 0
Grows P c = (gs : List GroundChoice) × (x : Growth) × (choices_of gs ≡ c) × (growth_of P gs ≡ Some x)

-- each tree that follows the list is irregular
abbrev pub IsIrregular : Problem → List Choice → Type 0
IsIrregular P p = (gs : List GroundChoice) (x : Growth) → choices_of gs ≡ p → growth_of P gs ≡ Some x → is_regular x ≡ false

-- a dead end: no tree follows the list, or each one is irregular
pub data IsDead (P : Problem) (p : List Choice) : Type 0 where
  refused : ¬ Grows P p → IsDead P p
  irregular : IsIrregular P p → IsDead P p
