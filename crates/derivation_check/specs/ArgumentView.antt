-- The arguments of the calculus that those of a judgement stand for.
use Rattle.std.specs.Prelude.{◌≡◌, ⊤, ℕ, ◌<◌, List, [], get_or, length}
use Rattle.calculus.specs.Derivations as derivation
use Rattle.derivation_check.specs.declared.argument.Argument as argument
use Rattle.derivation_check.specs.declared.argument.Argument.TheVariants as argument_is
use Rattle.derivation_check.specs.declared.argument.LabelArgument as label_argument
use Rattle.derivation_check.specs.declared.argument.LabelArgument.TheVariants as label_argument_is

abbrev pub the_argument : argument.Argument → derivation.TermArg
the_argument argument_is.None = derivation.no_term
the_argument (argument_is.Term t k p) = derivation.by_term t.now
the_argument (argument_is.Name n) = derivation.by_name n

-- with labels by their places in a table
abbrev pub the_label_argument : List derivation.Label → label_argument.LabelArgument → derivation.ModalArg
the_label_argument labels label_argument_is.None = derivation.no_modal
the_label_argument labels (label_argument_is.To k) = derivation.to (get_or labels k [])
the_label_argument labels (label_argument_is.New n) = derivation.by_new n

-- the label that is given has its place in the table
abbrev pub IsArgumentWithin : List derivation.Label → label_argument.LabelArgument → Type 0
IsArgumentWithin labels label_argument_is.None = ⊤
IsArgumentWithin labels (label_argument_is.To k) = k < length labels
IsArgumentWithin labels (label_argument_is.New n) = ⊤

-- the places in a table of the first n labels of a list
pub record AreFirstPlaces (n : ℕ) (labels table : List derivation.Label) (places : List ℕ) : Type 0 where
  pub count : length places ≡ n
  pub within : (i : ℕ) → i < n → get_or places i 0 < length table
  pub same : (i : ℕ) → i < n → get_or table (get_or places i 0) [] ≡ get_or labels i []

-- of all of them, by their numbers
abbrev pub ArePlaces : List derivation.Label → List derivation.Label → List ℕ → Type 0
ArePlaces labels table places = AreFirstPlaces (length labels) labels table places
