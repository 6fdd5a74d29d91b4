-- New numbers of labels and terms by their old ones.
use Rattle.std.specs.Prelude.{◌≡◌, ◌<◌, ℕ, List, Bool, IsTrue, length}
use Rattle.std.proofs.Common.{get_or}
use Rattle.calculus.specs.Derivations.{Label}
use Rattle.calculus.specs.Syntax.{Term}
use Rattle.calculus.specs.Versions.{NumberedDerivation, number_in}
use Rattle.derivation_text.specs.Entering.{has}

-- the item is listed under this number first
pub record IsNew {A : Type 0} (same : A → A → Bool) (new : List A) (x : A) (n : ℕ) : Type 0 where
  pub has : IsTrue (has same new x)
  pub number : n ≡ number_in same new x

-- the new number of each item of the old list, or 0 where it has not come yet
pub record AreNew {A : Type 0} (same : A → A → Bool) (none : A) (old new : List A) (numbers : List ℕ) : Type 0 where
  pub length : length numbers ≡ length old
  pub each : (k : ℕ) → 0 < get_or numbers k 0 → IsNew same new (get_or old k none) (get_or numbers k 0)

abbrev pub with_labels : NumberedDerivation → List Label → NumberedDerivation
with_labels x labels = record { limit = x.limit; labels = labels; eigens = x.eigens; spares = x.spares; terms = x.terms; steps = x.steps }

abbrev pub with_terms : NumberedDerivation → List Term → NumberedDerivation
with_terms x terms = record { limit = x.limit; labels = x.labels; eigens = x.eigens; spares = x.spares; terms = terms; steps = x.steps }
