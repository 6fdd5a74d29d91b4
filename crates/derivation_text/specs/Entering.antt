-- A derivation with numbers in place of labels and terms, as it grows line by line: a label or a term gets the next number where it comes
-- for the first time.
use Rattle.std.specs.Prelude.{ℕ, List, [], ◌∷◌, ◌++◌, Bool, if◌then◌else◌}
use Rattle.std.specs.List.{list_any}
use Rattle.calculus.specs.Equality.{term_eq}
use Rattle.calculus.specs.Syntax.{Term}
use Rattle.calculus.specs.Derivations.{Label, Home, anywhere, home_at, EigenName, SpareName, ModalArg, no_modal, to, by_new, TermArg, no_term, by_term, by_name, Step, apply_to, close, Derivation}
use Rattle.calculus.specs.Versions.{NumberedDerivation, home_number, number_in, numbered_arg, numbered_modal, numbered_use, numbered_axiom, same_label}
use Rattle.derivation_text.specs.Body.{BodyLine, of_eigen, of_spare, of_step, last}

-- the item is in the list
abbrev pub has : {A : Type 0} → (A → A → Bool) → List A → A → Bool
has same xs x = list_any (λ y. same y x) xs

-- the list with an item that may be in it already
abbrev pub entered : {A : Type 0} → (A → A → Bool) → List A → A → List A
entered same xs x = if has same xs x then xs else xs ++ x ∷ []

abbrev pub with_label : List Label → Label → List Label
with_label = entered same_label

abbrev pub with_home : List Label → Home → List Label
with_home labels anywhere = labels
with_home labels (home_at w) = with_label labels w

abbrev pub with_modal : List Label → ModalArg → List Label
with_modal labels no_modal = labels
with_modal labels (to w) = with_label labels w
with_modal labels (by_new n) = labels

abbrev pub with_arg : List Term → TermArg → List Term
with_arg terms no_term = terms
with_arg terms (by_term t) = entered term_eq terms t
with_arg terms (by_name n) = terms

abbrev pub put_eigen : NumberedDerivation → EigenName → NumberedDerivation
put_eigen x e = record {
  limit = x.limit;
  labels = with_label x.labels e.home;
  eigens = x.eigens ++ record { number = e.number; home = number_in same_label (with_label x.labels e.home) e.home } ∷ [];
  spares = x.spares;
  terms = x.terms;
  steps = x.steps;
}

abbrev pub put_spare : NumberedDerivation → SpareName → NumberedDerivation
put_spare x s = record {
  limit = x.limit;
  labels = with_home x.labels s.home;
  eigens = x.eigens;
  spares = x.spares ++ record { number = s.number; home = home_number (with_home x.labels s.home) s.home } ∷ [];
  terms = x.terms;
  steps = x.steps;
}

abbrev pub put_step : NumberedDerivation → Step → NumberedDerivation
put_step x (apply_to n m t) = record {
  limit = x.limit;
  labels = with_modal x.labels m;
  eigens = x.eigens;
  spares = x.spares;
  terms = with_arg x.terms t;
  steps = x.steps ++ numbered_use n (numbered_modal (with_modal x.labels m) m) (numbered_arg (with_arg x.terms t) t) ∷ [];
}
put_step x (close n k) = record { limit = x.limit; labels = x.labels; eigens = x.eigens; spares = x.spares; terms = x.terms; steps = x.steps ++ numbered_axiom n k ∷ [] }

abbrev pub put_line : NumberedDerivation → BodyLine → NumberedDerivation
put_line x (of_eigen e) = put_eigen x e
put_line x (of_spare s) = put_spare x s
put_line x (of_step y) = put_step x y
put_line x last = x

-- a derivation with these names and steps
abbrev pub derivation_with : ℕ → List EigenName → List SpareName → List Step → Derivation
derivation_with limit es ss xs = record { limit = limit; names = record { eigens = es; spares = ss }; steps = xs }

-- nothing is listed yet
abbrev pub empty_of : ℕ → NumberedDerivation
empty_of limit = record { limit = limit; labels = []; eigens = []; spares = []; terms = []; steps = [] }
