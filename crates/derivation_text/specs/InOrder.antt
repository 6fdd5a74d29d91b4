-- Whether the numbers of labels and terms come in the order of their first occurrence.
use Rattle.std.specs.Prelude.{ℕ, suc, List, [], ◌∷◌, ◌++◌, map, Option, None, Some, nat_le, ◌==◌, if◌then◌else◌}
use Rattle.std.specs.List.{flat_map}
use Rattle.calculus.specs.Versions.{NumberedDerivation, NumberedEigen, NumberedSpare, NumberedModal, no_numbered_modal, to_number, by_character, NumberedTerm, no_numbered_term, by_number, by_eigen, NumberedStep, numbered_use, numbered_axiom}

-- each number is one that came, or the next. `seen` is the greatest that came; the answer is the greatest of all
abbrev pub greatest_in_order : ℕ → List ℕ → Option ℕ
greatest_in_order seen [] = Some seen
greatest_in_order seen (k ∷ ks) = if nat_le k seen then greatest_in_order seen ks else (if k == suc seen then greatest_in_order (suc seen) ks else None)

-- the same behind those for which the greatest is told
abbrev pub greatest_from : Option ℕ → List ℕ → Option ℕ
greatest_from None ks = None
greatest_from (Some seen) ks = greatest_in_order seen ks

abbrev pub home_numbers : Option ℕ → List ℕ
home_numbers None = []
home_numbers (Some k) = k ∷ []

abbrev pub modal_numbers : NumberedModal → List ℕ
modal_numbers no_numbered_modal = []
modal_numbers (to_number k) = k ∷ []
modal_numbers (by_character n) = []

abbrev pub arg_numbers : NumberedTerm → List ℕ
arg_numbers no_numbered_term = []
arg_numbers (by_number k) = k ∷ []
arg_numbers (by_eigen n) = []

abbrev pub step_label_numbers : NumberedStep → List ℕ
step_label_numbers (numbered_use n m t) = modal_numbers m
step_label_numbers (numbered_axiom n k) = []

abbrev pub step_term_numbers : NumberedStep → List ℕ
step_term_numbers (numbered_use n m t) = arg_numbers t
step_term_numbers (numbered_axiom n k) = []

abbrev pub eigen_numbers : List NumberedEigen → List ℕ
eigen_numbers es = map (λ (y : NumberedEigen). y.home) es

abbrev pub spare_numbers : List NumberedSpare → List ℕ
spare_numbers ss = flat_map (λ (y : NumberedSpare). home_numbers y.home) ss

-- the numbers of labels, those of the homes before those of the steps
abbrev pub label_numbers : NumberedDerivation → List ℕ
label_numbers x = eigen_numbers x.eigens ++ spare_numbers x.spares ++ flat_map step_label_numbers x.steps

abbrev pub term_numbers : NumberedDerivation → List ℕ
term_numbers x = flat_map step_term_numbers x.steps
