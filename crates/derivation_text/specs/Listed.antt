-- Numbers of labels and terms that are listed.
use Rattle.std.specs.Prelude.{ℕ, Bool, true, ◌&&◌}
use Rattle.calculus.specs.Versions.{NumberedEigen, NumberedSpare, NumberedModal, no_numbered_modal, to_number, by_character, NumberedTerm, no_numbered_term, by_number, by_eigen, NumberedStep, numbered_use, numbered_axiom, is_among, numbered_home_is_written}

-- of so many labels
abbrev pub has_home_among : ℕ → NumberedEigen → Bool
has_home_among labels x = is_among labels x.home

abbrev pub may_have_home_among : ℕ → NumberedSpare → Bool
may_have_home_among labels x = numbered_home_is_written labels x.home

abbrev pub is_modal_listed : ℕ → NumberedModal → Bool
is_modal_listed labels no_numbered_modal = true
is_modal_listed labels (to_number k) = is_among labels k
is_modal_listed labels (by_character n) = true

abbrev pub is_arg_listed : ℕ → NumberedTerm → Bool
is_arg_listed terms no_numbered_term = true
is_arg_listed terms (by_number k) = is_among terms k
is_arg_listed terms (by_eigen n) = true

-- of so many labels and terms
abbrev pub are_listed : ℕ → ℕ → NumberedStep → Bool
are_listed labels terms (numbered_use n m t) = is_modal_listed labels m && is_arg_listed terms t
are_listed labels terms (numbered_axiom n k) = true
