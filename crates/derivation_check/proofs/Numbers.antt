-- Entries are numbered from 1, and what stands at a number.
use Rattle.std.proofs.Common.{◌≡◌, ◌≢◌, ℕ, ◌-◌, ◌<◌, ◌≤◌, ◌∙◌, List, length, get_or, map, None, Some, refl, ap}
use Rattle.std.specs.Option.{option_map}
use Rattle.std.proofs.lemmas.Option.{slice_get-map, slice_get_past, slice_get_read}
use Rattle.sequent_calc.proofs.Entries.{entry_of-above}
use Rattle.calculus.specs.Calculus.{entry_of}
use Rattle.derivation_check.specs.StateView.{IsNumbered}
use Rattle.derivation_check.specs.declared.open_sequents.BranchEntry.{BranchEntry}

pub numbered-zero : (xs : List BranchEntry) (n : ℕ) → n ≡ 0 → IsNumbered xs n None
numbered-zero xs n e = λ f. ap (entry_of (map f xs)) e

pub numbered-past : (xs : List BranchEntry) (n : ℕ) → n ≢ 0 → length xs ≤ n - 1 → IsNumbered xs n None
numbered-past xs n h le = λ f. entry_of-above (map f xs) n h ∙ slice_get-map f xs (n - 1) ∙ ap (option_map f) (slice_get_past xs (n - 1) le)

pub numbered-some : (xs : List BranchEntry) (n : ℕ) (x : BranchEntry) → n ≢ 0 → n - 1 < length xs → x ≡ get_or xs (n - 1) x → IsNumbered xs n (Some x)
numbered-some xs n x h lt at =
    ((n - 1, lt, at), λ f. entry_of-above (map f xs) n h ∙ slice_get-map f xs (n - 1) ∙ ap (option_map f) (slice_get_read xs (length xs) (n - 1) x refl lt at))
