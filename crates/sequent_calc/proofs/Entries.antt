-- Entries are numbered from 1.
use Rattle.std.proofs.Common.{◌≡◌, ◌≢◌, ℕ, zero, suc, ◌-◌, ◌∙◌, List, map, Option, refl, sym, ap, arith, slice_get}
use Rattle.std.specs.Option.{option_map}
use Rattle.std.proofs.lemmas.Option.{slice_get-map}
use Rattle.calculus.specs.Calculus.{entry_of}
use Rattle.calculus.specs.Derivations as derivation
use Rattle.sequent_calc.specs.EntryView.{the_entry}
use Rattle.sequent_calc.specs.declared.entry.Entry.{Entry}

pub entry_of-above : (s : derivation.Sequent) (n : ℕ) → n ≢ 0 → entry_of s n ≡ slice_get s (n - 1)
entry_of-above s zero h = absurd (h refl)
entry_of-above s (suc k) h = let e : k ≡ suc k - 1 = omega arith in ap (slice_get s) e

-- what stands at the place before the number
pub entry_of-found : (es : List Entry) (n : ℕ) (found : Option Entry) → n ≢ 0 → found ≡ slice_get es (n - 1) → option_map the_entry found ≡ entry_of (map the_entry es) n
entry_of-found es n found h e = ap (option_map the_entry) e ∙ sym (slice_get-map the_entry es (n - 1)) ∙ sym (entry_of-above (map the_entry es) n h)
