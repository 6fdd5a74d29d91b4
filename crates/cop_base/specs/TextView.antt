-- The bytes of a text of the program.
use Rattle.std.specs.Prelude.{ℕ, List, ◌≤◌, ⊤, take}
use Rattle.cop_base.specs.declared.text.Stored.{Stored}
use Rattle.cop_base.specs.declared.text.Stored.TheVariants.{Short, Long}

abbrev pub stored_bytes : Stored → List ℕ
stored_bytes (Short bytes len) = take len bytes
stored_bytes (Long bytes) = bytes.items

-- there are so many bytes in the array
abbrev pub has_bytes : Stored → Type 0
has_bytes (Short bytes len) = len ≤ 23
has_bytes (Long bytes) = ⊤
