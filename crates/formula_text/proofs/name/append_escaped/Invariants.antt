use Rattle.std.proofs.Common.{◌≡◌, ◌++◌, drop}
use Rattle.std.specs.List.{flat_map}
use Rattle.calculus.specs.Text.{escaped}
use Rattle.formula_text.specs.Extends.{Extends}
use Rattle.formula_text.proofs.name.append_escaped.Given as goal

abbrev pub invariant-loop-byte : goal.invariant-loop-byte
invariant-loop-byte l =
    (l.out.items ++ flat_map escaped (drop l.byte-index l.name) ≡ l.fn.out.items ++ flat_map escaped l.name)
    × Extends l.fn.out.items l.out.items
