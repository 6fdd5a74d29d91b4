use Rattle.std.proofs.Common.{◌≡◌, drop, false}
use Rattle.formula_text.specs.Quoted.{quoted_at, with_front}
use Rattle.formula_text.proofs.name_reader.read_characters.Given as goal

abbrev pub invariant-loop-i : goal.invariant-loop-i
invariant-loop-i l = with_front l.name.items (quoted_at l.pending (drop l.i l.text)) ≡ quoted_at false (drop l.fn.from l.text)
