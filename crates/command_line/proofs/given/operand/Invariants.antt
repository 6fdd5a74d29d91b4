use Rattle.std.proofs.Common.{◌≡◌, ◌+◌, drop, map, string_bytes}
use Rattle.command_line.specs.CommandLine.{item, operands}
use Rattle.command_line.proofs.given.operand.Given as goal

abbrev pub invariant-loop-word : goal.invariant-loop-word
invariant-loop-word l =
    (item (operands l.place (map string_bytes (drop l.word-index l.words))) l.left
    ≡ item (operands 2 (map string_bytes l.words)) l.before)
    × (l.place ≡ 2 + l.word-index)
