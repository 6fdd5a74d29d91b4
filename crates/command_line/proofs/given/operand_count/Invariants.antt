use Rattle.std.proofs.Common.{◌≡◌, ◌≤◌, ◌+◌, drop, length, map, string_bytes}
use Rattle.command_line.specs.CommandLine.{operands}
use Rattle.command_line.proofs.given.operand_count.Given as goal

abbrev pub invariant-loop-word : goal.invariant-loop-word
invariant-loop-word l =
    (l.count + length (operands (2 + l.word-index) (map string_bytes (drop l.word-index l.words)))
    ≡ length (operands 2 (map string_bytes l.words)))
    × (l.count ≤ l.word-index)
