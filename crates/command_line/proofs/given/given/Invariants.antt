use Rattle.std.proofs.Common.{◌≡◌, ◌+◌, drop, map, string_bytes}
use Rattle.command_line.specs.CommandLine.{given}
use Rattle.command_line.proofs.given.given.Given as goal

abbrev pub invariant-loop-word : goal.invariant-loop-word
invariant-loop-word l =
    (given l.option l.place (map string_bytes (drop l.word-index l.words))
    ≡ given l.option 2 (map string_bytes l.words))
    × (l.place ≡ 2 + l.word-index)
