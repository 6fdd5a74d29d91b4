use Rattle.std.proofs.Common.{◌≡◌, [], drop, map, string_bytes, take}
use Rattle.command_line.specs.CommandLine.{first_bad}
use Rattle.command_line.proofs.good_words.first_bad.Given as goal

abbrev pub invariant-loop-index : goal.invariant-loop-index
invariant-loop-index l =
    first_bad l.command (map string_bytes (take l.index l.words)) (map string_bytes (drop l.index l.words))
    ≡ first_bad l.command [] (map string_bytes l.words)
