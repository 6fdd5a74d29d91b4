use Rattle.std.proofs.Common.{◌≡◌, drop, map, string_bytes}
use Rattle.std.specs.List.{list_any}
use Rattle.command_line.specs.CommandLine.{gives}
use Rattle.command_line.proofs.good_words.gives_any.Given as goal

abbrev pub invariant-loop-option : goal.invariant-loop-option
invariant-loop-option l =
    list_any (gives (map string_bytes l.before) l.word) (drop l.option-index l.options)
    ≡ list_any (gives (map string_bytes l.before) l.word) l.options
