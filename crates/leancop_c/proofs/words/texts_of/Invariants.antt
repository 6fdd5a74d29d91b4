use Rattle.std.proofs.Common.{◌≡◌, drop, map, string_bytes, take}
use Rattle.leancop_c.specs.GivenFiles.{the_bytes}
use Rattle.leancop_c.specs.Ran.{are_texts}
use Rattle.leancop_c.proofs.words.texts_of.Given as goal

abbrev pub invariant-loop-word : goal.invariant-loop-word
invariant-loop-word l =
    (map string_bytes l.texts.items ≡ map the_bytes (take l.word-index l.words))
    × (are_texts (map the_bytes (drop l.word-index l.words)) ≡ are_texts (map the_bytes l.words))
