use Rattle.std.proofs.Common.{◌≡◌, ◌++◌, drop, false}
use Rattle.tptp_reader.specs.Expecting as way
use Rattle.tptp_reader.proofs.term_reader.unquoted.Given as goal

abbrev pub invariant-loop-byte : goal.invariant-loop-byte
invariant-loop-byte l = l.bytes.items ++ way.name_in l.paired (drop l.byte-index l.after) ≡ way.name_in false (way.without_quote l.fn.quoted)
