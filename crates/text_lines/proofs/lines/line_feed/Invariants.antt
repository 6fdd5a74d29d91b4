use Rattle.std.proofs.Common.{take}
use Rattle.text_lines.proofs.LineFeeds.{NoFeed}
use Rattle.text_lines.proofs.lines.line_feed.Given as goal

abbrev pub invariant-loop-i : goal.invariant-loop-i
invariant-loop-i l = NoFeed (take l.i l.text)
