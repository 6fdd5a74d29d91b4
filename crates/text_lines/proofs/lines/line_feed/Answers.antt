use Rattle.std.proofs.Common.{◌≡◌, suc, ◌∙◌, ◌+◌, ◌<◌, ◌∷◌, ℕ, List, [], length, take, drop, get_or, ap, subst, add-one, drop-cons, arith}
use Rattle.std.proofs.Math.Seq.{take-length}
use Rattle.calculus.specs.FirstWrong.{whole_lines}
use Rattle.text_lines.proofs.LineFeeds.{NoFeed}
use Rattle.text_lines.proofs.WholeLines.{at-feed, no-line}
use Rattle.text_lines.proofs.lines.line_feed.Goals as goal

feed-here : (bytes : List ℕ) (i : ℕ) → i < length bytes → get_or bytes i 0 ≡ 10 → drop i bytes ≡ 10 ∷ drop (i + 1) bytes
feed-here bytes i h e = rw add-one (drop-cons bytes i 0 h ∙ ap (λ (b : ℕ). b ∷ drop (suc i) bytes) e)

no-feed_at_all : (bytes : List ℕ) (i : ℕ) → i ≡ length bytes → NoFeed (take i bytes) → whole_lines bytes ≡ []
no-feed_at_all bytes i e h = no-line bytes (subst NoFeed (take-length bytes) (subst (λ k. NoFeed (take k bytes)) e h))

pub returns-then-byte-eq10-clause-some : goal.returns-then-byte-eq10-clause-some
returns-then-byte-eq10-clause-some c = at-feed c.args.text.now c.loop-i.i c.loop-i.invariant (feed-here c.args.text.now c.loop-i.i c.loop-i-test.true c.if-byte-eq10.true)

pub returns-clause-none : goal.returns-clause-none
returns-clause-none c = λ _. no-feed_at_all c.args.text.now c.loop-i.i (omega arith) c.loop-i.invariant
