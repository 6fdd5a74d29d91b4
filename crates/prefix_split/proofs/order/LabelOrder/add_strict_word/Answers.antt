use Rattle.prefix_split.specs.declared.order.Relation.TheVariants.{Strict, Weak}
use Rattle.prefix_split.proofs.TableLaws.{word-joined}
use Rattle.prefix_split.proofs.order.LabelOrder.add_strict_word.Goals as goal

pub returns : goal.returns
returns c = λ value s h. record {
  above = c.or_word.ensures value Weak (word-joined value Weak Weak c.args.x c.args.v c.args.k c.word-above.result s.0 (c.word-above.ensures value Weak h.above)) h.above;
  shorter = c.or_word-2.ensures value Strict (word-joined value Strict Weak c.args.x c.args.v c.args.k c.word-above.result s (c.word-above.ensures value Weak h.above)) h.shorter;
  possible = h.possible;
}
