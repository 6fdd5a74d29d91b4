use Rattle.prefix_split.specs.declared.order.Relation.TheVariants.{Strict, Weak}
use Rattle.prefix_split.proofs.TableLaws.{word-joined}
use Rattle.prefix_split.proofs.order.LabelOrder.add_weak_word.Goals as goal

pub returns : goal.returns
returns c = λ value b h. record {
  above = c.or_word.ensures value Weak (word-joined value Weak Weak c.args.x c.args.v c.args.k c.word-above.result b (c.word-above.ensures value Weak h.above)) h.above;
  shorter = c.or_word-2.ensures value Strict (word-joined value Weak Strict c.args.x c.args.v c.args.k c.word-shorter.result b (c.word-shorter.ensures value Strict h.shorter)) h.shorter;
  possible = h.possible;
}
