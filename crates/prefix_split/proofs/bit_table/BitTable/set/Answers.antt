use Rattle.prefix_split.proofs.TableLaws.{one-holds}
use Rattle.prefix_split.proofs.bit_table.BitTable.set.Goals as goal

pub returns : goal.returns
returns c = λ value r related h. c.or_word.ensures value r (one-holds value r c.args.u c.args.v related) h
