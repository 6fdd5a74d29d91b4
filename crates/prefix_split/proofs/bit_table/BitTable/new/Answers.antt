use Rattle.std.proofs.Common.{◌+◌, ◌/◌, subst, sym}
use Rattle.prefix_split.proofs.TableLaws.{WordsHold, zeros-hold}
use Rattle.prefix_split.proofs.bit_table.BitTable.new.Goals as goal

pub returns : goal.returns
returns c = λ value r.
    let width = c.args.count / 64 + 1 in
    subst (λ words. WordsHold value r words width) (sym (c.in_ok-words.ensures.items_if_clones_equal (λ y e. e))) (zeros-hold value r c.saturating_mul.result width)
