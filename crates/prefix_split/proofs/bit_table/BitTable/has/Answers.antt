use Rattle.std.proofs.Common.{◌∙◌, ◌≡◌, ◌%◌, sym}
use Rattle.std.specs.Int.{bit_at}
use Rattle.std.proofs.lemmas.Bool.{eqb-true}
use Rattle.std.proofs.lemmas.Nat.Bits.{shr_and_one}
use Rattle.prefix_split.proofs.TableLaws.{bit-holds}
use Rattle.prefix_split.proofs.bit_table.BitTable.has.Goals as goal

pub returns : goal.returns
returns c = λ e value r h.
    let word = c.word-word.result in
    let set : bit_at word (c.args.v % 64) ≡ 1 = sym (shr_and_one word (c.args.v % 64)) ∙ eqb-true _ 1 e in
    bit-holds value r c.args.u c.args.v word (c.word-word.ensures value r h) set
