use Rattle.std.proofs.Common.{◌≡◌, ◌*◌, ◌+◌, ◌<◌, IfSome, arith, bit_or, get_or, length, set, subst, sym}
use Rattle.std.proofs.lemmas.Grind.{get_or_default_zero}
use Rattle.prefix_split.proofs.TableLaws.{WordsHold, set-holds}
use Rattle.prefix_split.proofs.bit_table.BitTable.or_word.Goals as goal

pub returns-in-Some : goal.returns-in-Some
returns-in-Some c =
    let t = c.args.self.now in
    let words = t.words.items in
    let a = c.in-Some.a in
    let p = subst (λ o. IfSome o (λ i. (c.args.k < t.width) × (i ≡ c.args.u * t.width + c.args.k) × (i < length words))) c.in-Some.is c.place.ensures in
    let h = c.index_mut.ensures.value in
    let e : c.index_mut.result.now ≡ get_or words a 0 = grind (arith, get_or_default_zero, p.2, h) in
    λ value r holds before. subst (λ old. WordsHold value r (set words a (bit_or old c.args.word)) t.width) (sym e) (set-holds value r words t.width c.args.u c.args.k a c.args.word p.0 p.1 p.2 holds before)
