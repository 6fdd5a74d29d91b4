use Rattle.std.proofs.Common.{◌∙◌, ◌++◌, ap, subst, sym}
use Rattle.prefix_split.specs.LengthLists.{IsFirst, least_list}
use Rattle.prefix_split.proofs.LengthListLaws.{first-list}
use Rattle.prefix_split.proofs.next_lengths.first_lengths.Goals as goal

pub returns : goal.returns
returns c =
    let x = c.args.range.least in
    let p = c.args.range.spread in
    let n = c.args.count in
    subst (IsFirst x p n) (sym (c.in_ok-push_least.ensures ∙ ap (λ xs. xs ++ least_list x p n 0) c.new-lengths.ensures.items)) (first-list x p n)
