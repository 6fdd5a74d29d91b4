use Rattle.std.proofs.Common.{◌++◌, ◌∙◌, ap, drop, subst, sym, take}
use Rattle.conversion_theory.specs.Leading.{End}
use Rattle.sequent_convert.specs.AheadView.{ends_sizes}
use Rattle.sequent_convert.specs.ByNumber.AheadView.{the_ends}
use Rattle.sequent_convert.specs.ByNumber.RunView.{the_source, the_table}
use Rattle.sequent_convert.proofs.SizesAhead.{row-first, sizes-split}
use Rattle.sequent_convert.proofs.parts.parts_at.Goals as goal

pub behind-next-requires : goal.behind-next-requires
behind-next-requires c =
    let ls = the_table c.args.source.now in
    let es = the_ends ls c.args.ahead.now.ends in
    let n = c.literals_among-literals.result in
    let h = c.requires.ahead in (
      ls,
      ends_sizes (drop n es) ++ h.behind,
      row-first (ends_sizes es) (ends_sizes (take n es)) (ends_sizes (drop n es)) h.behind (drop c.args.ahead.now.instance c.args.source.now.sizes.now) h.sized (sizes-split n es)
          ∙ ap (λ fs. ends_sizes fs ++ (ends_sizes (drop n es) ++ h.behind)) (sym (c.take-ends.ensures ls)),
    )
