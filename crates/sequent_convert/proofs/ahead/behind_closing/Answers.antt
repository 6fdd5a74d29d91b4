use Rattle.std.proofs.Common.{◌≡◌, ◌++◌, arith, drop, refl, slice_index_or, subst}
use Rattle.tableau_core.specs.Numbered.ClosingView.{the_closing}
use Rattle.sequent_convert.specs.ByNumber.AheadView.{closing_sizes, sizes_in_all}
use Rattle.sequent_convert.proofs.ByNumber.SizeLaws.{size-at}
use Rattle.sequent_convert.proofs.ahead.behind_closing.Goals as goal

pub overflow_add-result : goal.overflow_add-result
overflow_add-result c =
    let row = subst (λ x. drop c.args.place c.args.sizes.now ≡ closing_sizes (the_closing x) ++ c.requires.0) c.in-Extend.is c.requires.1 in
    let fits = (size-at c.args.sizes.now c.args.place (sizes_in_all c.in-Extend.goals) c.requires.0 (slice_index_or c.args.sizes.now c.args.place 0) 0 row refl).2 in
    omega (arith, fits)
