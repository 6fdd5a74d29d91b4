use Rattle.std.proofs.Common.{◌∷◌, ◌++◌, [], ◌∙◌, ap, sym}
use Rattle.tableau_core.specs.Numbered.Closings as numbered
use Rattle.tableau_core.proofs.Numbered.ClosingLaws.{closings-in}
use Rattle.sequent_convert.specs.AheadView.{sizes_of_all}
use Rattle.sequent_convert.specs.ByNumber.AheadView.{sizes_in_all}
use Rattle.sequent_convert.proofs.ByNumber.SizeLaws.{closings-sized}
use Rattle.sequent_convert.proofs.sizes.sizes_of.Goals as goal

pub returns : goal.returns
returns c =
    c.in_ok-put_all.ensures
    ∙ ap (λ ns. ns ++ sizes_in_all c.args.t.now.goals) (c.in_ok-push.ensures.items ∙ ap (λ ns. ns ++ 0 ∷ []) c.new-sizes.ensures.items)
    ∙ ap (λ ns. 0 ∷ ns) (sym (closings-sized c.args.t.now.table (numbered.closings_tree c.args.t.now.goals)) ∙ ap sizes_of_all (closings-in c.args.t.now.table c.args.t.now.goals))
