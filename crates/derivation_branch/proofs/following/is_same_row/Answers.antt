use Rattle.std.proofs.Common.{◌≡◌, ◌++◌, ◌∙◌, ap, sym}
use Rattle.formula_text.specs.Rows.{row_of}
use Rattle.derivation_branch.proofs.FollowingLaws.{some-then}
use Rattle.derivation_branch.proofs.following.is_same_row.Goals as goal

pub returns : goal.returns
returns c = λ t u first second.
    c.is_whole.ensures.told t u
    (some-then (λ r. c.args.first.now ≡ c.args.second.now ++ r.now) (λ r. row_of t ≡ row_of u ++ r.now) c.after_items.result (λ r e. sym first ∙ e ∙ ap (λ l. l ++ r.now) second) c.after_items.ensures.some)
    (λ n r e. c.after_items.ensures.none n r (first ∙ e ∙ ap (λ l. l ++ r) (sym second)))
