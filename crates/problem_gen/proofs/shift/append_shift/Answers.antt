use Rattle.std.proofs.Common.{◌++◌, ◌∙◌, ap}
use Rattle.problem_gen.proofs.Texts.{next, shift-pieces}
use Rattle.problem_gen.proofs.shift.append_shift.Goals as goal

pub returns : goal.returns
returns c =
    next _ _ _ _ _ (next _ _ _ _ _ c.in_ok-append_item.ensures c.in_ok-append_item-2.ensures) c.in_ok-append_goal.ensures
    ∙ ap (λ l. c.args.out.now.items ++ l) (shift-pieces c.args.word.now c.args.applications)
