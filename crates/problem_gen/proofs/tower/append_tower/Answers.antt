use Rattle.std.proofs.Common.{◌++◌, ◌∙◌, ap}
use Rattle.problem_gen.proofs.Texts.{next, tower-pieces}
use Rattle.problem_gen.proofs.tower.append_tower.Goals as goal

pub returns : goal.returns
returns c =
    next _ _ _ _ _ (next _ _ _ _ _ c.in_ok-append_item.ensures c.in_ok-append_repeated.ensures) c.in_ok-append_bytes.ensures
    ∙ ap (λ l. c.args.out.now.items ++ l) (tower-pieces c.args.word.now c.args.boxes)
