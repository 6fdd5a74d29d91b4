use Rattle.std.proofs.Common.{◌++◌, ◌∙◌, ap}
use Rattle.problem_gen.proofs.Texts.{next, chain-pieces}
use Rattle.problem_gen.proofs.chain.append_chain.Goals as goal

pub returns : goal.returns
returns c =
    next _ _ _ _ _ (next _ _ _ _ _ c.in_ok-append_item.ensures c.in_ok-append_links.ensures) c.in_ok-append_goal.ensures
    ∙ ap (λ l. c.args.out.now.items ++ l) (chain-pieces c.args.word.now c.args.links)
