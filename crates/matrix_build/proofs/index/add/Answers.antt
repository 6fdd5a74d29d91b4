use Rattle.std.proofs.Common.{◌∙◌, ◌++◌, ap}
use Rattle.matrix_build.specs.MatrixView.{if_equal, the_place}
use Rattle.matrix_build.proofs.Rows.{placed}
use Rattle.matrix_build.proofs.index.add.Goals as goal

pub returns : goal.returns
returns c = λ n. placed c.reach.new.rows.items c.args.number c.index_mut-row.result.now (record { items = c.push.new.self }) c.args.place n c.in_ok-reach.ensures.enough c.index_mut-row.ensures.value c.in_ok-push.ensures.items ∙ ap (λ ps. ps ++ if_equal c.args.number n (the_place c.args.place)) (c.in_ok-reach.ensures.same n)
