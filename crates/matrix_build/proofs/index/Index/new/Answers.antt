use Rattle.std.proofs.Common.{◌≤◌, arith, length}
use Rattle.matrix_build.proofs.FewLaws.{few-item}
use Rattle.matrix_build.proofs.index.Index.new.Goals as goal

pub add_clause-requires : goal.add_clause-requires
add_clause-requires c =
    let h : length c.index-clauses-number.result.template.literals ≤ 8000000 =
    few-item c.args.clauses.now c.loop-number.number c.index-clauses-number.result c.index-clauses-number.result (omega arith) c.index-clauses-number.is c.requires.literals in
    omega (arith, h)
