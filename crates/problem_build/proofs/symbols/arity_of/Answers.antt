use Rattle.std.proofs.Common.{arith}
use Rattle.tptp_reader.specs.Lists.{terms_tree}
use Rattle.problem_build.proofs.ListLaws.{arguments-counted}
use Rattle.problem_build.proofs.NameCountLaws.{arguments-few}
use Rattle.problem_build.proofs.symbols.arity_of.Goals as goal

pub overflow_cast-result : goal.overflow_cast-result
overflow_cast-result c =
    let h = arguments-counted c.items.result.now c.args.args.now c.items.ensures in
    let k = arguments-few (terms_tree c.args.args.now) in
    omega (arith, h, k, c.requires)

pub returns : goal.returns
returns c = arguments-counted c.items.result.now c.args.args.now c.items.ensures
