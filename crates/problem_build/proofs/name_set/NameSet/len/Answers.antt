use Rattle.std.proofs.Common.{arith}
use Rattle.std.proofs.lemmas.List.{length-append}
use Rattle.problem_build.proofs.name_set.NameSet.len.Goals as goal

pub returns : goal.returns
returns c =
    rw (← c.self.view_is)
    (omega (arith, length-append c.self.inside.few.items c.self.inside.more.keys, c.len.ensures, c.len-2.ensures.len, c.self.inside.few.ok.0))
