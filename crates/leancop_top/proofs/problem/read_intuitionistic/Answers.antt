use Rattle.std.proofs.Common.{subst}
use Rattle.std.specs.Prelude.{IfOk}
use Rattle.leancop_top.specs.Reading.{IsReadIn, IsReading}
use Rattle.problem_build.specs.Fetching.{ReadsOnly}
use Rattle.leancop_top.specs.Opening.{IsOfProblem}
use Rattle.leancop_top.proofs.problem.read_intuitionistic.Goals as goal

pub returns-clause-reading : goal.returns-clause-reading
returns-clause-reading g c = λ told w.
    subst (λ p. IfOk c.read_problem.result (λ r. IsReading told p r)) c.problem_file.ensures (c.read_problem.ensures.reading told w)

pub returns-clause-setting : goal.returns-clause-setting
returns-clause-setting g c =
    subst (λ p. IfOk c.read_problem.result (λ r. IsReadIn p.setting r)) c.problem_file.ensures c.read_problem.ensures.setting

pub returns-clause-reads_only : goal.returns-clause-reads_only
returns-clause-reads_only g c = λ files w.
    subst (λ p. ReadsOnly (IsOfProblem files p) (g.L.Library.reads c.args.lib.now) (g.L.Library.reads c.read_problem.new.lib)) c.problem_file.ensures (c.read_problem.ensures.reads_only files w)
