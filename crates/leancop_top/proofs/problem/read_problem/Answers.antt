use Rattle.std.proofs.Common.{◌∙◌, sym}
use Rattle.command_line.specs.CommandView.{the_problem_file}
use Rattle.leancop_top.proofs.Refusals.{read_as, refused_as}
use Rattle.leancop_top.proofs.Opening.{problem-read}
use Rattle.leancop_top.proofs.problem.read_problem.Goals as goal

pub returns-in-Ok-clause-reading : goal.returns-in-Ok-clause-reading
returns-in-Ok-clause-reading g c = λ told w.
    read_as told _ _ (the_problem_file c.args.file) c.in_ok-name.name c.in_ok-root.root c.in-Ok.problem (c.in_ok-name.ensures ∙ c.as_bytes.ensures.value) (c.in_ok-root.ensures ∙ c.as_bytes-2.ensures.value) w c.in-Ok.ensures.agreeing c.in-Ok.ensures.agreeing_alone

pub returns-in-Some-clause-reading : goal.returns-in-Some-clause-reading
returns-in-Some-clause-reading g c = λ told w.
    refused_as told _ _ (the_problem_file c.args.file) c.in_ok-name.name c.in_ok-root.root c.in-Err.fault c.in-Some.status (c.in_ok-name.ensures ∙ c.as_bytes.ensures.value) (c.in_ok-root.ensures ∙ c.as_bytes-2.ensures.value) w (sym c.in-Some.ensures) c.in-Err.ensures.agreeing c.in-Err.ensures.agreeing_alone c.in-Err.ensures.agreeing_fetched

pub returns-in-Ok-clause-reads_only : goal.returns-in-Ok-clause-reads_only
returns-in-Ok-clause-reads_only g c = λ files w.
    problem-read (the_problem_file c.args.file) c.in_ok-name.name c.in_ok-root.root files _ _ (c.in_ok-name.ensures ∙ c.as_bytes.ensures.value) (c.in_ok-root.ensures ∙ c.as_bytes-2.ensures.value) (c.in-Ok.ensures.reads_only files w)

pub returns-in-Some-clause-reads_only : goal.returns-in-Some-clause-reads_only
returns-in-Some-clause-reads_only g c = λ files w.
    problem-read (the_problem_file c.args.file) c.in_ok-name.name c.in_ok-root.root files _ _ (c.in_ok-name.ensures ∙ c.as_bytes.ensures.value) (c.in_ok-root.ensures ∙ c.as_bytes-2.ensures.value) (c.in-Err.ensures.reads_only files w)

pub returns-clause-reads_only : goal.returns-clause-reads_only
returns-clause-reads_only g c = λ files w.
    problem-read (the_problem_file c.args.file) c.in_ok-name.name c.in_ok-root.root files _ _ (c.in_ok-name.ensures ∙ c.as_bytes.ensures.value) (c.in_ok-root.ensures ∙ c.as_bytes-2.ensures.value) (c.in-Err.ensures.reads_only files w)
