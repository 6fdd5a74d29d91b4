use Rattle.std.proofs.Common.{Some, [], ◌∷◌, ◌∙◌, subst}
use Rattle.command_line.specs.CommandView.{the_bounds, the_generated_problem}
use Rattle.leancop_top.proofs.Made.{by_reading, read_text}
use Rattle.leancop_top.specs.Commands.Make.{made_file, made_files}
use Rattle.leancop_top.specs.Reading.{IsReading, IsReadingCounted}
use Rattle.leancop_top.proofs.commands.make.status_of_text.Goals as goal

pub returns-in-Read : goal.returns-in-Read
returns-in-Read c =
    let g = the_generated_problem c.args.generated in
    let reading = read_text g c.in_ok-name.name c.args.text.items (c.in_ok-name.ensures ∙ c.as_bytes.ensures.value) c.requires c.in_ok-problem.field-0 (c.in_ok-problem.ensures.reading (Some ((c.in_ok-name.name, c.args.text.items) ∷ [])) c.in_ok-problem.ensures.reads_on) in
    c.prove_made.ensures g (subst (IsReading (Some (made_files g)) (made_file g)) c.in-Read.is reading)

pub returns : goal.returns
returns c =
    let g = the_generated_problem c.args.generated in
    let reading = read_text g c.in_ok-name.name c.args.text.items (c.in_ok-name.ensures ∙ c.as_bytes.ensures.value) c.requires c.in_ok-problem.field-0 (c.in_ok-problem.ensures.reading (Some ((c.in_ok-name.name, c.args.text.items) ∷ [])) c.in_ok-problem.ensures.reads_on) in
    by_reading g (the_bounds c.args.bounds) _ _ _ c.in-Refused.status
    (subst (IsReading (Some (made_files g)) (made_file g)) c.in-Refused.is reading)
    (subst (IsReadingCounted _ _ 0 0 _) c.in-Refused.is c.in_ok-problem.ensures.counted)
