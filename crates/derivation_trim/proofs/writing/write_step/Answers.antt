use Rattle.std.proofs.Common.{◌++◌, ◌∙◌, ap, reverse}
use Rattle.sequent_calc.specs.StepView.{the_step}
use Rattle.trim_theory.specs.Writing.{numbered, put_if}
use Rattle.derivation_trim.proofs.WriteLaws.{written-one}
use Rattle.derivation_trim.proofs.writing.write_step.Goals as goal

pub returns : goal.returns
returns c = λ ms xs.
    let x = the_step c.args.step.now in
    written-one c.args.mark x ms xs c.args.out.now c.put.new.out c.args.table.now.items c.resume.new.table.items c.go_on.new.table.items (reverse c.args.forks.now.items) (reverse c.resume.new.forks.items) (reverse c.go_on.new.forks.items)
    c.in_ok-resume.ensures.table c.in_ok-resume.ensures.forks c.in_ok-go_on.ensures.table c.in_ok-go_on.ensures.forks
    (λ rest. c.in_ok-put.ensures rest ∙ ap (λ t. c.args.out.now ++ put_if c.args.mark.is_left (numbered t x) rest) c.as_slice.ensures.value)
