use Rattle.std.proofs.Common.{refl}
use Rattle.logic_rules.proofs.ProblemFacts.{kept}
use Rattle.formula_text.proofs.Passing.{error-passed}
use Rattle.tableau_text.proofs.MoveFaults.{fault-no_start, fault-start, start-read}
use Rattle.tableau_text.proofs.ReadLaws.{no-start_chosen}
use Rattle.tableau_text.specs.MovesView.{the_chosen}
use Rattle.tableau_text.proofs.reader.read_start.Goals as goal

pub read_chosen-requires-clause-distinct : goal.read_chosen-requires-clause-distinct
read_chosen-requires-clause-distinct c = rw c.symbols-symbols.ensures.symbols (kept c.args.problem.now c.requires.well).distinct

pub read_chosen-requires-clause-fits : goal.read_chosen-requires-clause-fits
read_chosen-requires-clause-fits c = rw c.symbols-symbols.ensures.symbols (kept c.args.problem.now c.requires.well).symbols

pub returns-clause-ok : goal.returns-clause-ok
returns-clause-ok c =
    start-read c.args.problem.now c.args.bytes.now c.args.from c.in-Some.to c.args.limit (the_chosen c.read_chosen.new.table c.in_ok-start.start) c.in-Some.line.now c.in-Some-rest_after.rest.now c.requires.head c.in-Some.ensures.some c.in-Some-rest_after.ensures.some (rw c.symbols-symbols.ensures.symbols at c.in_ok-start.ensures.ok)

pub returns-in_default-clause-none : goal.returns-in_default-clause-none
returns-in_default-clause-none c = λ _. fault-no_start c.args.problem.now c.requires.well c.args.bytes.now c.args.from c.args.limit c.requires.head (c.in_default.ensures.none refl)

pub returns-in_default-rest_after-clause-none : goal.returns-in_default-rest_after-clause-none
returns-in_default-rest_after-clause-none c = λ _.
    fault-start c.args.problem.now c.requires.well c.args.bytes.now c.args.from c.in-Some.to c.args.limit c.in-Some.line.now c.requires.head c.in-Some.ensures.some (λ i g h. c.in_default-rest_after.ensures.none refl _ h)

pub returns-in_err-start-clause-none : goal.returns-in_err-start-clause-none
returns-in_err-start-clause-none c = λ e.
    fault-start c.args.problem.now c.requires.well c.args.bytes.now c.args.from c.in-Some.to c.args.limit c.in-Some.line.now c.requires.head c.in-Some.ensures.some
    (no-start_chosen c.args.problem.now.symbols c.in-Some.line.now c.in-Some-rest_after.rest.now c.in-Some-rest_after.ensures.some
    (rw c.symbols-symbols.ensures.symbols at (c.in_err-start.ensures.none (error-passed c.from_residual.result c.in_err-start.field-0.0 _ c.from_residual.ensures.1 e))))
