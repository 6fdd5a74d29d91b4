use Rattle.std.proofs.Common.{Err, ap}
use Rattle.calculus.specs.TableauText.{tableau_rejected}
use Rattle.leancop_top.proofs.Ends.{line-counted, line-ends}
use Rattle.leancop_top.proofs.Tableaux.{judged-in, stated-in, stated-limit}
use Rattle.leancop_top.specs.Commands.Convert.{ConvertEnds, converted, rejected}
use Rattle.leancop_top.specs.declared.status.Status.TheVariants.{TableauRejected}
use Rattle.tableau_core.specs.Numbered.TableauView.{the_tableau}
use Rattle.leancop_top.proofs.commands.convert.convert.Goals as goal

pub derivation_text-requires-clause-closed : goal.derivation_text-requires-clause-closed
derivation_text-requires-clause-closed c = c.in-Ok.ensures.closed.closed

pub derivation_text-requires-clause-limit : goal.derivation_text-requires-clause-limit
derivation_text-requires-clause-limit c =
    stated-limit c.args.problem.now (the_tableau c.in-Ok.tableau) c.in-Ok.limit c.args.bytes.now c.in-Ok.ensures.closed

pub returns-in_ok-output-in-Ok-clause-ends : goal.returns-in_ok-output-in-Ok-clause-ends
returns-in_ok-output-in-Ok-clause-ends c = λ told name held.
    let P = c.args.problem.now in
    let t = the_tableau c.in-Ok.tableau in
    converted c.in_ok-output-in-Ok.output.items (record {
      given = t;
      limit = c.in-Ok.limit;
      accepted = stated-in told P name t c.in-Ok.limit c.args.bytes.now c.symbols-symbols.ensures.well held c.in-Ok.ensures.closed;
      written = c.in_ok-output-in-Ok.ensures;
    })

pub returns-in-Err-Bad-clause-ends : goal.returns-in-Err-Bad-clause-ends
returns-in-Err-Bad-clause-ends c = λ told name held.
    let P = c.args.problem.now in
    let line = c.in-Err-Bad.line in
    let fault = c.in-Err-Bad.fault in
    line-ends (ConvertEnds told P name) (TableauRejected line fault) c.line_reply.result c.line_reply.ensures.same c.line_reply.ensures.line
    (rejected line fault (judged-in told P name c.args.bytes.now (tableau_rejected line fault) c.symbols-symbols.ensures.well held (c.in-Err-Bad.ensures.bad line fault (ap Err c.in-Err-Bad.field-0-is))))

pub returns-in-Err-Bad-clause-counted : goal.returns-in-Err-Bad-clause-counted
returns-in-Err-Bad-clause-counted c = λ m n f g after.
    line-counted m n f g after (TableauRejected c.in-Err-Bad.line c.in-Err-Bad.fault) c.line_reply.result c.line_reply.ensures.same tt
