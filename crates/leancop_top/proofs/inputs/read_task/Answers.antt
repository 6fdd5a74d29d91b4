use Rattle.std.proofs.Common.{◌∙◌, ap, subst, sym}
use Rattle.std.specs.Prelude.{IfOk}
use Rattle.command_line.specs.CommandView.{the_command}
use Rattle.problem_build.specs.Fetching.{ReadsOnly}
use Rattle.leancop_top.specs.Commands.Transfer.{TransferEnds}
use Rattle.leancop_top.specs.Opening.{IsOfBoth, MayRead}
use Rattle.leancop_top.specs.Reading.{EndsOn}
use Rattle.leancop_top.specs.Run.{Ends}
use Rattle.leancop_top.specs.Statuses.{status_line}
use Rattle.leancop_top.specs.Tasks.{LeadsTo}
use Rattle.leancop_top.specs.declared.status.Status.TheVariants.{BadWords}
use Rattle.leancop_top.specs.declared.task.Task.TheVariants.{Make, Tell}
use Rattle.leancop_top.proofs.inputs.read_task.Goals as goal

pub read_both-requires-in-Transfer : goal.read_both-requires-in-Transfer
read_both-requires-in-Transfer g c = ap (λ p. p.setting.logic) c.problem_file-file.ensures

pub returns-in-Prove-clause-leads : goal.returns-in-Prove-clause-leads
returns-in-Prove-clause-leads g c = λ told w.
    subst (λ a. IfOk c.read_alone.result (λ t. LeadsTo (Ends told a) t)) (sym (ap the_command c.in-Prove.is) ∙ c.command_of.ensures) (c.read_alone.ensures.leads told w)

pub returns-in-Check-clause-leads : goal.returns-in-Check-clause-leads
returns-in-Check-clause-leads g c = λ told w.
    subst (λ a. IfOk c.read_both.result (λ t. LeadsTo (Ends told a) t)) (sym (ap the_command c.in-Check.is) ∙ c.command_of.ensures) (c.read_both.ensures.leads told w)

pub returns-in-CheckTranslated-clause-leads : goal.returns-in-CheckTranslated-clause-leads
returns-in-CheckTranslated-clause-leads g c = λ told w.
    subst (λ a. IfOk c.read_translated.result (λ t. LeadsTo (Ends told a) t)) (sym (ap the_command c.in-CheckTranslated.is) ∙ c.command_of.ensures) (c.read_translated.ensures.leads told w)

pub returns-in-Transfer-clause-leads : goal.returns-in-Transfer-clause-leads
returns-in-Transfer-clause-leads g c = λ told w.
    subst (λ a. IfOk c.read_both-in-Transfer.result (λ t. LeadsTo (Ends told a) t)) (sym (ap the_command c.in-Transfer.is) ∙ c.command_of.ensures)
    (subst (λ p. IfOk c.read_both-in-Transfer.result (λ t. LeadsTo (EndsOn told p (λ P. TransferEnds told P c.in-Transfer.derivation.now)) t)) c.problem_file-file.ensures (c.read_both-in-Transfer.ensures.leads told w))

pub returns-in-Migrate-clause-leads : goal.returns-in-Migrate-clause-leads
returns-in-Migrate-clause-leads g c = λ told w.
    subst (λ a. IfOk c.read_both-in-Migrate.result (λ t. LeadsTo (Ends told a) t)) (sym (ap the_command c.in-Migrate.is) ∙ c.command_of.ensures) (c.read_both-in-Migrate.ensures.leads told w)

pub returns-in-Model-clause-leads : goal.returns-in-Model-clause-leads
returns-in-Model-clause-leads g c = λ told w.
    subst (λ a. IfOk c.read_both-in-Model.result (λ t. LeadsTo (Ends told a) t)) (sym (ap the_command c.in-Model.is) ∙ c.command_of.ensures) (c.read_both-in-Model.ensures.leads told w)

pub returns-in-Tableau-clause-leads : goal.returns-in-Tableau-clause-leads
returns-in-Tableau-clause-leads g c = λ told w.
    subst (λ a. IfOk c.read_alone-in-Tableau.result (λ t. LeadsTo (Ends told a) t)) (sym (ap the_command c.in-Tableau.is) ∙ c.command_of.ensures) (c.read_alone-in-Tableau.ensures.leads told w)

pub returns-in-Tcheck-clause-leads : goal.returns-in-Tcheck-clause-leads
returns-in-Tcheck-clause-leads g c = λ told w.
    subst (λ a. IfOk c.read_both-in-Tcheck.result (λ t. LeadsTo (Ends told a) t)) (sym (ap the_command c.in-Tcheck.is) ∙ c.command_of.ensures) (c.read_both-in-Tcheck.ensures.leads told w)

pub returns-in-Convert-clause-leads : goal.returns-in-Convert-clause-leads
returns-in-Convert-clause-leads g c = λ told w.
    subst (λ a. IfOk c.read_both-in-Convert.result (λ t. LeadsTo (Ends told a) t)) (sym (ap the_command c.in-Convert.is) ∙ c.command_of.ensures) (c.read_both-in-Convert.ensures.leads told w)

pub returns-in-Make-clause-leads : goal.returns-in-Make-clause-leads
returns-in-Make-clause-leads g c = λ told w.
    subst (λ a. LeadsTo (Ends told a) (Make c.in-Make.problem c.in-Make.bounds)) (sym (ap the_command c.in-Make.is) ∙ c.command_of.ensures) (λ s bytes r. r)

pub returns-in-Bad-clause-leads : goal.returns-in-Bad-clause-leads
returns-in-Bad-clause-leads g c = λ told w.
    let s = BadWords c.in-Bad.place in
    subst (λ a. LeadsTo (Ends told a) (Tell s)) (sym (ap the_command c.in-Bad.is) ∙ c.command_of.ensures) (λ t bytes r. (r.0, r.1 ∙ ap status_line (sym r.0)))

pub returns-in-Prove-clause-reads_only : goal.returns-in-Prove-clause-reads_only
returns-in-Prove-clause-reads_only g c = λ files w.
    subst (λ a. ReadsOnly (MayRead files a) (g.L.Library.reads c.args.lib.now) (g.L.Library.reads c.read_alone.new.lib)) (sym (ap the_command c.in-Prove.is) ∙ c.command_of.ensures) (c.read_alone.ensures.reads_only files w)

pub returns-in-Check-clause-reads_only : goal.returns-in-Check-clause-reads_only
returns-in-Check-clause-reads_only g c = λ files w.
    subst (λ a. ReadsOnly (MayRead files a) (g.L.Library.reads c.args.lib.now) (g.L.Library.reads c.read_both.new.lib)) (sym (ap the_command c.in-Check.is) ∙ c.command_of.ensures) (c.read_both.ensures.reads_only files w)

pub returns-in-CheckTranslated-clause-reads_only : goal.returns-in-CheckTranslated-clause-reads_only
returns-in-CheckTranslated-clause-reads_only g c = λ files w.
    subst (λ a. ReadsOnly (MayRead files a) (g.L.Library.reads c.args.lib.now) (g.L.Library.reads c.read_translated.new.lib)) (sym (ap the_command c.in-CheckTranslated.is) ∙ c.command_of.ensures) (c.read_translated.ensures.reads_only files w)

pub returns-in-Transfer-clause-reads_only : goal.returns-in-Transfer-clause-reads_only
returns-in-Transfer-clause-reads_only g c = λ files w.
    subst (λ a. ReadsOnly (MayRead files a) (g.L.Library.reads c.args.lib.now) (g.L.Library.reads c.read_both-in-Transfer.new.lib)) (sym (ap the_command c.in-Transfer.is) ∙ c.command_of.ensures)
    (subst (λ p. ReadsOnly (IsOfBoth files p c.in-Transfer.derivation.now) (g.L.Library.reads c.args.lib.now) (g.L.Library.reads c.read_both-in-Transfer.new.lib)) c.problem_file-file.ensures (c.read_both-in-Transfer.ensures.reads_only files w))

pub returns-in-Migrate-clause-reads_only : goal.returns-in-Migrate-clause-reads_only
returns-in-Migrate-clause-reads_only g c = λ files w.
    subst (λ a. ReadsOnly (MayRead files a) (g.L.Library.reads c.args.lib.now) (g.L.Library.reads c.read_both-in-Migrate.new.lib)) (sym (ap the_command c.in-Migrate.is) ∙ c.command_of.ensures) (c.read_both-in-Migrate.ensures.reads_only files w)

pub returns-in-Model-clause-reads_only : goal.returns-in-Model-clause-reads_only
returns-in-Model-clause-reads_only g c = λ files w.
    subst (λ a. ReadsOnly (MayRead files a) (g.L.Library.reads c.args.lib.now) (g.L.Library.reads c.read_both-in-Model.new.lib)) (sym (ap the_command c.in-Model.is) ∙ c.command_of.ensures) (c.read_both-in-Model.ensures.reads_only files w)

pub returns-in-Tableau-clause-reads_only : goal.returns-in-Tableau-clause-reads_only
returns-in-Tableau-clause-reads_only g c = λ files w.
    subst (λ a. ReadsOnly (MayRead files a) (g.L.Library.reads c.args.lib.now) (g.L.Library.reads c.read_alone-in-Tableau.new.lib)) (sym (ap the_command c.in-Tableau.is) ∙ c.command_of.ensures) (c.read_alone-in-Tableau.ensures.reads_only files w)

pub returns-in-Tcheck-clause-reads_only : goal.returns-in-Tcheck-clause-reads_only
returns-in-Tcheck-clause-reads_only g c = λ files w.
    subst (λ a. ReadsOnly (MayRead files a) (g.L.Library.reads c.args.lib.now) (g.L.Library.reads c.read_both-in-Tcheck.new.lib)) (sym (ap the_command c.in-Tcheck.is) ∙ c.command_of.ensures) (c.read_both-in-Tcheck.ensures.reads_only files w)

pub returns-in-Convert-clause-reads_only : goal.returns-in-Convert-clause-reads_only
returns-in-Convert-clause-reads_only g c = λ files w.
    subst (λ a. ReadsOnly (MayRead files a) (g.L.Library.reads c.args.lib.now) (g.L.Library.reads c.read_both-in-Convert.new.lib)) (sym (ap the_command c.in-Convert.is) ∙ c.command_of.ensures) (c.read_both-in-Convert.ensures.reads_only files w)
