use Rattle.std.proofs.Common.{refl, subst}
use Rattle.calculus.specs.Syntax.{setting_of}
use Rattle.calculus.specs.declared.setting.Domains.TheVariants.{Cumulative}
use Rattle.calculus.specs.declared.setting.Logic.TheVariants.{Intuitionistic}
use Rattle.command_line.specs.CommandLine.{in_intuitionistic}
use Rattle.command_line.specs.CommandView.{the_intuitionistic_file}
use Rattle.cop_base.proofs.ReadLaws.{reads-first, reads-rest, reads_then}
use Rattle.leancop_top.proofs.Ends.{reading-tells}
use Rattle.leancop_top.proofs.Leading.{over-problem, telling}
use Rattle.leancop_top.proofs.Opening.{both-read, first-alone}
use Rattle.leancop_top.proofs.Translations.{intuitionistic}
use Rattle.leancop_top.specs.Commands.Check.{TranslatedCheckEnds}
use Rattle.leancop_top.specs.Reading.{EndsOn, IsReadIn, IsReading, without_problem}
use Rattle.leancop_top.proofs.inputs.read_translated.Goals as goal

pub translate_first-requires : goal.translate_first-requires
translate_first-requires g c =
    let s = setting_of Intuitionistic Cumulative in
    intuitionistic s c.in-Read.problem refl (subst (IsReadIn s) c.in-Read.is c.in_ok-problem.ensures.setting)

pub returns-in-Read-clause-leads : goal.returns-in-Read-clause-leads
returns-in-Read-clause-leads g c = λ told w.
    let p = in_intuitionistic (the_intuitionistic_file c.args.file) in
    let h = c.in_ok-problem.ensures.reads_on in
    let k = c.translate_first.ensures.reads_on in
    over-problem told p c.in-Read.problem (λ P. TranslatedCheckEnds told P c.args.name.now) c.translate_first.result
    (subst (IsReading told p) c.in-Read.is (c.in_ok-problem.ensures.reading told (reads-first told _ _ _ _ _ h k w)))
    (c.translate_first.ensures.leads told (reads-rest told _ _ _ _ _ h k w))

pub returns-in-Read-clause-reads_on : goal.returns-in-Read-clause-reads_on
returns-in-Read-clause-reads_on g c = reads_then c.in_ok-problem.ensures.same_files c.in_ok-problem.ensures.reads_on c.translate_first.ensures.reads_on

pub returns-in-Read-clause-reads_only : goal.returns-in-Read-clause-reads_only
returns-in-Read-clause-reads_only g c = λ files w.
    both-read (in_intuitionistic (the_intuitionistic_file c.args.file)) c.args.name.now files c.in_ok-problem.ensures.reads_on c.translate_first.ensures.reads_on c.in_ok-problem.ensures.reads_only c.translate_first.ensures.reads_only w

pub returns-in-Refused-clause-leads : goal.returns-in-Refused-clause-leads
returns-in-Refused-clause-leads g c = λ told w.
    let p = in_intuitionistic (the_intuitionistic_file c.args.file) in
    telling (EndsOn told p (λ P. TranslatedCheckEnds told P c.args.name.now)) c.in-Refused.status
    (without_problem c.in-Refused.status (subst (IsReading told p) c.in-Refused.is (c.in_ok-problem.ensures.reading told w)))

pub returns-in-Refused-clause-ready : goal.returns-in-Refused-clause-ready
returns-in-Refused-clause-ready g c =
    let told = g.L.Library.holds c.args.lib.now in
    let p = in_intuitionistic (the_intuitionistic_file c.args.file) in
    reading-tells told p c.in-Refused.status (subst (IsReading told p) c.in-Refused.is (c.in_ok-problem.ensures.reading told c.in_ok-problem.ensures.reads_on))

pub returns-in-Refused-clause-reads_only : goal.returns-in-Refused-clause-reads_only
returns-in-Refused-clause-reads_only g c = λ files w. first-alone (in_intuitionistic (the_intuitionistic_file c.args.file)) c.args.name.now files (c.in_ok-problem.ensures.reads_only files w)

pub returns-in_err-problem-clause-reads_only : goal.returns-in_err-problem-clause-reads_only
returns-in_err-problem-clause-reads_only g c = λ files w. first-alone (in_intuitionistic (the_intuitionistic_file c.args.file)) c.args.name.now files (c.in_err-problem.ensures.reads_only files w)
