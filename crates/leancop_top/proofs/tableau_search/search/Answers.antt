use Rattle.std.proofs.Common.{◌-◌, Err, ap, arith, refl, subst, sym}
use Rattle.plain_laws.proofs.Options.{not-some}
use Rattle.command_line.specs.CommandView.{the_bounds}
use Rattle.leancop_top.proofs.Searches.{searched}
use Rattle.leancop_top.specs.TableauSearch.{IsSearched, too_large}
use Rattle.leancop_top.proofs.tableau_search.search.Goals as goal

pub returns-in-Err-TooLarge : goal.returns-in-Err-TooLarge
returns-in-Err-TooLarge c = too_large (c.in-Err-TooLarge.ensures.too_large (ap Err c.in-Err-TooLarge.field-0-is))

pub returns : goal.returns
returns c =
    let b = the_bounds c.args.bounds in
    let missed = c.in_ok-limit.ensures.missed (not-some c.in_ok-limit.field-0 c.in_default.not-Some) in
    subst (IsSearched c.args.problem.now b) (sym c.searched_as.ensures)
    (searched c.args.problem.now c.symbols-symbols.ensures.well b (c.new-ledger.result.budget - c.new-ledger.result.used) (c.in-Ok.ensures.fits refl) missed (omega (arith, c.new-ledger.ensures.budget, c.new-ledger.ensures.used)) c.in_ok-answer.answer c.in_ok-answer.ensures.answer)
