use Rattle.std.proofs.lemmas.Result.{IfOk-weaker}
use Rattle.tptp_reader.specs.ItemStanding.{IncludeRead, ItemRead, kind_in}
use Rattle.std.proofs.Common.{sym, ◌∙◌}
use Rattle.plain_laws.proofs.Options.{not-some}
use Rattle.tptp_reader.specs.TerminalView.{the_terminal}
use Rattle.tptp_reader.proofs.ItemFails.{fails-no_item}
use Rattle.tptp_reader.proofs.item_reader.read_item.Goals as goal

pub returns-clause-read : goal.returns-clause-read
returns-clause-read c =
    IfOk-weaker c.read_include.result (IncludeRead c.args.text.now c.args.p) (ItemRead c.args.modal c.args.text.now c.args.p) (λ r h. h c.args.modal) c.read_include.ensures.read

pub returns-then-not-is_include_word-clause-settles : goal.returns-then-not-is_include_word-clause-settles
returns-then-not-is_include_word-clause-settles c = fails-no_item c.args.modal (not-some (kind_in c.args.modal (the_terminal c.args.p.terminal)) (λ v e. c.in_default.not-Some v (c.kind_of.ensures ∙ e))) (sym c.is_include_word.ensures ∙ c.if-not-is_include_word.true)

pub returns-clause-settles : goal.returns-clause-settles
returns-clause-settles c = c.read_include.ensures.settles c.args.modal
