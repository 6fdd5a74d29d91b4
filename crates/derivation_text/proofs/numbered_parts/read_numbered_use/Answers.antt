use Rattle.std.proofs.Common.{refl}
use Rattle.derivation_text.proofs.NumberedArgs.{no-use, none-use}
use Rattle.derivation_text.proofs.numbered_parts.read_numbered_use.Goals as goal

pub returns-in_err-entry-clause-none : goal.returns-in_err-entry-clause-none
returns-in_err-entry-clause-none c = λ _. none-use c.args.text.now (c.in_err-entry.ensures.none refl)

pub returns-in_err-modal-clause-none : goal.returns-in_err-modal-clause-none
returns-in_err-modal-clause-none c = λ _. no-use c.args.text.now _ _ c.in_ok-entry.ensures.some (c.in_err-modal.ensures.none refl)
