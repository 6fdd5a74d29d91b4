use Rattle.std.proofs.Common.{[]}
use Rattle.calculus.specs.Versions.{numbered, same_label}
use Rattle.derivation_text.proofs.NumberingLaws.{same_label-tells}
use Rattle.derivation_text.proofs.RenumberingLaws.{new-among}
use Rattle.derivation_text.proofs.renumbering.new_modal.Goals as goal

pub returns-in_ok-number-in-To-clause-among : goal.returns-in_ok-number-in-To-clause-among
returns-in_ok-number-in-To-clause-among c = new-among same_label same_label-tells c.new_label.new.to.labels (numbered c.args.d.now.labels c.in-To.old []) c.in_ok-number-in-To.number c.in_ok-number-in-To.ensures.number
