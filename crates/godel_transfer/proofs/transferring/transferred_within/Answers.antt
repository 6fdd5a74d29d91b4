use Rattle.std.proofs.Common.{◌+◌, ◌*◌, ◌^◌, ◌<◌, ap, length, arith}
use Rattle.std.proofs.lemmas.List.{length-map}
use Rattle.sequent_calc.specs.DerivationView.{the_derivation}
use Rattle.calculus.specs.Versions.{stated, stated_step}
use Rattle.derivation_text.specs.NumbersView.{the_numbered_step}
use Rattle.godel_transfer.proofs.TransferRight.{sketched-right}
use Rattle.godel_transfer.proofs.transferring.transferred_within.Goals as goal

pub returns : goal.returns
returns c =
    let x = c.args.d.now in
    let few : 3 * length (stated x).steps + 1 < 2 ^ 32 = omega (arith, length-map c.steps.result.now the_numbered_step, ap length c.steps.ensures.view, length-map x.steps (stated_step x.labels x.terms)) in
    let r = sketched-right c.args.problem.now (stated x) (the_derivation c.in_ok-out.out) c.requires.well c.requires.intuitionistic c.requires.printable c.requires.derives few c.in_ok-out.ensures in
    record { derives = r.derives; printable = r.printable; limit = r.limit }
