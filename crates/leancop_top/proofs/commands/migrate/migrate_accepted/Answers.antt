use Rattle.calculus.specs.Versions.{stated}
use Rattle.calculus.specs.declared.version.Version.TheVariants.{Two}
use Rattle.derivation_check.proofs.Accepting.{accepted-in}
use Rattle.leancop_top.proofs.Theorems.{derived-theorem}
use Rattle.leancop_top.specs.Commands.Migrate.{migrated}
use Rattle.leancop_top.proofs.commands.migrate.migrate_accepted.Goals as goal

pub returns-clause-ends : goal.returns-clause-ends
returns-clause-ends c = λ told name h.
    let P = c.args.problem.now in
    let d = stated c.args.derivation.now in
    let well = c.symbols-symbols.ensures.well in
    let bytes = c.in_ok-output.output.items in
    let text = c.in_ok-output.ensures.text in
    migrated bytes (record {
      given = d;
      accepted = h;
      derives = c.requires.derives;
      text = text;
      judged = accepted-in P well Two d bytes text c.requires.derives;
      theorem = derived-theorem P well d c.requires.printable c.requires.derives;
    })
