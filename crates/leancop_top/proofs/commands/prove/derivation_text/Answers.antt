use Rattle.derivation_check.proofs.Accepting.{accepted-in}
use Rattle.sequent_calc.specs.DerivationView.{the_derivation}
use Rattle.leancop_top.proofs.Theorems.{derived-theorem}
use Rattle.leancop_top.proofs.commands.prove.derivation_text.Goals as goal

pub returns : goal.returns
returns c =
    let d = the_derivation c.in_ok-derivation.derivation in
    let converted = c.in_ok-derivation.ensures in
    let text = c.in_ok-text.ensures.text in
    let well = c.symbols-symbols.ensures.well in
    record {
      printed = record {
        derivation = d;
        carries = converted.carries;
        derives = converted.derives;
        text = text;
        judged = accepted-in c.args.problem.now well c.args.version d c.in_ok-text.text.items text converted.derives;
        theorem = derived-theorem c.args.problem.now well d converted.printable converted.derives;
      };
      trim = converted.trim;
    }
