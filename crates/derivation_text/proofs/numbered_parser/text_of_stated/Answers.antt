use Rattle.derivation_text.proofs.FaultLaws.{again-printable, again-text, numbered-again}
use Rattle.derivation_text.proofs.numbered_parser.text_of_stated.Goals as goal

pub write-requires : goal.write-requires
write-requires c = record {
  printable = again-printable c.args.problem.now c.args.d.now c.in_ok-numbered.numbered c.requires c.in_ok-numbered.ensures;
  numbers = numbered-again c.args.d.now c.in_ok-numbered.numbered c.in_ok-numbered.ensures;
}

pub returns : goal.returns
returns c = again-text c.args.problem.now c.args.d.now c.in_ok-numbered.numbered c.in_ok-text.text.items c.in_ok-numbered.ensures c.in_ok-text.ensures.text
