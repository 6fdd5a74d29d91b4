use Rattle.std.proofs.Common.{◌∙◌}
use Rattle.leancop_top.proofs.commands.prove.derive_trimmed.Goals as goal

pub trim-requires : goal.trim-requires
trim-requires c = c.in_ok-derivation.ensures.derives

pub returns : goal.returns
returns c =
    let given = c.in_ok-derivation.ensures in
    let trimmed = c.in_ok-trimmed.ensures in
    record {
      derives = trimmed.derives;
      printable = trimmed.printable given.printable;
      carries = trimmed.limit ∙ given.carries;
      trim = trimmed.trim;
    }
