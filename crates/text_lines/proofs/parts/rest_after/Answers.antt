use Rattle.std.proofs.lemmas.Bool.Decides.{Decides-eqb}
use Rattle.std.proofs.lemmas.Slice.Eq.{strip_prefix_is}
use Rattle.plain_laws.proofs.Options.{cut-off}
use Rattle.text_lines.proofs.parts.rest_after.Goals as goal

pub returns : goal.returns
returns c =
    let h = cut-off c.strip_prefix.result c.args.text.now c.args.front.now (strip_prefix_is Decides-eqb c.args.text.now c.args.front.now c.strip_prefix.result c.strip_prefix.ensures.cases) in
    record { some = h.0; none = h.1 }
