use Rattle.std.proofs.Common.{◌++◌, ◌∙◌, ap, append_assoc, decimal}
use Rattle.tableau_text.proofs.values_writer.write_numbered.Goals as goal

pub returns : goal.returns
returns c =
    c.in_ok-write_number.ensures.ok ∙ ap (λ l. l ++ decimal c.from.result) c.in_ok-write_bytes.ensures.ok ∙ append_assoc c.args.out.now.items c.args.front.now (decimal c.from.result)
    ∙ ap (λ n. c.args.out.now.items ++ (c.args.front.now ++ decimal n)) c.from.ensures
