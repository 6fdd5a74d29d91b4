use Rattle.std.proofs.Common.{◌++◌, length, ap, ◌∙◌}
use Rattle.calculus.specs.DerivationText.{term_is_written}
use Rattle.calculus.specs.Syntax.{spare}
use Rattle.calculus.specs.Text.{term_text}
use Rattle.calculus.specs.Versions.{is_among, numbered}
use Rattle.derivation_text.proofs.StatedLaws.{item-written}
use Rattle.derivation_text.proofs.table_writer.write_term_of.Goals as goal

pub row-requires : goal.row-requires
row-requires c = ap (λ l. is_among (length l) c.args.number) c.terms.ensures ∙ c.requires.among

pub write_row-requires : goal.write_row-requires
write_row-requires c =
    let term = c.row.ensures ∙ ap (λ l. numbered l c.args.number (spare 0)) c.terms.ensures in
    (λ i. term_is_written (c.symbols.ensures.symbols i) (term i)) ∙ item-written (term_is_written c.args.problem.now.symbols) c.args.d.now.terms c.args.number (spare 0) c.requires.written.terms c.requires.among

pub returns : goal.returns
returns c =
    let term = c.row.ensures ∙ ap (λ l. numbered l c.args.number (spare 0)) c.terms.ensures in
    c.in_ok-write_row.ensures.ok ∙ (λ i. c.args.out.now.items ++ term_text (c.symbols.ensures.symbols i) 0 (term i))
