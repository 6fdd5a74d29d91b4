use Rattle.std.proofs.Common.{[], ◌++◌, length, IsTrue, ap, sym, subst, ◌∙◌}
use Rattle.calculus.specs.DerivationText.{label_is_written}
use Rattle.calculus.specs.Text.{label_text}
use Rattle.calculus.specs.Versions.{is_among, numbered}
use Rattle.derivation_text.proofs.StatedLaws.{item-written}
use Rattle.derivation_text.proofs.table_writer.write_label_of.Goals as goal

pub label-requires : goal.label-requires
label-requires c = ap (λ l. is_among (length l) c.args.number) c.labels.ensures.list ∙ c.requires.among

pub write_label-requires : goal.write_label-requires
write_label-requires c =
    subst (λ w. IsTrue (label_is_written w)) (sym (c.in_ok-label.ensures ∙ ap (λ l. numbered l c.args.number []) c.labels.ensures.list))
    (item-written label_is_written c.args.d.now.labels c.args.number [] c.requires.written.labels c.requires.among)

pub returns : goal.returns
returns c = c.in_ok-write_label.ensures.ok ∙ ap (λ w. c.args.out.now.items ++ label_text w) (c.in_ok-label.ensures ∙ ap (λ l. numbered l c.args.number []) c.labels.ensures.list)
