use Rattle.std.proofs.Common.{◌∙◌, sym}
use Rattle.derivation_check.proofs.ToldLaws.{begins-there, has-longer, there-held}
use Rattle.derivation_check.proofs.occurring.add_home.Goals as goal

pub returns-then-begins-clause-held : goal.returns-then-begins-clause-held
returns-then-begins-clause-held c = there-held c.args.labels.now c.args.marks.now c.args.home (begins-there c.args.labels.now c.args.at c.args.home c.args.marks.now (sym c.begins.ensures ∙ c.if-begins.true) c.requires.there.label)

pub returns-clause-there : goal.returns-clause-there
returns-clause-there c = record {
  within = c.requires.there.within;
  label = has-longer c.args.labels.now c.args.marks.now c.add_label.new.marks c.args.at c.in_ok-add_label.ensures.kept c.requires.there.label;
  homes = c.in_ok-add_label.ensures.told;
}
