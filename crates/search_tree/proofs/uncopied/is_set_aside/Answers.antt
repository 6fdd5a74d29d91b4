use Rattle.term_store.specs.RefView.{the_places}
use Rattle.term_store.specs.TemplateView.{the_template}
use Rattle.term_store.proofs.FitLaws.{literals-fit, placed-atoms}
use Rattle.search_tree.proofs.uncopied.is_set_aside.Goals as goal

pub has_lost-requires-clause-literals : goal.has_lost-requires-clause-literals
has_lost-requires-clause-literals c = placed-atoms c.args.store.now.store (the_places c.args.variables) c.args.template.now.sorts c.requires.variables c.args.template.now.literals (literals-fit (the_template c.args.template.now) c.requires.template)

pub has_repeated-requires-clause-literals : goal.has_repeated-requires-clause-literals
has_repeated-requires-clause-literals c = placed-atoms c.args.store.now.store (the_places c.args.variables) c.args.template.now.sorts c.requires.variables c.args.template.now.literals (literals-fit (the_template c.args.template.now) c.requires.template)
