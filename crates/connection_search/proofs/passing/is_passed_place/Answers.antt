use Rattle.connection_search.proofs.PassingOver.{passed-by_marks, passed-by_names}
use Rattle.matrix_build.specs.MatrixView.{the_place}
use Rattle.term_store.specs.ClauseView.{the_atom, the_pattern_atom}
use Rattle.term_store.specs.TemplateView.{the_template}
use Rattle.std.proofs.Common.{map}
use Rattle.search_tree.proofs.AheadLaws.{extension-meets}
use Rattle.connection_search.proofs.passing.is_passed_place.Goals as goal

pub returns-then-is_hopeless_place : goal.returns-then-is_hopeless_place
returns-then-is_hopeless_place c = λ t P base d p g left tm h e may. passed-by_marks P c.args.matrix.now d p g left (the_place c.args.place) c.args.marks c.in-Some.marks c.in-Some.is may (c.is_hopeless_place.ensures c.if-is_hopeless_place.true g (extension-meets c.args.matrix.now d g (the_place c.args.place) e))

pub returns-then-has_clash : goal.returns-then-has_clash
returns-then-has_clash c = λ t P base d p g left tm h e may. passed-by_names P c.args.matrix.now base d p c.args.store.now.store c.args.place.clause.0 c.args.place.literal g left (the_template c.template-template.result.now) (map the_pattern_atom c.items.result.now) (the_pattern_atom c.literal_at-literal.result.now) (the_atom c.args.atom.now) tm h e c.template-template.ensures c.items.ensures c.literal_at-literal.ensures (c.has_clash.ensures c.if-has_clash.true)
