use Rattle.std.proofs.Common.{◌∙◌, length, map, sym}
use Rattle.term_store.specs.ClauseView.{the_atom}
use Rattle.term_store.specs.RefView.{the_place}
use Rattle.search_tree.proofs.AheadLaws.{apart-by_clash, apart-by_meets, terms-below}
use Rattle.connection_search.proofs.ahead.may_meet.Goals as goal

pub returns-then-not-meets : goal.returns-then-not-meets
returns-then-not-meets c = λ f. apart-by_meets c.args.store.now.store (the_atom c.args.goal.now) (the_atom c.args.ancestor.now) (sym c.meets.ensures ∙ c.if-not-meets.true)

pub have_clash-requires-clause-left : goal.have_clash-requires-clause-left
have_clash-requires-clause-left c = terms-below (length c.args.store.now.store.cells) (the_atom c.args.goal.now) (map the_place c.items-terms.result.now) c.items-terms.ensures c.requires.left

pub have_clash-requires-clause-right : goal.have_clash-requires-clause-right
have_clash-requires-clause-right c = terms-below (length c.args.store.now.store.cells) (the_atom c.args.ancestor.now) (map the_place c.items-others.result.now) c.items-others.ensures c.requires.right

pub returns-then-have_clash : goal.returns-then-have_clash
returns-then-have_clash c = λ f. apart-by_clash c.args.store.now.store (the_atom c.args.goal.now) (the_atom c.args.ancestor.now) (map the_place c.items-terms.result.now) (map the_place c.items-others.result.now) c.items-terms.ensures c.items-others.ensures (c.have_clash.ensures c.if-have_clash.true)
