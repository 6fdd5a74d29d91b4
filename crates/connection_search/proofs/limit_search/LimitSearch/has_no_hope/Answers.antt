use Rattle.std.proofs.Common.{ap, sym}
use Rattle.store_theory.specs.Systems.{CellAtom}
use Rattle.term_store.specs.ClauseView.{the_atom}
use Rattle.search_tree.proofs.TreeLaws.{atom-found}
use Rattle.connection_search.proofs.limit_search.LimitSearch.has_no_hope.Goals as goal

pub returns : goal.returns
returns c = λ t x g.
    let same = atom-found c.args.tree.now.steps.items c.args.tree.now.goals.items c.args.goal x (the_atom c.atom-atom.result.now) g c.atom-atom.ensures in
    c.has_no_hope_by.ensures t x (ap (λ (a : CellAtom). a.symbol) (sym same)) (ap (λ (a : CellAtom). a.sign) (sym same)) (c.marks_of-marks.ensures x g)
