use Rattle.term_store.specs.RefView.{the_places}
use Rattle.term_store.specs.TemplateView.{the_clause, the_template}
use Rattle.search_tree.proofs.MoveLaws.{at-started, clause-for, shown-for, start-copied}
use Rattle.search_tree.proofs.state.SearchState.start.Goals as goal

pub returns-clause-started : goal.returns-clause-started
returns-clause-started c = λ P d h shown.
    let m = c.args.matrix.now in
    let t = the_template c.template.result.now in
    let copy = c.in_ok-copy.copy in
    at-started P m d c.args.store.now.store c.copy_clause.new.self.store c.start.new.self.steps.items c.start.new.self.goals.items c.start.new.self.open t (record { clause = c.args.clause; copy = copy })
    c.requires.clause (clause-for P m c.args.clause.0 t h c.requires.clause c.template.ensures) (shown-for m c.args.clause.0 t c.template.ensures shown)
    (start-copied c.args.store.now.store c.copy_clause.new.self.store t (the_places copy.variables) (the_clause copy) c.in_ok-copy.ensures.variables c.in_ok-copy.ensures.copy c.in_ok-copy.ensures.sorts c.in_ok-copy.ensures.own c.in_ok-copy.ensures.names c.in_ok-copy.ensures.built c.in_ok-copy.ensures.within)
    c.mark-before.ensures.well c.mark-after.ensures.well c.in_ok-start.ensures.tree c.in_ok-start.ensures.system
