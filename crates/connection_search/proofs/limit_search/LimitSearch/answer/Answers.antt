use Rattle.std.proofs.Common.{IsTrue, length, subst, sym}
use Rattle.std.specs.List.{list_all}
use Rattle.tableau_core.specs.Numbered.TableauView.{the_tableau}
use Rattle.tableau_reading.specs.Readable.{is_gamma_below}
use Rattle.connection_search.proofs.FoundLaws.{own-spares, read-closed}
use Rattle.connection_search.proofs.limit_search.LimitSearch.answer.Goals as goal

pub homes_of-requires : goal.homes_of-requires
homes_of-requires c = subst (λ gs. IsTrue (list_all (is_gamma_below (length c.args.store.now.store.cells)) gs)) (sym c.in_ok-gammas.ensures) c.requires.gammas

pub tableau_of-requires-clause-spares : goal.tableau_of-requires-clause-spares
tableau_of-requires-clause-spares c = (c.requires.own.solution, own-spares c.args.self.now.problem.now c.args.self.now.matrix.now c.args.self.now.limit c.args.store.now.store c.in_ok-homes.homes c.args.work.now.tree.steps.items c.common_spares.result _ c.requires.own c.common_spares.ensures c.in_ok-gammas.ensures c.in_ok-homes.ensures.spares)

pub returns-clause-closed : goal.returns-clause-closed
returns-clause-closed c =
    read-closed c.args.self.now.problem.now c.args.self.now.matrix.now c.args.self.now.limit c.args.store.now.store c.in_ok-homes.homes c.args.work.now.tree.steps.items (the_tableau c.in_ok-tableau.tableau) c.requires.own
    (own-spares c.args.self.now.problem.now c.args.self.now.matrix.now c.args.self.now.limit c.args.store.now.store c.in_ok-homes.homes c.args.work.now.tree.steps.items c.common_spares.result _ c.requires.own c.common_spares.ensures c.in_ok-gammas.ensures c.in_ok-homes.ensures.spares)
    c.in_ok-tableau.ensures.built
