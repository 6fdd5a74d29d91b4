use Rattle.std.proofs.Common.{arith, false, map, refl, subst, sym}
use Rattle.std.specs.List.{list_all}
use Rattle.std.proofs.Common.{IsTrue}
use Rattle.calculus.specs.declared.sort.Sort.TheVariants.{TermSort}
use Rattle.store_theory.specs.Bindings.{nothing_more, with_variables_of}
use Rattle.store_theory.specs.Stores.{has_sort_at}
use Rattle.store_theory.proofs.PatternLaws.{Grows-variables, grown-sorts}
use Rattle.search_theory.proofs.BuildingLaws.{is_variable_sort}
use Rattle.term_store.specs.ClauseView.{the_pattern_atom}
use Rattle.term_store.specs.RefView.{the_place, the_places}
use Rattle.term_store.specs.TemplateView.{the_template}
use Rattle.term_store.proofs.FitLaws.{have-new}
use Rattle.term_store.proofs.ListLaws.{literal-there}
use Rattle.term_unify.specs.Closed.{IsClosedBelow}
use Rattle.search_tree.proofs.CopiedBelow.{closed-copied}
use Rattle.search_tree.proofs.KeptLaws.{variables-valued}
use Rattle.search_tests.proofs.DoublingLaws.{args-fit, longer-matched}
use Rattle.search_tests.proofs.matching.are_matched.Goals as goal

pub match_all-requires-clause-sorted : goal.match_all-requires-clause-sorted
match_all-requires-clause-sorted c =
    let old = c.args.store.now.store in
    let cells = map the_place c.args.cells.now in
    subst (λ s. IsTrue (list_all (has_sort_at s TermSort) cells)) (sym c.in_ok-variables.ensures.ok)
    (grown-sorts old (with_variables_of c.args.t.now.sorts old) TermSort cells (Grows-variables c.args.t.now.sorts old) c.requires.cells)

pub match_all-requires-clause-fits : goal.match_all-requires-clause-fits
match_all-requires-clause-fits c =
    let a = c.index-items-0.result in (
      TermSort,
      false,
      args-fit c.args.store.now.store c.new_variables.new.self.store (the_template c.args.t.now) 0 (the_places c.in_ok-variables.variables) (the_pattern_atom a) c.requires.fits c.in_ok-variables.ensures.ok
          (literal-there the_pattern_atom c.items.result.now c.args.t.now.literals 0 a c.items.ensures c.requires.literal c.index-items-0.is) c.in_ok-variables.ensures.places,
    )

pub match_all-requires-clause-values : goal.match_all-requires-clause-values
match_all-requires-clause-values c =
    let vs = the_places c.in_ok-variables.variables in
    let sorts = c.args.t.now.sorts in
    variables-valued c.new_variables.new.self.store sorts vs (have-new vs sorts c.args.store.now.store c.new_variables.new.self.store c.in_ok-variables.ensures.ok c.in_ok-variables.ensures.places)
    (subst (λ xs. IsTrue (list_all is_variable_sort xs)) (sym c.requires.sorts) refl)

pub match_all-requires-clause-closed : goal.match_all-requires-clause-closed
match_all-requires-clause-closed c =
    let old = c.args.store.now.store in
    let sorts = c.args.t.now.sorts in
    let n = c.size.ensures.size in
    let k = c.spare.ensures in
    subst (IsClosedBelow _) (sym c.in_ok-variables.ensures.ok) (closed-copied sorts old (with_variables_of sorts old) _ (omega (arith, n, k)) c.size.ensures.well nothing_more)

pub returns : goal.returns
returns c = record { longer = longer-matched c.args.t.now.sorts c.args.store.now.store c.new_variables.new.self.store c.match_all.new.store.store c.in_ok-variables.ensures.ok c.in_ok-equal.ensures.cells }
