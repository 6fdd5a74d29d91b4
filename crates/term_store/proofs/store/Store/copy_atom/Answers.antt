use Rattle.std.proofs.Common.{false, length, nat_le, refl, true}
use Rattle.std.specs.List.{list_all}
use Rattle.std.proofs.lemmas.Bool.{and_from, and_parts}
use Rattle.calculus.specs.declared.sort.Sort.TheVariants.{MarkSort, TermSort}
use Rattle.store_theory.specs.Patterns.{patterns_tree}
use Rattle.store_theory.specs.Stores.{has_sort_at}
use Rattle.store_theory.specs.Systems.{is_label}
use Rattle.store_theory.proofs.PatternLaws.{Grows-built, grown-copies, grown-sorts}
use Rattle.term_store.specs.ClauseView.{the_pattern_atom}
use Rattle.term_store.specs.Fitting.{label_fits_in, parts_fit_in}
use Rattle.term_store.specs.RefView.{the_places}
use Rattle.term_store.proofs.FitLaws.{grown-parts_fit, terms-sorted}
use Rattle.term_store.proofs.OwnLaws.{over-both, own-both, own-later}
use Rattle.term_store.proofs.SignatureLaws.{within-both}
use Rattle.term_store.specs.Signatures.{allows_all}
use Rattle.term_store.proofs.store.Store.copy_atom.Goals as goal

pub copy_refs-requires : goal.copy_refs-requires
copy_refs-requires c =
    let vs = the_places c.args.variables in
    let a = the_pattern_atom c.args.atom.now in
    let f = and_parts (parts_fit_in c.args.self.now.store vs TermSort false (patterns_tree a.args)) (label_fits_in c.args.self.now.store vs a.label) c.requires in
    (MarkSort, true, grown-parts_fit c.args.self.now.store c.copy_all_refs.new.self.store vs MarkSort true (patterns_tree a.label) (Grows-built c.args.self.now.store c.copy_all_refs.new.self.store c.in_ok-args.ensures.adds.built) f.1)

pub returns-clause-copy : goal.returns-clause-copy
returns-clause-copy c = record {
  sign = refl;
  symbol = refl;
  args = grown-copies c.copy_all_refs.new.self.store c.copy_refs.new.self.store (the_places c.args.variables) (patterns_tree c.args.atom.now.args) c.in_ok-args.args (Grows-built c.copy_all_refs.new.self.store c.copy_refs.new.self.store c.in_ok-label.ensures.adds.built) c.in_ok-args.ensures.copies;
  label = c.in_ok-label.ensures.copies;
}

pub returns-clause-sorts : goal.returns-clause-sorts
returns-clause-sorts c =
    let vs = the_places c.args.variables in
    let a = the_pattern_atom c.args.atom.now in
    let f = and_parts (parts_fit_in c.args.self.now.store vs TermSort false (patterns_tree a.args)) (label_fits_in c.args.self.now.store vs a.label) c.requires in
    let args = grown-sorts c.copy_all_refs.new.self.store c.copy_refs.new.self.store TermSort c.in_ok-args.args (Grows-built c.copy_all_refs.new.self.store c.copy_refs.new.self.store c.in_ok-label.ensures.adds.built) (terms-sorted c.copy_all_refs.new.self.store c.in_ok-args.args (c.in_ok-args.ensures.sorts TermSort false f.0)) in
    let label = c.in_ok-label.ensures.sorts MarkSort true (grown-parts_fit c.args.self.now.store c.copy_all_refs.new.self.store vs MarkSort true (patterns_tree a.label) (Grows-built c.args.self.now.store c.copy_all_refs.new.self.store c.in_ok-args.ensures.adds.built) f.1) in
    and_from (list_all (has_sort_at c.copy_refs.new.self.store TermSort) c.in_ok-args.args) (is_label c.copy_refs.new.self.store c.in_ok-label.label) args label

pub returns-clause-own : goal.returns-clause-own
returns-clause-own c =
    let vs = the_places c.args.variables in
    own-both vs (length c.args.self.now.store.cells) (λ base. list_all (nat_le base) c.in_ok-args.args) (λ base. list_all (nat_le base) c.in_ok-label.label) c.in_ok-args.ensures.own
    (own-later vs c.args.self.now.store c.copy_all_refs.new.self.store (λ base. list_all (nat_le base) c.in_ok-label.label) (Grows-built c.args.self.now.store c.copy_all_refs.new.self.store c.in_ok-args.ensures.adds.built) c.in_ok-label.ensures.own)

pub returns-clause-adds : goal.returns-clause-adds
returns-clause-adds c = over-both (the_places c.args.variables) c.args.self.now.store c.copy_all_refs.new.self.store c.copy_refs.new.self.store c.in_ok-args.ensures.adds c.in_ok-label.ensures.adds

pub returns-in_err-label-clause-adds : goal.returns-in_err-label-clause-adds
returns-in_err-label-clause-adds c = over-both (the_places c.args.variables) c.args.self.now.store c.copy_all_refs.new.self.store c.copy_refs.new.self.store c.in_ok-args.ensures.adds c.in_err-label.ensures.adds

pub returns-clause-within : goal.returns-clause-within
returns-clause-within c = within-both (the_places c.args.variables) (λ sorts g. allows_all g sorts (patterns_tree c.args.atom.now.args)) (λ sorts g. allows_all g sorts (patterns_tree c.args.atom.now.label)) c.args.self.now.store c.copy_all_refs.new.self.store c.copy_refs.new.self.store c.in_ok-args.ensures.adds.built c.in_ok-args.ensures.within c.in_ok-label.ensures.within
