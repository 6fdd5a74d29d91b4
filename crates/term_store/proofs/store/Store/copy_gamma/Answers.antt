use Rattle.std.proofs.Common.{length, nat_le, true}
use Rattle.std.specs.List.{list_all}
use Rattle.std.proofs.lemmas.Bool.{and_from, and_parts}
use Rattle.calculus.specs.declared.sort.Sort.TheVariants.{MarkSort, TermSort}
use Rattle.store_theory.specs.Patterns.{patterns_tree}
use Rattle.store_theory.specs.Stores.{has_sort_at}
use Rattle.store_theory.specs.Systems.{is_label}
use Rattle.store_theory.proofs.PatternLaws.{Grows-built, grown-copy, grown-sort}
use Rattle.term_store.specs.ClauseView.{the_pattern_gamma}
use Rattle.term_store.specs.Fitting.{fits_in, label_fits_in}
use Rattle.term_store.specs.PatternView.{the_pattern}
use Rattle.term_store.specs.RefView.{the_places}
use Rattle.term_store.proofs.FitLaws.{grown-parts_fit}
use Rattle.term_store.proofs.OwnLaws.{over-both, own-both, own-later}
use Rattle.term_store.proofs.SignatureLaws.{within-both}
use Rattle.term_store.specs.Signatures.{allows, allows_all}
use Rattle.term_store.proofs.store.Store.copy_gamma.Goals as goal

pub copy_refs-requires : goal.copy_refs-requires
copy_refs-requires c =
    let vs = the_places c.args.variables in
    let a = the_pattern_gamma c.args.gamma.now in
    let f = and_parts (fits_in c.args.self.now.store vs TermSort a.term) (label_fits_in c.args.self.now.store vs a.label) c.requires in
    (MarkSort, true, grown-parts_fit c.args.self.now.store c.copy_pattern.new.self.store vs MarkSort true (patterns_tree a.label) (Grows-built c.args.self.now.store c.copy_pattern.new.self.store c.in_ok-term.ensures.adds.built) f.1)

pub returns-clause-copy : goal.returns-clause-copy
returns-clause-copy c = record {
  term = grown-copy c.copy_pattern.new.self.store c.copy_refs.new.self.store (the_places c.args.variables) (the_pattern c.args.gamma.now.term) c.in_ok-term.term.0 (Grows-built c.copy_pattern.new.self.store c.copy_refs.new.self.store c.in_ok-label.ensures.adds.built) c.in_ok-term.ensures.copy;
  label = c.in_ok-label.ensures.copies;
}

pub returns-clause-sorts : goal.returns-clause-sorts
returns-clause-sorts c =
    let vs = the_places c.args.variables in
    let a = the_pattern_gamma c.args.gamma.now in
    let f = and_parts (fits_in c.args.self.now.store vs TermSort a.term) (label_fits_in c.args.self.now.store vs a.label) c.requires in
    let term = grown-sort c.copy_pattern.new.self.store c.copy_refs.new.self.store TermSort c.in_ok-term.term.0 (Grows-built c.copy_pattern.new.self.store c.copy_refs.new.self.store c.in_ok-label.ensures.adds.built) (c.in_ok-term.ensures.sorts TermSort f.0) in
    let label = c.in_ok-label.ensures.sorts MarkSort true (grown-parts_fit c.args.self.now.store c.copy_pattern.new.self.store vs MarkSort true (patterns_tree a.label) (Grows-built c.args.self.now.store c.copy_pattern.new.self.store c.in_ok-term.ensures.adds.built) f.1) in
    and_from (has_sort_at c.copy_refs.new.self.store TermSort c.in_ok-term.term.0) (is_label c.copy_refs.new.self.store c.in_ok-label.label) term label

pub returns-clause-own : goal.returns-clause-own
returns-clause-own c =
    let vs = the_places c.args.variables in
    own-both vs (length c.args.self.now.store.cells) (λ base. nat_le base c.in_ok-term.term.0) (λ base. list_all (nat_le base) c.in_ok-label.label) c.in_ok-term.ensures.own
    (own-later vs c.args.self.now.store c.copy_pattern.new.self.store (λ base. list_all (nat_le base) c.in_ok-label.label) (Grows-built c.args.self.now.store c.copy_pattern.new.self.store c.in_ok-term.ensures.adds.built) c.in_ok-label.ensures.own)

pub returns-clause-adds : goal.returns-clause-adds
returns-clause-adds c = over-both (the_places c.args.variables) c.args.self.now.store c.copy_pattern.new.self.store c.copy_refs.new.self.store c.in_ok-term.ensures.adds c.in_ok-label.ensures.adds

pub returns-in_err-label-clause-adds : goal.returns-in_err-label-clause-adds
returns-in_err-label-clause-adds c = over-both (the_places c.args.variables) c.args.self.now.store c.copy_pattern.new.self.store c.copy_refs.new.self.store c.in_ok-term.ensures.adds c.in_err-label.ensures.adds

pub returns-clause-within : goal.returns-clause-within
returns-clause-within c = within-both (the_places c.args.variables) (λ sorts g. allows g sorts (the_pattern c.args.gamma.now.term)) (λ sorts g. allows_all g sorts (patterns_tree c.args.gamma.now.label)) c.args.self.now.store c.copy_pattern.new.self.store c.copy_refs.new.self.store c.in_ok-term.ensures.adds.built c.in_ok-term.ensures.within c.in_ok-label.ensures.within
