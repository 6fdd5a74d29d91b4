use Rattle.std.proofs.Common.{IsTrue, false, length, map, subst, sym}
use Rattle.std.specs.List.{list_all}
use Rattle.calculus.specs.declared.sort.Sort.TheVariants.{StringSort}
use Rattle.store_theory.specs.Bindings.{AddsOver}
use Rattle.store_theory.proofs.PatternLaws.{Grows-built}
use Rattle.term_store.specs.ClauseView.{the_pattern_atom}
use Rattle.term_store.specs.Copying.{AtomsCopied}
use Rattle.term_store.specs.Fitting.{atom_fits_in}
use Rattle.term_store.specs.RefView.{the_places}
use Rattle.term_store.specs.Room.{TermStore}
use Rattle.term_store.specs.Signatures.{BuildsOver, allows_atom}
use Rattle.term_store.specs.TemplateView.{the_template}
use Rattle.term_store.proofs.FitLaws.{have-grown, placed-atoms, sorted-alone, template-gammas, template-strings}
use Rattle.term_store.proofs.ListLaws.{clause-made}
use Rattle.term_store.proofs.OwnLaws.{names-same, over-both}
use Rattle.term_store.proofs.SignatureLaws.{within-clause}
use Rattle.term_store.proofs.store.Store.add_clause.Goals as goal

pub copy_atoms-requires : goal.copy_atoms-requires
copy_atoms-requires c = subst (λ (z : TermStore). IsTrue (list_all (atom_fits_in z.store (the_places c.args.variables)) (map the_pattern_atom c.args.front.now))) (sym c.in_ok-literals.ensures.same) (placed-atoms c.args.self.now.store (the_places c.args.variables) c.args.t.now.sorts c.requires.variables (map the_pattern_atom c.args.front.now) c.requires.front)

pub copy_atoms-requires-2 : goal.copy_atoms-requires-2
copy_atoms-requires-2 c =
    let vs = the_places c.args.variables in
    let s = c.args.self.now.store in
    let a = c.copy_atoms.new.self.store in
    placed-atoms a vs c.args.t.now.sorts (have-grown s a c.args.t.now.sorts vs (Grows-built s a (subst (λ (z : TermStore). AddsOver (the_places c.args.variables) z.store c.copy_atoms.new.self.store) c.in_ok-literals.ensures.same c.in_ok-copy_atoms.ensures.adds).built) c.requires.variables) (map the_pattern_atom c.args.back.now) c.requires.back

pub returns-in_err-literals-clause-adds : goal.returns-in_err-literals-clause-adds
returns-in_err-literals-clause-adds c = subst (λ (z : TermStore). AddsOver (the_places c.args.variables) c.args.self.now.store z.store) (sym c.in_err-literals.ensures.same) (names-same (the_places c.args.variables) c.args.self.now.store)

pub returns-in_err-copy_atoms-clause-adds : goal.returns-in_err-copy_atoms-clause-adds
returns-in_err-copy_atoms-clause-adds c = subst (λ (z : TermStore). AddsOver (the_places c.args.variables) z.store c.copy_atoms.new.self.store) c.in_ok-literals.ensures.same c.in_err-copy_atoms.ensures.adds

pub returns-in_err-copy_atoms-2-clause-adds : goal.returns-in_err-copy_atoms-2-clause-adds
returns-in_err-copy_atoms-2-clause-adds c = over-both (the_places c.args.variables) c.args.self.now.store c.copy_atoms.new.self.store c.copy_atoms-2.new.self.store (subst (λ (z : TermStore). AddsOver (the_places c.args.variables) z.store c.copy_atoms.new.self.store) c.in_ok-literals.ensures.same c.in_ok-copy_atoms.ensures.adds) c.in_err-copy_atoms-2.ensures.adds

pub copy_refs-requires : goal.copy_refs-requires
copy_refs-requires c =
    let vs = the_places c.args.variables in
    let s = c.args.self.now.store in
    let b = c.copy_atoms-2.new.self.store in
    let over = over-both vs s c.copy_atoms.new.self.store b (subst (λ (z : TermStore). AddsOver (the_places c.args.variables) z.store c.copy_atoms.new.self.store) c.in_ok-literals.ensures.same c.in_ok-copy_atoms.ensures.adds) c.in_ok-copy_atoms-2.ensures.adds in
    (StringSort, false, template-strings b vs (the_template c.args.t.now) (have-grown s b c.args.t.now.sorts vs (Grows-built s b over.built) c.requires.variables) c.requires.template)

pub returns-in_err-strings-clause-adds : goal.returns-in_err-strings-clause-adds
returns-in_err-strings-clause-adds c =
    let vs = the_places c.args.variables in
    let s = c.args.self.now.store in
    let b = c.copy_atoms-2.new.self.store in
    over-both vs s b c.copy_refs.new.self.store (over-both vs s c.copy_atoms.new.self.store b (subst (λ (z : TermStore). AddsOver (the_places c.args.variables) z.store c.copy_atoms.new.self.store) c.in_ok-literals.ensures.same c.in_ok-copy_atoms.ensures.adds) c.in_ok-copy_atoms-2.ensures.adds) c.in_err-strings.ensures.adds

pub copy_gammas-requires : goal.copy_gammas-requires
copy_gammas-requires c =
    let vs = the_places c.args.variables in
    let s = c.args.self.now.store in
    let b = c.copy_atoms-2.new.self.store in
    let d = c.copy_refs.new.self.store in
    let over = over-both vs s b d (over-both vs s c.copy_atoms.new.self.store b (subst (λ (z : TermStore). AddsOver (the_places c.args.variables) z.store c.copy_atoms.new.self.store) c.in_ok-literals.ensures.same c.in_ok-copy_atoms.ensures.adds) c.in_ok-copy_atoms-2.ensures.adds) c.in_ok-strings.ensures.adds in
    template-gammas d vs (the_template c.args.t.now) (have-grown s d c.args.t.now.sorts vs (Grows-built s d over.built) c.requires.variables) c.requires.template

pub returns-in_err-gammas-clause-adds : goal.returns-in_err-gammas-clause-adds
returns-in_err-gammas-clause-adds c =
    let vs = the_places c.args.variables in
    let s = c.args.self.now.store in
    let b = c.copy_atoms-2.new.self.store in
    let d = c.copy_refs.new.self.store in
    let over = over-both vs s b d (over-both vs s c.copy_atoms.new.self.store b (subst (λ (z : TermStore). AddsOver (the_places c.args.variables) z.store c.copy_atoms.new.self.store) c.in_ok-literals.ensures.same c.in_ok-copy_atoms.ensures.adds) c.in_ok-copy_atoms-2.ensures.adds) c.in_ok-strings.ensures.adds in
    over-both vs s d c.copy_gammas.new.self.store over c.in_err-gammas.ensures.adds

pub returns-clause-copy : goal.returns-clause-copy
returns-clause-copy c =
    let vs = the_places c.args.variables in
    let s = c.args.self.now.store in
    let b = c.copy_atoms-2.new.self.store in
    let d = c.copy_refs.new.self.store in
    let over = over-both vs s c.copy_atoms.new.self.store b (subst (λ (z : TermStore). AddsOver (the_places c.args.variables) z.store c.copy_atoms.new.self.store) c.in_ok-literals.ensures.same c.in_ok-copy_atoms.ensures.adds) c.in_ok-copy_atoms-2.ensures.adds in
    let fits = template-strings b vs (the_template c.args.t.now) (have-grown s b c.args.t.now.sorts vs (Grows-built s b over.built) c.requires.variables) c.requires.template in
    let sorted = sorted-alone d StringSort c.in_ok-strings.strings (c.in_ok-strings.ensures.sorts StringSort false fits) in
    (clause-made s c.copy_atoms.new.self.store b d c.copy_gammas.new.self.store vs (the_template c.args.t.now) (map the_pattern_atom c.args.front.now) (map the_pattern_atom c.args.back.now) c.in_ok-literals.literals c.copy_atoms.new.copied c.copy_atoms-2.new.copied c.in_ok-strings.strings c.in_ok-gammas.gammas c.in_ok-literals.ensures.none (subst (λ (z : TermStore). AtomsCopied c.copy_atoms.new.self.store (the_places c.args.variables) (length z.store.cells) c.in_ok-literals.literals c.copy_atoms.new.copied (map the_pattern_atom c.args.front.now)) c.in_ok-literals.ensures.same c.in_ok-copy_atoms.ensures.copies) (subst (λ (z : TermStore). AddsOver (the_places c.args.variables) z.store c.copy_atoms.new.self.store) c.in_ok-literals.ensures.same c.in_ok-copy_atoms.ensures.adds) c.in_ok-copy_atoms-2.ensures.copies c.in_ok-copy_atoms-2.ensures.adds c.in_ok-strings.ensures.copies sorted c.in_ok-strings.ensures.own c.in_ok-strings.ensures.adds c.in_ok-gammas.ensures.copies c.in_ok-gammas.ensures.sorts c.in_ok-gammas.ensures.own c.in_ok-gammas.ensures.adds).copy

pub returns-clause-sorts : goal.returns-clause-sorts
returns-clause-sorts c =
    let vs = the_places c.args.variables in
    let s = c.args.self.now.store in
    let b = c.copy_atoms-2.new.self.store in
    let d = c.copy_refs.new.self.store in
    let over = over-both vs s c.copy_atoms.new.self.store b (subst (λ (z : TermStore). AddsOver (the_places c.args.variables) z.store c.copy_atoms.new.self.store) c.in_ok-literals.ensures.same c.in_ok-copy_atoms.ensures.adds) c.in_ok-copy_atoms-2.ensures.adds in
    let fits = template-strings b vs (the_template c.args.t.now) (have-grown s b c.args.t.now.sorts vs (Grows-built s b over.built) c.requires.variables) c.requires.template in
    let sorted = sorted-alone d StringSort c.in_ok-strings.strings (c.in_ok-strings.ensures.sorts StringSort false fits) in
    (clause-made s c.copy_atoms.new.self.store b d c.copy_gammas.new.self.store vs (the_template c.args.t.now) (map the_pattern_atom c.args.front.now) (map the_pattern_atom c.args.back.now) c.in_ok-literals.literals c.copy_atoms.new.copied c.copy_atoms-2.new.copied c.in_ok-strings.strings c.in_ok-gammas.gammas c.in_ok-literals.ensures.none (subst (λ (z : TermStore). AtomsCopied c.copy_atoms.new.self.store (the_places c.args.variables) (length z.store.cells) c.in_ok-literals.literals c.copy_atoms.new.copied (map the_pattern_atom c.args.front.now)) c.in_ok-literals.ensures.same c.in_ok-copy_atoms.ensures.copies) (subst (λ (z : TermStore). AddsOver (the_places c.args.variables) z.store c.copy_atoms.new.self.store) c.in_ok-literals.ensures.same c.in_ok-copy_atoms.ensures.adds) c.in_ok-copy_atoms-2.ensures.copies c.in_ok-copy_atoms-2.ensures.adds c.in_ok-strings.ensures.copies sorted c.in_ok-strings.ensures.own c.in_ok-strings.ensures.adds c.in_ok-gammas.ensures.copies c.in_ok-gammas.ensures.sorts c.in_ok-gammas.ensures.own c.in_ok-gammas.ensures.adds).sorts

pub returns-clause-own : goal.returns-clause-own
returns-clause-own c =
    let vs = the_places c.args.variables in
    let s = c.args.self.now.store in
    let b = c.copy_atoms-2.new.self.store in
    let d = c.copy_refs.new.self.store in
    let over = over-both vs s c.copy_atoms.new.self.store b (subst (λ (z : TermStore). AddsOver (the_places c.args.variables) z.store c.copy_atoms.new.self.store) c.in_ok-literals.ensures.same c.in_ok-copy_atoms.ensures.adds) c.in_ok-copy_atoms-2.ensures.adds in
    let fits = template-strings b vs (the_template c.args.t.now) (have-grown s b c.args.t.now.sorts vs (Grows-built s b over.built) c.requires.variables) c.requires.template in
    let sorted = sorted-alone d StringSort c.in_ok-strings.strings (c.in_ok-strings.ensures.sorts StringSort false fits) in
    (clause-made s c.copy_atoms.new.self.store b d c.copy_gammas.new.self.store vs (the_template c.args.t.now) (map the_pattern_atom c.args.front.now) (map the_pattern_atom c.args.back.now) c.in_ok-literals.literals c.copy_atoms.new.copied c.copy_atoms-2.new.copied c.in_ok-strings.strings c.in_ok-gammas.gammas c.in_ok-literals.ensures.none (subst (λ (z : TermStore). AtomsCopied c.copy_atoms.new.self.store (the_places c.args.variables) (length z.store.cells) c.in_ok-literals.literals c.copy_atoms.new.copied (map the_pattern_atom c.args.front.now)) c.in_ok-literals.ensures.same c.in_ok-copy_atoms.ensures.copies) (subst (λ (z : TermStore). AddsOver (the_places c.args.variables) z.store c.copy_atoms.new.self.store) c.in_ok-literals.ensures.same c.in_ok-copy_atoms.ensures.adds) c.in_ok-copy_atoms-2.ensures.copies c.in_ok-copy_atoms-2.ensures.adds c.in_ok-strings.ensures.copies sorted c.in_ok-strings.ensures.own c.in_ok-strings.ensures.adds c.in_ok-gammas.ensures.copies c.in_ok-gammas.ensures.sorts c.in_ok-gammas.ensures.own c.in_ok-gammas.ensures.adds).own

pub returns-clause-adds : goal.returns-clause-adds
returns-clause-adds c =
    let vs = the_places c.args.variables in
    let s = c.args.self.now.store in
    let b = c.copy_atoms-2.new.self.store in
    let d = c.copy_refs.new.self.store in
    let over = over-both vs s c.copy_atoms.new.self.store b (subst (λ (z : TermStore). AddsOver (the_places c.args.variables) z.store c.copy_atoms.new.self.store) c.in_ok-literals.ensures.same c.in_ok-copy_atoms.ensures.adds) c.in_ok-copy_atoms-2.ensures.adds in
    let fits = template-strings b vs (the_template c.args.t.now) (have-grown s b c.args.t.now.sorts vs (Grows-built s b over.built) c.requires.variables) c.requires.template in
    let sorted = sorted-alone d StringSort c.in_ok-strings.strings (c.in_ok-strings.ensures.sorts StringSort false fits) in
    (clause-made s c.copy_atoms.new.self.store b d c.copy_gammas.new.self.store vs (the_template c.args.t.now) (map the_pattern_atom c.args.front.now) (map the_pattern_atom c.args.back.now) c.in_ok-literals.literals c.copy_atoms.new.copied c.copy_atoms-2.new.copied c.in_ok-strings.strings c.in_ok-gammas.gammas c.in_ok-literals.ensures.none (subst (λ (z : TermStore). AtomsCopied c.copy_atoms.new.self.store (the_places c.args.variables) (length z.store.cells) c.in_ok-literals.literals c.copy_atoms.new.copied (map the_pattern_atom c.args.front.now)) c.in_ok-literals.ensures.same c.in_ok-copy_atoms.ensures.copies) (subst (λ (z : TermStore). AddsOver (the_places c.args.variables) z.store c.copy_atoms.new.self.store) c.in_ok-literals.ensures.same c.in_ok-copy_atoms.ensures.adds) c.in_ok-copy_atoms-2.ensures.copies c.in_ok-copy_atoms-2.ensures.adds c.in_ok-strings.ensures.copies sorted c.in_ok-strings.ensures.own c.in_ok-strings.ensures.adds c.in_ok-gammas.ensures.copies c.in_ok-gammas.ensures.sorts c.in_ok-gammas.ensures.own c.in_ok-gammas.ensures.adds).adds

pub returns-clause-within : goal.returns-clause-within
returns-clause-within c = within-clause (the_places c.args.variables) c.args.self.now.store c.copy_atoms.new.self.store c.copy_atoms-2.new.self.store c.copy_refs.new.self.store c.copy_gammas.new.self.store (the_template c.args.t.now) (map the_pattern_atom c.args.front.now) (map the_pattern_atom c.args.back.now) c.requires.variables (subst (λ (z : TermStore). AddsOver (the_places c.args.variables) z.store c.copy_atoms.new.self.store) c.in_ok-literals.ensures.same c.in_ok-copy_atoms.ensures.adds).built c.in_ok-copy_atoms-2.ensures.adds.built c.in_ok-strings.ensures.adds.built (subst (λ (z : TermStore). BuildsOver (the_places c.args.variables) (λ sorts g. list_all (allows_atom g sorts) (map the_pattern_atom c.args.front.now)) z.store c.copy_atoms.new.self.store) c.in_ok-literals.ensures.same c.in_ok-copy_atoms.ensures.within) c.in_ok-copy_atoms-2.ensures.within c.in_ok-strings.ensures.within c.in_ok-gammas.ensures.within
