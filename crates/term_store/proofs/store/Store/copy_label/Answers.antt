use Rattle.std.proofs.Common.{◌≡◌, ◌∙◌, IsTrue, subst, sym, true}
use Rattle.calculus.specs.declared.sort.Sort.TheVariants.{MarkSort}
use Rattle.store_theory.specs.Patterns.{AreCopies, patterns_tree}
use Rattle.store_theory.specs.Patterns as tree
use Rattle.term_store.specs.ClauseView.{the_pattern_atom}
use Rattle.term_store.specs.Fitting.{label_fits_in}
use Rattle.term_store.specs.RefView.{the_places}
use Rattle.term_store.specs.Signatures.{allows_all}
use Rattle.term_store.specs.TemplateView.{the_template}
use Rattle.term_store.proofs.FitLaws.{label-fits-at}
use Rattle.term_store.proofs.ListLaws.{literal-there}
use Rattle.term_store.proofs.store.Store.copy_label.Goals as goal

pub copy_refs-requires : goal.copy_refs-requires
copy_refs-requires c =
    let t = the_template c.args.t.now in
    let at = literal-there the_pattern_atom c.items.result.now c.args.t.now.literals c.args.place c.index-items-place.result c.items.ensures c.requires.place c.index-items-place.is in
    let fits = label-fits-at c.args.self.now.store (the_places c.args.variables) t c.args.place (the_pattern_atom c.index-items-place.result) c.requires.variables c.requires.template at in
    (MarkSort, true, subst (λ x. IsTrue (label_fits_in c.args.self.now.store (the_places c.args.variables) x.label)) c.index-items-place.is fits)

pub returns-clause-copy : goal.returns-clause-copy
returns-clause-copy c = (
  the_pattern_atom c.index-items-place.result,
  literal-there the_pattern_atom c.items.result.now c.args.t.now.literals c.args.place c.index-items-place.result c.items.ensures c.requires.place c.index-items-place.is,
  subst (λ x. AreCopies c.copy_refs.new.self.store (the_places c.args.variables) (patterns_tree x.label) c.in_ok-label.label) (sym c.index-items-place.is) c.in_ok-label.ensures.copies,
)

pub returns-clause-sorts : goal.returns-clause-sorts
returns-clause-sorts c =
    let t = the_template c.args.t.now in
    let at = literal-there the_pattern_atom c.items.result.now c.args.t.now.literals c.args.place c.index-items-place.result c.items.ensures c.requires.place c.index-items-place.is in
    let fits = label-fits-at c.args.self.now.store (the_places c.args.variables) t c.args.place (the_pattern_atom c.index-items-place.result) c.requires.variables c.requires.template at in
    c.in_ok-label.ensures.sorts MarkSort true
    (subst (λ x. IsTrue (label_fits_in c.args.self.now.store (the_places c.args.variables) x.label)) c.index-items-place.is fits)

pub returns-clause-within : goal.returns-clause-within
returns-clause-within c = λ a e g base h k.
    let at = literal-there the_pattern_atom c.items.result.now c.args.t.now.literals c.args.place c.index-items-place.result c.items.ensures c.requires.place c.index-items-place.is in
    let same : the_pattern_atom c.index-items-place.result ≡ a = cc (sym at ∙ e) in
    let allowed = subst (λ (x : tree.PatternAtom). IsTrue (allows_all g c.args.t.now.sorts (patterns_tree x.label))) (sym same) h in
    c.in_ok-label.ensures.within c.args.t.now.sorts c.requires.variables g base
    (subst (λ x. IsTrue (allows_all g c.args.t.now.sorts (patterns_tree x.label))) c.index-items-place.is allowed) k
