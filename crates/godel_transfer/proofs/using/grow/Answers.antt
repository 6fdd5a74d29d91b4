use Rattle.std.proofs.Common.{◌≡◌, ◌++◌, [], get_or, OnOk, refl, subst, sym, ◌∙◌}
use Rattle.calculus.specs.Kinds.{components, shape_of}
use Rattle.formula_core.specs.FormulaView.{the_formula}
use Rattle.godel_transfer.specs.BranchView.{branches_of, introduced_by, named_by, put_for, the_branch, waiting_in}
use Rattle.godel_transfer.specs.declared.branches.Branches.{Branches}
use Rattle.sequent_calc.specs.StepView.{the_modal, the_term_arg}
use Rattle.godel_transfer.proofs.GrownLaws.{grown-put, named-branch, named-kept, named-waiting, then-compound}
use Rattle.godel_transfer.proofs.using.grow.Goals as goal

pub add_components-requires-clause-kept : goal.add_components-requires-clause-kept
add_components-requires-clause-kept c =
    let old = c.args.branches.now in
    let mid : Branches = record { is_open = old.is_open; entries = old.entries; count = c.in_ok-before.before; characters = c.add_images.new.characters; eigens = c.add_images.new.eigens; forks = old.forks; labels = old.labels } in
    let m = the_modal c.args.modal.now in
    let t = the_term_arg c.args.term.now in
    named-kept old mid (introduced_by m old.count) (named_by t c.args.number) refl refl refl c.in_ok-add_images.ensures.characters.0 c.in_ok-add_images.ensures.eigens.0 c.in_ok-add_images.ensures.characters.1 c.in_ok-add_images.ensures.eigens.1 c.requires.kept

pub returns-clause-grown : goal.returns-clause-grown
returns-clause-grown c =
    let old = c.args.branches.now in
    let mid : Branches = record { is_open = old.is_open; entries = old.entries; count = c.in_ok-before.before; characters = c.add_images.new.characters; eigens = c.add_images.new.eigens; forks = old.forks; labels = old.labels } in
    let m = the_modal c.args.modal.now in
    let t = the_term_arg c.args.term.now in
    let s = c.args.used.sign in
    let a = the_formula c.args.used.formula.now in
    let w = get_or old.labels c.args.used.label [] in
    let named = named-branch old mid c.args.number a m t refl refl c.in_ok-before.ensures c.in_ok-add_images.ensures.characters.0 c.in_ok-add_images.ensures.eigens.0 c.requires.compound in
    let wait = named-waiting old mid (introduced_by m old.count) (named_by t c.args.number) refl refl refl c.in_ok-add_images.ensures.characters.0 c.in_ok-add_images.ensures.eigens.0 c.requires.kept in
    let at = c.requires.label.1 ∙ then-compound (the_branch old) s a w m c.requires.compound in
    subst (λ bs. OnOk c.add_components.result (branches_of c.add_components.new.branches ≡ bs))
    ((λ i. put_for (shape_of s a) (named i) (at i) (components s a) ++ wait i)
    ∙ (λ i. sym (grown-put (the_branch old) c.args.number c.args.used.place s a w m t c.requires.compound) i ++ waiting_in old)) c.add_components.ensures.added
