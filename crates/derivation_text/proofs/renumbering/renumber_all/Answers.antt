use Rattle.std.proofs.Common.{[], length, map, ap, sym, subst, ◌∙◌}
use Rattle.std.specs.List.{list_all}
use Rattle.calculus.specs.Versions.{NumberedDerivation, numbering, same_label, stated_eigen, stated_spare, stated_step}
use Rattle.calculus.specs.Equality.{term_eq}
use Rattle.calculus.specs.Syntax.{spare}
use Rattle.derivation_text.specs.Renumbering.{AreNew}
use Rattle.derivation_text.specs.Entering.{derivation_with}
use Rattle.derivation_text.specs.Listed.{are_listed, has_home_among, may_have_home_among}
use Rattle.derivation_text.proofs.renumbering.renumber_all.Goals as goal

pub renumber_eigens-requires-clause-among : goal.renumber_eigens-requires-clause-among
renumber_eigens-requires-clause-among c = ap (list_all (has_home_among (length c.args.d.now.labels))) c.eigens-eigens.ensures.view ∙ c.eigens-eigens.ensures.among

pub renumber_spares-requires-clause-among : goal.renumber_spares-requires-clause-among
renumber_spares-requires-clause-among c = ap (list_all (may_have_home_among (length c.args.d.now.labels))) c.spares-spares.ensures.view ∙ c.spares-spares.ensures.among

pub renumber_steps-requires-clause-listed : goal.renumber_steps-requires-clause-listed
renumber_steps-requires-clause-listed c = ap (list_all (are_listed (length c.args.d.now.labels) (length c.args.d.now.terms))) c.steps-steps.ensures.view ∙ c.steps-steps.ensures.listed

pub renumber_eigens-requires-clause-labels : goal.renumber_eigens-requires-clause-labels
renumber_eigens-requires-clause-labels c = subst (λ (d : NumberedDerivation). AreNew same_label [] c.args.d.now.labels d.labels c.args.labels.now) (sym c.requires.empty) c.requires.labels

pub renumber_steps-requires-clause-terms : goal.renumber_steps-requires-clause-terms
renumber_steps-requires-clause-terms c = subst (λ ts. AreNew term_eq (spare 0) c.args.d.now.terms ts c.args.terms.now) (sym (c.in_ok-renumber_spares.ensures.terms ∙ c.in_ok-renumber_eigens.ensures.terms ∙ ap (λ (d : NumberedDerivation). d.terms) c.requires.empty)) c.requires.terms

pub returns : goal.returns
returns c =
    let n = c.args.d.now.limit in
    let L = c.args.d.now.labels in
    let T = c.args.d.now.terms in
    let a = c.in_ok-renumber_eigens.ensures.put n c.requires.empty in
    let b = c.in_ok-renumber_spares.ensures.put n _ a in
    let s = c.in_ok-renumber_steps.ensures n _ _ b in
    s ∙ (λ i. numbering (derivation_with n (map (stated_eigen L) (c.eigens-eigens.ensures.view i)) (map (stated_spare L) (c.spares-spares.ensures.view i)) (map (stated_step L T) (c.steps-steps.ensures.view i))))
