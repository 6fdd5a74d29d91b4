use Rattle.std.proofs.Common.{refl, ◌∙◌}
use Rattle.std.proofs.lemmas.Bool.{not-false, not-true}
use Rattle.formula_core.proofs.GrownLaws.{grown-both, values-grown}
use Rattle.tableau_cert.specs.Gathering.{the_summary}
use Rattle.tableau_text.specs.MovesView.{the_chosen}
use Rattle.tableau_cert.proofs.FoundLaws.{found-allowed, found-not_allowed}
use Rattle.tableau_cert.proofs.SteppingLaws.{values-normal-grown}
use Rattle.tableau_cert.proofs.resolving.used_up.Goals as goal

pub returns-then-not-all : goal.returns-then-not-all
returns-then-not-all c P before after g h a n u e =
    found-not_allowed P c.args.given.now before after (the_chosen c.args.given.now c.args.chosen.now) _ h (the_summary after c.args.all) a e u (not-true _ c.if-not-all.true) refl refl

pub returns : goal.returns
returns c P before after g h a n u e = let given = c.args.given.now in let v = c.normal_values.ensures in
    found-allowed P given before after (the_chosen given c.args.chosen.now) _ h (the_summary after c.args.all) a e _ u (not-false _ c.if-not-all.false) refl refl
    (let s = c.in_ok-selection.ensures in let w = values-grown given after (grown-both given before after g h) _ v.normal ∙ v.same in λ i. record { selection = s i; values = w i; literals = (the_summary after c.args.all).literals })
    (values-normal-grown given after (grown-both given before after g h) _ v.normal) n
