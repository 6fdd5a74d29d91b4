use Rattle.std.proofs.Common.{◌≡◌, ◌∙◌, ap₂, arith, map, subst, sym}
use Rattle.std.proofs.lemmas.List.{length-map}
use Rattle.plain_laws.proofs.Every.{all-at}
use Rattle.store_theory.specs.Systems.{is_gamma_cell}
use Rattle.search_theory.specs.Demanding.{equation}
use Rattle.term_store.specs.ClauseView.{the_gamma}
use Rattle.domain_cond.specs.Conditions.{IsForced}
use Rattle.domain_cond.specs.StandingView.{the_standing}
use Rattle.domain_cond.specs.Standings.{LabelsAgree}
use Rattle.domain_cond.proofs.AskingLaws.{names-labels}
use Rattle.domain_cond.proofs.ConditionLaws.{gamma-parts}
use Rattle.domain_cond.proofs.StandingLaws.{agree-next, agree-start, agree-whole, label-agrees, label-forced, standing-own}
use Rattle.domain_cond.proofs.standing.unequal_label.Goals as goal

pub disagree-requires-clause-left : goal.disagree-requires-clause-left
disagree-requires-clause-left c = (gamma-parts c.args.store.now.store (the_gamma c.gamma_at-gamma.result.now) (all-at (is_gamma_cell c.args.store.now.store) (map the_gamma c.args.gammas.now) c.args.place (the_gamma c.gamma_at-gamma.result.now) c.requires.gammas c.gamma_at-gamma.ensures)).1

pub disagree-requires-clause-right : goal.disagree-requires-clause-right
disagree-requires-clause-right c = (gamma-parts c.args.store.now.store (the_gamma c.gamma_at-other.result.now) (all-at (is_gamma_cell c.args.store.now.store) (map the_gamma c.args.gammas.now) c.loop-i.i (the_gamma c.gamma_at-other.result.now) c.requires.gammas c.gamma_at-other.ensures)).1

pub disagree-requires-clause-free_left : goal.disagree-requires-clause-free_left
disagree-requires-clause-free_left c = c.requires.free c.args.place (the_gamma c.gamma_at-gamma.result.now) c.gamma_at-gamma.ensures

pub disagree-requires-clause-free_right : goal.disagree-requires-clause-free_right
disagree-requires-clause-free_right c = c.requires.free c.loop-i.i (the_gamma c.gamma_at-other.result.now) c.gamma_at-other.ensures

pub returns-then-branch-clause-unmet : goal.returns-then-branch-clause-unmet
returns-then-branch-clause-unmet c =
    let s = c.args.store.now.store in
    let gs = map the_gamma c.args.gammas.now in
    let ts = map the_standing c.args.standings.now in
    let g = the_gamma c.gamma_at-gamma.result.now in
    let h = the_gamma c.gamma_at-other.result.now in
    let t = the_standing c.standing_at-standing.result.now in
    let u = the_standing c.standing_at-below.result.now in
    let (both, differ) = c.in_ok-disagree.ensures.yes c.if-branch.true in
    let left : c.in_ok-left.left ≡ g.label = c.in_ok-left.ensures ∙ c.items.ensures in
    let right : c.in_ok-right.right ≡ h.label = c.in_ok-right.ensures ∙ c.items-then-branch.ensures in
    subst (IsForced s (LabelsAgree s gs)) (sym (ap₂ equation left right)) (label-forced s gs c.args.place c.loop-i.i g h t u c.requires.gammas c.requires.free c.gamma_at-gamma.ensures c.gamma_at-other.ensures (standing-own s gs ts c.args.place g t c.requires.standings c.gamma_at-gamma.ensures c.standing_at-standing.ensures) (standing-own s gs ts c.loop-i.i h u c.requires.standings c.gamma_at-other.ensures c.standing_at-below.ensures) both differ)

pub loop-i-preserved : goal.loop-i-preserved
loop-i-preserved c =
    let s = c.args.store.now.store in
    let gs = map the_gamma c.args.gammas.now in
    let ts = map the_standing c.args.standings.now in
    let g = the_gamma c.gamma_at-gamma.result.now in
    let h = the_gamma c.gamma_at-other.result.now in
    let t = the_standing c.standing_at-standing.result.now in
    let u = the_standing c.standing_at-below.result.now in
    agree-next s gs c.loop-i.i g h c.loop-i.invariant c.gamma_at-other.ensures (label-agrees s gs c.args.place c.loop-i.i g h t u c.requires.gammas c.gamma_at-gamma.ensures c.gamma_at-other.ensures (standing-own s gs ts c.args.place g t c.requires.standings c.gamma_at-gamma.ensures c.standing_at-standing.ensures) (standing-own s gs ts c.loop-i.i h u c.requires.standings c.gamma_at-other.ensures c.standing_at-below.ensures) (c.in_ok-disagree.ensures.no c.if-branch.false))

pub returns-clause-met : goal.returns-clause-met
returns-clause-met c = λ q g at.
    let n = length-map c.args.gammas.now the_gamma in
    let gs = map the_gamma c.args.gammas.now in
    agree-whole c.args.store.now.store gs c.args.place c.loop-i.i (the_gamma c.gamma_at-gamma.result.now) g (omega (arith, n)) c.gamma_at-gamma.ensures at c.loop-i.invariant

pub loop-i-init : goal.loop-i-init
loop-i-init c = agree-start c.args.store.now.store (map the_gamma c.args.gammas.now) (the_gamma c.gamma_at-gamma.result.now)

pub returns-then-branch-clause-names : goal.returns-then-branch-clause-names
returns-then-branch-clause-names c =
    let g = the_gamma c.gamma_at-gamma.result.now in
    let h = the_gamma c.gamma_at-other.result.now in
    let left : c.in_ok-left.left ≡ g.label = c.in_ok-left.ensures ∙ c.items.ensures in
    let right : c.in_ok-right.right ≡ h.label = c.in_ok-right.ensures ∙ c.items-then-branch.ensures in
    names-labels (map the_gamma c.args.gammas.now) c.args.place c.loop-i.i g h (equation c.in_ok-left.left c.in_ok-right.right) c.gamma_at-gamma.ensures c.gamma_at-other.ensures left right
