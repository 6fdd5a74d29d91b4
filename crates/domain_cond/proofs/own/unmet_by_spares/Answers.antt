use Rattle.std.proofs.Common.{◌∙◌, IfSome, ap, map, slice_get, subst, sym}
use Rattle.store_theory.specs.Bindings.{nothing_more}
use Rattle.store_theory.specs.Systems.{cells_of}
use Rattle.search_theory.proofs.OwnHomes.{homes-cells}
use Rattle.term_store.specs.ClauseView.{the_gamma}
use Rattle.term_store.specs.SystemView.{the_equation, the_system}
use Rattle.domain_cond.specs.Conditions.{IsForced, NamesGammas}
use Rattle.domain_cond.specs.StandingView.{the_standing}
use Rattle.domain_cond.specs.Standings.{AreStandings, ConstantStands, HasOwnSpares, LabelsAgree, home_marks}
use Rattle.domain_cond.proofs.AskingLaws.{right-labels, right-never}
use Rattle.domain_cond.proofs.ConditionLaws.{gamma-free}
use Rattle.domain_cond.proofs.OwnLaws.{constant-never, cycle-never, labels-demanded, never-demanded}
use Rattle.domain_cond.proofs.StandingLaws.{tells-homes}
use Rattle.domain_cond.proofs.own.unmet_by_spares.Goals as goal

pub standings-requires-clause-free : goal.standings-requires-clause-free
standings-requires-clause-free c = λ j g at. (gamma-free c.args.store.now.store (the_system c.args.system.now) c.requires.no_string j g (ap (λ xs. slice_get xs j) (sym c.items-gammas.ensures) ∙ at)).1

pub returns-in_err-standings-clause-adds : goal.returns-in_err-standings-clause-adds
returns-in_err-standings-clause-adds c = nothing_more

pub returns-then-constant_stands-clause-unmet : goal.returns-then-constant_stands-clause-unmet
returns-then-constant_stands-clause-unmet c = λ P d common.
    let s = c.args.store.now.store in
    let y = the_system c.args.system.now in
    let stands : ConstantStands s y.gammas = subst (ConstantStands s) c.items-gammas.ensures (c.constant_stands.ensures.yes c.if-constant_stands.true) in
    never-demanded P s c.impossible.new.store.store y (the_equation c.in_ok-e.e) c.impossible.ensures.adds (constant-never P s y common stands) c.in_ok-e.ensures.never

pub unequal_labels-requires-clause-free : goal.unequal_labels-requires-clause-free
unequal_labels-requires-clause-free c = λ j g at. (gamma-free c.args.store.now.store (the_system c.args.system.now) c.requires.no_string j g (ap (λ xs. slice_get xs j) (sym c.items-gammas.ensures) ∙ at)).1

pub returns-in_err-e-2-clause-adds : goal.returns-in_err-e-2-clause-adds
returns-in_err-e-2-clause-adds c = nothing_more

pub returns-in-Some-clause-unmet : goal.returns-in-Some-clause-unmet
returns-in-Some-clause-unmet c = λ P d common.
    let s = c.args.store.now.store in
    let y = the_system c.args.system.now in
    let forced : IsForced s (LabelsAgree s (map the_gamma c.items-gammas.result.now)) (the_equation c.in-Some.e) = subst (λ o. IfSome o (λ e. IsForced s (LabelsAgree s (map the_gamma c.items-gammas.result.now)) (the_equation e))) c.in-Some.is c.in_ok-e-2.ensures.unmet in
    labels-demanded P s y (the_equation c.in-Some.e) d common (subst (λ gs. IsForced s (LabelsAgree s gs) (the_equation c.in-Some.e)) c.items-gammas.ensures forced)

pub returns-in-Some-clause-adds : goal.returns-in-Some-clause-adds
returns-in-Some-clause-adds c = nothing_more

pub has_no_cycle-requires : goal.has_no_cycle-requires
has_no_cycle-requires c =
    let s = c.args.store.now.store in
    let gs = map the_gamma c.items-gammas.result.now in
    let ts = map the_standing c.deref-3.result.now in
    let are : AreStandings s gs ts = subst (λ xs. AreStandings s gs (map the_standing xs)) (sym c.deref-3.ensures.value) c.in_ok-standings.ensures in
    homes-cells s gs (home_marks ts) c.mark-now.ensures.well.fits (tells-homes s gs ts are)

pub returns-in_err-has_no_cycle-clause-adds : goal.returns-in_err-has_no_cycle-clause-adds
returns-in_err-has_no_cycle-clause-adds c = nothing_more

pub returns-then-branch-clause-met : goal.returns-then-branch-clause-met
returns-then-branch-clause-met c = λ q.
    let s = c.args.store.now.store in
    let gs = map the_gamma c.items-gammas.result.now in
    let ts = map the_standing c.deref-3.result.now in
    let are : AreStandings s gs ts = subst (λ xs. AreStandings s gs (map the_standing xs)) (sym c.deref-3.ensures.value) c.in_ok-standings.ensures in
    let own : HasOwnSpares s gs = record {
      home = home_marks ts;
      tells = tells-homes s gs ts are;
      constants = c.constant_stands.ensures.no c.if-constant_stands.false;
      agree = c.in_ok-e-2.ensures.met c.in_default.is;
      no_cycle = c.in_ok-has_no_cycle.ensures.yes c.if-branch.true;
    } in
    subst (HasOwnSpares s) c.items-gammas.ensures own

pub returns-then-branch-clause-adds : goal.returns-then-branch-clause-adds
returns-then-branch-clause-adds c = nothing_more

pub returns-clause-unmet : goal.returns-clause-unmet
returns-clause-unmet c = λ P d common.
    let s = c.args.store.now.store in
    let y = the_system c.args.system.now in
    let ts = map the_standing c.deref-3.result.now in
    let are : AreStandings s (map the_gamma c.items-gammas.result.now) ts = subst (λ xs. AreStandings s (map the_gamma c.items-gammas.result.now) (map the_standing xs)) (sym c.deref-3.ensures.value) c.in_ok-standings.ensures in
    never-demanded P s c.impossible-2.new.store.store y (the_equation c.in_ok-e-3.e) c.impossible-2.ensures.adds (cycle-never P s y ts d common c.mark-now.ensures.well (subst (λ gs. AreStandings s gs ts) c.items-gammas.ensures are) (c.in_ok-has_no_cycle.ensures.no c.if-branch.false)) c.in_ok-e-3.ensures.never

-- ---- what is built right

pub returns-then-constant_stands-clause-right : goal.returns-then-constant_stands-clause-right
returns-then-constant_stands-clause-right c = λ P. right-never P (cells_of (the_system c.args.system.now)) c.args.store.now.store c.impossible.new.store.store (the_equation c.in_ok-e.e) c.in_ok-e.ensures.apart

pub returns-in-Some-clause-right : goal.returns-in-Some-clause-right
returns-in-Some-clause-right c = λ P.
    let gs = map the_gamma c.items-gammas.result.now in
    let e = the_equation c.in-Some.e in
    let names : NamesGammas gs e = subst (λ o. IfSome o (λ x. NamesGammas gs (the_equation x))) c.in-Some.is c.in_ok-e-2.ensures.names in
    right-labels P c.args.store.now.store (the_system c.args.system.now) e (subst (λ xs. NamesGammas xs e) c.items-gammas.ensures names)

pub returns-clause-right : goal.returns-clause-right
returns-clause-right c = λ P. right-never P (cells_of (the_system c.args.system.now)) c.args.store.now.store c.impossible-2.new.store.store (the_equation c.in_ok-e-3.e) c.in_ok-e-3.ensures.apart
