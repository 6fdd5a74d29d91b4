use Rattle.std.proofs.Common.{◌∷◌, ◌++◌, [], ◌+◌, ap, arith, sym, ◌∙◌, map, length, refl}
use Rattle.std.proofs.lemmas.List.{length-map, map-append}
use Rattle.calculus.specs.declared.kind.ModalPart.TheVariants.{Plain, Nu, Pi}
use Rattle.calculus.specs.ComputedInstances.{part_of}
use Rattle.std.specs.Option.{option_map}
use Rattle.calculus.specs.Instances.{Spot}
use Rattle.calculus.specs.Labels.{nu_label}
use Rattle.calculus.specs.Positions.{size}
use Rattle.calculus.specs.Kinds.{components, shape_of}
use Rattle.formula_core.specs.FormulaView.{the_formula}
use Rattle.formula_core.specs.declared.ground.Value.TheVariants as value
use Rattle.formula_core.specs.GroundLists.{the_mark, the_marks, the_value, the_g_term}
use Rattle.tableau_core.specs.Numbered.SpotView.{the_bound, the_mark_at}
use Rattle.tableau_core.specs.Walks.{shaped_by}
use Rattle.tableau_core.specs.Numbered.WalkView.{the_left, the_spot}
use Rattle.tableau_core.proofs.WalkLaws.{left-part, left-plain, left-by, pi-by, nu-by, nu-not, gamma-by, gamma-not, delta-by, first-by, second-by, beta-none, beta-some, one-by, left-no_side, nu-none, gamma-none}
use Rattle.tableau_core.proofs.walk.+walk.Goals as goal

pub walk-returns-in_ok-past-in-Plain : goal.walk-returns-in_ok-past-in-Plain
walk-returns-in_ok-past-in-Plain t c = let f = the_formula c.args.a.formula.now in let s = c.args.a.sign in let x = (the_spot c.args.table.now) c.args.spot.now in let r = (the_left c.args.table.now) c.args.rest.now in let P = c.args.problem.now in
    c.in_ok-past-in-Plain.ensures ∙ sym (left-plain P c.args.logic (shaped_by c.args.logic (shape_of s f) (components s f)) x r) ∙ sym (left-part P c.args.logic s f c.kind_of.result.modal Plain x r c.kind_of.ensures.modal c.in-Plain.is)

pub walk-returns-in_ok-past-in-Nu : goal.walk-returns-in_ok-past-in-Nu
walk-returns-in_ok-past-in-Nu t c = let f = the_formula c.args.a.formula.now in let s = c.args.a.sign in let x = (the_spot c.args.table.now) c.args.spot.now in let r = (the_left c.args.table.now) c.args.rest.now in let P = c.args.problem.now in
    c.in_ok-past-in-Nu.ensures ∙ sym (left-part P c.args.logic s f c.kind_of.result.modal Nu x r c.kind_of.ensures.modal c.in-Nu.is)

pub walk-returns-in_ok-past-in-Pi : goal.walk-returns-in_ok-past-in-Pi
walk-returns-in_ok-past-in-Pi t c = let f = the_formula c.args.a.formula.now in let s = c.args.a.sign in let x = (the_spot c.args.table.now) c.args.spot.now in let r = (the_left c.args.table.now) c.args.rest.now in let P = c.args.problem.now in
    c.in_ok-past-in-Pi.ensures ∙ sym (left-part P c.args.logic s f c.kind_of.result.modal Pi x r c.kind_of.ensures.modal c.in-Pi.is)

pub walk_alpha-returns-in-None : goal.walk_alpha-returns-in-None
walk_alpha-returns-in-None t c = let l = c.args.logic in let P = c.args.problem.now in let x = (the_spot c.args.table.now) c.args.spot.now in let r = (the_left c.args.table.now) c.args.rest.now in let go = part_of l (the_formula c.args.a.formula.now) c.args.a.sign in let h = part_of l (the_formula c.args.b.formula.now) c.args.b.sign in let n = size (the_formula c.args.a.formula.now) in left-no_side P l n go h x r c.in-None.ensures

pub walk_alpha-returns-in_ok-past-in-Left : goal.walk_alpha-returns-in_ok-past-in-Left
walk_alpha-returns-in_ok-past-in-Left t c = let l = c.args.logic in let P = c.args.problem.now in let x = (the_spot c.args.table.now) c.args.spot.now in let r = (the_left c.args.table.now) c.args.rest.now in let go = part_of l (the_formula c.args.a.formula.now) c.args.a.sign in let h = part_of l (the_formula c.args.b.formula.now) c.args.b.sign in let n = size (the_formula c.args.a.formula.now) in c.in_ok-past-in-Left.ensures ∙ first-by P l n go h x ((the_spot c.args.table.now) c.down_by.result) c.args.rest.now.sides.now c.in-Some.sides.now r.supply.values r.literals r.steps (c.in-Some.ensures ∙ ap (λ d. d ∷ c.in-Some.sides.now) c.in-Left.is) (c.down_by.ensures c.args.table.now)

pub walk_alpha-returns-in_ok-past-in-Right : goal.walk_alpha-returns-in_ok-past-in-Right
walk_alpha-returns-in_ok-past-in-Right t c = let l = c.args.logic in let P = c.args.problem.now in let x = (the_spot c.args.table.now) c.args.spot.now in let r = (the_left c.args.table.now) c.args.rest.now in let go = part_of l (the_formula c.args.a.formula.now) c.args.a.sign in let h = part_of l (the_formula c.args.b.formula.now) c.args.b.sign in let n = size (the_formula c.args.a.formula.now) in c.in_ok-past-in-Right.ensures ∙ second-by P l n go h x ((the_spot c.args.table.now) c.down_by-in-Right.result) c.args.rest.now.sides.now c.in-Some.sides.now r.supply.values r.literals r.steps c.size-further.result (c.in-Some.ensures ∙ ap (λ d. d ∷ c.in-Some.sides.now) c.in-Right.is) c.size-further.ensures (c.down_by-in-Right.ensures c.args.table.now)

pub walk_beta-returns-in-None : goal.walk_beta-returns-in-None
walk_beta-returns-in-None t c = let l = c.args.logic in let P = c.args.problem.now in let x = (the_spot c.args.table.now) c.args.spot.now in let r = (the_left c.args.table.now) c.args.rest.now in let go = part_of l (the_formula c.args.a.formula.now) c.args.a.sign in let h = part_of l (the_formula c.args.b.formula.now) c.args.b.sign in let n = size (the_formula c.args.a.formula.now) in beta-none P l n go h x ((the_spot c.args.table.now) c.down_by.result) r (sym (ap (option_map (the_left c.args.table.now)) c.in-None.is) ∙ c.in_ok-walk.ensures) (c.down_by.ensures c.args.table.now)

pub walk_beta-returns-in_ok-past-in-Some : goal.walk_beta-returns-in_ok-past-in-Some
walk_beta-returns-in_ok-past-in-Some t c = let l = c.args.logic in let P = c.args.problem.now in let x = (the_spot c.args.table.now) c.args.spot.now in let r = (the_left c.args.table.now) c.args.rest.now in let go = part_of l (the_formula c.args.a.formula.now) c.args.a.sign in let h = part_of l (the_formula c.args.b.formula.now) c.args.b.sign in let n = size (the_formula c.args.a.formula.now) in c.in_ok-past-in-Some.ensures ∙ beta-some P l n go h x ((the_spot c.args.table.now) c.down_by.result) ((the_spot c.args.table.now) c.down_by-in-Some.result) r ((the_left c.args.table.now) c.in-Some.more) c.size-further.result (sym (ap (option_map (the_left c.args.table.now)) c.in-Some.is) ∙ c.in_ok-walk.ensures) (c.down_by.ensures c.args.table.now) c.size-further.ensures (c.down_by-in-Some.ensures c.args.table.now)

pub walk_delta-returns : goal.walk_delta-returns
walk_delta-returns t c = let l = c.args.logic in let P = c.args.problem.now in let x = (the_spot c.args.table.now) c.args.spot.now in let r = (the_left c.args.table.now) c.args.rest.now in let go = part_of l (the_formula c.args.a.formula.now) c.args.a.sign in c.in_ok-past.ensures ∙ delta-by P l go x.position (x.position + 1) x.label x.taken x.env (map (the_bound c.args.table.now) c.deref.result.now) r refl (ap (map (the_bound c.args.table.now)) (c.deref.ensures.value ∙ c.in_ok-env.ensures))

pub walk_gamma-returns-then-not-allowed : goal.walk_gamma-returns-then-not-allowed
walk_gamma-returns-then-not-allowed t c = let l = c.args.logic in let P = c.args.problem.now in let x = (the_spot c.args.table.now) c.args.spot.now in let r = (the_left c.args.table.now) c.args.rest.now in let go = part_of l (the_formula c.args.a.formula.now) c.args.a.sign in let q = c.in-Some.found in gamma-not P l go x r ((the_g_term c.args.table.now) q.term) (map (the_value c.args.table.now) q.after.now) c.in_ok-allowed-in-Some.allowed (ap (map (the_value c.args.table.now)) c.in-Some.ensures) c.in_ok-allowed-in-Some.ensures c.if-not-allowed.true

pub walk_gamma-returns-in_ok-past-in-Some : goal.walk_gamma-returns-in_ok-past-in-Some
walk_gamma-returns-in_ok-past-in-Some t c = let l = c.args.logic in let P = c.args.problem.now in let x = (the_spot c.args.table.now) c.args.spot.now in let r = (the_left c.args.table.now) c.args.rest.now in let go = part_of l (the_formula c.args.a.formula.now) c.args.a.sign in let q = c.in-Some.found in c.in_ok-past-in-Some.ensures ∙ gamma-by P l go x.position (x.position + 1) x.label ((the_g_term c.args.table.now) q.term) x.taken (map (the_value c.args.table.now) c.deref.result.now) x.env (map (the_bound c.args.table.now) c.deref-in-Some.result.now) r.supply.sides r.supply.values (map (the_value c.args.table.now) q.after.now) r.literals r.steps c.in_ok-allowed-in-Some.allowed (ap (map (the_value c.args.table.now)) c.in-Some.ensures) c.in_ok-allowed-in-Some.ensures c.if-not-allowed.false refl (ap (map (the_value c.args.table.now)) (c.deref.ensures.value ∙ c.in_ok-taken-in-Some.ensures) ∙ map-append (the_value c.args.table.now) c.args.spot.now.taken.now (value.Term q.term ∷ [])) (ap (map (the_bound c.args.table.now)) (c.deref-in-Some.ensures.value ∙ c.in_ok-env-in-Some.ensures))

pub walk_gamma-returns-in-None : goal.walk_gamma-returns-in-None
walk_gamma-returns-in-None t c = let l = c.args.logic in let P = c.args.problem.now in let x = (the_spot c.args.table.now) c.args.spot.now in let r = (the_left c.args.table.now) c.args.rest.now in let go = part_of l (the_formula c.args.a.formula.now) c.args.a.sign in gamma-none P l go x r (map (the_value c.args.table.now) c.args.rest.now.values.now) refl c.in-None.ensures

pub walk_nu-returns-then-not-is_step_length : goal.walk_nu-returns-then-not-is_step_length
walk_nu-returns-then-not-is_step_length t c = let l = c.args.logic in let P = c.args.problem.now in let x = (the_spot c.args.table.now) c.args.spot.now in let r = (the_left c.args.table.now) c.args.rest.now in let go = shaped_by l (shape_of c.args.a.sign (the_formula c.args.a.formula.now)) (components c.args.a.sign (the_formula c.args.a.formula.now)) in let q = c.in-Some.found in nu-not P l go x r (the_marks c.args.table.now q.string) (map (the_value c.args.table.now) q.after.now) (length c.marks-string.result.now) (ap (map (the_value c.args.table.now)) c.in-Some.ensures) (sym (length-map c.marks-string.result.now (the_mark c.args.table.now)) ∙ ap length c.marks-string.ensures.list) (sym c.is_step_length.ensures ∙ c.if-not-is_step_length.true)

pub walk_nu-returns-in_ok-past-in-Some : goal.walk_nu-returns-in_ok-past-in-Some
walk_nu-returns-in_ok-past-in-Some t c = let l = c.args.logic in let P = c.args.problem.now in let x = (the_spot c.args.table.now) c.args.spot.now in let r = (the_left c.args.table.now) c.args.rest.now in let go = shaped_by l (shape_of c.args.a.sign (the_formula c.args.a.formula.now)) (components c.args.a.sign (the_formula c.args.a.formula.now)) in let q = c.in-Some.found in c.in_ok-past-in-Some.ensures ∙ nu-by P l go x.position x.label (map (the_mark_at c.args.table.now) c.deref.result.now) (the_marks c.args.table.now q.string) x.taken (map (the_value c.args.table.now) c.deref-in-Some.result.now) x.env r.supply.sides r.supply.values (map (the_value c.args.table.now) q.after.now) r.literals r.steps c.saturating_add.result (length c.marks-string.result.now) (ap (map (the_value c.args.table.now)) c.in-Some.ensures) (sym (length-map c.marks-string.result.now (the_mark c.args.table.now)) ∙ ap length c.marks-string.ensures.list) (sym c.is_step_length.ensures ∙ c.if-not-is_step_length.false) (ap (map (the_mark_at c.args.table.now)) c.deref.ensures.value ∙ c.in_ok-label-in-Some.ensures c.args.table.now ∙ ap (nu_label l x.label) c.marks-string.ensures.list) (ap (map (the_value c.args.table.now)) (c.deref-in-Some.ensures.value ∙ c.in_ok-taken-in-Some.ensures) ∙ map-append (the_value c.args.table.now) c.args.spot.now.taken.now (value.Steps q.string ∷ [])) c.saturating_add.ensures

pub walk_nu-returns-in-None : goal.walk_nu-returns-in-None
walk_nu-returns-in-None t c = let l = c.args.logic in let P = c.args.problem.now in let x = (the_spot c.args.table.now) c.args.spot.now in let r = (the_left c.args.table.now) c.args.rest.now in let go = shaped_by l (shape_of c.args.a.sign (the_formula c.args.a.formula.now)) (components c.args.a.sign (the_formula c.args.a.formula.now)) in nu-none P l go x r (map (the_value c.args.table.now) c.args.rest.now.values.now) refl c.in-None.ensures

pub walk_pi-returns : goal.walk_pi-returns
walk_pi-returns t c = let l = c.args.logic in let P = c.args.problem.now in let x = (the_spot c.args.table.now) c.args.spot.now in let r = (the_left c.args.table.now) c.args.rest.now in let go = shaped_by l (shape_of c.args.a.sign (the_formula c.args.a.formula.now)) (components c.args.a.sign (the_formula c.args.a.formula.now)) in c.in_ok-past.ensures ∙ pi-by P l go x.position x.label (map (the_mark_at c.args.table.now) c.deref.result.now) x.taken x.env r.supply.sides r.supply.values r.literals r.steps c.saturating_add.result (ap (map (the_mark_at c.args.table.now)) c.deref.ensures.value ∙ c.in_ok-label.ensures c.args.table.now) c.saturating_add.ensures

pub walk_shape-returns-in_ok-past-in-One : goal.walk_shape-returns-in_ok-past-in-One
walk_shape-returns-in_ok-past-in-One t c = let P = c.args.problem.now in let x = (the_spot c.args.table.now) c.args.spot.now in let r = (the_left c.args.table.now) c.args.rest.now in
    c.in_ok-past-in-One.ensures ∙ one-by P c.args.logic _ x ((the_spot c.args.table.now) c.down_by.result) r (c.down_by.ensures c.args.table.now) ∙ left-by P c.args.logic _ _ _ _ x r c.in-One.ensures.shape c.in-One.ensures.components

pub walk_shape-returns-in_ok-past-in-Alpha : goal.walk_shape-returns-in_ok-past-in-Alpha
walk_shape-returns-in_ok-past-in-Alpha t c = c.in_ok-past-in-Alpha.ensures ∙ left-by c.args.problem.now c.args.logic _ _ _ _ ((the_spot c.args.table.now) c.args.spot.now) ((the_left c.args.table.now) c.args.rest.now) c.in-Alpha.ensures.shape c.in-Alpha.ensures.components

pub walk_shape-returns-in_ok-past-in-Beta : goal.walk_shape-returns-in_ok-past-in-Beta
walk_shape-returns-in_ok-past-in-Beta t c = c.in_ok-past-in-Beta.ensures ∙ left-by c.args.problem.now c.args.logic _ _ _ _ ((the_spot c.args.table.now) c.args.spot.now) ((the_left c.args.table.now) c.args.rest.now) c.in-Beta.ensures.shape c.in-Beta.ensures.components

pub walk_shape-returns-in_ok-past-in-Gamma : goal.walk_shape-returns-in_ok-past-in-Gamma
walk_shape-returns-in_ok-past-in-Gamma t c = c.in_ok-past-in-Gamma.ensures ∙ left-by c.args.problem.now c.args.logic _ _ _ _ ((the_spot c.args.table.now) c.args.spot.now) ((the_left c.args.table.now) c.args.rest.now) c.in-Gamma.ensures.shape c.in-Gamma.ensures.components

pub walk_shape-returns-in_ok-past-in-Delta : goal.walk_shape-returns-in_ok-past-in-Delta
walk_shape-returns-in_ok-past-in-Delta t c = c.in_ok-past-in-Delta.ensures ∙ left-by c.args.problem.now c.args.logic _ _ _ _ ((the_spot c.args.table.now) c.args.spot.now) ((the_left c.args.table.now) c.args.rest.now) c.in-Delta.ensures.shape c.in-Delta.ensures.components

pub walk_shape-returns-in-Literal : goal.walk_shape-returns-in-Literal
walk_shape-returns-in-Literal t c = c.past_literal.ensures c.args.problem.now ∙ left-by c.args.problem.now c.args.logic _ _ _ _ ((the_spot c.args.table.now) c.args.spot.now) ((the_left c.args.table.now) c.args.rest.now) c.in-Literal.ensures.shape c.in-Literal.ensures.components

pub walk_alpha-walk-requires : goal.walk_alpha-walk-requires
walk_alpha-walk-requires t c = let at = ap (λ (x : Spot). x.position) (c.down_by.ensures c.args.table.now) in (omega arith, omega (arith, at))

pub walk_alpha-walk-requires-in-Right : goal.walk_alpha-walk-requires-in-Right
walk_alpha-walk-requires-in-Right t c = let at = ap (λ (x : Spot). x.position) (c.down_by-in-Right.ensures c.args.table.now) in let n = c.size-further.ensures in (omega arith, omega (arith, at, n))

pub walk_beta-walk-requires : goal.walk_beta-walk-requires
walk_beta-walk-requires t c = let at = ap (λ (x : Spot). x.position) (c.down_by.ensures c.args.table.now) in (omega arith, omega (arith, at))

pub walk_beta-walk-requires-in-Some : goal.walk_beta-walk-requires-in-Some
walk_beta-walk-requires-in-Some t c = let at = ap (λ (x : Spot). x.position) (c.down_by-in-Some.ensures c.args.table.now) in let n = c.size-further.ensures in (omega arith, omega (arith, at, n))

pub walk_shape-walk-requires : goal.walk_shape-walk-requires
walk_shape-walk-requires t c = let at = ap (λ (x : Spot). x.position) (c.down_by.ensures c.args.table.now) in let n = c.in-One.ensures.size in (omega (arith, n), omega (arith, at, n))
