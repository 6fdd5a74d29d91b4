-- What a turn takes at an item that it works on is all that it has.
use Rattle.std.proofs.Common.{◌≡◌, ℕ, ◌<◌, List, [], ◌∷◌, ◌++◌, length, true, false, Some, refl, sym, ◌∙◌, ap, subst, inl, inr, slice_get, append-nil}
use Rattle.std.specs.Prelude.{take}
use Rattle.std.proofs.lemmas.Bool.{false≢true}
use Rattle.calculus.specs.declared.kind.Shape.{Shape}
use Rattle.calculus.specs.declared.kind.Shape.TheVariants.{Alpha, Beta, Gamma, Delta, Literal}
use Rattle.calculus.specs.Ground.{Value, term}
use Rattle.calculus.specs.Instances.{Spot, Turn}
use Rattle.calculus.specs.Kinds.{modal_of, shape_of}
use Rattle.calculus.proofs.Members.{Among, among-at}
use Rattle.calculus.proofs.SpotLaws.{is_gamma}
use Rattle.conversion_theory.specs.Branches.{Item, Past, past_modal, item}
use Rattle.conversion_theory.specs.Numbering.{number_of}
use Rattle.conversion_theory.proofs.AgendaLaws.{TurnOf}
use Rattle.conversion_theory.proofs.ClosedLaws.{Admitted, Allowed, closed-works}
use Rattle.conversion_theory.proofs.MadeLaws.{past-right}
use Rattle.conversion_theory.proofs.PlaceLaws.{Work}
use Rattle.conversion_theory.proofs.RunLaws.{Branch, IsGood, WorksOn}
use Rattle.conversion_theory.proofs.UseLaws.{modal_arg}
use Rattle.conversion_theory.proofs.WorkLaws.{takes-cases, work-from}
use Rattle.sequent_convert.specs.ByNumber.PastView.{taken_after}
use Rattle.sequent_convert.specs.ByNumber.RunView.{TakesAll, WorksAt, own_values}
use Rattle.sequent_convert.specs.State.{Basis, IsBasis, State, turn_at, IsOpenRun}
use Rattle.sequent_convert.proofs.TurnPlaces.{turn-of}

taken-plain : (h : Shape) (q : Past) → is_gamma h ≡ false → taken_after h q ≡ q.spot.taken
taken-plain Gamma q e = absurd (false≢true (sym e))
taken-plain Literal q e = refl
taken-plain Alpha q e = refl
taken-plain Beta q e = refl
taken-plain Delta q e = refl

module _ (B : Basis) (basis : IsBasis B) (x : Turn) (h : TurnOf B.problem B.tableau x) where
  abbrev work : Work B.problem (TurnOf B.problem B.tableau) (Allowed B.problem) (Admitted B.problem) x
  work = closed-works B.problem B.limit B.tableau basis.shut x h

  abbrev past_of : Item → List Value → Past
  past_of i own = past_modal (number_of B.named.names) B.problem.setting.logic (modal_of B.problem.setting.logic i.sign i.formula) i.spot own

  -- at the signed formula that the turn works on
  taken-here : (own : List Value) → x.values ≡ work.from.taken ++ own → taken_after (shape_of work.sign work.formula) (past_of (item work.from work.sign work.formula) own) ≡ x.values
  taken-here own v = elim (takes-cases (Allowed B.problem) (shape_of work.sign work.formula) work.past x work.takes) [
    | inl p ↦
        let past = past-right (number_of B.named.names) B.problem.setting.logic work.sign work.formula work.from work.past work.moves own [] (sym v ∙ p.1 ∙ sym (append-nil work.past.taken)) in
        taken-plain (shape_of work.sign work.formula) (past_of (item work.from work.sign work.formula) own) p.0 ∙ ap (λ (q : Past). q.spot.taken) past ∙ sym p.1
    | inr p ↦
        let past = past-right (number_of B.named.names) B.problem.setting.logic work.sign work.formula work.from work.past work.moves own (term p.0 ∷ []) (sym v ∙ p.2) in
        ap (λ s. taken_after s (past_of (item work.from work.sign work.formula) own)) p.1 ∙ ap (taken_after Gamma) past ∙ sym p.2
  ]

  -- and at an item of a branch
  pub taken-all : (b : Branch) → IsGood B.problem B.tableau B.named.names b → (i : Item) → Among b.items i → (own : List Value) → WorksOn B.problem B.tableau B.named.names x i own → taken_after (shape_of i.sign i.formula) (past_of i own) ≡ x.values
  taken-all b good i there own on =
      let place = (good.branch.each i there).place on.0 in
      let same = work-from B.problem (TurnOf B.problem B.tableau) (Allowed B.problem) (Admitted B.problem) x work place.0 i.spot i.sign i.formula place.1 (sym on.1) own on.2 in
      (λ j. taken_after (shape_of (same.signs j) (same.formulas j)) (past_of (item (same.spots j) (same.signs j) (same.formulas j)) own))
      ∙ taken-here own (on.2 ∙ ap (λ (c : Spot). c.taken ++ own) same.spots)

pub takes-all : (B : Basis) → IsBasis B → (s : State) → IsOpenRun B s → (k n : ℕ) → k < length B.named.agenda → WorksAt B s.items k n → (i : Item) → slice_get s.items n ≡ Some i → TakesAll B k i
takes-all B basis s h k n lt w i at =
    let same : w.0 ≡ i = one-some w.0 i (sym w.1 ∙ at) in
    subst (TakesAll B k) same (taken-all B basis (turn_at B k) (turn-of B basis k lt) _ h.leading.run.good.0 w.0 (among-at s.items n w.0 w.1) (own_values B k w.0) w.2)
  where
    one-some : (u v : Item) → Some u ≡ Some v → u ≡ v
    one-some u v q = cc

pub ruleset takes = (takes-all)
