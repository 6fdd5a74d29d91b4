-- What stands on a branch: the item of the turn ahead, and an axiom where the end of a literal closes at once.
use Rattle.std.proofs.Common.{◌≡◌, ℕ, zero, suc, ◌<◌, List, [], ◌∷◌, map, length, true, false, IsTrue, Option, Some, None, Ok, Err, refl, sym, ◌∙◌, ap, subst, slice_get, arith, inl, inr}
use Rattle.std.proofs.lemmas.Bool.{false≢true, cases_Bool}
use Rattle.std.proofs.lemmas.List.{length-map}
use Rattle.calculus.specs.declared.kind.Shape.TheVariants.{Literal}
use Rattle.calculus.specs.declared.fault.StepFault.{StepFault}
use Rattle.calculus.specs.declared.fault.StepFault.TheVariants.{NoConnection}
use Rattle.calculus.specs.Ground.{Value}
use Rattle.calculus.specs.Kinds.{shape_of}
use Rattle.calculus.specs.Derivations.{Entry}
use Rattle.calculus.specs.Calculus.{Children, closed, connects, close_branch}
use Rattle.conversion_theory.specs.Turns.{Name}
use Rattle.conversion_theory.specs.Numbering.{number_of}
use Rattle.conversion_theory.specs.Branches.{Item, entry_of_item, entries_of}
use Rattle.conversion_theory.specs.Leading.{End, closes_at_once}
use Rattle.calculus.proofs.Members.{among-at}
use Rattle.conversion_theory.proofs.RunLaws.{branch}
use Rattle.conversion_theory.proofs.SegmentLaws.{leads-item, leads-literal}
use Rattle.conversion_theory.proofs.LeadingLaws.{literal-axiom}
use Rattle.sequent_convert.specs.Pairs.{are_connected, connected_at}
use Rattle.sequent_convert.specs.State.{Basis, IsBasis, State, turn_at, turns_at, IsOpenRun, WorksOnNone, IsDoneAhead}
use Rattle.sequent_convert.proofs.TurnPlaces.{done-turn}
use Rattle.sequent_convert.proofs.PairLaws.{got, option_entry}
use Rattle.sequent_convert.proofs.Moving.{Coming}
use Rattle.sequent_convert.proofs.MovingOn.{leads-ahead}

ok≢err : {x : Children} {e : StepFault} → Err e ≡ Ok x → ⊥
ok≢err q = cc

connected-by : (x y : Entry) → close_branch (Some x) (Some y) ≡ Ok closed → connects x y ≡ true
connected-by x y e = elim (cases_Bool (connects x y)) [ inl h ↦ h | inr h ↦ absurd (ok≢err (rw h at e)) ]

connected-back : (names : List Name) (x y : Option Item) → close_branch (option_entry names x) (option_entry names y) ≡ Ok closed → are_connected names x y ≡ true
connected-back names None y e = absurd (ok≢err e)
connected-back names (Some i) None e = absurd (ok≢err e)
connected-back names (Some i) (Some j) e = connected-by (entry_of_item (number_of names) i) (entry_of_item (number_of names) j) e

module _ (B : Basis) (basis : IsBasis B) (coming : Coming B) (s : State) (h : IsOpenRun B s) (o : s.is_open ≡ true) where
  -- the turn ahead works on an item
  pub item-stands : (k : ℕ) (ks : List ℕ) → s.ahead.turns ≡ k ∷ ks → WorksOnNone B k s.items → ⊥
  item-stands k ks e none =
      let r = leads-item B.problem B.limit B.tableau B.named.names (branch s.items (turns_at B s.done)) h.leading.run.good.0 (turn_at B k) (turns_at B ks) s.ahead.ends (leads-ahead B basis coming s h o k ks e) in
      none r.0 r.1 r.3 r.2 r.4

  -- where a literal's end closes at once, or is not there, some pair is an axiom
  module _ (k : ℕ) (ks : List ℕ) (i : Item) (own : List Value) (d : IsDoneAhead B s k ks i own) (shape : shape_of i.sign i.formula ≡ Literal) where
    pub axiom-stands : (e : End) (es : List End) → s.ahead.ends ≡ e ∷ es → closes_at_once e ≡ true → ((j m : ℕ) → j < length s.items → m < length s.items → connected_at B.named.names s.items j m ≡ false) → ⊥
    axiom-stands e es ends once none =
        let l = leads-ahead B basis coming s h o k ks d.first in
        let there = among-at s.items d.place i d.at in
        let done = done-turn B basis s.done k d.done in
        let at = leads-literal B.problem B.limit B.tableau B.named.names (branch s.items (turns_at B s.done)) h.leading.run.good.0 (turn_at B k) (turns_at B ks) s.ahead.ends l h.leading.kept.0.left done i there own d.works shape in
        let same : at.end ≡ e = first_end (sym at.ends ∙ ends) in
        let a = literal-axiom B.problem B.limit B.tableau B.named.names basis.shut basis.numbering basis.few (branch s.items (turns_at B s.done)) h.leading.run.good.0 (turn_at B k) (turns_at B ks) s.ahead.ends l h.leading.kept.0.left done i there own d.works at (ap closes_at_once same ∙ once) in
        let many : length (entries_of (number_of B.named.names) s.items) ≡ length s.items = length-map s.items (entry_of_item (number_of B.named.names)) in
        let given = a.given_within in
        let shown = a.shown_within in
        let found : connected_at B.named.names s.items a.given a.shown ≡ true = connected-back B.named.names (slice_get s.items a.given) (slice_get s.items a.shown) (sym (λ q. close_branch (got B.named.names s.items a.given q) (got B.named.names s.items a.shown q)) ∙ a.applies) in
        false≢true (sym (none a.given a.shown (omega (arith, many, given)) (omega (arith, many, shown))) ∙ found)
      where
        first_end : {x y : End} {xs ys : List End} → x ∷ xs ≡ y ∷ ys → x ≡ y
        first_end q = cc

    pub ends-stand : s.ahead.ends ≡ [] → ⊥
    ends-stand none =
        let l = leads-ahead B basis coming s h o k ks d.first in
        let there = among-at s.items d.place i d.at in
        let done = done-turn B basis s.done k d.done in
        let at = leads-literal B.problem B.limit B.tableau B.named.names (branch s.items (turns_at B s.done)) h.leading.run.good.0 (turn_at B k) (turns_at B ks) s.ahead.ends l h.leading.kept.0.left done i there own d.works shape in
        nil_cons (sym none ∙ at.ends)
      where
        nil_cons : {x : End} {xs : List End} → [] ≡ x ∷ xs → ⊥
        nil_cons q = cc
