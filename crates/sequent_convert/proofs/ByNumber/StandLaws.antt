-- Where the end of a literal closes at once, two items of the branch make an axiom.
use Rattle.std.proofs.Common.{◌≡◌, ℕ, ◌<◌, List, [], ◌∷◌, length, true, not, ◌&&◌, ◌==◌, IsTrue, Option, Some, refl, sym, ◌∙◌, ap, subst, slice_get}
use Rattle.std.proofs.lemmas.Bool.{false≢true, and_parts, eqb-true}
use Rattle.std.proofs.lemmas.Option.{slice_get_within}
use Rattle.calculus.specs.declared.kind.Shape.TheVariants.{Literal}
use Rattle.calculus.specs.declared.setting.Logic.{Logic}
use Rattle.calculus.specs.declared.sign.Sign.{Sign}
use Rattle.calculus.specs.declared.sign.Sign.TheVariants.{T, F}
use Rattle.calculus.specs.Equality.{grounds_eq, label_eq, same_atom, sign_eq}
use Rattle.calculus.specs.Ground.{GroundLiteral, Value}
use Rattle.calculus.specs.Instances.{grounds_of}
use Rattle.calculus.specs.Kinds.{shape_of}
use Rattle.calculus.proofs.EqualityLaws.{grounds_eq-tells, label_eq-tells}
use Rattle.calculus.proofs.Members.{among-at, at-among}
use Rattle.calculus.proofs.WalkLaws.{HasPair}
use Rattle.conversion_theory.specs.Branches.{Item}
use Rattle.conversion_theory.specs.Leading.{End, closes_at_once}
use Rattle.conversion_theory.proofs.BranchLaws.{Holding}
use Rattle.conversion_theory.proofs.HitLaws.{literal_at}
use Rattle.conversion_theory.proofs.LeadEnds.{end-pair}
use Rattle.conversion_theory.proofs.RunLaws.{branch}
use Rattle.conversion_theory.proofs.SegmentLaws.{leads-literal}
use Rattle.sequent_convert.specs.AheadView.{IsNotExtended}
use Rattle.sequent_convert.specs.ByNumber.Pairs.{SameAtoms, MakeAxiom, MakesAxiom, MakesAxiomAt}
use Rattle.sequent_convert.specs.State.{Basis, IsBasis, State, turn_at, turns_at, IsOpenRun, IsDoneAhead, IsLiteralAhead}
use Rattle.sequent_convert.proofs.ComingLaws.{coming-here}
use Rattle.sequent_convert.proofs.EndsAhead.{ends-stand}
use Rattle.sequent_convert.proofs.Moving.{Coming}
use Rattle.sequent_convert.proofs.MovingOn.{leads-ahead}
use Rattle.sequent_convert.proofs.TurnPlaces.{done-turn}

-- two places whose items make an axiom
pub record AxiomStands (items : List Item) : Type 0 where
  pub given : ℕ
  pub shown : ℕ
  pub given_within : given < length items
  pub shown_within : shown < length items
  pub makes : MakesAxiomAt items given shown

stands : (items : List Item) (i j : Item) (n m : ℕ) → slice_get items n ≡ Some i → slice_get items m ≡ Some j → MakeAxiom i j → AxiomStands items
stands items i j n m e g a = record {
  given = n;
  shown = m;
  given_within = slice_get_within items n i e;
  shown_within = slice_get_within items m j g;
  makes = subst (λ o. MakesAxiom o (slice_get items m)) (sym e) (subst (λ o. MakesAxiom (Some i) o) (sym g) a);
}

-- the atoms are one, and so are the labels
same-parts : (x y : GroundLiteral) → IsTrue (same_atom x y) → (x.symbol ≡ y.symbol) × (x.args ≡ y.args) × (x.label ≡ y.label)
same-parts x y e =
    let both = and_parts (x.symbol == y.symbol && grounds_eq x.args y.args) (label_eq x.label y.label) e in
    let first = and_parts (x.symbol == y.symbol) (grounds_eq x.args y.args) both.0 in
    (eqb-true x.symbol y.symbol first.0, (grounds_eq-tells x.args y.args).0 first.1, (label_eq-tells x.label y.label).0 both.1)

pair-atoms : (l : Logic) (items : List Item) (x y : GroundLiteral) (a : Holding l items x) (b : Holding l items y) → (x.symbol ≡ y.symbol) × (x.args ≡ y.args) × (x.label ≡ y.label) → SameAtoms a.at b.at
pair-atoms l items x y a b e = record {
  symbol = a.symbol;
  other = b.symbol;
  args = a.args;
  others = b.args;
  given_atom = a.formula;
  shown_atom = b.formula;
  same = (
    ap (λ (z : GroundLiteral). z.symbol) (sym a.literal) ∙ e.0 ∙ ap (λ (z : GroundLiteral). z.symbol) b.literal,
    ap (λ (z : GroundLiteral). z.args) (sym a.literal) ∙ e.1 ∙ ap (λ (z : GroundLiteral). z.args) b.literal,
    ap (λ (z : GroundLiteral). z.label) (sym a.literal) ∙ e.2 ∙ ap (λ (z : GroundLiteral). z.label) b.literal,
  );
}

pair-makes : (l : Logic) (items : List Item) (x y : GroundLiteral) (a : Holding l items x) (b : Holding l items y) → x.sign ≡ T → y.sign ≡ F → (x.symbol ≡ y.symbol) × (x.args ≡ y.args) × (x.label ≡ y.label) → MakeAxiom a.at b.at
pair-makes l items x y a b p q e =
    let atoms : SameAtoms a.at b.at = pair-atoms l items x y a b e in
    record { given = ap (λ (z : GroundLiteral). z.sign) (sym a.literal) ∙ p; shown = ap (λ (z : GroundLiteral). z.sign) (sym b.literal) ∙ q; atoms = atoms }

pub pair-stands : (l : Logic) (items : List Item) → HasPair (Holding l items) → AxiomStands items
pair-stands l items pair =
    let parts = and_parts (not (sign_eq pair.0.sign pair.1.sign)) (same_atom pair.0 pair.1) pair.4 in
    let a = at-among items pair.2.at pair.2.among in
    let b = at-among items pair.3.at pair.3.among in
    by_signs pair.0.sign pair.1.sign refl refl parts.0 parts.1 a b
  where
    by_signs : (s r : Sign) → pair.0.sign ≡ s → pair.1.sign ≡ r → not (sign_eq pair.0.sign pair.1.sign) ≡ true → IsTrue (same_atom pair.0 pair.1) → (n : ℕ) × (slice_get items n ≡ Some pair.2.at) → (n : ℕ) × (slice_get items n ≡ Some pair.3.at) → AxiomStands items
    by_signs T T p q n e a b = absurd (false≢true (rw (p, q) at n))
    by_signs F F p q n e a b = absurd (false≢true (rw (p, q) at n))
    by_signs T F p q n e a b = stands items pair.2.at pair.3.at a.0 b.0 a.1 b.1 (pair-makes l items pair.0 pair.1 pair.2 pair.3 p q (same-parts pair.0 pair.1 e))
    by_signs F T p q n e a b = stands items pair.3.at pair.2.at b.0 a.0 b.1 a.1 (pair-makes l items pair.1 pair.0 pair.3 pair.2 q p (let r = same-parts pair.0 pair.1 e in (sym r.0, sym r.1, sym r.2)))

-- where the first end is no extension, two items make an axiom
module _ (B : Basis) (basis : IsBasis B) (coming : Coming B) (s : State) (h : IsOpenRun B s) (o : s.is_open ≡ true) where
  pub axiom-stands : (k : ℕ) (ks : List ℕ) (i : Item) (own : List Value) → IsDoneAhead B s k ks i own → shape_of i.sign i.formula ≡ Literal → (e : End) (es : List End) → s.ahead.ends ≡ e ∷ es → closes_at_once e ≡ true → AxiomStands s.items
  axiom-stands k ks i own d shape e es ends once =
      let l = leads-ahead B basis coming s h o k ks d.first in
      let there = among-at s.items d.place i d.at in
      let done = done-turn B basis s.done k d.done in
      let b = branch s.items (turns_at B s.done) in
      let at = leads-literal B.problem B.limit B.tableau B.named.names b h.leading.run.good.0 (turn_at B k) (turns_at B ks) s.ahead.ends l h.leading.kept.0.left done i there own d.works shape in
      let same : at.end ≡ e = first_end (sym at.ends ∙ ends) in
      pair-stands B.problem.setting.logic s.items (end-pair B.problem B.limit B.tableau B.named.names basis.shut basis.numbering basis.few b l.task l.right at.literal at.holds at.end (ap closes_at_once same ∙ once) at.right)
    where
      first_end : {x y : End} {xs ys : List End} → x ∷ xs ≡ y ∷ ys → x ≡ y
      first_end q = cc

pub now-stands : (B : Basis) → IsBasis B → (s : State) → IsOpenRun B s → s.is_open ≡ true → IsLiteralAhead B s → IsNotExtended s.ahead.ends → ((j m : ℕ) → j < length s.items → m < length s.items → MakesAxiomAt s.items j m → ⊥) → ⊥
now-stands B basis s h o d now none = by_ends s.ahead.ends refl now
  where
    by_ends : (es : List End) → s.ahead.ends ≡ es → IsNotExtended es → ⊥
    by_ends [] e n = ends-stand B basis (coming-here B basis) s h o d.turn d.turns d.item d.own d.made d.shape e
    by_ends (x ∷ es) e n =
        let a = axiom-stands B basis (coming-here B basis) s h o d.turn d.turns d.item d.own d.made d.shape x es e n in
        none a.given a.shown a.given_within a.shown_within a.makes
