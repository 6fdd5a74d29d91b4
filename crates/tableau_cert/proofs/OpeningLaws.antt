-- What a part gives, by its shape.
use Rattle.std.proofs.Common.{◌≡◌, ℕ, suc, ◌+◌, ◌<◌, List, [], ◌∷◌, ◌++◌, map, Bool, true, false, Option, Some, None, refl, sym, ◌∙◌, ap, subst, arith}
use Rattle.calculus.specs.declared.sign.Sign.{Sign}
use Rattle.calculus.specs.declared.setting.Logic.{Logic}
use Rattle.calculus.specs.declared.kind.Shape.{Shape}
use Rattle.calculus.specs.declared.kind.Shape.TheVariants.{Beta, Gamma, Delta}
use Rattle.calculus.specs.ComputedInstances.{at_quantifier, at_two, part_of}
use Rattle.calculus.specs.Ground as tree
use Rattle.calculus.specs.Instances.{grounds_of, spot_inside}
use Rattle.calculus.specs.Kinds.{Signed}
use Rattle.calculus.specs.Lists.{g_terms_tree}
use Rattle.calculus.specs.Positions.{size}
use Rattle.calculus.specs.Skolem.{is_allowed}
use Rattle.calculus.specs.Syntax.{Terms, atom, Problem}
use Rattle.formula_core.specs.FormulaView.{the_formula}
use Rattle.formula_core.specs.GroundLists.{GroundList, IsGrown, the_g_term, the_value, IsNormalTerm}
use Rattle.formula_core.specs.declared.ground.GroundLabel.{GroundLabel}
use Rattle.formula_core.specs.declared.ground.GroundTerm.{GroundTerm}
use Rattle.formula_core.specs.declared.ground.Value.{Value}
use Rattle.formula_core.specs.declared.ground.Value.TheVariants as value
use Rattle.formula_core.proofs.GrownLaws.{grown-both, term-grown, term-normal-grown, terms-grown}
use Rattle.tableau_core.specs.Walks.{at_atom, shaped_by, starts_with_term}
use Rattle.tableau_core.specs.Numbered.LiteralView.{the_literal}
use Rattle.tableau_core.specs.declared.part.Part as program
use Rattle.tableau_core.specs.declared.literal.GroundLiteral as numbered
use Rattle.tableau_cert.proofs.GatheringLaws.{both, delta, gamma, literal, no-term, walk-end}
use Rattle.tableau_cert.proofs.SteppingLaws.{grown-none, labelled-normal, longer-same, terms-normal-grown, way-grown, way-label-grown, way-normal-grown}
use Rattle.tableau_cert.proofs.EnteringLaws.{first_normal, rest-normal}
use Rattle.tableau_cert.specs.Gathering.{AreNormal, IsOpened, the_supply}
use Rattle.tableau_cert.specs.Made.{AreArgsMade, IsLabelled, IsWayMade}
use Rattle.tableau_cert.specs.WayView.{IsLonger, IsNormalWay, WayLists, bound_terms, the_label, the_spot, the_taken}
use Rattle.tableau_cert.specs.declared.task.PlacedPart as placed
use Rattle.tableau_cert.specs.declared.task.Supply as supply
use Rattle.tableau_cert.specs.declared.task.Step as step
use Rattle.tableau_cert.specs.declared.task.Opened.TheVariants.{Literal, One, Two}

-- the same part by another shape and other components that are these
pub opened-as : (P : Problem) (l : Logic) (given a b : List GroundList) (v w : WayLists) (k h : Shape) (xs ys : List Signed) (m n : ℕ) (p : ℕ) (u : supply.Supply) (o : Option step.Step) → k ≡ h → xs ≡ ys → m ≡ n → IsOpened P l given a b v w (shaped_by l k xs) m p u o → IsOpened P l given a b v w (shaped_by l h ys) n p u o
opened-as P l given a b v w k h xs ys m n p u o q r e x = subst (λ (z : Shape × (List Signed × ℕ)). IsOpened P l given a b v w (shaped_by l z.0 z.1.0) z.1.1 p u o) (λ i. (q i, (r i, e i))) x

-- the label's number is known, which changes nothing else
module _ (a b : List GroundList) (v w : WayLists) (n : GroundLabel) (h : IsNormalWay a v) (made : IsLabelled a b v w n) where
  pub labelled-spot : (p : ℕ) → the_spot b w p ≡ the_spot a v p
  labelled-spot p = ap (λ x. the_spot b x p) made.way ∙ way-grown a b made.grown v p h

  pub labelled-way : IsNormalWay b w
  labelled-way = subst (IsNormalWay b) (sym made.way) (labelled-normal a b made.grown v n h made.label)

  pub labelled-longer : IsLonger v w
  labelled-longer = subst (IsLonger v) (sym made.way) (let s = longer-same v in record { marks = s.marks; taken = s.taken; bindings = s.bindings })

module _ (a b : List GroundList) (v w : WayLists) (k : GroundLabel) (h : IsNormalWay a v) (made : IsLabelled a b v w k) where
  pub opened-beta : (P : Problem) (l : Logic) (given : List GroundList) (x y : program.Part) (p m : ℕ) (u : supply.Supply) → AreNormal given u → m ≡ size (the_formula x.formula.now) → p + suc (size (the_formula x.formula.now) + size (the_formula y.formula.now)) < 4294967296 → IsOpened P l given a b v w (at_two Beta (size (the_formula x.formula.now)) (part_of l (the_formula x.formula.now) x.sign) (part_of l (the_formula y.formula.now) y.sign)) (suc (size (the_formula x.formula.now) + size (the_formula y.formula.now))) p u (Some (record { opened = Two (record { part = x; position = p + 1 }) (record { part = y; position = p + (m + 1) }); allowed = true; supply = u }))
  opened-beta P l given x y p m u n e fits = record {
    same = λ g q. both P l (size (the_formula x.formula.now)) m x.sign y.sign (the_formula x.formula.now) (the_formula y.formula.now) (the_spot a v p) (the_spot b w (p + 1)) (the_spot b w (p + (m + 1))) g (the_supply given u) q (labelled-spot a b v w k h made (p + 1)) e (labelled-spot a b v w k h made (p + (m + 1)));
    step = record { way = labelled-way a b v w k h made; longer = labelled-longer a b v w k h made; parts = (omega (arith, fits), omega (arith, fits, e)); values = n; smaller = omega arith };
    grown = made.grown;
  }

pub opened-literal : (P : Problem) (l : Logic) (given a m b : List GroundList) (v w : WayLists) (s : Sign) (ts : Terms) (p : ℕ) (u : supply.Supply) (x : numbered.GroundLiteral) → AreNormal given u → IsNormalWay a v → x.sign ≡ s → AreArgsMade a m (grounds_of (bound_terms a v.bindings) ts) x.args → IsLabelled m b v w x.label → IsOpened P l given a b v w (at_atom s (atom x.symbol.0 ts)) 1 p u (Some (record { opened = Literal x; allowed = true; supply = u }))
opened-literal P l given a m b v w s ts p u x y n e made known =
    let h = way-normal-grown a m made.grown v n in
    let args = ap g_terms_tree (terms-grown m b known.grown x.args made.normal) ∙ made.same in
    let label = known.label.same ∙ way-label-grown m b known.grown v h ∙ way-label-grown a m made.grown v n in
    record {
      same = λ g q. literal P s x.symbol.0 ts (the_spot a v p) g (the_supply given u) (the_literal b x) q (λ i. record { sign = e i; symbol = x.symbol.0; args = args i; label = label i }) ∙ sym (walk-end P l [] _ refl);
      step = record { way = labelled-way m b v w x.label h known; longer = labelled-longer m b v w x.label h known; parts = record { args = terms-normal-grown m b known.grown x.args made.normal; label = known.label.normal }; values = y; smaller = omega arith };
      grown = grown-both a m b made.grown known.grown;
    }

pub term-normal : (given ls : List GroundList) (vs after : List Value) (t : GroundTerm) → IsGrown given ls → vs ≡ value.Term t ∷ after → first_normal given vs → IsNormalTerm ls t
term-normal given ls vs after t g e n = term-normal-grown given ls g t (subst (first_normal given) e n).0

module _ (P : Problem) (l : Logic) (given before : List GroundList) (v w : WayLists) (a : placed.PlacedPart) (u : supply.Supply) (g : IsGrown given before) where
  abbrev GammaOpens : Option step.Step → Type 0
  GammaOpens o = IsOpened P l given before before v w (at_quantifier Gamma (part_of l (the_formula a.part.formula.now) a.part.sign)) (suc (size (the_formula a.part.formula.now))) a.position u o

  pub opened-no_term : ((ls : List GroundList) → starts_with_term (map (the_value ls) u.values.now) ≡ false) → GammaOpens None
  opened-no_term e = record {
    same = λ x h. no-term P l (part_of l (the_formula a.part.formula.now) a.part.sign) (the_spot before v a.position) x u.sides.now (map (the_value given) u.values.now) h (e given);
    step = tt;
    grown = grown-none before g.most;
  }

  pub opened-gamma : (t : GroundTerm) (r : supply.Supply) (b : Bool) (p : ℕ) → p ≡ a.position + 1 → AreNormal given u → u.sides.now ≡ r.sides.now → u.values.now ≡ value.Term t ∷ r.values.now → b ≡ is_allowed P (the_label before v) (the_g_term before t) → a.position + suc (size (the_formula a.part.formula.now)) < 4294967296 → IsWayMade before before v w (spot_inside (the_g_term before t) (the_taken before v ++ tree.term (the_g_term before t) ∷ []) (the_spot before v a.position)) p → GammaOpens (Some (record { opened = One (record { part = a.part; position = p }); allowed = b; supply = r }))
  opened-gamma t r b p j y e h k fits made =
      let same : the_g_term before t ≡ the_g_term given t = term-grown given before g t (subst (first_normal given) h y).0 in
      record {
        same = λ x q. gamma P l a.part.sign (the_formula a.part.formula.now) (the_spot before v a.position) (the_spot before w p) x r.sides.now (the_g_term given t) (map (the_value given) r.values.now) b (q ∙ (λ i. record { sides = e i; values = map (the_value given) (h i) })) (k ∙ ap (is_allowed P (the_label before v)) same) (made.same ∙ ap (λ z. spot_inside z (the_taken before v ++ tree.term z ∷ []) (the_spot before v a.position)) same);
        step = record { way = made.normal; longer = made.longer; parts = omega (arith, j, fits); values = rest-normal given u.values.now r.values.now (value.Term t) h y; smaller = omega arith };
        grown = made.grown;
      }

module _ (P : Problem) (l : Logic) (given before after : List GroundList) (v w : WayLists) (a : program.Part) (p : ℕ) (u : supply.Supply) where
  pub opened-delta : (q : ℕ) → q ≡ p + 1 → AreNormal given u → p + suc (size (the_formula a.formula.now)) < 4294967296 → IsWayMade before after v w (spot_inside (tree.g_eigen p (tree.values_tree (the_taken before v))) (the_taken before v) (the_spot before v p)) q → IsOpened P l given before after v w (at_quantifier Delta (part_of l (the_formula a.formula.now) a.sign)) (suc (size (the_formula a.formula.now))) p u (Some (record { opened = One (record { part = a; position = q }); allowed = true; supply = u }))
  opened-delta q e y fits made = record {
    same = λ x h. delta P l a.sign (the_formula a.formula.now) (the_spot before v p) (the_spot after w q) x (the_supply given u) h made.same;
    step = record { way = made.normal; longer = made.longer; parts = omega (arith, e, fits); values = y; smaller = omega arith };
    grown = made.grown;
  }
