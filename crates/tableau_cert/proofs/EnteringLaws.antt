-- Past the modal step of a part.
use Rattle.std.proofs.Common.{◌≡◌, ℕ, List, ◌∷◌, length, map, true, false, Option, Some, None, sym, ◌∙◌, ap, subst}
use Rattle.std.specs.List.{AllByRecursion}
use Rattle.calculus.specs.declared.sign.Sign.{Sign}
use Rattle.calculus.specs.declared.setting.Logic.{Logic}
use Rattle.calculus.specs.declared.kind.ModalPart.{ModalPart}
use Rattle.calculus.specs.declared.kind.ModalPart.TheVariants.{Plain, Nu, Pi}
use Rattle.calculus.specs.Ground as tree
use Rattle.calculus.specs.Instances.{after_character, after_string}
use Rattle.calculus.specs.Kinds.{components, shape_of, modal_of}
use Rattle.calculus.specs.Labels.{is_step_length}
use Rattle.calculus.specs.Syntax.{Formula}
use Rattle.formula_core.specs.GroundLists.{GroundList, IsGrown, the_marks, the_value, IsNormalValue, AreNormalMarks}
use Rattle.formula_core.specs.declared.ground.GroundLabel.{GroundLabel}
use Rattle.formula_core.specs.declared.ground.Value.{Value}
use Rattle.formula_core.specs.declared.ground.Value.TheVariants as value
use Rattle.formula_core.proofs.GrownLaws.{marks-grown}
use Rattle.tableau_core.specs.Walks.{starts_with_string, shaped_by}
use Rattle.tableau_cert.proofs.GatheringLaws.{by-kind, nu, nu-long, nu-missing, pi, plain}
use Rattle.tableau_cert.proofs.SteppingLaws.{grown-none, longer-same, marks-normal-grown}
use Rattle.tableau_cert.specs.Gathering.{AreNormal, IsEntered, IsModal, gathered, the_supply, with_rest}
use Rattle.tableau_cert.specs.Made.{IsWayMade}
use Rattle.tableau_cert.specs.WayView.{IsNormalWay, WayLists, the_spot}
use Rattle.tableau_cert.specs.declared.task.Supply as supply
use Rattle.tableau_cert.specs.declared.task.Entered as entered

abbrev pub first_normal : List GroundList → List Value → Type 0
first_normal ls vs = AllByRecursion (IsNormalValue ls) vs

-- the string that comes first
pub string-normal : (given ls : List GroundList) (vs after : List Value) (s : GroundLabel) → IsGrown given ls → vs ≡ value.Steps s ∷ after → first_normal given vs → AreNormalMarks ls s
string-normal given ls vs after s g e n = marks-normal-grown given ls g s (subst (first_normal given) e n).0

pub rest-normal : (given : List GroundList) (vs after : List Value) (v : Value) → vs ≡ v ∷ after → first_normal given vs → first_normal given after
rest-normal given vs after v e n = (subst (first_normal given) e n).1

module _ (l : Logic) (given before : List GroundList) (v : WayLists) (p : ℕ) (u : supply.Supply) (g : IsGrown given before) where
  pub missing : ((ls : List GroundList) → starts_with_string (map (the_value ls) u.values.now) ≡ false) → IsModal l Nu given before before v v p u None
  missing e = record {
    same = λ P go x h. nu-missing P l go (the_spot before v p) x u.sides.now (map (the_value given) u.values.now) h (e given);
    past = tt;
    grown = grown-none before g.most;
  }

  pub long : (s : GroundLabel) (after : List Value) (n : ℕ) → u.values.now ≡ value.Steps s ∷ after → n ≡ length (the_marks given s) → is_step_length l n ≡ false → IsModal l Nu given before before v v p u None
  long s after n e m k = record {
    same = λ P go x h. nu-long P l go (the_spot before v p) x u.sides.now (the_marks given s) (map (the_value given) after) n (h ∙ ap (λ vs. record { sides = u.sides.now; values = map (the_value given) vs }) e) m k;
    past = tt;
    grown = grown-none before g.most;
  }

  pub entered-nu : (after : List GroundList) (w : WayLists) (s : GroundLabel) (n : ℕ) (r : supply.Supply) → AreNormal given u → u.sides.now ≡ r.sides.now → u.values.now ≡ value.Steps s ∷ r.values.now → n ≡ length (the_marks given s) → is_step_length l n ≡ true → IsWayMade before after v w (after_string l (tree.marks_tree (the_marks before s)) (the_spot before v p)) p → IsModal l Nu given before after v w p u (Some (record { supply = r; steps = 1 }))
  entered-nu after w s n r y a e m k made =
      let normal : AreNormalMarks given s = (subst (first_normal given) e y).0 in
      let back = marks-grown given before g s normal in
      record {
        same = λ P go x h.
            nu P l go (the_spot before v p) x u.sides.now (the_marks given s) (map (the_value given) r.values.now) n (h ∙ ap (λ vs. record { sides = u.sides.now; values = map (the_value given) vs }) e) m k
            ∙ (λ i. gathered P go (after_string l (tree.marks_tree (sym back i)) (the_spot before v p)) (with_rest x 1 true (record { sides = a i; values = map (the_value given) r.values.now })))
            ∙ ap (λ z. gathered P go z (with_rest x 1 true (the_supply given r))) (sym made.same);
        past = record { way = made.normal; longer = made.longer; values = rest-normal given u.values.now r.values.now (value.Steps s) e y };
        grown = made.grown;
      }

module _ (l : Logic) (given before after : List GroundList) (v w : WayLists) (p : ℕ) (u : supply.Supply) where
  pub entered-pi : AreNormal given u → IsWayMade before after v w (after_character l (the_spot before v p)) p → IsModal l Pi given before after v w p u (Some (record { supply = u; steps = 1 }))
  entered-pi y made = record {
    same = λ P go x h. pi P l go (the_spot before v p) x (the_supply given u) h ∙ ap (λ z. gathered P go z (with_rest x 1 true (the_supply given u))) (sym made.same);
    past = record { way = made.normal; longer = made.longer; values = y };
    grown = made.grown;
  }

  pub entered-by : (s : Sign) (f : Formula) (m n : ModalPart) (o : Option entered.Entered) → m ≡ modal_of l s f → m ≡ n → IsModal l n given before after v w p u o → IsEntered l given before after v w s f p u o
  entered-by s f m n o e h k = record {
    same = λ P x q. by-kind P l s f m n (the_spot before v p) x e h ∙ k.same P (shaped_by l (shape_of s f) (components s f)) x q;
    past = k.past;
    grown = k.grown;
  }

pub entered-plain : (l : Logic) (given before : List GroundList) (v : WayLists) (p : ℕ) (u : supply.Supply) → IsNormalWay before v → AreNormal given u → IsGrown given before → IsModal l Plain given before before v v p u (Some (record { supply = u; steps = 0 }))
entered-plain l given before v p u n y g = record {
  same = λ P go x h. plain P l go (the_spot before v p) x (the_supply given u) h;
  past = record { way = n; longer = longer-same v; values = y };
  grown = grown-none before g.most;
}
