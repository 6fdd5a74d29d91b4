-- What a turn makes stands below it: the turns on what is made have it as their parent.
use Rattle.std.proofs.Common.{◌≡◌, ℕ, suc, List, [], ◌∷◌, ◌++◌, false, refl, sym, ◌∙◌, ap, subst, inl, inr, append-nil}
use Rattle.std.specs.List.{AllByRecursion}
use Rattle.std.proofs.lemmas.Bool.{false≢true}
use Rattle.calculus.specs.declared.sign.Sign.{Sign}
use Rattle.calculus.specs.declared.kind.Shape.{Shape}
use Rattle.calculus.specs.declared.kind.Shape.TheVariants.{Alpha, Beta, Gamma, Delta, Literal}
use Rattle.calculus.specs.Syntax.{Formula, Problem}
use Rattle.calculus.specs.Ground.{Value, g_eigen, term, values_tree}
use Rattle.calculus.specs.Kinds.{shape_of, modal_of}
use Rattle.calculus.specs.Positions.{size, node}
use Rattle.calculus.specs.Instances.{Spot, down_by, spot_inside, GammaUse, Turn}
use Rattle.conversion_theory.specs.Turns.{Name, IsParent}
use Rattle.conversion_theory.specs.Branches.{Item, item, Past, Made, rests, grows, splits, made_literal, made_alpha, made_beta, made_gamma, made_delta, made_shape, made}
use Rattle.calculus.proofs.SpotLaws.{is_gamma}
use Rattle.conversion_theory.proofs.PlaceLaws.{Stood, Turned, turned, Work, only-stood, first-stood, second-stood, inside-gamma-stood, inside-delta-stood}
use Rattle.conversion_theory.proofs.WorkLaws.{child-parent, takes-cases}
use Rattle.conversion_theory.proofs.UseLaws.{modal_arg}
use Rattle.conversion_theory.proofs.MadeLaws.{past-right, made-by, literal-made}
use Rattle.conversion_theory.proofs.WholeLaws.{KindOf, literal_kind, only_kind, pair_kind, either_kind, gamma_kind, delta_kind, kind_of, modal-cases}

-- the turns on the item have the turn as their parent
abbrev pub IsPart : Problem → Turn → Item → Type 0
IsPart P x i = i.past ≡ false → (z : Turn) (own : List Value) → z.position ≡ i.spot.position → z.values ≡ i.spot.taken ++ own → IsParent P x z

abbrev pub ArePart : Problem → Turn → Made → Type 0
ArePart P x rests = Unit {0}
ArePart P x (grows m u added) = AllByRecursion (IsPart P x) added
ArePart P x (splits m i j) = IsPart P x i × IsPart P x j

module _ (P : Problem) (num : Name → ℕ) (T : Turn → Type 0) (G : GammaUse → Type 0) (V : Value → Type 0) (x : Turn) (w : Work P T G V x) where
  past : Turned P w.before w.past w.sign w.formula
  past = turned P w.before w.from w.past w.sign w.formula w.stood w.moves

  abbrev past_by : List Value → Past
  past_by rest = record { spot = w.past; arg = modal_arg num P.setting.logic w.sign w.formula w.from w.past w.moves; rest = rest }

  is_part : (e : Spot) (s : Sign) (f : Formula) → Stood P (w.before ++ node w.past.position w.sign w.formula ∷ []) e s f → e.taken ≡ x.values → IsPart P x (item e s f)
  is_part e s f h v fresh z own p q = child-parent P T G V x w e s f h v z p own q

  abbrev MadeOf : List Value → Made
  MadeOf own = made num P.setting.logic w.from w.sign w.formula own

  -- the values, where the turn takes no term
  values_plain : is_gamma (shape_of w.sign w.formula) ≡ false → x.values ≡ w.past.taken
  values_plain e = elim (takes-cases G (shape_of w.sign w.formula) w.past x w.takes) [ inl h ↦ h.1 | inr h ↦ absurd (false≢true (sym e ∙ ap is_gamma h.1)) ]

  made_plain : (own : List Value) → x.values ≡ w.from.taken ++ own → (h : Shape) → shape_of w.sign w.formula ≡ h → is_gamma h ≡ false → MadeOf own ≡ made_shape num h (modal_of P.setting.logic w.sign w.formula) (past_by []) w.sign w.formula
  made_plain own v h e g = made-by num P.setting.logic w.from w.sign w.formula own h (past_by []) e (past-right num P.setting.logic w.sign w.formula w.from w.past w.moves own [] (sym v ∙ values_plain (ap is_gamma e ∙ g) ∙ sym (append-nil w.past.taken)))

  by_kind : (own : List Value) → x.values ≡ w.from.taken ++ own → KindOf w.sign w.formula → ArePart P x (MadeOf own)
  by_kind own v (literal_kind p ts q) =
      let same = made_plain own v Literal (ap (shape_of w.sign) q) refl in
      elim (modal-cases (modal_of P.setting.logic w.sign w.formula)) [
        | inl e ↦ subst (ArePart P x) (sym (same ∙ ap (λ k. made_literal k (past_by []) w.sign w.formula) e)) tt
        | inr e ↦ subst (ArePart P x) (sym (same ∙ literal-made (modal_of P.setting.logic w.sign w.formula) (past_by []) w.sign w.formula p ts e q)) ((λ fresh z own p q. absurd (false≢true (sym fresh))), tt)
      ]
  by_kind own v (only_kind a e g) =
      subst (ArePart P x) (sym (made_plain own v Alpha e refl ∙ ap (made_alpha (past_by [])) g))
      (is_part (down_by 1 w.past) a.sign a.formula (only-stood P w.before w.past w.sign w.formula a past e g) (sym (values_plain (ap is_gamma e))), tt)
  by_kind own v (pair_kind a b e g) =
      subst (ArePart P x) (sym (made_plain own v Alpha e refl ∙ ap (made_alpha (past_by [])) g)) (
        is_part (down_by 1 w.past) a.sign a.formula (first-stood P w.before w.past w.sign w.formula Alpha a b past refl (λ rest. refl) e g) (sym (values_plain (ap is_gamma e))),
        (is_part (down_by (suc (size a.formula)) w.past) b.sign b.formula (second-stood P w.before w.past w.sign w.formula Alpha a b past refl (λ rest. refl) e g) (sym (values_plain (ap is_gamma e))), tt),
      )
  by_kind own v (either_kind a b e g) =
      subst (ArePart P x) (sym (made_plain own v Beta e refl ∙ ap (made_beta (past_by [])) g)) (
        is_part (down_by 1 w.past) a.sign a.formula (first-stood P w.before w.past w.sign w.formula Beta a b past refl (λ rest. refl) e g) (sym (values_plain (ap is_gamma e))),
        is_part (down_by (suc (size a.formula)) w.past) b.sign b.formula (second-stood P w.before w.past w.sign w.formula Beta a b past refl (λ rest. refl) e g) (sym (values_plain (ap is_gamma e))),
      )
  by_kind own v (gamma_kind a e g) = elim (takes-cases G (shape_of w.sign w.formula) w.past x w.takes) [
    | inl h ↦ absurd (false≢true (sym h.0 ∙ ap is_gamma e))
    | inr h ↦
        let pasts = past-right num P.setting.logic w.sign w.formula w.from w.past w.moves own (term h.0 ∷ []) (sym v ∙ h.2) in
        let same = made-by num P.setting.logic w.from w.sign w.formula own Gamma (past_by (term h.0 ∷ [])) e pasts ∙ ap (made_gamma num (past_by (term h.0 ∷ [])) (term h.0 ∷ [])) g in
        subst (ArePart P x) (sym same) (is_part (spot_inside h.0 (w.past.taken ++ term h.0 ∷ []) w.past) a.sign a.formula (inside-gamma-stood P w.before w.past w.sign w.formula a h.0 past e g) (sym h.2), tt)
  ]
  by_kind own v (delta_kind a e g) =
      subst (ArePart P x) (sym (made_plain own v Delta e refl ∙ ap (made_delta num (past_by [])) g))
      (is_part (spot_inside (g_eigen w.past.position (values_tree w.past.taken)) w.past.taken w.past) a.sign a.formula (inside-delta-stood P w.before w.past w.sign w.formula a past e g) (sym (values_plain (ap is_gamma e))), tt)

  pub made-part : (own : List Value) → x.values ≡ w.from.taken ++ own → ArePart P x (MadeOf own)
  made-part own v = by_kind own v (kind_of w.sign w.formula)
