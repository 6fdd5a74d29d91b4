-- What a turn does, as it is computed, is right: its step applies, it can be printed, and what it leaves are branches.
use Rattle.std.proofs.Common.{◌≡◌, ℕ, suc, List, [], ◌∷◌, ◌++◌, length, true, false, IsTrue, Some, Ok, refl, sym, ◌∙◌, ap, subst, inl, inr, slice_get, append_assoc, append-nil}
use Rattle.std.proofs.lemmas.Bool.{false≢true}
use Rattle.calculus.specs.declared.sign.Sign.{Sign}
use Rattle.calculus.specs.declared.setting.Logic.{Logic}
use Rattle.calculus.specs.declared.kind.Shape.{Shape}
use Rattle.calculus.specs.declared.kind.Shape.TheVariants.{Alpha, Beta, Gamma, Delta, Literal}
use Rattle.calculus.specs.declared.kind.ModalPart.{ModalPart}
use Rattle.calculus.specs.declared.kind.ModalPart.TheVariants.{Plain, Nu, Pi}
use Rattle.calculus.specs.Syntax.{Terms, Formula, atom, Problem}
use Rattle.calculus.specs.Ground.{Value, term, steps, g_eigen, values_tree}
use Rattle.calculus.specs.Kinds.{shape_of, modal_of}
use Rattle.calculus.specs.Positions.{size}
use Rattle.calculus.specs.Instances.{Spot, down_by, spot_inside, Turn}
use Rattle.calculus.specs.Text.{is_number}
use Rattle.calculus.specs.DerivationText.{step_is_written}
use Rattle.calculus.specs.Derivations.{ModalArg, TermArg, no_term, by_term, by_name, apply_to}
use Rattle.calculus.specs.Calculus.{one, two, apply}
use Rattle.calculus.specs.Tableaux.{Tableau}
use Rattle.conversion_theory.specs.Turns.{Name, term_name}
use Rattle.conversion_theory.specs.Numbering.{IsNumbering, number_of, numbered_term, name_lines_of}
use Rattle.conversion_theory.specs.Branches.{Item, item, landed, entries_of, Past, past_modal, Made, rests, grows, splits, made_literal, made_alpha, made_beta, made_gamma, made_delta, made_shape, made}
use Rattle.conversion_theory.proofs.HitLaws.{Moves, plain, by_string, by_character}
use Rattle.calculus.proofs.SpotLaws.{is_gamma}
use Rattle.conversion_theory.proofs.PlaceLaws.{Work}
use Rattle.conversion_theory.proofs.AgendaLaws.{TurnOf}
use Rattle.conversion_theory.proofs.ClosedLaws.{Allowed, Admitted}
use Rattle.conversion_theory.proofs.WorkLaws.{takes-cases}
use Rattle.conversion_theory.proofs.BranchLaws.{IsBranch, IsReady}
use Rattle.conversion_theory.proofs.UseLaws.{modal_arg}
use Rattle.conversion_theory.proofs.NextLaws.{OneStep, TwoSteps, literal-rests, only-step, pair-step, either-step, gamma-step, delta-step, literal-step}
use Rattle.conversion_theory.proofs.WholeLaws.{KindOf, literal_kind, only_kind, pair_kind, either_kind, gamma_kind, delta_kind, kind_of, modal-cases, gamma-term}

-- ---- past the modal part

pub front_same : (xs ys zs : List Value) → xs ++ ys ≡ xs ++ zs → ys ≡ zs
front_same [] ys zs e = e
front_same (x ∷ xs) ys zs e = front_same xs ys zs (let tail : xs ++ ys ≡ xs ++ zs = cc in tail)

pub past-right : (num : Name → ℕ) (l : Logic) (s : Sign) (f : Formula) (c d : Spot) (m : Moves l s f c d) (own r : List Value) → c.taken ++ own ≡ d.taken ++ r → past_modal num l (modal_of l s f) c own ≡ record { spot = d; arg = modal_arg num l s f c d m; rest = r }
past-right num l s f c d (plain e) own r h = let same = front_same c.taken own r h in rw (e, same) refl
past-right num l s f c d (by_string w e g) own r h = let same : own ≡ steps w ∷ r = front_same c.taken own (steps w ∷ r) (h ∙ append_assoc c.taken (steps w ∷ []) r) in rw (e, same) refl
past-right num l s f c d (by_character e) own r h = let same = front_same c.taken own r h in rw (e, same) refl

pub made-by : (num : Name → ℕ) (l : Logic) (c : Spot) (s : Sign) (f : Formula) (own : List Value) (h : Shape) (q : Past) → shape_of s f ≡ h → past_modal num l (modal_of l s f) c own ≡ q → made num l c s f own ≡ made_shape num h (modal_of l s f) q s f
made-by num l c s f own h q e p = λ i. made_shape num (e i) (modal_of l s f) (p i) s f

pub literal-made : (m : ModalPart) (q : Past) (s : Sign) (f : Formula) (p : ℕ) (ts : Terms) → (m ≡ Plain → ⊥) → f ≡ atom p ts → made_literal m q s f ≡ grows q.arg no_term (landed q.spot s p ts ∷ [])
literal-made Plain q s f p ts n e = absurd (n refl)
literal-made Nu q s f p ts n e = ap (λ g. made_literal Nu q s g) e
literal-made Pi q s f p ts n e = ap (λ g. made_literal Pi q s g) e

-- ---- what is made is right

module _ (P : Problem) (names : List Name) (done : List Turn) (x : Turn) (items : List Item) (k : ℕ) where
  -- the step adds the items to the branch
  pub record IsGrown (m : ModalArg) (u : TermArg) (added : List Item) : Type 0 where
    pub applies : apply P (name_lines_of (number_of names) P names) (entries_of (number_of names) items) (apply_to (suc k) m u) ≡ Ok (one (entries_of (number_of names) (items ++ added)))
    pub branch : IsBranch P (done ++ x ∷ []) (items ++ added)
    pub written : IsTrue (is_number (length names)) → is_number (suc k) ≡ true → step_is_written P.symbols (apply_to (suc k) m u) ≡ true

  -- the step forks the branch
  pub record IsForked (m : ModalArg) (i j : Item) : Type 0 where
    pub applies : apply P (name_lines_of (number_of names) P names) (entries_of (number_of names) items) (apply_to (suc k) m no_term) ≡ Ok (two (entries_of (number_of names) (items ++ i ∷ [])) (entries_of (number_of names) (items ++ j ∷ [])))
    pub first : IsBranch P (done ++ x ∷ []) (items ++ i ∷ [])
    pub second : IsBranch P (done ++ x ∷ []) (items ++ j ∷ [])
    pub written : IsTrue (is_number (length names)) → is_number (suc k) ≡ true → step_is_written P.symbols (apply_to (suc k) m no_term) ≡ true

  abbrev pub IsMade : Made → Type 0
  IsMade rests = IsBranch P (done ++ x ∷ []) items
  IsMade (grows m u added) = IsGrown m u added
  IsMade (splits m i j) = IsForked m i j

module _ (P : Problem) (t : Tableau) (names : List Name) (numbering : IsNumbering P t names) (done : List Turn) (x : Turn) (ready : IsReady P t done x) (w : Work P (TurnOf P t) (Allowed P) (Admitted P) x) (items : List Item) (b : IsBranch P done items) (k : ℕ) (at : slice_get items k ≡ Some (item w.from w.sign w.formula)) where
  grown : (u : TermArg) (added : List Item) → OneStep P t names numbering done x ready w items b k at u added → IsGrown P names done x items k (modal_arg (number_of names) P.setting.logic w.sign w.formula w.from w.past w.moves) u added
  grown u added s = record { applies = s.applies; branch = s.branch; written = s.written }

  forked : (i j : Item) → TwoSteps P t names numbering done x ready w items b k at i j → IsForked P names done x items k (modal_arg (number_of names) P.setting.logic w.sign w.formula w.from w.past w.moves) i j
  forked i j s = record { applies = s.applies; first = s.first; second = s.second; written = s.written }

  -- the spot and the argument, where the turn takes no term
  past_plain : (own : List Value) → x.values ≡ w.from.taken ++ own → is_gamma (shape_of w.sign w.formula) ≡ false → past_modal (number_of names) P.setting.logic (modal_of P.setting.logic w.sign w.formula) w.from own ≡ record { spot = w.past; arg = modal_arg (number_of names) P.setting.logic w.sign w.formula w.from w.past w.moves; rest = [] }
  past_plain own v e = past-right (number_of names) P.setting.logic w.sign w.formula w.from w.past w.moves own [] (sym v ∙ values ∙ sym (append-nil w.past.taken))
    where
      values : x.values ≡ w.past.taken
      values = elim (takes-cases (Allowed P) (shape_of w.sign w.formula) w.past x w.takes) [ inl h ↦ h.1 | inr h ↦ absurd (false≢true (sym e ∙ ap is_gamma h.1)) ]

  by_kind : (own : List Value) → x.values ≡ w.from.taken ++ own → KindOf w.sign w.formula → IsMade P names done x items k (made (number_of names) P.setting.logic w.from w.sign w.formula own)
  by_kind own v (literal_kind p ts q) =
      let l = P.setting.logic in
      let num = number_of names in
      let e : shape_of w.sign w.formula ≡ Literal = ap (shape_of w.sign) q in
      let same = made-by num l w.from w.sign w.formula own Literal (record { spot = w.past; arg = modal_arg num l w.sign w.formula w.from w.past w.moves; rest = [] }) e (past_plain own v (ap is_gamma e)) in
      elim (modal-cases (modal_of l w.sign w.formula)) [
        | inl m ↦ subst (IsMade P names done x items k) (sym (same ∙ ap (λ z. made_literal z (record { spot = w.past; arg = modal_arg num l w.sign w.formula w.from w.past w.moves; rest = [] }) w.sign w.formula) m)) (literal-rests P t names numbering done x ready w items b e m)
        | inr n ↦ subst (IsMade P names done x items k) (sym (same ∙ literal-made (modal_of l w.sign w.formula) (record { spot = w.past; arg = modal_arg num l w.sign w.formula w.from w.past w.moves; rest = [] }) w.sign w.formula p ts n q)) (grown no_term (landed w.past w.sign p ts ∷ []) (literal-step P t names numbering done x ready w items b k at p ts q n))
      ]
  by_kind own v (only_kind a e g) =
      let q : Past = record { spot = w.past; arg = modal_arg (number_of names) P.setting.logic w.sign w.formula w.from w.past w.moves; rest = [] } in
      let same = made-by (number_of names) P.setting.logic w.from w.sign w.formula own Alpha q e (past_plain own v (ap is_gamma e)) ∙ ap (made_alpha q) g in
      subst (IsMade P names done x items k) (sym same) (grown no_term (item (down_by 1 w.past) a.sign a.formula ∷ []) (only-step P t names numbering done x ready w items b k at a e g))
  by_kind own v (pair_kind a c e g) =
      let q : Past = record { spot = w.past; arg = modal_arg (number_of names) P.setting.logic w.sign w.formula w.from w.past w.moves; rest = [] } in
      let same = made-by (number_of names) P.setting.logic w.from w.sign w.formula own Alpha q e (past_plain own v (ap is_gamma e)) ∙ ap (made_alpha q) g in
      subst (IsMade P names done x items k) (sym same) (grown no_term (item (down_by 1 w.past) a.sign a.formula ∷ item (down_by (suc (size a.formula)) w.past) c.sign c.formula ∷ []) (pair-step P t names numbering done x ready w items b k at a c e g))
  by_kind own v (either_kind a c e g) =
      let q : Past = record { spot = w.past; arg = modal_arg (number_of names) P.setting.logic w.sign w.formula w.from w.past w.moves; rest = [] } in
      let same = made-by (number_of names) P.setting.logic w.from w.sign w.formula own Beta q e (past_plain own v (ap is_gamma e)) ∙ ap (made_beta q) g in
      subst (IsMade P names done x items k) (sym same) (forked (item (down_by 1 w.past) a.sign a.formula) (item (down_by (suc (size a.formula)) w.past) c.sign c.formula) (either-step P t names numbering done x ready w items b k at a c e g))
  by_kind own v (gamma_kind a e g) =
      let u = gamma-term (Allowed P) (shape_of w.sign w.formula) w.past x w.takes e in
      let q : Past = record { spot = w.past; arg = modal_arg (number_of names) P.setting.logic w.sign w.formula w.from w.past w.moves; rest = term u.0 ∷ [] } in
      let past = past-right (number_of names) P.setting.logic w.sign w.formula w.from w.past w.moves own (term u.0 ∷ []) (sym v ∙ u.1) in
      let same = made-by (number_of names) P.setting.logic w.from w.sign w.formula own Gamma q e past ∙ ap (made_gamma (number_of names) q (term u.0 ∷ [])) g in
      subst (IsMade P names done x items k) (sym same) (grown (by_term (numbered_term (number_of names) u.0)) (item (spot_inside u.0 (w.past.taken ++ term u.0 ∷ []) w.past) a.sign a.formula ∷ []) (gamma-step P t names numbering done x ready w items b k at a u.0 e g u.1 u.2))
  by_kind own v (delta_kind a e g) =
      let q : Past = record { spot = w.past; arg = modal_arg (number_of names) P.setting.logic w.sign w.formula w.from w.past w.moves; rest = [] } in
      let same = made-by (number_of names) P.setting.logic w.from w.sign w.formula own Delta q e (past_plain own v (ap is_gamma e)) ∙ ap (made_delta (number_of names) q) g in
      subst (IsMade P names done x items k) (sym same) (grown (by_name (number_of names (term_name (g_eigen w.past.position (values_tree w.past.taken))))) (item (spot_inside (g_eigen w.past.position (values_tree w.past.taken)) w.past.taken w.past) a.sign a.formula ∷ []) (delta-step P t names numbering done x ready w items b k at a e g))

  -- what the turn does to the signed formula that it works on, by the values that it takes itself
  pub made-right : (own : List Value) → x.values ≡ w.from.taken ++ own → IsMade P names done x items k (made (number_of names) P.setting.logic w.from w.sign w.formula own)
  made-right own v = by_kind own v (kind_of w.sign w.formula)
