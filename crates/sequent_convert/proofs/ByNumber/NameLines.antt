-- The name lines of names, one after the other.
use Rattle.std.proofs.Common.{◌≡◌, ℕ, zero, suc, ◌+◌, ◌<◌, List, [], ◌∷◌, ◌++◌, map, length, get_or, take, append_assoc, refl, sym, ◌∙◌, ap, subst, add-one, arith}
use Rattle.calculus.specs.Ground.{g_fun, g_eigen, common, own}
use Rattle.calculus.specs.Derivations.{EigenName, SpareName}
use Rattle.calculus.specs.Syntax.{Problem}
use Rattle.conversion_theory.specs.Turns as turns
use Rattle.conversion_theory.specs.Turns.{term_name, mark_name}
use Rattle.conversion_theory.specs.Numbering.{eigen_names, spare_names}
use Rattle.calculus.specs.Ground.{marks_list, marks_tree, values_tree}
use Rattle.calculus.specs.Derivations.{Label}
use Rattle.calculus.specs.Lists.{marks_list-marks_tree, values_list-values_tree}
use Rattle.calculus.specs.Skolem.{label_of}
use Rattle.conversion_theory.specs.Numbering.{eigen_home, numbered_label}
use Rattle.formula_core.specs.GroundLists.{GroundList, the_mark, the_marks, the_value, the_values}
use Rattle.formula_core.specs.declared.ground.GroundLabel.{GroundLabel}
use Rattle.formula_core.specs.declared.ground.GroundMark.{GroundMark}
use Rattle.formula_core.specs.declared.ground.Value.{Value}
use Rattle.formula_core.specs.declared.ground.Values.{Values}
use Rattle.tableau_core.specs.Numbered.SpotView.{the_mark_at}
use Rattle.tableau_core.specs.declared.spot.MarkAt.{MarkAt}
use Rattle.name_order.specs.ByNumber.NameView.{the_name}
use Rattle.name_order.specs.declared.names.Name.{Name}

eigens-cons : (num : turns.Name → ℕ) (P : Problem) (n : turns.Name) (ns : List turns.Name) → eigen_names num P (n ∷ ns) ≡ eigen_names num P (n ∷ []) ++ eigen_names num P ns
eigens-cons num P (term_name (g_fun f ts)) ns = refl
eigens-cons num P (term_name (g_eigen p vs)) ns = refl
eigens-cons num P (term_name (common k)) ns = refl
eigens-cons num P (term_name (own k w)) ns = refl
eigens-cons num P (mark_name m) ns = refl

spares-cons : (num : turns.Name → ℕ) (n : turns.Name) (ns : List turns.Name) → spare_names num (n ∷ ns) ≡ spare_names num (n ∷ []) ++ spare_names num ns
spares-cons num (term_name (g_fun f ts)) ns = refl
spares-cons num (term_name (g_eigen p vs)) ns = refl
spares-cons num (term_name (common k)) ns = refl
spares-cons num (term_name (own k w)) ns = refl
spares-cons num (mark_name m) ns = refl

-- one more name
eigens-next : (ls : List GroundList) (num : turns.Name → ℕ) (P : Problem) (xs : List Name) (i : ℕ) (x d : Name) → i < length xs → x ≡ get_or xs i d → eigen_names num P (map (the_name ls) (take (suc i) xs)) ≡ eigen_names num P (map (the_name ls) (take i xs)) ++ eigen_names num P (the_name ls x ∷ [])
eigens-next ls num P [] i x d lt e = absurd (omega (arith, lt))
eigens-next ls num P (y ∷ ys) zero x d lt e = ap (λ z. eigen_names num P (the_name ls z ∷ [])) (sym e)
eigens-next ls num P (y ∷ ys) (suc i) x d lt e =
    let r = eigens-next ls num P ys i x d (omega (arith, lt)) e in
    eigens-cons num P (the_name ls y) (map (the_name ls) (take (suc i) ys))
    ∙ ap (λ es. eigen_names num P (the_name ls y ∷ []) ++ es) r
    ∙ sym (append_assoc (eigen_names num P (the_name ls y ∷ [])) (eigen_names num P (map (the_name ls) (take i ys))) (eigen_names num P (the_name ls x ∷ [])))
    ∙ ap (λ es. es ++ eigen_names num P (the_name ls x ∷ [])) (sym (eigens-cons num P (the_name ls y) (map (the_name ls) (take i ys))))

spares-next : (ls : List GroundList) (num : turns.Name → ℕ) (xs : List Name) (i : ℕ) (x d : Name) → i < length xs → x ≡ get_or xs i d → spare_names num (map (the_name ls) (take (suc i) xs)) ≡ spare_names num (map (the_name ls) (take i xs)) ++ spare_names num (the_name ls x ∷ [])
spares-next ls num [] i x d lt e = absurd (omega (arith, lt))
spares-next ls num (y ∷ ys) zero x d lt e = ap (λ z. spare_names num (the_name ls z ∷ [])) (sym e)
spares-next ls num (y ∷ ys) (suc i) x d lt e =
    let r = spares-next ls num ys i x d (omega (arith, lt)) e in
    spares-cons num (the_name ls y) (map (the_name ls) (take (suc i) ys))
    ∙ ap (λ es. spare_names num (the_name ls y ∷ []) ++ es) r
    ∙ sym (append_assoc (spare_names num (the_name ls y ∷ [])) (spare_names num (map (the_name ls) (take i ys))) (spare_names num (the_name ls x ∷ [])))
    ∙ ap (λ es. es ++ spare_names num (the_name ls x ∷ [])) (sym (spares-cons num (the_name ls y) (map (the_name ls) (take i ys))))

pub eigens-step : (ls : List GroundList) (num : turns.Name → ℕ) (P : Problem) (xs : List Name) (i : ℕ) (x d : Name) → i < length xs → x ≡ get_or xs i d → eigen_names num P (map (the_name ls) (take (i + 1) xs)) ≡ eigen_names num P (map (the_name ls) (take i xs)) ++ eigen_names num P (the_name ls x ∷ [])
eigens-step ls num P xs i x d lt e = ap (λ n. eigen_names num P (map (the_name ls) (take n xs))) (add-one i) ∙ eigens-next ls num P xs i x d lt e

pub spares-step : (ls : List GroundList) (num : turns.Name → ℕ) (xs : List Name) (i : ℕ) (x d : Name) → i < length xs → x ≡ get_or xs i d → spare_names num (map (the_name ls) (take (i + 1) xs)) ≡ spare_names num (map (the_name ls) (take i xs)) ++ spare_names num (the_name ls x ∷ [])
spares-step ls num xs i x d lt e = ap (λ n. spare_names num (map (the_name ls) (take n xs))) (add-one i) ∙ spares-next ls num xs i x d lt e

pub lines-step : (ls : List GroundList) (num : turns.Name → ℕ) (P : Problem) (xs : List Name) (i : ℕ) (x d : Name) → i < length xs → x ≡ get_or xs i d → (es fs : List EigenName) → es ≡ eigen_names num P (map (the_name ls) (take i xs)) → fs ≡ es ++ eigen_names num P (the_name ls x ∷ []) → (ss us : List SpareName) → ss ≡ spare_names num (map (the_name ls) (take i xs)) → us ≡ ss ++ spare_names num (the_name ls x ∷ []) → (fs ≡ eigen_names num P (map (the_name ls) (take (i + 1) xs))) × (us ≡ spare_names num (map (the_name ls) (take (i + 1) xs)))
lines-step ls num P xs i x d lt read es fs e f ss us s u = (
  f ∙ ap (λ zs. zs ++ eigen_names num P (the_name ls x ∷ [])) e ∙ sym (eigens-step ls num P xs i x d lt read),
  u ∙ ap (λ zs. zs ++ spare_names num (the_name ls x ∷ [])) s ∙ sym (spares-step ls num xs i x d lt read),
)

-- ---- homes, by another name of the same lists

module _ (ls ts : List GroundList) (same : ts ≡ ls) (num : turns.Name → ℕ) where
  pub home-by : (P : Problem) (p : ℕ) (n : Values) (vs : List Value) (marks items : List MarkAt) (w : Label) → map (the_value ts) vs ≡ the_values ts n → map (the_mark_at ts) items ≡ label_of P p (map (the_value ts) vs) → marks ≡ items → w ≡ numbered_label num (map (the_mark_at ls) marks) → w ≡ eigen_home num P p (values_tree (the_values ls n))
  home-by P p n vs marks items w read told m e =
      let list : map (the_value ls) vs ≡ the_values ls n = subst (λ (zs : List GroundList). map (the_value zs) vs ≡ the_values zs n) same read in
      let home : map (the_mark_at ls) items ≡ label_of P p (map (the_value ls) vs) = subst (λ (zs : List GroundList). map (the_mark_at zs) items ≡ label_of P p (map (the_value zs) vs)) same told in
      e ∙ ap (λ xs. numbered_label num (map (the_mark_at ls) xs)) m ∙ ap (numbered_label num) (home ∙ ap (label_of P p) (list ∙ sym (values_list-values_tree (the_values ls n))))

  pub own-by : (n : GroundLabel) (ms : List GroundMark) (w : Label) → map (the_mark ts) ms ≡ the_marks ts n → w ≡ numbered_label num (map (the_mark ls) ms) → w ≡ numbered_label num (marks_list (marks_tree (the_marks ls n)))
  own-by n ms w read e =
      let list : map (the_mark ls) ms ≡ the_marks ls n = subst (λ (zs : List GroundList). map (the_mark zs) ms ≡ the_marks zs n) same read in
      e ∙ ap (numbered_label num) (list ∙ sym (marks_list-marks_tree (the_marks ls n)))

pub ruleset lines = (eigens-step, spares-step)
