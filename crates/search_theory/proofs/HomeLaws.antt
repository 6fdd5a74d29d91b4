-- The label that is followed by cells is the home of the eigenvariable, by each ground solution.
use Rattle.std.proofs.Common.{◌≡◌, ℕ, List, [], ◌∷◌, ◌++◌, false, IsTrue, refl, sym, ◌∙◌, ap, Some}
use Rattle.std.proofs.lemmas.Bool.{false≢true}
use Rattle.std.proofs.lemmas.List.{map-append, append-nil}
use Rattle.calculus.specs.declared.sort.Sort.TheVariants.{TermSort, StringSort}
use Rattle.calculus.specs.declared.setting.Logic.{Logic}
use Rattle.calculus.specs.declared.setting.Logic.TheVariants.{Classical, Intuitionistic, D, T as LogicT, S4, S5}
use Rattle.calculus.specs.declared.kind.Shape.{Shape}
use Rattle.calculus.specs.declared.kind.Shape.TheVariants.{Alpha, Beta, Gamma, Delta, Literal}
use Rattle.calculus.specs.declared.kind.ModalPart.{ModalPart}
use Rattle.calculus.specs.Ground.{GroundTerm, GroundMark, g_new_mark, term, steps, marks_list, marks_tree, values_tree}
use Rattle.calculus.specs.Lists.{marks_list-marks_tree}
use Rattle.calculus.specs.Labels.{nu_label, pi_label}
use Rattle.calculus.specs.Skolem.{Reached, take_string, after_modal, take_term, after_shape}
use Rattle.store_theory.specs.Stores.{new_cell, Store, CellValue, a_term, a_mark, a_string, has_sort, Solution, Solves}
use Rattle.store_theory.specs.Templates.{as_value, as_label}
use Rattle.search_theory.specs.States.{label_by, values_by}
use Rattle.search_theory.specs.HomeCells.{CellReached, PassesModal, by_plain, by_string, by_mark, PassesShape, by_term, by_other, is_gamma_shape, reached_by}
use Rattle.search_theory.proofs.BuildingLaws.{solved-sorted}
use Rattle.search_theory.proofs.AtomLaws.{values_at-by, label-append}

nu-next : (l : Logic) (σ : Solution) (w : List ℕ) (r : ℕ) → nu_label l (label_by σ w) (as_label (σ r)) ≡ label_by σ (pi_label l w r)
nu-next Classical σ w r = ap (λ v. label_by σ w ++ v) (sym (append-nil (as_label (σ r)))) ∙ sym (label-append σ w (r ∷ []))
nu-next Intuitionistic σ w r = ap (λ v. label_by σ w ++ v) (sym (append-nil (as_label (σ r)))) ∙ sym (label-append σ w (r ∷ []))
nu-next D σ w r = ap (λ v. label_by σ w ++ v) (sym (append-nil (as_label (σ r)))) ∙ sym (label-append σ w (r ∷ []))
nu-next LogicT σ w r = ap (λ v. label_by σ w ++ v) (sym (append-nil (as_label (σ r)))) ∙ sym (label-append σ w (r ∷ []))
nu-next S4 σ w r = ap (λ v. label_by σ w ++ v) (sym (append-nil (as_label (σ r)))) ∙ sym (label-append σ w (r ∷ []))
nu-next S5 σ w r = sym (append-nil (as_label (σ r)))

pi-next : (l : Logic) (σ : Solution) (w : List ℕ) (k : ℕ) (m : GroundMark) → σ k ≡ a_mark m → pi_label l (label_by σ w) m ≡ label_by σ (pi_label l w k)
pi-next Classical σ w k m e = ap (λ v. label_by σ w ++ (as_label v ++ [])) (sym e) ∙ sym (label-append σ w (k ∷ []))
pi-next Intuitionistic σ w k m e = ap (λ v. label_by σ w ++ (as_label v ++ [])) (sym e) ∙ sym (label-append σ w (k ∷ []))
pi-next D σ w k m e = ap (λ v. label_by σ w ++ (as_label v ++ [])) (sym e) ∙ sym (label-append σ w (k ∷ []))
pi-next LogicT σ w k m e = ap (λ v. label_by σ w ++ (as_label v ++ [])) (sym e) ∙ sym (label-append σ w (k ∷ []))
pi-next S4 σ w k m e = ap (λ v. label_by σ w ++ (as_label v ++ [])) (sym e) ∙ sym (label-append σ w (k ∷ []))
pi-next S5 σ w k m e = ap (λ v. as_label v ++ []) (sym e)

pub string-value : (v : CellValue) → IsTrue (has_sort StringSort v) → (w : List GroundMark) × (v ≡ a_string w)
string-value (a_term t) h = absurd (false≢true h)
string-value (a_mark m) h = absurd (false≢true h)
string-value (a_string w) h = (w, refl)

pub term-value : (v : CellValue) → IsTrue (has_sort TermSort v) → (t : GroundTerm) × (v ≡ a_term t)
term-value (a_term t) h = (t, refl)
term-value (a_mark m) h = absurd (false≢true h)
term-value (a_string w) h = absurd (false≢true h)

pub modal-by : (l : Logic) (s : Store) (σ : Solution) → Solves s σ → (p : ℕ) (m : ModalPart) (c d : CellReached) → PassesModal l s p m c d → after_modal l p m (reached_by σ c) ≡ Some (reached_by σ d)
modal-by l s σ h p m c d by_plain = refl
modal-by l s σ h p m c d (by_string w taken rest r sorted) =
    let v = string-value (σ r) (solved-sorted s σ h StringSort r sorted) in
    let shown : as_value (σ r) ≡ steps (marks_tree v.0) = ap as_value v.1 in
    let label : nu_label l (label_by σ w) (marks_list (marks_tree v.0)) ≡ label_by σ (pi_label l w r) = ap (nu_label l (label_by σ w)) (marks_list-marks_tree v.0 ∙ sym (ap as_label v.1)) ∙ nu-next l σ w r in
    let values : values_by σ taken ++ steps (marks_tree v.0) ∷ [] ≡ values_by σ (taken ++ r ∷ []) = ap (λ x. values_by σ taken ++ x ∷ []) (sym shown) ∙ sym (map-append (λ k. as_value (σ k)) taken (r ∷ [])) in
    ap (λ x. take_string l (record { label = label_by σ w; taken = values_by σ taken; rest = as_value (σ r) ∷ values_by σ rest }) (x ∷ values_by σ rest)) shown ∙ (λ i. Some (record { label = label i; taken = values i; rest = values_by σ rest }))
modal-by l s σ h p m c d (by_mark w taken rest k e) =
    let q = h k (new_cell p taken) e in
    let is : σ k ≡ a_mark (g_new_mark p (values_tree (values_by σ taken))) = q.2 ∙ ap (λ vs. a_mark (g_new_mark p vs)) (sym (values_at-by σ taken q.0 q.1)) in
    let label = pi-next l σ w k (g_new_mark p (values_tree (values_by σ taken))) is in
    λ i. Some (record { label = label i; taken = values_by σ taken; rest = values_by σ rest })

pub shape-by : (s : Store) (σ : Solution) → Solves s σ → (x : Shape) (c d : CellReached) → PassesShape s x c d → after_shape x (reached_by σ c) ≡ Some (reached_by σ d)
shape-by s σ h x c d (by_term w taken rest r sorted) =
    let v = term-value (σ r) (solved-sorted s σ h TermSort r sorted) in
    let shown : as_value (σ r) ≡ term v.0 = ap as_value v.1 in
    let values : values_by σ taken ++ term v.0 ∷ [] ≡ values_by σ (taken ++ r ∷ []) = ap (λ y. values_by σ taken ++ y ∷ []) (sym shown) ∙ sym (map-append (λ k. as_value (σ k)) taken (r ∷ [])) in
    ap (λ y. take_term (record { label = label_by σ w; taken = values_by σ taken; rest = as_value (σ r) ∷ values_by σ rest }) (y ∷ values_by σ rest)) shown ∙ (λ i. Some (record { label = label_by σ w; taken = values i; rest = values_by σ rest }))
shape-by s σ h x c d (by_other e) = other x e (reached_by σ c)
  where
    other : (y : Shape) → is_gamma_shape y ≡ false → (r : Reached) → after_shape y r ≡ Some r
    other Alpha e r = refl
    other Beta e r = refl
    other Delta e r = refl
    other Literal e r = refl
    other Gamma e r = absurd (false≢true (sym e))
