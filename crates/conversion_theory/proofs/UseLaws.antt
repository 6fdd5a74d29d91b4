-- The step of a turn applies to its entry, and its children have the entries of the components.
use Rattle.std.proofs.Common.{◌≡◌, ℕ, suc, List, [], ◌∷◌, ◌++◌, map, true, ◌&&◌, Some, Ok, refl, sym, ◌∙◌, ap, slice_get}
use Rattle.std.proofs.lemmas.Bool.{false≢true, and_from}
use Rattle.calculus.specs.declared.sign.Sign.{Sign}
use Rattle.calculus.specs.declared.sign.Sign.TheVariants.{T, F}
use Rattle.calculus.specs.declared.setting.Logic.{Logic}
use Rattle.calculus.specs.declared.kind.Shape.{Shape}
use Rattle.calculus.specs.declared.kind.Shape.TheVariants.{Alpha, Beta, Gamma, Delta, Literal}
use Rattle.calculus.specs.Syntax.{Terms, Formula, atom, neg, conj, disj, imp, all, ex, box, dia, Problem}
use Rattle.calculus.specs.Ground.{GroundTerm, g_eigen, g_new_mark, marks_list, values_tree}
use Rattle.calculus.specs.Kinds.{Signed, signed, shape_of, modal_of, components}
use Rattle.calculus.specs.Positions.{size}
use Rattle.calculus.specs.Labels.{nu_label}
use Rattle.calculus.specs.Instances.{Spot, down_by, spot_inside}
use Rattle.calculus.specs.Substitution.{instance, binders}
use Rattle.calculus.specs.Derivations.{Entry, Sequent, Names, ModalArg, no_modal, to, by_new, TermArg, no_term, by_term, by_name, apply_to}
use Rattle.calculus.specs.Calculus.{Children, one, two, modal_fits, term_fits, has_step, is_known, label_after, is_reachable, character_is_new, eigen_is_new, home_is, term_allowed, entry_at, with_argument, with_components, children_of, Condition, first_fault, conditions_of_use, apply}
use Rattle.conversion_theory.specs.Turns.{Name, mark_name, term_name}
use Rattle.conversion_theory.specs.Numbering.{numbered_label, numbered_term, formula_by, entry_by}
use Rattle.conversion_theory.proofs.NumberedLaws.{TellsApart, MarksIn, steps_to-numbered, pi_label-numbered}
use Rattle.conversion_theory.proofs.HitLaws.{Moves, plain, by_string, by_character}
use Rattle.conversion_theory.proofs.PutLaws.{shape_by, components_by, put-instance}
use Rattle.conversion_theory.proofs.WorkLaws.{moves-env}
use Rattle.conversion_theory.proofs.ExpandLaws.{is_quantified}

-- ---- all conditions are met

abbrev pub AreMet : List Condition → Type 0
AreMet [] = Unit {0}
AreMet (d ∷ ds) = (d.met ≡ true) × AreMet ds

met-ok : (ds : List Condition) (c : Children) → AreMet ds → first_fault ds c ≡ Ok c
met-ok [] c h = refl
met-ok (d ∷ ds) c h = rw h.0 (met-ok ds c h.1)

pub record CanUse (P : Problem) (names : Names) (s : Sequent) (e : Entry) (m : ModalArg) (t : TermArg) : Type 0 where
  pub modal : modal_fits (modal_of P.setting.logic e.sign e.formula) m ≡ true
  pub term : term_fits (shape_of e.sign e.formula) t ≡ true
  pub step : has_step (modal_of P.setting.logic e.sign e.formula) (shape_of e.sign e.formula) ≡ true
  pub known : is_known names t ≡ true
  pub reachable : is_reachable P.setting.logic e.label m ≡ true
  pub character : character_is_new names s m ≡ true
  pub eigen : eigen_is_new s t ≡ true
  pub home : home_is names (label_after P.setting.logic e.label m) t ≡ true
  pub allowed : term_allowed P names (label_after P.setting.logic e.label m) t ≡ true

pub can-use : (P : Problem) (names : Names) (s : Sequent) (k : ℕ) (e : Entry) (m : ModalArg) (t : TermArg) → slice_get s k ≡ Some e → CanUse P names s e m t → apply P names s (apply_to (suc k) m t) ≡ Ok (children_of P.setting.logic s e m t)
can-use P names s k e m t h c =
    let l = P.setting.logic in
    let fit = and_from (modal_fits (modal_of l e.sign e.formula) m && term_fits (shape_of e.sign e.formula) t) (has_step (modal_of l e.sign e.formula) (shape_of e.sign e.formula)) (and_from (modal_fits (modal_of l e.sign e.formula) m) (term_fits (shape_of e.sign e.formula) t) c.modal c.term) c.step in
    let fresh = and_from (character_is_new names s m) (eigen_is_new s t) c.character c.eigen in
    rw h (met-ok (conditions_of_use P names s e m t) (children_of l s e m t) (fit, (c.known, (c.reachable, (fresh, (c.home, (c.allowed, tt)))))))

-- ---- the modal argument

abbrev pub modal_arg : (num : Name → ℕ) (l : Logic) (s : Sign) (f : Formula) (c d : Spot) → Moves l s f c d → ModalArg
modal_arg num l s f c d (plain e) = no_modal
modal_arg num l s f c d (by_string w e g) = to (numbered_label num d.label)
modal_arg num l s f c d (by_character e) = by_new (num (mark_name (g_new_mark c.position (values_tree c.taken))))

pub modal_arg-fits : (num : Name → ℕ) (l : Logic) (s : Sign) (f : Formula) (c d : Spot) (m : Moves l s f c d) → modal_fits (modal_of l s f) (modal_arg num l s f c d m) ≡ true
modal_arg-fits num l s f c d (plain e) = rw e refl
modal_arg-fits num l s f c d (by_string w e g) = rw e refl
modal_arg-fits num l s f c d (by_character e) = rw e refl

pub modal_arg-label : (num : Name → ℕ) (l : Logic) (s : Sign) (f : Formula) (c d : Spot) (m : Moves l s f c d) → label_after l (numbered_label num c.label) (modal_arg num l s f c d m) ≡ numbered_label num d.label
modal_arg-label num l s f c d (plain e) = refl
modal_arg-label num l s f c d (by_string w e g) = refl
modal_arg-label num l s f c d (by_character e) = sym (pi_label-numbered num l c.label (g_new_mark c.position (values_tree c.taken)))

pub modal_arg-reachable : (S : Name → Type 0) (num : Name → ℕ) → TellsApart S num → (l : Logic) (s : Sign) (f : Formula) (c d : Spot) (m : Moves l s f c d) → MarksIn S c.label → MarksIn S d.label → is_reachable l (numbered_label num c.label) (modal_arg num l s f c d m) ≡ true
modal_arg-reachable S num apart l s f c d (plain e) h g = refl
modal_arg-reachable S num apart l s f c d (by_string w e q) h g = steps_to-numbered S num apart l c.label (nu_label l c.label (marks_list w)) h g ∙ q
modal_arg-reachable S num apart l s f c d (by_character e) h g = refl

-- ---- the components

binders-none : (s : Sign) (f : Formula) (h : Shape) → shape_of s f ≡ h → (h ≡ Gamma → ⊥) → (h ≡ Delta → ⊥) → binders f ≡ 0
binders-none s (atom p ts) h e n m = refl
binders-none s (neg a) h e n m = refl
binders-none s (conj a b) h e n m = refl
binders-none s (disj a b) h e n m = refl
binders-none s (imp a b) h e n m = refl
binders-none T (all a) h e n m = absurd (n (sym e))
binders-none F (all a) h e n m = absurd (m (sym e))
binders-none T (ex a) h e n m = absurd (m (sym e))
binders-none F (ex a) h e n m = absurd (n (sym e))
binders-none s (box a) h e n m = refl
binders-none s (dia a) h e n m = refl

binders-one : (s : Sign) (f : Formula) → is_quantified (shape_of s f) ≡ true → binders f ≡ 1
binders-one s (atom p ts) h = absurd (false≢true h)
binders-one s (neg a) h = absurd (false≢true h)
binders-one T (conj a b) h = absurd (false≢true h)
binders-one F (conj a b) h = absurd (false≢true h)
binders-one T (disj a b) h = absurd (false≢true h)
binders-one F (disj a b) h = absurd (false≢true h)
binders-one T (imp a b) h = absurd (false≢true h)
binders-one F (imp a b) h = absurd (false≢true h)
binders-one s (all a) h = refl
binders-one s (ex a) h = refl
binders-one s (box a) h = absurd (false≢true h)
binders-one s (dia a) h = absurd (false≢true h)

-- a component that is no quantifier's, at the label past the modal part
part-entry : (num : Name → ℕ) (c d : Spot) (a : Signed) (k : ℕ) → d.env ≡ c.env → entry_at (numbered_label num d.label) (with_argument no_term (signed a.sign (formula_by num 0 c.env a.formula))) ≡ entry_by num (down_by k d) a.sign a.formula
part-entry num c d a k e = λ i. record { sign = a.sign; formula = formula_by num 0 (sym e i) a.formula; label = numbered_label num d.label }

-- the children by the shape, where the label past the modal part is known
children-by : (num : Name → ℕ) (l : Logic) (q : Sequent) (c d : Spot) (s : Sign) (f : Formula) (m : Moves l s f c d) (t : TermArg) (h : Shape) (xs : List Signed) → shape_of s f ≡ h → components s f ≡ xs → children_of l q (entry_by num c s f) (modal_arg num l s f c d m) t ≡ with_components h q (numbered_label num d.label) (map (with_argument t) (map (λ (x : Signed). signed x.sign (formula_by num (binders f) c.env x.formula)) xs))
children-by num l q c d s f m t h xs e g = λ i. with_components ((shape_by num c.env s f ∙ e) i) q (modal_arg-label num l s f c d m i) (map (with_argument t) ((components_by num c.env s f ∙ ap (map (λ (x : Signed). signed x.sign (formula_by num (binders f) c.env x.formula))) g) i))

pub only-children : (num : Name → ℕ) (l : Logic) (q : Sequent) (c d : Spot) (s : Sign) (f : Formula) (m : Moves l s f c d) (a : Signed) → shape_of s f ≡ Alpha → components s f ≡ a ∷ [] → children_of l q (entry_by num c s f) (modal_arg num l s f c d m) no_term ≡ one (q ++ entry_by num (down_by 1 d) a.sign a.formula ∷ [])
only-children num l q c d s f m a e g =
    let none = binders-none s f Alpha e (λ k. cc) (λ k. cc) in
    children-by num l q c d s f m no_term Alpha (a ∷ []) e g
    ∙ ap (λ n. with_components Alpha q (numbered_label num d.label) (map (with_argument no_term) (signed a.sign (formula_by num n c.env a.formula) ∷ []))) none
    ∙ ap (λ z. one (q ++ z ∷ [])) (part-entry num c d a 1 (moves-env l s f c d m))

pub pair-children : (num : Name → ℕ) (l : Logic) (q : Sequent) (c d : Spot) (s : Sign) (f : Formula) (m : Moves l s f c d) (a b : Signed) → shape_of s f ≡ Alpha → components s f ≡ a ∷ b ∷ [] → children_of l q (entry_by num c s f) (modal_arg num l s f c d m) no_term ≡ one (q ++ entry_by num (down_by 1 d) a.sign a.formula ∷ entry_by num (down_by (suc (size a.formula)) d) b.sign b.formula ∷ [])
pair-children num l q c d s f m a b e g =
    let none = binders-none s f Alpha e (λ k. cc) (λ k. cc) in
    children-by num l q c d s f m no_term Alpha (a ∷ b ∷ []) e g
    ∙ ap (λ n. with_components Alpha q (numbered_label num d.label) (map (with_argument no_term) (signed a.sign (formula_by num n c.env a.formula) ∷ signed b.sign (formula_by num n c.env b.formula) ∷ []))) none
    ∙ (λ i. one (q ++ part-entry num c d a 1 (moves-env l s f c d m) i ∷ part-entry num c d b (suc (size a.formula)) (moves-env l s f c d m) i ∷ []))

pub either-children : (num : Name → ℕ) (l : Logic) (q : Sequent) (c d : Spot) (s : Sign) (f : Formula) (m : Moves l s f c d) (a b : Signed) → shape_of s f ≡ Beta → components s f ≡ a ∷ b ∷ [] → children_of l q (entry_by num c s f) (modal_arg num l s f c d m) no_term ≡ two (q ++ entry_by num (down_by 1 d) a.sign a.formula ∷ []) (q ++ entry_by num (down_by (suc (size a.formula)) d) b.sign b.formula ∷ [])
either-children num l q c d s f m a b e g =
    let none = binders-none s f Beta e (λ k. cc) (λ k. cc) in
    children-by num l q c d s f m no_term Beta (a ∷ b ∷ []) e g
    ∙ ap (λ n. with_components Beta q (numbered_label num d.label) (map (with_argument no_term) (signed a.sign (formula_by num n c.env a.formula) ∷ signed b.sign (formula_by num n c.env b.formula) ∷ []))) none
    ∙ (λ i. two (q ++ part-entry num c d a 1 (moves-env l s f c d m) i ∷ []) (q ++ part-entry num c d b (suc (size a.formula)) (moves-env l s f c d m) i ∷ []))

-- an atom stands past its modal part
pub atom-children : (num : Name → ℕ) (l : Logic) (q : Sequent) (c d : Spot) (s : Sign) (f : Formula) (p : ℕ) (ts : Terms) (m : Moves l s f c d) → f ≡ atom p ts → children_of l q (entry_by num c s f) (modal_arg num l s f c d m) no_term ≡ one (q ++ entry_by num d s (atom p ts) ∷ [])
atom-children num l q c d s f p ts m e =
    children-by num l q c d s f m no_term Literal (signed s (atom p ts) ∷ []) (ap (shape_of s) e) (ap (components s) e)
    ∙ ap (λ n. with_components Literal q (numbered_label num d.label) (map (with_argument no_term) (signed s (formula_by num n c.env (atom p ts)) ∷ []))) (ap binders e)
    ∙ (λ i. one (q ++ record { sign = s; formula = formula_by num 0 (sym (moves-env l s f c d m) i) (atom p ts); label = numbered_label num d.label } ∷ []))

-- the component of a quantifier with its term
inside-entry : (num : Name → ℕ) (c d : Spot) (a : Signed) (u : GroundTerm) (vs : _) → d.env ≡ c.env → entry_at (numbered_label num d.label) (signed a.sign (instance (numbered_term num u) (formula_by num 1 c.env a.formula))) ≡ entry_by num (spot_inside u vs d) a.sign a.formula
inside-entry num c d a u vs e = λ i. record { sign = a.sign; formula = (put-instance num u c.env a.formula ∙ ap (λ env. formula_by num 0 (u ∷ env) a.formula) (sym e)) i; label = numbered_label num d.label }

pub gamma-children : (num : Name → ℕ) (l : Logic) (q : Sequent) (c d : Spot) (s : Sign) (f : Formula) (m : Moves l s f c d) (a : Signed) (u : GroundTerm) (vs : _) → shape_of s f ≡ Gamma → components s f ≡ a ∷ [] → children_of l q (entry_by num c s f) (modal_arg num l s f c d m) (by_term (numbered_term num u)) ≡ one (q ++ entry_by num (spot_inside u vs d) a.sign a.formula ∷ [])
gamma-children num l q c d s f m a u vs e g =
    let once = binders-one s f (ap is_quantified e) in
    children-by num l q c d s f m (by_term (numbered_term num u)) Gamma (a ∷ []) e g
    ∙ ap (λ n. with_components Gamma q (numbered_label num d.label) (map (with_argument (by_term (numbered_term num u))) (signed a.sign (formula_by num n c.env a.formula) ∷ []))) once
    ∙ ap (λ z. one (q ++ z ∷ [])) (inside-entry num c d a u vs (moves-env l s f c d m))

pub delta-children : (num : Name → ℕ) (l : Logic) (q : Sequent) (c d : Spot) (s : Sign) (f : Formula) (m : Moves l s f c d) (a : Signed) (p : ℕ) (us : _) (vs : _) → shape_of s f ≡ Delta → components s f ≡ a ∷ [] → children_of l q (entry_by num c s f) (modal_arg num l s f c d m) (by_name (num (term_name (g_eigen p us)))) ≡ one (q ++ entry_by num (spot_inside (g_eigen p us) vs d) a.sign a.formula ∷ [])
delta-children num l q c d s f m a p us vs e g =
    let once = binders-one s f (ap is_quantified e) in
    children-by num l q c d s f m (by_name (num (term_name (g_eigen p us)))) Delta (a ∷ []) e g
    ∙ ap (λ n. with_components Delta q (numbered_label num d.label) (map (with_argument (by_name (num (term_name (g_eigen p us))))) (signed a.sign (formula_by num n c.env a.formula) ∷ []))) once
    ∙ ap (λ z. one (q ++ z ∷ [])) (inside-entry num c d a (g_eigen p us) vs (moves-env l s f c d m))
