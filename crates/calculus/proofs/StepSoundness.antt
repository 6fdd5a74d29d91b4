-- Where each entry of a sequent holds in some interpretation and a step applies, each entry of some child holds in some interpretation;
-- so the branch is not closed.
use Rattle.std.proofs.Common.{◌≡◌, ◌⊎◌, ℕ, List, [], ◌∷◌, ◌++◌, map, Bool, true, false, not, ◌&&◌, ◌||◌, sym, ◌∙◌, ap, subst, inl, inr, Option, Some, slice_get}
use Rattle.std.specs.Option.{option_map_or}
use Rattle.std.proofs.lemmas.Bool.{false≢true, and_parts, or_parts, not-true}
use Rattle.calculus.specs.declared.sign.Sign.{Sign}
use Rattle.calculus.specs.declared.sign.Sign.TheVariants.{T, F}
use Rattle.calculus.specs.declared.setting.Logic.{Logic}
use Rattle.calculus.specs.declared.kind.Shape.{Shape}
use Rattle.calculus.specs.declared.kind.Shape.TheVariants.{Alpha, Beta, Gamma, Delta, Literal}
use Rattle.calculus.specs.declared.kind.ModalPart.{ModalPart}
use Rattle.calculus.specs.declared.kind.ModalPart.TheVariants.{Plain, Nu, Pi}
use Rattle.calculus.specs.Syntax.{Term, eigen, Formula, atom, neg, conj, disj, imp, all, ex, box, dia, Problem}
use Rattle.calculus.specs.Equality.{sign_eq, formula_eq, list_eq}
use Rattle.calculus.specs.Kinds.{Signed, shape_of, modal_of, components}
use Rattle.calculus.specs.Labels.{pi_label}
use Rattle.calculus.specs.Substitution.{any_leaf, any_leaf_in}
use Rattle.calculus.specs.Derivations.{Mark, new_mark, Label, character_eq, Entry, Sequent, EigenName, Names, ModalArg, no_modal, to, by_new, TermArg, no_term, by_term, by_name}
use Rattle.calculus.specs.Calculus.{Children, closed, one, two, eigen_named, holds_character, is_in_home, is_eigen, character_occurs, eigen_occurs, modal_fits, term_fits, has_step, label_after, is_reachable, character_is_new, eigen_is_new, home_is, is_forbidden, term_allowed, entry_at, with_argument, with_components, children_of, conditions_of_use, is_atom, connects}
use Rattle.calculus.specs.DerivationText.{term_arg_is_written}
use Rattle.calculus.specs.Models.{Model, Reaches, IsIn, value_by, ForAll, HasTruth, IsModel}
use Rattle.calculus.proofs.EqualityLaws.{sign_eq-tells, formula_eq-tells, list_eq-tells, character_eq-tells}
use Rattle.calculus.proofs.SequentLaws.{AreMet}
use Rattle.calculus.proofs.WorldLaws.{range_of, world_of, along-world, step-reaches, pi-world, pi_start-reaches}
use Rattle.calculus.proofs.NamedTruth.{truth-same, AgreeBut, truth-instance, written-has, term-in}
use Rattle.calculus.proofs.SignedTruth.{sign_value, OnModal, Behind, modal-truth, EachSigned, EitherSigned, SignedHolds, OnShape, shape-truth}
use Rattle.calculus.proofs.Interpretations.{Interpretation, Chosen, IsCommon, Fits, HoldsAt, EachHolds, each-append, entry-holds, entry-without, names-in}
use Rattle.calculus.proofs.Extensions.{with_character, with_character-agrees, with_character-fits, with_character-holds, with_eigen, with_eigen-agrees, with_eigen-value, with_eigen-fits, with_eigen-holds}

-- some interpretation fits, and each entry of the sequent holds in it
pub record Satisfied {W E : Type 0} (S : Model W E) (listed : Names) (common : E) (s : Sequent) : Type 0 where
  pub interpretation : Interpretation W E
  pub fits : Fits S listed common interpretation
  pub holds : EachHolds S interpretation s

abbrev pub SomeChild : (Sequent → Type 0) → Children → Type 0
SomeChild Claim closed = ⊥
SomeChild Claim (one t) = Claim t
SomeChild Claim (two t u) = Claim t ⊎ Claim u

-- the used formula holds behind its modal part at the label v, in an interpretation in which the sequent still holds
record Reached {W E : Type 0} (S : Model W E) (listed : Names) (common : E) (s : Sequent) (sign : Sign) (a : Formula) (v : Label) : Type 0 where
  satisfied : Satisfied S listed common s
  behind : Behind S satisfied.interpretation.names a (world_of S satisfied.interpretation.step v) (sign_value sign)

-- the component holds in the interpretation at v, with the step's argument for its variable
abbrev ArgumentHolds : {W E : Type 0} → Model W E → Interpretation W E → Label → TermArg → Signed → Type 0
ArgumentHolds S I v t x = SignedHolds S I.names (world_of S I.step v) [] (with_argument t x)

-- the demands on the argument of a step that leads to v
record ArgumentFits (P : Problem) (listed : Names) (s : Sequent) (v : Label) (t : TermArg) : Type 0 where
  fresh : eigen_is_new s t ≡ true
  home : home_is listed v t ≡ true
  allowed : term_allowed P listed v t ≡ true
  written : term_arg_is_written P.symbols t ≡ true

-- ---- formulas and their components

for_all-moved : {A : Type 0} (kind p q : A → Bool) → ((x : A) → p x ≡ q x) → (b : Bool) → ForAll kind p b → ForAll kind q b
for_all-moved kind p q e true h = λ x k. sym (e x) ∙ h x k
for_all-moved kind p q e false h = (h.0, h.1, sym (e h.0) ∙ h.2)

behind-same : {W E : Type 0} (l : Logic) (S : Model W E) → HasTruth l S → (test : Term → Bool) (names others : Term → E) → AgreeBut test names others → (a : Formula) → any_leaf_in test a ≡ false → (v : W) (b : Bool) → Behind S names a v b → Behind S others a v b
behind-same l S tells test names others agree (neg a) h v b g = sym (ap not (truth-same l S tells test names others agree a h [] v)) ∙ g
behind-same l S tells test names others agree (imp a c) h v b g =
    let parts = or_parts (any_leaf_in test a) (any_leaf_in test c) h in
    let same : (not (S.truth names a [] v) || S.truth names c [] v) ≡ (not (S.truth others a [] v) || S.truth others c [] v) = λ i. not (truth-same l S tells test names others agree a parts.0 [] v i) || truth-same l S tells test names others agree c parts.1 [] v i in
    sym same ∙ g
behind-same l S tells test names others agree (all a) h v b g = for_all-moved (S.is_in v) (λ x. S.truth names a (x ∷ []) v) (λ x. S.truth others a (x ∷ []) v) (λ x. truth-same l S tells test names others agree a h (x ∷ []) v) b g
behind-same l S tells test names others agree (box a) h v b g = sym (truth-same l S tells test names others agree a h [] v) ∙ g
behind-same l S tells test names others agree (dia a) h v b g = sym (truth-same l S tells test names others agree a h [] v) ∙ g
behind-same l S tells test names others agree (atom p ts) h v b g = sym (truth-same l S tells test names others agree (atom p ts) h [] v) ∙ g
behind-same l S tells test names others agree (conj a c) h v b g = sym (truth-same l S tells test names others agree (conj a c) h [] v) ∙ g
behind-same l S tells test names others agree (disj a c) h v b g = sym (truth-same l S tells test names others agree (disj a c) h [] v) ∙ g
behind-same l S tells test names others agree (ex a) h v b g = sym (truth-same l S tells test names others agree (ex a) h [] v) ∙ g

-- nothing that the test finds stands in the components
abbrev Without : (Term → Bool) → Signed → Type 0
Without test x = any_leaf_in test x.formula ≡ false

components-without : (test : Term → Bool) (s : Sign) (a : Formula) → any_leaf_in test a ≡ false → EachSigned (Without test) (components s a)
components-without test s (atom p ts) h = (h, tt)
components-without test s (neg a) h = (h, tt)
components-without test s (conj a b) h = let parts = or_parts (any_leaf_in test a) (any_leaf_in test b) h in (parts.0, (parts.1, tt))
components-without test s (disj a b) h = let parts = or_parts (any_leaf_in test a) (any_leaf_in test b) h in (parts.0, (parts.1, tt))
components-without test s (imp a b) h = let parts = or_parts (any_leaf_in test a) (any_leaf_in test b) h in (parts.0, (parts.1, tt))
components-without test s (all a) h = (h, tt)
components-without test s (ex a) h = (h, tt)
components-without test s (box a) h = (h, tt)
components-without test s (dia a) h = (h, tt)

added-hold : {W E : Type 0} (S : Model W E) (I : Interpretation W E) (v : Label) (t : TermArg) (xs : List Signed) → EachSigned (ArgumentHolds S I v t) xs → EachHolds S I (map (entry_at v) (map (with_argument t) xs))
added-hold S I v t [] h = tt
added-hold S I v t (x ∷ xs) h = (h.0, added-hold S I v t xs h.1)

-- with a term that has the element as its value
gamma-hold : {W E : Type 0} (l : Logic) (S : Model W E) → HasTruth l S → (I : Interpretation W E) (v : Label) (t : Term) (e : E) → ((env : List E) → value_by S I.names env t ≡ e) → (xs : List Signed) → EachSigned (SignedHolds S I.names (world_of S I.step v) (e ∷ [])) xs → EachSigned (ArgumentHolds S I v (by_term t)) xs
gamma-hold l S tells I v t e value [] h = tt
gamma-hold l S tells I v t e value (x ∷ xs) h = (truth-instance l S tells I.names t e value x.formula (world_of S I.step v) ∙ h.0, gamma-hold l S tells I v t e value xs h.1)

-- with a new eigenvariable that gets the element
delta-hold : {W E : Type 0} (l : Logic) (S : Model W E) → HasTruth l S → (I : Interpretation W E) (v : Label) (n : ℕ) (e : E) (xs : List Signed) → EachSigned (Without (is_eigen n)) xs → EachSigned (SignedHolds S I.names (world_of S I.step v) (e ∷ [])) xs → EachSigned (ArgumentHolds S (with_eigen n e I) v (by_name n)) xs
delta-hold l S tells I v n e [] without h = tt
delta-hold l S tells I v n e (x ∷ xs) without h =
    let J = with_eigen n e I in
    let w = world_of S I.step v in
    (truth-instance l S tells J.names (eigen n) e (λ env. with_eigen-value n e I) x.formula w ∙ truth-same l S tells (is_eigen n) J.names I.names (with_eigen-agrees n e I) x.formula without.0 (e ∷ []) w ∙ h.0, delta-hold l S tells I v n e xs without.1 h.1)

-- the home of the eigenvariable is v
element-in : {W E : Type 0} (S : Model W E) (listed : Names) (step : Mark → W → W) (v : Label) (n : ℕ) (e : E) → home_is listed v (by_name n) ≡ true → IsIn S (world_of S step v) e → (x : EigenName) → eigen_named listed n ≡ Some x → IsIn S (world_of S step x.home) e
element-in S listed step v n e home inside x named =
    let same : list_eq character_eq x.home v ≡ true = subst (λ (o : Option EigenName). option_map_or (λ (y : EigenName). list_eq character_eq y.home v) o false ≡ true) named home in
    subst (λ w. IsIn S (world_of S step w) e) (sym ((list_eq-tells character_eq character_eq-tells x.home v).0 same)) inside

-- ---- an axiom

sign-same : (s t : Sign) → sign_eq s t ≡ true → s ≡ t
sign-same s t h = (sign_eq-tells s t).0 h

-- the two entries of an axiom cannot both hold
pub connected-apart : {W E : Type 0} (S : Model W E) (I : Interpretation W E) (a b : Entry) → connects a b ≡ true → HoldsAt S I a → HoldsAt S I b → ⊥
connected-apart S I a b h left right =
    let e = and_parts (sign_eq a.sign T && sign_eq b.sign F && is_atom a.formula && formula_eq a.formula b.formula) (list_eq character_eq a.label b.label) h in
    let d = and_parts (sign_eq a.sign T && sign_eq b.sign F && is_atom a.formula) (formula_eq a.formula b.formula) e.0 in
    let c = and_parts (sign_eq a.sign T && sign_eq b.sign F) (is_atom a.formula) d.0 in
    let signs = and_parts (sign_eq a.sign T) (sign_eq b.sign F) c.0 in
    let formula = (formula_eq-tells a.formula b.formula).0 d.1 in
    let label = (list_eq-tells character_eq character_eq-tells a.label b.label).0 e.1 in
    let true_at : S.truth I.names a.formula [] (world_of S I.step a.label) ≡ true = left ∙ ap sign_value (sign-same a.sign T signs.0) in
    let false_at : S.truth I.names b.formula [] (world_of S I.step b.label) ≡ false = right ∙ ap sign_value (sign-same b.sign F signs.1) in
    let same : S.truth I.names a.formula [] (world_of S I.step a.label) ≡ S.truth I.names b.formula [] (world_of S I.step b.label) = λ i. S.truth I.names (formula i) [] (world_of S I.step (label i)) in
    false≢true (sym false_at ∙ sym same ∙ true_at)

-- ---- a use step

module _ {W E : Type 0} (P : Problem) (S : Model W E) (c : IsModel P S) (ch : Chosen S) (listed : Names) (common : E) (is_common : IsCommon P S common) where
  behind-new : (s : Sequent) (sat : Satisfied S listed common s) (sign : Sign) (a : Formula) (w : Label) (n : ℕ) → holds_character (new_mark n) w ≡ false → any_leaf_in (is_in_home listed (new_mark n)) a ≡ false → character_occurs listed (new_mark n) s ≡ false → (goal : W) → Reaches S (world_of S sat.interpretation.step w) goal → Behind S sat.interpretation.names a goal (sign_value sign) → Reached S listed common s sign a (pi_label P.setting.logic w (new_mark n))
  behind-new s sat sign a w n outside unnamed new goal reached claim =
      let l = P.setting.logic in
      let I = sat.interpretation in
      let start = pi_start-reaches l S (range_of P S c) c.relation I.step sat.fits.steps w goal reached in
      let J = with_character S ch listed common (new_mark n) goal I in
      record {
        satisfied = record {
          interpretation = J;
          fits = with_character-fits P S c ch listed common (new_mark n) goal I sat.fits;
          holds = with_character-holds l S c.truth ch listed common (new_mark n) goal I s new sat.holds;
        };
        behind = subst (λ x. Behind S J.names a x (sign_value sign)) (sym (pi-world l S I.step w (new_mark n) goal start outside)) (behind-same l S c.truth (is_in_home listed (new_mark n)) I.names J.names (λ t named apart. sym (with_character-agrees S ch listed common (new_mark n) goal I t named apart)) a unnamed goal (sign_value sign) claim);
      }

  behind-modal : (s : Sequent) (sat : Satisfied S listed common s) (e : Entry) → ((n : ℕ) → character_occurs listed (new_mark n) s ≡ false → (holds_character (new_mark n) e.label || any_leaf_in (is_in_home listed (new_mark n)) e.formula) ≡ false) → (q : ModalPart) → OnModal S q (world_of S sat.interpretation.step e.label) (λ v. Behind S sat.interpretation.names e.formula v (sign_value e.sign)) → (m : ModalArg) → modal_fits q m ≡ true → is_reachable P.setting.logic e.label m ≡ true → character_is_new listed s m ≡ true → Reached S listed common s e.sign e.formula (label_after P.setting.logic e.label m)
  behind-modal s sat e outside Plain claim no_modal h reachable new = record { satisfied = sat; behind = claim }
  behind-modal s sat e outside Nu claim (to v) h reachable new = record { satisfied = sat; behind = claim (world_of S sat.interpretation.step v) (step-reaches P.setting.logic S (range_of P S c) c.relation sat.interpretation.step sat.fits.steps e.label v reachable) }
  behind-modal s sat e outside Pi claim (by_new n) h reachable new =
      let fresh = not-true (character_occurs listed (new_mark n) s) new in
      let apart = or_parts (holds_character (new_mark n) e.label) (any_leaf_in (is_in_home listed (new_mark n)) e.formula) (outside n fresh) in
      behind-new s sat e.sign e.formula e.label n apart.0 apart.1 fresh claim.0 claim.1 claim.2
  behind-modal s sat e outside q claim m h reachable new = absurd (false≢true h)

  satisfied-by : (s : Sequent) (sat : Satisfied S listed common s) (v : Label) (t : TermArg) (xs : List Signed) → EachSigned (ArgumentHolds S sat.interpretation v t) xs → Satisfied S listed common (s ++ map (entry_at v) (map (with_argument t) xs))
  satisfied-by s sat v t xs h = record { interpretation = sat.interpretation; fits = sat.fits; holds = each-append S sat.interpretation s (map (entry_at v) (map (with_argument t) xs)) sat.holds (added-hold S sat.interpretation v t xs h) }

  child-beta : (s : Sequent) (sat : Satisfied S listed common s) (v : Label) (xs : List Signed) → EitherSigned (SignedHolds S sat.interpretation.names (world_of S sat.interpretation.step v) []) xs → SomeChild (Satisfied S listed common) (with_components Beta s v (map (with_argument no_term) xs))
  child-beta s sat v [] h = satisfied-by s sat v no_term [] h
  child-beta s sat v (x ∷ []) h = satisfied-by s sat v no_term (x ∷ []) h
  child-beta s sat v (x ∷ y ∷ []) (inl h) = inl (satisfied-by s sat v no_term (x ∷ []) (h, tt))
  child-beta s sat v (x ∷ y ∷ []) (inr h) = inr (satisfied-by s sat v no_term (y ∷ []) (h, tt))
  child-beta s sat v (x ∷ y ∷ z ∷ xs) h = satisfied-by s sat v no_term (x ∷ y ∷ z ∷ xs) h

  child-gamma : (s : Sequent) (sat : Satisfied S listed common s) (v : Label) (xs : List Signed) → OnShape S Gamma (world_of S sat.interpretation.step v) (SignedHolds S sat.interpretation.names (world_of S sat.interpretation.step v)) xs → (t : Term) → ArgumentFits P listed s v (by_term t) → Satisfied S listed common (s ++ map (entry_at v) (map (with_argument (by_term t)) xs))
  child-gamma s sat v xs claim t argument =
      let I = sat.interpretation in
      let r = range_of P S c in
      let world = along-world S r I.step sat.fits.steps S.root v r.root in
      let inside = term-in P S c (world_of S I.step v) world (is_forbidden P listed v) I.names (names-in P S c listed common is_common I sat.fits v) t argument.written (not-true (any_leaf (is_forbidden P listed v) t) argument.allowed) in
      satisfied-by s sat v (by_term t) xs (gamma-hold P.setting.logic S c.truth I v t (value_by S I.names [] t) (written-has S I.names P.symbols t argument.written) xs (claim (value_by S I.names [] t) inside))

  child-delta : (s : Sequent) (sat : Satisfied S listed common s) (v : Label) (xs : List Signed) → ((n : ℕ) → eigen_occurs n s ≡ false → EachSigned (Without (is_eigen n)) xs) → OnShape S Delta (world_of S sat.interpretation.step v) (SignedHolds S sat.interpretation.names (world_of S sat.interpretation.step v)) xs → (n : ℕ) → ArgumentFits P listed s v (by_name n) → Satisfied S listed common (s ++ map (entry_at v) (map (with_argument (by_name n)) xs))
  child-delta s sat v xs without claim n argument =
      let l = P.setting.logic in
      let I = sat.interpretation in
      let new = not-true (eigen_occurs n s) argument.fresh in
      let extended : Satisfied S listed common s = record {
        interpretation = with_eigen n claim.0 I;
        fits = with_eigen-fits S listed common n claim.0 I (element-in S listed I.step v n claim.0 argument.home claim.1) sat.fits;
        holds = with_eigen-holds l S c.truth n claim.0 I s new sat.holds;
      } in
      satisfied-by s extended v (by_name n) xs (delta-hold l S c.truth I v n claim.0 xs (without n new) claim.2)

  child-shape : (s : Sequent) (sat : Satisfied S listed common s) (v : Label) (q : Shape) (xs : List Signed) → ((n : ℕ) → eigen_occurs n s ≡ false → EachSigned (Without (is_eigen n)) xs) → OnShape S q (world_of S sat.interpretation.step v) (SignedHolds S sat.interpretation.names (world_of S sat.interpretation.step v)) xs → (t : TermArg) → term_fits q t ≡ true → ArgumentFits P listed s v t → SomeChild (Satisfied S listed common) (with_components q s v (map (with_argument t) xs))
  child-shape s sat v Gamma xs without claim (by_term t) h argument = child-gamma s sat v xs claim t argument
  child-shape s sat v Delta xs without claim (by_name n) h argument = child-delta s sat v xs without claim n argument
  child-shape s sat v Beta xs without claim no_term h argument = child-beta s sat v xs claim
  child-shape s sat v Alpha xs without claim no_term h argument = satisfied-by s sat v no_term xs claim
  child-shape s sat v Literal xs without claim no_term h argument = satisfied-by s sat v no_term xs claim
  child-shape s sat v q xs without claim t h argument = absurd (false≢true h)

  pub child-of_use : (s : Sequent) → Satisfied S listed common s → (k : ℕ) (e : Entry) → slice_get s k ≡ Some e → (m : ModalArg) (t : TermArg) → term_arg_is_written P.symbols t ≡ true → AreMet (conditions_of_use P listed s e m t) → SomeChild (Satisfied S listed common) (children_of P.setting.logic s e m t)
  child-of_use s sat k e at m t written met =
      let l = P.setting.logic in
      let I = sat.interpretation in
      let r = range_of P S c in
      let v = label_after l e.label m in
      let fit = and_parts (modal_fits (modal_of l e.sign e.formula) m && term_fits (shape_of e.sign e.formula) t) (has_step (modal_of l e.sign e.formula) (shape_of e.sign e.formula)) met.0 in
      let fits = and_parts (modal_fits (modal_of l e.sign e.formula) m) (term_fits (shape_of e.sign e.formula) t) fit.0 in
      let new = and_parts (character_is_new listed s m) (eigen_is_new s t) met.1.1.1.0 in
      let claim = modal-truth l S c.truth c.relation c.successors I.names e.sign e.formula (world_of S I.step e.label) (along-world S r I.step sat.fits.steps S.root e.label r.root) (entry-holds S I s k e at sat.holds) in
      let b = behind-modal s sat e (λ n fresh. entry-without (λ (x : Entry). holds_character (new_mark n) x.label || any_leaf_in (is_in_home listed (new_mark n)) x.formula) s k e at fresh) (modal_of l e.sign e.formula) claim m fits.0 met.1.1.0 new.0 in
      let J = b.satisfied.interpretation in
      child-shape s b.satisfied v (shape_of e.sign e.formula) (components e.sign e.formula)
      (λ n fresh. components-without (is_eigen n) e.sign e.formula (entry-without (λ (x : Entry). any_leaf_in (is_eigen n) x.formula) s k e at fresh))
      (shape-truth l S c.truth J.names e.sign e.formula (world_of S J.step v) b.behind)
      t fits.1
      (record { fresh = new.1; home = met.1.1.1.1.0; allowed = met.1.1.1.1.1.0; written = written })
