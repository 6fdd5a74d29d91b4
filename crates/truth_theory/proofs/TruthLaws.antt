-- What has a closed tableau is true in each structure of its setting, whatever its worlds and elements are, in all six logics and for the
-- three domain conditions. Where the formula is false at the root, each allowed instance has a true literal, by what the ground terms and
-- marks mean; so no tableau is closed.
use Rattle.std.proofs.Common.{◌≡◌, ℕ, zero, suc, ◌<◌, List, [], ◌∷◌, ◌++◌, length, Bool, true, false, not, ◌&&◌, ◌==◌, IsTrue, get_or, slice_index_or, refl, sym, ◌∙◌, ap, subst, inl, inr, arith, eqb-true, ltb-true, append_assoc}
use Rattle.std.specs.List.{AllByRecursion}
use Rattle.std.proofs.lemmas.Bool.{false≢true, and_parts, true_from_ne_false}
use Rattle.conversion_theory.proofs.ExpandLaws.{values_last}
use Rattle.calculus.specs.declared.sign.Sign.{Sign}
use Rattle.calculus.specs.declared.sign.Sign.TheVariants.{T, F}
use Rattle.calculus.specs.declared.setting.Logic.{Logic}
use Rattle.calculus.specs.declared.setting.Logic.TheVariants.{Intuitionistic}
use Rattle.calculus.specs.declared.kind.Shape.{Shape}
use Rattle.calculus.specs.declared.kind.Shape.TheVariants.{Alpha, Beta, Gamma, Delta, Literal}
use Rattle.calculus.specs.Syntax.{Term, Terms, var, fun, eigen, spare, no_terms, more_terms, Formula, atom, Problem}
use Rattle.calculus.specs.Ground.{GroundTerm, Value, g_eigen, common, term, marks_list, values_tree, GroundLiteral}
use Rattle.calculus.specs.Equality.{sign_eq, grounds_eq, label_eq, same_atom}
use Rattle.calculus.specs.Kinds.{Signed, signed, shape_of, components}
use Rattle.calculus.specs.Positions.{Node, node}
use Rattle.calculus.specs.Problems.{term_fits_in, terms_fit_in, formula_fits, is_problem}
use Rattle.calculus.specs.Labels.{nu_label}
use Rattle.calculus.specs.Skolem.{is_allowed}
use Rattle.calculus.specs.Instances.{ground_of, grounds_of, Spot, root_spot, after_string, after_character, GammaUse, Turn, ClauseInstance}
use Rattle.calculus.specs.ComputedInstances.{is_allowed_instance, reached_at}
use Rattle.calculus.specs.Tableaux.{are_complementary, Tableau, instances, is_closed, HasClosed}
use Rattle.calculus.specs.Models.{Model, IsIn, value_by, values_by, FromHere, IsModel}
use Rattle.calculus.specs.Structures.{Structure, is_structure, is_true}
use Rattle.calculus.specs.Soundness.{IsTrueOver, IsTrueInStructures}
use Rattle.calculus.proofs.CasesLaws.{is_allowed_instance-exact}
use Rattle.calculus.proofs.EqualityLaws.{grounds_eq-tells, label_eq-tells}
use Rattle.calculus.proofs.FiniteModels.{model_of, is-model, truth-computed}
use Rattle.calculus.proofs.Interpretations.{chosen, common-element}
use Rattle.calculus.proofs.Members.{Among, all-among, among-all, joined-among}
use Rattle.calculus.proofs.SignedTruth.{sign_value, EachSigned, EitherSigned}
use Rattle.calculus.proofs.SoundnessLaws.{fits-problem}
use Rattle.calculus.proofs.StructureLaws.{conditions}
use Rattle.calculus.proofs.WalkLaws.{Hits, pair_of_closed}
use Rattle.conversion_theory.specs.Turns.{turns_of_instance}
use Rattle.conversion_theory.proofs.HitLaws.{Moves, plain, by_string, by_character, turn, IsSaturated, hit}
use Rattle.conversion_theory.proofs.PlaceLaws.{Stood, root-stood, turned, Turned, only-stood, first-stood, second-stood, inside-gamma-stood, inside-delta-stood, Takes, one_term, Work, moves-position, last_term-push}
use Rattle.conversion_theory.proofs.AgendaLaws.{TurnOf, Anything, stood-way, moves-values}
use Rattle.conversion_theory.proofs.ClosedLaws.{Allowed, Admitted, all-allowed, turns-by_cases, closed-works}
use Rattle.conversion_theory.proofs.WholeLaws.{gamma-term}
use Rattle.conversion_theory.proofs.WorkLaws.{SameSpot, work-from, past-same}
use Rattle.truth_theory.proofs.NodeTruth.{Claims, AtomClaims, PastClaims, ShapeClaims}
use Rattle.truth_theory.proofs.Choices.{GoalFits, PastModal, chosen_at}
use Rattle.truth_theory.proofs.GroundWorlds.{nu-reached}
use Rattle.truth_theory.proofs.Meanings.{Chooser, element_of, elements_of, step_of, world_of, elements}
use Rattle.truth_theory.proofs.Followed.{IsChooser, delta-no_nu, mark-steps, chosen_there, there, pi-here, delta-here, followed-stood}
use Rattle.truth_theory.proofs.AllowedLaws.{term-inside}

-- ---- the components past a modal part

abbrev OfComponents : {W E : Type 0} → Problem → Model W E → (Term → E) → Shape → List E → W → E → List Signed → Type 0
OfComponents P S names Literal env v x xs = Unit {0}
OfComponents P S names Alpha env v x xs = EachSigned (Claims P S names v env) xs
OfComponents P S names Beta env v x xs = EitherSigned (Claims P S names v env) xs
OfComponents {E = E} P S names Gamma env v x xs = (e : E) → IsIn S v e → EachSigned (Claims P S names v (e ∷ env)) xs
OfComponents P S names Delta env v x xs = EachSigned (Claims P S names v (x ∷ env)) xs

of-components : {W E : Type 0} (P : Problem) (S : Model W E) (names : Term → E) (h : Shape) (s : Sign) (f : Formula) (env : List E) (v : W) (x : E) → PastClaims P S names h s f env v x → OfComponents P S names h env v x (components s f)
of-components P S names Literal s f env v x k = tt
of-components P S names Alpha s f env v x k = k
of-components P S names Beta s f env v x k = k
of-components P S names Gamma s f env v x k = k
of-components P S names Delta s f env v x k = k

last-of : (V : Value → Type 0) (vs : List Value) (v : Value) → AllByRecursion V (vs ++ v ∷ []) → V v
last-of V [] v h = h.0
last-of V (u ∷ us) v h = last-of V us v h.1

-- ---- the terms of turns

-- what a turn takes, at the spot that it works on
takes-there : (P : Problem) (Q : Turn → Type 0) (G : GammaUse → Type 0) (V : Value → Type 0) (x : Turn) (w : Work P Q G V x) (before : List Node) (d e : Spot) (s : Sign) (f : Formula) → SameSpot before w.before d w.from s w.sign f w.formula → Stood P before d s f → Moves P.setting.logic s f d e → Takes Anything (shape_of s f) e x → Takes G (shape_of s f) e x
takes-there P Q G V x w before d e s f same h m k =
    let l = P.setting.logic in
    let moves : Moves l s f d w.past = subst (λ r. Moves l r f d w.past) (sym same.signs) (subst (λ g. Moves l w.sign g d w.past) (sym same.formulas) (subst (λ c. Moves l w.sign w.formula c w.past) (sym same.spots) w.moves)) in
    let takes : Takes G (shape_of s f) w.past x = subst (λ r. Takes G (shape_of r f) w.past x) (sym same.signs) (subst (λ g. Takes G (shape_of w.sign g) w.past x) (sym same.formulas) w.takes) in
    subst (λ c. Takes G (shape_of s f) c x) (sym (past-same P Anything G before d e w.past s f x h m moves k takes)) takes

taken-allowed : (P : Problem) (Q : Turn → Type 0) (V : Value → Type 0) (before : List Node) (d e : Spot) (s : Sign) (f : Formula) (u : GroundTerm) → Stood P before d s f → Moves P.setting.logic s f d e → shape_of s f ≡ Gamma → Work P Q (Allowed P) V (turn e.position (e.taken ++ term u ∷ [])) → is_allowed P e.label u ≡ true
taken-allowed P Q V before d e s f u h m y w =
    let x = turn e.position (e.taken ++ term u ∷ []) in
    let own = moves-values P.setting.logic s f d e m in
    let values : x.values ≡ d.taken ++ (own.0 ++ term u ∷ []) = ap (λ vs. vs ++ term u ∷ []) own.1 ∙ append_assoc d.taken own.0 (term u ∷ []) in
    let same = work-from P Q (Allowed P) V x w before d s f h (moves-position P.setting.logic s f d e m) (own.0 ++ term u ∷ []) values in
    let taken = gamma-term (Allowed P) (shape_of s f) e x (takes-there P Q (Allowed P) V x w before d e s f same h m (one_term u y tt)) y in
    subst (λ z. is_allowed P e.label z ≡ true) (sym (values_last e.taken u taken.0 taken.1)) taken.2

-- ---- what holds does not fail

values-apart : {W E : Type 0} (S : Model W E) (l : Logic) (w : W) (p : W → Bool) → FromHere l S w p true → FromHere l S w p false → ⊥
values-apart S Intuitionistic w p h g = false≢true (sym g.2 ∙ h g.0 g.1)
values-apart S _ w p h g = false≢true (g ∙ sym h)

signs-apart : {W E : Type 0} (S : Model W E) (l : Logic) (w : W) (p : W → Bool) (s r : Sign) → IsTrue (not (sign_eq s r)) → FromHere l S w p (sign_value s) → FromHere l S w p (sign_value r) → ⊥
signs-apart S l w p T T n h g = false≢true n
signs-apart S l w p F F n h g = false≢true n
signs-apart S l w p T F n h g = values-apart S l w p h g
signs-apart S l w p F T n h g = values-apart S l w p g h

module _ {W E : Type 0} (P : Problem) (S : Model W E) (c : IsModel P S) (names : Term → E) (ch : Chooser W E) (right : IsChooser P S names ch) where
  -- ---- literals

  abbrev Held : GroundLiteral → Type 0
  Held x = AtomClaims P.setting.logic S (world_of P S ch x.label) x.sign x.symbol (elements_of P S ch x.args)

  variable-value : (env : List GroundTerm) (k : ℕ) → k < length (elements P S ch env) → get_or (elements P S ch env) k S.element ≡ element_of P S ch (slice_index_or env k (common 0))
  variable-value [] k lt = absurd (omega (arith, lt))
  variable-value (t ∷ env) zero lt = refl
  variable-value (t ∷ env) (suc k) lt = variable-value env k (omega (arith, lt))

  mutual
    term-value : (env : List GroundTerm) (t : Term) → IsTrue (term_fits_in P.symbols (length (elements P S ch env)) t) → value_by S names (elements P S ch env) t ≡ element_of P S ch (ground_of env t)
    term-value env (var k) h = variable-value env k (ltb-true k (length (elements P S ch env)) h)
    term-value env (fun f ts) h = ap (S.value f) (term-values env ts (and_parts _ (terms_fit_in P.symbols (length (elements P S ch env)) ts) h).1)
    term-value env (eigen n) h = absurd (false≢true h)
    term-value env (spare n) h = absurd (false≢true h)

    term-values : (env : List GroundTerm) (ts : Terms) → IsTrue (terms_fit_in P.symbols (length (elements P S ch env)) ts) → values_by S names (elements P S ch env) ts ≡ elements_of P S ch (grounds_of env ts)
    term-values env no_terms h = refl
    term-values env (more_terms t ts) h =
        let parts = and_parts (term_fits_in P.symbols (length (elements P S ch env)) t) (terms_fit_in P.symbols (length (elements P S ch env)) ts) h in
        λ i. term-value env t parts.0 i ∷ term-values env ts parts.1 i

  held-apart : (a b : GroundLiteral) → Held a → Held b → IsTrue (are_complementary a b) → ⊥
  held-apart a b h g e =
      let parts = and_parts (not (sign_eq a.sign b.sign)) (same_atom a b) e in
      let both = and_parts (a.symbol == b.symbol && grounds_eq a.args b.args) (label_eq a.label b.label) parts.1 in
      let first = and_parts (a.symbol == b.symbol) (grounds_eq a.args b.args) both.0 in
      let symbols = eqb-true a.symbol b.symbol first.0 in
      let args = (grounds_eq-tells a.args b.args).0 first.1 in
      let labels = (label_eq-tells a.label b.label).0 both.1 in
      let holds = λ (x : GroundLiteral) (v : W). S.holds x.symbol v (elements_of P S ch x.args) in
      let there : FromHere P.setting.logic S (world_of P S ch a.label) (holds a) (sign_value b.sign) = subst (λ w. FromHere P.setting.logic S (world_of P S ch w) (holds a) (sign_value b.sign)) (sym labels) (subst (λ ts. FromHere P.setting.logic S (world_of P S ch b.label) (λ v. S.holds a.symbol v (elements_of P S ch ts)) (sign_value b.sign)) (sym args) (subst (λ p. FromHere P.setting.logic S (world_of P S ch b.label) (λ v. S.holds p v (elements_of P S ch b.args)) (sign_value b.sign)) (sym symbols) g)) in
      signs-apart S P.setting.logic (world_of P S ch a.label) (holds a) a.sign b.sign parts.0 h there

  -- ---- places

  -- the signed formula stands at the spot, and has the truth value of its sign there
  record IsClaimed (d : Spot) (s : Sign) (f : Formula) : Type 0 where
    before : List Node
    stood : Stood P before d s f
    claims : Claims P S names (world_of P S ch d.label) (elements P S ch d.env) (signed s f)

  -- past its modal part
  record IsPast (before : List Node) (d : Spot) (s : Sign) (f : Formula) : Type 0 where
    turned_there : Turned P before d s f
    element : E
    named : shape_of s f ≡ Delta → element ≡ element_of P S ch (g_eigen d.position (values_tree d.taken))
    claims : PastClaims P S names (shape_of s f) s f (elements P S ch d.env) (world_of P S ch d.label) element

  no_choice : (h : Shape) (s : Sign) (f : Formula) (env : List E) (v : W) (x : E) → (h ≡ Delta → ⊥) → ShapeClaims P S names h s f env v → PastClaims P S names h s f env v x
  no_choice Delta s f env v x n k = absurd (n refl)
  no_choice Gamma s f env v x n k = k
  no_choice Alpha s f env v x n k = k
  no_choice Beta s f env v x n k = k
  no_choice Literal s f env v x n k = k

  each-of : (before : List Node) (d : Spot) (s : Sign) (f : Formula) → (b : IsPast before d s f) (h : Shape) (xs : List Signed) → shape_of s f ≡ h → components s f ≡ xs → OfComponents P S names h (elements P S ch d.env) (world_of P S ch d.label) b.element xs
  each-of before d s f b h xs y q = subst (OfComponents P S names h (elements P S ch d.env) (world_of P S ch d.label) b.element) q (of-components P S names h s f (elements P S ch d.env) (world_of P S ch d.label) b.element (subst (λ k. PastClaims P S names k s f (elements P S ch d.env) (world_of P S ch d.label) b.element) y b.claims))

  -- what is chosen at a spot serves past the modal part
  past : (before : List Node) (d e : Spot) (s : Sign) (f : Formula) → Stood P before d s f → Claims P S names (world_of P S ch d.label) (elements P S ch d.env) (signed s f) → Moves P.setting.logic s f d e → IsPast before e s f
  past before d e s f h k (plain q) =
      let w = world_of P S ch d.label in
      let env = elements P S ch d.env in
      let x = chosen_there P S c names ch right s f d.label d.env in
      let fit = there P S c names ch right s f d.label d.env in
      let goal = subst (λ m. GoalFits S m w x.goal) q fit.goal in
      let here = subst (λ m. PastModal S m w x (ShapeClaims P S names (shape_of s f) s f env) (PastClaims P S names (shape_of s f) s f env)) q (fit.past k) in
      record {
        turned_there = turned P before d d s f h (plain q);
        element = x.element;
        named = λ y. delta-here P S c names ch right before (reached_at d []) (reached_at d []) d.env (followed-stood P S c names ch right before d s f h) d.position s f (stood-way P before d s f h) (λ n. refl) y;
        claims = subst (λ v. PastClaims P S names (shape_of s f) s f env v x.element) goal here;
      }
  past before d e s f h k (by_string v q g) =
      let l = P.setting.logic in
      let w = world_of P S ch d.label in
      let env = elements P S ch d.env in
      let x = chosen_there P S c names ch right s f d.label d.env in
      let fit = there P S c names ch right s f d.label d.env in
      let each = subst (λ m. PastModal S m w x (ShapeClaims P S names (shape_of s f) s f env) (PastClaims P S names (shape_of s f) s f env)) q (fit.past k) in
      let next = nu_label l d.label (marks_list v) in
      let reached = nu-reached P S c (step_of P S ch) (mark-steps P S c names ch right) l c.relation d.label (marks_list v) g in
      record {
        turned_there = turned P before d (after_string l v d) s f h (by_string v q g);
        element = x.element;
        named = λ y. absurd (delta-no_nu l s f y q);
        claims = no_choice (shape_of s f) s f env (world_of P S ch next) x.element (λ y. delta-no_nu l s f y q) (each (world_of P S ch next) reached);
      }
  past before d e s f h k (by_character q) =
      let l = P.setting.logic in
      let w = world_of P S ch d.label in
      let env = elements P S ch d.env in
      let x = chosen_there P S c names ch right s f d.label d.env in
      let fit = there P S c names ch right s f d.label d.env in
      let follows = followed-stood P S c names ch right before d s f h in
      let way = stood-way P before d s f h in
      let here = subst (λ m. PastModal S m w x (ShapeClaims P S names (shape_of s f) s f env) (PastClaims P S names (shape_of s f) s f env)) q (fit.past k) in
      record {
        turned_there = turned P before d (after_character l d) s f h (by_character q);
        element = x.element;
        named = λ y. delta-here P S c names ch right before (reached_at d []) (reached_at (after_character l d) []) d.env follows d.position s f way (λ n. refl) y;
        claims = subst (λ v. PastClaims P S names (shape_of s f) s f env v x.element) (sym (pi-here P S c names ch right before d.label d.taken d.env follows d.position s f way q)) here;
      }

  -- ---- a closed tableau

  module _ (t : Tableau) (n : ℕ) (shut : IsTrue (is_closed P n t)) where
    -- a term that a turn takes lies in the domain
    gamma-inside : (before : List Node) (d e : Spot) (s : Sign) (f : Formula) (u : GroundTerm) → Stood P before d s f → Moves P.setting.logic s f d e → shape_of s f ≡ Gamma → TurnOf P t (turn e.position (e.taken ++ term u ∷ [])) → IsIn S (world_of P S ch e.label) (element_of P S ch u)
    gamma-inside before d e s f u h m y done =
        let w = closed-works P n t shut (turn e.position (e.taken ++ term u ∷ [])) done in
        term-inside P S c names ch right u e.label (last-of (Admitted P) e.taken (term u) w.values) (taken-allowed P (TurnOf P t) (Admitted P) before d e s f u h m y w)

    saturated : IsSaturated P.setting.logic (TurnOf P t) IsClaimed Held
    saturated = record {
      literal = λ d e s p ts h m done.
          let b = past h.before d e s (atom p ts) h.stood h.claims m in
          subst (AtomClaims P.setting.logic S (world_of P S ch e.label) s p) (term-values e.env ts b.claims.1) b.claims.0;
      only = λ d e s f a y q h m done.
          let b = past h.before d e s f h.stood h.claims m in
          record { before = h.before ++ node e.position s f ∷ []; stood = only-stood P h.before e s f a b.turned_there y q; claims = (each-of h.before e s f b Alpha (a ∷ []) y q).0 };
      left = λ d e s f a r y q h m done.
          let b = past h.before d e s f h.stood h.claims m in
          record { before = h.before ++ node e.position s f ∷ []; stood = first-stood P h.before e s f Alpha a r b.turned_there refl (λ rest. refl) y q; claims = (each-of h.before e s f b Alpha (a ∷ r ∷ []) y q).0 };
      right = λ d e s f a r y q h m done.
          let b = past h.before d e s f h.stood h.claims m in
          record { before = h.before ++ node e.position s f ∷ []; stood = second-stood P h.before e s f Alpha a r b.turned_there refl (λ rest. refl) y q; claims = (each-of h.before e s f b Alpha (a ∷ r ∷ []) y q).1.0 };
      either = λ d e s f a r y q h m done.
          let b = past h.before d e s f h.stood h.claims m in
          elim (each-of h.before e s f b Beta (a ∷ r ∷ []) y q) [
            | inl k ↦ inl (record { before = h.before ++ node e.position s f ∷ []; stood = first-stood P h.before e s f Beta a r b.turned_there refl (λ rest. refl) y q; claims = k })
            | inr k ↦ inr (record { before = h.before ++ node e.position s f ∷ []; stood = second-stood P h.before e s f Beta a r b.turned_there refl (λ rest. refl) y q; claims = k })
          ];
      gamma = λ d e s f a u y q h m done.
          let b = past h.before d e s f h.stood h.claims m in
          record { before = h.before ++ node e.position s f ∷ []; stood = inside-gamma-stood P h.before e s f a u b.turned_there y q; claims = (each-of h.before e s f b Gamma (a ∷ []) y q (element_of P S ch u) (gamma-inside h.before d e s f u h.stood m y done)).0 };
      delta = λ d e s f a y q h m done.
          let b = past h.before d e s f h.stood h.claims m in
          record { before = h.before ++ node e.position s f ∷ []; stood = inside-delta-stood P h.before e s f a b.turned_there y q; claims = subst (λ z. Claims P S names (world_of P S ch e.label) (z ∷ elements P S ch e.env) a) (b.named y) (each-of h.before e s f b Delta (a ∷ []) y q).0 };
    }

    hits : S.truth names P.formula [] S.root ≡ false → IsTrue (formula_fits P.setting.logic P.symbols 0 P.formula) → (i : ClauseInstance) → Among (instances t) i → Hits Held i
    hits false_at_root fits i h =
        let x = (is_allowed_instance-exact P i).0 (among-all (λ j. IsTrue (is_allowed_instance P j)) (instances t) i (all-allowed P n t shut) h) in
        let same = turns-by_cases P i x.0 x.1 x.2 in
        let turns = all-among (TurnOf P t) x.0.turns (λ y k. joined-among (turns_of_instance P) (instances t) i y h (subst (λ ts. Among ts y) (sym same) k)) in
        subst (Hits Held) (sym x.2) (hit P.setting.logic (TurnOf P t) IsClaimed Held saturated root_spot F P.formula x.0 x.1.instance.given turns (record { before = []; stood = root-stood P; claims = (false_at_root, fits) }))

    refuted : S.truth names P.formula [] S.root ≡ false → IsTrue (formula_fits P.setting.logic P.symbols 0 P.formula) → ⊥
    refuted false_at_root fits =
        let pair = pair_of_closed Held P n t shut (all-among (Hits Held) (instances t) (hits false_at_root fits)) in
        held-apart pair.0 pair.1 pair.2 pair.3 pair.4

-- ---- structures

-- where the formula is false at the root of a structure of its setting, no tableau is closed
pub false-open : {W E : Type 0} (P : Problem) → IsTrue (is_problem P) → (M : Model W E) → IsModel P M → (names : Term → E) → M.truth names P.formula [] M.root ≡ false → (limit : ℕ) → HasClosed P limit → ⊥
false-open {W} {E} P problem M c names false_at_root limit closed =
    let some = chosen P M c in
    let common = common-element P M c in
    let ch : Chooser W E = record { next = some.next; element = some.element; common = common.0; at = λ s f env w. (chosen_at P M c some names s f env w).0 } in
    refuted P M c names ch (record { next = some.reached; element = some.inside; common = common.1; at = λ s f env w. (chosen_at P M c some names s f env w).1 }) closed.tableau limit closed.closed false_at_root (fits-problem P problem)

-- what has a closed tableau is true in each structure of its setting, whatever its worlds and elements are
pub closed-valid : (W E : Type 0) (P : Problem) → IsTrue (is_problem P) → (limit : ℕ) → HasClosed P limit → IsTrueOver W E P
closed-valid W E P problem limit closed = record { at_root = λ M c names. true_from_ne_false (M.truth names P.formula [] M.root) (λ e. false-open P problem M c names e limit closed) }

finite-open : (P : Problem) → IsTrue (is_problem P) → (S : Structure) → IsTrue (is_structure P S) → is_true P S ≡ false → (limit : ℕ) → HasClosed P limit → ⊥
finite-open P problem S structure false_at_root limit closed =
    let l = P.setting.logic in
    let names : Term → ℕ = λ t. 0 in
    false-open P problem (model_of l S) (is-model P S (conditions P S structure)) names (truth-computed l S names P.symbols 0 P.formula (fits-problem P problem) [] 0 ∙ false_at_root) limit closed

pub closed-true : (P : Problem) → IsTrue (is_problem P) → (limit : ℕ) → HasClosed P limit → IsTrueInStructures P
closed-true P problem limit closed = record {
  at_root = λ S structure. true_from_ne_false (is_true P S) (λ e. finite-open P problem S structure e limit closed);
  over_numbers = closed-valid ℕ ℕ P problem limit closed;
}
