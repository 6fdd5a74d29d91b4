-- A term that is admitted and allowed at a label means an element of the domain of its world.
use Rattle.std.proofs.Common.{◌≡◌, ℕ, suc, List, [], ◌∷◌, ◌++◌, length, true, false, ◌&&◌, Option, Some, None, option_and_then, IsTrue, refl, sym, ◌∙◌, ap, subst, append-nil}
use Rattle.std.specs.Option.{option_map_or}
use Rattle.std.proofs.lemmas.Bool.{false≢true, and_parts}
use Rattle.plain_laws.proofs.Options.{none_some}
use Rattle.calculus.specs.declared.kind.Shape.{Shape}
use Rattle.calculus.specs.declared.kind.Shape.TheVariants.{Alpha, Beta, Gamma, Delta, Literal}
use Rattle.calculus.specs.declared.kind.ModalPart.{ModalPart}
use Rattle.calculus.specs.declared.kind.ModalPart.TheVariants.{Plain, Nu, Pi}
use Rattle.calculus.specs.Syntax.{Term, Problem}
use Rattle.calculus.specs.Ground.{GroundTerm, GroundTerms, GroundMark, Values, g_fun, g_eigen, common, own, no_g_terms, more_g_terms, g_terms_list, marks_list, values_list}
use Rattle.calculus.specs.Kinds.{shape_of, modal_of}
use Rattle.calculus.specs.Lists.{values_tree-values_list}
use Rattle.calculus.specs.Positions.{Node}
use Rattle.calculus.specs.Skolem.{Reached, after_modal, after_shape, after_node, label_along, at_root, way_to, label_of, fits_way, last_node, is_delta, is_delta_position, is_admitted, are_admitted, are_admitted_values, has_function, is_allowed, are_allowed}
use Rattle.calculus.specs.Models.{Model, IsIn, AllIn, IsModel}
use Rattle.calculus.proofs.SpotLaws.{LeadsTo, label-LeadsTo}
use Rattle.conversion_theory.proofs.PlaceLaws.{env_along}
use Rattle.conversion_theory.proofs.AgendaLaws.{fits-leads, LeadsTo-values}
use Rattle.truth_theory.proofs.Choices.{Choice, GoalFits}
use Rattle.truth_theory.proofs.GroundWorlds.{allowed-inside, common-inside}
use Rattle.truth_theory.proofs.Meanings.{Chooser, Standing, standing, choice_at, past_nodes, choice-append, named_by, element_of, elements_of, step_of, follow, meanings_of, means, world_of, means-tree, follow-list}
use Rattle.truth_theory.proofs.PathLaws.{IsPath, path-front, path-end, way-path, last-split}
use Rattle.truth_theory.proofs.Followed.{IsChooser, delta-no_nu, mark-steps, at-label, chosen_there, there, PastModal, past-modal, followed-root}

-- ---- the last node of a way that is followed

record EndsAt (P : Problem) (before : List Node) (n : Node) (r m : Reached) : Type 0 where
  last : Reached
  leads : LeadsTo P.setting.logic before r last
  after : after_node P.setting.logic n last ≡ Some m

leads-split : (P : Problem) (before : List Node) (n : Node) (r m : Reached) → LeadsTo P.setting.logic (before ++ n ∷ []) r m → EndsAt P before n r m
leads-split P [] n r m h = record { last = r; leads = refl; after = h.1 ∙ ap Some h.3 }
leads-split P (x ∷ before) n r m h = let rest = leads-split P before n h.0 m h.3 in record { last = rest.last; leads = (h.0, h.1, h.2, rest.leads); after = rest.after }

-- a delta formula takes nothing past its modal part
delta-after : (P : Problem) (n : Node) (k m : Reached) → shape_of n.sign n.formula ≡ Delta → after_node P.setting.logic n k ≡ Some m → after_modal P.setting.logic n.position (modal_of P.setting.logic n.sign n.formula) k ≡ Some m
delta-after P n k m e h = by (after_modal P.setting.logic n.position (modal_of P.setting.logic n.sign n.formula) k) (subst (λ s. option_and_then (after_shape s) (after_modal P.setting.logic n.position (modal_of P.setting.logic n.sign n.formula) k) ≡ Some m) e h)
  where
    by : (o : Option Reached) → option_and_then (after_shape Delta) o ≡ Some m → o ≡ Some m
    by None h = absurd (none_some h)
    by (Some r) h = h

delta-last : (ns : List Node) → option_map_or (λ (n : Node). is_delta (shape_of n.sign n.formula)) (last_node ns) false ≡ true → (n : Node) × (last_node ns ≡ Some n) × (shape_of n.sign n.formula ≡ Delta)
delta-last ns h = by (last_node ns) refl h
  where
    delta : (s : Shape) → is_delta s ≡ true → s ≡ Delta
    delta Delta e = refl
    delta Alpha e = absurd (false≢true e)
    delta Beta e = absurd (false≢true e)
    delta Gamma e = absurd (false≢true e)
    delta Literal e = absurd (false≢true e)

    by : (o : Option Node) → last_node ns ≡ o → option_map_or (λ (n : Node). is_delta (shape_of n.sign n.formula)) o false ≡ true → (n : Node) × (last_node ns ≡ Some n) × (shape_of n.sign n.formula ≡ Delta)
    by None e h = absurd (false≢true h)
    by (Some n) e h = (n, e, delta (shape_of n.sign n.formula) h)

module _ {W E : Type 0} (P : Problem) (S : Model W E) (c : IsModel P S) (names : Term → E) (ch : Chooser W E) (right : IsChooser P S names ch) where
  -- the goal is the world past the modal part
  goal-past : (q : ModalPart) (goal : W) (env : List GroundTerm) (r d : Reached) → (q ≡ Nu → ⊥) → GoalFits S q (world_of P S ch r.label) goal → PastModal P S c names ch right q goal env r d → goal ≡ world_of P S ch d.label
  goal-past Plain goal env r d n fit m = fit ∙ ap (λ (k : Standing W E). k.world) (m.past [])
  goal-past Nu goal env r d n fit m = absurd (n refl)
  goal-past Pi goal env r d n fit m = ap (λ (k : Standing W E). k.world) (m.past [])

  -- an eigenvariable's element lies in the domain of its home
  eigen-inside : (p : ℕ) (vs : Values) → IsTrue (is_delta_position P p) → IsTrue (fits_way P p (values_list vs)) → IsIn S (world_of P S ch (label_of P p (values_list vs))) (element_of P S ch (g_eigen p vs))
  eigen-inside p vs delta fits =
      let l = P.setting.logic in
      let us = values_list vs in
      let last = delta-last (way_to P p) delta in
      let n = last.0 in
      let split = last-split (way_to P p) n last.1 in
      let before = split.0 in
      let lead = fits-leads l (way_to P p) (at_root us) fits in
      let m = lead.0 in
      let end = leads-split P before n (at_root us) m (subst (λ ns. LeadsTo l ns (at_root us) m) split.1 lead.1) in
      let k = end.last in
      let path = subst (IsPath P []) split.1 (way-path P p) in
      let env = env_along l before (at_root us) [] in
      let follows = followed-root P S c names ch right before us k (path-front P [] before (n ∷ []) path) end.leads in
      let x = chosen_there P S c names ch right n.sign n.formula k.label env in
      let fit = there P S c names ch right n.sign n.formula k.label env in
      let none = delta-no_nu l n.sign n.formula last.2 in
      let past = past-modal P S c names ch right before k m env follows n.position n.sign n.formula (path-end P [] before n path) (modal_of l n.sign n.formula) refl (delta-after P n k m last.2 end.after) in
      let goal = goal-past (modal_of l n.sign n.formula) x.goal env k m none fit.goal past in
      let home : label_of P p us ≡ m.label = ap (λ ns. label_along l ns (at_root us)) (sym (append-nil (way_to P p))) ∙ label-LeadsTo l (way_to P p) [] (at_root us) m lead.1 in
      let all_values : meanings_of P S ch vs ≡ means P S ch (k.taken ++ k.rest) = ap (meanings_of P S ch) (sym (values_tree-values_list vs)) ∙ means-tree P S ch us ∙ ap (means P S ch) (sym (LeadsTo-values l before (at_root us) k end.leads)) in
      let stands = ap (λ ms. past_nodes l S.root ch before (standing S.root [] ms)) all_values ∙ follows.follows k.rest in
      let chosen : named_by P S ch (way_to P p) (meanings_of P S ch vs) ≡ x = ap (λ ns. named_by P S ch ns (meanings_of P S ch vs)) split.1 ∙ choice-append l S.root ch S.element before n (standing S.root [] (meanings_of P S ch vs)) ∙ ap (choice_at ch n) stands in
      let inside : IsIn S (world_of P S ch m.label) x.element = subst (λ w. IsIn S w x.element) goal fit.inside in
      subst (λ w. IsIn S (world_of P S ch w) (element_of P S ch (g_eigen p vs))) (sym home) (subst (λ (y : Choice W E). IsIn S (world_of P S ch m.label) y.element) (sym chosen) inside)

  -- ---- terms

  counted : (ts : GroundTerms) → length (elements_of P S ch ts) ≡ length (g_terms_list ts)
  counted no_g_terms = refl
  counted (more_g_terms t ts) = ap suc (counted ts)

  function-inside : (f : ℕ) (ts : GroundTerms) (w : List GroundMark) → IsTrue (has_function P.symbols f (length (g_terms_list ts))) → AllIn S (world_of P S ch w) (elements_of P S ch ts) → IsIn S (world_of P S ch w) (element_of P S ch (g_fun f ts))
  function-inside f ts w h inside = c.functions f (elements_of P S ch ts) (subst (λ n. IsTrue (has_function P.symbols f n)) (sym (counted ts)) h) (world_of P S ch w) (at-label P S c names ch right w) inside

  mutual
    pub term-inside : (t : GroundTerm) (w : List GroundMark) → is_admitted P t ≡ true → is_allowed P w t ≡ true → IsIn S (world_of P S ch w) (element_of P S ch t)
    term-inside (g_fun f no_g_terms) w h g = function-inside f no_g_terms w (and_parts (has_function P.symbols f 0) true h).0 tt
    term-inside (g_fun f (more_g_terms t ts)) w h g =
        let parts = and_parts (has_function P.symbols f (length (g_terms_list (more_g_terms t ts)))) (is_admitted P t && are_admitted P ts) h in
        let admitted = and_parts (is_admitted P t) (are_admitted P ts) parts.1 in
        let allowed = and_parts (is_allowed P w t) (are_allowed P w ts) g in
        function-inside f (more_g_terms t ts) w parts.0 (term-inside t w admitted.0 allowed.0, terms-inside ts w admitted.1 allowed.1)
    term-inside (g_eigen p vs) w h g =
        let parts = and_parts (is_delta_position P p && fits_way P p (values_list vs)) (are_admitted_values P vs) h in
        let at = and_parts (is_delta_position P p) (fits_way P p (values_list vs)) parts.0 in
        allowed-inside P S c (step_of P S ch) (mark-steps P S c names ch right) P.setting.domains c.domains (element_of P S ch (g_eigen p vs)) (label_of P p (values_list vs)) w g (eigen-inside p vs at.0 at.1)
    term-inside (common k) w h g = common-inside P S c (step_of P S ch) (mark-steps P S c names ch right) ch.common right.common g w
    term-inside (own k v) w h g =
        let there = subst (λ x. IsIn S x (element_of P S ch (own k v))) (follow-list P S ch v S.root) (right.element (follow P S ch v S.root) (subst (λ x. S.is_world x ≡ true) (sym (follow-list P S ch v S.root)) (at-label P S c names ch right (marks_list v)))) in
        allowed-inside P S c (step_of P S ch) (mark-steps P S c names ch right) P.setting.domains c.domains (element_of P S ch (own k v)) (marks_list v) w g there

    pub terms-inside : (ts : GroundTerms) (w : List GroundMark) → are_admitted P ts ≡ true → are_allowed P w ts ≡ true → AllIn S (world_of P S ch w) (elements_of P S ch ts)
    terms-inside no_g_terms w h g = tt
    terms-inside (more_g_terms t ts) w h g =
        let admitted = and_parts (is_admitted P t) (are_admitted P ts) h in
        let allowed = and_parts (is_allowed P w t) (are_allowed P w ts) g in
        (term-inside t w admitted.0 allowed.0, terms-inside ts w admitted.1 allowed.1)
