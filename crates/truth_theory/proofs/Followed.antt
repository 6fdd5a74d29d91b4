-- The values taken on the way to a place lead down the formula to the world of its label and the elements of its terms.
use Rattle.std.proofs.Common.{◌≡◌, ℕ, List, [], ◌∷◌, ◌++◌, Option, Some, None, option_and_then, refl, sym, ◌∙◌, ap, subst, inl, inr, append_assoc, append-nil}
use Rattle.std.proofs.lemmas.Bool.{cases_Bool}
use Rattle.plain_laws.proofs.Options.{none_some, some_injective}
use Rattle.calculus.specs.declared.sign.Sign.{Sign}
use Rattle.calculus.specs.declared.sign.Sign.TheVariants.{T, F}
use Rattle.calculus.specs.declared.setting.Logic.{Logic}
use Rattle.calculus.specs.declared.setting.Logic.TheVariants.{Classical, Intuitionistic, D, T as LogicT, S4, S5}
use Rattle.calculus.specs.declared.kind.Shape.{Shape}
use Rattle.calculus.specs.declared.kind.Shape.TheVariants.{Alpha, Beta, Gamma, Delta, Literal}
use Rattle.calculus.specs.declared.kind.ModalPart.{ModalPart}
use Rattle.calculus.specs.declared.kind.ModalPart.TheVariants.{Plain, Nu, Pi}
use Rattle.calculus.specs.Syntax.{Term, Formula, atom, neg, conj, disj, imp, all, ex, box, dia, Problem}
use Rattle.calculus.specs.Ground.{GroundTerm, GroundMark, Marks, Value, g_eigen, g_new_mark, g_spare_mark, term, steps, marks_list, values_tree}
use Rattle.calculus.specs.Kinds.{shape_of, modal_of}
use Rattle.calculus.specs.Labels.{nu_label, pi_label}
use Rattle.calculus.specs.Positions.{Node, node}
use Rattle.calculus.specs.Skolem.{Reached, take_string, after_modal, take_term, after_shape, at_root, way_to}
use Rattle.calculus.specs.Instances.{Spot}
use Rattle.calculus.specs.ComputedInstances.{reached_at}
use Rattle.calculus.specs.Models.{Model, IsWorld, Reaches, IsIn, RelationFits, IsModel}
use Rattle.calculus.proofs.Interpretations.{IsCommon}
use Rattle.calculus.proofs.SpotLaws.{LeadsTo}
use Rattle.conversion_theory.proofs.PlaceLaws.{env_past, env_along, Stood, last_term-push}
use Rattle.conversion_theory.proofs.AgendaLaws.{stood-way}
use Rattle.truth_theory.proofs.Choices.{Choice, IsChosen, GoalFits}
use Rattle.truth_theory.proofs.GroundWorlds.{from-append, AreMarkSteps, label-world}
use Rattle.truth_theory.proofs.Meanings.{Chooser, standing, way_world, past_modal, past_shape, choice_at, past_node, past_nodes, nodes-append, choice-append, named_by, step_by, element_of, step_of, follow, means, meanings_of, world_of, elements, means-tree, follow-list}
use Rattle.truth_theory.proofs.PathLaws.{IsPath, path-front, way-path}

-- what is chosen is right in the structure
pub record IsChooser {W E : Type 0} (P : Problem) (S : Model W E) (names : Term → E) (ch : Chooser W E) : Type 0 where
  pub next : (w : W) → IsWorld S w → Reaches S w (ch.next w)
  pub element : (w : W) → IsWorld S w → IsIn S w (ch.element w)
  pub common : IsCommon P S ch.common
  pub at : (s : Sign) (f : Formula) (env : List E) (w : W) → IsWorld S w → IsChosen P S names s f env w (ch.at s f env w)

-- behind these nodes the values lead to the label and the terms
pub record IsFollowed {W E : Type 0} (P : Problem) (S : Model W E) (ch : Chooser W E) (before : List Node) (label : List GroundMark) (taken : List Value) (env : List GroundTerm) : Type 0 where
  pub follows : (rest : List Value) → past_nodes P.setting.logic S.root ch before (standing S.root [] (means P S ch (taken ++ rest))) ≡ standing (world_of P S ch label) (elements P S ch env) (means P S ch rest)

-- no delta formula has a nu part
universal-no_nu : (l : Logic) (a : Formula) → modal_of l F (all a) ≡ Nu → ⊥
universal-no_nu Classical a e = cc
universal-no_nu Intuitionistic a e = cc
universal-no_nu D a e = cc
universal-no_nu LogicT a e = cc
universal-no_nu S4 a e = cc
universal-no_nu S5 a e = cc

pub delta-no_nu : (l : Logic) (s : Sign) (f : Formula) → shape_of s f ≡ Delta → modal_of l s f ≡ Nu → ⊥
delta-no_nu l s (atom p ts) d e = cc
delta-no_nu l s (neg a) d e = cc
delta-no_nu l T (conj a b) d e = cc
delta-no_nu l F (conj a b) d e = cc
delta-no_nu l T (disj a b) d e = cc
delta-no_nu l F (disj a b) d e = cc
delta-no_nu l T (imp a b) d e = cc
delta-no_nu l F (imp a b) d e = cc
delta-no_nu l T (all a) d e = cc
delta-no_nu l F (all a) d e = universal-no_nu l a e
delta-no_nu l T (ex a) d e = cc
delta-no_nu l F (ex a) d e = cc
delta-no_nu l s (box a) d e = cc
delta-no_nu l s (dia a) d e = cc

module _ {W E : Type 0} (P : Problem) (S : Model W E) (c : IsModel P S) (names : Term → E) (ch : Chooser W E) (right : IsChooser P S names ch) where
  pub mark-steps : AreMarkSteps S (step_of P S ch)
  mark-steps (g_new_mark p vs) x world = elim (cases_Bool (S.reaches x (named_by P S ch (way_to P p) (meanings_of P S ch vs)).goal)) [
    | inl e ↦ rw e e
    | inr e ↦ rw e (right.next x world)
  ]
  mark-steps (g_spare_mark k) x world = right.next x world

  pub at-label : (w : List GroundMark) → IsWorld S (world_of P S ch w)
  at-label w = label-world P S c (step_of P S ch) mark-steps w

  -- ---- what is chosen at a place

  abbrev pub chosen_there : Sign → Formula → List GroundMark → List GroundTerm → Choice W E
  chosen_there s f label env = ch.at s f (elements P S ch env) (world_of P S ch label)

  pub there : (s : Sign) (f : Formula) (label : List GroundMark) (env : List GroundTerm) → IsChosen P S names s f (elements P S ch env) (world_of P S ch label) (chosen_there s f label env)
  there s f label env = right.at s f (elements P S ch env) (world_of P S ch label) (at-label label)

  -- what is introduced at a position is what is chosen there
  pub choice-here : (before : List Node) (label : List GroundMark) (taken : List Value) (env : List GroundTerm) → IsFollowed P S ch before label taken env → (p : ℕ) (s : Sign) (f : Formula) → way_to P p ≡ before ++ node p s f ∷ [] → named_by P S ch (way_to P p) (meanings_of P S ch (values_tree taken)) ≡ chosen_there s f label env
  choice-here before label taken env h p s f way =
      let l = P.setting.logic in
      let all_taken = ap (λ vs. past_nodes l S.root ch before (standing S.root [] (means P S ch vs))) (sym (append-nil taken)) ∙ h.follows [] in
      (λ i. named_by P S ch (way i) (means-tree P S ch taken i))
      ∙ choice-append l S.root ch S.element before (node p s f) (standing S.root [] (means P S ch taken))
      ∙ ap (λ k. choice_at ch (node p s f) k) all_taken

  at-goal : (x g given : W) → given ≡ g → Reaches S x g → step_by S ch given x ≡ g
  at-goal x g given e h = rw (e, h) refl

  pi-by : (l : Logic) → RelationFits l S → (label : List GroundMark) (m : GroundMark) (g : W) → Reaches S (world_of P S ch label) g → ((x : W) → Reaches S x g → step_of P S ch m x ≡ g) → world_of P S ch (pi_label l label m) ≡ g
  pi-by S5 r label m g h lands = lands S.root (r S.root g c.root (c.successors (world_of P S ch label) g (at-label label) h))
  pi-by _ r label m g h lands = from-append (step_of P S ch) S.root label (m ∷ []) ∙ lands (world_of P S ch label) h

  -- a pi part leads to the world that is chosen there
  pub pi-here : (before : List Node) (label : List GroundMark) (taken : List Value) (env : List GroundTerm) → IsFollowed P S ch before label taken env → (p : ℕ) (s : Sign) (f : Formula) → way_to P p ≡ before ++ node p s f ∷ [] → modal_of P.setting.logic s f ≡ Pi → world_of P S ch (pi_label P.setting.logic label (g_new_mark p (values_tree taken))) ≡ (chosen_there s f label env).goal
  pi-here before label taken env h p s f way e =
      let g = (chosen_there s f label env).goal in
      let reached = subst (λ q. GoalFits S q (world_of P S ch label) g) e (there s f label env).goal in
      pi-by P.setting.logic c.relation label (g_new_mark p (values_tree taken)) g reached
      (λ x r. at-goal x g _ (ap (λ (y : Choice W E). y.goal) (choice-here before label taken env h p s f way)) r)

  pub nu-here : (l : Logic) (label : List GroundMark) (w : Marks) → world_of P S ch (nu_label l label (marks_list w)) ≡ way_world l S.root (follow P S ch w) (world_of P S ch label)
  nu-here S5 label w = sym (follow-list P S ch w S.root)
  nu-here _ label w = from-append (step_of P S ch) S.root label (marks_list w) ∙ sym (follow-list P S ch w (world_of P S ch label))

  -- ---- past a node

  -- the modal part takes its own values
  pub record PastModal (q : ModalPart) (goal : W) (env : List GroundTerm) (r d : Reached) : Type 0 where
    pub own : List Value
    pub taken : d.taken ≡ r.taken ++ own
    pub none : (q ≡ Nu → ⊥) → d.taken ≡ r.taken
    pub past : (rest : List Value) → past_modal P.setting.logic S.root q goal (standing (world_of P S ch r.label) (elements P S ch env) (means P S ch (own ++ rest))) ≡ standing (world_of P S ch d.label) (elements P S ch env) (means P S ch rest)

  past-string : (goal : W) (env : List GroundTerm) (label : List GroundMark) (taken all_rest us : List Value) (d : Reached) → take_string P.setting.logic (record { label = label; taken = taken; rest = all_rest }) us ≡ Some d → PastModal Nu goal env (record { label = label; taken = taken; rest = all_rest }) d
  past-string goal env label taken all_rest [] d e = absurd (none_some e)
  past-string goal env label taken all_rest (term t ∷ us) d e = absurd (none_some e)
  past-string goal env label taken all_rest (steps w ∷ us) d e = subst (PastModal Nu goal env (record { label = label; taken = taken; rest = all_rest })) (some_injective _ e) (record {
    own = steps w ∷ [];
    taken = refl;
    none = λ n. absurd (n refl);
    past = λ rest i. standing (sym (nu-here P.setting.logic label w) i) (elements P S ch env) (means P S ch rest);
  })

  pub past-modal : (before : List Node) (r d : Reached) (env : List GroundTerm) → IsFollowed P S ch before r.label r.taken env → (p : ℕ) (s : Sign) (f : Formula) → way_to P p ≡ before ++ node p s f ∷ [] → (q : ModalPart) → modal_of P.setting.logic s f ≡ q → after_modal P.setting.logic p q r ≡ Some d → PastModal q (chosen_there s f r.label env).goal env r d
  past-modal before r d env h p s f way Plain m e = subst (PastModal Plain (chosen_there s f r.label env).goal env r) (some_injective r e) (record { own = []; taken = sym (append-nil r.taken); none = λ n. refl; past = λ rest. refl })
  past-modal before r d env h p s f way Nu m e = past-string (chosen_there s f r.label env).goal env r.label r.taken r.rest r.rest d e
  past-modal before r d env h p s f way Pi m e = subst (PastModal Pi (chosen_there s f r.label env).goal env r) (some_injective _ e) (record {
    own = [];
    taken = sym (append-nil r.taken);
    none = λ n. refl;
    past = λ rest i. standing (sym (pi-here before r.label r.taken env h p s f way m) i) (elements P S ch env) (means P S ch rest);
  })

  record PastShape (h : Shape) (x : E) (env : List GroundTerm) (p : ℕ) (d k : Reached) : Type 0 where
    own : List Value
    taken : k.taken ≡ d.taken ++ own
    label : k.label ≡ d.label
    past : (rest : List Value) → past_shape h x (standing (world_of P S ch d.label) (elements P S ch env) (means P S ch (own ++ rest))) ≡ standing (world_of P S ch d.label) (elements P S ch (env_past h p k env)) (means P S ch rest)

  past-term : (x : E) (env : List GroundTerm) (p : ℕ) (label : List GroundMark) (taken all_rest us : List Value) (k : Reached) → take_term (record { label = label; taken = taken; rest = all_rest }) us ≡ Some k → PastShape Gamma x env p (record { label = label; taken = taken; rest = all_rest }) k
  past-term x env p label taken all_rest [] k e = absurd (none_some e)
  past-term x env p label taken all_rest (steps w ∷ us) k e = absurd (none_some e)
  past-term x env p label taken all_rest (term t ∷ us) k e = subst (PastShape Gamma x env p (record { label = label; taken = taken; rest = all_rest })) (some_injective _ e) (record {
    own = term t ∷ [];
    taken = refl;
    label = refl;
    past = λ rest i. standing (world_of P S ch label) (element_of P S ch (sym (last_term-push taken t) i) ∷ elements P S ch env) (means P S ch rest);
  })

  past-same : (h : Shape) (x : E) (env : List GroundTerm) (p : ℕ) (d k : Reached) → d ≡ k → ((rest : List Value) → past_shape h x (standing (world_of P S ch d.label) (elements P S ch env) (means P S ch rest)) ≡ standing (world_of P S ch d.label) (elements P S ch (env_past h p d env)) (means P S ch rest)) → PastShape h x env p d k
  past-same h x env p d k same past = subst (PastShape h x env p d) same (record { own = []; taken = sym (append-nil d.taken); label = refl; past = past })

  past-shape : (h : Shape) (x : E) (env : List GroundTerm) (p : ℕ) (d k : Reached) → (h ≡ Delta → x ≡ element_of P S ch (g_eigen p (values_tree d.taken))) → after_shape h d ≡ Some k → PastShape h x env p d k
  past-shape Gamma x env p d k delta e = past-term x env p d.label d.taken d.rest d.rest k e
  past-shape Delta x env p d k delta e = past-same Delta x env p d k (some_injective d e) (λ rest i. standing (world_of P S ch d.label) (delta refl i ∷ elements P S ch env) (means P S ch rest))
  past-shape Alpha x env p d k delta e = past-same Alpha x env p d k (some_injective d e) (λ rest. refl)
  past-shape Beta x env p d k delta e = past-same Beta x env p d k (some_injective d e) (λ rest. refl)
  past-shape Literal x env p d k delta e = past-same Literal x env p d k (some_injective d e) (λ rest. refl)

  -- what a delta formula introduces past its modal part
  pub delta-here : (before : List Node) (r d : Reached) (env : List GroundTerm) → IsFollowed P S ch before r.label r.taken env → (p : ℕ) (s : Sign) (f : Formula) → way_to P p ≡ before ++ node p s f ∷ [] → ((modal_of P.setting.logic s f ≡ Nu → ⊥) → d.taken ≡ r.taken) → shape_of s f ≡ Delta → (chosen_there s f r.label env).element ≡ element_of P S ch (g_eigen p (values_tree d.taken))
  delta-here before r d env h p s f way none e =
      ap (λ (y : Choice W E). y.element) (sym (choice-here before r.label r.taken env h p s f way))
      ∙ ap (λ vs. element_of P S ch (g_eigen p (values_tree vs))) (sym (none (delta-no_nu P.setting.logic s f e)))

  past-halves : (before : List Node) (r k : Reached) (env : List GroundTerm) (p : ℕ) (s : Sign) (f : Formula) → IsFollowed P S ch before r.label r.taken env → way_to P p ≡ before ++ node p s f ∷ [] → (o : Option Reached) → after_modal P.setting.logic p (modal_of P.setting.logic s f) r ≡ o → option_and_then (after_shape (shape_of s f)) o ≡ Some k → IsFollowed P S ch (before ++ node p s f ∷ []) k.label k.taken (env_past (shape_of s f) p k env)
  past-halves before r k env p s f h way None a e = absurd (none_some e)
  past-halves before r k env p s f h way (Some d) a e =
      let l = P.setting.logic in
      let x = chosen_there s f r.label env in
      let m = past-modal before r d env h p s f way (modal_of l s f) refl a in
      let t = past-shape (shape_of s f) x.element env p d k (delta-here before r d env h p s f way m.none) e in
      record {
        follows = λ rest.
            let whole : k.taken ++ rest ≡ r.taken ++ (m.own ++ (t.own ++ rest)) = ap (λ vs. vs ++ rest) (t.taken ∙ ap (λ vs. vs ++ t.own) m.taken) ∙ append_assoc (r.taken ++ m.own) t.own rest ∙ append_assoc r.taken m.own (t.own ++ rest) in
            nodes-append l S.root ch before (node p s f) (standing S.root [] (means P S ch (k.taken ++ rest)))
            ∙ ap (past_node l S.root ch (node p s f)) (ap (λ vs. past_nodes l S.root ch before (standing S.root [] (means P S ch vs))) whole ∙ h.follows (m.own ++ (t.own ++ rest)))
            ∙ ap (past_shape (shape_of s f) x.element) (m.past (t.own ++ rest))
            ∙ t.past rest
            ∙ ap (λ w. standing (world_of P S ch w) (elements P S ch (env_past (shape_of s f) p k env)) (means P S ch rest)) (sym t.label);
      }

  -- ---- along a way

  followed : (ns before : List Node) (r m : Reached) (env : List GroundTerm) → IsPath P before ns → IsFollowed P S ch before r.label r.taken env → LeadsTo P.setting.logic ns r m → IsFollowed P S ch (before ++ ns) m.label m.taken (env_along P.setting.logic ns r env)
  followed [] before r m env path h e = subst (λ ns. IsFollowed P S ch ns m.label m.taken env) (sym (append-nil before)) (subst (λ (k : Reached). IsFollowed P S ch before k.label k.taken env) e h)
  followed (n ∷ ns) before r m env path h lead =
      let l = P.setting.logic in
      let next = past-halves before r lead.0 env n.position n.sign n.formula h path.0 (after_modal l n.position (modal_of l n.sign n.formula) r) refl lead.1 in
      let rest = followed ns (before ++ n ∷ []) lead.0 m (env_past (shape_of n.sign n.formula) n.position lead.0 env) path.1 next lead.3 in
      rw lead.1 (subst (λ ks. IsFollowed P S ch ks m.label m.taken (env_along l ns lead.0 (env_past (shape_of n.sign n.formula) n.position lead.0 env))) (append_assoc before (n ∷ []) ns) rest)

  pub followed-root : (ns : List Node) (vs : List Value) (m : Reached) → IsPath P [] ns → LeadsTo P.setting.logic ns (at_root vs) m → IsFollowed P S ch ns m.label m.taken (env_along P.setting.logic ns (at_root vs) [])
  followed-root ns vs m path lead = followed ns [] (at_root vs) m [] path (record { follows = λ rest. refl }) lead

  -- a place
  pub followed-stood : (before : List Node) (d : Spot) (s : Sign) (f : Formula) → Stood P before d s f → IsFollowed P S ch before d.label d.taken d.env
  followed-stood before d s f h =
      let path = path-front P [] before (node d.position s f ∷ []) (subst (IsPath P []) (stood-way P before d s f h) (way-path P d.position)) in
      subst (IsFollowed P S ch before d.label d.taken) (h.env []) (followed-root before (d.taken ++ []) (reached_at d []) path (h.stands.comes []))
