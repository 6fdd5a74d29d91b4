-- What the ground terms and marks of a problem mean in a structure. An eigenvariable or a character is named by its position and the
-- values taken on the way to it: these are followed down the formula, by what is chosen at each node, and it means what is chosen there.
use Rattle.std.proofs.Common.{◌≡◌, List, [], ◌∷◌, ◌++◌, map, if◌then◌else◌, refl, ap}
use Rattle.calculus.specs.declared.sign.Sign.{Sign}
use Rattle.calculus.specs.declared.setting.Logic.{Logic}
use Rattle.calculus.specs.declared.setting.Logic.TheVariants.{S5}
use Rattle.calculus.specs.declared.kind.Shape.{Shape}
use Rattle.calculus.specs.declared.kind.Shape.TheVariants.{Gamma, Delta}
use Rattle.calculus.specs.declared.kind.ModalPart.{ModalPart}
use Rattle.calculus.specs.declared.kind.ModalPart.TheVariants.{Plain, Nu, Pi}
use Rattle.calculus.specs.Syntax.{Formula, Problem}
use Rattle.calculus.specs.Ground.{GroundTerm, GroundTerms, GroundMark, Marks, Value, Values, g_fun, g_eigen, common, own, no_g_terms, more_g_terms, g_new_mark, g_spare_mark, no_marks, more_marks, term, steps, no_values, more_values, marks_list, values_tree}
use Rattle.calculus.specs.Kinds.{shape_of, modal_of}
use Rattle.calculus.specs.Positions.{Node}
use Rattle.calculus.specs.Skolem.{way_to}
use Rattle.calculus.specs.Models.{Model}
use Rattle.truth_theory.proofs.Choices.{Choice}
use Rattle.truth_theory.proofs.GroundWorlds.{world_from}

-- what is chosen in a structure
pub record Chooser (W E : Type 0) : Type 0 where
  pub next : W → W
  pub element : W → E
  pub common : E
  pub at : Sign → Formula → List E → W → Choice W E

-- what a value means: an element, or where a string leads
pub data Meant (W E : Type 0) : Type 0 where
  an_element : E → Meant W E
  a_way : (W → W) → Meant W E

-- ---- down the formula

-- the world, the elements for the variables, and the values that are still there
pub record Standing (W E : Type 0) : Type 0 where
  pub world : W
  pub env : List E
  pub rest : List (Meant W E)

abbrev pub standing : {W E : Type 0} → W → List E → List (Meant W E) → Standing W E
standing w env ms = record { world = w; env = env; rest = ms }

abbrev pub way_world : {W : Type 0} → Logic → W → (W → W) → W → W
way_world S5 root way w = way root
way_world _ root way w = way w

abbrev pub past_string : {W E : Type 0} → Logic → W → Standing W E → List (Meant W E) → Standing W E
past_string l root k (a_way way ∷ ms) = standing (way_world l root way k.world) k.env ms
past_string l root k ms = k

abbrev pub past_modal : {W E : Type 0} → Logic → W → ModalPart → W → Standing W E → Standing W E
past_modal l root Plain goal k = k
past_modal l root Nu goal k = past_string l root k k.rest
past_modal l root Pi goal k = standing goal k.env k.rest

abbrev pub past_term : {W E : Type 0} → Standing W E → List (Meant W E) → Standing W E
past_term k (an_element e ∷ ms) = standing k.world (e ∷ k.env) ms
past_term k ms = k

abbrev pub past_shape : {W E : Type 0} → Shape → E → Standing W E → Standing W E
past_shape Gamma e k = past_term k k.rest
past_shape Delta e k = standing k.world (e ∷ k.env) k.rest
past_shape h e k = k

abbrev pub choice_at : {W E : Type 0} → Chooser W E → Node → Standing W E → Choice W E
choice_at ch n k = ch.at n.sign n.formula k.env k.world

abbrev pub past_node : {W E : Type 0} → Logic → W → Chooser W E → Node → Standing W E → Standing W E
past_node l root ch n k = past_shape (shape_of n.sign n.formula) (choice_at ch n k).element (past_modal l root (modal_of l n.sign n.formula) (choice_at ch n k).goal k)

abbrev pub past_nodes : {W E : Type 0} → Logic → W → Chooser W E → List Node → Standing W E → Standing W E
past_nodes l root ch [] k = k
past_nodes l root ch (n ∷ ns) k = past_nodes l root ch ns (past_node l root ch n k)

pub nodes-append : {W E : Type 0} (l : Logic) (root : W) (ch : Chooser W E) (ns : List Node) (n : Node) (k : Standing W E) → past_nodes l root ch (ns ++ n ∷ []) k ≡ past_node l root ch n (past_nodes l root ch ns k)
nodes-append l root ch [] n k = refl
nodes-append l root ch (m ∷ ns) n k = nodes-append l root ch ns n (past_node l root ch m k)

-- what is chosen at the last node
abbrev pub last_choice : {W E : Type 0} → Logic → W → Chooser W E → E → List Node → Standing W E → Choice W E
last_choice l root ch other [] k = record { goal = root; element = other }
last_choice l root ch other (n ∷ []) k = choice_at ch n k
last_choice l root ch other (n ∷ m ∷ ns) k = last_choice l root ch other (m ∷ ns) (past_node l root ch n k)

pub choice-append : {W E : Type 0} (l : Logic) (root : W) (ch : Chooser W E) (other : E) (ns : List Node) (n : Node) (k : Standing W E) → last_choice l root ch other (ns ++ n ∷ []) k ≡ choice_at ch n (past_nodes l root ch ns k)
choice-append l root ch other [] n k = refl
choice-append l root ch other (x ∷ []) n k = refl
choice-append l root ch other (x ∷ y ∷ ns) n k = choice-append l root ch other (y ∷ ns) n (past_node l root ch x k)

-- ---- meanings

abbrev pub named_by : {W E : Type 0} → Problem → Model W E → Chooser W E → List Node → List (Meant W E) → Choice W E
named_by P S ch ns ms = last_choice P.setting.logic S.root ch S.element ns (standing S.root [] ms)

-- to the goal from each world that reaches it
abbrev pub step_by : {W E : Type 0} → Model W E → Chooser W E → W → W → W
step_by S ch goal x = if S.reaches x goal then goal else ch.next x

abbrev mutual
  pub element_of : {W E : Type 0} → Problem → Model W E → Chooser W E → GroundTerm → E
  element_of P S ch (g_fun f ts) = S.value f (elements_of P S ch ts)
  element_of P S ch (g_eigen p vs) = (named_by P S ch (way_to P p) (meanings_of P S ch vs)).element
  element_of P S ch (common k) = ch.common
  element_of P S ch (own k w) = ch.element (follow P S ch w S.root)

  pub elements_of : {W E : Type 0} → Problem → Model W E → Chooser W E → GroundTerms → List E
  elements_of P S ch no_g_terms = []
  elements_of P S ch (more_g_terms t ts) = element_of P S ch t ∷ elements_of P S ch ts

  pub step_of : {W E : Type 0} → Problem → Model W E → Chooser W E → GroundMark → W → W
  step_of P S ch (g_new_mark p vs) x = step_by S ch (named_by P S ch (way_to P p) (meanings_of P S ch vs)).goal x
  step_of P S ch (g_spare_mark k) x = ch.next x

  pub follow : {W E : Type 0} → Problem → Model W E → Chooser W E → Marks → W → W
  follow P S ch no_marks x = x
  follow P S ch (more_marks m ms) x = follow P S ch ms (step_of P S ch m x)

  pub meaning_of : {W E : Type 0} → Problem → Model W E → Chooser W E → Value → Meant W E
  meaning_of P S ch (term t) = an_element (element_of P S ch t)
  meaning_of P S ch (steps w) = a_way (follow P S ch w)

  pub meanings_of : {W E : Type 0} → Problem → Model W E → Chooser W E → Values → List (Meant W E)
  meanings_of P S ch no_values = []
  meanings_of P S ch (more_values v vs) = meaning_of P S ch v ∷ meanings_of P S ch vs

-- of lists
abbrev pub means : {W E : Type 0} → Problem → Model W E → Chooser W E → List Value → List (Meant W E)
means P S ch vs = map (meaning_of P S ch) vs

abbrev pub world_of : {W E : Type 0} → Problem → Model W E → Chooser W E → List GroundMark → W
world_of P S ch w = world_from (step_of P S ch) S.root w

abbrev pub elements : {W E : Type 0} → Problem → Model W E → Chooser W E → List GroundTerm → List E
elements P S ch env = map (element_of P S ch) env

pub means-tree : {W E : Type 0} (P : Problem) (S : Model W E) (ch : Chooser W E) (vs : List Value) → meanings_of P S ch (values_tree vs) ≡ means P S ch vs
means-tree P S ch [] = refl
means-tree P S ch (v ∷ vs) = ap (λ ms. meaning_of P S ch v ∷ ms) (means-tree P S ch vs)

pub follow-list : {W E : Type 0} (P : Problem) (S : Model W E) (ch : Chooser W E) (w : Marks) (x : W) → follow P S ch w x ≡ world_from (step_of P S ch) x (marks_list w)
follow-list P S ch no_marks x = refl
follow-list P S ch (more_marks m ms) x = follow-list P S ch ms (step_of P S ch m x)
