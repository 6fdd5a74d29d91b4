-- Changed names are admitted: their values have the same sorts, and in S4 and intuitionistic logic each string is a step.
use Rattle.std.proofs.Common.{◌≡◌, ℕ, zero, suc, List, [], ◌∷◌, ◌++◌, length, Bool, true, false, ◌&&◌, IsTrue, refl, ◌∙◌, ap, Option, Some, None, option_and_then, inl, inr}
use Rattle.std.specs.List.{list_all}
use Rattle.std.specs.Option.{option_map_or}
use Rattle.std.proofs.lemmas.Bool.{and_parts, and_from, cases_Bool, false≢true}
use Rattle.calculus.specs.declared.setting.Logic.{Logic}
use Rattle.calculus.specs.declared.kind.Shape.{Shape}
use Rattle.calculus.specs.declared.kind.Shape.TheVariants.{Alpha, Beta, Gamma, Delta, Literal}
use Rattle.calculus.specs.declared.kind.ModalPart.{ModalPart}
use Rattle.calculus.specs.declared.kind.ModalPart.TheVariants.{Plain, Nu, Pi}
use Rattle.calculus.specs.Syntax.{Problem}
use Rattle.calculus.specs.Ground.{GroundTerm, GroundTerms, GroundMark, Value, Values, g_fun, g_eigen, common, own, no_g_terms, more_g_terms, g_new_mark, g_spare_mark, term, steps, no_values, more_values, g_terms_list, marks_list, marks_tree, values_list}
use Rattle.calculus.specs.Kinds.{shape_of, modal_of}
use Rattle.calculus.specs.Lists.{marks_list-marks_tree}
use Rattle.calculus.specs.Positions.{Node}
use Rattle.calculus.specs.Skolem.{Reached, after_modal, after_shape, after_node, at_root, way_to, label_of, is_step, is_empty, fits_along, fits_way, has_function, is_delta_position, is_pi_position, is_admitted, are_admitted, is_admitted_mark, are_admitted_marks, is_admitted_value, are_admitted_values}
use Rattle.calculus.specs.Tableaux.{has_unbounded_strings}
use Rattle.calculus.proofs.SpotLaws.{proper-marks}
use Rattle.string_theory.proofs.Folding.{Names, has_step, has_eigen, folded, contexts_of, term_by, terms_by, value_by, values_by, mark_weight, mark_to, new_mark_of}
use Rattle.string_theory.proofs.FoldingLaws.{always-step}

-- ---- values of the same sorts

abbrev SameSort : Value → Value → Type 0
SameSort (term t) (term u) = Unit {0}
SameSort (steps v) (steps w) = Unit {0}
SameSort _ _ = ⊥

abbrev SameSorts : List Value → List Value → Type 0
SameSorts [] [] = Unit {0}
SameSorts (v ∷ vs) (w ∷ ws) = SameSort v w × SameSorts vs ws
SameSorts _ _ = ⊥

abbrev reached : List GroundMark → List Value → List Value → Reached
reached u taken rest = record { label = u; taken = taken; rest = rest }

-- both have come on, with values of the same sorts before them, or neither
abbrev Alike : Option Reached → Option Reached → Type 0
Alike None None = Unit {0}
Alike (Some r) (Some q) = SameSorts r.rest q.rest
Alike _ _ = ⊥

alike-modal : (l : Logic) (p : ℕ) (m : ModalPart) (u v : List GroundMark) (t s rest others : List Value) → SameSorts rest others → Alike (after_modal l p m (reached u t rest)) (after_modal l p m (reached v s others))
alike-modal l p Plain u v t s rest others h = h
alike-modal l p Nu u v t s [] [] h = tt
alike-modal l p Nu u v t s [] (y ∷ others) h = absurd h
alike-modal l p Nu u v t s (x ∷ rest) [] h = absurd h
alike-modal l p Nu u v t s (term x ∷ rest) (term y ∷ others) h = tt
alike-modal l p Nu u v t s (term x ∷ rest) (steps y ∷ others) h = absurd h.0
alike-modal l p Nu u v t s (steps x ∷ rest) (term y ∷ others) h = absurd h.0
alike-modal l p Nu u v t s (steps x ∷ rest) (steps y ∷ others) h = h.1
alike-modal l p Pi u v t s rest others h = h

alike-shape : (k : Shape) (u v : List GroundMark) (t s rest others : List Value) → SameSorts rest others → Alike (after_shape k (reached u t rest)) (after_shape k (reached v s others))
alike-shape Alpha u v t s rest others h = h
alike-shape Beta u v t s rest others h = h
alike-shape Gamma u v t s [] [] h = tt
alike-shape Gamma u v t s [] (y ∷ others) h = absurd h
alike-shape Gamma u v t s (x ∷ rest) [] h = absurd h
alike-shape Gamma u v t s (term x ∷ rest) (term y ∷ others) h = h.1
alike-shape Gamma u v t s (term x ∷ rest) (steps y ∷ others) h = absurd h.0
alike-shape Gamma u v t s (steps x ∷ rest) (term y ∷ others) h = absurd h.0
alike-shape Gamma u v t s (steps x ∷ rest) (steps y ∷ others) h = tt
alike-shape Delta u v t s rest others h = h
alike-shape Literal u v t s rest others h = h

alike-both : (k : Shape) (o q : Option Reached) → Alike o q → Alike (option_and_then (after_shape k) o) (option_and_then (after_shape k) q)
alike-both k None None h = tt
alike-both k None (Some y) h = absurd h
alike-both k (Some x) None h = absurd h
alike-both k (Some x) (Some y) h = alike-shape k x.label y.label x.taken y.taken x.rest y.rest h

-- each step of a node is a step of the logic
abbrev IsStepTo : Logic → ModalPart → Reached → Option Reached → Type 0
IsStepTo l m r None = Unit {0}
IsStepTo l m r (Some q) = IsTrue (is_step l m r q)

step-modal : (l : Logic) → has_unbounded_strings l ≡ true → (p : ℕ) (m : ModalPart) (u : List GroundMark) (t rest : List Value) → IsStepTo l m (reached u t rest) (after_modal l p m (reached u t rest))
step-modal l free p Plain u t rest = refl
step-modal l free p Nu u t [] = tt
step-modal l free p Nu u t (term x ∷ rest) = tt
step-modal l free p Nu u t (steps x ∷ rest) = always-step l free u (marks_list x)
step-modal l free p Pi u t rest = refl

step-shape : (l : Logic) (m : ModalPart) (r : Reached) (k : Shape) (u : List GroundMark) (t rest : List Value) → IsTrue (is_step l m r (reached u t rest)) → IsStepTo l m r (after_shape k (reached u t rest))
step-shape l m r Alpha u t rest h = h
step-shape l m r Beta u t rest h = h
step-shape l m r Gamma u t [] h = tt
step-shape l Plain r Gamma u t (term x ∷ rest) h = h
step-shape l Nu r Gamma u t (term x ∷ rest) h = h
step-shape l Pi r Gamma u t (term x ∷ rest) h = h
step-shape l m r Gamma u t (steps x ∷ rest) h = tt
step-shape l m r Delta u t rest h = h
step-shape l m r Literal u t rest h = h

step-both : (l : Logic) (m : ModalPart) (r : Reached) (k : Shape) (o : Option Reached) → IsStepTo l m r o → IsStepTo l m r (option_and_then (after_shape k) o)
step-both l m r k None h = tt
step-both l m r k (Some q) h = step-shape l m r k q.label q.taken q.rest h

fits-next : (l : Logic) (m : ModalPart) (r q : Reached) (go : Reached → Bool) → ((x y : Reached) → SameSorts x.rest y.rest → IsTrue (go x) → IsTrue (go y)) → (o p : Option Reached) → Alike o p → IsStepTo l m q p → IsTrue (option_map_or (λ (next : Reached). is_step l m r next && go next) o false) → IsTrue (option_map_or (λ (next : Reached). is_step l m q next && go next) p false)
fits-next l m r q go ih None None a s h = h
fits-next l m r q go ih None (Some y) a s h = absurd a
fits-next l m r q go ih (Some x) None a s h = absurd a
fits-next l m r q go ih (Some x) (Some y) a s h = and_from (is_step l m q y) (go y) s (ih x y a (and_parts (is_step l m r x) (go x) h).1)

same-empty : (vs ws : List Value) → SameSorts vs ws → IsTrue (is_empty vs) → IsTrue (is_empty ws)
same-empty [] [] h e = refl
same-empty [] (w ∷ ws) h e = absurd h
same-empty (v ∷ vs) ws h e = absurd (false≢true e)

fits-alike : (l : Logic) → has_unbounded_strings l ≡ true → (ns : List Node) (r q : Reached) → SameSorts r.rest q.rest → IsTrue (fits_along l ns r) → IsTrue (fits_along l ns q)
fits-alike l free [] r q h e = same-empty r.rest q.rest h e
fits-alike l free (n ∷ ns) r q h e =
    let m = modal_of l n.sign n.formula in
    let k = shape_of n.sign n.formula in
    fits-next l m r q (λ next. fits_along l ns next) (λ x y a g. fits-alike l free ns x y a g) (after_node l n r) (after_node l n q)
    (alike-both k (after_modal l n.position m r) (after_modal l n.position m q) (alike-modal l n.position m r.label q.label r.taken q.taken r.rest q.rest h))
    (step-both l m q k (after_modal l n.position m q) (step-modal l free n.position m q.label q.taken q.rest))
    e

values-alike : (P : Problem) (K : Names) (f : GroundMark → GroundMark) (us : List (List GroundMark)) (vs : Values) → SameSorts (values_list vs) (values_list (values_by P K f us vs))
values-alike P K f us no_values = tt
values-alike P K f [] (more_values (term t) vs) = (tt, values-alike P K f [] vs)
values-alike P K f [] (more_values (steps w) vs) = (tt, values-alike P K f [] vs)
values-alike P K f (u ∷ us) (more_values (term t) vs) = (tt, values-alike P K f us vs)
values-alike P K f (u ∷ us) (more_values (steps w) vs) = (tt, values-alike P K f us vs)

fits-change : (P : Problem) → has_unbounded_strings P.setting.logic ≡ true → (K : Names) (f : GroundMark → GroundMark) (us : List (List GroundMark)) (p : ℕ) (vs : Values) → IsTrue (fits_way P p (values_list vs)) → IsTrue (fits_way P p (values_list (values_by P K f us vs)))
fits-change P free K f us p vs h = fits-alike P.setting.logic free (way_to P p) (at_root (values_list vs)) (at_root (values_list (values_by P K f us vs))) (values-alike P K f us vs) h

-- ---- admitted names

-- the marks of the pi steps are changed into admitted ones
abbrev pub GivesAdmitted : Problem → Names → (GroundMark → GroundMark) → Type 0
GivesAdmitted P K f = (u : List GroundMark) (m : GroundMark) → IsTrue (has_step K u m) → IsTrue (is_admitted_mark P (f m))

folded-admitted : (P : Problem) (K : Names) (f : GroundMark → GroundMark) → GivesAdmitted P K f → (u s : List GroundMark) → IsTrue (list_all (is_admitted_mark P) (folded K f u s))
folded-admitted P K f h u [] = refl
folded-admitted P K f h u (m ∷ s) = elim (cases_Bool (has_step K u m)) [
  | inl e ↦ rw e (and_from (is_admitted_mark P (f m)) (list_all (is_admitted_mark P) (folded K f (u ++ m ∷ []) s)) (h u m e) (folded-admitted P K f h (u ++ m ∷ []) s))
  | inr e ↦ rw e (folded-admitted P K f h (u ++ m ∷ []) s)
]

string-admitted : (P : Problem) (K : Names) (f : GroundMark → GroundMark) → GivesAdmitted P K f → (u s : List GroundMark) → IsTrue (are_admitted_marks P (marks_tree (folded K f u s)))
string-admitted P K f h u s = proper-marks P (marks_tree (folded K f u s)) ∙ ap (list_all (is_admitted_mark P)) (marks_list-marks_tree (folded K f u s)) ∙ folded-admitted P K f h u s

length-terms : (P : Problem) (K : Names) (f : GroundMark → GroundMark) (ts : GroundTerms) → length (g_terms_list (terms_by P K f ts)) ≡ length (g_terms_list ts)
length-terms P K f no_g_terms = refl
length-terms P K f (more_g_terms t ts) = ap (λ n. suc n) (length-terms P K f ts)

pub record Ready (P : Problem) (K : Names) (f : GroundMark → GroundMark) : Type 0 where
  pub free : has_unbounded_strings P.setting.logic ≡ true
  pub marks : GivesAdmitted P K f

named-admitted : (P : Problem) (b c : Bool) (p : ℕ) (vs ws : Values) → IsTrue (b && fits_way P p (values_list vs) && are_admitted_values P vs) → (IsTrue (fits_way P p (values_list vs)) → IsTrue (fits_way P p (values_list ws))) → (IsTrue (are_admitted_values P vs) → IsTrue (are_admitted_values P ws)) → IsTrue (b && fits_way P p (values_list ws) && are_admitted_values P ws)
named-admitted P b c p vs ws h fits all =
    let outer = and_parts (b && fits_way P p (values_list vs)) (are_admitted_values P vs) h in
    let inner = and_parts b (fits_way P p (values_list vs)) outer.0 in
    and_from (b && fits_way P p (values_list ws)) (are_admitted_values P ws) (and_from b (fits_way P p (values_list ws)) inner.0 (fits inner.1)) (all outer.1)

mutual
  term-admitted : (P : Problem) (K : Names) (f : GroundMark → GroundMark) → Ready P K f → (t : GroundTerm) → IsTrue (is_admitted P t) → IsTrue (is_admitted P (term_by P K f t))
  term-admitted P K f r (g_fun g ts) h =
      let parts = and_parts (has_function P.symbols g (length (g_terms_list ts))) (are_admitted P ts) h in
      and_from (has_function P.symbols g (length (g_terms_list (terms_by P K f ts)))) (are_admitted P (terms_by P K f ts)) (ap (has_function P.symbols g) (length-terms P K f ts) ∙ parts.0) (terms-admitted P K f r ts parts.1)
  term-admitted P K f r (g_eigen p vs) h = elim (cases_Bool (has_eigen K (g_eigen p vs))) [
    | inl e ↦ rw e (named-admitted P (is_delta_position P p) true p vs (values_by P K f (contexts_of P p (values_list vs)) vs) h (fits-change P r.free K f (contexts_of P p (values_list vs)) p vs) (values-admitted P K f r (contexts_of P p (values_list vs)) vs))
    | inr e ↦ rw e (string-admitted P K f r.marks [] (label_of P p (values_list vs)))
  ]
  term-admitted P K f r (common k) h = refl
  term-admitted P K f r (own k w) h = string-admitted P K f r.marks [] (marks_list w)

  terms-admitted : (P : Problem) (K : Names) (f : GroundMark → GroundMark) → Ready P K f → (ts : GroundTerms) → IsTrue (are_admitted P ts) → IsTrue (are_admitted P (terms_by P K f ts))
  terms-admitted P K f r no_g_terms h = refl
  terms-admitted P K f r (more_g_terms t ts) h =
      let parts = and_parts (is_admitted P t) (are_admitted P ts) h in
      and_from (is_admitted P (term_by P K f t)) (are_admitted P (terms_by P K f ts)) (term-admitted P K f r t parts.0) (terms-admitted P K f r ts parts.1)

  pub value-admitted : (P : Problem) (K : Names) (f : GroundMark → GroundMark) → Ready P K f → (u : List GroundMark) (v : Value) → IsTrue (is_admitted_value P v) → IsTrue (is_admitted_value P (value_by P K f u v))
  value-admitted P K f r u (term t) h = term-admitted P K f r t h
  value-admitted P K f r u (steps w) h = string-admitted P K f r.marks u (marks_list w)

  values-admitted : (P : Problem) (K : Names) (f : GroundMark → GroundMark) → Ready P K f → (us : List (List GroundMark)) (vs : Values) → IsTrue (are_admitted_values P vs) → IsTrue (are_admitted_values P (values_by P K f us vs))
  values-admitted P K f r us no_values h = refl
  values-admitted P K f r [] (more_values v vs) h =
      let parts = and_parts (is_admitted_value P v) (are_admitted_values P vs) h in
      and_from (is_admitted_value P (value_by P K f [] v)) (are_admitted_values P (values_by P K f [] vs)) (value-admitted P K f r [] v parts.0) (values-admitted P K f r [] vs parts.1)
  values-admitted P K f r (u ∷ us) (more_values v vs) h =
      let parts = and_parts (is_admitted_value P v) (are_admitted_values P vs) h in
      and_from (is_admitted_value P (value_by P K f u v)) (are_admitted_values P (values_by P K f us vs)) (value-admitted P K f r u v parts.0) (values-admitted P K f r us vs parts.1)

-- ---- marks changed down to any depth

-- the pi steps have admitted marks
abbrev pub AreAdmitted : Problem → Names → Type 0
AreAdmitted P K = GivesAdmitted P K (λ m. m)

depth-admitted : (P : Problem) → has_unbounded_strings P.setting.logic ≡ true → (K : Names) → AreAdmitted P K → (n : ℕ) → GivesAdmitted P K (mark_to P K n)
depth-admitted P free K a zero u m h = a u m h
depth-admitted P free K a (suc n) u (g_spare_mark k) h = refl
depth-admitted P free K a (suc n) u (g_new_mark p vs) h =
    let us = contexts_of P p (values_list vs) in
    named-admitted P (is_pi_position P p) true p vs (values_by P K (mark_to P K n) us vs) (a u (g_new_mark p vs) h) (fits-change P free K (mark_to P K n) us p vs) (values-admitted P K (mark_to P K n) (record { free = free; marks = depth-admitted P free K a n }) us vs)

pub new_mark-admitted : (P : Problem) → has_unbounded_strings P.setting.logic ≡ true → (K : Names) → AreAdmitted P K → GivesAdmitted P K (new_mark_of P K)
new_mark-admitted P free K a u m h = depth-admitted P free K a (mark_weight m) u m h
