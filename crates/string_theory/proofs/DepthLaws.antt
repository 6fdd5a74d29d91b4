-- A mark that is changed as deep as it weighs stays as it is: the change of marks is a fixed point.
use Rattle.std.proofs.Common.{◌≡◌, ℕ, zero, suc, ◌+◌, ◌≤◌, List, [], ◌∷◌, ◌++◌, true, refl, sym, ◌∙◌, ap, subst, Option, Some, None, option_and_then, inl, inr, arith}
use Rattle.std.specs.List.{AllByRecursion}
use Rattle.std.specs.Option.{option_map_or}
use Rattle.std.proofs.lemmas.Bool.{cases_Bool}
use Rattle.calculus.specs.declared.setting.Logic.{Logic}
use Rattle.calculus.specs.declared.kind.Shape.{Shape}
use Rattle.calculus.specs.declared.kind.Shape.TheVariants.{Alpha, Beta, Gamma, Delta, Literal}
use Rattle.calculus.specs.declared.kind.ModalPart.{ModalPart}
use Rattle.calculus.specs.declared.kind.ModalPart.TheVariants.{Plain, Nu, Pi}
use Rattle.calculus.specs.Syntax.{Problem}
use Rattle.calculus.specs.Ground.{GroundTerm, GroundTerms, GroundMark, Marks, Value, Values, g_fun, g_eigen, common, own, no_g_terms, more_g_terms, g_new_mark, g_spare_mark, no_marks, more_marks, term, steps, no_values, more_values, marks_list, marks_tree, values_list, values_tree}
use Rattle.calculus.specs.Kinds.{shape_of, modal_of}
use Rattle.calculus.specs.Lists.{values_tree-values_list}
use Rattle.calculus.specs.Positions.{Node}
use Rattle.calculus.specs.Labels.{nu_label}
use Rattle.calculus.specs.Skolem.{Reached, after_modal, after_shape, after_node, label_along, at_root, way_to, label_of}
use Rattle.calculus.specs.Tableaux.{has_unbounded_strings}
use Rattle.string_theory.proofs.Folding.{Names, has_step, has_eigen, folded, contexts_of, term_by, terms_by, value_by, values_by, term_weight, terms_weight, mark_weight, marks_weight, value_weight, values_weight, mark_to, new_mark_of}
use Rattle.string_theory.proofs.FoldingLaws.{goes-on, pi-goes_on}
use Rattle.string_theory.proofs.SpotChanges.{IsFixed}

-- ---- how much stands in a label

abbrev IsLight : ℕ → GroundMark → Type 0
IsLight n m = mark_weight m ≤ n

abbrev AreLight : ℕ → List GroundMark → Type 0
AreLight n w = AllByRecursion (IsLight n) w

abbrev weight_of : List Value → ℕ
weight_of vs = values_weight (values_tree vs)

light-append : (n : ℕ) (v w : List GroundMark) → AreLight n v → AreLight n w → AreLight n (v ++ w)
light-append n [] w h k = k
light-append n (m ∷ v) w h k = (h.0, light-append n v w h.1 k)

light-marks : (n : ℕ) (w : Marks) → marks_weight w ≤ n → AreLight n (marks_list w)
light-marks n no_marks h = tt
light-marks n (more_marks m w) h = (omega (arith, h), light-marks n w (omega (arith, h)))

weight-more : (vs : List Value) (v : Value) → weight_of (vs ++ v ∷ []) ≡ weight_of vs + value_weight v
weight-more [] v = omega arith
weight-more (x ∷ vs) v = let h = weight-more vs v in omega (arith, h)

record Light (n : ℕ) (r : Reached) : Type 0 where
  label : AreLight n r.label
  values : suc (weight_of r.taken + weight_of r.rest) ≤ n

abbrev OnReached : (Reached → Type 0) → Option Reached → Type 0
OnReached G None = Unit {0}
OnReached G (Some r) = G r

light-nu : (l : Logic) → has_unbounded_strings l ≡ true → (n : ℕ) (u : List GroundMark) (taken rest : List Value) (w : Marks) → Light n (record { label = u; taken = taken; rest = steps w ∷ rest }) → Light n (record { label = nu_label l u (marks_list w); taken = taken ++ steps w ∷ []; rest = rest })
light-nu l free n u taken rest w h = record {
  label = let v = h.values in subst (AreLight n) (sym (goes-on l free u (marks_list w))) (light-append n u (marks_list w) h.label (light-marks n w (omega (arith, v))));
  values = let v = h.values in let e = weight-more taken (steps w) in omega (arith, v, e);
}

light-term : (n : ℕ) (u : List GroundMark) (taken rest : List Value) (t : GroundTerm) → Light n (record { label = u; taken = taken; rest = term t ∷ rest }) → Light n (record { label = u; taken = taken ++ term t ∷ []; rest = rest })
light-term n u taken rest t h = record { label = h.label; values = let v = h.values in let e = weight-more taken (term t) in omega (arith, v, e) }

light-modal : (l : Logic) → has_unbounded_strings l ≡ true → (n p : ℕ) (m : ModalPart) (u : List GroundMark) (taken rest : List Value) → Light n (record { label = u; taken = taken; rest = rest }) → OnReached (Light n) (after_modal l p m (record { label = u; taken = taken; rest = rest }))
light-modal l free n p Plain u taken rest h = h
light-modal l free n p Nu u taken [] h = tt
light-modal l free n p Nu u taken (term t ∷ rest) h = tt
light-modal l free n p Nu u taken (steps w ∷ rest) h = light-nu l free n u taken rest w h
light-modal l free n p Pi u taken rest h = record {
  label = let v = h.values in subst (AreLight n) (sym (pi-goes_on l free u (g_new_mark p (values_tree taken)))) (light-append n u (g_new_mark p (values_tree taken) ∷ []) h.label (omega (arith, v), tt));
  values = h.values;
}

light-shape : (n : ℕ) (s : Shape) (u : List GroundMark) (taken rest : List Value) → Light n (record { label = u; taken = taken; rest = rest }) → OnReached (Light n) (after_shape s (record { label = u; taken = taken; rest = rest }))
light-shape n Alpha u taken rest h = h
light-shape n Beta u taken rest h = h
light-shape n Gamma u taken [] h = tt
light-shape n Gamma u taken (term t ∷ rest) h = light-term n u taken rest t h
light-shape n Gamma u taken (steps w ∷ rest) h = tt
light-shape n Delta u taken rest h = h
light-shape n Literal u taken rest h = h

light-both : (n : ℕ) (s : Shape) (o : Option Reached) → OnReached (Light n) o → OnReached (Light n) (option_and_then (after_shape s) o)
light-both n s None h = tt
light-both n s (Some r) h = light-shape n s r.label r.taken r.rest h

light-next : (n : ℕ) (u : List GroundMark) (go : Reached → List GroundMark) → AreLight n u → ((q : Reached) → Light n q → AreLight n (go q)) → (o : Option Reached) → OnReached (Light n) o → AreLight n (option_map_or go o u)
light-next n u go h ih None k = h
light-next n u go h ih (Some q) k = ih q k

light-along : (l : Logic) → has_unbounded_strings l ≡ true → (n : ℕ) (ns : List Node) (r : Reached) → Light n r → AreLight n (label_along l ns r)
light-along l free n [] r h = h.label
light-along l free n (x ∷ ns) r h = light-next n r.label (λ (k : Reached). label_along l ns k) h.label (λ q k. light-along l free n ns q k) (after_node l x r) (light-both n (shape_of x.sign x.formula) (after_modal l x.position (modal_of l x.sign x.formula) r) (light-modal l free n x.position (modal_of l x.sign x.formula) r.label r.taken r.rest h))

light-home : (P : Problem) → has_unbounded_strings P.setting.logic ≡ true → (n p : ℕ) (vs : Values) → suc (values_weight vs) ≤ n → AreLight n (label_of P p (values_list vs))
light-home P free n p vs h = light-along P.setting.logic free n (way_to P p) (at_root (values_list vs)) (record { label = tt; values = let e : values_weight (values_tree (values_list vs)) ≡ values_weight vs = ap values_weight (values_tree-values_list vs) in omega (arith, e, h) })

-- ---- changes that agree on light marks agree on what has light marks alone

abbrev Agree : ℕ → (GroundMark → GroundMark) → (GroundMark → GroundMark) → Type 0
Agree n f g = (m : GroundMark) → mark_weight m ≤ n → f m ≡ g m

folded-same : (K : Names) (n : ℕ) (f g : GroundMark → GroundMark) → Agree n f g → (u s : List GroundMark) → AreLight n s → folded K f u s ≡ folded K g u s
folded-same K n f g h u [] k = refl
folded-same K n f g h u (m ∷ s) k = elim (cases_Bool (has_step K u m)) [
  | inl e ↦ rw e (λ i. h m k.0 i ∷ folded-same K n f g h (u ++ m ∷ []) s k.1 i)
  | inr e ↦ rw e (folded-same K n f g h (u ++ m ∷ []) s k.1)
]

mutual
  term-same : (P : Problem) → has_unbounded_strings P.setting.logic ≡ true → (K : Names) (n : ℕ) (f g : GroundMark → GroundMark) → Agree n f g → (t : GroundTerm) → term_weight t ≤ n → term_by P K f t ≡ term_by P K g t
  term-same P free K n f g h (g_fun q ts) k = ap (g_fun q) (terms-same P free K n f g h ts k)
  term-same P free K n f g h (g_eigen p vs) k = elim (cases_Bool (has_eigen K (g_eigen p vs))) [
    | inl e ↦ rw e (ap (g_eigen p) (values-same P free K n f g h (contexts_of P p (values_list vs)) vs (omega (arith, k))))
    | inr e ↦ rw e (ap (λ w. own 0 (marks_tree w)) (folded-same K n f g h [] (label_of P p (values_list vs)) (light-home P free n p vs k)))
  ]
  term-same P free K n f g h (common j) k = refl
  term-same P free K n f g h (own j w) k = ap (λ v. own j (marks_tree v)) (folded-same K n f g h [] (marks_list w) (light-marks n w k))

  terms-same : (P : Problem) → has_unbounded_strings P.setting.logic ≡ true → (K : Names) (n : ℕ) (f g : GroundMark → GroundMark) → Agree n f g → (ts : GroundTerms) → terms_weight ts ≤ n → terms_by P K f ts ≡ terms_by P K g ts
  terms-same P free K n f g h no_g_terms k = refl
  terms-same P free K n f g h (more_g_terms t ts) k = λ i. more_g_terms (term-same P free K n f g h t (omega (arith, k)) i) (terms-same P free K n f g h ts (omega (arith, k)) i)

  value-same : (P : Problem) → has_unbounded_strings P.setting.logic ≡ true → (K : Names) (n : ℕ) (f g : GroundMark → GroundMark) → Agree n f g → (u : List GroundMark) (v : Value) → value_weight v ≤ n → value_by P K f u v ≡ value_by P K g u v
  value-same P free K n f g h u (term t) k = ap {B = Value} term (term-same P free K n f g h t k)
  value-same P free K n f g h u (steps w) k = ap (λ v. steps (marks_tree v)) (folded-same K n f g h u (marks_list w) (light-marks n w k))

  values-same : (P : Problem) → has_unbounded_strings P.setting.logic ≡ true → (K : Names) (n : ℕ) (f g : GroundMark → GroundMark) → Agree n f g → (us : List (List GroundMark)) (vs : Values) → values_weight vs ≤ n → values_by P K f us vs ≡ values_by P K g us vs
  values-same P free K n f g h us no_values k = refl
  values-same P free K n f g h [] (more_values v vs) k = λ i. more_values (value-same P free K n f g h [] v (omega (arith, k)) i) (values-same P free K n f g h [] vs (omega (arith, k)) i)
  values-same P free K n f g h (u ∷ us) (more_values v vs) k = λ i. more_values (value-same P free K n f g h u v (omega (arith, k)) i) (values-same P free K n f g h us vs (omega (arith, k)) i)

-- ---- depth

spare-stays : (P : Problem) (K : Names) (a k : ℕ) → mark_to P K a (g_spare_mark k) ≡ g_spare_mark k
spare-stays P K zero k = refl
spare-stays P K (suc a) k = refl

depths-agree : (P : Problem) → has_unbounded_strings P.setting.logic ≡ true → (K : Names) (n a b : ℕ) → n ≤ a → n ≤ b → Agree n (mark_to P K a) (mark_to P K b)
depths-agree P free K n a b p q (g_spare_mark k) h = spare-stays P K a k ∙ sym (spare-stays P K b k)
depths-agree P free K zero a b p q (g_new_mark x vs) h = absurd (omega (arith, h))
depths-agree P free K (suc n) zero b p q (g_new_mark x vs) h = absurd (omega (arith, p))
depths-agree P free K (suc n) (suc a) zero p q (g_new_mark x vs) h = absurd (omega (arith, q))
depths-agree P free K (suc n) (suc a) (suc b) p q (g_new_mark x vs) h = ap (g_new_mark x) (values-same P free K n (mark_to P K a) (mark_to P K b) (depths-agree P free K n a b (omega (arith, p)) (omega (arith, q))) (contexts_of P x (values_list vs)) vs (omega (arith, h)))

pub new_mark-fixed : (P : Problem) → has_unbounded_strings P.setting.logic ≡ true → (K : Names) → IsFixed P K (new_mark_of P K)
new_mark-fixed P free K (g_spare_mark k) = spare-stays P K 0 k
new_mark-fixed P free K (g_new_mark p vs) = ap (g_new_mark p) (values-same P free K (values_weight vs) (mark_to P K (values_weight vs)) (new_mark_of P K) (λ m h. depths-agree P free K (mark_weight m) (values_weight vs) (mark_weight m) h (omega arith) m (omega arith)) (contexts_of P p (values_list vs)) vs (omega arith))
