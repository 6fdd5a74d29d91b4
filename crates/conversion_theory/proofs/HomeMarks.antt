-- The marks of a home: those in the strings among the values, and those that the values taken so far make.
use Rattle.std.proofs.Common.{◌≡◌, ℕ, List, [], ◌∷◌, ◌++◌, Option, Some, None, option_and_then, refl, sym, ◌∙◌, ap, subst, inl, inr, append_assoc}
use Rattle.std.specs.Option.{option_map_or}
use Rattle.calculus.specs.declared.setting.Logic.{Logic}
use Rattle.calculus.specs.declared.setting.Logic.TheVariants.{S5}
use Rattle.calculus.specs.declared.kind.Shape.{Shape}
use Rattle.calculus.specs.declared.kind.Shape.TheVariants.{Gamma}
use Rattle.calculus.specs.declared.kind.ModalPart.{ModalPart}
use Rattle.calculus.specs.declared.kind.ModalPart.TheVariants.{Plain, Nu, Pi}
use Rattle.calculus.specs.Syntax.{Problem}
use Rattle.calculus.specs.Ground.{GroundMark, Marks, Value, term, steps, g_new_mark, marks_list, values_tree}
use Rattle.calculus.specs.Kinds.{shape_of, modal_of}
use Rattle.calculus.specs.Positions.{Node}
use Rattle.calculus.specs.Labels.{nu_label, pi_label}
use Rattle.calculus.specs.Skolem.{Reached, take_string, after_modal, take_term, after_shape, after_node, label_along, at_root, way_to, label_of}
use Rattle.calculus.proofs.Members.{Among, among-append}

-- each mark of the label is such a one
abbrev pub Each : (GroundMark → Type 0) → List GroundMark → Type 0
Each W w = (m : GroundMark) → Among w m → W m

each-append : (W : GroundMark → Type 0) (w v : List GroundMark) → Each W w → Each W v → Each W (w ++ v)
each-append W w v h k m i = elim (among-append w v m i) [ inl p ↦ h m p | inr p ↦ k m p ]

each-one : (W : GroundMark → Type 0) (x : GroundMark) → W x → Each W (x ∷ [])
each-one W x h m (inl e) = subst W e h
each-one W x h m (inr i) = elim i [ ]

each-nu : (W : GroundMark → Type 0) (l : Logic) (w v : List GroundMark) → Each W w → Each W v → Each W (nu_label l w v)
each-nu W S5 w v h k = k
each-nu W _ w v h k = each-append W w v h k

each-pi : (W : GroundMark → Type 0) (l : Logic) (w : List GroundMark) (m : GroundMark) → Each W w → W m → Each W (pi_label l w m)
each-pi W S5 w m h k = each-one W m k
each-pi W _ w m h k = each-append W w (m ∷ []) h (each-one W m k)

-- so are the marks of strings among the values, and those that the values taken make
pub record AreSuch (W : GroundMark → Type 0) (vs : List Value) : Type 0 where
  pub given : (us ws : List Value) (s : Marks) → us ++ steps s ∷ ws ≡ vs → Each W (marks_list s)
  pub made : (q : ℕ) (us ws : List Value) → us ++ ws ≡ vs → W (g_new_mark q (values_tree us))

-- the values taken and those that are left are the same all the way
record Walks (W : GroundMark → Type 0) (vs : List Value) (r : Reached) : Type 0 where
  values : r.taken ++ r.rest ≡ vs
  label : Each W r.label

abbrev OnReached : (Reached → Type 0) → Option Reached → Type 0
OnReached F None = Unit {0}
OnReached F (Some r) = F r

module _ (W : GroundMark → Type 0) (vs : List Value) (such : AreSuch W vs) where
  walks-string : (l : Logic) (r : Reached) → Walks W vs r → (us : List Value) → r.rest ≡ us → OnReached (Walks W vs) (take_string l r us)
  walks-string l r h [] e = tt
  walks-string l r h (term t ∷ us) e = tt
  walks-string l r h (steps s ∷ us) e =
      let joined : r.taken ++ steps s ∷ us ≡ vs = ap (λ x. r.taken ++ x) (sym e) ∙ h.values in
      record {
        values = append_assoc r.taken (steps s ∷ []) us ∙ joined;
        label = each-nu W l r.label (marks_list s) h.label (such.given r.taken us s joined);
      }

  walks-modal : (l : Logic) (p : ℕ) (m : ModalPart) (r : Reached) → Walks W vs r → OnReached (Walks W vs) (after_modal l p m r)
  walks-modal l p Plain r h = h
  walks-modal l p Nu r h = walks-string l r h r.rest refl
  walks-modal l p Pi r h = record { values = h.values; label = each-pi W l r.label (g_new_mark p (values_tree r.taken)) h.label (such.made p r.taken r.rest h.values) }

  walks-term : (r : Reached) → Walks W vs r → (us : List Value) → r.rest ≡ us → OnReached (Walks W vs) (take_term r us)
  walks-term r h [] e = tt
  walks-term r h (steps s ∷ us) e = tt
  walks-term r h (term t ∷ us) e = record { values = append_assoc r.taken (term t ∷ []) us ∙ ap (λ x. r.taken ++ x) (sym e) ∙ h.values; label = h.label }

  walks-shape : (s : Shape) (r : Reached) → Walks W vs r → OnReached (Walks W vs) (after_shape s r)
  walks-shape Gamma r h = walks-term r h r.rest refl
  walks-shape _ r h = h

  walks-both : (s : Shape) (o : Option Reached) → OnReached (Walks W vs) o → OnReached (Walks W vs) (option_and_then (after_shape s) o)
  walks-both s None h = tt
  walks-both s (Some r) h = walks-shape s r h

  walks-node : (l : Logic) (n : Node) (r : Reached) → Walks W vs r → OnReached (Walks W vs) (after_node l n r)
  walks-node l n r h = walks-both (shape_of n.sign n.formula) (after_modal l n.position (modal_of l n.sign n.formula) r) (walks-modal l n.position (modal_of l n.sign n.formula) r h)

  each-option : (l : Logic) (ns : List Node) (r : Reached) → Walks W vs r → ((next : Reached) → Walks W vs next → Each W (label_along l ns next)) → (o : Option Reached) → OnReached (Walks W vs) o → Each W (option_map_or (λ (next : Reached). label_along l ns next) o r.label)
  each-option l ns r h rest None k = h.label
  each-option l ns r h rest (Some next) k = rest next k

  each-along : (l : Logic) (ns : List Node) (r : Reached) → Walks W vs r → Each W (label_along l ns r)
  each-along l [] r h = h.label
  each-along l (n ∷ ns) r h = each-option l ns r h (λ next k. each-along l ns next k) (after_node l n r) (walks-node l n r h)

  -- then each mark of the label at a position is
  pub each-label : (P : Problem) (p : ℕ) → Each W (label_of P p vs)
  each-label P p = each-along P.setting.logic (way_to P p) (at_root vs) (record { values = refl; label = λ m i. elim i [ ] })
