-- A place and its change: both stand at the same signed formula, step by step.
use Rattle.std.proofs.Common.{◌≡◌, ℕ, ◌+◌, List, [], ◌∷◌, ◌++◌, map, length, true, false, IsTrue, refl, sym, ◌∙◌, ap, subst, Some, option_and_then, arith, append_assoc, append-nil, add_assoc}
use Rattle.std.specs.List.{list_all}
use Rattle.std.specs.Option.{option_map_or}
use Rattle.std.proofs.lemmas.Bool.{and_from, false≢true}
use Rattle.plain_laws.proofs.Every.{all-append}
use Rattle.plain_laws.proofs.Lists.{length-last}
use Rattle.calculus.specs.declared.sign.Sign.{Sign}
use Rattle.calculus.specs.declared.sign.Sign.TheVariants.{F}
use Rattle.calculus.specs.declared.kind.Shape.{Shape}
use Rattle.calculus.specs.declared.kind.Shape.TheVariants.{Gamma, Delta}
use Rattle.calculus.specs.declared.kind.ModalPart.{ModalPart}
use Rattle.calculus.specs.declared.kind.ModalPart.TheVariants.{Plain, Nu, Pi}
use Rattle.calculus.specs.Syntax.{Formula, Problem}
use Rattle.calculus.specs.Ground.{GroundTerm, GroundMark, Marks, Value, g_new_mark, term, steps, marks_list, marks_tree, values_list, values_tree}
use Rattle.calculus.specs.Equality.{mark_eq}
use Rattle.calculus.specs.Kinds.{shape_of, modal_of}
use Rattle.calculus.specs.Positions.{Node, node, way_from, way}
use Rattle.calculus.specs.Labels.{steps_to, nu_label, pi_label}
use Rattle.calculus.specs.Lists.{marks_list-marks_tree, values_list-values_tree, values_tree-values_list}
use Rattle.calculus.specs.Skolem.{Reached, after_modal, after_shape, after_node, at_root, is_admitted_value}
use Rattle.calculus.specs.Instances.{Spot, after_string, after_character, spot_inside, down_by}
use Rattle.calculus.specs.ComputedInstances.{reached_at}
use Rattle.calculus.specs.Tableaux.{has_unbounded_strings}
use Rattle.calculus.proofs.SpotLaws.{LeadsTo, LeadsTo-append, Stands, Halfway, is_gamma, after_node-by, after_shape-plain, way-here}
use Rattle.calculus.proofs.InstanceLaws.{WayDown, component-stands, is_step-label}
use Rattle.string_theory.proofs.Folding.{Names, has_step, folded, string_use, term_use, contexts_along, contexts_of, term_by, value_by, values_by, mark_by, new_taken, new_spot}
use Rattle.string_theory.proofs.FoldingLaws.{folded-append, folded-step, always-step, goes-on, pi-goes_on}
use Rattle.string_theory.proofs.PlaceLaws.{contexts-LeadsTo}

-- one value more
pub taken-more : (P : Problem) (K : Names) (f : GroundMark → GroundMark) (us : List (List GroundMark)) (vs : List Value) (u : List GroundMark) (v : Value) → length us ≡ length vs → new_taken P K f (us ++ u ∷ []) (vs ++ v ∷ []) ≡ new_taken P K f us vs ++ value_by P K f u v ∷ []
taken-more P K f [] [] u v e = refl
taken-more P K f [] (x ∷ vs) u v e = absurd (omega (arith, e))
taken-more P K f (y ∷ us) [] u v e = absurd (omega (arith, e))
taken-more P K f (y ∷ us) (x ∷ vs) u v e = ap (λ ws. value_by P K f y x ∷ ws) (taken-more P K f us vs u v (omega (arith, e)))

-- the place c with the contexts us of its values, and its change
pub record Placed (P : Problem) (K : Names) (f : GroundMark → GroundMark) (before : List Node) (us : List (List GroundMark)) (c : Spot) (s : Sign) (g : Formula) : Type 0 where
  pub stands : Stands P before c s g
  pub moved : Stands P before (new_spot P K f us c) s g
  pub contexts : (rest : List Value) → contexts_along P.setting.logic before (at_root (c.taken ++ rest)) ≡ us
  pub as_many : length us ≡ length c.taken
  pub proper : IsTrue (list_all (is_admitted_value P) c.taken)

-- the same past the modal part
pub record Between (P : Problem) (K : Names) (f : GroundMark → GroundMark) (before : List Node) (us : List (List GroundMark)) (d : Spot) (s : Sign) (g : Formula) (m : ModalPart) : Type 0 where
  pub half : Halfway P before d s g m
  pub moved : Halfway P before (new_spot P K f us d) s g m
  pub contexts : (rest : List Value) → contexts_along P.setting.logic before (at_root (d.taken ++ rest)) ++ string_use m (half.comes rest).0.label ≡ us
  pub as_many : length us ≡ length d.taken
  pub proper : IsTrue (list_all (is_admitted_value P) d.taken)

-- ---- the modal part

abbrev pub plain-half : (P : Problem) (before : List Node) (c : Spot) (s : Sign) (g : Formula) → Stands P before c s g → Halfway P before c s g Plain
plain-half P before c s g h = record { in_way = h.in_way; comes = λ rest. (reached_at c rest, h.comes rest, refl, refl) }

pub placed-plain : (P : Problem) (K : Names) (f : GroundMark → GroundMark) (before : List Node) (us : List (List GroundMark)) (c : Spot) (s : Sign) (g : Formula) → Placed P K f before us c s g → Between P K f before us c s g Plain
placed-plain P K f before us c s g h = record {
  half = plain-half P before c s g h.stands;
  moved = plain-half P before (new_spot P K f us c) s g h.moved;
  contexts = λ rest. append-nil (contexts_along P.setting.logic before (at_root (c.taken ++ rest))) ∙ h.contexts rest;
  as_many = h.as_many;
  proper = h.proper;
}

abbrev pub nu-half : (P : Problem) (before : List Node) (c : Spot) (s : Sign) (g : Formula) (w : Marks) → IsTrue (steps_to mark_eq P.setting.logic c.label (nu_label P.setting.logic c.label (marks_list w))) → Stands P before c s g → Halfway P before (after_string P.setting.logic w c) s g Nu
nu-half P before c s g w step h = record {
  in_way = h.in_way;
  comes = λ rest. (reached_at c (steps w ∷ rest), subst (λ vs. LeadsTo P.setting.logic before (at_root vs) (reached_at c (steps w ∷ rest))) (sym (append_assoc c.taken (steps w ∷ []) rest)) (h.comes (steps w ∷ rest)), refl, step);
}

-- what becomes of the string w at the place c
abbrev pub new_string : Names → (GroundMark → GroundMark) → Spot → Marks → Marks
new_string K f c w = marks_tree (folded K f c.label (marks_list w))

pub string-change : (P : Problem) (K : Names) (f : GroundMark → GroundMark) (us : List (List GroundMark)) (c : Spot) (w : Marks) → has_unbounded_strings P.setting.logic ≡ true → length us ≡ length c.taken → after_string P.setting.logic (new_string K f c w) (new_spot P K f us c) ≡ new_spot P K f (us ++ c.label ∷ []) (after_string P.setting.logic w c)
string-change P K f us c w free e =
    let l = P.setting.logic in
    let left : nu_label l (folded K f [] c.label) (marks_list (new_string K f c w)) ≡ folded K f [] (nu_label l c.label (marks_list w)) =
    goes-on l free (folded K f [] c.label) (marks_list (new_string K f c w))
    ∙ ap (λ x. folded K f [] c.label ++ x) (marks_list-marks_tree (folded K f c.label (marks_list w)))
    ∙ sym (folded-append K f [] c.label (marks_list w))
    ∙ ap (folded K f []) (sym (goes-on l free c.label (marks_list w))) in
    λ i. record { position = c.position; label = left i; taken = sym (taken-more P K f us c.taken c.label (steps w) e) i; env = map (term_by P K f) c.env }

pub placed-nu : (P : Problem) (K : Names) (f : GroundMark → GroundMark) (before : List Node) (us : List (List GroundMark)) (c : Spot) (s : Sign) (g : Formula) (w : Marks) → has_unbounded_strings P.setting.logic ≡ true → IsTrue (steps_to mark_eq P.setting.logic c.label (nu_label P.setting.logic c.label (marks_list w))) → IsTrue (is_admitted_value P (steps w)) → Placed P K f before us c s g → Between P K f before (us ++ c.label ∷ []) (after_string P.setting.logic w c) s g Nu
placed-nu P K f before us c s g w free step good h =
    let l = P.setting.logic in
    record {
      half = nu-half P before c s g w step h.stands;
      moved = subst (λ d. Halfway P before d s g Nu) (string-change P K f us c w free h.as_many) (nu-half P before (new_spot P K f us c) s g (new_string K f c w) (always-step l free (folded K f [] c.label) (marks_list (new_string K f c w))) h.moved);
      contexts = λ rest. ap (λ vs. contexts_along l before (at_root vs) ++ c.label ∷ []) (append_assoc c.taken (steps w ∷ []) rest) ∙ ap (λ x. x ++ c.label ∷ []) (h.contexts (steps w ∷ rest));
      as_many = let a = length-last us c.label in let b = length-last c.taken (steps w) in let e = h.as_many in omega (arith, a, b, e);
      proper = all-append (is_admitted_value P) c.taken (steps w ∷ []) h.proper (and_from (is_admitted_value P (steps w)) true good refl);
    }

abbrev pub pi-half : (P : Problem) (before : List Node) (c : Spot) (s : Sign) (g : Formula) → Stands P before c s g → Halfway P before (after_character P.setting.logic c) s g Pi
pi-half P before c s g h = record { in_way = h.in_way; comes = λ rest. (reached_at c rest, h.comes rest, refl, refl) }

-- the contexts of the values taken so far, as the position itself has them
pub contexts-here : (P : Problem) (before : List Node) (us : List (List GroundMark)) (d : Spot) (s : Sign) (g : Formula) (m : ModalPart) → modal_of P.setting.logic s g ≡ m → is_gamma (shape_of s g) ≡ false → (half : Halfway P before d s g m) → contexts_along P.setting.logic before (at_root (d.taken ++ [])) ++ string_use m (half.comes []).0.label ≡ us → contexts_of P d.position d.taken ≡ us
contexts-here P before us d s g m e no_gamma half h =
    let l = P.setting.logic in
    let n = node d.position s g in
    let come = half.comes [] in
    let here : after_node l n come.0 ≡ Some (reached_at d []) = after_node-by l d.position s g come.0 (reached_at d []) no_gamma (ap (λ k. after_modal l d.position k come.0) e ∙ come.2) in
    ap (λ ns. contexts_along l ns (at_root d.taken)) (way-here P before d s g half.in_way)
    ∙ ap (λ vs. contexts_along l (before ++ n ∷ []) (at_root vs)) (sym (append-nil d.taken))
    ∙ contexts-LeadsTo l before (n ∷ []) (at_root (d.taken ++ [])) come.0 come.1
    ∙ ap (λ x. contexts_along l before (at_root (d.taken ++ [])) ++ x) (ap (λ o. option_map_or (λ (next : Reached). (string_use (modal_of l s g) come.0.label ++ term_use (shape_of s g)) ++ []) o []) here ∙ append-nil (string_use (modal_of l s g) come.0.label ++ term_use (shape_of s g)) ∙ ap (λ x. string_use (modal_of l s g) come.0.label ++ x) (no-term (shape_of s g) no_gamma) ∙ append-nil (string_use (modal_of l s g) come.0.label) ∙ ap (λ k. string_use k come.0.label) e)
    ∙ h
  where
    no-term : (h : Shape) → is_gamma h ≡ false → term_use h ≡ []
    no-term Gamma e = absurd (false≢true (sym e))
    no-term _ e = refl

-- a name made at a place holds the values taken on the way to it, so its change holds the new ones
pub values-change : (P : Problem) (K : Names) (f : GroundMark → GroundMark) (us : List (List GroundMark)) (p : ℕ) (vs : List Value) → contexts_of P p vs ≡ us → values_by P K f (contexts_of P p (values_list (values_tree vs))) (values_tree vs) ≡ values_tree (new_taken P K f us vs)
values-change P K f us p vs e =
    ap (λ xs. values_by P K f (contexts_of P p xs) (values_tree vs)) (values_list-values_tree vs)
    ∙ ap (λ xs. values_by P K f xs (values_tree vs)) e
    ∙ sym (values_tree-values_list (values_by P K f us (values_tree vs)))

-- f changes marks as far as they go
abbrev pub IsFixed : Problem → Names → (GroundMark → GroundMark) → Type 0
IsFixed P K f = (m : GroundMark) → f m ≡ mark_by P K f m

pub character-change : (P : Problem) (K : Names) (f : GroundMark → GroundMark) → IsFixed P K f → (us : List (List GroundMark)) (c : Spot) → has_unbounded_strings P.setting.logic ≡ true → contexts_of P c.position c.taken ≡ us → IsTrue (has_step K c.label (g_new_mark c.position (values_tree c.taken))) → after_character P.setting.logic (new_spot P K f us c) ≡ new_spot P K f us (after_character P.setting.logic c)
character-change P K f fixed us c free here h =
    let l = P.setting.logic in
    let m = g_new_mark c.position (values_tree c.taken) in
    let named : f m ≡ g_new_mark c.position (values_tree (new_taken P K f us c.taken)) = fixed m ∙ ap (g_new_mark c.position) (values-change P K f us c.position c.taken here) in
    let left : pi_label l (folded K f [] c.label) (g_new_mark c.position (values_tree (new_taken P K f us c.taken))) ≡ folded K f [] (pi_label l c.label m) =
    pi-goes_on l free (folded K f [] c.label) (g_new_mark c.position (values_tree (new_taken P K f us c.taken)))
    ∙ ap (λ x. folded K f [] c.label ++ x ∷ []) (sym named)
    ∙ sym (folded-step K f c.label m h)
    ∙ ap (folded K f []) (sym (pi-goes_on l free c.label m)) in
    λ i. record { position = c.position; label = left i; taken = new_taken P K f us c.taken; env = map (term_by P K f) c.env }

pub placed-pi : (P : Problem) (K : Names) (f : GroundMark → GroundMark) → IsFixed P K f → (before : List Node) (us : List (List GroundMark)) (c : Spot) (s : Sign) (g : Formula) → has_unbounded_strings P.setting.logic ≡ true → contexts_of P c.position c.taken ≡ us → IsTrue (has_step K c.label (g_new_mark c.position (values_tree c.taken))) → Placed P K f before us c s g → Between P K f before us (after_character P.setting.logic c) s g Pi
placed-pi P K f fixed before us c s g free here step h = record {
  half = pi-half P before c s g h.stands;
  moved = subst (λ d. Halfway P before d s g Pi) (character-change P K f fixed us c free here step) (pi-half P before (new_spot P K f us c) s g h.moved);
  contexts = λ rest. append-nil (contexts_along P.setting.logic before (at_root (c.taken ++ rest))) ∙ h.contexts rest;
  as_many = h.as_many;
  proper = h.proper;
}

-- ---- the shape

-- the contexts behind a node
node-contexts : (P : Problem) (before : List Node) (us : List (List GroundMark)) (d : Spot) (s : Sign) (g : Formula) (half : Halfway P before d s g (modal_of P.setting.logic s g)) (vs rest : List Value) (next : Reached) → contexts_along P.setting.logic before (at_root (d.taken ++ vs)) ++ string_use (modal_of P.setting.logic s g) (half.comes vs).0.label ≡ us → after_shape (shape_of s g) (reached_at d vs) ≡ Some next → contexts_along P.setting.logic (before ++ node d.position s g ∷ []) (at_root (d.taken ++ vs)) ≡ us ++ term_use (shape_of s g)
node-contexts P before us d s g half vs rest next h after =
    let l = P.setting.logic in
    let n = node d.position s g in
    let come = half.comes vs in
    let first = contexts_along l before (at_root (d.taken ++ vs)) in
    let strings = string_use (modal_of l s g) come.0.label in
    let here : after_node l n come.0 ≡ Some next = ap (option_and_then (after_shape (shape_of s g))) come.2 ∙ after in
    contexts-LeadsTo l before (n ∷ []) (at_root (d.taken ++ vs)) come.0 come.1
    ∙ ap (λ x. first ++ x) (ap (λ o. option_map_or (λ (k : Reached). (strings ++ term_use (shape_of s g)) ++ []) o []) here ∙ append-nil (strings ++ term_use (shape_of s g)))
    ∙ sym (append_assoc first strings (term_use (shape_of s g)))
    ∙ ap (λ x. x ++ term_use (shape_of s g)) h

plain-term : (h : Shape) → is_gamma h ≡ false → term_use h ≡ []
plain-term Gamma e = absurd (false≢true (sym e))
plain-term _ e = refl

-- a component that takes no term
pub between-component : (P : Problem) (K : Names) (f : GroundMark → GroundMark) (before : List Node) (us : List (List GroundMark)) (d : Spot) (s : Sign) (g : Formula) → Between P K f before us d s g (modal_of P.setting.logic s g) → is_gamma (shape_of s g) ≡ false → (k : ℕ) (r : Sign) (a : Formula) → WayDown d.position s g k r a → Placed P K f (before ++ node d.position s g ∷ []) us (down_by k d) r a
between-component P K f before us d s g h e k r a down = record {
  stands = component-stands P before d s g h.half e k r a d.env down;
  moved = component-stands P before (new_spot P K f us d) s g h.moved e k r a (map (term_by P K f) d.env) down;
  contexts = λ rest. node-contexts P before us d s g h.half rest rest (reached_at d rest) (h.contexts rest) (after_shape-plain (shape_of s g) (reached_at d rest) e) ∙ ap (λ x. us ++ x) (plain-term (shape_of s g) e) ∙ append-nil us;
  as_many = h.as_many;
  proper = h.proper;
}

-- that of a delta formula, with its eigenvariable
pub between-delta : (P : Problem) (K : Names) (f : GroundMark → GroundMark) (before : List Node) (us : List (List GroundMark)) (d : Spot) (s : Sign) (g : Formula) → Between P K f before us d s g (modal_of P.setting.logic s g) → shape_of s g ≡ Delta → (t : GroundTerm) (r : Sign) (a : Formula) → WayDown d.position s g 1 r a → Placed P K f (before ++ node d.position s g ∷ []) us (spot_inside t d.taken d) r a
between-delta P K f before us d s g h e t r a down =
    let no_gamma : is_gamma (shape_of s g) ≡ false = ap is_gamma e in
    record {
      stands = component-stands P before d s g h.half no_gamma 1 r a (t ∷ d.env) down;
      moved = component-stands P before (new_spot P K f us d) s g h.moved no_gamma 1 r a (term_by P K f t ∷ map (term_by P K f) d.env) down;
      contexts = λ rest. node-contexts P before us d s g h.half rest rest (reached_at d rest) (h.contexts rest) (after_shape-plain (shape_of s g) (reached_at d rest) no_gamma) ∙ ap (λ x. us ++ x) (plain-term (shape_of s g) no_gamma) ∙ append-nil us;
      as_many = h.as_many;
      proper = h.proper;
    }

term-stands : (P : Problem) (before : List Node) (c : Spot) (s : Sign) (f : Formula) → Halfway P before c s f (modal_of P.setting.logic s f) → shape_of s f ≡ Gamma → (t : GroundTerm) (q : Sign) (g : Formula) (env : List GroundTerm) → WayDown c.position s f 1 q g → Stands P (before ++ node c.position s f ∷ []) (record { position = c.position + 1; label = c.label; taken = c.taken ++ term t ∷ []; env = env }) q g
term-stands P before c s f h e t q g env down_to = record {
  in_way = λ n lt. ap (way F P.formula) (add_assoc c.position 1 n) ∙ h.in_way (1 + n) (down_to n lt).0 ∙ ap (λ ns. before ++ ns) (down_to n lt).1 ∙ sym (append_assoc before (node c.position s f ∷ []) (way_from (c.position + 1) q g n));
  comes = λ rest.
      let l = P.setting.logic in
      let come = h.comes (term t ∷ rest) in
      let at_end : Reached = record { label = c.label; taken = c.taken ++ term t ∷ []; rest = rest } in
      let follow = subst (λ vs. LeadsTo l before (at_root vs) come.0) (sym (append_assoc c.taken (term t ∷ []) rest)) come.1 in
      let here : after_node l (node c.position s f) come.0 ≡ Some at_end = ap (option_and_then (after_shape (shape_of s f))) come.2 ∙ ap (λ h. after_shape h (reached_at c (term t ∷ rest))) e in
      LeadsTo-append l before (node c.position s f) _ come.0 at_end follow here (is_step-label l (modal_of l s f) come.0 (reached_at c (term t ∷ rest)) at_end refl come.3);
}

-- that of a gamma formula, with the term t
pub between-gamma : (P : Problem) (K : Names) (f : GroundMark → GroundMark) (before : List Node) (us : List (List GroundMark)) (d : Spot) (s : Sign) (g : Formula) → Between P K f before us d s g (modal_of P.setting.logic s g) → shape_of s g ≡ Gamma → (t : GroundTerm) (r : Sign) (a : Formula) → IsTrue (is_admitted_value P (term t)) → WayDown d.position s g 1 r a → Placed P K f (before ++ node d.position s g ∷ []) (us ++ [] ∷ []) (spot_inside t (d.taken ++ term t ∷ []) d) r a
between-gamma P K f before us d s g h e t r a good down =
    let l = P.setting.logic in
    let n = node d.position s g in
    let both : (record { position = d.position + 1; label = folded K f [] d.label; taken = new_taken P K f us d.taken ++ term (term_by P K f t) ∷ []; env = term_by P K f t ∷ map (term_by P K f) d.env }) ≡ new_spot P K f (us ++ [] ∷ []) (spot_inside t (d.taken ++ term t ∷ []) d) =
    λ i. record { position = d.position + 1; label = folded K f [] d.label; taken = sym (taken-more P K f us d.taken [] (term t) h.as_many) i; env = term_by P K f t ∷ map (term_by P K f) d.env } in
    record {
      stands = term-stands P before d s g h.half e t r a (t ∷ d.env) down;
      moved = subst (λ (c : Spot). Stands P (before ++ n ∷ []) c r a) both (term-stands P before (new_spot P K f us d) s g h.moved e (term_by P K f t) r a (term_by P K f t ∷ map (term_by P K f) d.env) down);
      contexts = λ rest. ap (λ vs. contexts_along l (before ++ n ∷ []) (at_root vs)) (append_assoc d.taken (term t ∷ []) rest) ∙ node-contexts P before us d s g h.half (term t ∷ rest) rest (record { label = d.label; taken = d.taken ++ term t ∷ []; rest = rest }) (h.contexts (term t ∷ rest)) (ap (λ x. after_shape x (reached_at d (term t ∷ rest))) e) ∙ ap (λ x. us ++ term_use x) e;
      as_many = let p = length-last us [] in let q = length-last d.taken (term t) in let o = h.as_many in omega (arith, p, q, o);
      proper = all-append (is_admitted_value P) d.taken (term t ∷ []) h.proper (and_from (is_admitted_value P (term t)) true good refl);
    }
