-- Values that fit a way, and names that are made there.
use Rattle.std.proofs.Common.{true≢false, ◌≡◌, ℕ, ◌≤◌, List, [], ◌∷◌, ◌++◌, length, Bool, true, false, ◌&&◌, nat_lt, Some, None, option_and_then, IsTrue, refl, ap, sym, ◌∙◌, arith, if◌then◌else◌}
use Rattle.std.specs.Option.{option_map_or}
use Rattle.std.proofs.lemmas.Bool.Decides.{nat_tests}
use Rattle.std.proofs.lemmas.Bool.{leb-true}
use Rattle.calculus.specs.declared.setting.Logic.{Logic}
use Rattle.calculus.specs.declared.kind.Shape.{Shape}
use Rattle.calculus.specs.declared.kind.Shape.TheVariants as shape
use Rattle.calculus.specs.declared.kind.ModalPart.{ModalPart}
use Rattle.calculus.specs.declared.kind.ModalPart.TheVariants as modal
use Rattle.calculus.specs.Equality.{mark_eq}
use Rattle.calculus.specs.Ground.{Value, term, steps, marks_list, values_tree, GroundMark, g_new_mark, GroundTerm, g_eigen, g_fun}
use Rattle.calculus.specs.Lists.{g_terms_tree, values_list-values_tree, g_terms_list-g_terms_tree}
use Rattle.calculus.specs.Kinds.{shape_of, modal_of}
use Rattle.calculus.specs.Labels.{nu_label, pi_label, steps_to}
use Rattle.calculus.specs.Measures.{node_count}
use Rattle.calculus.specs.Positions.{Node, size}
use Rattle.calculus.specs.Skolem.{has_function, is_admitted, are_admitted, is_admitted_mark, are_admitted_values, Reached, take_term, take_string, after_modal, after_shape, is_step, fits_along, fits_way, is_delta_position, is_pi_position, way_to, at_root}
use Rattle.calculus.specs.Syntax.{Problem, Formula, atom, neg, conj, disj, imp, all, ex, box, dia}
use Rattle.calculus.specs.Problems.{is_problem}
use Rattle.logic_rules.proofs.ProblemFacts.{kept}
use Rattle.calculus.specs.Labels.{is_step_length}
use Rattle.tableau_core.specs.Fitting.{fits, is_made, past_node, past_shape, past_string, past_term}
use Rattle.tableau_core.specs.declared.way.Maker.{Maker}
use Rattle.tableau_core.specs.declared.way.Maker.TheVariants as maker
use Rattle.tableau_core.proofs.StringLaws.{steps-of}

-- past the shape
after : (l : Logic) (h : Shape) (ns : List Node) (k : (r : Reached) → fits_along l ns r ≡ fits l ns r.rest) (r : Reached) → option_map_or (λ (next : Reached). fits_along l ns next) (after_shape h r) false ≡ option_map_or (fits l ns) (past_shape h r.rest) false
after l shape.Gamma ns k r = terms r.rest
  where
    terms : (vs : List Value) → option_map_or (λ (next : Reached). fits_along l ns next) (take_term r vs) false ≡ option_map_or (fits l ns) (past_term vs) false
    terms [] = refl
    terms (term t ∷ vs) = k (record { label = r.label; taken = r.taken ++ term t ∷ []; rest = vs })
    terms (steps s ∷ vs) = refl
after l shape.Alpha ns k r = k r
after l shape.Beta ns k r = k r
after l shape.Delta ns k r = k r
after l shape.Literal ns k r = k r

-- the shape leaves the label
label-stays : (h : Shape) (r : Reached) (test : List GroundMark → Bool) (go : Reached → Bool) → option_map_or (λ (next : Reached). test next.label && go next) (after_shape h r) false ≡ (test r.label && option_map_or go (after_shape h r) false)
label-stays shape.Gamma r test go = terms r.rest
  where
    never : (b : Bool) → false ≡ (b && false)
    never true = refl
    never false = refl

    terms : (vs : List Value) → option_map_or (λ (next : Reached). test next.label && go next) (take_term r vs) false ≡ (test r.label && option_map_or go (take_term r vs) false)
    terms [] = never (test r.label)
    terms (term t ∷ vs) = refl
    terms (steps s ∷ vs) = never (test r.label)
label-stays shape.Alpha r test go = refl
label-stays shape.Beta r test go = refl
label-stays shape.Delta r test go = refl
label-stays shape.Literal r test go = refl

-- past a string, if it is a step
string : (l : Logic) (h : Shape) (ns : List Node) (b : Bool) (x : Bool) (vs : List Value) → x ≡ option_map_or (fits l ns) (past_shape h vs) false → (b && x) ≡ option_map_or (fits l ns) (option_and_then (past_shape h) (if b then Some vs else None)) false
string l h ns true x vs e = e
string l h ns false x vs e = refl

fits-node : (l : Logic) (p : ℕ) (m : ModalPart) (h : Shape) (ns : List Node) (k : (r : Reached) → fits_along l ns r ≡ fits l ns r.rest) (r : Reached) → option_map_or (λ (next : Reached). is_step l m r next && fits_along l ns next) (option_and_then (after_shape h) (after_modal l p m r)) false ≡ option_map_or (fits l ns) (past_node l m h r.rest) false
fits-node l p modal.Plain h ns k r = after l h ns k r
fits-node l p modal.Pi h ns k r = after l h ns k (record r { label = pi_label l r.label (g_new_mark p (values_tree r.taken)) })
fits-node l p modal.Nu h ns k r = strings r.rest
  where
    strings : (vs : List Value) → option_map_or (λ (next : Reached). is_step l modal.Nu r next && fits_along l ns next) (option_and_then (after_shape h) (take_string l r vs)) false ≡ option_map_or (fits l ns) (option_and_then (past_shape h) (past_string l vs)) false
    strings [] = refl
    strings (term t ∷ vs) = refl
    strings (steps s ∷ vs) = let next : Reached = record { label = nu_label l r.label (marks_list s); taken = r.taken ++ steps s ∷ []; rest = vs } in
        label-stays h next (λ w. steps_to mark_eq l r.label w) (λ x. fits_along l ns x) ∙ ap (λ b. b && option_map_or (λ (x : Reached). fits_along l ns x) (after_shape h next) false) (steps-of l r.label (marks_list s)) ∙ string l h ns (is_step_length l (length (marks_list s))) (option_map_or (λ (x : Reached). fits_along l ns x) (after_shape h next) false) vs (after l h ns k next)

-- the values that a way takes fit it whatever the label
pub fits-along : (l : Logic) (ns : List Node) (r : Reached) → fits_along l ns r ≡ fits l ns r.rest
unfolding fits
fits-along l [] r = refl
fits-along l (n ∷ ns) r = fits-node l n.position (modal_of l n.sign n.formula) (shape_of n.sign n.formula) ns (fits-along l ns) r

-- a name of a delta or a pi position whose values fit the way to it
pub made-delta : (P : Problem) (p : ℕ) (vs : List Value) → is_made maker.Delta P.setting.logic (way_to P p) vs ≡ (is_delta_position P p && fits_way P p vs)
unfolding is_made
made-delta P p vs = ap (λ b. is_delta_position P p && b) (sym (fits-along P.setting.logic (way_to P p) (at_root vs)))

pub made-pi : (P : Problem) (p : ℕ) (vs : List Value) → is_made maker.Pi P.setting.logic (way_to P p) vs ≡ (is_pi_position P p && fits_way P p vs)
unfolding is_made
made-pi P p vs = ap (λ b. is_pi_position P p && b) (sym (fits-along P.setting.logic (way_to P p) (at_root vs)))

-- admitted names by their values as a list
pub eigen-admitted : (P : Problem) (p : ℕ) (vs : List Value) (a b : Bool) → a ≡ is_made maker.Delta P.setting.logic (way_to P p) vs → b ≡ are_admitted_values P (values_tree vs) → (a && b) ≡ is_admitted P (g_eigen p (values_tree vs))
eigen-admitted P p vs a b e h = rw (e, h, made-delta P p vs, values_list-values_tree vs) refl

pub mark-admitted : (P : Problem) (p : ℕ) (vs : List Value) (a b : Bool) → a ≡ is_made maker.Pi P.setting.logic (way_to P p) vs → b ≡ are_admitted_values P (values_tree vs) → (a && b) ≡ is_admitted_mark P (g_new_mark p (values_tree vs))
mark-admitted P p vs a b e h = rw (e, h, made-pi P p vs, values_list-values_tree vs) refl

pub fun-admitted : (P : Problem) (f n : ℕ) (ts : List GroundTerm) (a b : Bool) → n ≡ length ts → a ≡ has_function P.symbols f n → b ≡ are_admitted P (g_terms_tree ts) → (a && b) ≡ is_admitted P (g_fun f (g_terms_tree ts))
fun-admitted P f n ts a b l e h = rw (e, h, l, g_terms_list-g_terms_tree ts) refl

-- both parts of a test that answers early
pub both-then : (a b r : Bool) → (a && b) ≡ r → a ≡ true → b ≡ r
both-then true b r e h = e
both-then false b r e h = absurd (true≢false (sym h))

pub both-else : (a b r : Bool) → (a && b) ≡ r → a ≡ false → a ≡ r
both-else true b r e h = absurd (true≢false h)
both-else false b r e h = e

pub way-outside : (P : Problem) (p n : ℕ) → n ≡ size P.formula → n ≤ p → way_to P p ≡ []
way-outside P p n e h = let t : nat_lt p (size P.formula) ≡ false = grind (arith, nat_tests) in rw t refl

pub none-made : (k : Maker) (l : Logic) (vs : List Value) → is_made k l [] vs ≡ false
unfolding is_made
none-made k l vs = refl

size-le-node_count : (f : Formula) → size f ≤ node_count f
size-le-node_count (atom p ts) = omega arith
size-le-node_count (neg a) = omega (arith, size-le-node_count a)
size-le-node_count (conj a b) = omega (arith, size-le-node_count a, size-le-node_count b)
size-le-node_count (disj a b) = omega (arith, size-le-node_count a, size-le-node_count b)
size-le-node_count (imp a b) = omega (arith, size-le-node_count a, size-le-node_count b)
size-le-node_count (all a) = omega (arith, size-le-node_count a)
size-le-node_count (ex a) = omega (arith, size-le-node_count a)
size-le-node_count (box a) = omega (arith, size-le-node_count a)
size-le-node_count (dia a) = omega (arith, size-le-node_count a)

-- positions have numbers of 32 bits
pub few-positions : (P : Problem) → IsTrue (is_problem P) → size P.formula ≤ 4000000
few-positions P w = let h : node_count P.formula ≤ 4000000 = leb-true _ _ (kept P w).nodes in omega (arith, size-le-node_count P.formula)

pub ruleset positions = (few-positions)
