-- The template that is computed for a selection stands for its instances.
use Rattle.std.proofs.Common.{◌≡◌, ℕ, zero, suc, ◌+◌, List, [], ◌∷◌, ◌++◌, length, map, drop, Bool, true, false, ◌&&◌, ◌==◌, nat_le, IsTrue, refl, sym, ◌∙◌, ap, ap₂, subst, Option, Some, None, option_map, option_and_then, slice_get, slice_index_or, inl, inr, arith, append_assoc, append-nil, if◌then◌else◌, eq-eqb, eqb-true, le-leb, leb-true, length-append}
use Rattle.std.specs.List.{list_all}
use Rattle.std.specs.Option.{option_map_or}
use Rattle.std.proofs.lemmas.Bool.{false≢true, cases_Bool, and_from}
use Rattle.std.proofs.lemmas.List.{map-append}
use Rattle.plain_laws.proofs.Booleans.{same-tests}
use Rattle.calculus.specs.declared.sign.Sign.{Sign}
use Rattle.calculus.specs.declared.sign.Sign.TheVariants.{F}
use Rattle.calculus.specs.declared.sign.Side.{Side}
use Rattle.calculus.specs.declared.sign.Side.TheVariants.{Left, Right}
use Rattle.calculus.specs.declared.sort.Sort.{Sort}
use Rattle.calculus.specs.declared.sort.Sort.TheVariants.{TermSort, MarkSort, StringSort}
use Rattle.calculus.specs.declared.setting.Logic.{Logic}
use Rattle.calculus.specs.declared.setting.Logic.TheVariants.{Classical, Intuitionistic, D, T as LogicT, S4, S5}
use Rattle.calculus.specs.declared.kind.Shape.{Shape}
use Rattle.calculus.specs.declared.kind.Shape.TheVariants.{Alpha, Beta, Gamma, Delta, Literal}
use Rattle.calculus.specs.declared.kind.ModalPart.{ModalPart}
use Rattle.calculus.specs.declared.kind.ModalPart.TheVariants.{Plain, Nu, Pi}
use Rattle.calculus.specs.Syntax.{Term, Terms, var, fun, eigen, spare, no_terms, more_terms, Formula, atom, neg, conj, disj, imp, all, ex, box, dia, Problem}
use Rattle.calculus.specs.Ground.{GroundTerm, GroundMark, Marks, Value, g_fun, g_eigen, g_new_mark, more_g_terms, term, steps, more_values, marks_list, values_tree, GroundLiteral}
use Rattle.calculus.specs.Lists.{marks_tree-marks_list}
use Rattle.calculus.specs.Equality.{mark_eq, list_eq, literal_eq}
use Rattle.calculus.specs.Kinds.{other, shape_of, modal_of}
use Rattle.calculus.specs.Positions.{size}
use Rattle.calculus.specs.Labels.{is_prefix, steps_to, nu_label, pi_label, is_step_length}
use Rattle.calculus.specs.Problems.{formula_fits}
use Rattle.calculus.specs.Skolem.{is_empty, is_admitted_value}
use Rattle.calculus.specs.Instances.{ground_of, grounds_of, Spot, root_spot, Turn}
use Rattle.calculus.specs.ComputedInstances.{Supply, Part, with_modal_step, at_modal, with_turn, at_literal, join_of, at_alpha, at_one, at_two, with_gamma, at_quantifier, part_of, if_used_up, instance_of, is_instance}
use Rattle.store_theory.specs.Stores.{a_mark, a_string}
use Rattle.calculus.proofs.EqualityLaws.{mark_eq-tells, list_eq-tells, literal_eq-tells}
use Rattle.store_theory.specs.Patterns.{Pattern, p_var, p_eigen, p_new, no_patterns, patterns_tree, Template}
use Rattle.store_theory.specs.Templates.{as_term, as_value, as_label, value_of_variable, pattern_value, pattern_terms, pattern_values, pattern_label, pattern_literal, pattern_gamma, literals_by, has_value_sort, have_sorts, is_step_value, is_choice_of_values, clause_by, IsTemplateOf}
use Rattle.search_theory.specs.TemplateOf.{PatternSpot, root_pattern_spot, PatternTurn, PatternPart, PatternBody, pattern_of, patterns_of, pattern_down, pattern_inside, of_sort, one_pi_more, pattern_modal, pattern_turn, pattern_atom, joined_patterns, pattern_alpha, pattern_beta, pattern_one, pattern_two, with_pattern_gamma, pattern_quantifier, pattern_part, template_by, if_sides_used, template_of}
use Rattle.search_theory.proofs.Dropping.{drop-next, drop-both}
use Rattle.search_theory.proofs.TemplateFits.{template-part_fits}

-- ---- images of patterns by the values of all variables

abbrev pub value_at : List Value → Pattern → Value
value_at vs p = as_value (pattern_value vs p)

abbrev pub term_at : List Value → Pattern → GroundTerm
term_at vs p = as_term (pattern_value vs p)

values-image : (vs : List Value) (ps : List Pattern) → pattern_values vs (patterns_tree ps) ≡ values_tree (map (value_at vs) ps)
values-image vs [] = refl
values-image vs (p ∷ ps) = ap (more_values (value_at vs p)) (values-image vs ps)

label-more : (vs : List Value) (ps : List Pattern) (p : Pattern) → pattern_label vs (ps ++ p ∷ []) ≡ pattern_label vs ps ++ as_label (pattern_value vs p)
label-more vs [] p = append-nil (as_label (pattern_value vs p))
label-more vs (q ∷ ps) p = ap (λ w. as_label (pattern_value vs q) ++ w) (label-more vs ps p) ∙ sym (append_assoc (as_label (pattern_value vs q)) (pattern_label vs ps) (as_label (pattern_value vs p)))

index-image : (f : Pattern → GroundTerm) (env : List Pattern) (k : ℕ) (d : Pattern) → f (slice_index_or env k d) ≡ slice_index_or (map f env) k (f d)
index-image f [] k d = refl
index-image f (p ∷ env) zero d = refl
index-image f (p ∷ env) (suc k) d = index-image f env k d

mutual
  term-image : (vs : List Value) (env : List Pattern) (t : Term) → term_at vs (pattern_of env t) ≡ ground_of (map (term_at vs) env) t
  term-image vs env (var k) = index-image (term_at vs) env k (p_new 0 no_patterns)
  term-image vs env (fun f ts) = ap (g_fun f) (terms-image vs env ts)
  term-image vs env (eigen n) = refl
  term-image vs env (spare n) = refl

  terms-image : (vs : List Value) (env : List Pattern) (ts : Terms) → pattern_terms vs (patterns_tree (patterns_of env ts)) ≡ grounds_of (map (term_at vs) env) ts
  terms-image vs env no_terms = refl
  terms-image vs env (more_terms t ts) = ap₂ more_g_terms (term-image vs env t) (terms-image vs env ts)

abbrev pub spot_by : List Value → PatternSpot → Spot
spot_by vs c = record { position = c.position; label = pattern_label vs c.label; taken = map (value_at vs) c.taken; env = map (term_at vs) c.env }

-- ---- what the sorts take of the values

-- the values begin with one of each sort, whose strings are steps
abbrev takes : Logic → List Sort → List Value → Bool
takes l [] vs = true
takes l (s ∷ ss) [] = false
takes l (s ∷ ss) (v ∷ vs) = has_value_sort s v && is_step_value l v && takes l ss vs

abbrev number_of_strings : List Sort → ℕ
number_of_strings [] = 0
number_of_strings (StringSort ∷ ss) = suc (number_of_strings ss)
number_of_strings (TermSort ∷ ss) = number_of_strings ss
number_of_strings (MarkSort ∷ ss) = number_of_strings ss

abbrev turn_by : List Value → PatternTurn → Turn
turn_by vs t = record { position = t.position; values = map (value_at vs) t.values }

abbrev part_by : List Value → List Value → PatternPart → Part
part_by vs rest y = record { literals = map (pattern_literal vs) y.literals; turns = map (turn_by vs) y.turns; gammas = map (pattern_gamma vs) y.gammas; nus = number_of_strings y.sorts; pis = y.pis; left_over = record { sides = y.sides; values = drop (length y.sorts) rest } }

-- the part by the values of all variables, the next of which are the rest
abbrev filled : Logic → List Value → List Value → Option PatternPart → Option Part
filled l vs rest None = None
filled l vs rest (Some y) = if takes l y.sorts rest then Some (part_by vs rest y) else None

abbrev supply : List Side → List Value → Supply
supply ss vs = record { sides = ss; values = vs }

-- the body over patterns computes the body over ground values
abbrev Mirrors : Logic → (Spot → Supply → Option Part) → PatternBody → Type 0
Mirrors l go body = (vs : List Value) (c : PatternSpot) (ss : List Side) (n : ℕ) (rest : List Value) → drop n vs ≡ rest → go (spot_by vs c) (supply ss rest) ≡ filled l vs rest (body c ss n)

-- ---- what a step tells is the length of its string

prefix-itself : (w v : List GroundMark) → is_prefix mark_eq w (w ++ v) ≡ true
prefix-itself [] v = refl
prefix-itself (m ∷ w) v = and_from (mark_eq m m) (is_prefix mark_eq w (w ++ v)) ((mark_eq-tells m m).1 refl) (prefix-itself w v)

true-and : (a b : Bool) → a ≡ true → (a && b) ≡ b
true-and true b e = refl
true-and false b e = absurd (false≢true e)

step-same : (l : Logic) (w v : List GroundMark) → steps_to mark_eq l w (nu_label l w v) ≡ is_step_length l (length v)
step-same Classical w v = same-tests (list_eq mark_eq w (w ++ v)) (length v == 0) (λ h. let e = ap (λ (x : List GroundMark). length x) ((list_eq-tells mark_eq mark_eq-tells w (w ++ v)).0 h) in let k = length-append w v in eq-eqb (length v) 0 (omega (arith, e, k))) (λ h. (list_eq-tells mark_eq mark_eq-tells w (w ++ v)).1 (sym (ap (λ x. w ++ x) (nothing v (eqb-true (length v) 0 h)) ∙ append-nil w)))
  where
    nothing : (x : List GroundMark) → length x ≡ 0 → x ≡ []
    nothing [] e = refl
    nothing (m ∷ x) e = absurd (omega (arith, e))
step-same Intuitionistic w v = prefix-itself w v
step-same D w v = true-and (is_prefix mark_eq w (w ++ v)) (length (w ++ v) == length w + 1) (prefix-itself w v) ∙ same-tests (length (w ++ v) == length w + 1) (length v == 1) (λ h. let e = eqb-true (length (w ++ v)) (length w + 1) h in let k = length-append w v in eq-eqb (length v) 1 (omega (arith, e, k))) (λ h. let e = eqb-true (length v) 1 h in let k = length-append w v in eq-eqb (length (w ++ v)) (length w + 1) (omega (arith, e, k)))
step-same LogicT w v = true-and (is_prefix mark_eq w (w ++ v)) (nat_le (length (w ++ v)) (length w + 1)) (prefix-itself w v) ∙ same-tests (nat_le (length (w ++ v)) (length w + 1)) (nat_le (length v) 1) (λ h. let e = leb-true (length (w ++ v)) (length w + 1) h in let k = length-append w v in le-leb (length v) 1 (omega (arith, e, k))) (λ h. let e = leb-true (length v) 1 h in let k = length-append w v in le-leb (length (w ++ v)) (length w + 1) (omega (arith, e, k)))
step-same S4 w v = prefix-itself w v
step-same S5 w v = refl

-- ---- maps over parts

map-nothing : (o : Option Part) → option_map (with_modal_step Plain) o ≡ o
map-nothing None = refl
map-nothing (Some x) = refl

-- a map over the part that keeps its sorts is one over what is filled
filled-map : (l : Logic) (vs rest : List Value) (f : PatternPart → PatternPart) (g : Part → Part) → ((y : PatternPart) → (f y).sorts ≡ y.sorts) → ((y : PatternPart) → part_by vs rest (f y) ≡ g (part_by vs rest y)) → (o : Option PatternPart) → filled l vs rest (option_map f o) ≡ option_map g (filled l vs rest o)
filled-map l vs rest f g s h None = refl
filled-map l vs rest f g s h (Some y) = ap (λ b. if b then Some (part_by vs rest (f y)) else None) (ap (λ ss. takes l ss rest) (s y)) ∙ by (takes l y.sorts rest)
  where
    by : (b : Bool) → (if b then Some (part_by vs rest (f y)) else None) ≡ option_map g (if b then Some (part_by vs rest y) else None)
    by true = ap Some (h y)
    by false = refl

abbrev no_part : Option Part
no_part = None

none-both : (b : Bool) → no_part ≡ (if b then no_part else no_part)
none-both true = refl
none-both false = refl

-- one more value of a sort in front
filled-more : (l : Logic) (vs rest : List Value) (v : Value) (s : Sort) (g : Part → Part) → ((y : PatternPart) → part_by vs (v ∷ rest) (of_sort s y) ≡ g (part_by vs rest y)) → (o : Option PatternPart) → filled l vs (v ∷ rest) (option_map (of_sort s) o) ≡ (if has_value_sort s v && is_step_value l v then option_map g (filled l vs rest o) else None)
filled-more l vs rest v s g h None = none-both (has_value_sort s v && is_step_value l v)
filled-more l vs rest v s g h (Some y) = by (has_value_sort s v && is_step_value l v) (takes l y.sorts rest)
  where
    by : (a b : Bool) → (if a && b then Some (part_by vs (v ∷ rest) (of_sort s y)) else None) ≡ (if a then option_map g (if b then Some (part_by vs rest y) else None) else None)
    by true true = ap Some (h y)
    by true false = refl
    by false b = refl

filled-empty : (l : Logic) (vs : List Value) (s : Sort) (o : Option PatternPart) → filled l vs [] (option_map (of_sort s) o) ≡ None
filled-empty l vs s None = refl
filled-empty l vs s (Some y) = refl

-- ---- labels after a step

nu-image : (vs : List Value) (l : Logic) (ws : List Pattern) (p : Pattern) (w : List GroundMark) → pattern_value vs p ≡ a_string w → pattern_label vs (pi_label l ws p) ≡ nu_label l (pattern_label vs ws) w
nu-image vs Classical ws p w e = label-more vs ws p ∙ ap (λ v. pattern_label vs ws ++ as_label v) e
nu-image vs Intuitionistic ws p w e = label-more vs ws p ∙ ap (λ v. pattern_label vs ws ++ as_label v) e
nu-image vs D ws p w e = label-more vs ws p ∙ ap (λ v. pattern_label vs ws ++ as_label v) e
nu-image vs LogicT ws p w e = label-more vs ws p ∙ ap (λ v. pattern_label vs ws ++ as_label v) e
nu-image vs S4 ws p w e = label-more vs ws p ∙ ap (λ v. pattern_label vs ws ++ as_label v) e
nu-image vs S5 ws p w e = append-nil (as_label (pattern_value vs p)) ∙ ap as_label e

pi-image : (vs : List Value) (l : Logic) (ws : List Pattern) (p : Pattern) (m : GroundMark) → pattern_value vs p ≡ a_mark m → pattern_label vs (pi_label l ws p) ≡ pi_label l (pattern_label vs ws) m
pi-image vs Classical ws p m e = label-more vs ws p ∙ ap (λ v. pattern_label vs ws ++ as_label v) e
pi-image vs Intuitionistic ws p m e = label-more vs ws p ∙ ap (λ v. pattern_label vs ws ++ as_label v) e
pi-image vs D ws p m e = label-more vs ws p ∙ ap (λ v. pattern_label vs ws ++ as_label v) e
pi-image vs LogicT ws p m e = label-more vs ws p ∙ ap (λ v. pattern_label vs ws ++ as_label v) e
pi-image vs S4 ws p m e = label-more vs ws p ∙ ap (λ v. pattern_label vs ws ++ as_label v) e
pi-image vs S5 ws p m e = append-nil (as_label (pattern_value vs p)) ∙ ap as_label e

-- ---- the modal part

abbrev Body : Type 0
Body = Spot → Supply → Option Part

string-value : (vs : List Value) (n : ℕ) (s : Marks) → slice_get vs n ≡ Some (steps s) → pattern_value vs (p_var n) ≡ a_string (marks_list s)
string-value vs n s e = ap value_of_variable e

string-taken : (vs : List Value) (n : ℕ) (s : Marks) → slice_get vs n ≡ Some (steps s) → value_at vs (p_var n) ≡ steps s
string-taken vs n s e = ap (λ o. as_value (value_of_variable o)) e ∙ ap steps (marks_tree-marks_list s)

modal-mirrors : (l : Logic) (m : ModalPart) (go : Body) (body : PatternBody) → Mirrors l go body → Mirrors l (at_modal l m go) (pattern_modal l m body)
modal-mirrors l Plain go body k vs c ss n rest e = map-nothing (go (spot_by vs c) (supply ss rest)) ∙ k vs c ss n rest e
modal-mirrors l Pi go body k vs c ss n rest e =
    let mark = g_new_mark c.position (values_tree (map (value_at vs) c.taken)) in
    let p = p_new c.position (patterns_tree c.taken) in
    let next : PatternSpot = record c { label = pi_label l c.label p } in
    let label = pi-image vs l c.label p mark (ap (λ us. a_mark (g_new_mark c.position us)) (values-image vs c.taken)) in
    ap (option_map (with_modal_step Pi)) ((λ i. go (record { position = c.position; label = sym label i; taken = map (value_at vs) c.taken; env = map (term_at vs) c.env }) (supply ss rest)) ∙ k vs next ss n rest e)
    ∙ sym (filled-map l vs rest one_pi_more (with_modal_step Pi) (λ y. refl) (λ y. refl) (body next ss n))
modal-mirrors l Nu go body k vs c ss n [] e = sym (filled-empty l vs StringSort (body (record c { label = pi_label l c.label (p_var n); taken = c.taken ++ p_var n ∷ [] }) ss (suc n)))
modal-mirrors l Nu go body k vs c ss n (term t ∷ rest) e = sym (filled-more l vs rest (term t) StringSort (with_modal_step Nu) (λ y. refl) (body (record c { label = pi_label l c.label (p_var n); taken = c.taken ++ p_var n ∷ [] }) ss (suc n)))
modal-mirrors l Nu go body k vs c ss n (steps s ∷ rest) e =
    let d = drop-next n vs (steps s) rest e in
    let next : PatternSpot = record c { label = pi_label l c.label (p_var n); taken = c.taken ++ p_var n ∷ [] } in
    let label = nu-image vs l c.label (p_var n) (marks_list s) (string-value vs n s d.0) in
    let taken : map (value_at vs) (c.taken ++ p_var n ∷ []) ≡ map (value_at vs) c.taken ++ steps s ∷ [] = map-append (value_at vs) c.taken (p_var n ∷ []) ∙ ap (λ v. map (value_at vs) c.taken ++ v ∷ []) (string-taken vs n s d.0) in
    let there = (λ i. go (record { position = c.position; label = sym label i; taken = sym taken i; env = map (term_at vs) c.env }) (supply ss rest)) ∙ k vs next ss (suc n) rest d.1 in
    (λ i. if step-same l (pattern_label vs c.label) (marks_list s) i then option_map (with_modal_step Nu) (there i) else None)
    ∙ sym (filled-more l vs rest (steps s) StringSort (with_modal_step Nu) (λ y. refl) (body next ss (suc n)))

-- ---- the shapes

turn-filled : (l : Logic) (vs rest : List Value) (p : ℕ) (ps : List Pattern) (o : Option PatternPart) → with_turn p (map (value_at vs) ps) (filled l vs rest o) ≡ filled l vs rest (pattern_turn p ps o)
turn-filled l vs rest p ps o = sym (filled-map l vs rest (λ (y : PatternPart). record y { turns = record { position = p; values = ps } ∷ y.turns }) (λ (x : Part). record x { turns = record { position = p; values = map (value_at vs) ps } ∷ x.turns }) (λ y. refl) (λ y. refl) o)

literal-mirrors : (l : Logic) (s : Sign) (p : ℕ) (ts : Terms) → Mirrors l (at_literal s p ts) (pattern_atom s p ts)
literal-mirrors l s p ts vs c ss n rest e = λ i. Some (record {
  literals = record { sign = s; symbol = p; args = sym (terms-image vs c.env ts) i; label = pattern_label vs c.label } ∷ [];
  turns = record { position = c.position; values = map (value_at vs) c.taken } ∷ [];
  gammas = [];
  nus = 0;
  pis = 0;
  left_over = record { sides = ss; values = rest };
})

one-mirrors : (l : Logic) (go : Body) (body : PatternBody) → Mirrors l go body → Mirrors l (at_one go) (pattern_one body)
one-mirrors l go body k vs c ss n rest e = ap (with_turn c.position (map (value_at vs) c.taken)) (k vs (pattern_down 1 c) ss n rest e) ∙ turn-filled l vs rest c.position c.taken (body (pattern_down 1 c) ss n)

takes-both : (l : Logic) (ss ts : List Sort) (vs : List Value) → takes l (ss ++ ts) vs ≡ (takes l ss vs && takes l ts (drop (length ss) vs))
takes-both l [] ts vs = refl
takes-both l (s ∷ ss) ts [] = refl
takes-both l (s ∷ ss) ts (v ∷ vs) = ap (λ b. has_value_sort s v && is_step_value l v && b) (takes-both l ss ts vs) ∙ three (has_value_sort s v && is_step_value l v) (takes l ss vs) (takes l ts (drop (length ss) vs))
  where
    three : (a b c : Bool) → (a && (b && c)) ≡ ((a && b) && c)
    three true b c = refl
    three false b c = refl

strings-both : (ss ts : List Sort) → number_of_strings (ss ++ ts) ≡ number_of_strings ss + number_of_strings ts
strings-both [] ts = omega arith
strings-both (StringSort ∷ ss) ts = let e = strings-both ss ts in omega (arith, e)
strings-both (TermSort ∷ ss) ts = strings-both ss ts
strings-both (MarkSort ∷ ss) ts = strings-both ss ts

joined-part : (vs rest : List Value) (x y : PatternPart) → join_of (part_by vs rest x) (part_by vs (drop (length x.sorts) rest) y) ≡ part_by vs rest (joined_patterns x y)
joined-part vs rest x y = λ i. record {
  literals = sym (map-append (pattern_literal vs) x.literals y.literals) i;
  turns = sym (map-append (turn_by vs) x.turns y.turns) i;
  gammas = sym (map-append (pattern_gamma vs) x.gammas y.gammas) i;
  nus = sym (strings-both x.sorts y.sorts) i;
  pis = x.pis + y.pis;
  left_over = record { sides = y.sides; values = (sym (drop-both (length x.sorts) (length y.sorts) rest) ∙ ap (λ k. drop k rest) (sym (length-append x.sorts y.sorts))) i };
}

beta-mirrors : (l : Logic) (vs rest : List Value) (n : ℕ) (second : Supply → Option Part) (body : List Side → ℕ → Option PatternPart) → drop n vs ≡ rest → ((ss : List Side) (m : ℕ) (more : List Value) → drop m vs ≡ more → second (supply ss more) ≡ filled l vs more (body ss m)) → (o : Option PatternPart) → option_and_then (λ (x : Part). option_map (join_of x) (second x.left_over)) (filled l vs rest o) ≡ filled l vs rest (option_and_then (λ (x : PatternPart). option_map (joined_patterns x) (body x.sides (n + length x.sorts))) o)
beta-mirrors l vs rest n second body e k None = refl
beta-mirrors l vs rest n second body e k (Some x) =
    let more = drop (length x.sorts) rest in
    let at : drop (n + length x.sorts) vs ≡ more = drop-both n (length x.sorts) vs ∙ ap (drop (length x.sorts)) e in
    by (takes l x.sorts rest) refl (body x.sides (n + length x.sorts)) (k x.sides (n + length x.sorts) more at)
  where
    by : (b : Bool) → takes l x.sorts rest ≡ b → (o : Option PatternPart) → second (supply x.sides (drop (length x.sorts) rest)) ≡ filled l vs (drop (length x.sorts) rest) o → option_and_then (λ (y : Part). option_map (join_of y) (second y.left_over)) (if b then Some (part_by vs rest x) else None) ≡ filled l vs rest (option_map (joined_patterns x) o)
    by true f None h = ap (option_map (join_of (part_by vs rest x))) h
    by true f (Some y) h = ap (option_map (join_of (part_by vs rest x))) h ∙ inner (takes l y.sorts (drop (length x.sorts) rest)) refl
      where
        inner : (t : Bool) → takes l y.sorts (drop (length x.sorts) rest) ≡ t → option_map (join_of (part_by vs rest x)) (if t then Some (part_by vs (drop (length x.sorts) rest) y) else None) ≡ (if takes l (x.sorts ++ y.sorts) rest then Some (part_by vs rest (joined_patterns x y)) else None)
        inner true g = ap Some (joined-part vs rest x y) ∙ (λ i. if sym (takes-both l x.sorts y.sorts rest ∙ ap₂ (λ a b. a && b) f g) i then Some (part_by vs rest (joined_patterns x y)) else None)
        inner false g = λ i. if sym (takes-both l x.sorts y.sorts rest ∙ ap₂ (λ a b. a && b) f g) i then Some (part_by vs rest (joined_patterns x y)) else None
    by false f None h = refl
    by false f (Some y) h = λ i. if sym (takes-both l x.sorts y.sorts rest ∙ ap (λ a. a && takes l y.sorts (drop (length x.sorts) rest)) f) i then Some (part_by vs rest (joined_patterns x y)) else None

alpha-mirrors : (l : Logic) (vs rest : List Value) (first second : Supply → Option Part) (f g : List Side → Option PatternPart) → ((ss : List Side) → first (supply ss rest) ≡ filled l vs rest (f ss)) → ((ss : List Side) → second (supply ss rest) ≡ filled l vs rest (g ss)) → (ss : List Side) → at_alpha ss first second (supply ss rest) ≡ filled l vs rest (pattern_alpha f g ss)
alpha-mirrors l vs rest first second f g h k [] = refl
alpha-mirrors l vs rest first second f g h k (Left ∷ ss) = h ss
alpha-mirrors l vs rest first second f g h k (Right ∷ ss) = k ss

two-mirrors : (l : Logic) (h : Shape) (k : ℕ) (first second : Body) (f g : PatternBody) → Mirrors l first f → Mirrors l second g → Mirrors l (at_two h k first second) (pattern_two h k f g)
two-mirrors l Alpha k first second f g a b vs c ss n rest e =
    ap (with_turn c.position (map (value_at vs) c.taken)) (alpha-mirrors l vs rest (first (spot_by vs (pattern_down 1 c))) (second (spot_by vs (pattern_down (suc k) c))) (λ ts. f (pattern_down 1 c) ts n) (λ ts. g (pattern_down (suc k) c) ts n) (λ ts. a vs (pattern_down 1 c) ts n rest e) (λ ts. b vs (pattern_down (suc k) c) ts n rest e) ss)
    ∙ turn-filled l vs rest c.position c.taken (pattern_alpha (λ ts. f (pattern_down 1 c) ts n) (λ ts. g (pattern_down (suc k) c) ts n) ss)
two-mirrors l Beta k first second f g a b vs c ss n rest e =
    ap (with_turn c.position (map (value_at vs) c.taken)) (ap (option_and_then (λ (x : Part). option_map (join_of x) (second (spot_by vs (pattern_down (suc k) c)) x.left_over))) (a vs (pattern_down 1 c) ss n rest e) ∙ beta-mirrors l vs rest n (second (spot_by vs (pattern_down (suc k) c))) (g (pattern_down (suc k) c)) e (λ ts m more d. b vs (pattern_down (suc k) c) ts m more d) (f (pattern_down 1 c) ss n))
    ∙ turn-filled l vs rest c.position c.taken (pattern_beta (f (pattern_down 1 c)) (g (pattern_down (suc k) c)) ss n)
two-mirrors l Gamma k first second f g a b vs c ss n rest e = refl
two-mirrors l Delta k first second f g a b vs c ss n rest e = refl
two-mirrors l Literal k first second f g a b vs c ss n rest e = refl

-- ---- quantifiers

gamma-filled : (l : Logic) (vs rest : List Value) (p : Pattern) (ws : List Pattern) (o : Option PatternPart) → with_gamma (term_at vs p) (pattern_label vs ws) (filled l vs rest o) ≡ filled l vs rest (option_map (with_pattern_gamma p ws) o)
gamma-filled l vs rest p ws o = sym (filled-map l vs rest (with_pattern_gamma p ws) (λ (x : Part). record x { gammas = record { term = term_at vs p; label = pattern_label vs ws } ∷ x.gammas }) (λ y. refl) (λ y i. record (part_by vs rest y) { gammas = record { term = term_at vs p; label = pattern_label vs ws } ∷ map (pattern_gamma vs) y.gammas }) o)

map-same : (o : Option Part) → option_map (λ (x : Part). x) o ≡ o
map-same None = refl
map-same (Some x) = refl

gamma-mirrors : (l : Logic) (go : Body) (body : PatternBody) → Mirrors l go body → Mirrors l (at_quantifier Gamma go) (pattern_quantifier Gamma body)
gamma-mirrors l go body k vs c ss n [] e = sym (filled-empty l vs TermSort (pattern_turn c.position (c.taken ++ p_var n ∷ []) (option_map (with_pattern_gamma (p_var n) c.label) (body (pattern_inside (p_var n) (c.taken ++ p_var n ∷ []) c) ss (suc n)))))
gamma-mirrors l go body k vs c ss n (steps w ∷ rest) e = sym (filled-more l vs rest (steps w) TermSort (λ (x : Part). record x { nus = x.nus }) (λ y. refl) (pattern_turn c.position (c.taken ++ p_var n ∷ []) (option_map (with_pattern_gamma (p_var n) c.label) (body (pattern_inside (p_var n) (c.taken ++ p_var n ∷ []) c) ss (suc n)))))
gamma-mirrors l go body k vs c ss n (term t ∷ rest) e =
    let d = drop-next n vs (term t) rest e in
    let ps = c.taken ++ p_var n ∷ [] in
    let inner = pattern_inside (p_var n) ps c in
    let o = body inner ss (suc n) in
    let is_term : term_at vs (p_var n) ≡ t = ap (λ x. as_term (value_of_variable x)) d.0 in
    let is_value : value_at vs (p_var n) ≡ term t = ap (λ x. as_value (value_of_variable x)) d.0 in
    let taken : map (value_at vs) ps ≡ map (value_at vs) c.taken ++ term t ∷ [] = map-append (value_at vs) c.taken (p_var n ∷ []) ∙ ap (λ v. map (value_at vs) c.taken ++ v ∷ []) is_value in
    (λ i. with_turn c.position (sym taken i) (with_gamma (sym is_term i) (pattern_label vs c.label) (go (record { position = c.position + 1; label = pattern_label vs c.label; taken = sym taken i; env = sym is_term i ∷ map (term_at vs) c.env }) (supply ss rest))))
    ∙ ap (λ x. with_turn c.position (map (value_at vs) ps) (with_gamma (term_at vs (p_var n)) (pattern_label vs c.label) x)) (k vs inner ss (suc n) rest d.1)
    ∙ ap (with_turn c.position (map (value_at vs) ps)) (gamma-filled l vs rest (p_var n) c.label o)
    ∙ turn-filled l vs rest c.position ps (option_map (with_pattern_gamma (p_var n) c.label) o)
    ∙ sym (map-same (filled l vs rest (pattern_turn c.position ps (option_map (with_pattern_gamma (p_var n) c.label) o))))
    ∙ sym (filled-more l vs rest (term t) TermSort (λ (x : Part). x) (λ y. refl) (pattern_turn c.position ps (option_map (with_pattern_gamma (p_var n) c.label) o)))

delta-mirrors : (l : Logic) (go : Body) (body : PatternBody) → Mirrors l go body → Mirrors l (at_quantifier Delta go) (pattern_quantifier Delta body)
delta-mirrors l go body k vs c ss n rest e =
    let inner = pattern_inside (p_eigen c.position (patterns_tree c.taken)) c.taken c in
    ap (with_turn c.position (map (value_at vs) c.taken)) ((λ i. go (record { position = c.position + 1; label = pattern_label vs c.label; taken = map (value_at vs) c.taken; env = g_eigen c.position (sym (values-image vs c.taken) i) ∷ map (term_at vs) c.env }) (supply ss rest)) ∙ k vs inner ss n rest e)
    ∙ turn-filled l vs rest c.position c.taken (body inner ss n)

quantifier-mirrors : (l : Logic) (h : Shape) (go : Body) (body : PatternBody) → Mirrors l go body → Mirrors l (at_quantifier h go) (pattern_quantifier h body)
quantifier-mirrors l Gamma go body k = gamma-mirrors l go body k
quantifier-mirrors l Delta go body k = delta-mirrors l go body k
quantifier-mirrors l Alpha go body k = λ vs c ss n rest e. refl
quantifier-mirrors l Beta go body k = λ vs c ss n rest e. refl
quantifier-mirrors l Literal go body k = λ vs c ss n rest e. refl

part-mirrors : (l : Logic) (f : Formula) (s : Sign) → Mirrors l (part_of l f s) (pattern_part l f s)
part-mirrors l (atom p ts) s = modal-mirrors l (modal_of l s (atom p ts)) (at_literal s p ts) (pattern_atom s p ts) (literal-mirrors l s p ts)
part-mirrors l (neg a) s = modal-mirrors l (modal_of l s (neg a)) (at_one (part_of l a (other s))) (pattern_one (pattern_part l a (other s))) (one-mirrors l (part_of l a (other s)) (pattern_part l a (other s)) (part-mirrors l a (other s)))
part-mirrors l (conj a b) s = modal-mirrors l (modal_of l s (conj a b)) (at_two (shape_of s (conj a b)) (size a) (part_of l a s) (part_of l b s)) (pattern_two (shape_of s (conj a b)) (size a) (pattern_part l a s) (pattern_part l b s)) (two-mirrors l (shape_of s (conj a b)) (size a) (part_of l a s) (part_of l b s) (pattern_part l a s) (pattern_part l b s) (part-mirrors l a s) (part-mirrors l b s))
part-mirrors l (disj a b) s = modal-mirrors l (modal_of l s (disj a b)) (at_two (shape_of s (disj a b)) (size a) (part_of l a s) (part_of l b s)) (pattern_two (shape_of s (disj a b)) (size a) (pattern_part l a s) (pattern_part l b s)) (two-mirrors l (shape_of s (disj a b)) (size a) (part_of l a s) (part_of l b s) (pattern_part l a s) (pattern_part l b s) (part-mirrors l a s) (part-mirrors l b s))
part-mirrors l (imp a b) s = modal-mirrors l (modal_of l s (imp a b)) (at_two (shape_of s (imp a b)) (size a) (part_of l a (other s)) (part_of l b s)) (pattern_two (shape_of s (imp a b)) (size a) (pattern_part l a (other s)) (pattern_part l b s)) (two-mirrors l (shape_of s (imp a b)) (size a) (part_of l a (other s)) (part_of l b s) (pattern_part l a (other s)) (pattern_part l b s) (part-mirrors l a (other s)) (part-mirrors l b s))
part-mirrors l (all a) s = modal-mirrors l (modal_of l s (all a)) (at_quantifier (shape_of s (all a)) (part_of l a s)) (pattern_quantifier (shape_of s (all a)) (pattern_part l a s)) (quantifier-mirrors l (shape_of s (all a)) (part_of l a s) (pattern_part l a s) (part-mirrors l a s))
part-mirrors l (ex a) s = modal-mirrors l (modal_of l s (ex a)) (at_quantifier (shape_of s (ex a)) (part_of l a s)) (pattern_quantifier (shape_of s (ex a)) (pattern_part l a s)) (quantifier-mirrors l (shape_of s (ex a)) (part_of l a s) (pattern_part l a s) (part-mirrors l a s))
part-mirrors l (box a) s = modal-mirrors l (modal_of l s (box a)) (at_one (part_of l a s)) (pattern_one (pattern_part l a s)) (one-mirrors l (part_of l a s) (pattern_part l a s) (part-mirrors l a s))
part-mirrors l (dia a) s = modal-mirrors l (modal_of l s (dia a)) (at_one (part_of l a s)) (pattern_one (pattern_part l a s)) (one-mirrors l (part_of l a s) (pattern_part l a s) (part-mirrors l a s))

-- ---- the template of a selection

-- the values are exactly those that the sorts take
takes-all : (l : Logic) (ss : List Sort) (vs : List Value) → (takes l ss vs && is_empty (drop (length ss) vs)) ≡ (have_sorts ss vs && list_all (is_step_value l) vs)
takes-all l [] [] = refl
takes-all l [] (v ∷ vs) = refl
takes-all l (s ∷ ss) [] = refl
takes-all l (s ∷ ss) (v ∷ vs) = by (has_value_sort s v) (is_step_value l v) (takes l ss vs) (is_empty (drop (length ss) vs)) (have_sorts ss vs) (list_all (is_step_value l) vs) (takes-all l ss vs)
  where
    by : (a b c d e f : Bool) → (c && d) ≡ (e && f) → ((a && b && c) && d) ≡ ((a && e) && (b && f))
    by true true c d e f h = h
    by true false c d true f h = refl
    by true false c d false f h = refl
    by false b c d e f h = refl

-- the test of a template's values
abbrev takes_values : Problem → List Sort → List Value → Bool
takes_values P ss vs = have_sorts ss vs && is_choice_of_values P vs

whole-by : (l : Logic) (vs : List Value) (y : PatternPart) → y.sides ≡ [] → option_and_then if_used_up (if takes l y.sorts vs then Some (part_by vs vs y) else None) ≡ (if takes l y.sorts vs && is_empty (drop (length y.sorts) vs) then Some (part_by vs vs y) else None)
whole-by l vs y e = by (takes l y.sorts vs) (is_empty (drop (length y.sorts) vs)) refl
  where
    by : (a b : Bool) → is_empty (drop (length y.sorts) vs) ≡ b → option_and_then if_used_up (if a then Some (part_by vs vs y) else None) ≡ (if a && b then Some (part_by vs vs y) else None)
    by true b f = λ i. if (ap (λ (xs : List Side). is_empty xs && is_empty (drop (length y.sorts) vs)) e ∙ f) i then Some (part_by vs vs y) else None
    by false b f = refl

both-tests : (a b c d : Bool) → b ≡ (c && d) → (o : Part) → (if a then (if b then Some o else None) else None) ≡ (if c && (a && d) then Some o else None)
both-tests true b c d e o = λ i. if e i then Some o else None
both-tests false b true d e o = refl
both-tests false b false d e o = refl

instance-mirrored : (P : Problem) (sides : List Side) (y : PatternPart) → pattern_part P.setting.logic P.formula F root_pattern_spot sides 0 ≡ Some y → y.sides ≡ [] → (vs : List Value) → instance_of P sides vs ≡ (if takes_values P y.sorts vs then Some (part_by vs vs y) else None)
instance-mirrored P sides y e sides_used vs =
    let l = P.setting.logic in
    let m : part_of l P.formula F root_spot (supply sides vs) ≡ (if takes l y.sorts vs then Some (part_by vs vs y) else None) = part-mirrors l P.formula F vs root_pattern_spot sides 0 vs refl ∙ ap (filled l vs vs) e in
    (λ i. if list_all (is_admitted_value P) vs then (ap (option_and_then if_used_up) m ∙ whole-by l vs y sides_used) i else None)
    ∙ both-tests (list_all (is_admitted_value P) vs) (takes l y.sorts vs && is_empty (drop (length y.sorts) vs)) (have_sorts y.sorts vs) (list_all (is_step_value l) vs) (takes-all l y.sorts vs) (part_by vs vs y)

template-of-part : (P : Problem) (sides : List Side) (y : PatternPart) → IsTrue (formula_fits P.setting.logic P.symbols 0 P.formula) → pattern_part P.setting.logic P.formula F root_pattern_spot sides 0 ≡ Some y → y.sides ≡ [] → IsTemplateOf P sides (template_by y)
template-of-part P sides y fits e sides_used = record {
  instances = λ vs xs. ((λ h. there vs xs h), (λ h. back vs xs h));
  gammas = λ vs x h. ap (λ (p : Part). p.gammas) (found vs x h);
  pis = λ vs x h. ap (λ (p : Part). p.pis) (found vs x h);
  strings = refl;
  fits = template-part_fits P sides y fits e;
}
  where
    tested : (vs : List Value) (b : Bool) → takes_values P y.sorts vs ≡ b → instance_of P sides vs ≡ (if b then Some (part_by vs vs y) else None)
    tested vs b f = instance-mirrored P sides y e sides_used vs ∙ (λ i. if f i then Some (part_by vs vs y) else None)

    test_of : (vs : List Value) (xs : List GroundLiteral) → Option Part → Bool
    test_of vs xs o = option_map_or (λ (x : Part). list_eq literal_eq x.literals xs) o false

    there : (vs : List Value) (xs : List GroundLiteral) → IsTrue (is_instance P (clause_by sides vs xs)) → IsTrue (takes_values P y.sorts vs) × (xs ≡ literals_by vs (template_by y))
    there vs xs h = elim (cases_Bool (takes_values P y.sorts vs)) [
      | inl f ↦ (f, sym ((list_eq-tells literal_eq literal_eq-tells (map (pattern_literal vs) y.literals) xs).0 (sym (ap (λ o. option_map_or (λ (x : Part). list_eq literal_eq x.literals xs) o false) (tested vs true f)) ∙ h)))
      | inr f ↦ absurd (false≢true (sym (ap (λ o. option_map_or (λ (x : Part). list_eq literal_eq x.literals xs) o false) (tested vs false f)) ∙ h))
    ]

    back : (vs : List Value) (xs : List GroundLiteral) → IsTrue (takes_values P y.sorts vs) × (xs ≡ literals_by vs (template_by y)) → IsTrue (is_instance P (clause_by sides vs xs))
    back vs xs (f, g) = ap (λ o. option_map_or (λ (x : Part). list_eq literal_eq x.literals xs) o false) (tested vs true f) ∙ (list_eq-tells literal_eq literal_eq-tells (map (pattern_literal vs) y.literals) xs).1 (sym g)

    found : (vs : List Value) (x : Part) → instance_of P sides vs ≡ Some x → x ≡ part_by vs vs y
    found vs x h = elim (cases_Bool (takes_values P y.sorts vs)) [
      | inl f ↦ (let q : Some (part_by vs vs y) ≡ Some x = sym (tested vs true f) ∙ h in let r : part_by vs vs y ≡ x = cc q in sym r)
      | inr f ↦ (let q : None ≡ Some x = sym (tested vs false f) ∙ h in cc q)
    ]

-- the template that is computed is right
pub template_of-right : (P : Problem) (sides : List Side) (t : Template) → IsTrue (formula_fits P.setting.logic P.symbols 0 P.formula) → template_of P sides ≡ Some t → IsTemplateOf P sides t
template_of-right P sides t fits e = by (pattern_part P.setting.logic P.formula F root_pattern_spot sides 0) refl e
  where
    used : (y : PatternPart) → pattern_part P.setting.logic P.formula F root_pattern_spot sides 0 ≡ Some y → (ss : List Side) → y.sides ≡ ss → if_sides_used y ss ≡ Some t → IsTemplateOf P sides t
    used y f [] g h = let q : template_by y ≡ t = cc h in subst (IsTemplateOf P sides) q (template-of-part P sides y fits f g)
    used y f (s ∷ ss) g h = cc h

    by : (o : Option PatternPart) → pattern_part P.setting.logic P.formula F root_pattern_spot sides 0 ≡ o → option_and_then (λ (y : PatternPart). if_sides_used y y.sides) o ≡ Some t → IsTemplateOf P sides t
    by None f h = cc h
    by (Some y) f h = used y f y.sides refl h
