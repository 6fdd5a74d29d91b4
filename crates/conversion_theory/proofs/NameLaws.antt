-- A name is larger than the names inside it, and so are the values of a turn than the names that it mentions.
use Rattle.std.proofs.Common.{◌≡◌, ◌⊎◌, ℕ, Bool, true, false, if◌then◌else◌, suc, ◌+◌, List, [], ◌∷◌, flat_map, refl, sym, inl, inr, arith}
use Rattle.calculus.specs.Syntax.{Problem}
use Rattle.calculus.specs.Ground.{GroundTerm, GroundTerms, GroundMark, Marks, Value, Values, g_fun, g_eigen, common, own, no_g_terms, more_g_terms, g_new_mark, g_spare_mark, no_marks, more_marks, term, steps, no_values, more_values, values_tree}
use Rattle.calculus.specs.Sizes.{g_term_size, g_terms_size, mark_size, marks_size, value_size, values_size}
use Rattle.calculus.specs.Skolem.{is_delta_position, is_pi_position}
use Rattle.calculus.specs.Instances.{Turn}
use Rattle.conversion_theory.specs.Turns.{Name, term_name, mark_name, names_of_term, names_of_terms, names_of_mark, names_of_marks, names_of_value, names_of_values, names_of_home, names_mentioned, names_introduced}
use Rattle.calculus.proofs.Members.{Among, among-left, among-right, among-append, joined-among}
use Rattle.conversion_theory.proofs.BelowLaws.{Below, below-append, below-cons, below-none, below-more}

-- the size of the values inside a name
abbrev pub inner_size : Name → ℕ
inner_size (term_name (g_eigen p vs)) = values_size vs
inner_size (term_name (own k w)) = marks_size w
inner_size (term_name t) = 0
inner_size (mark_name (g_new_mark p vs)) = values_size vs
inner_size (mark_name (g_spare_mark k)) = 0

mutual
  pub below-term : (t : GroundTerm) → Below inner_size (g_term_size t) (names_of_term t)
  below-term (g_fun f ts) = below-more inner_size (g_terms_size ts) (suc (g_terms_size ts)) (names_of_terms ts) (below-terms ts) (omega arith)
  below-term (g_eigen p vs) = below-cons inner_size (term_name (g_eigen p vs)) (values_size vs) (suc (values_size vs)) (names_of_values vs) (omega arith) (below-values vs) (omega arith)
  below-term (common k) = below-cons inner_size (term_name (common k)) 0 1 [] (omega arith) (below-none inner_size 0) (omega arith)
  below-term (own k w) = below-cons inner_size (term_name (own k w)) (marks_size w) (suc (marks_size w)) (names_of_marks w) (omega arith) (below-marks w) (omega arith)

  below-terms : (ts : GroundTerms) → Below inner_size (g_terms_size ts) (names_of_terms ts)
  below-terms no_g_terms = below-none inner_size 0
  below-terms (more_g_terms t ts) = below-append inner_size (g_term_size t) (g_terms_size ts) (suc (g_term_size t + g_terms_size ts)) (names_of_term t) (names_of_terms ts) (below-term t) (below-terms ts) (omega arith) (omega arith)

  pub below-mark : (m : GroundMark) → Below inner_size (mark_size m) (names_of_mark m)
  below-mark (g_new_mark p vs) = below-cons inner_size (mark_name (g_new_mark p vs)) (values_size vs) (suc (values_size vs)) (names_of_values vs) (omega arith) (below-values vs) (omega arith)
  below-mark (g_spare_mark k) = below-cons inner_size (mark_name (g_spare_mark k)) 0 1 [] (omega arith) (below-none inner_size 0) (omega arith)

  pub below-marks : (w : Marks) → Below inner_size (marks_size w) (names_of_marks w)
  below-marks no_marks = below-none inner_size 0
  below-marks (more_marks m ms) = below-append inner_size (mark_size m) (marks_size ms) (suc (mark_size m + marks_size ms)) (names_of_mark m) (names_of_marks ms) (below-mark m) (below-marks ms) (omega arith) (omega arith)

  below-value : (v : Value) → Below inner_size (value_size v) (names_of_value v)
  below-value (term t) = below-more inner_size (g_term_size t) (suc (g_term_size t)) (names_of_term t) (below-term t) (omega arith)
  below-value (steps w) = below-more inner_size (marks_size w) (suc (marks_size w)) (names_of_marks w) (below-marks w) (omega arith)

  pub below-values : (vs : Values) → Below inner_size (values_size vs) (names_of_values vs)
  below-values no_values = below-none inner_size 0
  below-values (more_values v vs) = below-append inner_size (value_size v) (values_size vs) (suc (value_size v + values_size vs)) (names_of_value v) (names_of_values vs) (below-value v) (below-values vs) (omega arith) (omega arith)

-- ---- names in homes

-- those that it introduces are as large
abbrev one_if : Bool → Name → List Name
one_if b x = if b then x ∷ [] else []

among-one_if : (b : Bool) (x n : Name) → Among (one_if b x) n → (b ≡ true) × (x ≡ n)
among-one_if true x n (inl e) = (refl, e)
among-one_if true x n (inr h) = elim h [ ]
among-one_if false x n h = elim h [ ]

-- the two names that a turn may introduce
pub introduced-cases : (P : Problem) (y : Turn) (n : Name) → Among (names_introduced P y) n → ((is_delta_position P y.position ≡ true) × (n ≡ term_name (g_eigen y.position (values_tree y.values)))) ⊎ ((is_pi_position P y.position ≡ true) × (n ≡ mark_name (g_new_mark y.position (values_tree y.values))))
introduced-cases P y n h = elim (among-append (one_if (is_delta_position P y.position) (term_name (g_eigen y.position (values_tree y.values)))) (one_if (is_pi_position P y.position) (mark_name (g_new_mark y.position (values_tree y.values)))) n h) [
  | inl k ↦ let r = among-one_if (is_delta_position P y.position) (term_name (g_eigen y.position (values_tree y.values))) n k in inl (r.0, sym r.1)
  | inr k ↦ let r = among-one_if (is_pi_position P y.position) (mark_name (g_new_mark y.position (values_tree y.values))) n k in inr (r.0, sym r.1)
]

one-here : (b : Bool) (x : Name) → b ≡ true → Among (one_if b x) x
one-here true x e = inl refl
one-here false x e = absurd cc

-- a delta position's turn introduces its eigenvariable, a pi position's its character
pub introduced-eigen : (P : Problem) (y : Turn) → is_delta_position P y.position ≡ true → Among (names_introduced P y) (term_name (g_eigen y.position (values_tree y.values)))
introduced-eigen P y e = among-left (one_if (is_delta_position P y.position) (term_name (g_eigen y.position (values_tree y.values)))) (one_if (is_pi_position P y.position) (mark_name (g_new_mark y.position (values_tree y.values)))) (term_name (g_eigen y.position (values_tree y.values))) (one-here (is_delta_position P y.position) (term_name (g_eigen y.position (values_tree y.values))) e)

pub introduced-mark : (P : Problem) (y : Turn) → is_pi_position P y.position ≡ true → Among (names_introduced P y) (mark_name (g_new_mark y.position (values_tree y.values)))
introduced-mark P y e = among-right (one_if (is_delta_position P y.position) (term_name (g_eigen y.position (values_tree y.values)))) (one_if (is_pi_position P y.position) (mark_name (g_new_mark y.position (values_tree y.values)))) (mark_name (g_new_mark y.position (values_tree y.values))) (one-here (is_pi_position P y.position) (mark_name (g_new_mark y.position (values_tree y.values))) e)

-- what stands in a value of a turn is mentioned
pub mentioned-value : (P : Problem) (x : Turn) (v : Value) (n : Name) → Among x.values v → Among (names_of_value v) n → Among (names_mentioned P x) n
mentioned-value P x v n h k = among-left (flat_map names_of_value x.values) (flat_map (names_of_home P) (flat_map names_of_value x.values)) n (joined-among names_of_value x.values v n h k)

-- and so is what stands in the home of a name there
pub mentioned-home : (P : Problem) (x : Turn) (v : Value) (n m : Name) → Among x.values v → Among (names_of_value v) n → Among (names_of_home P n) m → Among (names_mentioned P x) m
mentioned-home P x v n m h k i = among-right (flat_map names_of_value x.values) (flat_map (names_of_home P) (flat_map names_of_value x.values)) m (joined-among (names_of_home P) (flat_map names_of_value x.values) n m (joined-among names_of_value x.values v n h k) i)
