-- A name is deeper than the names inside it, and so are the values of a turn than the names that it mentions.
use Rattle.std.proofs.Common.{◌≡◌, ℕ, suc, max, ◌<◌, ◌≤◌, List, [], ◌∷◌, ◌++◌, flat_map, ap, subst, inl, inr, arith}
use Rattle.calculus.specs.Syntax.{Problem}
use Rattle.calculus.specs.Ground.{GroundTerm, GroundTerms, GroundMark, Marks, Value, Values, g_fun, g_eigen, common, own, no_g_terms, more_g_terms, g_new_mark, g_spare_mark, no_marks, more_marks, term, steps, no_values, more_values, marks_list, values_list}
use Rattle.calculus.specs.Lists.{values_tree-values_list}
use Rattle.calculus.specs.Skolem.{label_of}
use Rattle.calculus.specs.Instances.{Turn}
use Rattle.calculus.proofs.Members.{Among, among-append, among-joined}
use Rattle.conversion_theory.specs.Depths.{term_depth, terms_depth, mark_depth, marks_depth, value_depth, values_depth, value_list_depth, inner_depth}
use Rattle.conversion_theory.specs.Numbering.{names_inside}
use Rattle.conversion_theory.specs.Turns.{Name, term_name, mark_name, names_of_term, names_of_terms, names_of_mark, names_of_marks, names_of_value, names_of_values, names_of_home, names_mentioned, names_introduced}
use Rattle.conversion_theory.proofs.BelowLaws.{Below, below-append, below-cons, below-none, below-more}
use Rattle.conversion_theory.proofs.HomeMarks.{Each, each-label}
use Rattle.conversion_theory.proofs.NameLaws.{introduced-cases}

-- the deepest of an item and of the others
one-left : (a b : ℕ) → suc a ≤ max (suc a) b
one-left a b = omega arith

one-right : (a b : ℕ) → b ≤ max (suc a) b
one-right a b = omega arith

mutual
  pub below-term : (t : GroundTerm) → Below inner_depth (suc (term_depth t)) (names_of_term t)
  below-term (g_fun f ts) = below-more inner_depth (terms_depth ts) (suc (terms_depth ts)) (names_of_terms ts) (below-terms ts) (omega arith)
  below-term (g_eigen p vs) = below-cons inner_depth (term_name (g_eigen p vs)) (values_depth vs) (suc (values_depth vs)) (names_of_values vs) (omega arith) (below-values vs) (omega arith)
  below-term (common k) = below-cons inner_depth (term_name (common k)) 0 1 [] (omega arith) (below-none inner_depth 0) (omega arith)
  below-term (own k w) = below-cons inner_depth (term_name (own k w)) (marks_depth w) (suc (marks_depth w)) (names_of_marks w) (omega arith) (below-marks w) (omega arith)

  below-terms : (ts : GroundTerms) → Below inner_depth (terms_depth ts) (names_of_terms ts)
  below-terms no_g_terms = below-none inner_depth 0
  below-terms (more_g_terms t ts) = below-append inner_depth (suc (term_depth t)) (terms_depth ts) (max (suc (term_depth t)) (terms_depth ts)) (names_of_term t) (names_of_terms ts) (below-term t) (below-terms ts) (one-left (term_depth t) (terms_depth ts)) (one-right (term_depth t) (terms_depth ts))

  pub below-mark : (m : GroundMark) → Below inner_depth (suc (mark_depth m)) (names_of_mark m)
  below-mark (g_new_mark p vs) = below-cons inner_depth (mark_name (g_new_mark p vs)) (values_depth vs) (suc (values_depth vs)) (names_of_values vs) (omega arith) (below-values vs) (omega arith)
  below-mark (g_spare_mark k) = below-cons inner_depth (mark_name (g_spare_mark k)) 0 1 [] (omega arith) (below-none inner_depth 0) (omega arith)

  pub below-marks : (w : Marks) → Below inner_depth (marks_depth w) (names_of_marks w)
  below-marks no_marks = below-none inner_depth 0
  below-marks (more_marks m ms) = below-append inner_depth (suc (mark_depth m)) (marks_depth ms) (max (suc (mark_depth m)) (marks_depth ms)) (names_of_mark m) (names_of_marks ms) (below-mark m) (below-marks ms) (one-left (mark_depth m) (marks_depth ms)) (one-right (mark_depth m) (marks_depth ms))

  below-value : (v : Value) → Below inner_depth (suc (value_depth v)) (names_of_value v)
  below-value (term t) = below-term t
  below-value (steps w) = below-more inner_depth (marks_depth w) (suc (marks_depth w)) (names_of_marks w) (below-marks w) (omega arith)

  pub below-values : (vs : Values) → Below inner_depth (values_depth vs) (names_of_values vs)
  below-values no_values = below-none inner_depth 0
  below-values (more_values v vs) = below-append inner_depth (suc (value_depth v)) (values_depth vs) (max (suc (value_depth v)) (values_depth vs)) (names_of_value v) (names_of_values vs) (below-value v) (below-values vs) (one-left (value_depth v) (values_depth vs)) (one-right (value_depth v) (values_depth vs))

pub below-value_list : (vs : List Value) → Below inner_depth (value_list_depth vs) (flat_map names_of_value vs)
below-value_list [] = below-none inner_depth 0
below-value_list (v ∷ vs) = below-append inner_depth (suc (value_depth v)) (value_list_depth vs) (max (suc (value_depth v)) (value_list_depth vs)) (names_of_value v) (flat_map names_of_value vs) (below-value v) (below-value_list vs) (one-left (value_depth v) (value_list_depth vs)) (one-right (value_depth v) (value_list_depth vs))

-- a name inside a name is less deep
pub inside-less_deep : (n m : Name) → Among (names_inside n) m → inner_depth m < inner_depth n
inside-less_deep (term_name (g_eigen p vs)) m i = below-values vs m i
inside-less_deep (term_name (own k w)) m i = below-marks w m i
inside-less_deep (term_name (g_fun f ts)) m i = elim i [ ]
inside-less_deep (term_name (common k)) m i = elim i [ ]
inside-less_deep (mark_name (g_new_mark p vs)) m i = below-values vs m i
inside-less_deep (mark_name (g_spare_mark k)) m i = elim i [ ]

-- ---- beginnings of lists of values

pub depth-append : (xs ys : List Value) → value_list_depth (xs ++ ys) ≡ max (value_list_depth xs) (value_list_depth ys)
depth-append [] ys = omega arith
depth-append (x ∷ xs) ys = let h = depth-append xs ys in omega arith

-- ---- names in homes

depth-in-string : (w : Marks) → Each (λ m. mark_depth m ≤ marks_depth w) (marks_list w)
depth-in-string no_marks m i = elim i [ ]
depth-in-string (more_marks x ms) m (inl e) = let h : mark_depth x ≤ max (suc (mark_depth x)) (marks_depth ms) = omega arith in subst (λ y. mark_depth y ≤ max (suc (mark_depth x)) (marks_depth ms)) e h
depth-in-string (more_marks x ms) m (inr i) = let h = depth-in-string ms m i in omega arith

within-label : (P : Problem) (p : ℕ) (vs : List Value) → Each (λ m. mark_depth m ≤ value_list_depth vs) (label_of P p vs)
within-label P p vs = each-label (λ m. mark_depth m ≤ value_list_depth vs) vs (record {
  given = λ us ws s e m i. (let h = depth-in-string s m i in let whole = ap value_list_depth e in let parts = depth-append us (steps s ∷ ws) in omega arith);
  made = λ q us ws e. (let whole = ap value_list_depth e in let parts = depth-append us ws in omega arith);
}) P p

pub below-home : (P : Problem) (m n : Name) → Among (names_of_home P m) n → inner_depth n ≤ inner_depth m
below-home P (term_name (g_eigen p vs)) n h =
    let found = among-joined names_of_mark (label_of P p (values_list vs)) n h in
    let le = within-label P p (values_list vs) found.0 found.1 in
    let lt = below-mark found.0 n found.2 in
    let same = ap values_depth (values_tree-values_list vs) in
    omega arith
below-home P (term_name (g_fun f ts)) n h = elim h [ ]
below-home P (term_name (common k)) n h = elim h [ ]
below-home P (term_name (own k w)) n h = elim h [ ]
below-home P (mark_name m) n h = elim h [ ]

-- the names that a turn mentions are less deep than its values
pub below-mentioned : (P : Problem) (x : Turn) → Below inner_depth (value_list_depth x.values) (names_mentioned P x)
below-mentioned P x n h = elim (among-append (flat_map names_of_value x.values) (flat_map (names_of_home P) (flat_map names_of_value x.values)) n h) [
  | inl k ↦ below-value_list x.values n k
  | inr k ↦
      let found = among-joined (names_of_home P) (flat_map names_of_value x.values) n k in
      let lt = below-value_list x.values found.0 found.1 in
      let le = below-home P found.0 n found.2 in
      omega arith
]

-- those that it introduces are as deep
pub depth-introduced : (P : Problem) (y : Turn) (n : Name) → Among (names_introduced P y) n → inner_depth n ≡ value_list_depth y.values
depth-introduced P y n h = elim (introduced-cases P y n h) [ inl e ↦ ap inner_depth e.1 | inr e ↦ ap inner_depth e.1 ]
