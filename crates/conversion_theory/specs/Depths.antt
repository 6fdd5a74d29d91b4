-- How deep lists of ground values stand inside one another: a list is one deeper than the deepest list that its items hold.
use Rattle.std.specs.Prelude.{ℕ, suc, max, List}
use Rattle.calculus.specs.Ground.{GroundTerm, GroundTerms, GroundMark, Marks, Value, Values, g_fun, g_eigen, common, own, no_g_terms, more_g_terms, g_new_mark, g_spare_mark, no_marks, more_marks, term, steps, no_values, more_values, values_tree}
use Rattle.conversion_theory.specs.Turns.{Name, term_name, mark_name}

-- of a term, a mark and a value that of the list which it holds
abbrev mutual
  pub term_depth : GroundTerm → ℕ
  term_depth (g_fun f ts) = terms_depth ts
  term_depth (g_eigen p vs) = values_depth vs
  term_depth (common k) = 0
  term_depth (own k w) = marks_depth w

  pub terms_depth : GroundTerms → ℕ
  terms_depth no_g_terms = 0
  terms_depth (more_g_terms t ts) = max (suc (term_depth t)) (terms_depth ts)

  pub mark_depth : GroundMark → ℕ
  mark_depth (g_new_mark p vs) = values_depth vs
  mark_depth (g_spare_mark k) = 0

  pub marks_depth : Marks → ℕ
  marks_depth no_marks = 0
  marks_depth (more_marks m ms) = max (suc (mark_depth m)) (marks_depth ms)

  pub value_depth : Value → ℕ
  value_depth (term t) = term_depth t
  value_depth (steps w) = marks_depth w

  pub values_depth : Values → ℕ
  values_depth no_values = 0
  values_depth (more_values v vs) = max (suc (value_depth v)) (values_depth vs)

abbrev pub value_list_depth : List Value → ℕ
value_list_depth vs = values_depth (values_tree vs)

-- of a name that of what is inside it
abbrev pub inner_depth : Name → ℕ
inner_depth (term_name t) = term_depth t
inner_depth (mark_name m) = mark_depth m
