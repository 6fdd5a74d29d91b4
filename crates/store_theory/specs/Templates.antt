-- Clause templates: the matrix of a first-order problem as clauses over variables (leanCoP's matrix in Skolemised form, Otten's
-- prefixed clauses), and the ground clauses that they stand for.
use Rattle.std.specs.Prelude.{◌≡◌, ◌↔◌, ℕ, ◌+◌, List, [], ◌∷◌, ◌++◌, map, Bool, true, false, ◌&&◌, Option, Some, None, slice_get, length, IsTrue}
use Rattle.std.specs.List.{list_all}
use Rattle.calculus.specs.declared.sign.Side.{Side}
use Rattle.calculus.specs.declared.sort.Sort.{Sort}
use Rattle.calculus.specs.declared.sort.Sort.TheVariants.{TermSort, StringSort}
use Rattle.calculus.specs.declared.setting.Logic.{Logic}
use Rattle.calculus.specs.Syntax.{Problem}
use Rattle.calculus.specs.Ground.{GroundTerm, GroundTerms, GroundMark, Value, Values, g_fun, g_eigen, common, g_new_mark, no_g_terms, more_g_terms, term, steps, no_values, more_values, marks_list, marks_tree, GroundLiteral}
use Rattle.calculus.specs.Skolem.{is_admitted_value}
use Rattle.calculus.specs.Instances.{GammaUse, ClauseInstance}
use Rattle.calculus.specs.ComputedInstances.{Part, instance_of, is_instance}
use Rattle.store_theory.specs.Stores.{CellValue, a_term, a_mark, a_string}
use Rattle.calculus.specs.Labels.{is_step_length}
use Rattle.store_theory.specs.Patterns.{Pattern, Patterns, p_var, p_fun, p_eigen, p_new, no_patterns, more_patterns, patterns_tree, PatternAtom, PatternGamma, Template, template_fits}

-- ---- what patterns stand for

-- a value of a sort that its place does not ask for counts as the value given second
abbrev pub as_term : CellValue → GroundTerm
as_term (a_term t) = t
as_term _ = common 0

abbrev pub as_value : CellValue → Value
as_value (a_term t) = term t
as_value (a_string w) = steps (marks_tree w)
as_value (a_mark m) = term (common 0)

abbrev pub as_label : CellValue → List GroundMark
as_label (a_mark m) = m ∷ []
as_label (a_string w) = w
as_label (a_term t) = []

abbrev pub cell_value : Value → CellValue
cell_value (term t) = a_term t
cell_value (steps w) = a_string (marks_list w)

-- the value of a variable
abbrev pub value_of_variable : Option Value → CellValue
value_of_variable None = a_term (common 0)
value_of_variable (Some v) = cell_value v

-- the value of a pattern by the values of its variables
abbrev mutual
  pub pattern_value : List Value → Pattern → CellValue
  pattern_value vs (p_var k) = value_of_variable (slice_get vs k)
  pattern_value vs (p_fun f ps) = a_term (g_fun f (pattern_terms vs ps))
  pattern_value vs (p_eigen p ps) = a_term (g_eigen p (pattern_values vs ps))
  pattern_value vs (p_new p ps) = a_mark (g_new_mark p (pattern_values vs ps))

  pub pattern_terms : List Value → Patterns → GroundTerms
  pattern_terms vs no_patterns = no_g_terms
  pattern_terms vs (more_patterns p ps) = more_g_terms (as_term (pattern_value vs p)) (pattern_terms vs ps)

  pub pattern_values : List Value → Patterns → Values
  pattern_values vs no_patterns = no_values
  pattern_values vs (more_patterns p ps) = more_values (as_value (pattern_value vs p)) (pattern_values vs ps)

-- the label that patterns join
abbrev pub pattern_label : List Value → List Pattern → List GroundMark
pattern_label vs [] = []
pattern_label vs (p ∷ ps) = as_label (pattern_value vs p) ++ pattern_label vs ps

abbrev pub pattern_literal : List Value → PatternAtom → GroundLiteral
pattern_literal vs a = record { sign = a.sign; symbol = a.symbol; args = pattern_terms vs (patterns_tree a.args); label = pattern_label vs a.label }

abbrev pub pattern_gamma : List Value → PatternGamma → GammaUse
pattern_gamma vs g = record { term = as_term (pattern_value vs g.term); label = pattern_label vs g.label }

-- the literals and the gamma terms of the ground clause by these values
abbrev pub literals_by : List Value → Template → List GroundLiteral
literals_by vs t = map (λ (a : PatternAtom). pattern_literal vs a) t.literals

abbrev pub gammas_by : List Value → Template → List GammaUse
gammas_by vs t = map (λ (g : PatternGamma). pattern_gamma vs g) t.gammas

-- ---- which values a template takes

-- the value is of the sort
abbrev pub has_value_sort : Sort → Value → Bool
has_value_sort TermSort (term t) = true
has_value_sort StringSort (steps w) = true
has_value_sort _ _ = false

-- one value of its sort for each variable
abbrev pub have_sorts : List Sort → List Value → Bool
have_sorts [] [] = true
have_sorts (s ∷ ss) (v ∷ vs) = has_value_sort s v && have_sorts ss vs
have_sorts _ _ = false

-- a string is a step of the logic by its length alone
abbrev pub is_step_value : Logic → Value → Bool
is_step_value l (term t) = true
is_step_value l (steps w) = is_step_length l (length (marks_list w))

-- the values are admitted, and the strings are steps of the logic
abbrev pub is_choice_of_values : Problem → List Value → Bool
is_choice_of_values P vs = list_all (is_admitted_value P) vs && list_all (is_step_value P.setting.logic) vs

abbrev pub clause_by : List Side → List Value → List GroundLiteral → ClauseInstance
clause_by sides vs xs = record { selection = sides; values = vs; literals = xs }

-- the numbers of the variables of sort string, in order
abbrev pub strings_from : ℕ → List Sort → List Pattern
strings_from n [] = []
strings_from n (StringSort ∷ ss) = p_var n ∷ strings_from (n + 1) ss
strings_from n (_ ∷ ss) = strings_from (n + 1) ss

-- the template stands for the instances of a selection, allowed or not: variables are numbered in the order of an instance's values
pub record IsTemplateOf (P : Problem) (sides : List Side) (t : Template) : Type 0 where
  -- its ground clauses by values of the right sorts that are admitted, and whose strings are steps, are the instances
  pub instances : (vs : List Value) (xs : List GroundLiteral) → IsTrue (is_instance P (clause_by sides vs xs)) ↔ (IsTrue (have_sorts t.sorts vs && is_choice_of_values P vs) × (xs ≡ literals_by vs t))
  -- its gamma terms and its pi steps are those of the instances, and its strings are its variables of this sort
  pub gammas : (vs : List Value) (x : Part) → instance_of P sides vs ≡ Some x → x.gammas ≡ gammas_by vs t
  pub pis : (vs : List Value) (x : Part) → instance_of P sides vs ≡ Some x → x.pis ≡ t.pis
  pub strings : t.strings ≡ strings_from 0 t.sorts
  -- each variable has a sort, and each pattern that of its place
  pub fits : IsTrue (template_fits t)
