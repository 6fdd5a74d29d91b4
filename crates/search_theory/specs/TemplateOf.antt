-- The template of a selection, computed: variables take the places of an instance's values.
use Rattle.std.specs.Prelude.{ℕ, suc, ◌+◌, List, [], ◌∷◌, ◌++◌, length, Option, Some, None, option_map, option_and_then, slice_index_or}
use Rattle.calculus.specs.declared.sign.Sign.{Sign}
use Rattle.calculus.specs.declared.sign.Sign.TheVariants.{F}
use Rattle.calculus.specs.declared.sign.Side.{Side}
use Rattle.calculus.specs.declared.sign.Side.TheVariants.{Left, Right}
use Rattle.calculus.specs.declared.sort.Sort.{Sort}
use Rattle.calculus.specs.declared.sort.Sort.TheVariants.{TermSort, StringSort}
use Rattle.calculus.specs.declared.setting.Logic.{Logic}
use Rattle.calculus.specs.declared.kind.Shape.{Shape}
use Rattle.calculus.specs.declared.kind.Shape.TheVariants.{Alpha, Beta, Gamma, Delta}
use Rattle.calculus.specs.declared.kind.ModalPart.{ModalPart}
use Rattle.calculus.specs.declared.kind.ModalPart.TheVariants.{Plain, Nu, Pi}
use Rattle.calculus.specs.Syntax.{Term, Terms, var, fun, eigen, spare, no_terms, more_terms, Formula, atom, neg, conj, disj, imp, all, ex, box, dia, Problem}
use Rattle.calculus.specs.Kinds.{other, shape_of, modal_of}
use Rattle.calculus.specs.Labels.{pi_label}
use Rattle.calculus.specs.Positions.{size}
use Rattle.store_theory.specs.Patterns.{patterns_tree, Pattern, p_var, p_fun, p_eigen, p_new, no_patterns, PatternAtom, PatternGamma, Template}
use Rattle.store_theory.specs.Templates.{strings_from}

-- where a signed formula stands: its position, its label, the variables on the way to it, and the patterns for the bound variables
pub record PatternSpot : Type 0 where
  pub position : ℕ
  pub label : List Pattern
  pub taken : List Pattern
  pub env : List Pattern

abbrev pub root_pattern_spot : PatternSpot
root_pattern_spot = record { position = 0; label = []; taken = []; env = [] }

-- a position that is reached, and the variables on the way to it
pub record PatternTurn : Type 0 where
  pub position : ℕ
  pub values : List Pattern

-- what a part of the formula contributes, the sorts of the variables that it uses, and the sides that it leaves
pub record PatternPart : Type 0 where
  pub literals : List PatternAtom
  pub turns : List PatternTurn
  pub gammas : List PatternGamma
  pub pis : ℕ
  pub sorts : List Sort
  pub sides : List Side

-- a part by its spot, the sides that are still to be used, and the number of the next variable
abbrev pub PatternBody : Type 0
PatternBody = PatternSpot → List Side → ℕ → Option PatternPart

-- a term with patterns for its variables. A problem's formula has none of the cases that give a term without variables
abbrev mutual
  pub pattern_of : List Pattern → Term → Pattern
  pattern_of env (var k) = slice_index_or env k (p_new 0 no_patterns)
  pattern_of env (fun f ts) = p_fun f (patterns_tree (patterns_of env ts))
  pattern_of env (eigen n) = p_new 0 no_patterns
  pattern_of env (spare n) = p_new 0 no_patterns

  pub patterns_of : List Pattern → Terms → List Pattern
  patterns_of env no_terms = []
  patterns_of env (more_terms t ts) = pattern_of env t ∷ patterns_of env ts

abbrev pub pattern_down : ℕ → PatternSpot → PatternSpot
pattern_down n c = record c { position = c.position + n }

abbrev pub pattern_inside : Pattern → List Pattern → PatternSpot → PatternSpot
pattern_inside p ps c = record { position = c.position + 1; label = c.label; taken = ps; env = p ∷ c.env }

abbrev pub of_sort : Sort → PatternPart → PatternPart
of_sort s y = record y { sorts = s ∷ y.sorts }

abbrev pub one_pi_more : PatternPart → PatternPart
one_pi_more y = record y { pis = suc y.pis }

-- a nu step takes a string variable, and a pi step names a character; either is one item more of the label
abbrev pub pattern_modal : Logic → ModalPart → PatternBody → PatternBody
pattern_modal l Plain go c ss n = go c ss n
pattern_modal l Nu go c ss n = option_map (of_sort StringSort) (go (record c { label = pi_label l c.label (p_var n); taken = c.taken ++ p_var n ∷ [] }) ss (suc n))
pattern_modal l Pi go c ss n = option_map one_pi_more (go (record c { label = pi_label l c.label (p_new c.position (patterns_tree c.taken)) }) ss n)

abbrev pub pattern_turn : ℕ → List Pattern → Option PatternPart → Option PatternPart
pattern_turn p vs o = option_map (λ (y : PatternPart). record y { turns = record { position = p; values = vs } ∷ y.turns }) o

abbrev pub pattern_atom : Sign → ℕ → Terms → PatternBody
pattern_atom s p ts c ss n = Some (record { literals = record { sign = s; symbol = p; args = patterns_of c.env ts; label = c.label } ∷ []; turns = record { position = c.position; values = c.taken } ∷ []; gammas = []; pis = 0; sorts = []; sides = ss })

abbrev pub joined_patterns : PatternPart → PatternPart → PatternPart
joined_patterns x y = record { literals = x.literals ++ y.literals; turns = x.turns ++ y.turns; gammas = x.gammas ++ y.gammas; pis = x.pis + y.pis; sorts = x.sorts ++ y.sorts; sides = y.sides }

abbrev pub pattern_alpha : (List Side → Option PatternPart) → (List Side → Option PatternPart) → List Side → Option PatternPart
pattern_alpha first second (Left ∷ ss) = first ss
pattern_alpha first second (Right ∷ ss) = second ss
pattern_alpha first second [] = None

-- the variables of the second part follow those of the first
abbrev pub pattern_beta : (List Side → ℕ → Option PatternPart) → (List Side → ℕ → Option PatternPart) → List Side → ℕ → Option PatternPart
pattern_beta first second ss n = option_and_then (λ (x : PatternPart). option_map (joined_patterns x) (second x.sides (n + length x.sorts))) (first ss n)

abbrev pub pattern_one : PatternBody → PatternBody
pattern_one body c ss n = pattern_turn c.position c.taken (body (pattern_down 1 c) ss n)

abbrev pub pattern_two : Shape → ℕ → PatternBody → PatternBody → PatternBody
pattern_two Alpha k first second c ss n = pattern_turn c.position c.taken (pattern_alpha (λ rest. first (pattern_down 1 c) rest n) (λ rest. second (pattern_down (suc k) c) rest n) ss)
pattern_two Beta k first second c ss n = pattern_turn c.position c.taken (pattern_beta (first (pattern_down 1 c)) (second (pattern_down (suc k) c)) ss n)
pattern_two _ k first second c ss n = None

abbrev pub with_pattern_gamma : Pattern → List Pattern → PatternPart → PatternPart
with_pattern_gamma p w y = record y { gammas = record { term = p; label = w } ∷ y.gammas }

-- gamma puts a term variable, and delta the eigenvariable that is named by the variables on the way
abbrev pub pattern_quantifier : Shape → PatternBody → PatternBody
pattern_quantifier Gamma body c ss n = option_map (of_sort TermSort) (pattern_turn c.position (c.taken ++ p_var n ∷ []) (option_map (with_pattern_gamma (p_var n) c.label) (body (pattern_inside (p_var n) (c.taken ++ p_var n ∷ []) c) ss (suc n))))
pattern_quantifier Delta body c ss n = pattern_turn c.position c.taken (body (pattern_inside (p_eigen c.position (patterns_tree c.taken)) c.taken c) ss n)
pattern_quantifier _ body c ss n = None

abbrev pub pattern_part : Logic → Formula → Sign → PatternBody
pattern_part l (atom p ts) s = pattern_modal l (modal_of l s (atom p ts)) (pattern_atom s p ts)
pattern_part l (neg a) s = pattern_modal l (modal_of l s (neg a)) (pattern_one (pattern_part l a (other s)))
pattern_part l (conj a b) s = pattern_modal l (modal_of l s (conj a b)) (pattern_two (shape_of s (conj a b)) (size a) (pattern_part l a s) (pattern_part l b s))
pattern_part l (disj a b) s = pattern_modal l (modal_of l s (disj a b)) (pattern_two (shape_of s (disj a b)) (size a) (pattern_part l a s) (pattern_part l b s))
pattern_part l (imp a b) s = pattern_modal l (modal_of l s (imp a b)) (pattern_two (shape_of s (imp a b)) (size a) (pattern_part l a (other s)) (pattern_part l b s))
pattern_part l (all a) s = pattern_modal l (modal_of l s (all a)) (pattern_quantifier (shape_of s (all a)) (pattern_part l a s))
pattern_part l (ex a) s = pattern_modal l (modal_of l s (ex a)) (pattern_quantifier (shape_of s (ex a)) (pattern_part l a s))
pattern_part l (box a) s = pattern_modal l (modal_of l s (box a)) (pattern_one (pattern_part l a s))
pattern_part l (dia a) s = pattern_modal l (modal_of l s (dia a)) (pattern_one (pattern_part l a s))

abbrev pub template_by : PatternPart → Template
template_by y = record { literals = y.literals; strings = strings_from 0 y.sorts; pis = y.pis; gammas = y.gammas; sorts = y.sorts }

-- the sides are used up exactly
abbrev pub if_sides_used : PatternPart → List Side → Option Template
if_sides_used y [] = Some (template_by y)
if_sides_used y (s ∷ ss) = None

abbrev pub template_of : Problem → List Side → Option Template
template_of P sides = option_and_then (λ (y : PatternPart). if_sides_used y y.sides) (pattern_part P.setting.logic P.formula F root_pattern_spot sides 0)
