-- Tableaux of small problems, computed.
use Rattle.std.proofs.Common.{◌≡◌, ℕ, map, Some, List, [], ◌∷◌, true, false, refl, IsTrue}
use Rattle.std.specs.Prelude.{codes, IsSomeAnd}
use Rattle.calculus.specs.declared.sign.Sign.{Sign}
use Rattle.calculus.specs.declared.sign.Sign.TheVariants.{T, F}
use Rattle.calculus.specs.declared.sign.Side.{Side}
use Rattle.calculus.specs.declared.sign.Side.TheVariants.{Left, Right}
use Rattle.calculus.specs.declared.symbol.SymbolClass.TheVariants.{Predicate}
use Rattle.calculus.specs.declared.setting.Logic.{Logic}
use Rattle.calculus.specs.declared.setting.Logic.TheVariants.{Classical, Intuitionistic, D, T as LogicT, S4, S5}
use Rattle.calculus.specs.declared.setting.Domains.{Domains}
use Rattle.calculus.specs.declared.setting.Domains.TheVariants.{Constant, Cumulative}
use Rattle.calculus.specs.Syntax.{Symbol, var, no_terms, more_terms, Formula, atom, neg, disj, imp, all, ex, box, dia, setting_of, Problem}
use Rattle.calculus.specs.Ground.{GroundTerm, GroundMark, Marks, Value, g_eigen, common, no_g_terms, more_g_terms, g_new_mark, g_spare_mark, no_marks, more_marks, term, steps, no_values, more_values, GroundLiteral}
use Rattle.calculus.specs.Clauses.{selections}
use Rattle.calculus.specs.Instances.{Turn, ClauseInstance}
use Rattle.calculus.specs.ComputedInstances.{is_allowed_instance}
use Rattle.conversion_theory.specs.Turns.{term_name, turns_of, names_introduced, names_mentioned, parent_position}
use Rattle.calculus.specs.Tableaux.{reduce, extend, no_closings, more_closings, Tableau, is_closed}
use Rattle.calculus.specs.Choices.{growth_of, ground_choices, is_regular, is_within}

predicate_symbol : List ℕ → ℕ → Symbol
predicate_symbol n k = record { name = n; class = Predicate; arity = k }

abbrev p_symbol : ℕ → Symbol
p_symbol k = record { name = codes "p"; class = Predicate; arity = k }

abbrev p : Formula
p = atom 0 no_terms

abbrev lit : Sign → List GroundMark → GroundLiteral
lit s w = record { sign = s; symbol = 0; args = no_g_terms; label = w }

abbrev problem : Logic → Domains → Formula → ℕ → Problem
problem l d f k = record { setting = setting_of l d; formula = f; symbols = p_symbol k ∷ [] }

abbrev inst : List Side → List Value → List GroundLiteral → ClauseInstance
inst s v l = record { selection = s; values = v; literals = l }

-- p => p is closed within 1 in classical logic, and not within 0
abbrev identity : Tableau
identity = record { start = inst (Right ∷ []) [] (lit F [] ∷ []); goals = more_closings (extend (inst (Left ∷ []) [] (lit T [] ∷ [])) 0 no_closings) no_closings }

identity_closed : is_closed (problem Classical Constant (imp p p) 0) 1 identity ≡ true
identity_closed = refl

identity_open : is_closed (problem Classical Constant (imp p p) 0) 0 identity ≡ false
identity_open = refl

identity_selections : selections (imp p p) F ≡ (Left ∷ []) ∷ (Right ∷ []) ∷ []
identity_selections = refl

-- ?[X]:![Y]:(d(X) => d(Y))
abbrev drinker : Formula
drinker = ex (all (imp (atom 0 (more_terms (var 1) no_terms)) (atom 0 (more_terms (var 0) no_terms))))

abbrev d_lit : Sign → GroundTerm → GroundLiteral
d_lit s t = record { sign = s; symbol = 0; args = more_g_terms t no_g_terms; label = [] }

abbrev e1 : GroundTerm
e1 = g_eigen 1 (more_values (term (common 1)) no_values)

abbrev e2 : GroundTerm
e2 = g_eigen 1 (more_values (term e1) no_values)

abbrev drinker_tableau : Tableau
drinker_tableau = record { start = inst (Right ∷ []) (term (common 1) ∷ []) (d_lit F e1 ∷ []); goals = more_closings (extend (inst (Left ∷ []) (term e1 ∷ []) (d_lit T e1 ∷ [])) 0 no_closings) no_closings }

drinker_closed : is_closed (problem Classical Constant drinker 1) 1 drinker_tableau ≡ true
drinker_closed = refl

-- its turns, of which the second introduces the eigenvariable that the fifth mentions
drinker_turns : map (λ (x : Turn). x.position) (turns_of (problem Classical Constant drinker 1) drinker_tableau) ≡ 0 ∷ 1 ∷ 2 ∷ 4 ∷ 0 ∷ 1 ∷ 2 ∷ 3 ∷ []
drinker_turns = refl

drinker_introduced : names_introduced (problem Classical Constant drinker 1) (record { position = 1; values = term (common 1) ∷ [] }) ≡ term_name e1 ∷ []
drinker_introduced = refl

drinker_mentioned : names_mentioned (problem Classical Constant drinker 1) (record { position = 0; values = term e1 ∷ [] }) ≡ term_name e1 ∷ term_name (common 1) ∷ []
drinker_mentioned = refl

drinker_parent : parent_position (problem Classical Constant drinker 1) 4 ≡ Some 2
drinker_parent = refl

-- position 2 is no delta position
drinker_improper : is_allowed_instance (problem Classical Constant drinker 1) (inst (Left ∷ []) (term (g_eigen 2 (more_values (term (common 1)) no_values)) ∷ []) (d_lit T (g_eigen 2 (more_values (term (common 1)) no_values)) ∷ [])) ≡ false
drinker_improper = refl

-- #box:p => #dia:p
abbrev box_dia : Formula
box_dia = imp (box p) (dia p)

abbrev box_tableau : Marks → List GroundMark → Tableau
box_tableau w label = record { start = inst (Right ∷ []) (steps w ∷ []) (lit F label ∷ []); goals = more_closings (extend (inst (Left ∷ []) (steps w ∷ []) (lit T label ∷ [])) 0 no_closings) no_closings }

abbrev one_extra : Marks
one_extra = more_marks (g_spare_mark 1) no_marks

box_dia_closed : is_closed (problem D Constant box_dia 0) 1 (box_tableau one_extra (g_spare_mark 1 ∷ [])) ≡ true
box_dia_closed = refl

-- in S4 strings of two characters are short, and of three too long
short_enough : is_closed (problem S4 Constant box_dia 0) 1 (box_tableau (more_marks (g_spare_mark 1) one_extra) (g_spare_mark 1 ∷ g_spare_mark 1 ∷ [])) ≡ true
short_enough = refl

too_long : is_closed (problem S4 Constant box_dia 0) 1 (box_tableau (more_marks (g_spare_mark 1) (more_marks (g_spare_mark 1) one_extra)) (g_spare_mark 1 ∷ g_spare_mark 1 ∷ g_spare_mark 1 ∷ [])) ≡ false
too_long = refl

-- (p => p) => p: the only extension is irregular
abbrev repeated : Tableau
repeated = record { start = inst (Right ∷ []) [] (lit F [] ∷ []); goals = more_closings (extend (inst (Left ∷ []) [] (lit F [] ∷ lit T [] ∷ [])) 1 (more_closings (reduce 1) no_closings)) no_closings }

repeated_instance : is_allowed_instance (problem Classical Constant (imp (imp p p) p) 0) (inst (Left ∷ []) [] (lit F [] ∷ lit T [] ∷ [])) ≡ true
repeated_instance = refl

repeated_irregular : is_closed (problem Classical Constant (imp (imp p p) p) 0) 2 repeated ≡ false
repeated_irregular = refl

-- ~~(p | ~p) in intuitionistic logic
abbrev excluded : Formula
excluded = neg (neg (disj p (neg p)))

abbrev m1 : GroundMark
m1 = g_new_mark 0 no_values

abbrev k4 : GroundMark
k4 = g_new_mark 4 (more_values (steps no_marks) no_values)

abbrev k3 : GroundMark
k3 = g_new_mark 3 (more_values (steps (more_marks k4 no_marks)) no_values)

abbrev excluded_tableau : Tableau
excluded_tableau = record { start = inst (Left ∷ []) (steps (more_marks k4 no_marks) ∷ []) (lit F (m1 ∷ k4 ∷ k3 ∷ []) ∷ []); goals = more_closings (extend (inst (Right ∷ []) (steps no_marks ∷ steps (more_marks k3 no_marks) ∷ []) (lit T (m1 ∷ k4 ∷ k3 ∷ []) ∷ [])) 0 no_closings) no_closings }

excluded_closed : is_closed (problem Intuitionistic Constant excluded 0) 1 excluded_tableau ≡ true
excluded_closed = refl

excluded_regular : IsSomeAnd (growth_of (problem Intuitionistic Constant excluded 0) (ground_choices excluded_tableau)) (λ x. (x.open_goals ≡ []) × IsTrue (is_regular x) × IsTrue (is_within 1 x))
excluded_regular = (refl, refl, refl)

-- (![X]:#box:p(X)) => #box:![X]:p(X): an eigenvariable of a new world, which constant domains alone allow at the root
abbrev p_of : Formula
p_of = atom 0 (more_terms (var 0) no_terms)

abbrev barcan : Formula
barcan = imp (all (box p_of)) (box (all p_of))

abbrev world : GroundMark
world = g_new_mark 4 no_values

abbrev name : GroundTerm
name = g_eigen 5 no_values

abbrev p_at : Sign → GroundLiteral
p_at s = record { sign = s; symbol = 0; args = more_g_terms name no_g_terms; label = world ∷ [] }

abbrev barcan_tableau : Tableau
barcan_tableau = record { start = inst (Right ∷ []) [] (p_at F ∷ []); goals = more_closings (extend (inst (Left ∷ []) (term name ∷ steps (more_marks world no_marks) ∷ []) (p_at T ∷ [])) 0 no_closings) no_closings }

barcan_closed : is_closed (problem LogicT Constant barcan 1) 1 barcan_tableau ≡ true
barcan_closed = refl

barcan_not_allowed : is_closed (problem LogicT Cumulative barcan 1) 1 barcan_tableau ≡ false
barcan_not_allowed = refl

-- #dia:p => #box:#dia:p: in S5 the string of a nu step is the whole new label
abbrev euclidean : Formula
euclidean = imp (dia p) (box (dia p))

abbrev euclidean_tableau : Tableau
euclidean_tableau = record { start = inst (Right ∷ []) (steps (more_marks (g_new_mark 1 no_values) no_marks) ∷ []) (lit F (g_new_mark 1 no_values ∷ []) ∷ []); goals = more_closings (extend (inst (Left ∷ []) [] (lit T (g_new_mark 1 no_values ∷ []) ∷ [])) 0 no_closings) no_closings }

euclidean_closed : is_closed (problem S5 Constant euclidean 0) 1 euclidean_tableau ≡ true
euclidean_closed = refl

euclidean_open : is_closed (problem S4 Constant euclidean 0) 1 euclidean_tableau ≡ false
euclidean_open = refl
