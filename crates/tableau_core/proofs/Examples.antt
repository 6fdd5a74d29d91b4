-- Tableaux worked by hand that are closed, and the same with one thing wrong.
use Rattle.std.specs.Prelude.{◌≡◌, ℕ, List, [], ◌∷◌, Bool, true, false, refl}
use Rattle.calculus.specs.declared.sign.Sign.{Sign}
use Rattle.calculus.specs.declared.sign.Sign.TheVariants.{F, T}
use Rattle.calculus.specs.declared.sign.Side.{Side}
use Rattle.calculus.specs.declared.sign.Side.TheVariants.{Left, Right}
use Rattle.calculus.specs.declared.setting.Logic.{Logic}
use Rattle.calculus.specs.declared.setting.Logic.TheVariants.{Classical, Intuitionistic, D, T as LogicT, S4, S5}
use Rattle.calculus.specs.declared.setting.Domains.{Domains}
use Rattle.calculus.specs.declared.setting.Domains.TheVariants.{Constant, Cumulative, Varying}
use Rattle.calculus.specs.Ground.{GroundTerm, no_g_terms, more_g_terms, own, GroundMark, g_new_mark, g_spare_mark, marks_tree, Value, term, steps, values_tree, GroundLiteral}
use Rattle.calculus.specs.Instances.{ClauseInstance}
use Rattle.calculus.specs.Syntax.{Formula, Problem, atom, neg, conj, disj, imp, all, ex, box, dia, var, no_terms, more_terms, setting_of}
use Rattle.calculus.specs.Tableaux.{Closing, Closings, reduce, extend, no_closings, more_closings, is_closed}

abbrev problem : Logic → Domains → Formula → Problem
problem l d f = record { setting = setting_of l d; formula = f; symbols = [] }

abbrev p : Formula
p = atom 0 no_terms

abbrev q : Formula
q = atom 1 no_terms

-- a literal at a label
abbrev at : Sign → ℕ → List GroundMark → GroundLiteral
at s n w = record { sign = s; symbol = n; args = no_g_terms; label = w }

abbrev instance : List Side → List Value → List GroundLiteral → ClauseInstance
instance sides vs ls = record { selection = sides; values = vs; literals = ls }

abbrev string : List GroundMark → Value
string w = steps (marks_tree w)

abbrev closed : Problem → ℕ → ClauseInstance → Closings → Bool
closed P d i cs = is_closed P d (record { start = i; goals = cs })

abbrev only : Closing → Closings
only c = more_closings c no_closings

-- ---- p => p

abbrev self : Problem
self = problem Classical Constant (imp p p)

abbrev shown : ClauseInstance
shown = instance (Right ∷ []) [] (at F 0 [] ∷ [])

abbrev given : ClauseInstance
given = instance (Left ∷ []) [] (at T 0 [] ∷ [])

by-extension : closed self 1 shown (only (extend given 0 no_closings)) ≡ true
by-extension = refl

limit-too-small : closed self 0 shown (only (extend given 0 no_closings)) ≡ false
limit-too-small = refl

by-reduction : closed self 1 shown (only (reduce 1)) ≡ false
by-reduction = refl

other-place : closed self 1 shown (only (extend given 1 no_closings)) ≡ false
other-place = refl

no-goal : closed self 1 shown no_closings ≡ false
no-goal = refl

start-given : closed self 1 given (only (extend shown 0 no_closings)) ≡ false
start-given = refl

-- ---- #box:p => #dia:p

abbrev spare : GroundMark
spare = g_spare_mark 0

abbrev serial : Logic → Problem
serial l = problem l Constant (imp (box p) (dia p))

abbrev shown_at : List GroundMark → ClauseInstance
shown_at w = instance (Right ∷ []) (string w ∷ []) (at F 0 w ∷ [])

abbrev given_at : List GroundMark → ClauseInstance
given_at w = instance (Left ∷ []) (string w ∷ []) (at T 0 w ∷ [])

abbrev serial_by : Logic → List GroundMark → List GroundMark → Bool
serial_by l w v = closed (serial l) 1 (shown_at w) (only (extend (given_at v) 0 no_closings))

in-d : serial_by D (spare ∷ []) (spare ∷ []) ≡ true
in-d = refl

in-d-no-step : serial_by D [] [] ≡ false
in-d-no-step = refl

in-d-other-label : serial_by D (spare ∷ []) (g_spare_mark 1 ∷ []) ≡ false
in-d-other-label = refl

in-t-no-step : serial_by LogicT [] [] ≡ true
in-t-no-step = refl

in-s4-two-steps : serial_by S4 (spare ∷ spare ∷ []) (spare ∷ spare ∷ []) ≡ true
in-s4-two-steps = refl

in-s4-too-long : serial_by S4 (spare ∷ spare ∷ spare ∷ []) (spare ∷ spare ∷ spare ∷ []) ≡ false
in-s4-too-long = refl

in-s5-two-steps : serial_by S5 (spare ∷ spare ∷ []) (spare ∷ spare ∷ []) ≡ false
in-s5-two-steps = refl

-- ---- (p & q) => (q & p): two goals, in the order of the literals

abbrev exchange : Problem
exchange = problem Classical Constant (imp (conj p q) (conj q p))

abbrev both : ClauseInstance
both = instance (Right ∷ []) [] (at F 1 [] ∷ at F 0 [] ∷ [])

abbrev by_p : Closing
by_p = extend (instance (Left ∷ Left ∷ []) [] (at T 0 [] ∷ [])) 0 no_closings

abbrev by_q : Closing
by_q = extend (instance (Left ∷ Right ∷ []) [] (at T 1 [] ∷ [])) 0 no_closings

in-order : closed exchange 1 both (more_closings by_q (only by_p)) ≡ true
in-order = refl

out-of-order : closed exchange 1 both (more_closings by_p (only by_q)) ≡ false
out-of-order = refl

one-goal : closed exchange 1 both (only by_q) ≡ false
one-goal = refl

-- ---- (p => p) => (p => p): a goal that stands on its path

abbrev rule : ClauseInstance
rule = instance (Left ∷ []) [] (at F 0 [] ∷ at T 0 [] ∷ [])

irregular : closed (problem Classical Constant (imp (imp p p) (imp p p))) 2 (instance (Right ∷ Right ∷ []) [] (at F 0 [] ∷ [])) (only (extend rule 1 (only (extend (instance (Right ∷ Left ∷ []) [] (at T 0 [] ∷ [])) 0 no_closings)))) ≡ false
irregular = refl

-- ---- ~~(p | ~p) in intuitionistic logic

abbrev denied : Problem
denied = problem Intuitionistic Cumulative (neg (neg (disj p (neg p))))

-- the characters of the outer negation, of the inner one by the empty string, and of the atom by a string
abbrev outer : GroundMark
outer = g_new_mark 0 (values_tree [])

abbrev inner : GroundMark
inner = g_new_mark 4 (values_tree (string [] ∷ []))

abbrev last : GroundMark
last = g_new_mark 3 (values_tree (string (inner ∷ []) ∷ []))

abbrev holds_last : ClauseInstance
holds_last = instance (Left ∷ []) (string (inner ∷ []) ∷ []) (at F 0 (outer ∷ inner ∷ last ∷ []) ∷ [])

-- the atom below the inner negation, at the label that the string leads to
abbrev before_last : List GroundMark → ClauseInstance
before_last w = instance (Right ∷ []) (string [] ∷ string w ∷ []) (at T 0 (outer ∷ inner ∷ w) ∷ [])

excluded-middle : closed denied 1 holds_last (only (extend (before_last (last ∷ [])) 0 no_closings)) ≡ true
excluded-middle = refl

excluded-middle-apart : closed denied 1 holds_last (only (extend (before_last []) 0 no_closings)) ≡ false
excluded-middle-apart = refl

-- ---- ![X]:p(X) => ?[X]:p(X) where domains vary: the term stands in the domain of the root alone

abbrev p_of : GroundTerm → Sign → GroundLiteral
p_of t s = record { sign = s; symbol = 0; args = more_g_terms t no_g_terms; label = [] }

abbrev with_term : GroundTerm → Bool
with_term t = closed (problem D Varying (imp (all (atom 0 (more_terms (var 0) no_terms))) (ex (atom 0 (more_terms (var 0) no_terms))))) 1 (instance (Right ∷ []) (term t ∷ []) (p_of t F ∷ [])) (only (extend (instance (Left ∷ []) (term t ∷ []) (p_of t T ∷ [])) 0 no_closings))

allowed : with_term (own 0 (marks_tree [])) ≡ true
allowed = refl

not-allowed : with_term (own 0 (marks_tree (spare ∷ []))) ≡ false
not-allowed = refl
