-- The texts of version 2, of structures, of tableaux and of generated problems, and the words of runs, computed on small ones.
use Rattle.std.proofs.Common.{◌≡◌, ℕ, List, [], ◌∷◌, length, Bool, true, false, refl}
use Rattle.std.specs.Prelude.{codes, None}
use Rattle.std.specs.Fmt.{digits}
use Rattle.calculus.specs.declared.version.Version.TheVariants.{One, Two}
use Rattle.calculus.specs.declared.family.Family.TheVariants.{Chain, Shift, Tower}
use Rattle.calculus.specs.declared.fault.CheckFault.TheVariants.{StillOpen}
use Rattle.calculus.specs.declared.fault.StructureCause.TheVariants as structure
use Rattle.calculus.specs.declared.fault.TableauFault.TheVariants as fault
use Rattle.calculus.specs.declared.sign.Side.{Side}
use Rattle.calculus.specs.declared.sign.Side.TheVariants.{Left, Right}
use Rattle.calculus.specs.declared.symbol.SymbolClass.TheVariants.{Predicate}
use Rattle.calculus.specs.declared.setting.Logic.{Logic}
use Rattle.calculus.specs.declared.setting.Logic.TheVariants.{Classical, Intuitionistic, D, S4}
use Rattle.calculus.specs.declared.setting.Domains.TheVariants.{Constant}
use Rattle.calculus.specs.Syntax.{var, eigen, spare, no_terms, more_terms, Term, Formula, atom, neg, disj, imp, all, ex, box, dia, setting_of, Problem}
use Rattle.calculus.specs.Ground.{Marks, Value, g_eigen, common, g_spare_mark, no_marks, more_marks, term, steps, no_values, more_values}
use Rattle.calculus.specs.Derivations.{spare_mark, anywhere, EigenName, no_modal, to, no_term, by_term, by_name, Step, apply_to, close, Derivation}
use Rattle.calculus.specs.FirstWrong.{text_of}
use Rattle.calculus.specs.Judgement.{accepted, rejected}
use Rattle.calculus.specs.Versions.{NumberedStep, no_numbered_modal, no_numbered_term, by_number, by_eigen, numbered_use, numbered_axiom, NumberedDerivation, is_written, stated, text_in}
use Rattle.calculus.specs.VersionJudgement.{first_difference, verdict_in}
use Rattle.calculus.specs.Structures.{Structure, truth_tables}
use Rattle.calculus.specs.StructureText.{structure_texts, structure_verdict, true_at_root, false_at_root, bad_structure}
use Rattle.calculus.specs.StructureTruth.{ways}
use Rattle.calculus.specs.TableauText.{Chosen, Move, reduction, extension, Moves, moves_texts, tableau_verdict, tableau_accepted, tableau_rejected}
use Rattle.calculus.specs.Families.{family_text}

p : Formula
p = atom 0 no_terms

problem : Logic → Formula → List ℕ → ℕ → Problem
problem l f name k = record { setting = setting_of l Constant; formula = f; symbols = record { name = name; class = Predicate; arity = k } ∷ [] }

-- ---- version 2

identity : Problem
identity = problem Classical (imp p p) (codes "p") 0

identity_derivation : Derivation
identity_derivation = record { limit = 1; names = record { eigens = []; spares = [] }; steps = apply_to 1 no_modal no_term ∷ close 2 3 ∷ [] }

identity_two : text_in Two identity identity_derivation ≡ codes "leancop derivation 2\nlogic classical\nformula (p => p)\nlimit 1\nuse 1\naxiom 2 3\nend\n"
unfolding identity identity_derivation problem p digits
identity_two = refl

-- #box:p => #dia:p in D
box_dia : Problem
box_dia = problem D (imp (box p) (dia p)) (codes "p") 0

step_to : ℕ → Step
step_to n = apply_to n (to (spare_mark 1 ∷ [])) no_term

box_dia_derivation : Derivation
box_dia_derivation = record { limit = 1; names = record { eigens = []; spares = [] }; steps = apply_to 1 no_modal no_term ∷ step_to 2 ∷ step_to 3 ∷ close 4 5 ∷ [] }

box_dia_two : text_in Two box_dia box_dia_derivation ≡ codes "leancop derivation 2\nlogic d constant\nformula (#box:p => #dia:p)\nlimit 1\nlabel 1 [$$d1]\nuse 1\nuse 2 to 1\nuse 3 to 1\naxiom 4 5\nend\n"
unfolding box_dia box_dia_derivation step_to problem p digits
box_dia_two = refl

-- ?[X]:![Y]:(d(X) => d(Y))
d_of : Term → Formula
d_of t = atom 0 (more_terms t no_terms)

drinker : Problem
drinker = problem Classical (ex (all (imp (d_of (var 1)) (d_of (var 0))))) (codes "d") 1

eigen_at_root : ℕ → EigenName
eigen_at_root n = record { number = n; home = [] }

drinker_derivation : Derivation
drinker_derivation = record { limit = 1; names = record { eigens = eigen_at_root 1 ∷ eigen_at_root 2 ∷ []; spares = record { number = 1; home = anywhere } ∷ [] }; steps = apply_to 1 no_modal (by_term (spare 1)) ∷ apply_to 2 no_modal (by_name 1) ∷ apply_to 3 no_modal no_term ∷ apply_to 1 no_modal (by_term (eigen 1)) ∷ apply_to 6 no_modal (by_name 2) ∷ apply_to 7 no_modal no_term ∷ close 8 5 ∷ [] }

drinker_two : text_in Two drinker drinker_derivation ≡ codes "leancop derivation 2\nlogic classical\nformula ?[X1]:![X2]:(d(X1) => d(X2))\nlimit 1\nlabel 1 []\nname $$e1 1\nname $$e2 1\nname $$s1 any\nterm 1 $$s1\nterm 2 $$e1\nuse 1 term 1\nuse 2 name $$e1\nuse 3\nuse 1 term 2\nuse 6 name $$e2\nuse 7\naxiom 8 5\nend\n"
unfolding drinker drinker_derivation eigen_at_root d_of problem digits
drinker_two = refl

drinker_two_accepted : verdict_in Two drinker drinker_derivation ≡ accepted
unfolding drinker drinker_derivation eigen_at_root d_of problem
drinker_two_accepted = refl

-- without its axiom: the end stands behind a label, three names, two terms and six steps
drinker_unfinished : Derivation
drinker_unfinished = record { limit = 1; names = drinker_derivation.names; steps = apply_to 1 no_modal (by_term (spare 1)) ∷ apply_to 2 no_modal (by_name 1) ∷ apply_to 3 no_modal no_term ∷ apply_to 1 no_modal (by_term (eigen 1)) ∷ apply_to 6 no_modal (by_name 2) ∷ apply_to 7 no_modal no_term ∷ [] }

drinker_two_open : verdict_in Two drinker drinker_unfinished ≡ rejected 17 StillOpen
unfolding drinker drinker_unfinished drinker_derivation eigen_at_root d_of problem
drinker_two_open = refl

drinker_one_open : verdict_in One drinker drinker_unfinished ≡ rejected 14 StillOpen
unfolding drinker drinker_unfinished drinker_derivation eigen_at_root d_of problem
drinker_one_open = refl

-- with the two terms exchanged, or with a term that no line states
uses : ℕ → ℕ → List NumberedStep
uses a b = numbered_use 1 no_numbered_modal (by_number a) ∷ numbered_use 2 no_numbered_modal (by_eigen 1) ∷ numbered_use 3 no_numbered_modal no_numbered_term ∷ numbered_use 1 no_numbered_modal (by_number b) ∷ numbered_use 6 no_numbered_modal (by_eigen 2) ∷ numbered_use 7 no_numbered_modal no_numbered_term ∷ numbered_axiom 8 5 ∷ []

exchanged : List Term → ℕ → ℕ → NumberedDerivation
exchanged ts a b = record { limit = 1; labels = [] ∷ []; eigens = record { number = 1; home = 1 } ∷ record { number = 2; home = 1 } ∷ []; spares = record { number = 1; home = None } ∷ []; terms = ts; steps = uses a b }

exchanged_states : stated (exchanged (eigen 1 ∷ spare 1 ∷ []) 2 1) ≡ drinker_derivation
unfolding exchanged uses drinker_derivation eigen_at_root
exchanged_states = refl

exchanged_line : first_difference drinker (exchanged (eigen 1 ∷ spare 1 ∷ []) 2 1) ≡ 9
unfolding exchanged uses drinker d_of problem digits
exchanged_line = refl

unstated_term : is_written drinker (exchanged (spare 1 ∷ eigen 1 ∷ []) 3 2) ≡ false
unfolding exchanged uses drinker d_of problem
unstated_term = refl

-- ---- structures

atomic : Problem
atomic = problem Classical p (codes "p") 0

one_world : Bool → Structure
one_world b = record { elements = 1; successors = (0 ∷ []) ∷ []; domains = (0 ∷ []) ∷ []; meanings = truth_tables ((b ∷ []) ∷ []) ∷ [] }

one_world_text : text_of (structure_texts atomic) (one_world false) ≡ codes "leancop structure 1\nlogic classical\nworlds 1\nelements 1\nrelation 1 1\ndomain 1 1\npredicate p 0 1 0\nend\n"
unfolding atomic one_world problem p digits
one_world_text = refl

one_world_false : structure_verdict atomic (one_world false) ≡ false_at_root
unfolding atomic one_world problem p
one_world_false = refl

one_world_true : structure_verdict atomic (one_world true) ≡ true_at_root
unfolding atomic one_world problem p
one_world_true = refl

excluded : Problem
excluded = problem Intuitionistic (disj p (neg p)) (codes "p") 0

two_worlds : List ℕ → Bool → Bool → Structure
two_worlds first a b = record { elements = 1; successors = first ∷ (1 ∷ []) ∷ []; domains = (0 ∷ []) ∷ (0 ∷ []) ∷ []; meanings = truth_tables ((a ∷ []) ∷ (b ∷ []) ∷ []) ∷ [] }

excluded_false : structure_verdict excluded (two_worlds (0 ∷ 1 ∷ []) false true) ≡ false_at_root
unfolding excluded two_worlds problem p
excluded_false = refl

excluded_ways : ways excluded (two_worlds (0 ∷ 1 ∷ []) false true) ≡ 5
unfolding excluded two_worlds problem p
excluded_ways = refl

not_persistent : structure_verdict excluded (two_worlds (0 ∷ 1 ∷ []) true false) ≡ bad_structure 9 structure.Persistence
unfolding excluded two_worlds problem p
not_persistent = refl

not_reflexive : structure_verdict excluded (two_worlds (1 ∷ []) false true) ≡ bad_structure 5 structure.Reflexive
unfolding excluded two_worlds problem p
not_reflexive = refl

-- ---- tableaux

chosen : List Side → List Value → Chosen
chosen sides values = record { sides = sides; values = values }

moves : ℕ → Chosen → List Move → Moves
moves d i ms = record { limit = d; start = i; moves = ms }

identity_moves : List Move → Moves
identity_moves ms = moves 1 (chosen (Right ∷ []) []) ms

identity_tableau : text_of (moves_texts identity) (identity_moves (extension 0 (chosen (Left ∷ []) []) ∷ [])) ≡ codes "leancop tableau 1\nlogic classical\nformula (p => p)\nlimit 1\nstart r {}\nextend 0 l {}\nend\n"
unfolding identity identity_moves moves chosen problem p digits
identity_tableau = refl

identity_closed : tableau_verdict identity (identity_moves (extension 0 (chosen (Left ∷ []) []) ∷ [])) ≡ tableau_accepted
unfolding identity identity_moves moves chosen problem p
identity_closed = refl

same_sign : tableau_verdict identity (identity_moves (extension 0 (chosen (Right ∷ []) []) ∷ [])) ≡ tableau_rejected 6 fault.NoConnection
unfolding identity identity_moves moves chosen problem p
same_sign = refl

no_place : tableau_verdict identity (identity_moves (extension 1 (chosen (Left ∷ []) []) ∷ [])) ≡ tableau_rejected 6 fault.NoConnection
unfolding identity identity_moves moves chosen problem p
no_place = refl

no_ancestor : tableau_verdict identity (identity_moves (reduction 1 ∷ [])) ≡ tableau_rejected 6 fault.NoConnection
unfolding identity identity_moves moves chosen problem p
no_ancestor = refl

no_sides : tableau_verdict identity (identity_moves (extension 0 (chosen [] []) ∷ [])) ≡ tableau_rejected 6 fault.NoInstance
unfolding identity identity_moves moves chosen problem p
no_sides = refl

no_closing : tableau_verdict identity (identity_moves []) ≡ tableau_rejected 6 fault.StillOpen
unfolding identity identity_moves moves chosen problem p
no_closing = refl

start_of_sign_t : tableau_verdict identity (moves 1 (chosen (Left ∷ []) []) (extension 0 (chosen (Left ∷ []) []) ∷ [])) ≡ tableau_rejected 5 fault.NotPositive
unfolding identity moves chosen problem p
start_of_sign_t = refl

drinker_moves : ℕ → Moves
drinker_moves position = moves 1 (chosen (Right ∷ []) (term (common 1) ∷ [])) (extension 0 (chosen (Left ∷ []) (term (g_eigen position (more_values (term (common 1)) no_values)) ∷ [])) ∷ [])

drinker_tableau : text_of (moves_texts drinker) (drinker_moves 1) ≡ codes "leancop tableau 1\nlogic classical\nformula ?[X1]:![X2]:(d(X1) => d(X2))\nlimit 1\nstart r {$$s1}\nextend 0 l {$$e1{$$s1}}\nend\n"
unfolding drinker drinker_moves moves chosen problem d_of digits
drinker_tableau = refl

drinker_closed : tableau_verdict drinker (drinker_moves 1) ≡ tableau_accepted
unfolding drinker drinker_moves moves chosen problem d_of
drinker_closed = refl

no_delta : tableau_verdict drinker (drinker_moves 2) ≡ tableau_rejected 6 fault.NoInstance
unfolding drinker drinker_moves moves chosen problem d_of
no_delta = refl

-- (p => p) => p: the goal stands on its branch
repeated : Problem
repeated = problem Classical (imp (imp p p) p) (codes "p") 0

repeated_moves : ℕ → Moves
repeated_moves place = moves 2 (chosen (Right ∷ []) []) (extension place (chosen (Left ∷ []) []) ∷ [])

not_regular : tableau_verdict repeated (repeated_moves 1) ≡ tableau_rejected 6 fault.NotRegular
unfolding repeated repeated_moves moves chosen problem p
not_regular = refl

not_connected : tableau_verdict repeated (repeated_moves 0) ≡ tableau_rejected 6 fault.NoConnection
unfolding repeated repeated_moves moves chosen problem p
not_connected = refl

-- in S4 strings of two characters are short, and of three too long
box_dia_moves : Marks → Moves
box_dia_moves w = moves 1 (chosen (Right ∷ []) (steps w ∷ [])) (extension 0 (chosen (Left ∷ []) (steps w ∷ [])) ∷ [])

spares : Marks → Marks
spares w = more_marks (g_spare_mark 1) w

box_dia_four : Problem
box_dia_four = problem S4 (imp (box p) (dia p)) (codes "p") 0

short_strings : tableau_verdict box_dia_four (box_dia_moves (spares (spares no_marks))) ≡ tableau_accepted
unfolding box_dia_four box_dia_moves spares moves chosen problem p
short_strings = refl

long_strings : tableau_verdict box_dia_four (box_dia_moves (spares (spares (spares no_marks)))) ≡ tableau_rejected 7 fault.StringTooLong
unfolding box_dia_four box_dia_moves spares moves chosen problem p
long_strings = refl

-- ---- generated problems

chain_two : family_text Chain 2 Classical ≡ codes "fof(s,axiom,p0).\nfof(a1,axiom,(p0 => p1)).\nfof(a2,axiom,(p1 => p2)).\nfof(c,conjecture,p2).\n"
unfolding digits
chain_two = refl

chain_two_bytes : length (family_text Chain 2 Classical) ≡ 91
unfolding digits
chain_two_bytes = refl

shift_two_bytes : length (family_text Shift 2 Classical) ≡ 86
shift_two_bytes = refl

tower_three : family_text Tower 3 S4 ≡ codes "qmf(c,conjecture,(#box:p => #box:#box:#box:p)).\n"
tower_three = refl
