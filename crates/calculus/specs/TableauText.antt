-- The text of a ground tableau, and its judgement. The closings stand in preorder; an instance is written by its sides and values, and
-- its literals, which these determine, are not written.
use Rattle.std.specs.Prelude.{◌⊎◌, ℕ, suc, ◌+◌, List, [], ◌∷◌, ◌++◌, length, map, Bool, true, not, ◌&&◌, Option, Some, None, Result, Ok, Err, IsTrue, nat_lt, slice_get, remove, codes, decimal, if◌then◌else◌}
use Rattle.std.specs.List.{list_all}
use Rattle.calculus.specs.declared.sign.Side.{Side}
use Rattle.calculus.specs.declared.sign.Side.TheVariants.{Left, Right}
use Rattle.calculus.specs.declared.fault.TableauFault.{TableauFault}
use Rattle.calculus.specs.declared.fault.TableauFault.TheVariants as fault
use Rattle.calculus.specs.Syntax.{Symbol, Problem}
use Rattle.calculus.specs.Ground.{GroundTerm, GroundTerms, GroundMark, Marks, Value, Values, g_fun, g_eigen, common, own, no_g_terms, more_g_terms, g_new_mark, g_spare_mark, no_marks, more_marks, term, steps, no_values, more_values, values_tree, g_terms_list, GroundLiteral}
use Rattle.calculus.specs.Skolem.{has_function}
use Rattle.calculus.specs.Instances.{ClauseInstance, gamma_is_allowed}
use Rattle.calculus.specs.ComputedInstances.{Part, instance_of, is_instance}
use Rattle.calculus.specs.Tableaux.{Closing, Closings, reduce, extend, no_closings, more_closings, Tableau, is_complement, ancestor, is_new_on, is_shown, instances, total_steps, has_unbounded_strings, strings_within, is_closed}
use Rattle.calculus.specs.Text.{is_number, symbol_at, formula_text}
use Rattle.calculus.specs.FirstWrong.{TextKind, IsTextOf, Causes, IsWrongText, IsJudgedText}
use Rattle.calculus.specs.DerivationText.{setting_text, is_limit}

-- ---- the text of values. A string of marks stands between square brackets, a list of values between braces

abbrev mutual
  pub ground_text : List Symbol → GroundTerm → List ℕ
  ground_text symbols (g_fun f ts) = symbol_at symbols f ++ ground_args_text symbols ts
  ground_text symbols (g_eigen p vs) = codes "$$e" ++ decimal p ++ values_text symbols vs
  ground_text symbols (common k) = codes "$$s" ++ decimal k
  ground_text symbols (own k w) = codes "$$s" ++ decimal k ++ codes "@" ++ marks_text symbols w

  pub ground_args_text : List Symbol → GroundTerms → List ℕ
  ground_args_text symbols no_g_terms = []
  ground_args_text symbols (more_g_terms t ts) = 40 ∷ (ground_text symbols t ++ more_ground_args_text symbols ts)

  pub more_ground_args_text : List Symbol → GroundTerms → List ℕ
  more_ground_args_text symbols no_g_terms = 41 ∷ []
  more_ground_args_text symbols (more_g_terms t ts) = 44 ∷ (ground_text symbols t ++ more_ground_args_text symbols ts)

  pub ground_mark_text : List Symbol → GroundMark → List ℕ
  ground_mark_text symbols (g_new_mark p vs) = codes "$$c" ++ decimal p ++ values_text symbols vs
  ground_mark_text symbols (g_spare_mark k) = codes "$$d" ++ decimal k

  pub marks_text : List Symbol → Marks → List ℕ
  marks_text symbols no_marks = codes "[]"
  marks_text symbols (more_marks m ms) = 91 ∷ (ground_mark_text symbols m ++ more_marks_text symbols ms)

  pub more_marks_text : List Symbol → Marks → List ℕ
  more_marks_text symbols no_marks = 93 ∷ []
  more_marks_text symbols (more_marks m ms) = 44 ∷ (ground_mark_text symbols m ++ more_marks_text symbols ms)

  pub value_text : List Symbol → Value → List ℕ
  value_text symbols (term t) = ground_text symbols t
  value_text symbols (steps w) = marks_text symbols w

  pub values_text : List Symbol → Values → List ℕ
  values_text symbols no_values = codes "{}"
  values_text symbols (more_values v vs) = 123 ∷ (value_text symbols v ++ more_values_text symbols vs)

  pub more_values_text : List Symbol → Values → List ℕ
  more_values_text symbols no_values = 125 ∷ []
  more_values_text symbols (more_values v vs) = 44 ∷ (value_text symbols v ++ more_values_text symbols vs)

-- each function symbol is one of the problem with as many arguments as its arity, and each number has 32 bits
abbrev mutual
  pub ground_is_written : List Symbol → GroundTerm → Bool
  ground_is_written symbols (g_fun f ts) = has_function symbols f (length (g_terms_list ts)) && grounds_are_written symbols ts
  ground_is_written symbols (g_eigen p vs) = is_number p && values_are_written symbols vs
  ground_is_written symbols (common k) = is_number k
  ground_is_written symbols (own k w) = is_number k && marks_are_written symbols w

  pub grounds_are_written : List Symbol → GroundTerms → Bool
  grounds_are_written symbols no_g_terms = true
  grounds_are_written symbols (more_g_terms t ts) = ground_is_written symbols t && grounds_are_written symbols ts

  pub ground_mark_is_written : List Symbol → GroundMark → Bool
  ground_mark_is_written symbols (g_new_mark p vs) = is_number p && values_are_written symbols vs
  ground_mark_is_written symbols (g_spare_mark k) = is_number k

  pub marks_are_written : List Symbol → Marks → Bool
  marks_are_written symbols no_marks = true
  marks_are_written symbols (more_marks m ms) = ground_mark_is_written symbols m && marks_are_written symbols ms

  pub value_is_written : List Symbol → Value → Bool
  value_is_written symbols (term t) = ground_is_written symbols t
  value_is_written symbols (steps w) = marks_are_written symbols w

  pub values_are_written : List Symbol → Values → Bool
  values_are_written symbols no_values = true
  values_are_written symbols (more_values v vs) = value_is_written symbols v && values_are_written symbols vs

-- ---- what the lines state

-- a clause instance by its sides and values
pub record Chosen : Type 0 where
  pub sides : List Side
  pub values : List Value

-- a closing without those below it: a reduction by an ancestor, or an extension by the literal at a place of an instance
pub data Move : Type 0 where
  reduction : ℕ → Move
  extension : ℕ → Chosen → Move

pub record Moves : Type 0 where
  pub limit : ℕ
  pub start : Chosen
  pub moves : List Move

abbrev pub side_text : Side → ℕ
side_text Left = 108
side_text Right = 114

abbrev pub sides_text : List Side → List ℕ
sides_text [] = codes "-"
sides_text (s ∷ ss) = map side_text (s ∷ ss)

abbrev pub chosen_text : List Symbol → Chosen → List ℕ
chosen_text symbols i = sides_text i.sides ++ codes " " ++ values_text symbols (values_tree i.values)

abbrev pub move_line : List Symbol → Move → List ℕ
move_line symbols (reduction k) = codes "reduce " ++ decimal k
move_line symbols (extension place i) = codes "extend " ++ decimal place ++ codes " " ++ chosen_text symbols i

abbrev pub tableau_head : Problem → ℕ → List (List ℕ)
tableau_head P limit = codes "leancop tableau 1" ∷ (codes "logic " ++ setting_text P.setting) ∷ (codes "formula " ++ formula_text P.symbols 0 P.formula) ∷ (codes "limit " ++ decimal limit) ∷ []

abbrev pub moves_lines : Problem → Moves → List (List ℕ)
moves_lines P x = tableau_head P x.limit ++ (codes "start " ++ chosen_text P.symbols x.start) ∷ map (move_line P.symbols) x.moves ++ codes "end" ∷ []

abbrev pub chosen_is_written : List Symbol → Chosen → Bool
chosen_is_written symbols i = list_all (value_is_written symbols) i.values

abbrev pub move_is_written : List Symbol → Move → Bool
move_is_written symbols (reduction k) = is_number k
move_is_written symbols (extension place i) = is_number place && chosen_is_written symbols i

abbrev pub are_written : Problem → Moves → Bool
are_written P x = is_limit x.limit && chosen_is_written P.symbols x.start && list_all (move_is_written P.symbols) x.moves

abbrev pub moves_texts : Problem → TextKind Moves
moves_texts P = record { printable = are_written P; lines = moves_lines P }

abbrev pub IsMovesText : Problem → Moves → List ℕ → Type 0
IsMovesText P x bytes = IsTextOf (moves_texts P) x bytes

abbrev pub tableau_causes : Causes TableauFault
tableau_causes = record { head = fault.Version ∷ fault.Setting ∷ fault.Formula ∷ fault.Limit ∷ []; after_end = fault.TextAfterEnd; behind_head = λ before next. fault.Line }

-- ---- the moves of a tableau

abbrev pub chosen_of : ClauseInstance → Chosen
chosen_of i = record { sides = i.selection; values = i.values }

abbrev mutual
  pub moves_of : Closing → List Move
  moves_of (reduce up) = reduction up ∷ []
  moves_of (extend i place below) = extension place (chosen_of i) ∷ moves_of_all below

  pub moves_of_all : Closings → List Move
  moves_of_all no_closings = []
  moves_of_all (more_closings c cs) = moves_of c ++ moves_of_all cs

abbrev pub tableau_moves : Tableau → ℕ → Moves
tableau_moves t limit = record { limit = limit; start = chosen_of t.start; moves = moves_of_all t.goals }

-- the bytes are the text of the tableau, whose literals are those of its instances, with this limit
pub record IsTableauText (P : Problem) (t : Tableau) (limit : ℕ) (bytes : List ℕ) : Type 0 where
  pub instances : IsTrue (list_all (is_instance P) (instances t))
  pub text : IsMovesText P (tableau_moves t limit) bytes

-- the bytes are the text of a tableau that is closed within the limit that they state
pub record IsClosedText (P : Problem) (t : Tableau) (limit : ℕ) (bytes : List ℕ) : Type 0 where
  pub text : IsTableauText P t limit bytes
  pub closed : IsTrue (is_closed P limit t)

-- ---- the judgement of the lines, in order

pub data TableauVerdict : Type 0 where
  tableau_accepted : TableauVerdict
  tableau_rejected : ℕ → TableauFault → TableauVerdict

-- a goal and those above it, the nearest first
pub record OpenGoal : Type 0 where
  pub path : List GroundLiteral
  pub goal : GroundLiteral

abbrev pub below : List GroundLiteral → List GroundLiteral → List OpenGoal
below path goals = map (λ g. record { path = path; goal = g }) goals

abbrev pub if_allowed : Problem → Part → Result (List GroundLiteral) TableauFault
if_allowed P x = if list_all (gamma_is_allowed P) x.gammas then Ok x.literals else Err fault.NotAllowed

abbrev pub allowed_part : Problem → Option Part → Result (List GroundLiteral) TableauFault
allowed_part P None = Err fault.NoInstance
allowed_part P (Some x) = if_allowed P x

-- the literals of the instance, where it is one and is allowed
abbrev pub literals_of : Problem → Chosen → Result (List GroundLiteral) TableauFault
literals_of P i = allowed_part P (instance_of P i.sides i.values)

-- the goals below a goal that is closed by the literal at this place
abbrev pub extended : OpenGoal → ℕ → Result (List GroundLiteral) TableauFault → Result (List OpenGoal) TableauFault
extended g place (Err f) = Err f
extended g place (Ok literals) =
    if not (is_complement g.goal (slice_get literals place)) then Err fault.NoConnection
    else (if list_all (is_new_on (g.goal ∷ g.path)) (remove literals place) then Ok (below (g.goal ∷ g.path) (remove literals place)) else Err fault.NotRegular)

abbrev pub close_by : Problem → ℕ → OpenGoal → Move → Result (List OpenGoal) TableauFault
close_by P limit g (reduction k) = if is_complement g.goal (ancestor g.path k) then Ok [] else Err fault.NoConnection
close_by P limit g (extension place i) = if nat_lt (length g.path) limit then extended g place (literals_of P i) else Err fault.PathLimit

abbrev pub verdict_after_move : ℕ → Result (List OpenGoal) TableauFault → (List OpenGoal → TableauVerdict) → TableauVerdict
verdict_after_move line (Err f) go = tableau_rejected line f
verdict_after_move line (Ok goals) go = go goals

-- the open goals, the first one being closed next; the first move stands in this line; `last` is the verdict at `end`, whose line it gets
abbrev pub moves_verdict : Problem → ℕ → (ℕ → TableauVerdict) → List OpenGoal → List Move → ℕ → TableauVerdict
moves_verdict P limit last [] [] line = last line
moves_verdict P limit last (g ∷ gs) [] line = tableau_rejected line fault.StillOpen
moves_verdict P limit last [] (m ∷ ms) line = tableau_rejected line fault.AllClosed
moves_verdict P limit last (g ∷ gs) (m ∷ ms) line = verdict_after_move line (close_by P limit g m) (λ new. moves_verdict P limit last (new ++ gs) ms (suc line))

abbrev pub moves_chosen : List Move → List Chosen
moves_chosen [] = []
moves_chosen (reduction k ∷ ms) = moves_chosen ms
moves_chosen (extension place i ∷ ms) = i ∷ moves_chosen ms

-- an instance without its literals, which its steps and strings do not ask for
abbrev pub bare : Chosen → ClauseInstance
bare i = record { selection = i.sides; values = i.values; literals = [] }

abbrev pub bare_instances : Moves → List ClauseInstance
bare_instances x = map bare (x.start ∷ moves_chosen x.moves)

abbrev pub strings_are_short : Problem → List ClauseInstance → Bool
strings_are_short P is = if has_unbounded_strings P.setting.logic then list_all (strings_within (total_steps P is)) is else true

abbrev pub end_verdict : Problem → Moves → ℕ → TableauVerdict
end_verdict P x line = if strings_are_short P (bare_instances x) then tableau_accepted else tableau_rejected line fault.StringTooLong

abbrev pub start_verdict : Problem → Moves → Result (List GroundLiteral) TableauFault → TableauVerdict
start_verdict P x (Err f) = tableau_rejected 5 f
start_verdict P x (Ok literals) = if list_all is_shown literals then moves_verdict P x.limit (end_verdict P x) (below [] literals) x.moves 6 else tableau_rejected 5 fault.NotPositive

abbrev pub tableau_verdict : Problem → Moves → TableauVerdict
tableau_verdict P x = start_verdict P x (literals_of P x.start)

-- a law says that the bytes are accepted exactly where they are the text of a closed tableau
abbrev pub IsTableauJudgement : Problem → List ℕ → TableauVerdict → Type 0
IsTableauJudgement P bytes v = IsWrongText (moves_texts P) tableau_causes tableau_rejected bytes v ⊎ IsJudgedText (moves_texts P) (tableau_verdict P) bytes v

-- ---- what can be counted: which tableaux that are closed have a text

-- each number has 32 bits, as those of values in memory have
abbrev mutual
  pub ground_has_numbers : GroundTerm → Bool
  ground_has_numbers (g_fun f ts) = grounds_have_numbers ts
  ground_has_numbers (g_eigen p vs) = is_number p && values_have_numbers vs
  ground_has_numbers (common k) = is_number k
  ground_has_numbers (own k w) = is_number k && marks_have_numbers w

  pub grounds_have_numbers : GroundTerms → Bool
  grounds_have_numbers no_g_terms = true
  grounds_have_numbers (more_g_terms t ts) = ground_has_numbers t && grounds_have_numbers ts

  pub ground_mark_has_numbers : GroundMark → Bool
  ground_mark_has_numbers (g_new_mark p vs) = is_number p && values_have_numbers vs
  ground_mark_has_numbers (g_spare_mark k) = is_number k

  pub marks_have_numbers : Marks → Bool
  marks_have_numbers no_marks = true
  marks_have_numbers (more_marks m ms) = ground_mark_has_numbers m && marks_have_numbers ms

  pub value_has_numbers : Value → Bool
  value_has_numbers (term t) = ground_has_numbers t
  value_has_numbers (steps w) = marks_have_numbers w

  pub values_have_numbers : Values → Bool
  values_have_numbers no_values = true
  values_have_numbers (more_values v vs) = value_has_numbers v && values_have_numbers vs

-- each number of the tableau has 32 bits
abbrev pub instance_has_numbers : ClauseInstance → Bool
instance_has_numbers i = list_all value_has_numbers i.values

abbrev mutual
  pub closing_has_numbers : Closing → Bool
  closing_has_numbers (reduce up) = is_number up
  closing_has_numbers (extend i place below) = is_number place && instance_has_numbers i && closings_have_numbers below

  pub closings_have_numbers : Closings → Bool
  closings_have_numbers no_closings = true
  closings_have_numbers (more_closings c cs) = closing_has_numbers c && closings_have_numbers cs

abbrev pub tableau_has_numbers : Tableau → Bool
tableau_has_numbers t = instance_has_numbers t.start && closings_have_numbers t.goals
