-- How the program keeps what is expected, and what it finds on its way to a fault.
use Rattle.std.specs.Prelude.{◌≡◌, ◌≤◌, ℕ, List, [], ◌∷◌, ◌++◌, Bool, true, false, not, IsTrue, Option, None, Some, take, reverse, nat_lt, if◌then◌else◌}
use Rattle.std.specs.List.{list_all}
use Rattle.tptp_lex.specs.Answers.{IsFault, OnlySpace}
use Rattle.tptp_reader.specs.declared.expected.Expected.{Expected}
use Rattle.tptp_reader.specs.declared.expected.Move.{Move}
use Rattle.tptp_reader.specs.declared.fault.ReadFault.{ReadFault}
use Rattle.tptp_reader.specs.declared.fault.ReadFault.TheVariants as fault
use Rattle.tptp_reader.specs.declared.following.Ending.{Ending}
use Rattle.tptp_reader.specs.declared.following.Ending.TheVariants as ending
use Rattle.tptp_reader.specs.declared.machine.Machine.{Machine}
use Rattle.tptp_reader.specs.declared.machine.Step.{Step}
use Rattle.tptp_reader.specs.declared.machine.Step.TheVariants.{Onward, TooDeep, Stuck}
use Rattle.tptp_reader.specs.declared.terminal.Piece.{Piece}
use Rattle.tptp_reader.specs.Terminals.{Terminal, close_round, close_square, Placed, terminals, Follow}
use Rattle.tptp_reader.specs.TerminalView.{the_terminal}
use Rattle.tptp_reader.specs.Pieces.{placed}
use Rattle.tptp_reader.specs.Expecting as way
use Rattle.tptp_reader.specs.Faults.{Place, at_item, in_formula, elsewhere, TextLanguage, TextCauses, FormulaLanguage, FormulaCauses, wrong, too_deep, HasFault}
use Rattle.tptp_reader.specs.ExpectedView.{the_expected, the_parts, the_rest}

-- the first of the program's parts is expected last
abbrev pub stack_of : List Expected → List way.Expected
stack_of [] = []
stack_of (e ∷ es) = stack_of es ++ the_expected e ∷ []

abbrev pub with_notes : Bool → List Bool → List way.Expected → List way.Expected
with_notes false waiting es = es
with_notes true waiting es = way.notes (reverse waiting) ∷ es

abbrev pub stack_now : Machine → List way.Expected
stack_now m = with_notes m.in_notes m.waiting.items (stack_of m.expected.items)

-- the nesting of a part's place
abbrev pub nesting_of : way.Expected → ℕ
nesting_of (way.this k d) = d
nesting_of (way.term d) = d
nesting_of (way.arguments d) = d
nesting_of (way.some_arguments d) = d
nesting_of (way.some_equation d) = d
nesting_of (way.equation d) = d
nesting_of (way.atom d) = d
nesting_of (way.variables d) = d
nesting_of (way.unit d) = d
nesting_of (way.formula d) = d
nesting_of (way.formula_rest d) = d
nesting_of (way.chain_rest c d) = d
nesting_of (way.literal d) = d
nesting_of (way.unsigned d) = d
nesting_of (way.literals_rest d) = d
nesting_of way.clause_open = 1
nesting_of way.clause_rest = 1
nesting_of _ = 0

-- none of the parts stands deeper than this
abbrev pub AreWithin : ℕ → List way.Expected → Type 0
AreWithin n [] = Unit {0}
AreWithin n (e ∷ es) = (nesting_of e ≤ n) × AreWithin n es

-- one bracket that is open, or none; a bracket that closes
abbrev pub the_bracket : Option Bool → List Bool
the_bracket None = []
the_bracket (Some b) = b ∷ []

abbrev pub closing : Bool → Terminal
closing true = close_round
closing false = close_square

-- the step by this move, where so many parts stay below
abbrev pub found : List Expected → Option (ℕ × Move) → way.Move
found es None = None
found es (Some r) = Some (r.1.nesting, (the_parts r.1.parts ++ the_rest r.1.nesting r.1.rest) ++ stack_of (take r.0 es))

-- what a step does, and to which stack it leads
abbrev pub told : way.Move → Step
told None = Stuck
told (Some m) = if nat_lt 500 m.0 then TooDeep else Onward

abbrev pub stack_after : way.Move → List way.Expected → List way.Expected
stack_after None es = es
stack_after (Some m) es = if nat_lt 500 m.0 then es else m.1

abbrev pub is_open : List way.Expected → Bool
is_open [] = false
is_open (e ∷ es) = true

abbrev pub is_shallow : ℕ → Bool
is_shallow n = not (nat_lt 500 n)

-- the place of the next token
abbrev pub place_now : List way.Expected → Place
place_now es = if way.is_at_item es then at_item else (if way.is_in_body es then in_formula else elsewhere)

-- ---- the way over a text

-- The tokens between the two places lead from the one stack to the other, which expects something. None is too deep.
pub record Ran (modal : Bool) (text : List ℕ) (from : ℕ) (es now : List way.Expected) (to : ℕ) : Type 0 where
  pub front : List Placed
  pub nestings : List ℕ
  pub there : Follow text from front to
  pub is_run : way.run modal es (terminals front) ≡ Some (nestings, now)
  pub shallow : IsTrue (list_all is_shallow nestings)
  pub expects : is_open now ≡ true

-- behind such tokens this one stands, and leads to nothing
pub record RanOut (modal : Bool) (text : List ℕ) (from : ℕ) (es : List way.Expected) (p : Piece) : Type 0 where
  pub now : List way.Expected
  pub to : ℕ
  pub ran : Ran modal text from es now to
  pub there : Follow text to (placed p ∷ []) p.end
  pub nesting : ℕ
  pub shallow : is_shallow nesting ≡ true
  pub is_step : way.step modal now (the_terminal p.terminal) ≡ Some (nesting, [])

-- behind such tokens this one stands, and cannot
pub record RanStuck (modal : Bool) (text : List ℕ) (from : ℕ) (es now : List way.Expected) (p : Piece) : Type 0 where
  pub to : ℕ
  pub ran : Ran modal text from es now to
  pub there : Follow text to (placed p ∷ []) p.end
  pub is_step : way.step modal now (the_terminal p.terminal) ≡ None

-- behind such tokens one stands there that is too deep
pub record RanDeep (modal : Bool) (text : List ℕ) (from : ℕ) (es : List way.Expected) (offset : ℕ) : Type 0 where
  pub now : List way.Expected
  pub to : ℕ
  pub ran : Ran modal text from es now to
  pub end : ℕ
  pub terminal : Terminal
  pub there : Follow text to (record { at = offset; terminal = terminal } ∷ []) end
  pub step : ℕ × List way.Expected
  pub is_step : way.step modal now terminal ≡ Some step
  pub deep : nat_lt 500 step.0 ≡ true

-- how the way ends, with this stack
abbrev pub HasEnding : Bool → List ℕ → ℕ → List way.Expected → List way.Expected → Ending → Type 0
HasEnding modal text from es now (ending.Done p) = RanOut modal text from es p
HasEnding modal text from es now (ending.Stuck p) = RanStuck modal text from es now p
HasEnding modal text from es now (ending.TooDeep offset) = RanDeep modal text from es offset
HasEnding modal text from es now (ending.NoToken offset) = (to : ℕ) × Ran modal text from es now to × IsFault text to offset
HasEnding modal text from es now ending.End = (to : ℕ) × Ran modal text from es now to × OnlySpace text to

abbrev pub IsFormulaFault : Bool → List ℕ → ℕ → ReadFault → Type 0
IsFormulaFault modal text from (fault.At offset cause) = HasFault text from (FormulaLanguage modal) FormulaCauses (wrong offset cause)
IsFormulaFault modal text from (fault.TooDeep offset) = HasFault text from (FormulaLanguage modal) FormulaCauses (too_deep offset)
IsFormulaFault modal text from fault.NoMemory = ⊥

abbrev pub IsTextFault : Bool → List ℕ → ReadFault → Type 0
IsTextFault modal text (fault.At offset cause) = HasFault text 0 (TextLanguage modal) (TextCauses modal) (wrong offset cause)
IsTextFault modal text (fault.TooDeep offset) = HasFault text 0 (TextLanguage modal) (TextCauses modal) (too_deep offset)
IsTextFault modal text fault.NoMemory = ⊥
