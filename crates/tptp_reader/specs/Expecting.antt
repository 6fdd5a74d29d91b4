-- The code's way through the tokens of a text or a formula: a stack of what is still expected. It is no definition to
-- believe: `Grammar`, `Nesting` and `Faults` say what texts and faults are, and the proofs tie this way to them.
use Rattle.std.specs.Prelude.{ℕ, suc, ◌||◌, List, [], ◌∷◌, ◌++◌, Bool, true, false, ◌&&◌, ◌==◌, codes, Option, None, Some, if◌then◌else◌}
use Rattle.std.specs.List.{list_all}
use Rattle.calculus.specs.Equality.{list_eq}
use Rattle.tptp_lex.specs.Tokens.{is_digits}
use Rattle.tptp_lex.specs.declared.tokens.TokenKind.{TokenKind}
use Rattle.tptp_lex.specs.declared.tokens.TokenKind.TheVariants.{Lower, Upper, Dollar, Hash, Quoted, Distinct, Number, Sign}
use Rattle.tptp_reader.specs.declared.source.ChainKind.{ChainKind}
use Rattle.tptp_reader.specs.declared.source.ChainKind.TheVariants.{And, Or}
use Rattle.tptp_reader.specs.Terminals.{Terminal, lower, upper, quoted, number, distinct, dollar, hash, open_round, close_round, open_square, close_square, comma, dot, colon, tilde, exclamation, question, ampersand, bar, implies, implied, equivalent, inequivalent, nor, nand, equal, unequal}

-- a number for each form of token: those that may go on behind a term, an atom or a formula come first
abbrev pub form : Terminal → ℕ
form open_round = 0
form equal = 1
form unequal = 2
form ampersand = 3
form bar = 4
form implies = 5
form implied = 6
form equivalent = 7
form inequivalent = 8
form nor = 9
form nand = 10
form close_round = 11
form open_square = 12
form close_square = 13
form comma = 14
form dot = 15
form colon = 16
form tilde = 17
form exclamation = 18
form question = 19
form (lower w) = 20
form (upper w) = 21
form (quoted w) = 22
form (number w) = 23
form (distinct w) = 24
form (dollar w) = 25
form (hash w) = 26

-- a token of one form
pub data Fixed : Type 0 where
  an_opening a_closing a_square a_comma a_dot a_colon a_lower an_upper a_quoted : Fixed

abbrev pub form_of : Fixed → ℕ
form_of an_opening = 0
form_of a_closing = 11
form_of a_square = 12
form_of a_comma = 14
form_of a_dot = 15
form_of a_colon = 16
form_of a_lower = 20
form_of an_upper = 21
form_of a_quoted = 22

-- What may be expected. The number is the nesting of the place.
pub data Expected : Type 0 where
  this : Fixed → ℕ → Expected
  term : ℕ → Expected
  -- behind a first argument: the others, and the bracket
  arguments : ℕ → Expected
  -- behind a word: arguments, or nothing
  some_arguments : ℕ → Expected
  -- behind a term that may be an atom: an equation's sign and term, or nothing
  some_equation : ℕ → Expected
  equation : ℕ → Expected
  atom : ℕ → Expected
  -- behind a variable of a quantifier
  variables : ℕ → Expected
  unit formula : ℕ → Expected
  -- behind a formula's first unit
  formula_rest : ℕ → Expected
  -- behind two units or more of a chain
  chain_rest : ChainKind → ℕ → Expected
  -- the `,` or `)` behind a formula
  stop : Expected
  -- clauses: behind a `~`, behind a literal, behind a clause's first `(`, and behind the atom there
  literal unsigned : ℕ → Expected
  literals_rest : ℕ → Expected
  clause clause_open clause_rest : Expected
  -- items: their names, what follows a formula, notes, and the rest of an include
  items name after_body : Expected
  first_note : Expected
  notes : (waiting : List Bool) → Expected
  include_rest names_rest : Expected

-- the nesting of a token, and what is expected in the place of what it begins
abbrev pub Move : Type 0
Move = Option (ℕ × List Expected)

abbrev pub this_move : Bool → ℕ → Move
this_move true d = Some (d, [])
this_move false d = None

abbrev pub term_move : ℕ → Terminal → Move
term_move d (upper x) = Some (d, [])
term_move d (lower w) = Some (d, some_arguments d ∷ [])
term_move d (quoted w) = Some (d, some_arguments d ∷ [])
term_move d _ = None

abbrev pub arguments_move : ℕ → Terminal → Move
arguments_move d comma = Some (d, term d ∷ arguments d ∷ [])
arguments_move d close_round = Some (d, [])
arguments_move d _ = None

abbrev pub some_arguments_move : ℕ → Terminal → Move
some_arguments_move d open_round = Some (d, term (suc d) ∷ arguments (suc d) ∷ [])
some_arguments_move d _ = None

abbrev pub equation_move : ℕ → Terminal → Move
equation_move d equal = Some (d, term d ∷ [])
equation_move d unequal = Some (d, term d ∷ [])
equation_move d _ = None

abbrev pub is_word : List ℕ → List ℕ → Bool
is_word v w = list_eq ◌==◌ v w

abbrev pub dollar_move : Bool → ℕ → Move
dollar_move true d = Some (d, [])
dollar_move false d = None

abbrev pub is_truth : List ℕ → Bool
is_truth w = if is_word w (codes "$true") then true else is_word w (codes "$false")

abbrev pub atom_move : ℕ → Terminal → Move
atom_move d (dollar w) = dollar_move (is_truth w) d
atom_move d (upper x) = Some (d, equation d ∷ [])
atom_move d (lower w) = Some (d, some_arguments d ∷ some_equation d ∷ [])
atom_move d (quoted w) = Some (d, some_arguments d ∷ some_equation d ∷ [])
atom_move d _ = None

abbrev pub variables_move : ℕ → Terminal → Move
variables_move d comma = Some (d, this an_upper d ∷ variables d ∷ [])
variables_move d close_square = Some (d, this a_colon d ∷ [])
variables_move d _ = None

abbrev pub modal_move : Bool → ℕ → Move
modal_move true d = Some (d, this a_colon d ∷ unit (suc d) ∷ [])
modal_move false d = None

abbrev pub is_modality : List ℕ → Bool
is_modality w = if is_word w (codes "#box") then true else is_word w (codes "#dia")

abbrev pub unit_move : Bool → ℕ → Terminal → Move
unit_move modal d open_round = Some (d, formula (suc d) ∷ this a_closing (suc d) ∷ [])
unit_move modal d tilde = Some (d, unit (suc d) ∷ [])
unit_move modal d exclamation = Some (d, this a_square d ∷ this an_upper d ∷ variables d ∷ unit (suc d) ∷ [])
unit_move modal d question = Some (d, this a_square d ∷ this an_upper d ∷ variables d ∷ unit (suc d) ∷ [])
unit_move modal d (hash w) = modal_move (modal && is_modality w) d
unit_move modal d x = atom_move d x

-- the move of the first part, with what follows it
abbrev pub before : List Expected → Move → Move
before rest None = None
before rest (Some m) = Some (m.0, m.1 ++ rest)

abbrev pub formula_rest_move : ℕ → Terminal → Move
formula_rest_move d ampersand = Some (d, unit d ∷ chain_rest And d ∷ [])
formula_rest_move d bar = Some (d, unit d ∷ chain_rest Or d ∷ [])
formula_rest_move d implies = Some (d, unit d ∷ [])
formula_rest_move d implied = Some (d, unit d ∷ [])
formula_rest_move d equivalent = Some (d, unit d ∷ [])
formula_rest_move d inequivalent = Some (d, unit d ∷ [])
formula_rest_move d nor = Some (d, unit d ∷ [])
formula_rest_move d nand = Some (d, unit d ∷ [])
formula_rest_move d _ = None

abbrev pub chain_rest_move : ChainKind → ℕ → Terminal → Move
chain_rest_move And d ampersand = Some (d, unit d ∷ chain_rest And d ∷ [])
chain_rest_move Or d bar = Some (d, unit d ∷ chain_rest Or d ∷ [])
chain_rest_move c d _ = None

abbrev pub stop_move : Terminal → Move
stop_move comma = Some (0, [])
stop_move close_round = Some (0, [])
stop_move _ = None

abbrev pub unsigned_move : ℕ → Terminal → Move
unsigned_move d open_round = Some (d, atom (suc d) ∷ this a_closing (suc d) ∷ [])
unsigned_move d x = atom_move d x

abbrev pub literal_move : ℕ → Terminal → Move
literal_move d tilde = Some (d, unsigned (suc d) ∷ [])
literal_move d x = unsigned_move d x

abbrev pub literals_rest_move : ℕ → Terminal → Move
literals_rest_move d bar = Some (d, literal d ∷ literals_rest d ∷ [])
literals_rest_move d _ = None

abbrev pub clause_move : Terminal → Move
clause_move open_round = Some (0, clause_open ∷ [])
clause_move tilde = Some (0, unsigned 1 ∷ literals_rest 0 ∷ [])
clause_move x = before (literals_rest 0 ∷ []) (atom_move 0 x)

-- a literal that begins with `~` or `(` is the first of a bracketed clause
abbrev pub clause_open_move : Terminal → Move
clause_open_move tilde = Some (1, unsigned 2 ∷ literals_rest 1 ∷ this a_closing 1 ∷ [])
clause_open_move open_round = Some (1, atom 2 ∷ this a_closing 2 ∷ literals_rest 1 ∷ this a_closing 1 ∷ [])
clause_open_move x = before (clause_rest ∷ []) (atom_move 1 x)

abbrev pub clause_rest_move : Terminal → Move
clause_rest_move bar = Some (1, literal 1 ∷ literals_rest 1 ∷ this a_closing 1 ∷ [])
clause_rest_move close_round = Some (1, literals_rest 0 ∷ [])
clause_rest_move _ = None

-- ---- items

abbrev pub head_of : Expected → List Expected
head_of body = this an_opening 0 ∷ name ∷ this a_comma 0 ∷ this a_lower 0 ∷ this a_comma 0 ∷ body ∷ after_body ∷ this a_dot 0 ∷ items ∷ []

abbrev pub word_move : Bool → List ℕ → Move
word_move modal w =
    if is_word w (codes "include") then Some (0, this an_opening 0 ∷ this a_quoted 0 ∷ include_rest ∷ this a_dot 0 ∷ items ∷ [])
    else (if is_word w (codes "fof") then (if modal then None else Some (0, head_of (formula 0)))
    else (if is_word w (codes "cnf") then (if modal then None else Some (0, head_of clause))
    else (if is_word w (codes "qmf") then (if modal then Some (0, head_of (formula 0)) else None)
    else None)))

abbrev pub items_move : Bool → Terminal → Move
items_move modal (lower w) = word_move modal w
items_move modal _ = None

abbrev pub name_move : Terminal → Move
name_move (lower w) = Some (0, [])
name_move (quoted w) = Some (0, [])
name_move (number w) = this_move (is_digits w) 0
name_move _ = None

abbrev pub after_body_move : Terminal → Move
after_body_move comma = Some (0, first_note ∷ [])
after_body_move close_round = Some (0, [])
after_body_move _ = None

abbrev pub notes_move : List Bool → Terminal → Move
notes_move waiting open_round = Some (0, notes (true ∷ waiting) ∷ [])
notes_move waiting open_square = Some (0, notes (false ∷ waiting) ∷ [])
notes_move [] close_round = Some (0, [])
notes_move (true ∷ waiting) close_round = Some (0, notes waiting ∷ [])
notes_move (false ∷ waiting) close_round = None
notes_move [] close_square = None
notes_move (true ∷ waiting) close_square = None
notes_move (false ∷ waiting) close_square = Some (0, notes waiting ∷ [])
notes_move waiting x = Some (0, notes waiting ∷ [])

abbrev pub first_note_move : Terminal → Move
first_note_move close_round = None
first_note_move x = notes_move [] x

abbrev pub include_rest_move : Terminal → Move
include_rest_move comma = Some (0, this a_square 0 ∷ name ∷ names_rest ∷ [])
include_rest_move close_round = Some (0, [])
include_rest_move _ = None

abbrev pub names_rest_move : Terminal → Move
names_rest_move comma = Some (0, name ∷ names_rest ∷ [])
names_rest_move close_square = Some (0, this a_closing 0 ∷ [])
names_rest_move _ = None

-- ---- the machine

abbrev pub move : Bool → Expected → Terminal → Move
move modal (this k d) x = this_move (form x == form_of k) d
move modal (term d) x = term_move d x
move modal (arguments d) x = arguments_move d x
move modal (some_arguments d) x = some_arguments_move d x
move modal (some_equation d) x = equation_move d x
move modal (equation d) x = equation_move d x
move modal (atom d) x = atom_move d x
move modal (variables d) x = variables_move d x
move modal (unit d) x = unit_move modal d x
move modal (formula d) x = before (formula_rest d ∷ []) (unit_move modal d x)
move modal (formula_rest d) x = formula_rest_move d x
move modal (chain_rest c d) x = chain_rest_move c d x
move modal stop x = stop_move x
move modal (literal d) x = literal_move d x
move modal (unsigned d) x = unsigned_move d x
move modal (literals_rest d) x = literals_rest_move d x
move modal clause x = clause_move x
move modal clause_open x = clause_open_move x
move modal clause_rest x = clause_rest_move x
move modal items x = items_move modal x
move modal name x = name_move x
move modal after_body x = after_body_move x
move modal first_note x = first_note_move x
move modal (notes waiting) x = notes_move waiting x
move modal include_rest x = include_rest_move x
move modal names_rest x = names_rest_move x

-- nothing may stand in its place
abbrev pub is_optional : Expected → Bool
is_optional (some_arguments d) = true
is_optional (some_equation d) = true
is_optional (formula_rest d) = true
is_optional (chain_rest c d) = true
is_optional (literals_rest d) = true
is_optional items = true
is_optional _ = false

-- where the first has no move it must be optional, and then the next one counts
abbrev pub moved : Move → Bool → List Expected → Move → Move
moved (Some m) optional rest next = Some (m.0, m.1 ++ rest)
moved None true rest next = next
moved None false rest next = None

abbrev pub step : Bool → List Expected → Terminal → Move
step modal [] x = None
step modal (e ∷ es) x = moved (move modal e x) (is_optional e) es (step modal es x)

-- the nestings of the tokens, and what is expected behind them
abbrev pub Run : Type 0
Run = Option (List ℕ × List Expected)

abbrev pub run_on : ℕ → Run → Run
run_on n None = None
run_on n (Some r) = Some (n ∷ r.0, r.1)

abbrev pub run_after : Move → (List Expected → Run) → Run
run_after None next = None
run_after (Some m) next = run_on m.0 (next m.1)

abbrev pub run : Bool → List Expected → List Terminal → Run
run modal es [] = Some ([], es)
run modal es (x ∷ xs) = run_after (step modal es x) (λ fs. run modal fs xs)

abbrev pub all_optional : List Expected → Bool
all_optional [] = true
all_optional (e ∷ es) = is_optional e && all_optional es

-- ---- places

abbrev pub is_inner : Fixed → Bool
is_inner a_closing = true
is_inner a_square = true
is_inner a_colon = true
is_inner an_upper = true
is_inner _ = false

abbrev pub is_part : Expected → Bool
is_part (this k d) = is_inner k
is_part stop = false
is_part items = false
is_part name = false
is_part after_body = false
is_part first_note = false
is_part (notes w) = false
is_part include_rest = false
is_part names_rest = false
is_part _ = true

abbrev pub are_parts : List Expected → Bool
are_parts es = list_all is_part es

-- parts of a formula or clause, and then what follows it
abbrev pub is_after_body : Expected → Bool
is_after_body after_body = true
is_after_body _ = false

abbrev pub is_in_body : List Expected → Bool
is_in_body [] = false
is_in_body (e ∷ es) = is_after_body e || (is_part e && is_in_body es)

abbrev pub is_items : Expected → Bool
is_items items = true
is_items _ = false

-- an item may begin, and nothing else is expected
abbrev pub is_at_item : List Expected → Bool
is_at_item [] = false
is_at_item (e ∷ []) = is_items e
is_at_item (e ∷ f ∷ es) = false

-- ---- terminals from bytes

-- the name in quotes; the flag says that a `\` stands right before
abbrev pub name_in : Bool → List ℕ → List ℕ
name_in paired [] = []
name_in true (b ∷ bs) = b ∷ name_in false bs
name_in false (b ∷ bs) = if b == 92 then name_in true bs else (if b == 39 then [] else b ∷ name_in false bs)

abbrev pub without_quote : List ℕ → List ℕ
without_quote [] = []
without_quote (b ∷ bs) = bs

-- signs of one byte, of two and of three
abbrev pub single_sign : ℕ → Terminal
single_sign b =
    if b == 40 then open_round
    else (if b == 41 then close_round
    else (if b == 91 then open_square
    else (if b == 93 then close_square
    else (if b == 44 then comma
    else (if b == 46 then dot
    else (if b == 58 then colon
    else (if b == 126 then tilde
    else (if b == 33 then exclamation
    else (if b == 63 then question
    else (if b == 38 then ampersand
    else (if b == 124 then bar
    else equal)))))))))))

abbrev pub double_sign : ℕ → ℕ → Terminal
double_sign b c =
    if b == 61 then implies
    else (if b == 60 then implied
    else (if b == 33 then unequal
    else (if c == 124 then nor
    else nand)))

abbrev pub sign_of : List ℕ → Terminal
sign_of [] = unequal
sign_of (b ∷ []) = single_sign b
sign_of (b ∷ c ∷ []) = double_sign b c
sign_of (b ∷ c ∷ d ∷ bs) = if c == 61 then equivalent else inequivalent

abbrev pub terminal_of : TokenKind → List ℕ → Terminal
terminal_of Lower w = lower w
terminal_of Upper w = upper w
terminal_of Dollar w = dollar w
terminal_of Hash w = hash w
terminal_of Quoted w = quoted (name_in false (without_quote w))
terminal_of Distinct w = distinct w
terminal_of Number w = number w
terminal_of Sign w = sign_of w
