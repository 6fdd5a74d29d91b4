-- Where the code's way over a text goes wrong, and what a reader's answer settles: where it stops for another reason than
-- want of memory, the way goes wrong; where it finds something, the way goes wrong if it does behind that.
use Rattle.std.specs.Prelude.{◌≡◌, ◌⊎◌, ℕ, List, [], ◌∷◌, ◌++◌, Bool, true, false, Option, None, Some, Result, Ok, Err}
use Rattle.tptp_lex.specs.Answers.{IsFault, OnlySpace}
use Rattle.tptp_reader.specs.declared.item.ItemKind.{ItemKind}
use Rattle.tptp_reader.specs.declared.item.ItemKind.TheVariants.{Fof, Cnf, Qmf}
use Rattle.tptp_reader.specs.declared.stop.Stop.{Stop}
use Rattle.tptp_reader.specs.declared.stop.Stop.TheVariants as stop
use Rattle.tptp_reader.specs.declared.terminal.Piece.{Piece}
use Rattle.tptp_reader.specs.Sources as tree
use Rattle.tptp_reader.specs.Terminals.{Placed, Follow}
use Rattle.tptp_reader.specs.TerminalView.{the_terminal}
use Rattle.tptp_reader.specs.Expecting as way
use Rattle.tptp_reader.specs.Expecting.{Expected, Move, step, all_optional}
use Rattle.tptp_reader.specs.Following.{is_open, is_shallow}

-- With this stack at the place: no token begins there, or the text ends too early, or the next token cannot stand there or
-- is too deep, or the way goes wrong behind it. Where nothing is expected nothing goes wrong.
pub data Fails (modal : Bool) (text : List ℕ) : List Expected → ℕ → Type 0 where
  at_no_token : (es : List Expected) (from offset : ℕ) → is_open es ≡ true → IsFault text from offset → Fails modal text es from
  at_end : (es : List Expected) (from : ℕ) → all_optional es ≡ false → OnlySpace text from → Fails modal text es from
  at_token : (es : List Expected) (from : ℕ) (p : Placed) (to : ℕ) → Follow text from (p ∷ []) to → is_open es ≡ true → step modal es p.terminal ≡ None → Fails modal text es from
  at_depth : (es : List Expected) (from : ℕ) (p : Placed) (to : ℕ) (m : ℕ × List Expected) → Follow text from (p ∷ []) to → step modal es p.terminal ≡ Some m → is_shallow m.0 ≡ false → Fails modal text es from
  further : (es : List Expected) (from : ℕ) (p : Placed) (to : ℕ) (m : ℕ × List Expected) → Follow text from (p ∷ []) to → step modal es p.terminal ≡ Some m → Fails modal text m.1 to → Fails modal text es from

-- behind a token that makes this move and ends at the place
abbrev pub FailsAfter : Bool → List ℕ → Move → ℕ → Type 0
FailsAfter modal text None to = Unit {0}
FailsAfter modal text (Some m) to = (is_shallow m.0 ≡ false) ⊎ Fails modal text m.1 to

-- at this token, where something is expected
pub data FailsAt (modal : Bool) (text : List ℕ) (es : List Expected) (p : Piece) : Type 0 where
  fails_at : FailsAfter modal text (step modal es (the_terminal p.terminal)) p.end → FailsAt modal text es p

-- ---- what an answer settles

-- what is so where a reader stops for another reason than want of memory
abbrev pub Missing : Type 0 → Stop → Type 0
Missing P stop.NotThere = P
Missing P stop.NoMemory = Unit {0}

-- the same for each stack on which more than optional parts wait
abbrev pub OnStacks : (List Expected → Type 0) → Type 0
OnStacks P = (es : List Expected) → all_optional es ≡ false → P es

-- what one predicate says of the stack with these parts on it follows from what the other says of it behind what is read
abbrev pub Settles : {A : Type 0} → (List Expected → Type 0) → List Expected → (A → List Expected → Type 0) → Result A Stop → Type 0
Settles From parts To (Ok r) = OnStacks (λ es. To r es → From (parts ++ es))
Settles From parts To (Err s) = Missing (OnStacks (λ es. From (parts ++ es))) s

abbrev pub At : Bool → List ℕ → Piece → List Expected → Type 0
At modal text p es = FailsAt modal text es p

abbrev pub Behind : Bool → List ℕ → ℕ → List Expected → Type 0
Behind modal text from es = Fails modal text es from

-- from a token on, to the one behind what is read
abbrev pub SettlesAt : {A : Type 0} → Bool → List ℕ → List Expected → Piece → Result (A × Piece) Stop → Type 0
SettlesAt modal text parts p result = Settles (At modal text p) parts (λ r. At modal text r.1) result

abbrev pub SettlesTo : Bool → List ℕ → List Expected → Piece → Result Piece Stop → Type 0
SettlesTo modal text parts p result = Settles (At modal text p) parts (At modal text) result

-- from a place on
abbrev pub SettlesBehind : {A : Type 0} → Bool → List ℕ → List Expected → ℕ → Result (A × Piece) Stop → Type 0
SettlesBehind modal text parts from result = Settles (Behind modal text from) parts (λ r. At modal text r.1) result

abbrev pub SettlesNext : Bool → List ℕ → List Expected → ℕ → Result Piece Stop → Type 0
SettlesNext modal text parts from result = Settles (Behind modal text from) parts (At modal text) result

-- ---- loops

-- where it goes wrong with these parts at the one token, it does so with those at the other
abbrev pub Leads : Bool → List ℕ → List Expected → Piece → List Expected → Piece → Type 0
Leads modal text parts p others q = OnStacks (λ es. FailsAt modal text (others ++ es) q → FailsAt modal text (parts ++ es) p)

abbrev pub LeadsBehind : Bool → List ℕ → List Expected → ℕ → List Expected → ℕ → Type 0
LeadsBehind modal text parts from others to = OnStacks (λ es. Fails modal text (others ++ es) to → Fails modal text (parts ++ es) from)

-- ---- parts of formulas and items

-- behind a term that may be an atom
abbrev pub side_part : tree.SourceTerm → ℕ → Expected
side_part (tree.variable x) d = way.equation d
side_part (tree.apply f ts) d = way.some_equation d

abbrev pub body_part : ItemKind → Expected
body_part Fof = way.formula 0
body_part Cnf = way.clause
body_part Qmf = way.formula 0

-- the prefix of a quantifier behind its sign
abbrev pub quantifier_parts : ℕ → List Expected
quantifier_parts d = way.this way.a_square d ∷ way.this way.an_upper d ∷ way.variables d ∷ []

-- a clause in brackets behind the first one
abbrev pub bracketed_parts : ℕ → List Expected
bracketed_parts d = way.literal d ∷ way.literals_rest d ∷ way.this way.a_closing d ∷ []

-- an item between its first word and its formula
abbrev pub head_parts : List Expected
head_parts = way.this way.an_opening 0 ∷ way.name ∷ way.this way.a_comma 0 ∷ way.this way.a_lower 0 ∷ way.this way.a_comma 0 ∷ []

-- ---- items

-- an item's dot, and the items behind it
abbrev pub dot_and_items : List Expected
dot_and_items = way.this way.a_dot 0 ∷ way.items ∷ []

-- from a token on, to the dot
abbrev pub SettlesEnd : {A : Type 0} → (A → Piece) → Bool → List ℕ → List Expected → Piece → Result A Stop → Type 0
SettlesEnd dot modal text parts p (Ok r) = Fails modal text (way.items ∷ []) (dot r).end → FailsAt modal text (parts ++ dot_and_items) p
SettlesEnd dot modal text parts p (Err s) = Missing (FailsAt modal text (parts ++ dot_and_items) p) s

-- from the first token of an item on
abbrev pub SettlesItem : {A : Type 0} → Bool → List ℕ → Piece → Result (A × Piece) Stop → Type 0
SettlesItem modal text p (Ok r) = Fails modal text (way.items ∷ []) r.1.end → FailsAt modal text (way.items ∷ []) p
SettlesItem modal text p (Err s) = Missing (FailsAt modal text (way.items ∷ []) p) s
