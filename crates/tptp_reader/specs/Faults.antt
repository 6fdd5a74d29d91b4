-- Faults: the first token that cannot follow those before it, what is wrong there, and the first token that is too deep.
use Rattle.std.specs.Prelude.{◌≡◌, ◌<◌, ◌⊎◌, ℕ, List, [], ◌∷◌, ◌++◌, Bool, true, false, IsTrue, if◌then◌else◌, ◌==◌, ◌||◌, codes, length, slice_get, Some}
use Rattle.std.specs.List.{list_all, list_any}
use Rattle.calculus.specs.Equality.{list_eq}
use Rattle.tptp_lex.specs.Answers.{OnlySpace, IsFault}
use Rattle.tptp_reader.specs.declared.fault.ReadCause.{ReadCause}
use Rattle.tptp_reader.specs.declared.fault.ReadCause.TheVariants.{Syntax, Unsupported, Reserved, WrongLanguage}
use Rattle.tptp_reader.specs.Terminals.{Terminal, lower, number, distinct, dollar, comma, close_round, Placed, terminals, Follow}
use Rattle.tptp_reader.specs.Grammar.{FormulaTree, is_plain, formula_tokens, ClauseTree, clause_tokens, ItemTree, item_fits, text_tokens, NameTree, name_fits, head_tokens}
use Rattle.tptp_reader.specs.Nesting.{formula_nestings, clause_nestings, text_nestings}

-- ---- languages

-- which lists of tokens are texts, and the nestings of their tokens
abbrev pub Language : Type 1
Language = List Terminal → List ℕ → Type 0

-- texts of items
abbrev pub TextLanguage : Bool → Language
TextLanguage modal ts nestings =
    (items : List ItemTree) × IsTrue (list_all (item_fits modal) items) × (ts ≡ text_tokens items) × (nestings ≡ text_nestings items)

abbrev pub is_stop : Terminal → Bool
is_stop comma = true
is_stop close_round = true
is_stop _ = false

-- a formula and the `,` or `)` behind it
abbrev pub FormulaLanguage : Bool → Language
FormulaLanguage modal ts nestings =
    (f : FormulaTree) × (stop : Terminal) × IsTrue (modal || is_plain f) × IsTrue (is_stop stop) × (ts ≡ formula_tokens f ++ stop ∷ []) × (nestings ≡ formula_nestings 0 f ++ 0 ∷ [])

-- a clause and the `,` or `)` behind it
abbrev pub ClauseLanguage : Language
ClauseLanguage ts nestings =
    (c : ClauseTree) × (stop : Terminal) × IsTrue (is_stop stop) × (ts ≡ clause_tokens c ++ stop ∷ []) × (nestings ≡ clause_nestings 0 c ++ 0 ∷ [])

-- In some text of the language this token follows these, and has this nesting there.
abbrev pub FollowsAt : Language → List Terminal → Terminal → ℕ → Type 0
FollowsAt L front x n = (rest : List Terminal) × (nestings : List ℕ) × L (front ++ x ∷ rest) nestings × (slice_get nestings (length front) ≡ Some n)

abbrev pub CanFollow : Language → List Terminal → Terminal → Type 0
CanFollow L front x = (n : ℕ) × FollowsAt L front x n

-- in some text of the language something follows these
abbrev pub CanGoOn : Language → List Terminal → Type 0
CanGoOn L front = (x : Terminal) × CanFollow L front x

-- the tokens alone are a text
abbrev pub IsWhole : Language → List Terminal → Type 0
IsWhole L ts = (nestings : List ℕ) × L ts nestings

-- ---- causes

-- where a token stands: where an item may begin; in a formula or clause or right behind it; anywhere else
pub data Place : Type 0 where
  at_item in_formula elsewhere : Place

-- these tokens are whole items, the beginning of one up to its formula, and the beginning of that
abbrev pub StandsIn : Bool → List ℕ → Language → List Terminal → Type 0
StandsIn modal language L front =
    (items : List ItemTree) × (name : NameTree) × (role : List ℕ) × (inside : List Terminal) ×
    IsTrue (list_all (item_fits modal) items) × IsTrue (name_fits name) × (front ≡ text_tokens items ++ head_tokens language name role ++ inside) × CanGoOn L inside

abbrev pub InFormula : Bool → List Terminal → Type 0
InFormula false front = StandsIn false (codes "fof") (FormulaLanguage false) front ⊎ StandsIn false (codes "cnf") ClauseLanguage front
InFormula true front = StandsIn true (codes "qmf") (FormulaLanguage true) front

abbrev pub IsPlace : Bool → List Terminal → Place → Type 0
IsPlace modal front at_item = IsWhole (TextLanguage modal) front
IsPlace modal front in_formula = (IsWhole (TextLanguage modal) front → ⊥) × InFormula modal front
IsPlace modal front elsewhere = (IsWhole (TextLanguage modal) front → ⊥) × (InFormula modal front → ⊥)

abbrev pub is_word_in : List ℕ → List (List ℕ) → Bool
is_word_in w ws = list_any (list_eq ◌==◌ w) ws

-- items of the other logics, and items that are not read
abbrev pub wrong_words : Bool → List (List ℕ)
wrong_words false = codes "qmf" ∷ []
wrong_words true = codes "fof" ∷ codes "cnf" ∷ []

abbrev pub unsupported_words : List (List ℕ)
unsupported_words = codes "tff" ∷ codes "thf" ∷ codes "tcf" ∷ codes "tpi" ∷ []

abbrev pub item_cause : Bool → Terminal → ReadCause
item_cause modal (lower w) = if is_word_in w (wrong_words modal) then WrongLanguage else (if is_word_in w unsupported_words then Unsupported else Syntax)
item_cause modal _ = Syntax

abbrev pub formula_cause : Terminal → ReadCause
formula_cause (number w) = Unsupported
formula_cause (distinct w) = Unsupported
formula_cause (dollar w) = if is_word_in w (codes "$true" ∷ codes "$false" ∷ []) then Syntax else Reserved
formula_cause _ = Syntax

abbrev pub cause_at : Bool → Place → Terminal → ReadCause
cause_at modal at_item x = item_cause modal x
cause_at modal in_formula x = formula_cause x
cause_at modal elsewhere x = Syntax

-- the cause for a token that cannot follow these
abbrev pub Causes : Type 1
Causes = List Terminal → Terminal → ReadCause → Type 0

abbrev pub TextCauses : Bool → Causes
TextCauses modal front x cause = (place : Place) × IsPlace modal front place × (cause ≡ cause_at modal place x)

abbrev pub FormulaCauses : Causes
FormulaCauses front x cause = cause ≡ formula_cause x

-- ---- faults

-- the greatest nesting of a token that is read
abbrev pub greatest_nesting : ℕ
greatest_nesting = 500

abbrev pub IsTooDeep : Language → List Terminal → Terminal → Type 0
IsTooDeep L front x = (n : ℕ) × FollowsAt L front x n × (greatest_nesting < n)

-- no token of these is too deep
abbrev pub AreShallow : Language → List Terminal → Type 0
AreShallow L ts = (front back : List Terminal) (x : Terminal) → ts ≡ front ++ x ∷ back → IsTooDeep L front x → ⊥

-- an offset and what is wrong there, or the offset of a token that is too deep
pub data Fault : Type 0 where
  wrong : ℕ → ReadCause → Fault
  too_deep : ℕ → Fault

-- The fault of a text that is read from the place `from` on: at the first token that cannot follow those before it, at a
-- lexical fault, or at the text's end. A token before it that is too deep goes first.
pub data HasFault (text : List ℕ) (from : ℕ) (L : Language) (C : Causes) : Fault → Type 0 where
  at_token : (front : List Placed) (p : Placed) (to : ℕ) (cause : ReadCause)
      → Follow text from (front ++ p ∷ []) to → AreShallow L (terminals front)
      → CanGoOn L (terminals front) → (CanFollow L (terminals front) p.terminal → ⊥) → C (terminals front) p.terminal cause
      → HasFault text from L C (wrong p.at cause)
  at_no_token : (front : List Placed) (to offset : ℕ)
      → Follow text from front to → AreShallow L (terminals front)
      → CanGoOn L (terminals front) → IsFault text to offset
      → HasFault text from L C (wrong offset Syntax)
  at_end : (front : List Placed) (to : ℕ)
      → Follow text from front to → AreShallow L (terminals front)
      → CanGoOn L (terminals front) → (IsWhole L (terminals front) → ⊥) → OnlySpace text to
      → HasFault text from L C (wrong (length text) Syntax)
  at_depth : (front : List Placed) (p : Placed) (to : ℕ)
      → Follow text from (front ++ p ∷ []) to → AreShallow L (terminals front) → IsTooDeep L (terminals front) p.terminal
      → HasFault text from L C (too_deep p.at)
