-- The grammar of texts: trees, each with the tokens that it is written with.
--   text    = { item }
--   item    = "fof" "(" name "," Lower "," formula [ "," notes ] ")" "."
--           | "cnf" "(" name "," Lower "," clause  [ "," notes ] ")" "."
--           | "qmf" "(" name "," Lower "," formula [ "," notes ] ")" "."
--           | "include" "(" Quoted [ "," "[" name { "," name } "]" ] ")" "."
--   name    = Lower | Quoted | Number of digits alone
--   notes   = one or more tokens, round and square brackets balanced among themselves
--   formula = unit | unit "&" unit { "&" unit } | unit "|" unit { "|" unit } | unit op unit
--   op      = "=>" | "<=" | "<=>" | "<~>" | "~|" | "~&"
--   unit    = "(" formula ")" | "~" unit | quant "[" Upper { "," Upper } "]" ":" unit | modal ":" unit | atom
--   quant   = "!" | "?"          modal = "#box" | "#dia"
--   atom    = "$true" | "$false" | word [ "(" term { "," term } ")" ] | term "=" term | term "!=" term
--   term    = Upper | word [ "(" term { "," term } ")" ]
--   word    = Lower | Quoted
--   clause  = "(" lits ")" | lits          lits = lit { "|" lit }
--   lit     = [ "~" ] atom | [ "~" ] "(" atom ")"
-- Modal operators stand in qmf items alone. Texts of classical and intuitionistic problems have fof, cnf and include
-- items, those of modal problems qmf and include items.
use Rattle.std.specs.Prelude.{ℕ, List, [], ◌∷◌, ◌++◌, Bool, true, false, not, ◌&&◌, codes, Option, None, Some}
use Rattle.std.specs.List.{flat_map, list_all}
use Rattle.tptp_lex.specs.Tokens.{is_digits}
use Rattle.tptp_reader.specs.declared.source.ChainKind.{ChainKind}
use Rattle.tptp_reader.specs.declared.source.ChainKind.TheVariants.{And, Or}
use Rattle.tptp_reader.specs.declared.source.BinaryKind.{BinaryKind}
use Rattle.tptp_reader.specs.declared.source.BinaryKind.TheVariants.{Imp, If, Iff, Xor, Nor, Nand}
use Rattle.tptp_reader.specs.Terminals.{Terminal, lower, upper, quoted, number, dollar, hash, open_round, close_round, open_square, close_square, comma, dot, colon, tilde, exclamation, question, ampersand, bar, implies, implied, equivalent, inequivalent, nor, nand, equal, unequal}

-- ---- terms and atoms

pub data Word : Type 0 where
  plain : List ℕ → Word
  in_quotes : List ℕ → Word

abbrev pub word_token : Word → Terminal
word_token (plain w) = lower w
word_token (in_quotes w) = quoted w

mutual
  pub data TermTree : Type 0 where
    variable : List ℕ → TermTree
    constant : Word → TermTree
    application : Word → TermTree → TermTrees → TermTree

  -- the terms that follow a first one
  pub data TermTrees : Type 0 where
    no_terms : TermTrees
    more_terms : TermTree → TermTrees → TermTrees

abbrev mutual
  pub term_tokens : TermTree → List Terminal
  term_tokens (variable x) = upper x ∷ []
  term_tokens (constant w) = word_token w ∷ []
  term_tokens (application w t ts) = word_token w ∷ open_round ∷ (term_tokens t ++ terms_tokens ts)

  -- each term with the comma before it, and the bracket that closes
  pub terms_tokens : TermTrees → List Terminal
  terms_tokens no_terms = close_round ∷ []
  terms_tokens (more_terms t ts) = comma ∷ (term_tokens t ++ terms_tokens ts)

pub data AtomTree : Type 0 where
  truth falsity : AtomTree
  proposition : Word → AtomTree
  predication : Word → TermTree → TermTrees → AtomTree
  equation disequation : TermTree → TermTree → AtomTree

abbrev pub atom_tokens : AtomTree → List Terminal
atom_tokens truth = dollar (codes "$true") ∷ []
atom_tokens falsity = dollar (codes "$false") ∷ []
atom_tokens (proposition w) = word_token w ∷ []
atom_tokens (predication w t ts) = word_token w ∷ open_round ∷ (term_tokens t ++ terms_tokens ts)
atom_tokens (equation s t) = term_tokens s ++ equal ∷ term_tokens t
atom_tokens (disequation s t) = term_tokens s ++ unequal ∷ term_tokens t

-- ---- formulas

pub data Quantifier : Type 0 where
  universal existential : Quantifier

abbrev pub quantifier_token : Quantifier → Terminal
quantifier_token universal = exclamation
quantifier_token existential = question

pub data Modality : Type 0 where
  necessity possibility : Modality

abbrev pub modality_token : Modality → Terminal
modality_token necessity = hash (codes "#box")
modality_token possibility = hash (codes "#dia")

abbrev pub chain_token : ChainKind → Terminal
chain_token And = ampersand
chain_token Or = bar

abbrev pub binary_token : BinaryKind → Terminal
binary_token Imp = implies
binary_token If = implied
binary_token Iff = equivalent
binary_token Xor = inequivalent
binary_token Nor = nor
binary_token Nand = nand

mutual
  pub data UnitTree : Type 0 where
    bracketed : FormulaTree → UnitTree
    negation : UnitTree → UnitTree
    quantified : Quantifier → (first : List ℕ) → (others : List (List ℕ)) → UnitTree → UnitTree
    under_modality : Modality → UnitTree → UnitTree
    atomic : AtomTree → UnitTree

  pub data FormulaTree : Type 0 where
    single : UnitTree → FormulaTree
    chain : ChainKind → UnitTree → UnitTree → UnitTrees → FormulaTree
    binary : BinaryKind → UnitTree → UnitTree → FormulaTree

  -- the units of a chain after the first two
  pub data UnitTrees : Type 0 where
    no_units : UnitTrees
    more_units : UnitTree → UnitTrees → UnitTrees

-- each variable with the comma before it, and the end of a quantifier's prefix
abbrev pub variables_tokens : List (List ℕ) → List Terminal
variables_tokens [] = close_square ∷ colon ∷ []
variables_tokens (x ∷ xs) = comma ∷ upper x ∷ variables_tokens xs

abbrev mutual
  pub unit_tokens : UnitTree → List Terminal
  unit_tokens (bracketed f) = open_round ∷ (formula_tokens f ++ close_round ∷ [])
  unit_tokens (negation u) = tilde ∷ unit_tokens u
  unit_tokens (quantified q x xs u) = quantifier_token q ∷ open_square ∷ upper x ∷ (variables_tokens xs ++ unit_tokens u)
  unit_tokens (under_modality m u) = modality_token m ∷ colon ∷ unit_tokens u
  unit_tokens (atomic a) = atom_tokens a

  pub formula_tokens : FormulaTree → List Terminal
  formula_tokens (single u) = unit_tokens u
  formula_tokens (chain c u v us) = unit_tokens u ++ chain_token c ∷ (unit_tokens v ++ units_tokens c us)
  formula_tokens (binary c u v) = unit_tokens u ++ binary_token c ∷ unit_tokens v

  -- each unit with the connective before it
  pub units_tokens : ChainKind → UnitTrees → List Terminal
  units_tokens c no_units = []
  units_tokens c (more_units u us) = chain_token c ∷ (unit_tokens u ++ units_tokens c us)

-- no modal operator stands in it
abbrev mutual
  pub is_plain_unit : UnitTree → Bool
  is_plain_unit (bracketed f) = is_plain f
  is_plain_unit (negation u) = is_plain_unit u
  is_plain_unit (quantified q x xs u) = is_plain_unit u
  is_plain_unit (under_modality m u) = false
  is_plain_unit (atomic a) = true

  pub is_plain : FormulaTree → Bool
  is_plain (single u) = is_plain_unit u
  is_plain (chain c u v us) = is_plain_unit u && is_plain_unit v && are_plain_units us
  is_plain (binary c u v) = is_plain_unit u && is_plain_unit v

  pub are_plain_units : UnitTrees → Bool
  are_plain_units no_units = true
  are_plain_units (more_units u us) = is_plain_unit u && are_plain_units us

-- ---- clauses

pub data LiteralTree : Type 0 where
  positive negative : AtomTree → LiteralTree
  positive_bracketed negative_bracketed : AtomTree → LiteralTree

abbrev pub literal_tokens : LiteralTree → List Terminal
literal_tokens (positive a) = atom_tokens a
literal_tokens (negative a) = tilde ∷ atom_tokens a
literal_tokens (positive_bracketed a) = open_round ∷ (atom_tokens a ++ close_round ∷ [])
literal_tokens (negative_bracketed a) = tilde ∷ open_round ∷ (atom_tokens a ++ close_round ∷ [])

-- each literal with the `|` before it
abbrev pub literals_tokens : List LiteralTree → List Terminal
literals_tokens ls = flat_map (λ l. bar ∷ literal_tokens l) ls

-- `(p)` is a clause in two ways: a bracketed literal, or a bracketed clause. Both mean the same.
pub data ClauseTree : Type 0 where
  bare bracketed_clause : LiteralTree → List LiteralTree → ClauseTree

abbrev pub clause_tokens : ClauseTree → List Terminal
clause_tokens (bare l ls) = literal_tokens l ++ literals_tokens ls
clause_tokens (bracketed_clause l ls) = open_round ∷ (literal_tokens l ++ literals_tokens ls ++ close_round ∷ [])

-- ---- items

pub data NameTree : Type 0 where
  word_name : Word → NameTree
  number_name : List ℕ → NameTree

abbrev pub name_token : NameTree → Terminal
name_token (word_name w) = word_token w
name_token (number_name ds) = number ds

abbrev pub name_fits : NameTree → Bool
name_fits (word_name w) = true
name_fits (number_name ds) = is_digits ds

-- The brackets among the tokens close one another. `waiting` are those that wait to be closed, the last one first: true for
-- a round one, false for a square one.
abbrev pub closes : List Bool → List Terminal → Bool
closes [] [] = true
closes (b ∷ waiting) [] = false
closes waiting (open_round ∷ ts) = closes (true ∷ waiting) ts
closes waiting (open_square ∷ ts) = closes (false ∷ waiting) ts
closes (true ∷ waiting) (close_round ∷ ts) = closes waiting ts
closes (false ∷ waiting) (close_square ∷ ts) = closes waiting ts
closes waiting (close_round ∷ ts) = false
closes waiting (close_square ∷ ts) = false
closes waiting (t ∷ ts) = closes waiting ts

abbrev pub are_notes : List Terminal → Bool
are_notes [] = false
are_notes (t ∷ ts) = closes [] (t ∷ ts)

-- the item's comma and notes, where it has notes
abbrev pub notes_tokens : Option (List Terminal) → List Terminal
notes_tokens None = []
notes_tokens (Some ts) = comma ∷ ts

abbrev pub notes_fit : Option (List Terminal) → Bool
notes_fit None = true
notes_fit (Some ts) = are_notes ts

pub data ItemTree : Type 0 where
  fof qmf : (name : NameTree) (role : List ℕ) (body : FormulaTree) (notes : Option (List Terminal)) → ItemTree
  cnf : (name : NameTree) (role : List ℕ) (body : ClauseTree) (notes : Option (List Terminal)) → ItemTree
  include : (file : List ℕ) → ItemTree
  include_names : (file : List ℕ) (first : NameTree) (others : List NameTree) → ItemTree

-- what stands before an item's formula
abbrev pub head_tokens : List ℕ → NameTree → List ℕ → List Terminal
head_tokens language name role = lower language ∷ open_round ∷ name_token name ∷ comma ∷ lower role ∷ comma ∷ []

abbrev pub end_tokens : List Terminal
end_tokens = close_round ∷ dot ∷ []

abbrev pub item_tokens : ItemTree → List Terminal
item_tokens (fof name role f notes) = head_tokens (codes "fof") name role ++ formula_tokens f ++ notes_tokens notes ++ end_tokens
item_tokens (qmf name role f notes) = head_tokens (codes "qmf") name role ++ formula_tokens f ++ notes_tokens notes ++ end_tokens
item_tokens (cnf name role c notes) = head_tokens (codes "cnf") name role ++ clause_tokens c ++ notes_tokens notes ++ end_tokens
item_tokens (include file) = lower (codes "include") ∷ open_round ∷ quoted file ∷ end_tokens
item_tokens (include_names file n ns) =
    lower (codes "include") ∷ open_round ∷ quoted file ∷ comma ∷ open_square ∷ name_token n ∷ (flat_map (λ m. comma ∷ name_token m ∷ []) ns ++ close_square ∷ end_tokens)

-- the item may stand in a text of a modal problem, or of one that is not modal
abbrev pub item_fits : Bool → ItemTree → Bool
item_fits modal (fof name role f notes) = not modal && name_fits name && is_plain f && notes_fit notes
item_fits modal (qmf name role f notes) = modal && name_fits name && notes_fit notes
item_fits modal (cnf name role c notes) = not modal && name_fits name && notes_fit notes
item_fits modal (include file) = true
item_fits modal (include_names file n ns) = name_fits n && list_all name_fits ns

abbrev pub text_tokens : List ItemTree → List Terminal
text_tokens items = flat_map item_tokens items
