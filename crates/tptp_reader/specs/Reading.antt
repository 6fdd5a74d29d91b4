-- What reading a text gives: its items, or its fault; and what reading a formula within a text gives.
use Rattle.std.specs.Prelude.{◌≡◌, ℕ, List, [], ◌∷◌, ◌++◌, Bool, IsTrue, ◌||◌}
use Rattle.std.specs.List.{list_all}
use Rattle.tptp_lex.specs.Answers.{OnlySpace}
use Rattle.tptp_reader.specs.Sources.{Source, Item}
use Rattle.tptp_reader.specs.Terminals.{Placed, terminals, offsets, Follow}
use Rattle.tptp_reader.specs.Grammar.{FormulaTree, is_plain, formula_tokens, ItemTree, item_fits, text_tokens}
use Rattle.tptp_reader.specs.Meaning.{source_of, items_of}
use Rattle.tptp_reader.specs.Faults.{TextLanguage, FormulaLanguage, TextCauses, FormulaCauses, is_stop, AreShallow, Fault, HasFault}

-- what reading gives
pub data Outcome (A : Type 0) : Type 0 where
  reads : A → Outcome A
  fails : Fault → Outcome A

-- The tokens of the text are those of these items, and nothing but white space and comments stands behind them.
pub record HoldsItems (modal : Bool) (text : List ℕ) (items : List Item) : Type 0 where
  pub tokens : List Placed
  pub to : ℕ
  pub trees : List ItemTree
  pub there : Follow text 0 tokens to
  pub all : OnlySpace text to
  pub written : terminals tokens ≡ text_tokens trees
  pub fit : IsTrue (list_all (item_fits modal) trees)
  pub shallow : AreShallow (TextLanguage modal) (terminals tokens)
  pub meant : items ≡ items_of (offsets tokens) trees

abbrev pub IsReading : Bool → List ℕ → Outcome (List Item) → Type 0
IsReading modal text (reads items) = HoldsItems modal text items
IsReading modal text (fails fault) = HasFault text 0 (TextLanguage modal) (TextCauses modal) fault

-- From the place on there stand the tokens of this formula and one that may follow a formula, which begins at `end`.
pub record HoldsFormula (modal : Bool) (text : List ℕ) (from : ℕ) (source : Source) (end : ℕ) : Type 0 where
  pub tokens : List Placed
  pub stop : Placed
  pub to : ℕ
  pub tree : FormulaTree
  pub there : Follow text from (tokens ++ stop ∷ []) to
  pub written : terminals tokens ≡ formula_tokens tree
  pub fit : IsTrue (modal || is_plain tree)
  pub stops : IsTrue (is_stop stop.terminal)
  pub shallow : AreShallow (FormulaLanguage modal) (terminals tokens)
  pub meant : source ≡ source_of tree
  pub place : end ≡ stop.at

abbrev pub IsFormulaReading : Bool → List ℕ → ℕ → Outcome (Source × ℕ) → Type 0
IsFormulaReading modal text from (reads r) = HoldsFormula modal text from r.0 r.1
IsFormulaReading modal text from (fails fault) = HasFault text from (FormulaLanguage modal) FormulaCauses fault
