-- What the readers of items and texts find.
use Rattle.std.specs.Prelude.{◌≡◌, ℕ, List, [], ◌∷◌, ◌++◌, Bool, true, false, not, ◌||◌, codes, drop, Option, None, Some, if◌then◌else◌, slice_index_or}
use Rattle.std.specs.List.{flat_map, list_all}
use Rattle.tptp_lex.specs.Tokens.{is_digits}
use Rattle.tptp_reader.specs.declared.item.Item.{Item}
use Rattle.tptp_reader.specs.declared.item_reader.Head.{Head}
use Rattle.tptp_reader.specs.declared.item.ItemKind.{ItemKind}
use Rattle.tptp_reader.specs.declared.item.ItemKind.TheVariants.{Fof, Cnf, Qmf}
use Rattle.tptp_reader.specs.declared.source.Source as program
use Rattle.tptp_reader.specs.declared.terminal.Piece.{Piece}
use Rattle.tptp_reader.specs.Sources as tree
use Rattle.tptp_reader.specs.SourceView.{the_source}
use Rattle.tptp_reader.specs.ItemView.{the_item}
use Rattle.tptp_reader.specs.Terminals.{Terminal, lower, quoted, number, open_round, close_round, open_square, close_square, comma, dot, Placed, terminals, offsets, Follow}
use Rattle.tptp_reader.specs.Grammar as g
use Rattle.tptp_reader.specs.Grammar.{FormulaTree, ClauseTree, NameTree, ItemTree, formula_tokens, clause_tokens, name_token, name_fits, notes_tokens, notes_fit, item_tokens}
use Rattle.tptp_reader.specs.Meaning.{source_of, clause_of, name_of, item_of, items_of}
use Rattle.tptp_reader.specs.Nesting.{formula_nestings, clause_nestings, item_nestings, text_nestings}
use Rattle.tptp_reader.specs.Expecting.{is_word}
use Rattle.tptp_reader.specs.Pieces.{placed}
use Rattle.tptp_reader.specs.TerminalView.{the_terminal}
use Rattle.tptp_reader.specs.Spans.{Span, AreRead}

-- ---- single tokens

-- the kind of an item with a formula that may stand in a text of a modal problem, or of one that is not modal
abbrev pub kind_in : Bool → Terminal → Option ItemKind
kind_in true (lower w) = if is_word w (codes "qmf") then Some Qmf else None
kind_in false (lower w) = if is_word w (codes "fof") then Some Fof else (if is_word w (codes "cnf") then Some Cnf else None)
kind_in modal _ = None

-- a number is a name where it has digits alone
abbrev pub name_in : Terminal → Option (List ℕ)
name_in (lower w) = Some w
name_in (quoted w) = Some w
name_in (number w) = if is_digits w then Some w else None
name_in _ = None

abbrev pub role_in : Terminal → Option (List ℕ)
role_in (lower w) = Some w
role_in _ = None

abbrev pub file_in : Terminal → Option (List ℕ)
file_in (quoted w) = Some w
file_in _ = None

abbrev pub is_include_word : Terminal → Bool
is_include_word (lower w) = is_word w (codes "include")
is_include_word _ = false

abbrev pub is_square : Terminal → Bool
is_square close_square = true
is_square _ = false

-- ---- tokens with their places

-- From the first piece on these tokens stand, and the last piece is the one behind them.
pub data Placing (text : List ℕ) : Piece → List Placed → Piece → Type 0 where
  nothing_placed : (p : Piece) → Placing text p [] p
  one_placed : (p q r : Piece) (ps : List Placed) → Follow text p.end (placed q ∷ []) q.end → Placing text q ps r → Placing text p (placed p ∷ ps) r

-- a closing bracket and the dot behind it, which is the last piece
abbrev pub DotRead : List ℕ → Piece → Piece → Type 0
DotRead text p r = Span text p (close_round ∷ []) r × (the_terminal r.terminal ≡ dot)

-- ---- formulas and clauses

abbrev pub is_clause : ItemKind → Bool
is_clause Cnf = true
is_clause Fof = false
is_clause Qmf = false

abbrev pub BodyTree : ItemKind → Type 0
BodyTree Fof = FormulaTree
BodyTree Cnf = ClauseTree
BodyTree Qmf = FormulaTree

abbrev pub body_tokens : (k : ItemKind) → BodyTree k → List Terminal
body_tokens Fof f = formula_tokens f
body_tokens Cnf c = clause_tokens c
body_tokens Qmf f = formula_tokens f

abbrev pub body_of : (k : ItemKind) → BodyTree k → tree.Source
body_of Fof f = source_of f
body_of Cnf c = clause_of c
body_of Qmf f = source_of f

abbrev pub body_nestings : (k : ItemKind) → BodyTree k → List ℕ
body_nestings Fof f = formula_nestings 0 f
body_nestings Cnf c = clause_nestings 0 c
body_nestings Qmf f = formula_nestings 0 f

abbrev pub body_fits : Bool → (k : ItemKind) → BodyTree k → Bool
body_fits modal Fof f = modal || g.is_plain f
body_fits modal Cnf c = true
body_fits modal Qmf f = modal || g.is_plain f

pub record BodyRead (modal : Bool) (kind : ItemKind) (text : List ℕ) (p : Piece) (r : program.Source × Piece) : Type 0 where
  pub body : BodyTree kind
  pub value : the_source r.0 ≡ body_of kind body
  pub stands : Span text p (body_tokens kind body) r.1
  pub fits : body_fits modal kind body ≡ true
  pub shallow : AreRead (body_nestings kind body)

-- ---- notes

-- the brackets that wait behind this token, where it may stand
abbrev pub note_after : List Bool → Terminal → Option (List Bool)
note_after waiting open_round = Some (true ∷ waiting)
note_after waiting open_square = Some (false ∷ waiting)
note_after (true ∷ waiting) close_round = Some waiting
note_after (false ∷ waiting) close_square = Some waiting
note_after waiting close_round = None
note_after waiting close_square = None
note_after waiting x = Some waiting

-- these notes are passed, and then so many brackets wait; what closes them closes all
pub record NotesUpTo (text : List ℕ) (p : Piece) (waiting : List Bool) (here : Piece) : Type 0 where
  pub notes : List Terminal
  pub stands : Span text p notes here
  pub leads : (back : List Terminal) → g.closes waiting back ≡ true → g.closes [] (notes ++ back) ≡ true

-- from behind an item's comma to the dot
pub record NotesRead (text : List ℕ) (p : Piece) (r : Piece) : Type 0 where
  pub notes : List Terminal
  pub closed : g.closes [] notes ≡ true
  pub stands : Span text p (notes ++ close_round ∷ []) r
  pub ends : the_terminal r.terminal ≡ dot

-- from behind the formula to the dot
pub record EndRead (text : List ℕ) (p : Piece) (r : Piece) : Type 0 where
  pub notes : Option (List Terminal)
  pub fits : notes_fit notes ≡ true
  pub stands : Span text p (notes_tokens notes ++ close_round ∷ []) r
  pub ends : the_terminal r.terminal ≡ dot

-- the formula or clause of an item, and the dot
pub record RestRead (modal : Bool) (kind : ItemKind) (text : List ℕ) (p : Piece) (r : program.Source × Piece) : Type 0 where
  pub after : Piece
  pub body : BodyRead modal kind text p (r.0, after)
  pub rest : EndRead text after r.1

-- ---- items

-- an item up to its formula
pub record HeadRead (text : List ℕ) (p : Piece) (h : Head) : Type 0 where
  pub bracket : Piece
  pub name_at : Piece
  pub comma_at : Piece
  pub role_at : Piece
  pub second : Piece
  pub to_bracket : Follow text p.end (placed bracket ∷ []) bracket.end
  pub opens : the_terminal bracket.terminal ≡ open_round
  pub to_name : Follow text bracket.end (placed name_at ∷ []) name_at.end
  pub named : name_in (the_terminal name_at.terminal) ≡ Some h.name
  pub to_comma : Follow text name_at.end (placed comma_at ∷ []) comma_at.end
  pub parts : the_terminal comma_at.terminal ≡ comma
  pub to_role : Follow text comma_at.end (placed role_at ∷ []) role_at.end
  pub has_role : role_in (the_terminal role_at.terminal) ≡ Some h.role
  pub to_second : Follow text role_at.end (placed second ∷ []) second.end
  pub parts_again : the_terminal second.terminal ≡ comma
  pub to_body : Follow text second.end (placed h.body ∷ []) h.body.end
  pub placed_role : role_at.start ≡ h.role_at

-- An item that may stand in the text; its last token, the dot, is not left behind.
pub record ItemRead (modal : Bool) (text : List ℕ) (p : Piece) (r : Item × Piece) : Type 0 where
  pub item : ItemTree
  pub front : List Placed
  pub stands : Placing text p front r.1
  pub written : terminals (front ++ placed r.1 ∷ []) ≡ item_tokens item
  pub fits : g.item_fits modal item ≡ true
  pub shallow : AreRead (item_nestings item)
  pub value : (more : List ℕ) → the_item r.0 ≡ item_of (offsets (front ++ placed r.1 ∷ []) ++ more) item

abbrev pub IncludeRead : List ℕ → Piece → Item × Piece → Type 0
IncludeRead text p r = (modal : Bool) → ItemRead modal text p r

-- ---- the names of an include

abbrev pub others_tokens : List NameTree → List Terminal
others_tokens ns = flat_map (λ m. comma ∷ name_token m ∷ []) ns

-- names with every second of these offsets
abbrev pub chosen : List ℕ → List NameTree → List (List ℕ × ℕ)
chosen os [] = []
chosen os (n ∷ ns) = (name_of n, slice_index_or os 0 0) ∷ chosen (drop 2 os) ns

-- names, and what is chosen where others follow
pub record NamesRead (text : List ℕ) (p : Piece) (r : List (List ℕ × ℕ) × Piece) : Type 0 where
  pub first : NameTree
  pub others : List NameTree
  pub front : List Placed
  pub stands : Placing text p front r.1
  pub written : terminals front ≡ name_token first ∷ others_tokens others
  pub fits : list_all name_fits (first ∷ others) ≡ true
  pub value : (ms : List NameTree) (more : List ℕ) → chosen (offsets front ++ more) (first ∷ (others ++ ms)) ≡ r.0 ++ chosen (drop 1 more) ms

-- from behind the names to the dot
pub record SelectedEnd (text : List ℕ) (p : Piece) (r : Piece) : Type 0 where
  pub close : Piece
  pub squares : the_terminal p.terminal ≡ close_square
  pub to_close : Follow text p.end (placed close ∷ []) close.end
  pub rest : DotRead text close r

-- the names of an include from their bracket on, and the dot
pub record SelectedRead (text : List ℕ) (p : Piece) (r : List (List ℕ × ℕ) × Piece) : Type 0 where
  pub first : Piece
  pub square : Piece
  pub opens : the_terminal p.terminal ≡ open_square
  pub to_first : Follow text p.end (placed first ∷ []) first.end
  pub names : NamesRead text first (r.0, square)
  pub rest : SelectedEnd text square r.1

-- ---- texts

-- Up to the place there stand these items, whatever follows them.
pub record ItemsUpTo (modal : Bool) (text : List ℕ) (read : List tree.Item) (place : ℕ) : Type 0 where
  pub tokens : List Placed
  pub trees : List ItemTree
  pub there : Follow text 0 tokens place
  pub written : terminals tokens ≡ g.text_tokens trees
  pub fit : list_all (g.item_fits modal) trees ≡ true
  pub shallow : AreRead (text_nestings trees)
  pub value : (is : List ItemTree) (more : List ℕ) → items_of (offsets tokens ++ more) (trees ++ is) ≡ read ++ items_of more is
