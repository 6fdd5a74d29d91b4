-- What the reader of clauses finds.
use Rattle.std.specs.Prelude.{◌≡◌, ℕ, suc, List, [], ◌∷◌, ◌++◌, Bool, true, false, map}
use Rattle.tptp_reader.specs.declared.source.ChainKind.TheVariants.{Or}
use Rattle.tptp_reader.specs.declared.source.Source as program
use Rattle.tptp_reader.specs.declared.terminal.Piece.{Piece}
use Rattle.tptp_reader.specs.Sources as tree
use Rattle.tptp_reader.specs.Lists.{sources_tree}
use Rattle.tptp_reader.specs.SourceView.{the_source}
use Rattle.tptp_reader.specs.Terminals.{Terminal, open_round, close_round}
use Rattle.tptp_reader.specs.Grammar.{AtomTree, LiteralTree, ClauseTree, atom_tokens, literal_tokens, literals_tokens, clause_tokens}
use Rattle.tptp_reader.specs.Meaning.{atom_of, literal_of, disjunction_of, clause_of}
use Rattle.tptp_reader.specs.Nesting.{atom_nestings, literal_nestings, literals_nestings, clause_nestings}
use Rattle.tptp_reader.specs.Spans.{Span, AreRead}

-- ---- a literal without `~`: an atom, in brackets or not

abbrev pub unsigned_tokens : Bool → AtomTree → List Terminal
unsigned_tokens false a = atom_tokens a
unsigned_tokens true a = open_round ∷ (atom_tokens a ++ close_round ∷ [])

abbrev pub unsigned_nestings : ℕ → Bool → AtomTree → List ℕ
unsigned_nestings d false a = atom_nestings d a
unsigned_nestings d true a = d ∷ (atom_nestings (suc d) a ++ suc d ∷ [])

-- read where the nesting is d
pub record UnsignedRead (text : List ℕ) (d : ℕ) (p : Piece) (r : program.Source × Piece) : Type 0 where
  pub bracketed : Bool
  pub inner : AtomTree
  pub value : the_source r.0 ≡ atom_of inner
  pub stands : Span text p (unsigned_tokens bracketed inner) r.1
  pub shallow : AreRead (unsigned_nestings d bracketed inner)

pub record LiteralRead (text : List ℕ) (d : ℕ) (p : Piece) (r : program.Source × Piece) : Type 0 where
  pub literal : LiteralTree
  pub value : the_source r.0 ≡ literal_of literal
  pub stands : Span text p (literal_tokens literal) r.1
  pub shallow : AreRead (literal_nestings d literal)

-- ---- literals

-- these formulas, and then literals with a `|` before each
pub record MoreRead (text : List ℕ) (d : ℕ) (before : List tree.Source) (p : Piece) (r : List tree.Source × Piece) : Type 0 where
  pub literals : List LiteralTree
  pub value : r.0 ≡ before ++ map literal_of literals
  pub stands : Span text p (literals_tokens literals) r.1
  pub shallow : AreRead (literals_nestings d literals)

-- the disjunction of a first literal, which says this, and of others
abbrev pub joined_to : tree.Source → List LiteralTree → tree.Source
joined_to s [] = s
joined_to s (m ∷ ms) = tree.chain Or (tree.more_sources s (sources_tree (map literal_of (m ∷ ms))))

pub record OthersRead (text : List ℕ) (d : ℕ) (first : tree.Source) (p : Piece) (r : program.Source × Piece) : Type 0 where
  pub others : List LiteralTree
  pub value : the_source r.0 ≡ joined_to first others
  pub stands : Span text p (literals_tokens others) r.1
  pub shallow : AreRead (literals_nestings d others)

pub record DisjunctionRead (text : List ℕ) (d : ℕ) (p : Piece) (r : program.Source × Piece) : Type 0 where
  pub first : LiteralTree
  pub others : List LiteralTree
  pub value : the_source r.0 ≡ disjunction_of first others
  pub stands : Span text p (literal_tokens first ++ literals_tokens others) r.1
  pub shallow : AreRead (literal_nestings d first ++ literals_nestings d others)

-- the same in brackets, with the bracket behind it; and behind an atom in brackets, from the bracket on
pub record InsideRead (text : List ℕ) (first : tree.Source) (p : Piece) (r : program.Source × Piece) : Type 0 where
  pub others : List LiteralTree
  pub value : the_source r.0 ≡ joined_to first others
  pub stands : Span text p (literals_tokens others ++ close_round ∷ []) r.1
  pub shallow : AreRead (literals_nestings 1 others)

pub record OutsideRead (text : List ℕ) (first : tree.Source) (p : Piece) (r : program.Source × Piece) : Type 0 where
  pub others : List LiteralTree
  pub value : the_source r.0 ≡ joined_to first others
  pub stands : Span text p (close_round ∷ literals_tokens others) r.1
  pub shallow : AreRead (literals_nestings 0 others)

-- ---- clauses

pub record ClauseRead (text : List ℕ) (p : Piece) (r : program.Source × Piece) : Type 0 where
  pub clause : ClauseTree
  pub value : the_source r.0 ≡ clause_of clause
  pub stands : Span text p (clause_tokens clause) r.1
  pub shallow : AreRead (clause_nestings 0 clause)

-- the same behind the clause's first bracket
pub record OpenedRead (text : List ℕ) (p : Piece) (r : program.Source × Piece) : Type 0 where
  pub clause : ClauseTree
  pub behind : List Terminal
  pub deeper : List ℕ
  pub tokens : clause_tokens clause ≡ open_round ∷ behind
  pub nestings : clause_nestings 0 clause ≡ 0 ∷ deeper
  pub value : the_source r.0 ≡ clause_of clause
  pub stands : Span text p behind r.1
  pub shallow : AreRead deeper
