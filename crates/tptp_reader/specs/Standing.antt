-- What the readers find: a tree whose tokens stand there, its value, and the token behind it.
use Rattle.std.specs.Prelude.{◌≡◌, ℕ, suc, List, [], ◌∷◌, ◌++◌, Bool, true, false, codes, Option, None, Some, ◌&&◌, ◌||◌, if◌then◌else◌}
use Rattle.tptp_reader.specs.declared.formula_reader.Prefix.{Prefix}
use Rattle.tptp_reader.specs.declared.formula_reader.Prefix.TheVariants.{Bracket, Negation, Universal, Existential, Necessity, Possibility}
use Rattle.tptp_reader.specs.declared.source.BinaryKind.{BinaryKind}
use Rattle.tptp_reader.specs.declared.source.BinaryKind.TheVariants.{Imp, If, Iff, Xor, Nor, Nand}
use Rattle.tptp_reader.specs.declared.source.ChainKind.{ChainKind}
use Rattle.tptp_reader.specs.declared.source.ChainKind.TheVariants.{And, Or}
use Rattle.tptp_reader.specs.declared.source.Source as program
use Rattle.tptp_reader.specs.declared.source.SourceTerm as program_term
use Rattle.tptp_reader.specs.declared.terminal.Piece.{Piece}
use Rattle.tptp_reader.specs.Sources as tree
use Rattle.tptp_reader.specs.Lists.{terms_list, sources_list, sources_tree}
use Rattle.tptp_reader.specs.TermView.{the_source_term}
use Rattle.tptp_reader.specs.SourceView.{the_source}
use Rattle.tptp_reader.specs.Terminals.{Terminal, Follow, lower, upper, quoted, dollar, hash, open_round, close_round, open_square, tilde, exclamation, question, ampersand, bar, implies, implied, equivalent, inequivalent, nor, nand, equal, unequal}
use Rattle.tptp_reader.specs.TerminalView.{the_terminal}
use Rattle.tptp_reader.specs.Pieces.{placed}
use Rattle.tptp_reader.specs.Grammar.{TermTree, TermTrees, AtomTree, UnitTree, FormulaTree, UnitTrees, term_tokens, terms_tokens, atom_tokens, unit_tokens, units_tokens, formula_tokens, variables_tokens, is_plain_unit, are_plain_units, is_plain}
use Rattle.tptp_reader.specs.Meaning.{term_of, terms_of, atom_of, unit_of, units_of, source_of}
use Rattle.tptp_reader.specs.Nesting.{term_nestings, terms_nestings, atom_nestings, unit_nestings, units_nestings, formula_nestings}
use Rattle.tptp_reader.specs.Expecting.{is_word}
use Rattle.tptp_reader.specs.Spans.{Span, AreRead}

-- the name that a word stands for
abbrev pub word_in : Terminal → Option (List ℕ)
word_in (lower w) = Some w
word_in (quoted w) = Some w
word_in _ = None

-- ---- terms

-- a term whose place has the nesting d
pub record TermRead (text : List ℕ) (d : ℕ) (p : Piece) (r : program_term.SourceTerm × Piece) : Type 0 where
  pub tree : TermTree
  pub value : the_source_term r.0 ≡ term_of tree
  pub stands : Span text p (term_tokens tree) r.1
  pub shallow : AreRead (term_nestings d tree)

-- arguments, or nothing
pub data Arguments : Type 0 where
  no_arguments : Arguments
  these : TermTree → TermTrees → Arguments

abbrev pub arguments_tokens : Arguments → List Terminal
arguments_tokens no_arguments = []
arguments_tokens (these t us) = open_round ∷ (term_tokens t ++ terms_tokens us)

abbrev pub arguments_of : Arguments → List tree.SourceTerm
arguments_of no_arguments = []
arguments_of (these t us) = term_of t ∷ terms_list (terms_of us)

-- the nestings of the tokens behind a word whose place has the nesting d
abbrev pub arguments_nestings : ℕ → Arguments → List ℕ
arguments_nestings d no_arguments = []
arguments_nestings d (these t us) = d ∷ (term_nestings (suc d) t ++ terms_nestings (suc d) us)

pub record ArgumentsRead (text : List ℕ) (d : ℕ) (p : Piece) (r : List tree.SourceTerm × Piece) : Type 0 where
  pub arguments : Arguments
  pub value : r.0 ≡ arguments_of arguments
  pub stands : Span text p (arguments_tokens arguments) r.1
  pub shallow : AreRead (arguments_nestings d arguments)

-- from the start of an argument here: it and the further ones, behind those that are read
abbrev pub ArgumentsUpTo : List ℕ → ℕ → Piece → List tree.SourceTerm → Piece → Type 0
ArgumentsUpTo text d p read here =
    (t : TermTree) (us : TermTrees) (q : Piece) → Span text here (term_tokens t ++ terms_tokens us) q → AreRead (term_nestings (suc d) t ++ terms_nestings (suc d) us)
    → ArgumentsRead text d p (read ++ term_of t ∷ terms_list (terms_of us), q)

-- ---- atoms

-- what a word with `$` says that is an atom
abbrev pub truth_in : Terminal → Option Bool
truth_in (dollar w) = if is_word w (codes "$true") then Some true else (if is_word w (codes "$false") then Some false else None)
truth_in _ = None

-- the right side of an equation, or nothing
pub data Side : Type 0 where
  no_side : Side
  equals differs : TermTree → Side

abbrev pub side_tokens : Side → List Terminal
side_tokens no_side = []
side_tokens (equals t) = equal ∷ term_tokens t
side_tokens (differs t) = unequal ∷ term_tokens t

-- a term alone that is a variable is no atom
abbrev pub atom_with : Side → tree.SourceTerm → tree.Source
atom_with no_side (tree.variable x) = tree.truth
atom_with no_side (tree.apply f ts) = tree.atom f ts
atom_with (equals t) l = tree.equal l (term_of t)
atom_with (differs t) l = tree.unequal l (term_of t)

-- a term alone is an atom where it is no variable
abbrev pub side_fits : Side → tree.SourceTerm → Bool
side_fits no_side (tree.variable x) = false
side_fits _ _ = true

abbrev pub side_nestings : ℕ → Side → List ℕ
side_nestings d no_side = []
side_nestings d (equals t) = d ∷ term_nestings d t
side_nestings d (differs t) = d ∷ term_nestings d t

-- a term, from the sign before it on
abbrev pub RightRead : List ℕ → ℕ → Piece → program_term.SourceTerm × Piece → Type 0
RightRead text d sign r = (start : Piece) × Follow text sign.end (placed start ∷ []) start.end × TermRead text d start r

-- an atom, from what stands behind its first term on
pub record SideRead (text : List ℕ) (d : ℕ) (left : tree.SourceTerm) (sign : Piece) (r : program.Source × Piece) : Type 0 where
  pub side : Side
  pub value : the_source r.0 ≡ atom_with side left
  pub stands : Span text sign (side_tokens side) r.1
  pub fits : side_fits side left ≡ true
  pub shallow : AreRead (side_nestings d side)

pub record AtomRead (text : List ℕ) (d : ℕ) (p : Piece) (r : program.Source × Piece) : Type 0 where
  pub tree : AtomTree
  pub value : the_source r.0 ≡ atom_of tree
  pub stands : Span text p (atom_tokens tree) r.1
  pub shallow : AreRead (atom_nestings d tree)

-- ---- formulas

-- how a unit begins that is no atom, where modal operators may stand or not
abbrev pub prefix_in : Bool → Terminal → Option Prefix
prefix_in modal open_round = Some Bracket
prefix_in modal tilde = Some Negation
prefix_in modal exclamation = Some Universal
prefix_in modal question = Some Existential
prefix_in true (hash w) = if is_word w (codes "#box") then Some Necessity else (if is_word w (codes "#dia") then Some Possibility else None)
prefix_in modal _ = None

abbrev pub variable_in : Terminal → Option (List ℕ)
variable_in (upper x) = Some x
variable_in _ = None

-- the variables of a quantifier from this on, and the token behind their colon
pub record VariablesRead (text : List ℕ) (p : Piece) (r : List (List ℕ) × Piece) : Type 0 where
  pub first : List ℕ
  pub others : List (List ℕ)
  pub value : r.0 ≡ first ∷ others
  pub stands : Span text p (the_terminal p.terminal ∷ open_square ∷ upper first ∷ variables_tokens others) r.1

-- the end of a quantifier's prefix from this on, and the token behind it
abbrev pub EndRead : List ℕ → Piece → Piece → Type 0
EndRead text p q = Span text p (variables_tokens []) q

-- from the end of a variable here: what follows it, behind those that are read
abbrev pub VariablesUpTo : List ℕ → Piece → List (List ℕ) → Piece → Type 0
VariablesUpTo text p read here = (xs : List (List ℕ)) (q : Piece) → Span text here (variables_tokens xs) q → VariablesRead text p (read ++ xs, q)

pub record UnitRead (modal : Bool) (text : List ℕ) (d : ℕ) (p : Piece) (r : program.Source × Piece) : Type 0 where
  pub tree : UnitTree
  pub value : the_source r.0 ≡ unit_of tree
  pub stands : Span text p (unit_tokens tree) r.1
  pub fits : (modal || is_plain_unit tree) ≡ true
  pub shallow : AreRead (unit_nestings d tree)

-- the same, of a formula on the heap
abbrev pub InnerRead : Bool → List ℕ → ℕ → Piece → tree.Source × Piece → Type 0
InnerRead modal text d p r = (s : program.Source) × (r.0 ≡ the_source s) × UnitRead modal text d p (s, r.1)

-- a formula of two units from its connective on
pub record BinaryRead (modal : Bool) (text : List ℕ) (d : ℕ) (kind : BinaryKind) (left : tree.Source) (sign : Piece) (r : program.Source × Piece) : Type 0 where
  pub right : UnitTree
  pub value : the_source r.0 ≡ tree.binary kind left (unit_of right)
  pub stands : Span text sign (the_terminal sign.terminal ∷ unit_tokens right) r.1
  pub fits : (modal || is_plain_unit right) ≡ true
  pub shallow : AreRead (unit_nestings d right)

-- the units of a chain from its first connective on
pub record UnitsRead (modal : Bool) (text : List ℕ) (d : ℕ) (kind : ChainKind) (first : tree.Source) (sign : Piece) (units : List tree.Source) (q : Piece) : Type 0 where
  pub second : UnitTree
  pub others : UnitTrees
  pub value : units ≡ first ∷ unit_of second ∷ sources_list (units_of others)
  pub stands : Span text sign (the_terminal sign.terminal ∷ (unit_tokens second ++ units_tokens kind others)) q
  pub fits : (modal || (is_plain_unit second && are_plain_units others)) ≡ true
  pub shallow : AreRead (unit_nestings d second ++ units_nestings d others)

abbrev pub ChainRead : Bool → List ℕ → ℕ → ChainKind → tree.Source → Piece → program.Source × Piece → Type 0
ChainRead modal text d kind first sign r = (units : List tree.Source) × (the_source r.0 ≡ tree.chain kind (sources_tree units)) × UnitsRead modal text d kind first sign units r.1

-- from the connective here: the units behind it, behind those that are read
abbrev pub ChainUpTo : Bool → List ℕ → ℕ → ChainKind → tree.Source → Piece → List tree.Source → Piece → Type 0
ChainUpTo modal text d kind first sign read here =
    (v : UnitTree) (us : UnitTrees) (q : Piece) → Span text here (the_terminal here.terminal ∷ (unit_tokens v ++ units_tokens kind us)) q → (modal || (is_plain_unit v && are_plain_units us)) ≡ true
    → AreRead (unit_nestings d v ++ units_nestings d us) → UnitsRead modal text d kind first sign (read ++ unit_of v ∷ sources_list (units_of us)) q

pub record FormulaRead (modal : Bool) (text : List ℕ) (d : ℕ) (p : Piece) (r : program.Source × Piece) : Type 0 where
  pub tree : FormulaTree
  pub value : the_source r.0 ≡ source_of tree
  pub stands : Span text p (formula_tokens tree) r.1
  pub fits : (modal || is_plain tree) ≡ true
  pub shallow : AreRead (formula_nestings d tree)

-- the same formula, and the token behind the bracket that closes
abbrev pub IsClosed : List ℕ → tree.Source → Piece → program.Source × Piece → Type 0
IsClosed text source close r = (the_source r.0 ≡ source) × Span text close (close_round ∷ []) r.1

-- the connective behind a formula's first unit
abbrev pub chain_in : Terminal → Option ChainKind
chain_in ampersand = Some And
chain_in bar = Some Or
chain_in _ = None

abbrev pub is_chain : ChainKind → Terminal → Bool
is_chain And ampersand = true
is_chain Or bar = true
is_chain c _ = false

abbrev pub binary_in : Terminal → Option BinaryKind
binary_in implies = Some Imp
binary_in implied = Some If
binary_in equivalent = Some Iff
binary_in inequivalent = Some Xor
binary_in nor = Some Nor
binary_in nand = Some Nand
binary_in _ = None
