-- How far a text has been read as the row of a term.
use Rattle.std.specs.Prelude.{◌≡◌, ⊤, ℕ, ◌+◌, ◌<◌, ◌≤◌, List, [], ◌∷◌, ◌++◌, length, drop, set, IsTrue}
use Rattle.calculus.specs.DerivationText.{IsNameAt, IsTermAt, term_is_written}
use Rattle.calculus.specs.Lists.{terms_tree}
use Rattle.calculus.specs.Syntax.{Symbol, Term, var, fun, eigen, spare, no_terms}
use Rattle.calculus.specs.Text.{Ends, name_text, term_text}
use Rattle.cop_base.specs.declared.SymbolId.{SymbolId}
use Rattle.formula_text.specs.Rows.{row_of, rows_of}
use Rattle.formula_text.specs.declared.term_row.RowItem.{RowItem}
use Rattle.formula_text.specs.declared.term_row.RowItem.TheVariants.{Var, Fun, Eigen, Spare}
use Rattle.formula_text.specs.declared.term_reader.Head.{Head}
use Rattle.formula_text.specs.declared.term_reader.Head.TheVariants.{Open, Leaf}
use Rattle.formula_text.specs.declared.term_reader.Next.{Next}
use Rattle.formula_text.specs.declared.term_reader.Next.TheVariants.{Argument, Whole}
use Rattle.formula_text.specs.declared.term_reader.OpenTerm.{OpenTerm}
use Rattle.formula_text.specs.Frames.{Frame, IsFunction, IsWhole, frames_are_written, stack_text}

-- what stands at the place of a symbol that is not known yet
abbrev pub kept : RowItem
kept = Fun (record { 0 = 0 }) 0

-- the place of a symbol and the rows of the arguments that are whole
abbrev pub open_row : Frame → List RowItem
open_row f = kept ∷ rows_of (terms_tree f.args)

abbrev pub open_rows : List Frame → List RowItem
open_rows [] = []
open_rows (f ∷ fs) = open_row f ++ open_rows fs

-- an open term whose symbol has this place in the row
pub record IsOpenAt (bytes : List ℕ) (at : ℕ) (o : OpenTerm) (f : Frame) : Type 0 where
  pub place : o.at ≡ at
  pub count : o.count ≡ length f.args
  pub end : ℕ
  pub named : IsNameAt bytes o.from end f.name
  pub within : o.from ≤ length bytes

-- the open terms, whose rows begin at this place
abbrev pub AreOpen : List ℕ → ℕ → List OpenTerm → List Frame → Type 0
AreOpen bytes at [] [] = ⊤
AreOpen bytes at [] (f ∷ fs) = ⊥
AreOpen bytes at (o ∷ os) [] = ⊥
AreOpen bytes at (o ∷ os) (f ∷ fs) = IsOpenAt bytes at o f × AreOpen bytes (at + length (open_row f)) os fs

-- the text is read up to a place at which an argument of the innermost open term begins, or the whole term
pub record IsBegun (symbols : List Symbol) (bytes : List ℕ) (place : ℕ) (os : List OpenTerm) (items : List RowItem) : Type 0 where
  pub frames : List Frame
  pub stands : AreOpen bytes 0 os frames
  pub row : items ≡ open_rows frames
  pub written : IsTrue (frames_are_written symbols frames)
  pub text : bytes ≡ stack_text symbols frames ++ drop place bytes
  pub within : place ≤ length bytes

-- the text is read up to the end of such a term
pub record IsRead (symbols : List Symbol) (bytes : List ℕ) (end : ℕ) (os : List OpenTerm) (items : List RowItem) : Type 0 where
  pub frames : List Frame
  pub term : Term
  pub stands : AreOpen bytes 0 os frames
  pub row : items ≡ open_rows frames ++ row_of term
  pub written : IsTrue (frames_are_written symbols frames)
  pub term_written : IsTrue (term_is_written symbols term)
  pub text : bytes ≡ stack_text symbols frames ++ (term_text symbols 0 term ++ drop end bytes)
  pub ends : Ends (drop end bytes)
  pub within : end ≤ length bytes

-- a name and an opening bracket stand between two places
pub record IsOpening (bytes : List ℕ) (from end : ℕ) : Type 0 where
  pub name : List ℕ
  pub to : ℕ
  pub named : IsNameAt bytes from to name
  pub bracket : drop to bytes ≡ 40 ∷ drop end bytes
  pub within : end ≤ length bytes

-- the term whose row the item is
abbrev pub leaf_of : RowItem → Term
leaf_of (Var k) = var k
leaf_of (Fun f n) = fun f.0 no_terms
leaf_of (Eigen n) = eigen n
leaf_of (Spare n) = spare n

-- a term whose row is one item stands between two places
pub record IsLeaf (symbols : List Symbol) (bytes : List ℕ) (from end : ℕ) (item : RowItem) : Type 0 where
  pub term : Term
  pub row : row_of term ≡ item ∷ []
  pub whole : IsWhole symbols (drop from bytes) (drop end bytes) term
  pub within : end ≤ length bytes

-- how a term begins at a place
abbrev pub IsHead : List Symbol → List ℕ → ℕ → Head → Type 0
IsHead symbols bytes from (Open end) = IsOpening bytes from end
IsHead symbols bytes from (Leaf item end) = IsLeaf symbols bytes from end item

-- a term with this name was opened
pub record IsOpened (from : ℕ) (os opened : List OpenTerm) (old new : List RowItem) : Type 0 where
  pub open_term : opened ≡ os ++ record { from = from; at = length old; count = 0 } ∷ []
  pub row : new ≡ old ++ kept ∷ []

-- the symbol of a term stands in its place
pub record IsPut (symbols : List Symbol) (name : List ℕ) (o : OpenTerm) (old new : List RowItem) : Type 0 where
  pub id : SymbolId
  pub function : IsFunction symbols id.0 name o.count
  pub put : new ≡ set old o.at (Fun id o.count)

-- a term stands between the beginning and a place, and this is its row
pub record IsRowTo (symbols : List Symbol) (bytes : List ℕ) (to : ℕ) (items : List RowItem) : Type 0 where
  pub term : Term
  pub row : items ≡ row_of term
  pub stands : IsTermAt symbols bytes 0 to term
  pub within : to ≤ length bytes

-- what the open terms are after a further term
abbrev pub IsNext : List Symbol → List ℕ → List OpenTerm → List RowItem → Next → Type 0
IsNext symbols bytes os items (Argument place) = IsBegun symbols bytes place os items
IsNext symbols bytes os items (Whole end) = IsRowTo symbols bytes end items

-- a further argument stands after the place
abbrev pub IsFurther : ℕ → Next → Type 0
IsFurther place (Argument to) = place < to
IsFurther place (Whole end) = ⊤
