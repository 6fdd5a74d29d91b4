-- What is left to be written, by the lists of a table.
use Rattle.std.specs.Prelude.{◌≡◌, ℕ, ◌+◌, ◌*◌, ◌≤◌, List, [], ◌∷◌, ◌++◌, length, map, drop, Bool, IsTrue}
use Rattle.std.specs.List.{list_all}
use Rattle.calculus.specs.Syntax.{Symbol}
use Rattle.formula_core.specs.GroundLists.{GroundList, the_terms, the_marks, the_values}
use Rattle.tableau_text.specs.Items.{a_term, a_mark, of_value, item_text, are_written_items, tail_text}
use Rattle.tableau_text.specs.Points.{is_good}
use Rattle.tableau_text.specs.ItemView.{the_item}
use Rattle.tableau_text.specs.declared.piece.Piece.{Piece}
use Rattle.tableau_text.specs.declared.piece.Piece.TheVariants as piece

abbrev pub piece_text : List Symbol → List GroundList → Piece → List ℕ
piece_text S ls (piece.Item i) = item_text S (the_item ls i)
piece_text S ls (piece.Args n k) = tail_text S 41 (map a_term (drop k (the_terms ls n)))
piece_text S ls (piece.Marks n k) = tail_text S 93 (map a_mark (drop k (the_marks ls n)))
piece_text S ls (piece.Values n k) = tail_text S 125 (map of_value (drop k (the_values ls n)))

abbrev pub piece_is_written : List Symbol → List GroundList → Piece → Bool
piece_is_written S ls (piece.Item i) = is_good S (the_item ls i)
piece_is_written S ls (piece.Args n k) = are_written_items S (map a_term (drop k (the_terms ls n)))
piece_is_written S ls (piece.Marks n k) = are_written_items S (map a_mark (drop k (the_marks ls n)))
piece_is_written S ls (piece.Values n k) = are_written_items S (map of_value (drop k (the_values ls n)))

-- the pieces of a stack, the last one first, before these bytes
abbrev pub pieces_before : List Symbol → List GroundList → List ℕ → List Piece → List ℕ
pieces_before S ls rest [] = rest
pieces_before S ls rest (p ∷ ps) = pieces_before S ls (piece_text S ls p ++ rest) ps

abbrev pub pieces_text : List Symbol → List GroundList → List Piece → List ℕ
pieces_text S ls ps = pieces_before S ls [] ps

abbrev pub are_written_pieces : List Symbol → List GroundList → List Piece → Bool
are_written_pieces S ls ps = list_all (piece_is_written S ls) ps

-- how much is left to be done
abbrev pub work : List Symbol → List GroundList → List Piece → ℕ
work S ls ps = 2 * length (pieces_text S ls ps) + length ps

-- of a text, the first part was written, and what is left of it was put on the stack
pub record Wrote (S : List Symbol) (ls : List GroundList) (text out new : List ℕ) (stack left : List Piece) : Type 0 where
  pub same : new ++ pieces_text S ls left ≡ out ++ (text ++ pieces_text S ls stack)
  pub written : IsTrue (are_written_pieces S ls stack) → IsTrue (are_written_pieces S ls left)
  pub less : work S ls left ≤ 2 * (length text + length (pieces_text S ls stack)) + length stack
