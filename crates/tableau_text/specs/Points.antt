-- Where the reading of a list of values stands, and that one such point leads to another: the text is the same, and what is right goes on
-- to be right.
use Rattle.std.specs.Prelude.{◌≡◌, ℕ, List, [], ◌∷◌, ◌++◌, Bool, ◌&&◌, IsTrue}
use Rattle.std.specs.List.{list_all}
use Rattle.calculus.specs.Syntax.{Symbol}
use Rattle.calculus.specs.Ground.{Values}
use Rattle.calculus.specs.TableauText.{values_are_written, values_text}
use Rattle.tableau_text.specs.Items.{Item, a_term, a_mark, a_string, all_values, item_text, item_is_written, Head, head_text, head_is_written, opening, Frame, frame_is_written, before, Behind, Ahead}
use Rattle.tableau_text.specs.Tokens.{IsListOn}

-- before a further item of the innermost open list, behind an item that is whole, or behind an opening bracket, with what is left of the
-- text
pub data Point : Type 0 where
  ahead : List Frame → List ℕ → Point
  behind : List Frame → Item → List ℕ → Point
  inside : List Frame → Head → List ℕ → Point

abbrev pub point_text : List Symbol → Point → List ℕ
point_text S (ahead fs rest) = before S fs ++ rest
point_text S (behind fs i rest) = before S fs ++ (item_text S i ++ rest)
point_text S (inside fs h rest) = before S fs ++ (head_text h ++ opening h ∷ rest)

-- what has been read can be written
abbrev pub is_good : List Symbol → Item → Bool
is_good S (a_term t) = item_is_written S (a_term t)
is_good S (a_mark m) = item_is_written S (a_mark m)
is_good S (a_string w) = item_is_written S (a_string w)
is_good S (all_values vs) = values_are_written S vs

abbrev pub point_is_written : List Symbol → Point → Bool
point_is_written S (ahead fs rest) = list_all (frame_is_written S) fs
point_is_written S (behind fs i rest) = list_all (frame_is_written S) fs && is_good S i
point_is_written S (inside fs h rest) = list_all (frame_is_written S) fs && head_is_written h

-- the text goes on as that of this item
abbrev pub IsRightAt : List Symbol → Item → Point → Type 0
IsRightAt S v (ahead fs rest) = Ahead S fs rest v
IsRightAt S v (behind fs i rest) = Behind S fs i rest v
IsRightAt S v (inside fs h rest) = (j : Item) × (r : List ℕ) × IsListOn S h j rest r × Behind S fs j r v

pub record Leads (S : List Symbol) (p q : Point) : Type 0 where
  pub text : point_text S p ≡ point_text S q
  pub written : IsTrue (point_is_written S p) → IsTrue (point_is_written S q)
  pub right : (v : Item) → IsRightAt S v p → IsRightAt S v q

abbrev pub NoneFrom : List Symbol → Point → Type 0
NoneFrom S p = (v : Item) → ¬ IsRightAt S v p

-- ---- the whole text

pub record IsValuesText (S : List Symbol) (text : List ℕ) (vs : Values) : Type 0 where
  pub written : IsTrue (values_are_written S vs)
  pub same : text ≡ values_text S vs

-- nothing follows a list of values that stands in no list
abbrev pub IsWhole : Item → List ℕ → Type 0
IsWhole i rest = (vs : Values) × (i ≡ all_values vs) × (rest ≡ [])
