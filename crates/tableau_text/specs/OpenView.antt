-- The items and the open lists that those of the program stand for, by the lists of a table.
use Rattle.std.specs.Prelude.{◌≡◌, ℕ, List, [], ◌∷◌, ◌++◌, map, IsTrue, false}
use Rattle.std.specs.List.{AllByRecursion}
use Rattle.formula_core.specs.GroundLists.{GroundList, the_g_term, the_mark, the_value, IsNormalTerm, IsNormalMark, IsNormalValue}
use Rattle.tableau_text.specs.Items.{Item, a_term, a_mark, of_value, Head, of_args, of_own, of_steps, of_eigen, of_new, of_root, Frame, fits}
use Rattle.tableau_text.specs.Tokens.{Token, by_name, by_number, by_bracket, Beginning, whole, opened}
use Rattle.tableau_text.specs.Points.{Point, ahead, behind}
use Rattle.tableau_text.specs.declared.item.TableItem.{TableItem}
use Rattle.tableau_text.specs.ItemView.{the_item, IsNormalItem}
use Rattle.tableau_text.specs.declared.open_list.OpenList.{OpenList}
use Rattle.tableau_text.specs.declared.open_list.OpenList.TheVariants as lists
use Rattle.tableau_text.specs.declared.token.Token.{Token as GivenToken}
use Rattle.tableau_text.specs.declared.token.Token.TheVariants as token
use Rattle.tableau_text.specs.declared.begun.Begun.{Begun}
use Rattle.tableau_text.specs.declared.begun.Begun.TheVariants as begun
use Rattle.tableau_text.specs.declared.values_reader.Next.{Next}
use Rattle.tableau_text.specs.declared.values_reader.Next.TheVariants as next

abbrev pub the_head : OpenList → Head
the_head (lists.Args name ts) = of_args name
the_head (lists.Own k ms) = of_own k
the_head (lists.Steps ms) = of_steps
the_head (lists.Eigen p vs) = of_eigen p.0
the_head (lists.New p vs) = of_new p.0
the_head (lists.Root vs) = of_root

abbrev pub the_items : List GroundList → OpenList → List Item
the_items ls (lists.Args name ts) = map (λ t. a_term (the_g_term ls t)) ts.items
the_items ls (lists.Own k ms) = map (λ m. a_mark (the_mark ls m)) ms.items
the_items ls (lists.Steps ms) = map (λ m. a_mark (the_mark ls m)) ms.items
the_items ls (lists.Eigen p vs) = map (λ v. of_value (the_value ls v)) vs.items
the_items ls (lists.New p vs) = map (λ v. of_value (the_value ls v)) vs.items
the_items ls (lists.Root vs) = map (λ v. of_value (the_value ls v)) vs.items

abbrev pub IsNormalList : List GroundList → OpenList → Type 0
IsNormalList ls (lists.Args name ts) = AllByRecursion (IsNormalTerm ls) ts.items
IsNormalList ls (lists.Own k ms) = AllByRecursion (IsNormalMark ls) ms.items
IsNormalList ls (lists.Steps ms) = AllByRecursion (IsNormalMark ls) ms.items
IsNormalList ls (lists.Eigen p vs) = AllByRecursion (IsNormalValue ls) vs.items
IsNormalList ls (lists.New p vs) = AllByRecursion (IsNormalValue ls) vs.items
IsNormalList ls (lists.Root vs) = AllByRecursion (IsNormalValue ls) vs.items

abbrev pub the_frame : List GroundList → OpenList → Frame
the_frame ls l = record { head = the_head l; items = the_items ls l }

-- the frames of a stack, whose last list is the innermost, before these
abbrev pub frames_over : List GroundList → List Frame → List OpenList → List Frame
frames_over ls fs [] = fs
frames_over ls fs (l ∷ more) = frames_over ls (the_frame ls l ∷ fs) more

abbrev pub frames : List GroundList → List OpenList → List Frame
frames ls stack = frames_over ls [] stack

abbrev pub AreNormalLists : List GroundList → List OpenList → Type 0
AreNormalLists ls stack = AllByRecursion (IsNormalList ls) stack

-- an item was put at the end of a list
pub record IsPushed (old : OpenList) (i : TableItem) (new : OpenList) : Type 0 where
  pub head : the_head new ≡ the_head old
  pub items : (ls : List GroundList) → the_items ls new ≡ the_items ls old ++ the_item ls i ∷ []
  pub fit : (ls : List GroundList) → IsTrue (fits (the_head old) (the_item ls i))
  pub normal : (ls : List GroundList) → IsNormalList ls old → IsNormalItem ls i → IsNormalList ls new

abbrev pub NoPush : OpenList → TableItem → Type 0
NoPush old i = (ls : List GroundList) → fits (the_head old) (the_item ls i) ≡ false

-- a list without items
pub record IsNew (l : OpenList) : Type 0 where
  pub items : (ls : List GroundList) → the_items ls l ≡ []
  pub normal : (ls : List GroundList) → IsNormalList ls l

abbrev pub the_token : GivenToken → Token
the_token (token.Name name) = by_name name
the_token (token.Numbered k n) = by_number k n
the_token token.Bracket = by_bracket

abbrev pub the_beginning : List GroundList → Begun → Beginning
the_beginning ls (begun.Leaf i) = whole (the_item ls i)
the_beginning ls (begun.Open l) = opened (the_head l)

abbrev pub IsFresh : List GroundList → Begun → Type 0
IsFresh ls (begun.Leaf i) = IsNormalItem ls i
IsFresh ls (begun.Open l) = IsNew l

-- where the reading stands
abbrev pub the_point : List GroundList → List OpenList → Next → List ℕ → Point
the_point ls stack next.Further rest = ahead (frames ls stack) rest
the_point ls stack (next.Whole i) rest = behind [] (the_item ls i) rest

abbrev pub IsNormalNext : List GroundList → List OpenList → Next → Type 0
IsNormalNext ls stack next.Further = AreNormalLists ls stack
IsNormalNext ls stack (next.Whole i) = IsNormalItem ls i
