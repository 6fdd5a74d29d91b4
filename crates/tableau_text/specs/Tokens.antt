-- How items begin.
use Rattle.std.specs.Prelude.{◌≡◌, ℕ, List, [], ◌∷◌, ◌++◌, Bool, false, IsTrue, codes, decimal}
use Rattle.calculus.specs.Syntax.{Symbol}
use Rattle.calculus.specs.Problems.{is_name}
use Rattle.calculus.specs.Text.{StopsAt, is_digit, is_number, is_word_byte, name_text}
use Rattle.tableau_text.specs.Items.{Item, Head, item_text, item_is_written, are_written_items, list_text, head_text, head_is_written, opening, closing, may_be_empty, Made}
use Rattle.tableau_text.specs.declared.token.NameKind.{NameKind}
use Rattle.tableau_text.specs.declared.token.NameKind.TheVariants.{Eigen, New, Constant, Spare}

pub data Token : Type 0 where
  by_name : List ℕ → Token
  by_number : NameKind → ℕ → Token
  by_bracket : Token

abbrev pub kind_text : NameKind → List ℕ
kind_text Eigen = codes "$$e"
kind_text New = codes "$$c"
kind_text Constant = codes "$$s"
kind_text Spare = codes "$$d"

-- the bytes begin with this token
abbrev pub IsToken : List ℕ → Token → List ℕ → Type 0
IsToken bytes (by_name name) rest = IsTrue (is_name name) × (bytes ≡ name_text name ++ rest) × StopsAt is_word_byte rest
IsToken bytes (by_number k n) rest = IsTrue (is_number n) × (bytes ≡ kind_text k ++ (decimal n ++ rest)) × StopsAt is_digit rest
IsToken bytes by_bracket rest = bytes ≡ 91 ∷ rest

-- a comma or a closing bracket follows: no other byte does
abbrev pub Follows : List ℕ → Type 0
Follows r = (p : ℕ → Bool) → p 44 ≡ false → p 41 ≡ false → p 93 ≡ false → p 125 ≡ false → StopsAt p r

-- the bytes begin with an item of a list, before these
pub record IsItemOn (S : List Symbol) (bytes : List ℕ) (j : Item) (r : List ℕ) : Type 0 where
  pub written : IsTrue (item_is_written S j)
  pub follows : Follows r
  pub text : bytes ≡ item_text S j ++ r

-- the item's list begins before the rest
pub record IsListOn (S : List Symbol) (h : Head) (j : Item) (rest r : List ℕ) : Type 0 where
  pub items : List Item
  pub written : IsTrue (are_written_items S items)
  pub made : Made S h items j
  pub some : items ≡ [] → IsTrue (may_be_empty h)
  pub text : opening h ∷ rest ≡ list_text S (opening h) (closing h) items ++ r

-- an item that is whole, or the head of one whose list is open
pub data Beginning : Type 0 where
  whole : Item → Beginning
  opened : Head → Beginning

-- the bytes begin so, and each item that they begin with begins so
abbrev pub IsBeginning : List Symbol → List ℕ → Beginning → List ℕ → Type 0
IsBeginning S bytes (whole i) rest = IsTrue (item_is_written S i) × (bytes ≡ item_text S i ++ rest) × ((j : Item) (r : List ℕ) → IsItemOn S bytes j r → (i ≡ j) × (rest ≡ r))
IsBeginning S bytes (opened h) rest = IsTrue (head_is_written h) × (bytes ≡ head_text h ++ opening h ∷ rest) × ((j : Item) (r : List ℕ) → IsItemOn S bytes j r → IsListOn S h j rest r)

abbrev pub NoItem : List Symbol → List ℕ → Type 0
NoItem S bytes = (j : Item) (r : List ℕ) → ¬ IsItemOn S bytes j r

-- behind a token of these bytes
abbrev pub IsBegunAt : List Symbol → Token → List ℕ → Beginning → List ℕ → Type 0
IsBegunAt S t rest b after = (bytes : List ℕ) → IsToken bytes t rest → IsBeginning S bytes b after

abbrev pub NoneAt : List Symbol → Token → List ℕ → Type 0
NoneAt S t rest = (bytes : List ℕ) → IsToken bytes t rest → NoItem S bytes
