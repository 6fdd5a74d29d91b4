-- What a text of ground values consists of: items, which stand in lists, and what stands before a list. A list that is open is told by
-- what stands before it and by the items that are whole.
use Rattle.std.specs.Prelude.{◌≡◌, ℕ, List, [], ◌∷◌, ◌++◌, length, Bool, true, false, ◌&&◌, IsTrue, codes, decimal}
use Rattle.std.specs.List.{list_all}
use Rattle.calculus.specs.Syntax.{Symbol}
use Rattle.calculus.specs.Ground.{GroundTerm, GroundTerms, GroundMark, Marks, Value, Values, g_fun, g_eigen, own, no_g_terms, more_g_terms, g_new_mark, no_marks, more_marks, term, steps, no_values, more_values}
use Rattle.calculus.specs.Text.{is_number, name_text}
use Rattle.calculus.specs.TableauText.{ground_text, ground_mark_text, marks_text, values_text, ground_is_written, ground_mark_is_written, marks_are_written}
use Rattle.formula_text.specs.Frames.{IsFunction}

-- an item of a list, or a whole list of values, which stands in no list
pub data Item : Type 0 where
  a_term : GroundTerm → Item
  a_mark : GroundMark → Item
  a_string : Marks → Item
  all_values : Values → Item

abbrev pub of_value : Value → Item
of_value (term t) = a_term t
of_value (steps w) = a_string w

abbrev pub of_terms : GroundTerms → List Item
of_terms no_g_terms = []
of_terms (more_g_terms t ts) = a_term t ∷ of_terms ts

abbrev pub of_marks : Marks → List Item
of_marks no_marks = []
of_marks (more_marks m ms) = a_mark m ∷ of_marks ms

abbrev pub of_values : Values → List Item
of_values no_values = []
of_values (more_values v vs) = of_value v ∷ of_values vs

abbrev pub item_text : List Symbol → Item → List ℕ
item_text S (a_term t) = ground_text S t
item_text S (a_mark m) = ground_mark_text S m
item_text S (a_string w) = marks_text S w
item_text S (all_values vs) = values_text S vs

-- what may stand in a list
abbrev pub item_is_written : List Symbol → Item → Bool
item_is_written S (a_term t) = ground_is_written S t
item_is_written S (a_mark m) = ground_mark_is_written S m
item_is_written S (a_string w) = marks_are_written S w
item_is_written S (all_values vs) = false

abbrev pub are_written_items : List Symbol → List Item → Bool
are_written_items S xs = list_all (item_is_written S) xs

-- items with a comma before each, and the closing bracket
abbrev pub tail_text : List Symbol → ℕ → List Item → List ℕ
tail_text S close [] = close ∷ []
tail_text S close (x ∷ xs) = 44 ∷ (item_text S x ++ tail_text S close xs)

-- items with a comma after each
abbrev pub front_text : List Symbol → List Item → List ℕ
front_text S [] = []
front_text S (x ∷ xs) = item_text S x ++ 44 ∷ front_text S xs

-- items between brackets, with commas between them
abbrev pub list_text : List Symbol → ℕ → ℕ → List Item → List ℕ
list_text S start close [] = start ∷ close ∷ []
list_text S start close (x ∷ xs) = start ∷ (item_text S x ++ tail_text S close xs)

-- what stands before a list: the name of a function symbol, the number of a spare constant, nothing before the string of a value, the
-- number of an eigenvariable or of a character, or nothing before a list that is the whole text
pub data Head : Type 0 where
  of_args : List ℕ → Head
  of_own : ℕ → Head
  of_steps : Head
  of_eigen : ℕ → Head
  of_new : ℕ → Head
  of_root : Head

abbrev pub opening : Head → ℕ
opening (of_args name) = 40
opening (of_own k) = 91
opening of_steps = 91
opening (of_eigen p) = 123
opening (of_new p) = 123
opening of_root = 123

abbrev pub closing : Head → ℕ
closing (of_args name) = 41
closing (of_own k) = 93
closing of_steps = 93
closing (of_eigen p) = 125
closing (of_new p) = 125
closing of_root = 125

abbrev pub head_text : Head → List ℕ
head_text (of_args name) = name_text name
head_text (of_own k) = codes "$$s" ++ decimal k ++ codes "@"
head_text of_steps = []
head_text (of_eigen p) = codes "$$e" ++ decimal p
head_text (of_new p) = codes "$$c" ++ decimal p
head_text of_root = []

abbrev pub head_is_written : Head → Bool
head_is_written (of_args name) = true
head_is_written (of_own k) = is_number k
head_is_written of_steps = true
head_is_written (of_eigen p) = is_number p
head_is_written (of_new p) = is_number p
head_is_written of_root = true

-- a function symbol without arguments has no list
abbrev pub may_be_empty : Head → Bool
may_be_empty (of_args name) = false
may_be_empty (of_own k) = true
may_be_empty of_steps = true
may_be_empty (of_eigen p) = true
may_be_empty (of_new p) = true
may_be_empty of_root = true

-- which items a list may have
abbrev pub is_a_term : Item → Bool
is_a_term (a_term t) = true
is_a_term (a_mark m) = false
is_a_term (a_string w) = false
is_a_term (all_values vs) = false

abbrev pub is_a_mark : Item → Bool
is_a_mark (a_term t) = false
is_a_mark (a_mark m) = true
is_a_mark (a_string w) = false
is_a_mark (all_values vs) = false

abbrev pub is_a_value : Item → Bool
is_a_value (a_term t) = true
is_a_value (a_mark m) = false
is_a_value (a_string w) = true
is_a_value (all_values vs) = false

abbrev pub fits : Head → Item → Bool
fits (of_args name) = is_a_term
fits (of_own k) = is_a_mark
fits of_steps = is_a_mark
fits (of_eigen p) = is_a_value
fits (of_new p) = is_a_value
fits of_root = is_a_value

-- the item has this head and this list
abbrev pub Made : List Symbol → Head → List Item → Item → Type 0
Made S (of_args name) xs i = (f : ℕ) × (ts : GroundTerms) × IsFunction S f name (length xs) × (xs ≡ of_terms ts) × (i ≡ a_term (g_fun f ts))
Made S (of_own k) xs i = (w : Marks) × (xs ≡ of_marks w) × (i ≡ a_term (own k w))
Made S of_steps xs i = (w : Marks) × (xs ≡ of_marks w) × (i ≡ a_string w)
Made S (of_eigen p) xs i = (vs : Values) × (xs ≡ of_values vs) × (i ≡ a_term (g_eigen p vs))
Made S (of_new p) xs i = (vs : Values) × (xs ≡ of_values vs) × (i ≡ a_mark (g_new_mark p vs))
Made S of_root xs i = (vs : Values) × (xs ≡ of_values vs) × (i ≡ all_values vs)

-- ---- lists that are open, the innermost first

pub record Frame : Type 0 where
  pub head : Head
  pub items : List Item

abbrev pub with_item : Frame → Item → Frame
with_item f i = record { head = f.head; items = f.items ++ i ∷ [] }

abbrev pub frame_text : List Symbol → Frame → List ℕ
frame_text S f = head_text f.head ++ opening f.head ∷ front_text S f.items

abbrev pub frame_is_written : List Symbol → Frame → Bool
frame_is_written S f = head_is_written f.head && are_written_items S f.items

-- what has been read of them
abbrev pub before : List Symbol → List Frame → List ℕ
before S [] = []
before S (f ∷ fs) = before S fs ++ frame_text S f

-- ---- what a right text goes on with

-- the list goes on with some items and closes, and its item is followed so
abbrev pub In : List Symbol → Head → List Item → List ℕ → (Item → List ℕ → Type 0) → Type 0
In S h xs rest next = (ys : List Item) × (after : List ℕ) × (item : Item) × IsTrue (are_written_items S ys) × (rest ≡ tail_text S (closing h) ys ++ after) × Made S h (xs ++ ys) item × next item after

-- behind an item of the innermost list, or behind the whole one
abbrev pub Behind : List Symbol → List Frame → Item → List ℕ → Item → Type 0
Behind S [] i rest whole = (i ≡ whole) × (rest ≡ [])
Behind S (f ∷ fs) i rest whole = In S f.head (f.items ++ i ∷ []) rest (λ j after. Behind S fs j after whole)

-- before a further item of the innermost list
abbrev pub Ahead : List Symbol → List Frame → List ℕ → Item → Type 0
Ahead S [] rest whole = ⊥
Ahead S (f ∷ fs) rest whole = (i : Item) × (after : List ℕ) × IsTrue (item_is_written S i) × (rest ≡ item_text S i ++ after) × Behind S (f ∷ fs) i after whole
