-- What stands for cells by own spares: each unbound variable has a spare with its own number, at the home that was found for it, and what
-- stands for a cell names lists of a table.
use Rattle.std.specs.Prelude.{◌≡◌, ◌≤◌, ℕ, List, [], ◌∷◌, Bool, true, false, Option, None, Some, length, slice_get}
use Rattle.calculus.specs.declared.sort.Sort.{Sort}
use Rattle.calculus.specs.declared.sort.Sort.TheVariants.{TermSort, MarkSort, StringSort}
use Rattle.calculus.specs.Ground.{GroundMark, common, own, g_fun, g_eigen, g_new_mark, g_spare_mark, marks_tree, values_tree}
use Rattle.store_theory.specs.Stores.{Cell, variable, fun_cell, eigen_cell, new_cell, string_cell, Store, CellValue, a_term, a_mark, a_string, Solution, Solves, GammaCell, label_at, parts_of}
use Rattle.search_theory.specs.States.{label_by, terms_by, values_by}
use Rattle.term_store.specs.declared.cell.Head.{Head}
use Rattle.term_store.specs.declared.cell.Head.TheVariants as head
use Rattle.formula_core.specs.GroundLists.{GroundList, no_list, the_g_term, the_mark, the_marks, IsNormalTerm, IsNormalMark, AreNormalMarks}
use Rattle.tableau_reading.specs.declared.grounds.Ground.{Ground}
use Rattle.tableau_reading.specs.declared.grounds.Ground.TheVariants as ground
use Rattle.tableau_reading.specs.declared.grounds.Grounds.{Grounds}
use Rattle.tableau_reading.specs.declared.homes.Homes.{Homes}

-- ---- what stands for a cell

abbrev pub the_ground : List GroundList → Ground → CellValue
the_ground ls (ground.Term t) = a_term (the_g_term ls t)
the_ground ls (ground.Mark m) = a_mark (the_mark ls m)
the_ground ls (ground.Marks w) = a_string (the_marks ls w)

abbrev pub IsNormalGround : List GroundList → Ground → Type 0
IsNormalGround ls (ground.Term t) = IsNormalTerm ls t
IsNormalGround ls (ground.Mark m) = IsNormalMark ls m
IsNormalGround ls (ground.Marks w) = AreNormalMarks ls w

-- it is this value
pub record IsGroundOf (ls : List GroundList) (g : Ground) (v : CellValue) : Type 0 where
  pub normal : IsNormalGround ls g
  pub value : the_ground ls g ≡ v

-- what is made for cells are their values
abbrev pub AreMade : List GroundList → Solution → List (Option Ground) → Type 0
AreMade ls σ made = (r : ℕ) (g : Ground) → slice_get made r ≡ Some (Some g) → IsGroundOf ls g (σ r)

-- ---- homes

abbrev pub label_in : Option GammaCell → List ℕ
label_in None = []
label_in (Some g) = g.label

-- the label of the gamma term of this number, or the root
abbrev pub label_numbered : List GammaCell → Option ℕ → List ℕ
label_numbered gs None = []
label_numbered gs (Some i) = label_in (slice_get gs i)

abbrev pub number_in : Option (Option ℕ) → Option ℕ
number_in None = None
number_in (Some o) = o

abbrev pub unless_common : Bool → List ℕ → Option (List ℕ)
unless_common true rs = None
unless_common false rs = Some rs

-- the items of the label at which the spare of v stands, or none where it is one of every domain
abbrev pub home_of : Homes → ℕ → Option (List ℕ)
home_of h v = unless_common h.common (label_numbered h.gammas (number_in (slice_get h.first.items v)))

-- the value of v is its own spare, with its own number, at this home
abbrev pub IsSpareAt : Option (List ℕ) → Solution → Sort → ℕ → Type 0
IsSpareAt home σ StringSort v = σ v ≡ a_string []
IsSpareAt home σ MarkSort v = σ v ≡ a_mark (g_spare_mark v)
IsSpareAt None σ TermSort v = σ v ≡ a_term (common v)
IsSpareAt (Some rs) σ TermSort v = (w : List GroundMark) × (label_at σ rs ≡ Some w) × (σ v ≡ a_term (own v (marks_tree w)))

pub record AreSparesAt (s : Store) (h : Homes) (σ : Solution) : Type 0 where
  pub solves : Solves s σ
  pub spares : (v : ℕ) (sort : Sort) → slice_get s.cells v ≡ Some (variable sort None) → IsSpareAt (home_of h v) σ sort v

-- some values are so: what is read off is there
abbrev pub HasSparesAt : Store → Homes → Type 0
HasSparesAt s h = (σ : Solution) × AreSparesAt s h σ

-- what is made so far are the values by own spares
abbrev pub AreRead : Store → Homes → List GroundList → List (Option Ground) → Type 0
AreRead s h ls made = (σ : Solution) → AreSparesAt s h σ → AreMade ls σ made

-- there are places for each cell
pub record IsBegun (s : Store) (h : Homes) (g : Grounds) : Type 0 where
  pub most : length g.table ≤ no_list
  pub all : length g.made.items ≡ length s.cells
  pub marked : length g.asked.items ≡ length s.cells
  pub read : AreRead s h g.table g.made.items

-- and all that was asked for is made
pub record IsReading (s : Store) (h : Homes) (g : Grounds) : Type 0 where
  pub most : length g.table ≤ no_list
  pub all : length g.made.items ≡ length s.cells
  pub marked : length g.asked.items ≡ length s.cells
  pub read : AreRead s h g.table g.made.items
  pub settled : (r : ℕ) → slice_get g.asked.items r ≡ Some true → (x : Ground) × (slice_get g.made.items r ≡ Some (Some x))

-- ---- what a value is made of

abbrev pub or_nothing : Option (List ℕ) → List ℕ
or_nothing None = []
or_nothing (Some rs) = rs

abbrev pub is_open_term : Head → Bool
is_open_term (head.Open TermSort) = true
is_open_term (head.Open MarkSort) = false
is_open_term (head.Open StringSort) = false
is_open_term (head.Fun f) = false
is_open_term (head.Eigen p) = false
is_open_term (head.New p) = false
is_open_term head.Marks = false

-- the parts of a cell, or the items of the label at which its spare stands
abbrev pub needs_of : Homes → ℕ → Cell → List ℕ
needs_of h v (variable TermSort None) = or_nothing (home_of h v)
needs_of h v (variable MarkSort None) = []
needs_of h v (variable StringSort None) = []
needs_of h v (variable sort (Some r)) = r ∷ []
needs_of h v (fun_cell f rs) = rs
needs_of h v (eigen_cell p rs) = rs
needs_of h v (new_cell p rs) = rs
needs_of h v (string_cell rs) = rs

-- the cell at v, whose value is made of those of the cells rs
pub record Needs (s : Store) (h : Homes) (v : ℕ) (rs : List ℕ) : Type 0 where
  pub cell : Cell
  pub stands : slice_get s.cells v ≡ Some cell
  pub needs : rs ≡ needs_of h v cell

-- the spare of v at a home with this label
abbrev pub spare_at : Option (List ℕ) → ℕ → List GroundMark → CellValue
spare_at None v w = a_term (common v)
spare_at (Some rs) v w = a_term (own v (marks_tree w))

-- the value of an unbound or built cell, made of those of the cells rs
abbrev pub made_of : Option (List ℕ) → Solution → ℕ → Head → List ℕ → CellValue
made_of home σ v (head.Open TermSort) rs = spare_at home v (label_by σ rs)
made_of home σ v (head.Open MarkSort) rs = a_mark (g_spare_mark v)
made_of home σ v (head.Open StringSort) rs = a_string []
made_of home σ v (head.Fun f) rs = a_term (g_fun f.0 (terms_by σ rs))
made_of home σ v (head.Eigen p) rs = a_term (g_eigen p.0 (values_tree (values_by σ rs)))
made_of home σ v (head.New p) rs = a_mark (g_new_mark p.0 (values_tree (values_by σ rs)))
made_of home σ v head.Marks rs = a_string (label_by σ rs)
