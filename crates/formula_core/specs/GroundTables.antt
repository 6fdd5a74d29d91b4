-- The entries of a table, and the lists that they stand for: a fold, each entry by the lists before it.
use Rattle.std.specs.Prelude.{◌≡◌, ℕ, ◌<◌, ◌≤◌, List, [], ◌∷◌, ◌++◌, map, length}
use Rattle.std.specs.List.{AllByRecursion}
use Rattle.formula_core.specs.GroundLists.{GroundList, of_terms, of_marks, of_values, list_at, the_g_term, the_mark, the_value, IsNormalTerm, IsNormalMark, IsNormalValue, IsLowerTerm, IsLowerMark, IsLowerValue, no_list}
use Rattle.formula_core.specs.declared.ground.GroundTerm.{GroundTerm}
use Rattle.formula_core.specs.declared.ground.GroundMark.{GroundMark}
use Rattle.formula_core.specs.declared.ground.Value.{Value}
use Rattle.formula_core.specs.declared.table.Entry.{Entry}
use Rattle.formula_core.specs.declared.table.Entry.TheVariants as entry

-- what an entry has
pub data Items : Type 0 where
  some_terms : List GroundTerm → Items
  some_marks : List GroundMark → Items
  some_values : List Value → Items

abbrev pub items_of : Entry → Items
items_of (entry.Terms ts) = some_terms ts.items
items_of (entry.Marks ms) = some_marks ms.items
items_of (entry.Values vs) = some_values vs.items

-- the list of an entry
abbrev pub list_of : List GroundList → Items → GroundList
list_of ls (some_terms ts) = of_terms (map (the_g_term ls) ts)
list_of ls (some_marks ms) = of_marks (map (the_mark ls) ms)
list_of ls (some_values vs) = of_values (map (the_value ls) vs)

-- these lists, and those of the entries behind them
unfoldable pub lists_from : List GroundList → List Items → List GroundList
lists_from ls [] = ls
lists_from ls (e ∷ es) = lists_from (ls ++ list_of ls e ∷ []) es

-- the items of an entry name the empty list by its one number
abbrev pub AreNormalItems : List GroundList → Items → Type 0
AreNormalItems ls (some_terms ts) = AllByRecursion (IsNormalTerm ls) ts
AreNormalItems ls (some_marks ms) = AllByRecursion (IsNormalMark ls) ms
AreNormalItems ls (some_values vs) = AllByRecursion (IsNormalValue ls) vs

-- they name lists with lower numbers than n
abbrev pub AreLowerItems : List GroundList → ℕ → Items → Type 0
AreLowerItems ls n (some_terms ts) = AllByRecursion (IsLowerTerm ls n) ts
AreLowerItems ls n (some_marks ms) = AllByRecursion (IsLowerMark ls n) ms
AreLowerItems ls n (some_values vs) = AllByRecursion (IsLowerValue ls n) vs

-- each entry names lists before it
unfoldable pub AreNormal : List GroundList → List Items → Type 0
AreNormal ls [] = ls ≡ ls
AreNormal ls (e ∷ es) = AreNormalItems ls e × AreNormal (ls ++ list_of ls e ∷ []) es

-- no list stands twice
abbrev pub AreApart : List GroundList → Type 0
AreApart ls = (i j : ℕ) → i < length ls → j < length ls → list_at ls i ≡ list_at ls j → i ≡ j

pub record IsTable (es : List Items) : Type 0 where
  pub most : length es ≤ no_list
  pub normal : AreNormal [] es
  pub apart : AreApart (lists_from [] es)

-- the list at a number is that of the entry by all lists, and its items are normal and name lower ones
pub record IsRead (ls : List GroundList) (k : ℕ) (e : Items) : Type 0 where
  pub list : list_at ls k ≡ list_of ls e
  pub lower : AreLowerItems ls k e
  pub normal : AreNormalItems ls e
