-- The items that those of the program stand for, by the lists of a table.
use Rattle.std.specs.Prelude.{List}
use Rattle.calculus.specs.Ground.{marks_tree, values_tree}
use Rattle.formula_core.specs.GroundLists.{GroundList, the_values, the_marks, the_g_term, the_mark, IsNormalTerm, IsNormalMark, AreNormalMarks, AreNormalValues}
use Rattle.tableau_text.specs.Items.{Item, a_term, a_mark, a_string, all_values}
use Rattle.tableau_text.specs.declared.item.TableItem.{TableItem}
use Rattle.tableau_text.specs.declared.item.TableItem.TheVariants as item

abbrev pub the_item : List GroundList → TableItem → Item
the_item ls (item.Term t) = a_term (the_g_term ls t)
the_item ls (item.Mark m) = a_mark (the_mark ls m)
the_item ls (item.Steps w) = a_string (marks_tree (the_marks ls w))
the_item ls (item.Values vs) = all_values (values_tree (the_values ls vs))

abbrev pub IsNormalItem : List GroundList → TableItem → Type 0
IsNormalItem ls (item.Term t) = IsNormalTerm ls t
IsNormalItem ls (item.Mark m) = IsNormalMark ls m
IsNormalItem ls (item.Steps w) = AreNormalMarks ls w
IsNormalItem ls (item.Values vs) = AreNormalValues ls vs
