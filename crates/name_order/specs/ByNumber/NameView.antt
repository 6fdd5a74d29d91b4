-- The names of the calculus that those of the program stand for, by the lists of a table.
use Rattle.std.specs.Prelude.{List}
use Rattle.conversion_theory.specs.Turns as turns
use Rattle.formula_core.specs.GroundLists.{GroundList, the_g_term, the_mark, IsNormalTerm, IsNormalMark}
use Rattle.name_order.specs.declared.names.Name.{Name}
use Rattle.name_order.specs.declared.names.Name.TheVariants as name

abbrev pub the_name : List GroundList → Name → turns.Name
the_name ls (name.Term t) = turns.term_name (the_g_term ls t)
the_name ls (name.Mark m) = turns.mark_name (the_mark ls m)

-- it names its list by the one number
abbrev pub IsNormalName : List GroundList → Name → Type 0
IsNormalName ls (name.Term t) = IsNormalTerm ls t
IsNormalName ls (name.Mark m) = IsNormalMark ls m
