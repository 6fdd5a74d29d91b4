-- The names in the lists of a table: those that were found, and those in lists that are still ahead.
use Rattle.std.specs.Prelude.{ℕ, List, ◌∷◌, [], map, Bool, ◌||◌}
use Rattle.std.specs.List.{AllByRecursion, flat_map, list_any}
use Rattle.calculus.specs.Ground.{g_eigen, marks_tree, values_list, values_tree}
use Rattle.calculus.specs.Lists.{g_terms_tree}
use Rattle.calculus.specs.Skolem.{label_of}
use Rattle.calculus.specs.Syntax.{Problem}
use Rattle.conversion_theory.specs.Numbering.{name_eq}
use Rattle.conversion_theory.specs.Turns as turns
use Rattle.conversion_theory.specs.Turns.{mark_name, term_name, names_of_marks, names_of_terms, names_of_values}
use Rattle.formula_core.specs.GroundLists.{GroundList, list_at, of_terms, of_marks, of_values}
use Rattle.name_order.specs.ByNumber.NameView.{the_name, IsNormalName}
use Rattle.name_order.specs.declared.names.Name.{Name}

abbrev pub has : turns.Name → List turns.Name → Bool
has n ns = list_any (name_eq n) ns

abbrev pub names_in : GroundList → List turns.Name
names_in (of_terms ts) = names_of_terms (g_terms_tree ts)
names_in (of_marks ms) = names_of_marks (marks_tree ms)
names_in (of_values vs) = names_of_values (values_tree vs)

-- whether the name is in one of the lists of these numbers
abbrev pub is_ahead : List GroundList → List ℕ → turns.Name → Bool
is_ahead ls ks n = list_any (λ k. has n (names_in (list_at ls k))) ks

abbrev pub the_names : List GroundList → List Name → List turns.Name
the_names ls ns = map (the_name ls) ns

abbrev pub AreNormalNames : List GroundList → List Name → Type 0
AreNormalNames ls ns = AllByRecursion (IsNormalName ls) ns

-- whether it was found or is ahead
abbrev pub is_seen : List GroundList → List Name → List ℕ → turns.Name → Bool
is_seen ls found ahead n = has n (the_names ls found) || is_ahead ls ahead n

-- ---- homes

-- the characters of a name's home, without what is inside them
abbrev pub home_marks : Problem → turns.Name → List turns.Name
home_marks P (term_name (g_eigen p vs)) = map mark_name (label_of P p (values_list vs))
home_marks P n = []

abbrev pub with_marks : Problem → turns.Name → List turns.Name
with_marks P n = n ∷ home_marks P n

abbrev pub all_with_marks : Problem → List turns.Name → List turns.Name
all_with_marks P ns = flat_map (with_marks P) ns
