-- The names in values, and with them those in the homes of eigenvariables.
use Rattle.std.specs.Prelude.{List, [], ◌∷◌, ◌++◌, if◌then◌else◌}
use Rattle.std.specs.List.{flat_map}
use Rattle.calculus.specs.Ground.{Value, g_eigen, g_new_mark, values_tree}
use Rattle.calculus.specs.Instances.{Turn}
use Rattle.conversion_theory.specs.Numbering.{name_eq}
use Rattle.calculus.specs.Syntax.{Problem}
use Rattle.conversion_theory.specs.Turns.{Name, term_name, mark_name, names_of_home, names_of_values, names_introduced}
use Rattle.name_order.specs.Keeping.{keep_all}
use Rattle.name_order.specs.Places.{Place, is_delta_in, is_pi_in}

abbrev pub names_in : List Value → List Name
names_in vs = names_of_values (values_tree vs)

abbrev pub with_home : Problem → Name → List Name
with_home P n = n ∷ names_of_home P n

-- the names with those in their homes
abbrev pub with_homes : Problem → List Name → List Name
with_homes P ns = flat_map (with_home P) ns

abbrev pub mentioned_in : Problem → List Value → List Name
mentioned_in P vs = with_homes P (keep_all name_eq [] (names_in vs))

abbrev pub names_in_turn : Turn → List Name
names_in_turn x = names_in x.values

-- the names that turns mention or introduce
abbrev pub names_by : Problem → List Turn → List Name
names_by P xs = with_homes P (keep_all name_eq [] (flat_map names_in_turn xs)) ++ flat_map (names_introduced P) xs

-- the names that a turn introduces, by the list of positions
abbrev pub eigen_in : List Place → Turn → List Name
eigen_in ps x = if is_delta_in ps x.position then term_name (g_eigen x.position (values_tree x.values)) ∷ [] else []

abbrev pub character_in : List Place → Turn → List Name
character_in ps x = if is_pi_in ps x.position then mark_name (g_new_mark x.position (values_tree x.values)) ∷ [] else []

abbrev pub introduced_in : List Place → Turn → List Name
introduced_in ps x = eigen_in ps x ++ character_in ps x

abbrev pub gathered : Problem → List Place → List Turn → List Name
gathered P ps xs = with_homes P (keep_all name_eq [] (flat_map names_in_turn xs)) ++ flat_map (introduced_in ps) xs
