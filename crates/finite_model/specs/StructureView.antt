-- The finite structure of the calculus that lists of bytes stand for. A row of truth values is kept as the digits of its text.
use Rattle.std.specs.Prelude.{ℕ, List, map, Bool, ◌==◌, Vec}
use Rattle.std.specs.declared.alloc.Global.{Global}
use Rattle.calculus.specs.Structures as tree
use Rattle.finite_model.specs.declared.structure.Meaning.{Meaning}
use Rattle.finite_model.specs.declared.structure.Meaning.TheVariants.{Values, Truths}

-- the digit 1
abbrev pub is_one : ℕ → Bool
is_one b = b == 49

abbrev pub the_lists : List (Vec ℕ Global) → List (List ℕ)
the_lists vs = map (λ v. v.items) vs

abbrev pub the_rows : List (Vec ℕ Global) → List (List Bool)
the_rows rows = map (λ v. map is_one v.items) rows

abbrev pub the_meaning : Meaning → tree.Meaning
the_meaning (Values values) = tree.value_table values.items
the_meaning (Truths rows) = tree.truth_tables (the_rows rows.items)

abbrev pub the_structure : ℕ → List (Vec ℕ Global) → List (Vec ℕ Global) → List Meaning → tree.Structure
the_structure elements successors domains meanings = record {
  elements = elements;
  successors = the_lists successors;
  domains = the_lists domains;
  meanings = map the_meaning meanings;
}
