-- Nodes and nesting of formulas, measured one by one; the count of nodes stops where it is known to be too large.
use Rattle.std.specs.Prelude.{ℕ, suc, ◌+◌, min, List, [], ◌∷◌, map, Bool, Option, None, Some, nat_le, if◌then◌else◌}
use Rattle.calculus.specs.Measures.{nesting, node_count}
use Rattle.calculus.specs.Syntax.{Symbol, Formula}
use Rattle.calculus.specs.declared.symbol.SymbolClass.{SymbolClass}
use Rattle.problem_build.specs.declared.axioms.Sort.{Sort}
use Rattle.problem_build.specs.declared.axioms.Sort.TheVariants.{Functions, Predicates}
use Rattle.tptp_reader.specs.Sources.{Source}
use Rattle.problem_build.specs.Walk.{Passed}
use Rattle.problem_build.specs.EqualityAxioms.{congruence_of_function, congruence_of_predicate}

-- the nodes of a formula that is not too deep
abbrev pub flat_nodes : Formula → Option ℕ
flat_nodes f = if nat_le (nesting f) 1000 then Some (min (node_count f) 4000001) else None

-- so many nodes and one for a connective more
abbrev pub joined_nodes : Option ℕ → Option ℕ → Option ℕ
joined_nodes None _ = None
joined_nodes (Some a) None = None
joined_nodes (Some a) (Some b) = Some (min (suc a + b) 4000001)

abbrev pub both_nodes : Option ℕ → Option ℕ → Option ℕ
both_nodes None _ = None
both_nodes (Some a) None = None
both_nodes (Some a) (Some b) = Some (min (a + b) 4000001)

-- of all together, each with a connective, where none is too deep
abbrev pub measured : List Formula → Option ℕ
measured [] = Some 0
measured (f ∷ fs) = joined_nodes (flat_nodes f) (measured fs)

-- the second, where there are both
abbrev pub second_of : Option ℕ → Option ℕ → Option ℕ
second_of None n = None
second_of (Some m) n = n

-- the nodes of the first of the formulas, where none is too deep
abbrev pub first_measured : List Formula → Option ℕ
first_measured [] = Some 0
first_measured (c ∷ cs) = second_of (measured cs) (flat_nodes c)

abbrev pub first_of : List Formula → Option Formula
first_of [] = None
first_of (c ∷ cs) = Some c

abbrev pub listed_axiom : Option Formula → List Formula
listed_axiom None = []
listed_axiom (Some f) = f ∷ []

-- where they are asked for
abbrev pub listed_if : Bool → List Formula → List Formula
listed_if b fs = if b then fs else []

abbrev pub bodies : List Passed → List Source
bodies items = map (λ (p : Passed). p.body) items

abbrev pub congruence_of : Sort → List Symbol → ℕ → SymbolClass → ℕ → List Formula
congruence_of Functions = congruence_of_function
congruence_of Predicates = congruence_of_predicate
