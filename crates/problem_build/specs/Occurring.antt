-- Which symbols stand in a formula.
use Rattle.std.specs.Prelude.{ℕ, Bool, false, ◌||◌, ◌==◌, IsTrue}
use Rattle.std.specs.List.{list_all}
use Rattle.calculus.specs.Syntax.{Term, Terms, var, fun, eigen, spare, no_terms, more_terms, Formula, atom, neg, conj, disj, imp, all, ex, box, dia, Problem}
use Rattle.problem_build.specs.Expansion.{number_of}

-- the symbol of this number
abbrev mutual
  pub stands_in_term : ℕ → Term → Bool
  stands_in_term k (var x) = false
  stands_in_term k (fun f ts) = k == f || stands_in_terms k ts
  stands_in_term k (eigen n) = false
  stands_in_term k (spare n) = false

  pub stands_in_terms : ℕ → Terms → Bool
  stands_in_terms k no_terms = false
  stands_in_terms k (more_terms t ts) = stands_in_term k t || stands_in_terms k ts

abbrev pub stands_in : ℕ → Formula → Bool
stands_in k (atom p ts) = k == p || stands_in_terms k ts
stands_in k (neg a) = stands_in k a
stands_in k (conj a b) = stands_in k a || stands_in k b
stands_in k (disj a b) = stands_in k a || stands_in k b
stands_in k (imp a b) = stands_in k a || stands_in k b
stands_in k (all a) = stands_in k a
stands_in k (ex a) = stands_in k a
stands_in k (box a) = stands_in k a
stands_in k (dia a) = stands_in k a

-- each of the problem's symbols does
abbrev pub HasItsSymbols : Problem → Type 0
HasItsSymbols P = IsTrue (list_all (λ x. stands_in (number_of P.symbols x) P.formula) P.symbols)
