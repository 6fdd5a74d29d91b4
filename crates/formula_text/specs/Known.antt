-- Whether each symbol that occurs is one of the list.
use Rattle.std.specs.Prelude.{ℕ, List, length, Bool, true, false, ◌&&◌, nat_lt, slice_get}
use Rattle.std.specs.Option.{option_map_or}
use Rattle.calculus.specs.declared.symbol.SymbolClass.{SymbolClass}
use Rattle.calculus.specs.declared.symbol.SymbolClass.TheVariants.{Function, Predicate, Equality, Truth}
use Rattle.calculus.specs.Syntax.{Symbol, Term, Terms, var, fun, eigen, spare, no_terms, more_terms, Formula, atom, neg, conj, disj, imp, all, ex, box, dia}

abbrev mutual
  pub term_is_known : List Symbol → Term → Bool
  term_is_known symbols (var k) = true
  term_is_known symbols (fun f ts) = nat_lt f (length symbols) && terms_are_known symbols ts
  term_is_known symbols (eigen n) = true
  term_is_known symbols (spare n) = true

  pub terms_are_known : List Symbol → Terms → Bool
  terms_are_known symbols no_terms = true
  terms_are_known symbols (more_terms t ts) = term_is_known symbols t && terms_are_known symbols ts

abbrev pub formula_is_known : List Symbol → Formula → Bool
formula_is_known symbols (atom p ts) = nat_lt p (length symbols) && terms_are_known symbols ts
formula_is_known symbols (neg a) = formula_is_known symbols a
formula_is_known symbols (conj a b) = formula_is_known symbols a && formula_is_known symbols b
formula_is_known symbols (disj a b) = formula_is_known symbols a && formula_is_known symbols b
formula_is_known symbols (imp a b) = formula_is_known symbols a && formula_is_known symbols b
formula_is_known symbols (all a) = formula_is_known symbols a
formula_is_known symbols (ex a) = formula_is_known symbols a
formula_is_known symbols (box a) = formula_is_known symbols a
formula_is_known symbols (dia a) = formula_is_known symbols a

abbrev pub is_named_class : SymbolClass → Bool
is_named_class Function = true
is_named_class Predicate = true
is_named_class Equality = false
is_named_class Truth = false

-- the number is that of a function or predicate symbol
abbrev pub is_named : List Symbol → ℕ → Bool
is_named symbols f = option_map_or (λ (s : Symbol). is_named_class s.class) (slice_get symbols f) false
