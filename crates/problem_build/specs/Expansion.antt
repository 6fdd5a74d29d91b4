-- The formula of an item: its abbreviations expanded, its variables as de Bruijn indices, its symbols as numbers.
use Rattle.std.specs.Prelude.{ℕ, suc, List, [], ◌∷◌, ◌++◌, Bool, ◌==◌, codes, reverse, if◌then◌else◌}
use Rattle.std.specs.List.{list_any}
use Rattle.calculus.specs.declared.symbol.SymbolClass.TheVariants.{Function, Predicate, Equality, Truth}
use Rattle.calculus.specs.Equality.{list_eq, symbol_eq}
use Rattle.calculus.specs.Syntax as tree
use Rattle.calculus.specs.Syntax.{Symbol, Term, Terms, Formula}
use Rattle.tptp_reader.specs.declared.source.ChainKind.{ChainKind}
use Rattle.tptp_reader.specs.declared.source.ChainKind.TheVariants.{And, Or}
use Rattle.tptp_reader.specs.declared.source.BinaryKind.{BinaryKind}
use Rattle.tptp_reader.specs.declared.source.BinaryKind.TheVariants.{Imp, If, Iff, Xor, Nor, Nand}
use Rattle.tptp_reader.specs.Sources.{Name, SourceTerm, variable, apply, SourceTerms, no_terms, more_terms, Source, atom, truth, falsity, equal, unequal, not, chain, binary, for_all, exists, nec, poss, Sources, no_sources, more_sources}
use Rattle.problem_build.specs.Balance.{balanced}

-- ---- lists

-- the items that are not among the known ones, each at its first place
abbrev pub first_seen : {A : Type 0} → (A → A → Bool) → List A → List A → List A
first_seen same known [] = []
first_seen same known (x ∷ xs) = if list_any (same x) known then first_seen same known xs else x ∷ first_seen same (known ++ x ∷ []) xs

-- the first place of an item that passes the test
abbrev pub place_of : {A : Type 0} → (A → Bool) → List A → ℕ
place_of test [] = 0
place_of test (x ∷ xs) = if test x then 0 else suc (place_of test xs)

abbrev pub same_name : Name → Name → Bool
same_name = list_eq ◌==◌

-- ---- symbols

abbrev pub argument_count : SourceTerms → ℕ
argument_count no_terms = 0
argument_count (more_terms t ts) = suc (argument_count ts)

abbrev pub function_symbol : Name → ℕ → Symbol
function_symbol name arity = record { name = name; class = Function; arity = arity }

abbrev pub predicate_symbol : Name → ℕ → Symbol
predicate_symbol name arity = record { name = name; class = Predicate; arity = arity }

abbrev pub equality_symbol : Symbol
equality_symbol = record { name = codes "="; class = Equality; arity = 2 }

abbrev pub truth_symbol : Symbol
truth_symbol = record { name = codes "$$o"; class = Truth; arity = 0 }

-- The symbols in the order in which they first stand in the expanded formula, that of a term or atom before those of its
-- arguments; some stand there again.
abbrev mutual
  pub term_symbols : SourceTerm → List Symbol
  term_symbols (variable x) = []
  term_symbols (apply f ts) = function_symbol f (argument_count ts) ∷ terms_symbols ts

  pub terms_symbols : SourceTerms → List Symbol
  terms_symbols no_terms = []
  terms_symbols (more_terms t ts) = term_symbols t ++ terms_symbols ts

abbrev pub binary_symbols : BinaryKind → List Symbol → List Symbol → List Symbol
binary_symbols If left right = right ++ left
binary_symbols _ left right = left ++ right

abbrev mutual
  pub symbols_in : Source → List Symbol
  symbols_in (atom p ts) = predicate_symbol p (argument_count ts) ∷ terms_symbols ts
  symbols_in truth = truth_symbol ∷ []
  symbols_in falsity = truth_symbol ∷ []
  symbols_in (equal s t) = equality_symbol ∷ (term_symbols s ++ term_symbols t)
  symbols_in (unequal s t) = equality_symbol ∷ (term_symbols s ++ term_symbols t)
  symbols_in (not a) = symbols_in a
  symbols_in (chain c bs) = symbols_in_all bs
  symbols_in (binary c a b) = binary_symbols c (symbols_in a) (symbols_in b)
  symbols_in (for_all xs a) = symbols_in a
  symbols_in (exists xs a) = symbols_in a
  symbols_in (nec a) = symbols_in a
  symbols_in (poss a) = symbols_in a

  pub symbols_in_all : Sources → List Symbol
  symbols_in_all no_sources = []
  symbols_in_all (more_sources a bs) = symbols_in a ++ symbols_in_all bs

abbrev pub number_of : List Symbol → Symbol → ℕ
number_of symbols s = place_of (symbol_eq s) symbols

-- ---- free variables

abbrev mutual
  pub variables_in : SourceTerm → List Name
  variables_in (variable x) = x ∷ []
  variables_in (apply f ts) = variables_in_all ts

  pub variables_in_all : SourceTerms → List Name
  variables_in_all no_terms = []
  variables_in_all (more_terms t ts) = variables_in t ++ variables_in_all ts

-- those that are not bound, in the order in which they stand in the source
abbrev pub unbound : List Name → List Name → List Name
unbound bound [] = []
unbound bound (x ∷ xs) = if list_any (same_name x) bound then unbound bound xs else x ∷ unbound bound xs

abbrev mutual
  pub free_in : List Name → Source → List Name
  free_in bound (atom p ts) = unbound bound (variables_in_all ts)
  free_in bound truth = []
  free_in bound falsity = []
  free_in bound (equal s t) = unbound bound (variables_in s ++ variables_in t)
  free_in bound (unequal s t) = unbound bound (variables_in s ++ variables_in t)
  free_in bound (not a) = free_in bound a
  free_in bound (chain c bs) = free_in_all bound bs
  free_in bound (binary c a b) = free_in bound a ++ free_in bound b
  free_in bound (for_all xs a) = free_in (bound ++ xs) a
  free_in bound (exists xs a) = free_in (bound ++ xs) a
  free_in bound (nec a) = free_in bound a
  free_in bound (poss a) = free_in bound a

  pub free_in_all : List Name → Sources → List Name
  free_in_all bound no_sources = []
  free_in_all bound (more_sources a bs) = free_in bound a ++ free_in_all bound bs

-- the free variables, each once, in the order of their first free places
abbrev pub free_variables : Source → List Name
free_variables a = first_seen same_name [] (free_in [] a)

-- ---- expansion

-- inside of quantifiers over these variables, the innermost first
abbrev mutual
  pub expanded_term : List Symbol → List Name → SourceTerm → Term
  expanded_term symbols xs (variable x) = tree.var (place_of (same_name x) xs)
  expanded_term symbols xs (apply f ts) = tree.fun (number_of symbols (function_symbol f (argument_count ts))) (expanded_terms symbols xs ts)

  pub expanded_terms : List Symbol → List Name → SourceTerms → Terms
  expanded_terms symbols xs no_terms = tree.no_terms
  expanded_terms symbols xs (more_terms t ts) = tree.more_terms (expanded_term symbols xs t) (expanded_terms symbols xs ts)

abbrev pub equality_atom : List Symbol → Term → Term → Formula
equality_atom symbols s t = tree.atom (number_of symbols equality_symbol) (tree.more_terms s (tree.more_terms t tree.no_terms))

-- `$$o => $$o`
abbrev pub true_formula : List Symbol → Formula
true_formula symbols = tree.imp (tree.atom (number_of symbols truth_symbol) tree.no_terms) (tree.atom (number_of symbols truth_symbol) tree.no_terms)

abbrev pub chain_formula : ChainKind → Formula → Formula → Formula
chain_formula And = tree.conj
chain_formula Or = tree.disj

abbrev pub binary_formula : BinaryKind → Formula → Formula → Formula
binary_formula Imp a b = tree.imp a b
binary_formula If a b = tree.imp b a
binary_formula Iff a b = tree.conj (tree.imp a b) (tree.imp b a)
binary_formula Xor a b = tree.neg (tree.conj (tree.imp a b) (tree.imp b a))
binary_formula Nor a b = tree.neg (tree.disj a b)
binary_formula Nand a b = tree.neg (tree.conj a b)

-- one quantifier for each of the variables
abbrev pub quantified : (Formula → Formula) → List Name → Formula → Formula
quantified q [] a = a
quantified q (x ∷ xs) a = q (quantified q xs a)

-- no text has an empty chain
abbrev pub joined_chain : ChainKind → List Symbol → List Formula → Formula
joined_chain c symbols [] = true_formula symbols
joined_chain c symbols (a ∷ bs) = balanced (chain_formula c) a bs

abbrev mutual
  pub expanded : List Symbol → List Name → Source → Formula
  expanded symbols xs (atom p ts) = tree.atom (number_of symbols (predicate_symbol p (argument_count ts))) (expanded_terms symbols xs ts)
  expanded symbols xs truth = true_formula symbols
  expanded symbols xs falsity = tree.neg (true_formula symbols)
  expanded symbols xs (equal s t) = equality_atom symbols (expanded_term symbols xs s) (expanded_term symbols xs t)
  expanded symbols xs (unequal s t) = tree.neg (equality_atom symbols (expanded_term symbols xs s) (expanded_term symbols xs t))
  expanded symbols xs (not a) = tree.neg (expanded symbols xs a)
  expanded symbols xs (chain c bs) = joined_chain c symbols (expanded_all symbols xs bs)
  expanded symbols xs (binary c a b) = binary_formula c (expanded symbols xs a) (expanded symbols xs b)
  expanded symbols xs (for_all ys a) = quantified tree.all ys (expanded symbols (reverse ys ++ xs) a)
  expanded symbols xs (exists ys a) = quantified tree.ex ys (expanded symbols (reverse ys ++ xs) a)
  expanded symbols xs (nec a) = tree.box (expanded symbols xs a)
  expanded symbols xs (poss a) = tree.dia (expanded symbols xs a)

  pub expanded_all : List Symbol → List Name → Sources → List Formula
  expanded_all symbols xs no_sources = []
  expanded_all symbols xs (more_sources a bs) = expanded symbols xs a ∷ expanded_all symbols xs bs

-- the item's formula, with universal quantifiers for its free variables round it
abbrev pub closed : List Symbol → Source → Formula
closed symbols a = quantified tree.all (free_variables a) (expanded symbols (reverse (free_variables a)) a)
