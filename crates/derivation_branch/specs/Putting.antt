-- Terms put for several variables, that of the innermost quantifier first: what a formula inside of the problem's formula stands for.
use Rattle.std.specs.Prelude.{◌≡◌, ℕ, suc, ◌-◌, List, [], ◌∷◌, length, Bool, true, false, get_or}
use Rattle.calculus.specs.Syntax.{Term, Terms, var, Formula}
use Rattle.calculus.specs.Substitution.{term_with, terms_with, formula_with, any_leaf}

abbrev pub term_with_all : List Term → ℕ → Term → Term
term_with_all [] d u = u
term_with_all (t ∷ ts) d u = term_with t d (term_with_all ts (suc d) u)

abbrev pub terms_with_all : List Term → ℕ → Terms → Terms
terms_with_all [] d us = us
terms_with_all (t ∷ ts) d us = terms_with t d (terms_with_all ts (suc d) us)

abbrev pub formula_with_all : List Term → ℕ → Formula → Formula
formula_with_all [] d f = f
formula_with_all (t ∷ ts) d f = formula_with t d (formula_with_all ts (suc d) f)

abbrev pub is_var : Term → Bool
is_var (var k) = true
is_var _ = false

-- the term has no variable
abbrev pub IsClosed : Term → Type 0
IsClosed t = any_leaf is_var t ≡ false

abbrev pub AreClosed : List Term → Type 0
AreClosed [] = Unit {0}
AreClosed (t ∷ ts) = IsClosed t × AreClosed ts

abbrev pub AreClosedLinks : List (Term × ℕ) → Type 0
AreClosedLinks [] = Unit {0}
AreClosedLinks (x ∷ xs) = IsClosed x.0 × AreClosedLinks xs

-- the term for the variable of number k; a greater variable is bound further out
abbrev pub value_at : List Term → ℕ → Term
value_at ts k = get_or ts k (var (k - length ts))
