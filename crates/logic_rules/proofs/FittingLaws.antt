-- Whether a term or an atom fits its symbol, by the number of its arguments.
use Rattle.std.proofs.Common.{◌≡◌, ℕ, suc, List, [], ◌∷◌, length, Bool, true, false, ◌&&◌, refl, sym, ◌∙◌, ap}
use Rattle.calculus.specs.Syntax.{arity_of, Symbol, Term, fun}
use Rattle.calculus.specs.Lists.{terms_tree}
use Rattle.calculus.specs.Skolem.{has_function}
use Rattle.calculus.specs.Problems.{has_predicate, term_fits_in, terms_fit_in}

arity-tree : (ts : List Term) → length ts ≡ arity_of (terms_tree ts)
arity-tree [] = refl
arity-tree (t ∷ ts) = ap suc (arity-tree ts)

pub fun-then : (S : List Symbol) (d f n : ℕ) (ts : List Term) (a b : Bool) → a ≡ has_function S f n → n ≡ length ts → b ≡ terms_fit_in S d (terms_tree ts) → a ≡ true → b ≡ term_fits_in S d (fun f (terms_tree ts))
fun-then S d f n ts a b e k h t = h ∙ sym (ap (λ x. x && terms_fit_in S d (terms_tree ts)) (ap (has_function S f) (sym (k ∙ arity-tree ts)) ∙ sym e ∙ t))

pub fun-else : (S : List Symbol) (d f n : ℕ) (ts : List Term) (a : Bool) → a ≡ has_function S f n → n ≡ length ts → a ≡ false → a ≡ term_fits_in S d (fun f (terms_tree ts))
fun-else S d f n ts a e k z = z ∙ sym (ap (λ x. x && terms_fit_in S d (terms_tree ts)) (ap (has_function S f) (sym (k ∙ arity-tree ts)) ∙ sym e ∙ z))

pub atom-then : (S : List Symbol) (d p n : ℕ) (ts : List Term) (a b : Bool) → a ≡ has_predicate S p n → n ≡ length ts → b ≡ terms_fit_in S d (terms_tree ts) → a ≡ true → b ≡ (has_predicate S p (arity_of (terms_tree ts)) && terms_fit_in S d (terms_tree ts))
atom-then S d p n ts a b e k h t = h ∙ sym (ap (λ x. x && terms_fit_in S d (terms_tree ts)) (ap (has_predicate S p) (sym (k ∙ arity-tree ts)) ∙ sym e ∙ t))

pub atom-else : (S : List Symbol) (d p n : ℕ) (ts : List Term) (a : Bool) → a ≡ has_predicate S p n → n ≡ length ts → a ≡ false → a ≡ (has_predicate S p (arity_of (terms_tree ts)) && terms_fit_in S d (terms_tree ts))
atom-else S d p n ts a e k z = z ∙ sym (ap (λ x. x && terms_fit_in S d (terms_tree ts)) (ap (has_predicate S p) (sym (k ∙ arity-tree ts)) ∙ sym e ∙ z))
