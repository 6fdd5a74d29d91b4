-- How the place of a tuple grows with its terms, and a test goes on over worlds.
use Rattle.std.proofs.Common.{◌≡◌, ℕ, ◌+◌, ◌*◌, ◌<◌, ◌≤◌, List, length, map, drop, get_or, Bool, true, false, ◌&&◌, refl, sym, ◌∙◌, ap}
use Rattle.std.specs.List.{list_all}
use Rattle.std.proofs.Math.ListN.{drop_of_length-le}
use Rattle.plain_laws.proofs.Places.{items-next}
use Rattle.calculus.specs.Lists.{terms_tree}
use Rattle.calculus.specs.Structures.{Structure, place_from, term_value, term_values}
use Rattle.formula_core.specs.TermView.{the_term}
use Rattle.formula_core.specs.declared.term.Term.{Term}

pub arg-on : (S : Structure) (env : List ℕ) (items : List Term) (i p k v total : ℕ) (x d : Term) → i < length items → x ≡ get_or items i d → k ≡ S.elements → v ≡ term_value S env (the_term x) → place_from S.elements p (term_values S env (terms_tree (map the_term (drop i items)))) ≡ total → place_from S.elements (p * k + v) (term_values S env (terms_tree (map the_term (drop (i + 1) items)))) ≡ total
arg-on S env items i p k v total x d h e same value so =
    (λ j. place_from S.elements (p * same j + value j) (term_values S env (terms_tree (map the_term (drop (i + 1) items)))))
    ∙ ap (λ xs. place_from S.elements p (term_values S env (terms_tree (map the_term xs)))) (sym (items-next items i x d h e)) ∙ so

pub arg-end : (S : Structure) (env : List ℕ) (items : List Term) (i p total : ℕ) → length items ≤ i → place_from S.elements p (term_values S env (terms_tree (map the_term (drop i items)))) ≡ total → p ≡ total
arg-end S env items i p total h so = sym (ap (λ xs. place_from S.elements p (term_values S env (terms_tree (map the_term xs)))) (drop_of_length-le items h)) ∙ so

pub all-on : (test : ℕ → Bool) (xs : List ℕ) (i : ℕ) → i < length xs → test (get_or xs i 0) ≡ true → list_all test (drop i xs) ≡ list_all test (drop (i + 1) xs)
all-on test xs i h e = ap (list_all test) (items-next xs i (get_or xs i 0) 0 h refl) ∙ ap (λ b. b && list_all test (drop (i + 1) xs)) e

pub all-false : (test : ℕ → Bool) (xs : List ℕ) (i : ℕ) → i < length xs → test (get_or xs i 0) ≡ false → list_all test (drop i xs) ≡ false
all-false test xs i h e = ap (list_all test) (items-next xs i (get_or xs i 0) 0 h refl) ∙ ap (λ b. b && list_all test (drop (i + 1) xs)) e

pub all-end : (test : ℕ → Bool) (xs : List ℕ) (i : ℕ) → length xs ≤ i → list_all test (drop i xs) ≡ true
all-end test xs i h = ap (list_all test) (drop_of_length-le xs h)
