-- A symbol that is new keeps a list distinct.
use Rattle.std.proofs.Common.{◌≡◌, suc, List, [], ◌∷◌, ◌++◌, Bool, true, false, not, ◌||◌, IsTrue, refl, sym, ◌∙◌, ap, subst, arith}
use Rattle.std.specs.List.{list_any, Contains}
use Rattle.std.proofs.lemmas.Bool.{and_parts, and_from, false≢true}
use Rattle.std.proofs.lemmas.List.Folds.{list_any-append}
use Rattle.calculus.specs.Syntax.{Symbol}
use Rattle.calculus.specs.Equality.{symbol_eq}
use Rattle.calculus.specs.Problems.{are_distinct}
use Rattle.calculus.proofs.EqualityLaws.{symbol_eq-tells}
use Rattle.std.specs.Prelude.{map}
use Rattle.indexmap.specs.IndexSet.{insert_key}
use Rattle.formula_core.specs.declared.symbol.Symbol.{Symbol as Item}
use Rattle.formula_core.specs.SymbolView.{the_symbol}
use Rattle.formula_core.specs.contracts.symbol.SymbolPartialEq.TheImpl.{eq-value}
use Rattle.formula_core.proofs.SymbolEq.{insert_key-the_symbol}

-- an element of a list stands in a longer one
Contains-more : (x s : Symbol) (xs : List Symbol) → Contains xs s → Contains (x ∷ xs) s
Contains-more x s xs h = (suc h.0, omega (arith, h.1), h.2)

Contains-first : (x s : Symbol) (xs : List Symbol) → x ≡ s → Contains (x ∷ xs) s
Contains-first x s xs e = (0, omega arith, e)

-- no element before it is equal to the last one
not_any : (x s : Symbol) (xs : List Symbol) → IsTrue (not (list_any (symbol_eq x) xs)) → (x ≡ s → ⊥) → IsTrue (not (list_any (symbol_eq x) (xs ++ s ∷ [])))
not_any x s xs h k = subst (λ b. IsTrue (not b)) (sym (list_any-append (symbol_eq x) xs (s ∷ []))) (by (list_any (symbol_eq x) xs) (symbol_eq x s) refl h)
  where
    by : (p q : Bool) → symbol_eq x s ≡ q → IsTrue (not p) → IsTrue (not (p || (q || false)))
    by true q e g = absurd (false≢true g)
    by false true e g = absurd (k ((symbol_eq-tells x s).0 e))
    by false false e g = refl

pub are_distinct-append : (xs : List Symbol) (s : Symbol) → IsTrue (are_distinct xs) → (Contains xs s → ⊥) → IsTrue (are_distinct (xs ++ s ∷ []))
are_distinct-append [] s h k = refl
are_distinct-append (x ∷ xs) s h k =
    let parts = and_parts (not (list_any (symbol_eq x) xs)) (are_distinct xs) h in
    and_from (not (list_any (symbol_eq x) (xs ++ s ∷ []))) (are_distinct (xs ++ s ∷ []))
    (not_any x s xs parts.0 (λ e. k (Contains-first x s xs e)))
    (are_distinct-append xs s parts.1 (λ c. k (Contains-more x s xs c)))

-- the keys after one that is new
pub are_distinct-insert_key : (keys after : List Item) (seen : List Symbol) (q : Item) → map the_symbol keys ≡ seen → (Contains seen (the_symbol q) → ⊥) → after ≡ insert_key eq-value.it keys q → IsTrue (are_distinct (map the_symbol keys)) → IsTrue (are_distinct (map the_symbol after))
are_distinct-insert_key keys after seen q e new f h =
    let k : Contains (map the_symbol keys) (the_symbol q) → ⊥ = λ c. new (subst (λ ss. Contains ss (the_symbol q)) e c) in
    subst (λ ss. IsTrue (are_distinct ss)) (sym (ap (map the_symbol) f ∙ insert_key-the_symbol q keys k)) (are_distinct-append (map the_symbol keys) (the_symbol q) h k)
