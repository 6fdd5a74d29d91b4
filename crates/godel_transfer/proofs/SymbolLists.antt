-- Each of distinct symbols is none of those before it.
use Rattle.std.proofs.Common.{◌≡◌, ℕ, zero, suc, ◌<◌, List, [], ◌∷◌, length, get_or, map, take, not, true, IsTrue, sym, refl, ◌∙◌, ap, subst, arith}
use Rattle.std.specs.List.{list_any, Contains}
use Rattle.std.proofs.lemmas.Bool.{and_parts, false≢true, or_right}
use Rattle.std.proofs.lemmas.List.{get_or-map, length-map, length-take, take-map}
use Rattle.calculus.specs.Syntax.{Symbol}
use Rattle.calculus.specs.Equality.{symbol_eq}
use Rattle.calculus.specs.Problems.{are_distinct}
use Rattle.calculus.proofs.EqualityLaws.{symbol_eq-tells}
use Rattle.formula_core.specs.SymbolView.{the_symbol}
use Rattle.formula_core.specs.declared.symbol.Symbol.{Symbol as Item}

any-at : (x s : Symbol) (xs : List Symbol) (i : ℕ) → i < length xs → get_or xs i s ≡ s → x ≡ s → list_any (symbol_eq x) xs ≡ true
any-at x s [] i lt e f = absurd (omega arith)
any-at x s (y ∷ xs) zero lt e f = rw ((symbol_eq-tells x y).1 (f ∙ sym e)) refl
any-at x s (y ∷ xs) (suc i) lt e f = or_right (symbol_eq x y) (list_any (symbol_eq x) xs) (any-at x s xs i (omega arith) e f)

-- nor of a longer list, if it is none of those behind the first
not-first : (x s : Symbol) (xs : List Symbol) (i : ℕ) → IsTrue (not (list_any (symbol_eq x) xs)) → i < length xs → get_or xs i s ≡ s → (Contains (take i xs) s → ⊥) → Contains (x ∷ take i xs) s → ⊥
not-first x s xs i first lt e rest h = by h.0 h.1 h.2
  where
    by : (k : ℕ) → k < length (x ∷ take i xs) → get_or (x ∷ take i xs) k s ≡ s → ⊥
    by zero small same = false≢true (subst (λ b. IsTrue (not b)) (any-at x s xs i lt e same) first)
    by (suc k) small same = rest (k, omega arith, same)

pub not-before : (s : Symbol) (xs : List Symbol) (i : ℕ) → IsTrue (are_distinct xs) → i < length xs → get_or xs i s ≡ s → Contains (take i xs) s → ⊥
not-before s [] i d lt e h = absurd (omega arith)
not-before s (x ∷ xs) zero d lt e h = let none = h.1 in absurd (omega arith)
not-before s (x ∷ xs) (suc i) d lt e h =
    let parts = and_parts (not (list_any (symbol_eq x) xs)) (are_distinct xs) d in
    not-first x s xs i parts.0 (omega arith) e (not-before s xs i parts.1 (omega arith) e) h

-- the symbols that are copied do not have the next one
pub copied-new : (items : List Item) (symbols copied : List Symbol) (i : ℕ) (s : Item) → map the_symbol items ≡ symbols → IsTrue (are_distinct symbols) → i < length items → s ≡ get_or items i s → copied ≡ map the_symbol (take i items) → Contains copied (the_symbol s) → ⊥
copied-new items symbols copied i s same distinct lt e f h =
    let front = f ∙ sym (take-map the_symbol i items) ∙ ap (take i) same in
    let at = (λ j. get_or (sym same j) i (the_symbol s)) ∙ get_or-map the_symbol items i s (the_symbol s) lt ∙ ap the_symbol (sym e) in
    let inside : i < length symbols = subst (λ (ss : List Symbol). i < length ss) same (omega (arith, length-map items the_symbol)) in
    not-before (the_symbol s) symbols i distinct inside at (subst (λ (ss : List Symbol). Contains ss (the_symbol s)) front h)

pub copied-fewer : (items : List Item) (symbols copied : List Symbol) (i : ℕ) → map the_symbol items ≡ symbols → i < length items → copied ≡ map the_symbol (take i items) → length copied < length symbols
copied-fewer items symbols copied i same lt f =
    let front = ap length (f ∙ sym (take-map the_symbol i items) ∙ ap (take i) same) in
    let inside : i < length symbols = subst (λ (ss : List Symbol). i < length ss) same (omega (arith, length-map items the_symbol)) in
    omega (arith, length-take i symbols)
