-- Where the places of a symbol and a sign stand in the matrix.
use Rattle.std.proofs.Common.{◌≡◌, ◌⊎◌, ◌+◌, ℕ, zero, suc, List, [], ◌∷◌, ◌++◌, Bool, true, false, not, ◌==◌, IsTrue, refl, sym, ◌∙◌, ap, subst, None, Some, slice_get, arith, inl, inr, if◌then◌else◌, eqb-true}
use Rattle.std.proofs.lemmas.Bool.{and_parts, false≢true}
use Rattle.calculus.specs.declared.sign.Sign.{Sign}
use Rattle.calculus.specs.declared.sign.Sign.TheVariants.{T, F}
use Rattle.calculus.specs.Equality.{sign_eq}
use Rattle.calculus.specs.Kinds.{other}
use Rattle.store_theory.specs.Patterns.{PatternAtom}
use Rattle.search_theory.specs.Matrix.{MatrixClause, MatrixPlace, clause_places, is_about, places, places_among}

-- the item at a place of two lists
get-either : {A : Type 0} (xs ys : List A) (i : ℕ) (x : A) → slice_get (xs ++ ys) i ≡ Some x → ((k : ℕ) × (slice_get xs k ≡ Some x)) ⊎ ((k : ℕ) × (slice_get ys k ≡ Some x))
get-either [] ys i x e = inr (i, e)
get-either (y ∷ xs) ys zero x e = inl (0, e)
get-either (y ∷ xs) ys (suc i) x e = elim (get-either xs ys i x e) [ inl h ↦ inl (suc h.0, h.1) | inr h ↦ inr h ]

-- a literal of a clause
record LiteralAt (symbol : ℕ) (sign : Sign) (k j : ℕ) (xs : List PatternAtom) (p : MatrixPlace) : Type 0 where
  number : ℕ
  literal : PatternAtom
  is : p ≡ record { clause = k; literal = j + number }
  stands : slice_get xs number ≡ Some literal
  about : IsTrue (is_about symbol sign literal)

place-among : (symbol : ℕ) (sign : Sign) (k j : ℕ) (xs : List PatternAtom) (i : ℕ) (p : MatrixPlace) → slice_get (places_among symbol sign k j xs) i ≡ Some p → LiteralAt symbol sign k j xs p
place-among symbol sign k j [] i p e = let z : None ≡ Some p = e in absurd (cc z)
place-among symbol sign k j (a ∷ xs) i p e = elim (get-either (if is_about symbol sign a then record { clause = k; literal = j } ∷ [] else []) (places_among symbol sign k (suc j) xs) i p e) [
  | inl h ↦ here (is_about symbol sign a) refl h.0 h.1
  | inr h ↦
      let w = place-among symbol sign k (suc j) xs h.0 p h.1 in
      let n : suc j + w.number ≡ j + suc w.number = omega arith in
      record { number = suc w.number; literal = w.literal; is = w.is ∙ ap (λ x. record { clause = k; literal = x }) n; stands = w.stands; about = w.about }
]
  where
    here : (b : Bool) → is_about symbol sign a ≡ b → (n : ℕ) → slice_get (if b then record { clause = k; literal = j } ∷ [] else []) n ≡ Some p → LiteralAt symbol sign k j (a ∷ xs) p
    here true q zero e =
        let z : record { clause = k; literal = j } ≡ p = cc e in
        let n : j ≡ j + 0 = omega arith in
        record { number = 0; literal = a; is = sym z ∙ ap (λ x. record { clause = k; literal = x }) n; stands = refl; about = q }
    here true q (suc n) e = let z : None ≡ Some p = e in absurd (cc z)
    here false q n e = let z : None ≡ Some p = e in absurd (cc z)

-- a literal of the matrix with this symbol and sign
pub record PlaceStands (symbol : ℕ) (sign : Sign) (first : ℕ) (m : List MatrixClause) (p : MatrixPlace) : Type 0 where
  pub number : ℕ
  pub clause : MatrixClause
  pub literal : PatternAtom
  pub is_clause : p.clause ≡ first + number
  pub stands : slice_get m number ≡ Some clause
  pub there : slice_get clause.template.literals p.literal ≡ Some literal
  pub about : IsTrue (is_about symbol sign literal)

clause-place : (symbol : ℕ) (sign : Sign) (k : ℕ) (m : List MatrixClause) (i : ℕ) (p : MatrixPlace) → slice_get (clause_places symbol sign k m) i ≡ Some p → PlaceStands symbol sign k m p
clause-place symbol sign k [] i p e = let z : None ≡ Some p = e in absurd (cc z)
clause-place symbol sign k (c ∷ m) i p e = elim (get-either (places_among symbol sign k 0 c.template.literals) (clause_places symbol sign (suc k) m) i p e) [
  | inl h ↦
      let w = place-among symbol sign k 0 c.template.literals h.0 p h.1 in
      let n : w.number ≡ 0 + w.number = omega arith in
      let q : 0 + w.number ≡ p.literal = sym (ap (λ (x : MatrixPlace). x.literal) w.is) in
      let z : k ≡ k + 0 = omega arith in
      record { number = 0; clause = c; literal = w.literal; is_clause = ap (λ (x : MatrixPlace). x.clause) w.is ∙ z; stands = refl; there = subst (λ x. slice_get c.template.literals x ≡ Some w.literal) (n ∙ q) w.stands; about = w.about }
  | inr h ↦
      let w = clause-place symbol sign (suc k) m h.0 p h.1 in
      let n : suc k + w.number ≡ k + suc w.number = omega arith in
      record { number = suc w.number; clause = w.clause; literal = w.literal; is_clause = w.is_clause ∙ n; stands = w.stands; there = w.there; about = w.about }
]

-- an item of the index
pub place-stands : (m : List MatrixClause) (symbol : ℕ) (sign : Sign) (i : ℕ) (p : MatrixPlace) → slice_get (places m symbol sign) i ≡ Some p → PlaceStands symbol sign 0 m p
place-stands m symbol sign i p e = clause-place symbol sign 0 m i p e

pub place-found : (m : List MatrixClause) (symbol : ℕ) (sign : Sign) (p : MatrixPlace) → (w : PlaceStands symbol sign 0 m p) → slice_get m p.clause ≡ Some w.clause
place-found m symbol sign p w = let n : w.number ≡ p.clause = (let e = w.is_clause in omega (arith, e)) in subst (λ k. slice_get m k ≡ Some w.clause) n w.stands

pub about-symbol : (symbol : ℕ) (sign : Sign) (a : PatternAtom) → IsTrue (is_about symbol sign a) → symbol ≡ a.symbol
about-symbol symbol sign a h = sym (eqb-true a.symbol symbol (and_parts (a.symbol == symbol) (sign_eq a.sign sign) h).0)

pub about-sign : (symbol : ℕ) (sign : Sign) (a : PatternAtom) → IsTrue (is_about symbol (other sign) a) → IsTrue (not (sign_eq sign a.sign))
about-sign symbol sign a h = by sign a.sign (and_parts (a.symbol == symbol) (sign_eq a.sign (other sign)) h).1
  where
    by : (s t : Sign) → IsTrue (sign_eq t (other s)) → IsTrue (not (sign_eq s t))
    by T T e = absurd (false≢true e)
    by T F e = refl
    by F T e = refl
    by F F e = absurd (false≢true e)
