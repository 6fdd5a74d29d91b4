-- Laws of booleans.
use Rattle.std.proofs.Common.{Bool, IsTrue, eq-eqb, eqb-true, false, refl, sym, true, ℕ, ◌&&◌, ◌==◌, ◌||◌, ◌≡◌}
use Rattle.std.proofs.lemmas.Bool.{and_parts}

pub and-false : (p : Bool) → (p && false) ≡ false
and-false true = refl
and-false false = refl

pub and-true : (p : Bool) → (p && true) ≡ p
and-true true = refl
and-true false = refl

pub or-false_true : (p : Bool) → (p || false) ≡ true → p ≡ true
or-false_true true h = refl
or-false_true false h = h

pub or_false : (b : Bool) → (b || false) ≡ b
or_false true = refl
or_false false = refl

pub or-true : (a : Bool) → (a || true) ≡ true
or-true true = refl
or-true false = refl

pub same-tests : (a b : Bool) → (IsTrue a → IsTrue b) → (IsTrue b → IsTrue a) → a ≡ b
same-tests true true f g = refl
same-tests true false f g = sym (f refl)
same-tests false true f g = g refl
same-tests false false f g = refl

pub and-assoc : (a b c : Bool) → (a && (b && c)) ≡ ((a && b) && c)
and-assoc true b c = refl
and-assoc false b c = refl

pub or-assoc : (a b c : Bool) → (a || (b || c)) ≡ ((a || b) || c)
or-assoc true b c = refl
or-assoc false b c = refl

pub or-swap : (a b c : Bool) → (a || (b || c)) ≡ (b || (a || c))
or-swap true true c = refl
or-swap true false c = refl
or-swap false true c = refl
or-swap false false c = refl

pub or-both_parts : (modal a b : Bool) → IsTrue (modal || (a && b)) → IsTrue (modal || a) × IsTrue (modal || b)
or-both_parts true a b h = (refl, refl)
or-both_parts false a b h = and_parts a b h

pub and-number_parts : (p : Bool) (m n : ℕ) → (p && m == n) ≡ true → (p ≡ true) × (m ≡ n)
and-number_parts p m n h = let a = and_parts p (m == n) h in (a.0, eqb-true m n a.1)

pub and-number : (p : Bool) (m n : ℕ) → p ≡ true → m ≡ n → (p && m == n) ≡ true
and-number p m n h e = rw (h, eq-eqb m n e) refl
