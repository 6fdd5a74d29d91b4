-- Laws of lists as wholes: joining, mapping, their items and lengths.
use Rattle.std.proofs.Common.{List, [], ap, append-nil, append_assoc, arith, drop, eq-eqb, eqb, false, length, length-append, map, refl, suc, sym, take, true, zero, ℕ, ◌++◌, ◌∙◌, ◌∷◌, ◌≡◌}
use Rattle.std.proofs.lemmas.Bool.{false≢true}
use Rattle.std.proofs.lemmas.Grind.{flat_map-append}
use Rattle.std.proofs.lemmas.List.{append_cancel_left}
use Rattle.std.proofs.lemmas.List.Concat.{flat_map-cons}
use Rattle.std.specs.Cmp.Lexicographic.{pointwise}
use Rattle.std.specs.List.{flat_map}

pub regroup-line : (f l r : List ℕ) → f ++ (l ++ 10 ∷ r) ≡ (f ++ ((l ++ 10 ∷ []) ++ [])) ++ r
regroup-line f l r = simp (append_assoc, append-nil)

pub nothing-after : (a b r : List ℕ) → a ≡ b ++ r → a ≡ b → r ≡ []
nothing-after a b r e f = append_cancel_left b r [] (sym e ∙ f ∙ sym (append-nil b))

pub first-item : {A : Type 0} (x y : A) (xs ys : List A) → x ∷ xs ≡ y ∷ ys → x ≡ y
first-item x y xs ys e = cc

pub on-line : (a b : List ℕ) → a ≡ b → a ++ 10 ∷ [] ≡ b ++ 10 ∷ []
on-line a b e = ap (λ l. l ++ 10 ∷ []) e

pub pointwise-self : (xs : List ℕ) → pointwise eqb xs xs ≡ true
pointwise-self [] = refl
pointwise-self (x ∷ xs) = rw (eq-eqb x x refl, pointwise-self xs) refl

pub pointwise-differ : (xs ys : List ℕ) → false ≡ pointwise eqb xs ys → xs ≡ ys → ⊥
pointwise-differ xs ys h e = false≢true (h ∙ ap (λ l. pointwise eqb l ys) e ∙ pointwise-self ys)

pub flat-same : (f g : ℕ → List ℕ) → ((x : ℕ) → f x ≡ g x) → (xs : List ℕ) → flat_map f xs ≡ flat_map g xs
flat-same f g h [] = refl
flat-same f g h (x ∷ xs) = λ i. h x i ++ flat-same f g h xs i

pub same-last : {X : Type 0} (xs ys : List X) (x y : X) → xs ++ x ∷ [] ≡ ys ++ y ∷ [] → (xs ≡ ys) × (x ≡ y)
same-last [] [] x y e = (refl, cc)
same-last [] (b ∷ []) x y e = absurd (omega (arith, ap length e))
same-last [] (b ∷ c ∷ ys) x y e = absurd (omega (arith, ap length e))
same-last (a ∷ []) [] x y e = absurd (omega (arith, ap length e))
same-last (a ∷ c ∷ xs) [] x y e = absurd (omega (arith, ap length e))
same-last (a ∷ xs) (b ∷ ys) x y e =
    let first : a ≡ b = cc in let more : xs ++ x ∷ [] ≡ ys ++ y ∷ [] = cc in
    let r = same-last xs ys x y more in (λ i. first i ∷ r.0 i, r.1)

pub length-last : {A : Type 0} (xs : List A) (x : A) → length (xs ++ x ∷ []) ≡ suc (length xs)
length-last xs x = omega (arith, length-append xs (x ∷ []))

pub no-items : {X : Type 0} (xs : List X) → length xs ≡ 0 → xs ≡ []
no-items [] h = refl
no-items (x ∷ xs) h = absurd (omega arith)

pub cons-parts : {A : Type 0} (x y : A) (xs ys : List A) → x ∷ xs ≡ y ∷ ys → (x ≡ y) × (xs ≡ ys)
cons-parts x y xs ys e = (cc, cc)

pub joins : {A : Type 0} {a b c d z : List A} → z ≡ a ++ b → a ≡ c → b ≡ d → z ≡ c ++ d
joins {b = b} {c = c} e h k = e ∙ ap (λ q. q ++ b) h ∙ ap (λ q. c ++ q) k

pub flat-last : {X A : Type 0} (f : X → List A) (xs : List X) (x : X) → flat_map f (xs ++ x ∷ []) ≡ flat_map f xs ++ f x
flat-last f xs x = flat_map-append f xs (x ∷ []) ∙ ap (λ ys. flat_map f xs ++ ys) (flat_map-cons f x [] ∙ append-nil (f x))

pub map-append : {A B : Type 0} (h : A → B) (xs ys : List A) → map h (xs ++ ys) ≡ map h xs ++ map h ys
map-append h [] ys = refl
map-append h (x ∷ xs) ys = ap (λ zs. h x ∷ zs) (map-append h xs ys)

pub map-last : {A B : Type 0} (f : A → B) (xs : List A) (x : A) → map f (xs ++ x ∷ []) ≡ map f xs ++ f x ∷ []
map-last f [] x = refl
map-last f (y ∷ xs) x = ap (λ zs. f y ∷ zs) (map-last f xs x)

pub map-length : {A B : Type 0} (f : A → B) (xs : List A) → length (map f xs) ≡ length xs
map-length f [] = refl
map-length f (x ∷ xs) = ap suc (map-length f xs)

pub map-drop : {X Y : Type 0} (f : X → Y) (k : ℕ) (xs : List X) → map f (drop k xs) ≡ drop k (map f xs)
map-drop f zero xs = refl
map-drop f (suc k) [] = refl
map-drop f (suc k) (x ∷ xs) = map-drop f k xs

pub map-take : {X Y : Type 0} (f : X → Y) (k : ℕ) (xs : List X) → map f (take k xs) ≡ take k (map f xs)
map-take f zero xs = refl
map-take f (suc k) [] = refl
map-take f (suc k) (x ∷ xs) = ap (λ ys. f x ∷ ys) (map-take f k xs)

pub map-composed : {A B C : Type 0} (f : A → B) (g : B → C) (xs : List A) → map (λ x. g (f x)) xs ≡ map g (map f xs)
map-composed f g [] = refl
map-composed f g (x ∷ xs) = ap (λ l. g (f x) ∷ l) (map-composed f g xs)

pub map-twice : {X Y Z : Type 0} (f : X → Y) (g : Y → Z) (xs : List X) → map g (map f xs) ≡ map (λ x. g (f x)) xs
map-twice f g [] = refl
map-twice f g (x ∷ xs) = ap (λ l. g (f x) ∷ l) (map-twice f g xs)
