-- Laws of the items at places of a list, and of its parts before and behind a place.
use Rattle.std.proofs.Common.{List, None, Option, Some, [], add-one, ap, arith, drop, drop-cons, eq-eqb, false, get_or, length, map, option_map, refl, slice_get, suc, sym, take, zero, ℕ, ◌++◌, ◌+◌, ◌<◌, ◌==◌, ◌∙◌, ◌∷◌, ◌≡◌, ◌≤◌}
use Rattle.std.proofs.lemmas.Bool.{true≢false}
use Rattle.std.proofs.lemmas.List.{take_all}
use Rattle.std.proofs.lemmas.Option.{slice_get-map}

pub differ-at : (xs ys : List ℕ) (k : ℕ) → xs ≡ ys → (get_or xs k 0 == get_or ys k 0) ≡ false → ⊥
differ-at xs ys k e h = true≢false (sym (eq-eqb (get_or xs k 0) (get_or xs k 0) refl) ∙ ap (λ l. get_or xs k 0 == get_or l k 0) e ∙ h)

pub get-front : {A : Type 0} (xs ys : List A) (i : ℕ) (x : A) → slice_get xs i ≡ Some x → slice_get (xs ++ ys) i ≡ Some x
get-front [] ys i x e = absurd (cc)
get-front (y ∷ xs) ys zero x e = e
get-front (y ∷ xs) ys (suc i) x e = get-front xs ys i x e

pub get-back : {A : Type 0} (xs ys : List A) (i : ℕ) (y : A) → slice_get ys i ≡ Some y → slice_get (xs ++ ys) (length xs + i) ≡ Some y
get-back [] ys i y e = ap (slice_get ys) (let q : 0 + i ≡ i = omega arith in q) ∙ e
get-back (x ∷ xs) ys i y e = ap (slice_get (x ∷ (xs ++ ys))) (let q : suc (length xs) + i ≡ suc (length xs + i) = omega arith in q) ∙ get-back xs ys i y e

pub item-after : {A : Type 0} (xs ys : List A) → slice_get (xs ++ ys) (length xs) ≡ slice_get ys 0
item-after [] ys = refl
item-after (x ∷ xs) ys = item-after xs ys

pub get-end : {A : Type 0} (xs : List A) (y : A) → slice_get (xs ++ y ∷ []) (length xs) ≡ Some y
get-end [] y = refl
get-end (x ∷ xs) y = get-end xs y

pub items-next : {A : Type 0} (xs : List A) (i : ℕ) (x d : A) → i < length xs → x ≡ get_or xs i d → drop i xs ≡ x ∷ drop (i + 1) xs
items-next xs i x d h e = (let f : drop i xs ≡ get_or xs i d ∷ drop (i + 1) xs = rw add-one (drop-cons xs i d h) in f) ∙ ap (λ y. y ∷ drop (i + 1) xs) (sym e)

pub drop-there : {A : Type 0} (xs : List A) (i : ℕ) (x : A) → slice_get xs i ≡ Some x → drop i xs ≡ x ∷ drop (suc i) xs
drop-there [] i x e = let q : None ≡ Some x = e in cc q
drop-there (y ∷ xs) zero x e = let q : y ≡ x = cc e in ap (λ z. z ∷ xs) q
drop-there (y ∷ xs) (suc i) x e = drop-there xs i x e

pub get-within : {A : Type 0} (xs : List A) (i : ℕ) (x : A) → slice_get xs i ≡ Some x → i < length xs
get-within [] i x e = absurd (cc)
get-within (y ∷ xs) zero x e = omega arith
get-within (y ∷ xs) (suc i) x e = let h = get-within xs i x e in omega arith

pub drop-end : {X : Type 0} (xs : List X) (n : ℕ) → length xs ≤ n → drop n xs ≡ []
drop-end [] zero h = refl
drop-end [] (suc n) h = refl
drop-end (x ∷ xs) zero h = absurd (omega arith)
drop-end (x ∷ xs) (suc n) h = drop-end xs n (omega arith)

pub get-there : {A : Type 0} (xs : List A) (i : ℕ) → i < length xs → (x : A) × (slice_get xs i ≡ Some x)
get-there [] i h = absurd (omega arith)
get-there (x ∷ xs) zero h = (x, refl)
get-there (x ∷ xs) (suc i) h = get-there xs i (omega arith)

pub take-all : {A : Type 0} (xs : List A) → take (length xs) xs ≡ xs
take-all [] = refl
take-all (x ∷ xs) = ap (λ ys. x ∷ ys) (take-all xs)

pub take-longer : {A : Type 0} (k : ℕ) (xs ys : List A) → k ≤ length xs → take k (xs ++ ys) ≡ take k xs
take-longer zero xs ys h = refl
take-longer (suc k) [] ys h = absurd (omega arith)
take-longer (suc k) (x ∷ xs) ys h = ap (λ zs. x ∷ zs) (take-longer k xs ys (omega arith))

pub take-whole : {A : Type 0} (n : ℕ) (xs : List A) → n ≡ length xs → take n xs ≡ xs
take-whole n xs e = take_all n xs (omega (arith, e))

pub take-length : {A : Type 0} (n : ℕ) (xs : List A) → n ≤ length xs → length (take n xs) ≡ n
take-length zero xs l = refl
take-length (suc n) [] l = absurd (omega (arith, l))
take-length (suc n) (x ∷ xs) l = ap suc (take-length n xs (omega (arith, l)))

pub take-less : {A : Type 0} (a b : ℕ) (xs : List A) → a ≤ b → take a (take b xs) ≡ take a xs
take-less zero b xs h = refl
take-less (suc a) zero xs h = absurd (omega arith)
take-less (suc a) (suc b) [] h = refl
take-less (suc a) (suc b) (x ∷ xs) h = ap (λ ys. x ∷ ys) (take-less a b xs (omega arith))

pub map-there : {A B : Type 0} (f : A → B) (xs : List A) (k : ℕ) (x : A) → slice_get xs k ≡ Some x → slice_get (map f xs) k ≡ Some (f x)
map-there f xs k x e = slice_get-map f xs k ∙ ap (option_map f) e

pub found-in-map : {A B : Type 0} (f : A → B) (xs : List A) (k : ℕ) (y : B) → slice_get (map f xs) k ≡ Some y → (x : A) × (slice_get xs k ≡ Some x) × (y ≡ f x)
found-in-map f xs k y e = by (slice_get xs k) refl (sym (slice_get-map f xs k) ∙ e)
  where
    by : (o : Option _) → slice_get xs k ≡ o → option_map f o ≡ Some y → (x : _) × (slice_get xs k ≡ Some x) × (y ≡ f x)
    by None g h = cc h
    by (Some x) g h = let q : f x ≡ y = cc h in (x, g, sym q)
