-- How lists of conditions are judged one after the other, and the places of tuples.
use Rattle.std.proofs.Common.{◌≡◌, ℕ, zero, suc, ◌+◌, ◌-◌, ◌*◌, ◌<◌, List, [], ◌∷◌, ◌++◌, map, Bool, true, false, Some, None, refl, sym, ◌∙◌, ap, append-nil, arith, if◌then◌else◌}
use Rattle.std.specs.List.{flat_map}
use Rattle.std.proofs.lemmas.Grind.{flat_map-append}
use Rattle.std.proofs.lemmas.List.{map-append}
use Rattle.plain_laws.proofs.Lists.{flat-same}
use Rattle.plain_laws.proofs.Options.{some-none}
use Rattle.calculus.specs.Structures.{numbers_from, place_from, tuples}
use Rattle.calculus.specs.StructureText.{Condition, first_broken}

-- ---- one list after the other

pub unbroken-on : (a b : List Condition) → first_broken a ≡ None → first_broken (a ++ b) ≡ first_broken b
unbroken-on [] b h = refl
unbroken-on (c ∷ a) b h = by c.holds h (unbroken-on a b)
  where
    by : (t : Bool) → (if t then first_broken a else Some c) ≡ None → (first_broken a ≡ None → first_broken (a ++ b) ≡ first_broken b) → (if t then first_broken (a ++ b) else Some c) ≡ first_broken b
    by true e rest = rest e
    by false e rest = absurd (some-none c e)

pub broken-first : (a b : List Condition) (d : Condition) → first_broken a ≡ Some d → first_broken (a ++ b) ≡ Some d
broken-first [] b d h = absurd (some-none d (sym h))
broken-first (c ∷ a) b d h = by c.holds h (broken-first a b d)
  where
    by : (t : Bool) → (if t then first_broken a else Some c) ≡ Some d → (first_broken a ≡ Some d → first_broken (a ++ b) ≡ Some d) → (if t then first_broken (a ++ b) else Some c) ≡ Some d
    by true e rest = rest e
    by false e rest = e

-- ---- from world to world

pub world-next : (i n : ℕ) → i < n → numbers_from i (n - i) ≡ i ∷ numbers_from (i + 1) (n - (i + 1))
world-next i n h =
    (let e : n - i ≡ suc (n - (i + 1)) = omega arith in ap (numbers_from i) e)
    ∙ (let s : suc i ≡ i + 1 = omega arith in ap (λ k. i ∷ numbers_from k (n - (i + 1))) s)

-- ---- the places of tuples

-- the places of the tuples of these elements, from a place on
abbrev pub places_from : ℕ → List ℕ → ℕ → ℕ → List ℕ
places_from e xs b zero = b ∷ []
places_from e xs b (suc n) = flat_map (λ x. places_from e xs (b * e + x) n) xs

-- a place for each element behind a place
abbrev pub more_places : ℕ → List ℕ → List ℕ → List ℕ
more_places e xs ps = flat_map (λ p. map (λ x. p * e + x) xs) ps

flat-flat : (f g : ℕ → List ℕ) (xs : List ℕ) → flat_map g (flat_map f xs) ≡ flat_map (λ x. flat_map g (f x)) xs
flat-flat f g [] = refl
flat-flat f g (x ∷ xs) = flat_map-append g (f x) (flat_map f xs) ∙ ap (λ l. flat_map g (f x) ++ l) (flat-flat f g xs)

singles : (f : ℕ → ℕ) (xs : List ℕ) → flat_map (λ x. f x ∷ []) xs ≡ map f xs
singles f [] = refl
singles f (x ∷ xs) = ap (λ l. f x ∷ l) (singles f xs)

-- an element more at the end of each tuple
pub places-more : (e : ℕ) (xs : List ℕ) (b n : ℕ) → places_from e xs b (suc n) ≡ more_places e xs (places_from e xs b n)
places-more e xs b zero = singles (λ x. b * e + x) xs ∙ sym (append-nil (map (λ x. b * e + x) xs))
places-more e xs b (suc n) =
    flat-same (λ x. places_from e xs (b * e + x) (suc n)) (λ x. more_places e xs (places_from e xs (b * e + x) n)) (λ x. places-more e xs (b * e + x) n) xs
    ∙ sym (flat-flat (λ x. places_from e xs (b * e + x) n) (λ p. map (λ x. p * e + x) xs) xs)

map-map : (f : List ℕ → ℕ) (g : List ℕ → List ℕ) (ts : List (List ℕ)) → map f (map g ts) ≡ map (λ t. f (g t)) ts
map-map f g [] = refl
map-map f g (t ∷ ts) = ap (λ l. f (g t) ∷ l) (map-map f g ts)

map-flat : (f : List ℕ → ℕ) (g : ℕ → List (List ℕ)) (xs : List ℕ) → map f (flat_map g xs) ≡ flat_map (λ x. map f (g x)) xs
map-flat f g [] = refl
map-flat f g (x ∷ xs) = map-append f (g x) (flat_map g xs) ∙ ap (λ l. map f (g x) ++ l) (map-flat f g xs)

-- they are the places of the tuples in their order
pub tuple-places : (e : ℕ) (xs : List ℕ) (b n : ℕ) → map (place_from e b) (tuples n xs) ≡ places_from e xs b n
tuple-places e xs b zero = refl
tuple-places e xs b (suc n) =
    map-flat (place_from e b) (λ x. map (λ t. x ∷ t) (tuples n xs)) xs
    ∙ flat-same (λ x. map (place_from e b) (map (λ t. x ∷ t) (tuples n xs))) (λ x. places_from e xs (b * e + x) n) (λ x. map-map (place_from e b) (λ t. x ∷ t) (tuples n xs) ∙ tuple-places e xs (b * e + x) n) xs
