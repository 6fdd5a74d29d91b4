-- The places of tuples as numbers go, which elements are in a domain, and functions at a world.
use Rattle.std.proofs.Common.{◌≡◌, ℕ, zero, suc, ◌+◌, ◌-◌, ◌*◌, ◌<◌, ◌≤◌, List, [], ◌∷◌, ◌++◌, length, map, take, set, get_or, replicate, min, Bool, eqb, true, false, ◌||◌, ◌==◌, refl, sym, ◌∙◌, ap, append_assoc, append-nil, arith, inl, inr, slice_get}
use Rattle.std.specs.List.{list_all}
use Rattle.std.specs.Option.{option_map_or}
use Rattle.std.specs.Cmp.Lexicographic.{pointwise}
use Rattle.std.proofs.Math.Nat.{min-eq_left, min-le_right}
use Rattle.std.proofs.lemmas.Bool.{cases_eq, eq-eqb, eqb-true, and_parts, false≢true}
use Rattle.std.proofs.Math.Seq.{take-length}
use Rattle.std.proofs.lemmas.List.{take_more, get_or-replicate, length-replicate, get_or-map, get_or-set_same, get_or-set_other, length-map, map-append}
use Rattle.std.proofs.lemmas.Simd.{map-map}
use Rattle.std.proofs.lemmas.List.Folds.{list_any_more}
use Rattle.std.proofs.lemmas.Grind.{flat_map-append}
use Rattle.plain_laws.proofs.Numbers.{other-number}
use Rattle.plain_laws.proofs.Booleans.{or_false, or-true}
use Rattle.calculus.specs.Equality.{contains}
use Rattle.calculus.specs.Structures.{Structure, domain_of, function_value, place_from, place_of, tuples, value_in}
use Rattle.finite_model.specs.Conditions.{keeps_domain_at, longer_places, tuple_places}
use Rattle.finite_model.proofs.ConditionLaws.{more_places, places_from, places-more, tuple-places}
use Rattle.finite_model.proofs.ValueLaws.{far-place}

abbrev cap : ℕ → ℕ
cap k = min k 18446744073709551615

-- ---- one element more

cap-cap : (k : ℕ) → cap (cap k) ≡ cap k
cap-cap k = min-eq_left (min-le_right k 18446744073709551615)

-- a place that is capped leads to the same places
cap-place : (e p x : ℕ) → min (cap p * e + x) 18446744073709551615 ≡ cap (p * e + x)
cap-place e p x = sym (far-place 18446744073709551615 e (cap p) x) ∙ ap (λ k. min (cap (k * e) + x) 18446744073709551615) (cap-cap p) ∙ far-place 18446744073709551615 e p x

same-maps : (f g : ℕ → ℕ) → ((x : ℕ) → f x ≡ g x) → (xs : List ℕ) → map f xs ≡ map g xs
same-maps f g h [] = refl
same-maps f g h (x ∷ xs) = λ i. h x i ∷ same-maps f g h xs i

longer-cap : (e : ℕ) (xs ps : List ℕ) → longer_places e xs (map cap ps) ≡ map cap (more_places e xs ps)
longer-cap e xs [] = refl
longer-cap e xs (p ∷ ps) =
    (λ i. (same-maps (λ x. min (cap p * e + x) 18446744073709551615) (λ x. cap (p * e + x)) (cap-place e p) xs ∙ sym (map-map cap (λ x. p * e + x) xs)) i ++ longer-cap e xs ps i)
    ∙ sym (map-append cap (map (λ x. p * e + x) xs) (more_places e xs ps))

places-cap : (e : ℕ) (xs : List ℕ) (n : ℕ) → tuple_places e xs n ≡ map cap (places_from e xs 0 n)
places-cap e xs zero = refl
places-cap e xs (suc n) = ap (longer_places e xs) (places-cap e xs n) ∙ longer-cap e xs (places_from e xs 0 n) ∙ ap (map cap) (sym (places-more e xs 0 n))

-- the places are those of the tuples in their order
pub tuples-at : (S : Structure) (xs : List ℕ) (n : ℕ) → tuple_places S.elements xs n ≡ map (λ ts. min (place_of S ts) 18446744073709551615) (tuples n xs)
tuples-at S xs n =
    places-cap S.elements xs n
    ∙ ap (map cap) (sym (tuple-places S.elements xs 0 n))
    ∙ map-map cap (place_from S.elements 0) (tuples n xs)

-- where one more element changes nothing, more elements change nothing
pub places-stay : (e : ℕ) (xs ps : List ℕ) (i k n : ℕ) → longer_places e xs ps ≡ ps → ps ≡ tuple_places e xs i → n ≡ i + k → ps ≡ tuple_places e xs n
places-stay e xs ps i zero n h e0 en = e0 ∙ (let s : i ≡ n = omega arith in ap (tuple_places e xs) s)
places-stay e xs ps i (suc k) n h e0 en = places-stay e xs ps (suc i) k n h (sym h ∙ ap (longer_places e xs) e0) (omega arith)

pub places-next : (e : ℕ) (xs ps qs more : List ℕ) (i : ℕ) → more ≡ longer_places e xs qs → qs ≡ ps → ps ≡ tuple_places e xs i → more ≡ tuple_places e xs (i + 1)
places-next e xs ps qs more i h same before = h ∙ ap (longer_places e xs) (same ∙ before) ∙ (let s : suc i ≡ i + 1 = omega arith in ap (tuple_places e xs) s)

pub places-done : (e : ℕ) (xs ps : List ℕ) (i n : ℕ) → i ≡ n → ps ≡ tuple_places e xs i → ps ≡ tuple_places e xs n
places-done e xs ps i n h before = before ∙ ap (tuple_places e xs) h

same-list : (xs ys : List ℕ) → pointwise eqb xs ys ≡ true → xs ≡ ys
same-list [] [] e = refl
same-list [] (y ∷ ys) e = absurd (false≢true e)
same-list (x ∷ xs) [] e = absurd (false≢true e)
same-list (x ∷ xs) (y ∷ ys) e = let p = and_parts (eqb x y) (pointwise eqb xs ys) e in λ j. eqb-true x y p.0 j ∷ same-list xs ys p.1 j

-- one element more has changed nothing
pub places-same : (e : ℕ) (xs ps qs more a b : List ℕ) (i n : ℕ) → more ≡ longer_places e xs qs → qs ≡ ps → ps ≡ tuple_places e xs i → i < n → a ≡ more → b ≡ ps → pointwise eqb a b ≡ true → more ≡ tuple_places e xs n
places-same e xs ps qs more a b i n h same before lt ea eb test =
    let e0 : more ≡ ps = sym ea ∙ same-list a b test ∙ eb in
    e0 ∙ places-stay e xs ps i (n - i) n (ap (longer_places e xs) (sym same) ∙ sym h ∙ e0) before (omega arith)

pub pushed-places : (f : ℕ → ℕ) (xs old places new : List ℕ) (i x : ℕ) → i < length xs → new ≡ places ++ x ∷ [] → x ≡ f (get_or xs i 0) → places ≡ old ++ map f (take i xs) → new ≡ old ++ map f (take (i + 1) xs)
pushed-places f xs old places new i x h added value before =
    added
    ∙ (λ j. before j ++ value j ∷ [])
    ∙ append_assoc old (map f (take i xs)) (f (get_or xs i 0) ∷ [])
    ∙ ap (λ l. old ++ l) (sym (map-append f (take i xs) (get_or xs i 0 ∷ [])) ∙ ap (map f) (sym (take_more xs i 0 h)))

pub places-pushed_all : (f : ℕ → ℕ) (xs old places : List ℕ) (i : ℕ) → i ≡ length xs → places ≡ old ++ map f (take i xs) → places ≡ old ++ map f xs
places-pushed_all f xs old places i h before = before ∙ ap (λ k. old ++ map f (take k xs)) h ∙ ap (λ l. old ++ map f l) (take-length xs)

pub place-itself : (p : ℕ) → p ≤ 18446744073709551615 → p ≡ min p 18446744073709551615
place-itself p h = sym (min-eq_left h)

pub longer-all : (e : ℕ) (xs places more : List ℕ) (i : ℕ) → i ≡ length places → more ≡ longer_places e xs (take i places) → more ≡ longer_places e xs places
longer-all e xs places more i h before = before ∙ ap (λ k. longer_places e xs (take k places)) h ∙ ap (longer_places e xs) (take-length places)

pub longer-on : (e : ℕ) (xs places more new : List ℕ) (i : ℕ) → i < length places → new ≡ more ++ map (λ x. min (get_or places i 0 * e + x) 18446744073709551615) xs → more ≡ longer_places e xs (take i places) → new ≡ longer_places e xs (take (i + 1) places)
longer-on e xs places more new i h added before =
    added
    ∙ ap (λ l. l ++ map (λ x. min (get_or places i 0 * e + x) 18446744073709551615) xs) before
    ∙ ap (λ l. longer_places e xs (take i places) ++ l) (sym (append-nil (map (λ x. min (get_or places i 0 * e + x) 18446744073709551615) xs)))
    ∙ sym (flat_map-append (λ p. map (λ x. min (p * e + x) 18446744073709551615) xs) (take i places) (get_or places i 0 ∷ []))
    ∙ ap (longer_places e xs) (sym (take_more places i 0 h))

-- ---- flags

pub flag-on : (flags : List Bool) (domain : List ℕ) (i x : ℕ) → i < length domain → get_or domain i 0 < length flags → get_or flags x false ≡ contains (take i domain) x → get_or (set flags (get_or domain i 0) true) x false ≡ contains (take (i + 1) domain) x
flag-on flags domain i x h within before = elim (cases_eq (get_or domain i 0) x) [
  | inl e ↦ ap (λ k. get_or (set flags (get_or domain i 0) true) k false) (sym e) ∙ get_or-set_same flags (get_or domain i 0) true false within ∙ sym (list_any_more (λ y. y == x) domain i 0 h ∙ ap (λ b. contains (take i domain) x || b) (eq-eqb (get_or domain i 0) x e) ∙ or-true (contains (take i domain) x))
  | inr n ↦ get_or-set_other flags (get_or domain i 0) x true false (λ e. n (sym e)) ∙ before ∙ sym (list_any_more (λ y. y == x) domain i 0 h ∙ ap (λ b. contains (take i domain) x || b) (other-number (get_or domain i 0) x n) ∙ or_false (contains (take i domain) x))
]

-- no flag is set at the beginning
pub flags-begun : (flags : List Bool) (domain : List ℕ) (n x : ℕ) → flags ≡ replicate n false → x < n → get_or flags x false ≡ contains (take 0 domain) x
flags-begun flags domain n x e h = ap (λ l. get_or l x false) e ∙ get_or-replicate n x false false h

pub flags-count : (flags : List Bool) (n : ℕ) → flags ≡ replicate n false → length flags ≡ n
flags-count flags n e = ap length e ∙ length-replicate n false

pub flags-ended : (flags : List Bool) (domain : List ℕ) (i x : ℕ) → i ≡ length domain → get_or flags x false ≡ contains (take i domain) x → get_or flags x false ≡ contains domain x
flags-ended flags domain i x h before = before ∙ ap (λ k. contains (take k domain) x) h ∙ ap (λ l. contains l x) (take-length domain)

-- ---- functions

-- the value at a place is that of the tuple
pub value-at : (S : Structure) (f v i place : ℕ) (places : List ℕ) (ts : List (List ℕ)) → places ≡ map (λ xs. min (place_of S xs) 18446744073709551615) ts → i < length places → place ≡ get_or places i 0
    → ((k : ℕ) → place ≡ min k 18446744073709551615 → v ≡ option_map_or (value_in k) (slice_get S.meanings f) 0) → v ≡ function_value S f (get_or ts i [])
value-at S f v i place places ts e h at value =
    let count : length places ≡ length ts = ap length e ∙ length-map ts (λ xs. min (place_of S xs) 18446744073709551615) in
    value (place_of S (get_or ts i [])) (at ∙ ap (λ l. get_or l i 0) e ∙ get_or-map (λ xs. min (place_of S xs) 18446744073709551615) ts i [] 0 (omega arith))

-- the same domain is kept as well
pub same-kept : (S : Structure) (f n u w : ℕ) → domain_of S u ≡ domain_of S w → keeps_domain_at S f n u ≡ keeps_domain_at S f n w
same-kept S f n u w e = ap (λ d. list_all (λ xs. contains d (function_value S f xs)) (tuples n d)) e
