-- Whether a function keeps a domain, from tuple to tuple.
use Rattle.std.proofs.Common.{◌≡◌, ℕ, zero, suc, ◌+◌, ◌<◌, ◌≤◌, List, [], ◌∷◌, length, map, drop, get_or, min, Bool, true, false, refl, sym, ◌∙◌, ap, arith, slice_get}
use Rattle.std.specs.List.{list_all}
use Rattle.std.specs.Option.{option_map_or}
use Rattle.std.proofs.lemmas.List.{length-map}
use Rattle.calculus.specs.Equality.{contains}
use Rattle.calculus.specs.Structures.{Structure, domain_of, function_value, place_of, tuples, value_in}
use Rattle.finite_model.specs.Conditions.{tuple_places}
use Rattle.finite_model.proofs.TupleLaws.{tuples-at, value-at}
use Rattle.finite_model.proofs.WorldChecks.{every-on, every-false, every-end}

-- the places of the tuples of the world's domain
pub record ArePlaces (S : Structure) (w n E : ℕ) (domain places : List ℕ) : Type 0 where
  pub domain_is : domain ≡ domain_of S w
  pub elements : E ≡ S.elements
  pub places_are : places ≡ tuple_places E domain n

listed : (S : Structure) (w n E : ℕ) (domain places : List ℕ) → ArePlaces S w n E domain places → places ≡ map (λ xs. min (place_of S xs) 18446744073709551615) (tuples n (domain_of S w))
listed S w n E domain places h = h.places_are ∙ (λ j. tuple_places (h.elements j) (h.domain_is j) n) ∙ tuples-at S (domain_of S w) n

as-many : (S : Structure) (w n E : ℕ) (domain places : List ℕ) → ArePlaces S w n E domain places → length places ≡ length (tuples n (domain_of S w))
as-many S w n E domain places h = ap length (listed S w n E domain places h) ∙ length-map (tuples n (domain_of S w)) (λ xs. min (place_of S xs) 18446744073709551615)

-- the flag of the value at a place tells of its tuple
value-kept : (S : Structure) (f w n E v i place : ℕ) (domain places : List ℕ) (flag : Bool) → ArePlaces S w n E domain places → i < length places → place ≡ get_or places i 0
    → ((k : ℕ) → place ≡ min k 18446744073709551615 → v ≡ option_map_or (value_in k) (slice_get S.meanings f) 0) → flag ≡ contains domain v → flag ≡ contains (domain_of S w) (function_value S f (get_or (tuples n (domain_of S w)) i []))
value-kept S f w n E v i place domain places flag h lt at value flagged =
    let e = value-at S f v i place places (tuples n (domain_of S w)) (listed S w n E domain places h) lt at value in
    flagged ∙ (λ j. contains (h.domain_is j) (e j))

any-default : (xs : List Bool) (i : ℕ) (a b : Bool) → i < length xs → get_or xs i a ≡ get_or xs i b
any-default [] i a b h = absurd (omega arith)
any-default (x ∷ xs) zero a b h = refl
any-default (x ∷ xs) (suc i) a b h = any-default xs i a b (omega arith)

pub flag-told : (flags : List Bool) (domain : List ℕ) (v : ℕ) (b : Bool) → v < length flags → b ≡ get_or flags v b → get_or flags v false ≡ contains domain v → b ≡ contains domain v
flag-told flags domain v b h e f = e ∙ any-default flags v b false h ∙ f

pub kept-on : (S : Structure) (f w n E v i place : ℕ) (domain places : List ℕ) (flag : Bool) → ArePlaces S w n E domain places → i < length places → place ≡ get_or places i 0
    → ((k : ℕ) → place ≡ min k 18446744073709551615 → v ≡ option_map_or (value_in k) (slice_get S.meanings f) 0) → flag ≡ contains domain v → flag ≡ true
    → list_all (λ xs. contains (domain_of S w) (function_value S f xs)) (drop i (tuples n (domain_of S w))) ≡ list_all (λ xs. contains (domain_of S w) (function_value S f xs)) (drop (i + 1) (tuples n (domain_of S w)))
kept-on S f w n E v i place domain places flag h lt at value flagged kept =
    let many = as-many S w n E domain places h in
    every-on (λ xs. contains (domain_of S w) (function_value S f xs)) (tuples n (domain_of S w)) i [] (omega (arith, many, lt)) (sym (value-kept S f w n E v i place domain places flag h lt at value flagged) ∙ kept)

pub kept-false : (S : Structure) (f w n E v i place : ℕ) (domain places : List ℕ) (flag : Bool) → ArePlaces S w n E domain places → i < length places → place ≡ get_or places i 0
    → ((k : ℕ) → place ≡ min k 18446744073709551615 → v ≡ option_map_or (value_in k) (slice_get S.meanings f) 0) → flag ≡ contains domain v → flag ≡ false
    → list_all (λ xs. contains (domain_of S w) (function_value S f xs)) (drop i (tuples n (domain_of S w))) ≡ false
kept-false S f w n E v i place domain places flag h lt at value flagged lost =
    let many = as-many S w n E domain places h in
    every-false (λ xs. contains (domain_of S w) (function_value S f xs)) (tuples n (domain_of S w)) i [] (omega (arith, many, lt)) (sym (value-kept S f w n E v i place domain places flag h lt at value flagged) ∙ lost)

pub kept-end : (S : Structure) (f w n E i : ℕ) (domain places : List ℕ) → ArePlaces S w n E domain places → length places ≤ i → list_all (λ xs. contains (domain_of S w) (function_value S f xs)) (drop i (tuples n (domain_of S w))) ≡ true
kept-end S f w n E i domain places h le =
    let many = as-many S w n E domain places h in
    every-end (λ xs. contains (domain_of S w) (function_value S f xs)) (tuples n (domain_of S w)) i (omega (arith, many, le))
