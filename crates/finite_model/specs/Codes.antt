-- The codes by which a check tells structures apart.
use Rattle.std.specs.Prelude.{◌≡◌, ◌⊎◌, ℕ, List, Bool}
use Rattle.std.proofs.Common.{inl, inr, refl}
use Rattle.std.specs.Coded.{Coded, code_by, coded×, coded⊎, coded_ℕ, coded_bool, coded_list}
use Rattle.calculus.specs.Structures.{Meaning, value_table, truth_tables, Structure}

abbrev pub meaning_parts : Meaning → List ℕ ⊎ List (List Bool)
meaning_parts (value_table values) = inl values
meaning_parts (truth_tables rows) = inr rows

abbrev pub meaning_of : List ℕ ⊎ List (List Bool) → Meaning
meaning_of (inl values) = value_table values
meaning_of (inr rows) = truth_tables rows

pub meaning-again : (m : Meaning) → meaning_of (meaning_parts m) ≡ m
meaning-again (value_table values) = refl
meaning-again (truth_tables rows) = refl

abbrev pub meaning_code : Coded Meaning
meaning_code = code_by (List ℕ ⊎ List (List Bool)) (coded⊎ (coded_list coded_ℕ) (coded_list (coded_list coded_bool))) meaning_parts meaning_of meaning-again

abbrev pub structure_code : Coded Structure
structure_code =
    code_by (ℕ × (List (List ℕ) × (List (List ℕ) × List Meaning)))
    (coded× coded_ℕ (coded× (coded_list (coded_list coded_ℕ)) (coded× (coded_list (coded_list coded_ℕ)) (coded_list meaning_code))))
    (λ (s : Structure). (s.elements, (s.successors, (s.domains, s.meanings))))
    (λ p. record { elements = p.0; successors = p.1.0; domains = p.1.1.0; meanings = p.1.1.1 })
    (λ _. refl)
