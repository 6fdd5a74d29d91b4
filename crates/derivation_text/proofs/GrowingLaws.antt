-- Loops that enter the names and steps of a derivation one after the other.
use Rattle.std.proofs.Common.{◌≡◌, ℕ, ◌+◌, ◌<◌, ◌≤◌, List, [], ◌∷◌, ◌++◌, length, get_or, map, take, refl, sym, ◌∙◌, ap}
use Rattle.std.proofs.lemmas.List.{map-append, take_all, take_more}
use Rattle.calculus.specs.Derivations.{EigenName, SpareName, Step}
use Rattle.calculus.specs.Versions.{NumberedDerivation, numbering}
use Rattle.derivation_text.specs.Entering.{derivation_with, put_eigen, put_spare, put_step}
use Rattle.derivation_text.proofs.NumberingLaws.{put-eigen, put-spare, put-step}

pub map-more : {X Y : Type 0} (f : X → Y) (xs : List X) (i : ℕ) (x d : X) → i < length xs → x ≡ get_or xs i d → map f (take i xs) ++ f x ∷ [] ≡ map f (take (i + 1) xs)
map-more f xs i x d lt at = ap (λ y. map f (take i xs) ++ f y ∷ []) at ∙ sym (map-append f (take i xs) (get_or xs i d ∷ [])) ∙ ap (map f) (sym (take_more xs i d lt))

pub map-whole : {X Y : Type 0} (f : X → Y) (xs : List X) (i : ℕ) → length xs ≤ i → map f (take i xs) ≡ map f xs
map-whole f xs i h = ap (map f) (take_all i xs h)

pub eigens-grown : {X : Type 0} (f : X → EigenName) (xs : List X) (i : ℕ) (x d : X) (limit : ℕ) (z y : NumberedDerivation) → i < length xs → x ≡ get_or xs i d → z ≡ numbering (derivation_with limit (map f (take i xs)) [] []) → y ≡ put_eigen z (f x)
    → y ≡ numbering (derivation_with limit (map f (take (i + 1) xs)) [] [])
eigens-grown f xs i x d limit z y lt at e g =
    g ∙ ap (λ k. put_eigen k (f x)) e ∙ put-eigen (derivation_with limit (map f (take i xs)) [] []) (f x) refl refl ∙ ap (λ l. numbering (derivation_with limit l [] [])) (map-more f xs i x d lt at)

pub spares-grown : {X : Type 0} (f : X → SpareName) (xs : List X) (i : ℕ) (x d : X) (limit : ℕ) (es : List EigenName) (z y : NumberedDerivation) → i < length xs → x ≡ get_or xs i d → z ≡ numbering (derivation_with limit es (map f (take i xs)) []) → y ≡ put_spare z (f x)
    → y ≡ numbering (derivation_with limit es (map f (take (i + 1) xs)) [])
spares-grown f xs i x d limit es z y lt at e g =
    g ∙ ap (λ k. put_spare k (f x)) e ∙ put-spare (derivation_with limit es (map f (take i xs)) []) (f x) refl ∙ ap (λ l. numbering (derivation_with limit es l [])) (map-more f xs i x d lt at)

pub steps-grown : {X : Type 0} (f : X → Step) (xs : List X) (i : ℕ) (x d : X) (limit : ℕ) (es : List EigenName) (ss : List SpareName) (z y : NumberedDerivation) → i < length xs → x ≡ get_or xs i d → z ≡ numbering (derivation_with limit es ss (map f (take i xs))) → y ≡ put_step z (f x)
    → y ≡ numbering (derivation_with limit es ss (map f (take (i + 1) xs)))
steps-grown f xs i x d limit es ss z y lt at e g =
    g ∙ ap (λ k. put_step k (f x)) e ∙ put-step (derivation_with limit es ss (map f (take i xs))) (f x) ∙ ap (λ l. numbering (derivation_with limit es ss l)) (map-more f xs i x d lt at)
