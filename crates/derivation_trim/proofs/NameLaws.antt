-- The names that steps mention, noted one after the other, and those of a list that are kept.
use Rattle.std.proofs.Common.{◌≡◌, ℕ, ◌+◌, ◌<◌, ◌≤◌, List, ◌∷◌, ◌++◌, length, map, drop, get_or, Bool, ◌||◌, sym, ◌∙◌, ap, ap₂}
use Rattle.std.proofs.Math.Path.{fun_ext}
use Rattle.std.proofs.lemmas.List.{append-nil, drop_all, drop_more}
use Rattle.std.specs.List.{filter, list_any}
use Rattle.plain_laws.proofs.Booleans.{or_false, or-assoc}
use Rattle.calculus.specs.Calculus.{is_eigen}
use Rattle.calculus.specs.Derivations.{EigenName, Names, SpareName}
use Rattle.calculus.specs.Derivations as derivation
use Rattle.trim_theory.specs.UsedNames.{is_spare, mentioned, step_has}

-- ---- a loop that notes what passes a test

pub noted-next : {X Y : Type 0} (f : X → Y) (p : Y → Bool) (xs : List X) (i : ℕ) (x d : X) (a b r : Bool) → i < length xs → x ≡ get_or xs i d → b ≡ (a || p (f x)) → (a || list_any p (map f (drop i xs))) ≡ r → (b || list_any p (map f (drop (i + 1) xs))) ≡ r
noted-next f p xs i x d a b r within read h known =
    let rest = list_any p (map f (drop (i + 1) xs)) in
    let here : drop i xs ≡ x ∷ drop (i + 1) xs = drop_more xs i d within ∙ ap (λ y. y ∷ drop (i + 1) xs) (sym read) in
    ap (λ z. z || rest) h ∙ sym (or-assoc a (p (f x)) rest) ∙ ap (λ ys. a || list_any p (map f ys)) (sym here) ∙ known

pub noted-end : {X Y : Type 0} (f : X → Y) (p : Y → Bool) (xs : List X) (i : ℕ) (a r : Bool) → length xs ≤ i → (a || list_any p (map f (drop i xs))) ≡ r → a ≡ r
noted-end f p xs i a r past known = sym (or_false a) ∙ ap (λ ys. a || list_any p (map f ys)) (sym (drop_all i xs past)) ∙ known

-- ---- a loop that keeps what passes a test

pub kept-next : {X A : Type 0} (f : X → A) (p : A → Bool) (xs : List X) (i : ℕ) (x d : X) (old new r : List A) → i < length xs → x ≡ get_or xs i d → ((rest : List A) → new ++ filter p rest ≡ old ++ filter p (f x ∷ rest)) → old ++ filter p (map f (drop i xs)) ≡ r → new ++ filter p (map f (drop (i + 1) xs)) ≡ r
kept-next f p xs i x d old new r within read h known =
    let here : drop i xs ≡ x ∷ drop (i + 1) xs = drop_more xs i d within ∙ ap (λ y. y ∷ drop (i + 1) xs) (sym read) in
    h (map f (drop (i + 1) xs)) ∙ ap (λ ys. old ++ filter p (map f ys)) (sym here) ∙ known

pub kept-end : {X A : Type 0} (f : X → A) (p : A → Bool) (xs : List X) (i : ℕ) (old r : List A) → length xs ≤ i → old ++ filter p (map f (drop i xs)) ≡ r → old ≡ r
kept-end f p xs i old r past known = sym (append-nil old) ∙ ap (λ ys. old ++ filter p (map f ys)) (sym (drop_all i xs past)) ∙ known

-- ---- the names of a derivation

pub names-kept : (steps : List derivation.Step) (names : Names) (e s : ℕ → Bool) → ((n : ℕ) → e n ≡ list_any (step_has (is_eigen n)) steps) → ((n : ℕ) → s n ≡ list_any (step_has (is_spare n)) steps) → (kept : Names) → kept.eigens ≡ filter (λ (x : EigenName). e x.number) names.eigens → kept.spares ≡ filter (λ (x : SpareName). s x.number) names.spares → kept ≡ mentioned steps names
names-kept steps names e s h g kept a b =
    ap₂ both (a ∙ ap (λ (t : EigenName → Bool). filter t names.eigens) (fun_ext (λ (x : EigenName). h x.number))) (b ∙ ap (λ (t : SpareName → Bool). filter t names.spares) (fun_ext (λ (x : SpareName). g x.number)))
  where
    both : List EigenName → List SpareName → Names
    both es ss = record { eigens = es; spares = ss }
