-- Lists in which each item stands once, where it first occurs, and the numbers of items in them.
use Rattle.std.proofs.Common.{if◌then◌else◌, ◌≡◌, suc, List, [], ◌∷◌, ◌++◌, length, Bool, true, false, cond, not, ◌||◌, IsTrue, refl, sym, ◌∙◌, ap, append-nil}
use Rattle.std.specs.List.{filter, list_all}
use Rattle.std.proofs.lemmas.Bool.{true≢false, and_from, or_right}
use Rattle.std.proofs.lemmas.List.Elements.{filter-append}
use Rattle.calculus.proofs.EqualityLaws.{Tells}
use Rattle.calculus.specs.Versions.{number_in, once, place_in}
use Rattle.derivation_text.specs.Entering.{entered, has}

-- ---- what is in a list

abbrev others : {A : Type 0} → (A → A → Bool) → A → List A → List A
others same z ys = filter (λ y. not (same z y)) ys

-- what is not the same as z stays
filter-has : {A : Type 0} (same : A → A → Bool) → Tells same → (z x : A) (ys : List A) → same z x ≡ false → has same (filter (λ y. not (same z y)) ys) x ≡ has same ys x
filter-has same tells z x [] e = refl
filter-has {A} same tells z x (y ∷ ys) e = by (same z y) refl (filter-has same tells z x ys e)
  where
    by : (b : Bool) → same z y ≡ b → has same (filter (λ u. not (same z u)) ys) x ≡ has same ys x → has same (filter (λ u. not (same z u)) (y ∷ ys)) x ≡ (same y x || has same ys x)
    by true k rest =
        ap (λ c. has same (cond (not c) (y ∷ filter (λ u. not (same z u)) ys) (filter (λ u. not (same z u)) ys)) x) k ∙ rest
        ∙ ap (λ b. b || has same ys x) (sym (ap (λ u. same u x) (sym ((tells z y).0 k)) ∙ e))
    by false k rest = ap (λ c. has same (cond (not c) (y ∷ filter (λ u. not (same z u)) ys) (filter (λ u. not (same z u)) ys)) x) k ∙ ap (λ b. same y x || b) rest

-- ---- one item more

abbrev chosen : {A : Type 0} → Bool → List A → A → List A
chosen b ys x = if b then ys else ys ++ x ∷ []

cons-chosen : {A : Type 0} (z x : A) (ys : List A) (b : Bool) → z ∷ chosen b ys x ≡ chosen b (z ∷ ys) x
cons-chosen z x ys true = refl
cons-chosen z x ys false = refl

alone : {A : Type 0} (same : A → A → Bool) (z x : A) (b : Bool) → same z x ≡ b → others same z (x ∷ []) ≡ cond (not b) (x ∷ []) []
alone same z x b e = ap (λ c. cond (not c) (x ∷ []) []) e

others-end : {A : Type 0} (same : A → A → Bool) (z x : A) (b : Bool) → same z x ≡ b → (c : Bool) (ys : List A) → others same z (chosen c ys x) ≡ chosen (b || c) (others same z ys) x
others-end same z x true e true ys = refl
others-end same z x true e false ys = filter-append (λ y. not (same z y)) ys (x ∷ []) ∙ ap (λ l. others same z ys ++ l) (alone same z x true e) ∙ append-nil (others same z ys)
others-end same z x false e true ys = refl
others-end same z x false e false ys = filter-append (λ y. not (same z y)) ys (x ∷ []) ∙ ap (λ l. others same z ys ++ l) (alone same z x false e)

-- the items once, with one more at the end
pub once-end : {A : Type 0} (same : A → A → Bool) → Tells same → (xs : List A) (x : A) → once same (xs ++ x ∷ []) ≡ entered same (once same xs) x
once-end same tells [] x = refl
once-end {A} same tells (z ∷ xs) x = ap (λ l. z ∷ others same z l) (once-end same tells xs x) ∙ by (same z x) refl
  where
    told : (b : Bool) → same z x ≡ b → (b || has same (once same xs) x) ≡ (same z x || has same (others same z (once same xs)) x)
    told true e = sym (ap (λ b. b || has same (others same z (once same xs)) x) e)
    told false e = sym (filter-has same tells z x (once same xs) e) ∙ sym (ap (λ b. b || has same (others same z (once same xs)) x) e)

    by : (b : Bool) → same z x ≡ b → z ∷ others same z (entered same (once same xs) x) ≡ entered same (z ∷ others same z (once same xs)) x
    by b e =
        ap (λ l. z ∷ l) (others-end same z x b e (has same (once same xs) x) (once same xs)) ∙ cons-chosen z x (others same z (once same xs)) (b || has same (once same xs) x)
        ∙ ap (λ c. chosen c (z ∷ others same z (once same xs)) x) (told b e)

-- what is in a list is there once
pub once-has : {A : Type 0} (same : A → A → Bool) → Tells same → (xs : List A) (x : A) → IsTrue (has same xs x) → IsTrue (has same (once same xs) x)
once-has same tells [] x h = h
once-has {A} same tells (z ∷ zs) x h = by (same z x) refl (once-has same tells zs x)
  where
    by : (b : Bool) → same z x ≡ b → (IsTrue (has same zs x) → IsTrue (has same (once same zs) x)) → IsTrue (same z x || has same (others same z (once same zs)) x)
    by true e rest = ap (λ b. b || has same (others same z (once same zs)) x) e
    by false e rest = ap (λ b. b || has same (others same z (once same zs)) x) e ∙ filter-has same tells z x (once same zs) e ∙ rest (ap (λ b. b || has same zs x) (sym e) ∙ h)

all-in : {A : Type 0} (same : A → A → Bool) → Tells same → (zs xs : List A) → ((x : A) → IsTrue (has same zs x) → IsTrue (has same xs x)) → IsTrue (list_all (has same xs) zs)
all-in same tells [] xs into = refl
all-in same tells (z ∷ zs) xs into = and_from (has same xs z) (list_all (has same xs) zs) (into z (ap (λ b. b || has same zs z) ((tells z z).1 refl))) (all-in same tells zs xs (λ x h. into x (or_right (same z x) (has same zs x) h)))

pub all-once : {A : Type 0} (same : A → A → Bool) → Tells same → (xs : List A) → IsTrue (list_all (has same (once same xs)) xs)
all-once same tells xs = all-in same tells xs (once same xs) (once-has same tells xs)

-- an item that is entered stands behind the others, or among them
pub record Grows {A : Type 0} (xs ys : List A) : Type 0 where
  pub more : List A
  pub all : ys ≡ xs ++ more

pub entered-grows : {A : Type 0} (same : A → A → Bool) (xs : List A) (x : A) → Grows xs (entered same xs x)
entered-grows {A} same xs x = by (has same xs x)
  where
    by : (b : Bool) → Grows xs (if b then xs else xs ++ x ∷ [])
    by true = record { more = []; all = sym (append-nil xs) }
    by false = record { more = x ∷ []; all = refl }

pub grows-same : {A : Type 0} (xs : List A) → Grows xs xs
grows-same xs = record { more = []; all = sym (append-nil xs) }

-- ---- numbers

-- as the list grows an item keeps its number
pub place-front : {A : Type 0} (same : A → A → Bool) (ys zs : List A) (x : A) → IsTrue (has same ys x) → place_in same (ys ++ zs) x ≡ place_in same ys x
place-front same [] zs x h = absurd (true≢false (sym h))
place-front {A} same (y ∷ ys) zs x h = by (same y x) refl (place-front same ys zs x)
  where
    by : (b : Bool) → same y x ≡ b → (IsTrue (has same ys x) → place_in same (ys ++ zs) x ≡ place_in same ys x) → place_in same ((y ∷ ys) ++ zs) x ≡ place_in same (y ∷ ys) x
    by true e rest = ap (λ b. if b then 0 else suc (place_in same (ys ++ zs) x)) e ∙ sym (ap (λ b. if b then 0 else suc (place_in same ys x)) e)
    by false e rest =
        ap (λ b. if b then 0 else suc (place_in same (ys ++ zs) x)) e ∙ ap suc (rest (ap (λ b. b || has same ys x) (sym e) ∙ h))
        ∙ sym (ap (λ b. if b then 0 else suc (place_in same ys x)) e)

pub number-kept : {A : Type 0} (same : A → A → Bool) (xs ys : List A) (x : A) → Grows xs ys → IsTrue (has same xs x) → number_in same ys x ≡ number_in same xs x
number-kept same xs ys x g h = ap suc (ap (λ l. place_in same l x) g.all ∙ place-front same xs g.more x h)

-- an item that is new gets the next number
pub place-end : {A : Type 0} (same : A → A → Bool) → Tells same → (ys zs : List A) (x : A) → has same ys x ≡ false → place_in same (ys ++ x ∷ zs) x ≡ length ys
place-end same tells [] zs x h = ap (λ b. if b then 0 else suc (place_in same zs x)) ((tells x x).1 refl)
place-end {A} same tells (y ∷ ys) zs x h = by (same y x) refl (place-end same tells ys zs x)
  where
    by : (b : Bool) → same y x ≡ b → (has same ys x ≡ false → place_in same (ys ++ x ∷ zs) x ≡ length ys) → place_in same ((y ∷ ys) ++ x ∷ zs) x ≡ suc (length ys)
    by true e rest = absurd (true≢false (ap (λ b. b || has same ys x) (sym e) ∙ h))
    by false e rest = ap (λ b. if b then 0 else suc (place_in same (ys ++ x ∷ zs) x)) e ∙ ap suc (rest (ap (λ b. b || has same ys x) (sym e) ∙ h))
