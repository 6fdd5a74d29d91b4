-- Lists of which something holds throughout.
use Rattle.std.proofs.Common.{ℕ, zero, suc, List, [], ◌∷◌, ◌++◌, map, reverse, take, drop, ◌≡◌, refl, sym, subst, remove}
use Rattle.std.specs.List.{AllByRecursion}
use Rattle.std.proofs.lemmas.List.{reverse-append}

module _ {X : Type 0} (P : X → Type 0) where
  pub all-joined : (xs ys : List X) → AllByRecursion P xs → AllByRecursion P ys → AllByRecursion P (xs ++ ys)
  all-joined [] ys h n = n
  all-joined (x ∷ xs) ys h n = (h.0, all-joined xs ys h.1 n)

  pub all-taken : (k : ℕ) (xs : List X) → AllByRecursion P xs → AllByRecursion P (take k xs)
  all-taken zero xs h = tt
  all-taken (suc k) [] h = tt
  all-taken (suc k) (x ∷ xs) h = (h.0, all-taken k xs h.1)

  pub all-dropped : (k : ℕ) (xs : List X) → AllByRecursion P xs → AllByRecursion P (drop k xs)
  all-dropped zero xs h = h
  all-dropped (suc k) [] h = tt
  all-dropped (suc k) (x ∷ xs) h = all-dropped k xs h.1

  pub all-removed : (k : ℕ) (xs : List X) → AllByRecursion P xs → AllByRecursion P (remove xs k)
  all-removed k xs h = all-joined (take k xs) (drop (suc k) xs) (all-taken k xs h) (all-dropped (suc k) xs h)

  pub all-reversed : (xs : List X) → AllByRecursion P xs → AllByRecursion P (reverse xs)
  all-reversed [] h = tt
  all-reversed (x ∷ xs) h = subst (AllByRecursion P) (sym (reverse-append (x ∷ []) xs)) (all-joined (reverse xs) (x ∷ []) (all-reversed xs h.1) (h.0, tt))

module _ {X Y : Type 0} (P : X → Type 0) where
  -- what two functions give of each item is the same
  pub all-same : (f h : X → Y) → ((x : X) → P x → f x ≡ h x) → (xs : List X) → AllByRecursion P xs → map f xs ≡ map h xs
  all-same f h e [] n = refl
  all-same f h e (x ∷ xs) n = λ i. e x n.0 i ∷ all-same f h e xs n.1 i

pub all-become : {X : Type 0} (P Q : X → Type 0) → ((x : X) → P x → Q x) → (xs : List X) → AllByRecursion P xs → AllByRecursion Q xs
all-become P Q e [] n = tt
all-become P Q e (x ∷ xs) n = (e x n.0, all-become P Q e xs n.1)
