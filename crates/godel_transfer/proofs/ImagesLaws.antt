-- Images are found by their places, and give the images of characters and eigenvariables.
use Rattle.std.proofs.Common.{◌≡◌, ℕ, zero, suc, ◌+◌, ◌-◌, ◌<◌, ◌≤◌, ◌==◌, Bool, true, false, List, [], ◌∷◌, ◌++◌, length, get_or, map, reverse, Option, None, Some, refl, sym, ◌∙◌, ap, subst, inl, inr, arith, append-nil}
use Rattle.std.proofs.lemmas.Bool.{cases_Bool}
use Rattle.std.proofs.lemmas.List.{reverse-append, length-reverse, get_or_append_left}
use Rattle.std.proofs.Math.Seq.{get_or-append_seam}
use Rattle.calculus.specs.Syntax.{eigen, spare}
use Rattle.calculus.specs.Derivations.{new_mark, spare_mark}
use Rattle.godel_transfer.specs.BranchView.{the_character_image, the_eigen_image}
use Rattle.godel_transfer.specs.ImagesView.{found, place_in, the_image}
use Rattle.godel_transfer.specs.Transfer.{mark_image, eigen_image}
use Rattle.godel_transfer.specs.declared.images.Image.{Image}

pub reverse-twice : {A : Type 0} (xs : List A) → reverse (reverse xs) ≡ xs
reverse-twice [] = refl
reverse-twice (x ∷ xs) = ap reverse (reverse-append (x ∷ []) xs) ∙ reverse-append (reverse xs) (x ∷ []) ∙ ap (λ (ys : List _). x ∷ ys) (reverse-twice xs)

pub place-none : (r : List Image) (n : ℕ) → place_in r n ≡ 0 → found (map the_image r) n ≡ None
place-none [] n h = refl
place-none (x ∷ r) n h = elim (cases_Bool (x.number == n)) [
  | inl e ↦ let h' : suc (length r) ≡ 0 = rw e at h in absurd (omega arith)
  | inr e ↦ let h' : place_in r n ≡ 0 = rw e at h in rw e (place-none r n h')
]

pub place-within : (r : List Image) (n : ℕ) → place_in r n ≤ length r
place-within [] n = omega arith
place-within (x ∷ r) n = elim (cases_Bool (x.number == n)) [
  | inl e ↦ rw e (omega arith)
  | inr e ↦ let h = place-within r n in rw e (omega arith)
]

place-last : (r : List Image) (n k : ℕ) (d : Image) → place_in r n ≡ suc k → found (map the_image r) n ≡ Some (get_or (reverse r) k d).image
place-last [] n k d h = absurd (omega arith)
place-last (x ∷ r) n k d h =
    let turned : reverse (x ∷ r) ≡ reverse r ++ x ∷ [] = reverse-append (x ∷ []) r in
    let size = length-reverse r in
    elim (cases_Bool (x.number == n)) [
      | inl e ↦
          let h' : suc (length r) ≡ suc k = rw e at h in
          let at : length (reverse r) ≡ k = omega arith in
          let here : get_or (reverse (x ∷ r)) k d ≡ x = (λ i. get_or (turned i) (sym at i) d) ∙ get_or-append_seam (reverse r) x [] d in
          rw e (ap (λ (y : Image). Some y.image) (sym here))
      | inr e ↦
          let h' : place_in r n ≡ suc k = rw e at h in
          let within = place-within r n in
          let here : get_or (reverse (x ∷ r)) k d ≡ get_or (reverse r) k d = ap (λ (ys : List Image). get_or ys k d) turned ∙ get_or_append_left (reverse r) (x ∷ []) d k (omega arith) in
          rw e (place-last r n k d h' ∙ ap (λ (y : Image). Some y.image) (sym here))
    ]

pub place-some : (xs : List Image) (n k : ℕ) (x : Image) → place_in (reverse xs) n ≡ k → 0 < k → x ≡ get_or xs (k - 1) x → Some x.image ≡ found (map the_image (reverse xs)) n
place-some xs n k x h pos read =
    let at : k ≡ suc (k - 1) = omega arith in
    let last = place-last (reverse xs) n (k - 1) x (h ∙ at) in
    sym (last ∙ (λ i. Some (get_or (reverse-twice xs i) (k - 1) x).image) ∙ ap (λ (y : Image). Some y.image) (sym read))

-- ---- images of names

pub mark-some : (xs : List (ℕ × ℕ)) (n j : ℕ) → found xs n ≡ Some j → mark_image (map the_character_image xs) (new_mark n) ≡ new_mark j ∷ []
mark-some [] n j h = cc
mark-some (x ∷ xs) n j h = elim (cases_Bool (x.0 == n)) [
  | inl e ↦ let h' : Some x.1 ≡ Some j = rw e at h in let same : x.1 ≡ j = cc in rw e (ap (λ k. new_mark k ∷ []) same)
  | inr e ↦ let h' : found xs n ≡ Some j = rw e at h in rw e (mark-some xs n j h')
]

pub mark-none : (xs : List (ℕ × ℕ)) (n : ℕ) → found xs n ≡ None → mark_image (map the_character_image xs) (new_mark n) ≡ []
mark-none [] n h = refl
mark-none (x ∷ xs) n h = elim (cases_Bool (x.0 == n)) [
  | inl e ↦ let h' : Some x.1 ≡ None = rw e at h in absurd cc
  | inr e ↦ let h' : found xs n ≡ None = rw e at h in rw e (mark-none xs n h')
]

pub mark-spare : (xs : List (ℕ × ℕ)) (n : ℕ) → mark_image (map the_character_image xs) (spare_mark n) ≡ []
mark-spare [] n = refl
mark-spare (x ∷ xs) n = mark-spare xs n

pub eigen-some : (xs : List (ℕ × ℕ)) (n j : ℕ) → found xs n ≡ Some j → eigen_image (map the_eigen_image xs) n ≡ eigen j
eigen-some [] n j h = cc
eigen-some (x ∷ xs) n j h = elim (cases_Bool (x.0 == n)) [
  | inl e ↦ let h' : Some x.1 ≡ Some j = rw e at h in let same : x.1 ≡ j = cc in rw e (ap eigen same)
  | inr e ↦ let h' : found xs n ≡ Some j = rw e at h in rw e (eigen-some xs n j h')
]

pub eigen-none : (xs : List (ℕ × ℕ)) (n : ℕ) → found xs n ≡ None → eigen_image (map the_eigen_image xs) n ≡ spare 1
eigen-none [] n h = refl
eigen-none (x ∷ xs) n h = elim (cases_Bool (x.0 == n)) [
  | inl e ↦ let h' : Some x.1 ≡ None = rw e at h in absurd cc
  | inr e ↦ let h' : found xs n ≡ None = rw e at h in rw e (eigen-none xs n h')
]
