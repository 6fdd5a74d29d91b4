-- What is read and written at a place of a page is read and written in the list of its values.
use Rattle.std.proofs.Common.{◌≡◌, ℕ, zero, suc, ◌+◌, ◌<◌, ◌≤◌, List, [], ◌∷◌, length, set, get_or, take, drop, replicate, slice_get, Option, Some, None, refl, sym, ap, ◌∙◌, arith, length-set}
use Rattle.cop_cells.specs.Places.{somes, IsWritten, IsFront}
use Rattle.cop_cells.specs.Pages.{put_at}

-- a list of one value, cut
pub take-same : {X : Type 0} (x : X) (m k n : ℕ) → k ≡ m + n → take m (replicate k x) ≡ replicate m x
take-same x zero k n e = refl
take-same x (suc m) zero n e = absurd (omega (arith, e))
take-same x (suc m) (suc k) n e = ap (λ r. x ∷ r) (take-same x m k n (omega (arith, e)))

pub drop-same : {X : Type 0} (x : X) (m k n : ℕ) → k ≡ m + n → drop m (replicate k x) ≡ replicate n x
drop-same x zero k n e = ap (λ i. replicate i x) (omega (arith, e))
drop-same x (suc m) zero n e = absurd (omega (arith, e))
drop-same x (suc m) (suc k) n e = drop-same x m k n (omega (arith, e))

module _ {X : Type 0} where
  empty-front : (cs : List (Option X)) → somes cs ≡ [] → IsFront cs
  empty-front [] e = tt
  empty-front (None ∷ cs) e = e
  empty-front (Some x ∷ cs) e = absurd cc

  pub front-written : (cs : List (Option X)) (i : ℕ) → IsFront cs → i < length (somes cs) → IsWritten cs i
  front-written [] i f h = absurd (omega (arith, h))
  front-written (None ∷ cs) i f h = absurd (omega (arith, h, ap length f))
  front-written (Some x ∷ cs) zero f h = (x, refl)
  front-written (Some x ∷ cs) (suc i) f h = front-written cs i f (omega (arith, h))

  pub front-read : (cs : List (Option X)) (i : ℕ) → IsFront cs → i < length (somes cs)
      → slice_get (somes cs) i ≡ get_or cs i None
  front-read [] i f h = absurd (omega (arith, h))
  front-read (None ∷ cs) i f h = absurd (omega (arith, h, ap length f))
  front-read (Some x ∷ cs) zero f h = refl
  front-read (Some x ∷ cs) (suc i) f h = front-read cs i f (omega (arith, h))

  pub front-put : (cs : List (Option X)) (i : ℕ) (x : X) → IsFront cs → i < length cs → i ≤ length (somes cs)
      → somes (set cs i (Some x)) ≡ put_at (somes cs) i x
  front-put [] i x f l h = absurd (omega (arith, l))
  front-put (None ∷ cs) zero x f l h = ap (λ r. x ∷ r) f ∙ ap (λ r. put_at r 0 x) (sym f)
  front-put (None ∷ cs) (suc i) x f l h = absurd (omega (arith, h, ap length f))
  front-put (Some y ∷ cs) zero x f l h = refl
  front-put (Some y ∷ cs) (suc i) x f l h = ap (λ r. y ∷ r) (front-put cs i x f (omega (arith, l)) (omega (arith, h)))

  pub put-front : (cs : List (Option X)) (i : ℕ) (x : X) → IsFront cs → i < length cs → i ≤ length (somes cs)
      → IsFront (set cs i (Some x))
  put-front [] i x f l h = absurd (omega (arith, l))
  put-front (None ∷ cs) zero x f l h = empty-front cs f
  put-front (None ∷ cs) (suc i) x f l h = absurd (omega (arith, h, ap length f))
  put-front (Some y ∷ cs) zero x f l h = f
  put-front (Some y ∷ cs) (suc i) x f l h = put-front cs i x f (omega (arith, l)) (omega (arith, h))

  pub put-length : (cs ds : List (Option X)) (i : ℕ) (x : X) (n : ℕ) → ds ≡ set cs i (Some x) → length cs ≡ n → length ds ≡ n
  put-length cs ds i x n e l = ap length e ∙ length-set cs i (Some x) ∙ l
