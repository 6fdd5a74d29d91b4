-- What the walk from the first step to the last writes is the trimmed tree.
use Rattle.std.proofs.Common.{◌≡◌, ℕ, zero, suc, ◌+◌, ◌≤◌, List, [], ◌∷◌, ◌++◌, length, map, take, get_or, Bool, true, false, refl, sym, ◌∙◌, ap, ap₂, subst, inl, inr, arith}
use Rattle.std.proofs.lemmas.Bool.{cases_Bool}
use Rattle.std.proofs.lemmas.List.{append_assoc, append-nil}
use Rattle.trim_theory.proofs.MarkingLaws.{out-append}
use Rattle.calculus.specs.Derivations.{ModalArg, TermArg, Step, apply_to, close}
use Rattle.trim_theory.specs.Trimming.{Tree, axiom_on, step_on, fork_on, steps_of, one_after, uses, number_in, times, trim}
use Rattle.trim_theory.specs.Left.{one_if}
use Rattle.trim_theory.specs.Marking.{pass, mark, marks, left_out, IsWithin}
use Rattle.trim_theory.specs.Writing.{last_of, grown, grown_by, numbered, put_if, write}
use Rattle.trim_theory.specs.declared.pass.Way.TheVariants.{Ends, Adds, Forks}
use Rattle.trim_theory.specs.declared.pass.Mark.{Mark}
use Rattle.trim_theory.proofs.TrimLaws.{longer, one_longer}

-- ---- the table of a mask

-- how many of the entries are kept up to each one, on from a number
abbrev numbers_from : ℕ → List Bool → List ℕ
numbers_from c [] = c ∷ []
numbers_from c (true ∷ m) = c ∷ numbers_from (suc c) m
numbers_from c (false ∷ m) = c ∷ numbers_from c m

abbrev pub numbers : List Bool → List ℕ
numbers m = numbers_from 0 m

from-length : (c : ℕ) (m : List Bool) → length (numbers_from c m) ≡ suc (length m)
from-length c [] = refl
from-length c (true ∷ m) = ap suc (from-length (suc c) m)
from-length c (false ∷ m) = ap suc (from-length c m)

from-at : (c : ℕ) (m : List Bool) (k : ℕ) → k ≤ length m → get_or (numbers_from c m) k 0 ≡ c + number_in m k
from-at c [] zero h = omega arith
from-at c [] (suc k) h = absurd (omega arith)
from-at c (true ∷ m) zero h = omega arith
from-at c (false ∷ m) zero h = omega arith
from-at c (true ∷ m) (suc k) h = let e = from-at (suc c) m k (omega arith) in omega arith
from-at c (false ∷ m) (suc k) h = from-at c m k (omega arith)

-- how many are kept in all
abbrev kept_in : List Bool → ℕ
kept_in m = number_in m (length m)

from-grown : (c : ℕ) (m : List Bool) (k : Bool) → numbers_from c (m ++ k ∷ []) ≡ numbers_from c m ++ (c + kept_in m + one_if k) ∷ []
from-grown c [] true = ap (λ i. c ∷ i ∷ []) (omega arith)
from-grown c [] false = ap (λ i. c ∷ i ∷ []) (omega arith)
from-grown c (true ∷ m) k = ap (λ xs. c ∷ xs) (from-grown (suc c) m k ∙ ap (λ i. numbers_from (suc c) m ++ i ∷ []) (omega arith))
from-grown c (false ∷ m) k = ap (λ xs. c ∷ xs) (from-grown c m k)

at-numbers : (m : List Bool) (k : ℕ) → k ≤ length m → get_or (numbers m) k 0 ≡ number_in m k
at-numbers m k h = let e = from-at 0 m k h in omega arith

last-numbers : (m : List Bool) → last_of (numbers m) ≡ kept_in m
last-numbers m = ap (λ i. get_or (numbers m) i 0) (let e = from-length 0 m in omega arith) ∙ at-numbers m (length m) (omega arith)

grown-numbers : (m : List Bool) (k : Bool) → grown k (numbers m) ≡ numbers (m ++ k ∷ [])
grown-numbers m k = ap (λ i. numbers m ++ i ∷ []) (let e = last-numbers m in omega arith) ∙ sym (from-grown 0 m k)

grown_by-numbers : (j : ℕ) (m : List Bool) (k : Bool) → grown_by j k (numbers m) ≡ numbers (m ++ times j k)
grown_by-numbers zero m k = ap numbers (sym (append-nil m))
grown_by-numbers (suc j) m k = ap (grown_by j k) (grown-numbers m k) ∙ grown_by-numbers j (m ++ k ∷ []) k ∙ ap numbers (append_assoc m (k ∷ []) (times j k))

take-from : (c : ℕ) (m q : List Bool) → take (suc (length m)) (numbers_from c (m ++ q)) ≡ numbers_from c m
take-from c [] [] = refl
take-from c [] (true ∷ q) = refl
take-from c [] (false ∷ q) = refl
take-from c (true ∷ m) q = ap (λ xs. c ∷ xs) (take-from (suc c) m q)
take-from c (false ∷ m) q = ap (λ xs. c ∷ xs) (take-from c m q)

-- ---- the walk over a tree

-- it writes these steps, and leaves the table of a longer mask
abbrev Writes : List Mark → List Step → List Step → List Bool → List Bool → List Mark → List Step → Type 0
Writes ps ys zs m fs ms xs = (q : List Bool) × (write (ps ++ ms) (ys ++ xs) (numbers m) fs ≡ zs ++ write ms xs (numbers (m ++ q)) fs)

ends-with : (n a b : ℕ) (k : Bool) (m fs : List Bool) (ms : List Mark) (xs : List Step) → Writes (mark (pass n (Ends a b) false) k ∷ []) (close a b ∷ []) (put_if k (numbered (numbers m) (close a b)) []) m fs ms xs
ends-with n a b true m fs ms xs = ([], ap (λ z. numbered (numbers m) (close a b) ∷ write ms xs (numbers z) fs) (sym (append-nil m)))
ends-with n a b false m fs ms xs = ([], ap (λ z. write ms xs (numbers z) fs) (sym (append-nil m)))

put-same : (k : Bool) (x : Step) (xs ys zs : List Step) → xs ≡ ys ++ zs → put_if k x xs ≡ put_if k x ys ++ zs
put-same true x xs ys zs e = ap (λ ws. x ∷ ws) e
put-same false x xs ys zs e = e

goes-on : (n a j : ℕ) (x : ModalArg) (y : TermArg) (k : Bool) (ps : List Mark) (ys zs : List Step) (m fs : List Bool) (ms : List Mark) (xs : List Step) → Writes ps ys zs (m ++ times j k) fs ms xs → Writes (mark (pass n (Adds a j) false) k ∷ ps) (apply_to a x y ∷ ys) (put_if k (numbered (numbers m) (apply_to a x y)) zs) m fs ms xs
goes-on n a j x y k ps ys zs m fs ms xs h = (
  times j k ++ h.0,
  put-same k (numbered (numbers m) (apply_to a x y)) (write (ps ++ ms) (ys ++ xs) (grown_by j k (numbers m)) fs) zs (write ms xs (numbers (m ++ (times j k ++ h.0))) fs)
      (ap (λ z. write (ps ++ ms) (ys ++ xs) z fs) (grown_by-numbers j m k) ∙ h.1 ∙ ap (λ z. zs ++ write ms xs (numbers z) fs) (append_assoc m (times j k) h.0)),
)

-- the marks of a right side, where the table is cut back
starts_right : (n : ℕ) (t : Tree) (ms : List Mark) (xs : List Step) (m q fs : List Bool) (k : Bool) → n ≡ length m → write (marks true (suc n) t ++ ms) (steps_of t ++ xs) (numbers ((m ++ k ∷ []) ++ q)) (k ∷ fs) ≡ write (marks false (suc n) t ++ ms) (steps_of t ++ xs) (numbers (m ++ k ∷ [])) fs
starts_right n t ms xs m q fs k h = first t ∙ ap (λ z. write (marks false (suc n) t ++ ms) (steps_of t ++ xs) z fs) table
  where
    table : grown k (take (suc n) (numbers ((m ++ k ∷ []) ++ q))) ≡ numbers (m ++ k ∷ [])
    table = ap₂ (λ i z. grown k (take (suc i) (numbers z))) h (append_assoc m (k ∷ []) q) ∙ ap (grown k) (take-from 0 m (k ∷ q)) ∙ grown-numbers m k

    first : (r : Tree) → write (marks true (suc n) r ++ ms) (steps_of r ++ xs) (numbers ((m ++ k ∷ []) ++ q)) (k ∷ fs) ≡ write (marks false (suc n) r ++ ms) (steps_of r ++ xs) (grown k (take (suc n) (numbers ((m ++ k ∷ []) ++ q)))) fs
    first (axiom_on a b) = refl
    first (step_on a x y j r) = refl
    first (fork_on a x y r s) = elim (cases_Bool (uses (suc (suc n)) r (suc (suc n)))) [
      | inr u ↦ rw u refl
      | inl u ↦ elim (cases_Bool (uses (suc (suc n)) s (suc (suc n)))) [ inr v ↦ rw u (rw v refl) | inl v ↦ rw u (rw v refl) ]
    ]

starts_gone : (n : ℕ) (t : Tree) (ms : List Mark) (xs : List Step) (m q fs : List Bool) (k : Bool) → n ≡ length m → write (map left_out (marks true (suc n) t) ++ ms) (steps_of t ++ xs) (numbers ((m ++ k ∷ []) ++ q)) (k ∷ fs) ≡ write (map left_out (marks false (suc n) t) ++ ms) (steps_of t ++ xs) (numbers (m ++ k ∷ [])) fs
starts_gone n t ms xs m q fs k h = first t ∙ ap (λ z. write (map left_out (marks false (suc n) t) ++ ms) (steps_of t ++ xs) z fs) table
  where
    table : grown k (take (suc n) (numbers ((m ++ k ∷ []) ++ q))) ≡ numbers (m ++ k ∷ [])
    table = ap₂ (λ i z. grown k (take (suc i) (numbers z))) h (append_assoc m (k ∷ []) q) ∙ ap (grown k) (take-from 0 m (k ∷ q)) ∙ grown-numbers m k

    first : (r : Tree) → write (map left_out (marks true (suc n) r) ++ ms) (steps_of r ++ xs) (numbers ((m ++ k ∷ []) ++ q)) (k ∷ fs) ≡ write (map left_out (marks false (suc n) r) ++ ms) (steps_of r ++ xs) (grown k (take (suc n) (numbers ((m ++ k ∷ []) ++ q)))) fs
    first (axiom_on a b) = refl
    first (step_on a x y j r) = refl
    first (fork_on a x y r s) = elim (cases_Bool (uses (suc (suc n)) r (suc (suc n)))) [
      | inr u ↦ rw u refl
      | inl u ↦ elim (cases_Bool (uses (suc (suc n)) s (suc (suc n)))) [ inr v ↦ rw u (rw v refl) | inl v ↦ rw u (rw v refl) ]
    ]

fork-writes : (n a : ℕ) (x : ModalArg) (y : TermArg) (k : Bool) (ps rt rs : List Mark) (ys ws zs vs : List Step) (m fs : List Bool) (ms : List Mark) (xs : List Step) → ((os : List Mark) (us : List Step) → Writes ps ys zs (m ++ k ∷ []) (k ∷ fs) os us) → ((q : List Bool) → write (rt ++ ms) (ws ++ xs) (numbers ((m ++ k ∷ []) ++ q)) (k ∷ fs) ≡ write (rs ++ ms) (ws ++ xs) (numbers (m ++ k ∷ [])) fs) → Writes rs ws vs (m ++ k ∷ []) fs ms xs → Writes (mark (pass n (Forks a) false) k ∷ (ps ++ rt)) (apply_to a x y ∷ (ys ++ ws)) (put_if k (numbered (numbers m) (apply_to a x y)) (zs ++ vs)) m fs ms xs
fork-writes n a x y k ps rt rs ys ws zs vs m fs ms xs left start right =
    let l = left (rt ++ ms) (ws ++ xs) in
    let inner : write ((ps ++ rt) ++ ms) ((ys ++ ws) ++ xs) (grown k (numbers m)) (k ∷ fs) ≡ (zs ++ vs) ++ write ms xs (numbers (m ++ (k ∷ right.0))) fs =
    ap (λ z. write ((ps ++ rt) ++ ms) ((ys ++ ws) ++ xs) z (k ∷ fs)) (grown-numbers m k)
    ∙ ap₂ (λ o u. write o u (numbers (m ++ k ∷ [])) (k ∷ fs)) (append_assoc ps rt ms) (append_assoc ys ws xs)
    ∙ l.1
    ∙ ap (λ z. zs ++ z) (start l.0 ∙ right.1)
    ∙ sym (append_assoc zs vs (write ms xs (numbers ((m ++ k ∷ []) ++ right.0)) fs))
    ∙ ap (λ z. (zs ++ vs) ++ write ms xs (numbers z) fs) (append_assoc m (k ∷ []) right.0) in
    (k ∷ right.0, put-same k (numbered (numbers m) (apply_to a x y)) (write ((ps ++ rt) ++ ms) ((ys ++ ws) ++ xs) (grown k (numbers m)) (k ∷ fs)) (zs ++ vs) (write ms xs (numbers (m ++ (k ∷ right.0))) fs) inner)

out-twice : (xs : List Mark) → map left_out (map left_out xs) ≡ map left_out xs
out-twice [] = refl
out-twice (x ∷ xs) = ap (λ zs. left_out x ∷ zs) (out-twice xs)

-- the marks of a fork that goes
gone-marks : (b : Bool) (n a : ℕ) (x : ModalArg) (y : TermArg) (t r : Tree) → map left_out (marks b n (fork_on a x y t r)) ≡ mark (pass n (Forks a) b) false ∷ (map left_out (marks false (suc n) t) ++ map left_out (marks true (suc n) r))
gone-marks b n a x y t r =
    let ls = marks false (suc n) t in
    let rs = marks true (suc n) r in
    let m = mark (pass n (Forks a) b) false in
    elim (cases_Bool (uses (suc n) t (suc n))) [
      | inr u ↦ rw u (ap (λ z. m ∷ z) (out-append ls (map left_out rs) ∙ ap (λ z. map left_out ls ++ z) (out-twice rs)))
      | inl u ↦ elim (cases_Bool (uses (suc n) r (suc n))) [
        | inr v ↦ rw u (rw v (ap (λ z. m ∷ z) (out-append (map left_out ls) rs ∙ ap (λ z. z ++ map left_out rs) (out-twice ls))))
        | inl v ↦ rw u (rw v (ap (λ z. m ∷ z) (out-append ls rs)))
      ]
    ]

gone-writes : (n : ℕ) (t : Tree) (m fs : List Bool) (ms : List Mark) (xs : List Step) → n ≡ length m → Writes (map left_out (marks false n t)) (steps_of t) [] m fs ms xs
gone-writes n (axiom_on a b) m fs ms xs h = ends-with n a b false m fs ms xs
gone-writes n (step_on a x y j t) m fs ms xs h = goes-on n a j x y false (map left_out (marks false (n + j) t)) (steps_of t) [] m fs ms xs (gone-writes (n + j) t (m ++ times j false) fs ms xs (longer n j m false h))
gone-writes n (fork_on a x y t r) m fs ms xs h =
    let ls = map left_out (marks false (suc n) t) in
    let rt = map left_out (marks true (suc n) r) in
    let rs = map left_out (marks false (suc n) r) in
    subst (λ z. Writes z (apply_to a x y ∷ (steps_of t ++ steps_of r)) [] m fs ms xs) (sym (gone-marks false n a x y t r))
    (fork-writes n a x y false ls rt rs (steps_of t) (steps_of r) [] [] m fs ms xs (λ os us. gone-writes (suc n) t (m ++ false ∷ []) (false ∷ fs) os us (one_longer n m false h)) (λ q. starts_gone n r ms xs m q fs false h) (gone-writes (suc n) r (m ++ false ∷ []) fs ms xs (one_longer n m false h)))

-- the walk over a tree writes the trimmed tree
pub trim-writes : (n : ℕ) (t : Tree) (m fs : List Bool) (ms : List Mark) (xs : List Step) → n ≡ length m → IsWithin n t → Writes (marks false n t) (steps_of t) (steps_of (trim n m t)) m fs ms xs
trim-writes n (axiom_on a b) m fs ms xs h w =
    subst (λ z. Writes (mark (pass n (Ends a b) false) true ∷ []) (close a b ∷ []) (z ∷ []) m fs ms xs) (ap₂ close (at-numbers m a (let e = w.0 in omega arith)) (at-numbers m b (let e = w.1 in omega arith)))
    (ends-with n a b true m fs ms xs)
trim-writes n (step_on a x y j t) m fs ms xs h w =
    let at : get_or (numbers m) a 0 ≡ number_in m a = at-numbers m a (let e = w.0 in omega arith) in
    elim (cases_Bool (one_after (uses (n + j) t) n j)) [
      | inl u ↦ rw u (subst (λ z. Writes (mark (pass n (Adds a j) false) true ∷ marks false (n + j) t) (apply_to a x y ∷ steps_of t) (apply_to z x y ∷ steps_of (trim (n + j) (m ++ times j true) t)) m fs ms xs) at
          (goes-on n a j x y true (marks false (n + j) t) (steps_of t) (steps_of (trim (n + j) (m ++ times j true) t)) m fs ms xs (trim-writes (n + j) t (m ++ times j true) fs ms xs (longer n j m true h) w.1)))
      | inr u ↦ rw u (goes-on n a j x y false (marks false (n + j) t) (steps_of t) (steps_of (trim (n + j) (m ++ times j false) t)) m fs ms xs (trim-writes (n + j) t (m ++ times j false) fs ms xs (longer n j m false h) w.1))
    ]
trim-writes n (fork_on a x y t r) m fs ms xs h w =
    let at : get_or (numbers m) a 0 ≡ number_in m a = at-numbers m a (let e = w.0 in omega arith) in
    let ls = marks false (suc n) t in
    let rt = marks true (suc n) r in
    let rs = marks false (suc n) r in
    elim (cases_Bool (uses (suc n) t (suc n))) [
      | inr u ↦ rw u (subst (λ z. Writes (mark (pass n (Forks a) false) false ∷ (ls ++ map left_out rt)) (apply_to a x y ∷ (steps_of t ++ steps_of r)) z m fs ms xs) (append-nil (steps_of (trim (suc n) (m ++ false ∷ []) t)))
          (fork-writes n a x y false ls (map left_out rt) (map left_out rs) (steps_of t) (steps_of r) (steps_of (trim (suc n) (m ++ false ∷ []) t)) [] m fs ms xs (λ os us. trim-writes (suc n) t (m ++ false ∷ []) (false ∷ fs) os us (one_longer n m false h) w.1) (λ q. starts_gone n r ms xs m q fs false h) (gone-writes (suc n) r (m ++ false ∷ []) fs ms xs (one_longer n m false h))))
      | inl u ↦ elim (cases_Bool (uses (suc n) r (suc n))) [
        | inr v ↦ rw u (rw v (fork-writes n a x y false (map left_out ls) rt rs (steps_of t) (steps_of r) [] (steps_of (trim (suc n) (m ++ false ∷ []) r)) m fs ms xs (λ os us. gone-writes (suc n) t (m ++ false ∷ []) (false ∷ fs) os us (one_longer n m false h)) (λ q. starts_right n r ms xs m q fs false h) (trim-writes (suc n) r (m ++ false ∷ []) fs ms xs (one_longer n m false h) w.2)))
        | inl v ↦ rw u (rw v (subst (λ z. Writes (mark (pass n (Forks a) false) true ∷ (ls ++ rt)) (apply_to a x y ∷ (steps_of t ++ steps_of r)) (apply_to z x y ∷ (steps_of (trim (suc n) (m ++ true ∷ []) t) ++ steps_of (trim (suc n) (m ++ true ∷ []) r))) m fs ms xs) at
            (fork-writes n a x y true ls rt rs (steps_of t) (steps_of r) (steps_of (trim (suc n) (m ++ true ∷ []) t)) (steps_of (trim (suc n) (m ++ true ∷ []) r)) m fs ms xs (λ os us. trim-writes (suc n) t (m ++ true ∷ []) (true ∷ fs) os us (one_longer n m true h) w.1) (λ q. starts_right n r ms xs m q fs true h) (trim-writes (suc n) r (m ++ true ∷ []) fs ms xs (one_longer n m true h) w.2))))
      ]
    ]
