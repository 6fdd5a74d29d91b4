-- The sizes of the parts of a formula stand where their positions are.
use Rattle.std.proofs.Common.{◌≡◌, ℕ, suc, ◌+◌, ◌-◌, List, [], ◌∷◌, ◌++◌, length, refl, sym, ◌∙◌, ap, subst, arith, append_assoc, append-nil, length-append, slice_set}
use Rattle.std.proofs.Math.Seq.{get_or-append_seam, set-append_seam}
use Rattle.calculus.specs.Syntax.{Formula, atom, neg, conj, disj, imp, all, ex, box, dia}
use Rattle.calculus.specs.Positions.{size}
use Rattle.matrix_build.specs.Sizes.{sizes_of, sizes_below, HasSize, HasSizes}

pub length-sizes_of : (f : Formula) → length (sizes_of f) ≡ size f
length-sizes_of (atom p ts) = refl
length-sizes_of (neg a) = omega (arith, length-sizes_of a)
length-sizes_of (conj a b) = omega (arith, length-sizes_of a, length-sizes_of b, length-append (sizes_of a) (sizes_of b))
length-sizes_of (disj a b) = omega (arith, length-sizes_of a, length-sizes_of b, length-append (sizes_of a) (sizes_of b))
length-sizes_of (imp a b) = omega (arith, length-sizes_of a, length-sizes_of b, length-append (sizes_of a) (sizes_of b))
length-sizes_of (all a) = omega (arith, length-sizes_of a)
length-sizes_of (ex a) = omega (arith, length-sizes_of a)
length-sizes_of (box a) = omega (arith, length-sizes_of a)
length-sizes_of (dia a) = omega (arith, length-sizes_of a)

-- ---- appending them

two-size : (a b : Formula) → suc (size a + size b) ≡ suc (length (sizes_of a ++ sizes_of b))
two-size a b = omega (arith, length-sizes_of a, length-sizes_of b, length-append (sizes_of a) (sizes_of b))

sizes_of-below : (f : Formula) → sizes_of f ≡ suc (length (sizes_below f)) ∷ sizes_below f
sizes_of-below (atom p ts) = refl
sizes_of-below (neg a) = ap (λ n. suc n ∷ sizes_of a) (sym (length-sizes_of a))
sizes_of-below (conj a b) = ap (λ n. n ∷ (sizes_of a ++ sizes_of b)) (two-size a b)
sizes_of-below (disj a b) = ap (λ n. n ∷ (sizes_of a ++ sizes_of b)) (two-size a b)
sizes_of-below (imp a b) = ap (λ n. n ∷ (sizes_of a ++ sizes_of b)) (two-size a b)
sizes_of-below (all a) = ap (λ n. suc n ∷ sizes_of a) (sym (length-sizes_of a))
sizes_of-below (ex a) = ap (λ n. suc n ∷ sizes_of a) (sym (length-sizes_of a))
sizes_of-below (box a) = ap (λ n. suc n ∷ sizes_of a) (sym (length-sizes_of a))
sizes_of-below (dia a) = ap (λ n. suc n ∷ sizes_of a) (sym (length-sizes_of a))

-- the size of the whole formula, put where a number stood before those of its proper parts
pub patched_sizes : (f : Formula) (old new : List ℕ) (n start total : ℕ) → new ≡ (old ++ n ∷ []) ++ sizes_below f → start ≡ length old → total ≡ length new → slice_set new start (total - start) ≡ old ++ sizes_of f
patched_sizes f old new n start total e p q =
    let whole : new ≡ old ++ n ∷ sizes_below f = e ∙ simp append_assoc in
    let l : length new ≡ length old + suc (length (sizes_below f)) = ap length whole ∙ length-append old (n ∷ sizes_below f) in
    let d : total - start ≡ suc (length (sizes_below f)) = omega arith in
    rw (d, p, whole, sizes_of-below f) (set-append_seam old n (sizes_below f) (suc (length (sizes_below f))))

pub ruleset appended = (patched_sizes)

-- ---- where the sizes stand

-- the list holds the sizes n ∷ ms of a formula with n positions from q on
pub record Holds (zs : List ℕ) (q : ℕ) (ms : List ℕ) : Type 0 where
  pub before : List ℕ
  pub after : List ℕ
  pub list : zs ≡ before ++ (ms ++ after)
  pub place : q ≡ length before

has-size : (zs : List ℕ) (q n : ℕ) (ms : List ℕ) → Holds zs q (n ∷ ms) → n ≡ suc (length ms) → HasSize zs q n
has-size zs q n ms h e = record {
  within = (
      let l : length zs ≡ length h.before + suc (length ms + length h.after) = ap length h.list ∙ length-append h.before (n ∷ (ms ++ h.after)) ∙ ap (λ k. length h.before + suc k) (length-append ms h.after) in
      let p : q ≡ length h.before = h.place in
      omega arith);
  size_is = rw (h.list, h.place) (get_or-append_seam h.before n (ms ++ h.after) 0);
}

first-holds : (zs : List ℕ) (q n : ℕ) (ks ls : List ℕ) → Holds zs q (n ∷ (ks ++ ls)) → Holds zs (q + 1) ks
first-holds zs q n ks ls h = record {
  before = h.before ++ n ∷ [];
  after = ls ++ h.after;
  list = h.list ∙ simp append_assoc;
  place = (let p : q ≡ length h.before = h.place in omega (arith, length-append h.before (n ∷ [])));
}

second-holds : (zs : List ℕ) (q n : ℕ) (ks ls : List ℕ) → Holds zs q (n ∷ (ks ++ ls)) → Holds zs (q + suc (length ks)) ls
second-holds zs q n ks ls h = record {
  before = h.before ++ n ∷ ks;
  after = h.after;
  list = h.list ∙ simp append_assoc;
  place = (let p : q ≡ length h.before = h.place in omega (arith, length-append h.before (n ∷ ks)));
}

only-holds : (zs : List ℕ) (q n : ℕ) (ks : List ℕ) → Holds zs q (n ∷ ks) → Holds zs (q + 1) ks
only-holds zs q n ks h = record {
  before = h.before ++ n ∷ [];
  after = h.after;
  list = h.list ∙ simp append_assoc;
  place = (let p : q ≡ length h.before = h.place in omega (arith, length-append h.before (n ∷ [])));
}

second-at : (zs : List ℕ) (q : ℕ) (a : Formula) (ls : List ℕ) → Holds zs (q + suc (length (sizes_of a))) ls → Holds zs (q + suc (size a)) ls
second-at zs q a ls h = subst (λ n. Holds zs (q + suc n) ls) (length-sizes_of a) h

pub held-sizes : (f : Formula) (zs : List ℕ) (q : ℕ) → Holds zs q (sizes_of f) → HasSizes zs q f
held-sizes (atom p ts) zs q h = has-size zs q 1 [] h refl
held-sizes (neg a) zs q h = (has-size zs q _ _ h (ap suc (sym (length-sizes_of a))), held-sizes a zs (q + 1) (only-holds zs q _ _ h))
held-sizes (conj a b) zs q h = (has-size zs q _ _ h (two-size a b), (held-sizes a zs (q + 1) (first-holds zs q _ _ (sizes_of b) h), held-sizes b zs (q + suc (size a)) (second-at zs q a (sizes_of b) (second-holds zs q _ (sizes_of a) _ h))))
held-sizes (disj a b) zs q h = (has-size zs q _ _ h (two-size a b), (held-sizes a zs (q + 1) (first-holds zs q _ _ (sizes_of b) h), held-sizes b zs (q + suc (size a)) (second-at zs q a (sizes_of b) (second-holds zs q _ (sizes_of a) _ h))))
held-sizes (imp a b) zs q h = (has-size zs q _ _ h (two-size a b), (held-sizes a zs (q + 1) (first-holds zs q _ _ (sizes_of b) h), held-sizes b zs (q + suc (size a)) (second-at zs q a (sizes_of b) (second-holds zs q _ (sizes_of a) _ h))))
held-sizes (all a) zs q h = (has-size zs q _ _ h (ap suc (sym (length-sizes_of a))), held-sizes a zs (q + 1) (only-holds zs q _ _ h))
held-sizes (ex a) zs q h = (has-size zs q _ _ h (ap suc (sym (length-sizes_of a))), held-sizes a zs (q + 1) (only-holds zs q _ _ h))
held-sizes (box a) zs q h = (has-size zs q _ _ h (ap suc (sym (length-sizes_of a))), held-sizes a zs (q + 1) (only-holds zs q _ _ h))
held-sizes (dia a) zs q h = (has-size zs q _ _ h (ap suc (sym (length-sizes_of a))), held-sizes a zs (q + 1) (only-holds zs q _ _ h))

-- the sizes of the whole formula
pub whole-sizes : (f : Formula) (zs : List ℕ) → zs ≡ sizes_of f → HasSizes zs 0 f
whole-sizes f zs e = held-sizes f zs 0 (record { before = []; after = []; list = e ∙ sym (append-nil (sizes_of f)); place = refl })

pub ruleset whole = (whole-sizes)
