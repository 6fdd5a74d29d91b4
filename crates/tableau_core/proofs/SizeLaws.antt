-- The sizes of the parts of a formula: appended in preorder, and found again part by part.
use Rattle.std.proofs.Common.{◌≡◌, ℕ, zero, suc, ◌+◌, ◌-◌, ◌<◌, List, [], ◌∷◌, ◌++◌, length, take, drop, slice_index, refl, sym, ◌∙◌, ap, subst, arith, append_assoc, length-append, length-drop, slice_set}
use Rattle.std.specs.Prelude.{⊤}
use Rattle.std.proofs.lemmas.List.{take_all, take_rest}
use Rattle.std.proofs.Math.Seq.{set-append_seam}
use Rattle.calculus.specs.declared.kind.Shape.{Shape}
use Rattle.calculus.specs.declared.kind.Shape.TheVariants as shape
use Rattle.calculus.specs.declared.sign.Sign.{Sign}
use Rattle.calculus.specs.declared.sign.Sign.TheVariants.{T, F}
use Rattle.calculus.specs.Kinds.{Signed, components, shape_of}
use Rattle.calculus.specs.Syntax.{Formula, atom, neg, conj, disj, imp, all, ex, box, dia}
use Rattle.calculus.specs.Positions.{size}
use Rattle.tableau_core.specs.Sizes.{sizes_of, sizes_below, BeginsWithSizes}

pub length-sizes_of : (f : Formula) → length (sizes_of f) ≡ size f
length-sizes_of (atom p ts) = refl
length-sizes_of (neg a) = omega (arith, length-sizes_of a)
length-sizes_of (conj a b) = omega (arith, length-sizes_of a, length-sizes_of b, length-append (sizes_of a) (sizes_of b))
length-sizes_of (disj a b) = omega (arith, length-sizes_of a, length-sizes_of b, length-append (sizes_of a) (sizes_of b))
length-sizes_of (imp a b) = omega (arith, length-sizes_of a, length-sizes_of b, length-append (sizes_of a) (sizes_of b))
length-sizes_of (all a) = omega (arith, length-sizes_of a)
length-sizes_of (ex a) = omega (arith, length-sizes_of a)
length-sizes_of (box a) = omega (arith, length-sizes_of a)
length-sizes_of (dia a) = omega (arith, length-sizes_of a)

-- ---- appending them

two-size : (a b : Formula) → suc (size a + size b) ≡ suc (length (sizes_of a ++ sizes_of b))
two-size a b = omega (arith, length-sizes_of a, length-sizes_of b, length-append (sizes_of a) (sizes_of b))

sizes_of-below : (f : Formula) → sizes_of f ≡ suc (length (sizes_below f)) ∷ sizes_below f
sizes_of-below (atom p ts) = refl
sizes_of-below (neg a) = ap (λ n. suc n ∷ sizes_of a) (sym (length-sizes_of a))
sizes_of-below (conj a b) = ap (λ n. n ∷ (sizes_of a ++ sizes_of b)) (two-size a b)
sizes_of-below (disj a b) = ap (λ n. n ∷ (sizes_of a ++ sizes_of b)) (two-size a b)
sizes_of-below (imp a b) = ap (λ n. n ∷ (sizes_of a ++ sizes_of b)) (two-size a b)
sizes_of-below (all a) = ap (λ n. suc n ∷ sizes_of a) (sym (length-sizes_of a))
sizes_of-below (ex a) = ap (λ n. suc n ∷ sizes_of a) (sym (length-sizes_of a))
sizes_of-below (box a) = ap (λ n. suc n ∷ sizes_of a) (sym (length-sizes_of a))
sizes_of-below (dia a) = ap (λ n. suc n ∷ sizes_of a) (sym (length-sizes_of a))

size-below : (f : Formula) → suc (length (sizes_below f)) ≡ size f
size-below f = sym (ap length (sizes_of-below f)) ∙ length-sizes_of f

-- the size of the whole formula, put where a number stood before those of its proper parts
pub patched_sizes : (f : Formula) (old new : List ℕ) (n start total : ℕ) → new ≡ (old ++ n ∷ []) ++ sizes_below f → start ≡ length old → total ≡ length new → slice_set new start (total - start) ≡ old ++ sizes_of f
patched_sizes f old new n start total e p q =
    let whole : new ≡ old ++ n ∷ sizes_below f = e ∙ simp append_assoc in
    let l : length new ≡ length old + suc (length (sizes_below f)) = ap length whole ∙ length-append old (n ∷ sizes_below f) in
    let d : total - start ≡ suc (length (sizes_below f)) = omega arith in
    rw (d, p, whole, sizes_of-below f) (set-append_seam old n (sizes_below f) (suc (length (sizes_below f))))

-- that size
pub patched-size : (f : Formula) (old new : List ℕ) (n start total : ℕ) → new ≡ (old ++ n ∷ []) ++ sizes_below f → start ≡ length old → total ≡ length new → total - start ≡ size f
patched-size f old new n start total e p q =
    let whole : new ≡ old ++ n ∷ sizes_below f = e ∙ simp append_assoc in
    let l : length new ≡ length old + suc (length (sizes_below f)) = ap length whole ∙ length-append old (n ∷ sizes_below f) in
    let s = size-below f in
    omega arith

pub ruleset appended = (patched_sizes, patched-size)

-- ---- finding them

begins-list : (n x : ℕ) (zs xs : List ℕ) → take (suc n) zs ≡ x ∷ xs → zs ≡ x ∷ drop 1 zs
begins-list n x [] xs e = grind arith
begins-list n x (z ∷ zs) xs e = grind arith

begins-rest : (n x : ℕ) (zs xs : List ℕ) → take (suc n) zs ≡ x ∷ xs → take n (drop 1 zs) ≡ xs
begins-rest n x [] xs e = grind arith
begins-rest n x (z ∷ zs) xs e = grind arith

-- two lists one behind the other
front : (k n : ℕ) (zs xs ys : List ℕ) → k ≡ length xs + n → take k zs ≡ xs ++ ys → take (length xs) zs ≡ xs
front k n zs [] ys l e = refl
front zero n zs (x ∷ xs) ys l e = absurd (omega arith)
front (suc k) n [] (x ∷ xs) ys l e = grind arith
front (suc k) n (z ∷ zs) (x ∷ xs) ys l e = let h = front k n zs xs ys (omega arith) (grind arith) in grind arith

back : (k n : ℕ) (zs xs ys : List ℕ) → k ≡ length xs + n → take k zs ≡ xs ++ ys → take n (drop (length xs) zs) ≡ ys
back k n zs [] ys l e = let m : k ≡ n = omega arith in subst (λ i. take i zs ≡ ys) m e
back zero n zs (x ∷ xs) ys l e = absurd (omega arith)
back (suc k) n [] (x ∷ xs) ys l e = grind arith
back (suc k) n (z ∷ zs) (x ∷ xs) ys l e = back k n zs xs ys (omega arith) (grind arith)

drop-drop : (n : ℕ) (zs : List ℕ) → drop n (drop 1 zs) ≡ drop (suc n) zs
drop-drop zero [] = refl
drop-drop (suc n) [] = refl
drop-drop n (z ∷ zs) = refl

-- what stands for two components behind the size of the whole
pub record HasTwo (zs : List ℕ) (a b : Formula) : Type 0 where
  pub first : BeginsWithSizes (drop 1 zs) a
  pub second : BeginsWithSizes (drop (suc (size a)) zs) b

two : (x : ℕ) (zs : List ℕ) (a b : Formula) → take (suc (size a + size b)) zs ≡ x ∷ (sizes_of a ++ sizes_of b) → HasTwo zs a b
two x zs a b e =
    let l = length-sizes_of a in
    let r = begins-rest (size a + size b) x zs (sizes_of a ++ sizes_of b) e in
    let k : size a + size b ≡ length (sizes_of a) + size b = omega arith in record {
      first = subst (λ n. take n (drop 1 zs) ≡ sizes_of a) l (front (size a + size b) (size b) (drop 1 zs) (sizes_of a) (sizes_of b) k r);
      second = subst (λ ws. take (size b) ws ≡ sizes_of b) (drop-drop (size a) zs) (subst (λ n. take (size b) (drop n (drop 1 zs)) ≡ sizes_of b) l (back (size a + size b) (size b) (drop 1 zs) (sizes_of a) (sizes_of b) k r));
    }

-- what stands for components behind the size of the whole
abbrev pub HasParts : List ℕ → Shape → List Signed → Type 0
HasParts zs shape.Literal cs = ⊤
HasParts zs h [] = ⊤
HasParts zs h (a ∷ []) = BeginsWithSizes (drop 1 zs) a.formula
HasParts zs h (a ∷ b ∷ cs) = HasTwo zs a.formula b.formula

sized-parts : (zs : List ℕ) (s : Sign) (f : Formula) → BeginsWithSizes zs f → HasParts zs (shape_of s f) (components s f)
sized-parts zs s (atom p ts) h = tt
sized-parts zs s (neg a) h = begins-rest (size a) _ zs _ h
sized-parts zs T (conj a b) h = two _ zs a b h
sized-parts zs F (conj a b) h = two _ zs a b h
sized-parts zs T (disj a b) h = two _ zs a b h
sized-parts zs F (disj a b) h = two _ zs a b h
sized-parts zs T (imp a b) h = two _ zs a b h
sized-parts zs F (imp a b) h = two _ zs a b h
sized-parts zs T (all a) h = begins-rest (size a) _ zs _ h
sized-parts zs F (all a) h = begins-rest (size a) _ zs _ h
sized-parts zs T (ex a) h = begins-rest (size a) _ zs _ h
sized-parts zs F (ex a) h = begins-rest (size a) _ zs _ h
sized-parts zs s (box a) h = begins-rest (size a) _ zs _ h
sized-parts zs s (dia a) h = begins-rest (size a) _ zs _ h

-- of components that the program has
pub parts-of : (zs : List ℕ) (s : Sign) (f : Formula) (h : Shape) (cs : List Signed) → h ≡ shape_of s f → cs ≡ components s f → BeginsWithSizes zs f → HasParts zs h cs
parts-of zs s f h cs e g p = rw (e, g) (sized-parts zs s f p)

size-here : (zs : List ℕ) (f : Formula) → BeginsWithSizes zs f → zs ≡ size f ∷ drop 1 zs
size-here zs (atom p ts) h = begins-list 0 _ zs _ h
size-here zs (neg a) h = begins-list (size a) _ zs _ h
size-here zs (conj a b) h = begins-list (size a + size b) _ zs _ h
size-here zs (disj a b) h = begins-list (size a + size b) _ zs _ h
size-here zs (imp a b) h = begins-list (size a + size b) _ zs _ h
size-here zs (all a) h = begins-list (size a) _ zs _ h
size-here zs (ex a) h = begins-list (size a) _ zs _ h
size-here zs (box a) h = begins-list (size a) _ zs _ h
size-here zs (dia a) h = begins-list (size a) _ zs _ h

pub some-sizes : (zs : List ℕ) (f : Formula) → BeginsWithSizes zs f → 0 < length zs
some-sizes zs f h = let e : length zs ≡ suc (length (drop 1 zs)) = ap length (size-here zs f h) in omega arith

pub first-size : (zs : List ℕ) (f : Formula) → BeginsWithSizes zs f → slice_index zs 0 ≡ size f
first-size zs f h = rw (size-here zs f h) refl

-- behind some of them
pub behind-some : (i : ℕ) (zs : List ℕ) (f : Formula) → BeginsWithSizes (drop i zs) f → i < length zs
behind-some i zs f h = let s = some-sizes (drop i zs) f h in omega (arith, length-drop i zs)

pub behind-size : (zs : List ℕ) (f : Formula) → BeginsWithSizes (drop 1 zs) f → slice_index zs 1 ≡ size f
behind-size [] f h = first-size [] f h
behind-size (z ∷ zs) f h = first-size zs f h

pub behind-rest : (i : ℕ) (zs : List ℕ) (f : Formula) → BeginsWithSizes (drop i zs) f → BeginsWithSizes (take (length zs - i) (drop i zs)) f
behind-rest i zs f h = subst (λ ws. take (size f) ws ≡ sizes_of f) (sym (take_rest zs i)) h

-- all of them
pub whole-sizes : (zs : List ℕ) (f g : Formula) → zs ≡ sizes_of f → g ≡ f → BeginsWithSizes zs g
whole-sizes zs f g e d = rw (d, e) (subst (λ n. take n (sizes_of f) ≡ sizes_of f) (length-sizes_of f) (take_all (length (sizes_of f)) (sizes_of f) (omega arith)))

pub ruleset sized = (some-sizes, first-size, behind-some, behind-size, behind-rest)

pub ruleset whole = (whole-sizes)
