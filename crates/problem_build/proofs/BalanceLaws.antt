-- A list has one balanced join: the one that is computed.
use Rattle.std.proofs.Common.{◌≡◌, ◌⊎◌, ℕ, zero, suc, ◌+◌, ◌-◌, ◌/◌, ◌≤◌, List, [], ◌∷◌, ◌++◌, length, take, drop, refl, sym, ◌∙◌, ap, subst, inl, inr, arith, map, append_assoc}
use Rattle.std.proofs.lemmas.List.{take-append-drop, length-append, length-drop, length-take-le, map-append, length-map}
use Rattle.std.proofs.Math.Seq.{drop-append_seam, take-append_seam}
use Rattle.problem_build.specs.Balance.{IsBalanced, one, halves, balanced, balanced_by}

pub balanced-some : {A : Type 0} (join : A → A → A) (xs : List A) (x : A) → IsBalanced join xs x → 1 ≤ length xs
balanced-some join _ _ (one x) = omega arith
balanced-some join _ _ (halves xs ys x y e p q) = let h = balanced-some join xs x p in omega (arith, length-append xs ys)

-- ---- halves of a list

-- the first half
half-is : (a b n : ℕ) → (a ≡ b) ⊎ (a ≡ suc b) → n ≡ a + b → (n + 1) / 2 ≡ a
half-is a b n (inl e) k = omega arith
half-is a b n (inr e) k = omega arith

halved-cut : {A : Type 0} (d : A) (join : A → A → A) (n : ℕ) (zs : List A) → 2 ≤ length zs → balanced_by join d (suc n) zs ≡ join (balanced_by join d n (take ((length zs + 1) / 2) zs)) (balanced_by join d n (drop ((length zs + 1) / 2) zs))
halved-cut d join n [] h = absurd (omega arith)
halved-cut d join n (x ∷ []) h = absurd (omega arith)
halved-cut d join n (x ∷ y ∷ ys) h = refl

pub balanced-is : {A : Type 0} (d : A) (join : A → A → A) (xs : List A) (x : A) → IsBalanced join xs x → (n : ℕ) → length xs ≤ suc n → x ≡ balanced_by join d n xs
balanced-is d join _ _ (one x) n h = refl
balanced-is d join _ _ (halves xs ys x y e p q) zero h =
    let a = balanced-some join xs x p in let b = balanced-some join ys y q in absurd (omega (arith, length-append xs ys))
balanced-is d join _ _ (halves xs ys x y e p q) (suc n) h =
    let a : 1 ≤ length xs = balanced-some join xs x p in
    let b : 1 ≤ length ys = balanced-some join ys y q in
    let l : length (xs ++ ys) ≡ length xs + length ys = length-append xs ys in
    let k : (length (xs ++ ys) + 1) / 2 ≡ length xs = half-is (length xs) (length ys) (length (xs ++ ys)) e l in
    let t : take ((length (xs ++ ys) + 1) / 2) (xs ++ ys) ≡ xs = ap (λ i. take i (xs ++ ys)) k ∙ take-append_seam xs ys in
    let r : drop ((length (xs ++ ys) + 1) / 2) (xs ++ ys) ≡ ys = ap (λ i. drop i (xs ++ ys)) k ∙ drop-append_seam xs ys in
    let i = balanced-is d join xs x p n (omega arith) in
    let j = balanced-is d join ys y q n (omega arith) in
    let s = halved-cut d join n (xs ++ ys) (omega arith) in
    ap (λ v. join v y) i ∙ ap (λ v. join (balanced_by join d n xs) v) j ∙ ap (λ v. join (balanced_by join d n v) (balanced_by join d n ys)) (sym t) ∙ ap (λ v. join (balanced_by join d n (take ((length (xs ++ ys) + 1) / 2) (xs ++ ys))) (balanced_by join d n v)) (sym r) ∙ sym s

two-halves : (n a b : ℕ) → a ≡ (n + 1) / 2 → b ≡ n - a → (a ≡ b) ⊎ (a ≡ suc b)
two-halves n a b p q = grind arith

pub halved-balanced : {A : Type 0} (d : A) (join : A → A → A) (n : ℕ) (xs : List A) → 1 ≤ length xs → length xs ≤ suc n → IsBalanced join xs (balanced_by join d n xs)
halved-balanced d join n [] h k = absurd (omega arith)
halved-balanced d join n (x ∷ []) h k = one x
halved-balanced d join zero (x ∷ y ∷ ys) h k = absurd (omega arith)
halved-balanced d join (suc n) (x ∷ y ∷ ys) h k =
    let zs : List _ = x ∷ y ∷ ys in
    let l : ℕ = length zs in
    let lt : length (take ((length (x ∷ y ∷ ys) + 1) / 2) (x ∷ y ∷ ys)) ≡ (length (x ∷ y ∷ ys) + 1) / 2 = length-take-le ((length (x ∷ y ∷ ys) + 1) / 2) (x ∷ y ∷ ys) (within (length (x ∷ y ∷ ys)) (omega arith)) in
    let ld : length (drop ((length (x ∷ y ∷ ys) + 1) / 2) (x ∷ y ∷ ys)) ≡ length (x ∷ y ∷ ys) - (length (x ∷ y ∷ ys) + 1) / 2 = length-drop ((length (x ∷ y ∷ ys) + 1) / 2) (x ∷ y ∷ ys) in
    let b = bounds (length (x ∷ y ∷ ys)) ((length (x ∷ y ∷ ys) + 1) / 2) n refl (omega arith) k in
    subst (λ ws. IsBalanced join ws (balanced_by join d (suc n) (x ∷ y ∷ ys))) (take-append-drop ((length (x ∷ y ∷ ys) + 1) / 2) (x ∷ y ∷ ys))
    (halves (take ((length (x ∷ y ∷ ys) + 1) / 2) (x ∷ y ∷ ys)) (drop ((length (x ∷ y ∷ ys) + 1) / 2) (x ∷ y ∷ ys)) _ _
    (two-halves (length (x ∷ y ∷ ys)) _ _ lt (ld ∙ ap (λ i. length (x ∷ y ∷ ys) - i) (sym lt)))
    (halved-balanced d join n (take ((length (x ∷ y ∷ ys) + 1) / 2) (x ∷ y ∷ ys)) (at_least (sym lt) b.0) (at_most (sym lt) b.1))
    (halved-balanced d join n (drop ((length (x ∷ y ∷ ys) + 1) / 2) (x ∷ y ∷ ys)) (at_least (sym ld) b.2) (at_most (sym ld) b.3)))
  where
    within : (n : ℕ) → 2 ≤ n → (n + 1) / 2 ≤ n
    within n h = omega arith

    bounds : (n h m : ℕ) → h ≡ (n + 1) / 2 → 2 ≤ n → n ≤ suc (suc m) → (1 ≤ h) × (h ≤ suc m) × (1 ≤ n - h) × (n - h ≤ suc m)
    bounds n h m e p q = (omega arith, omega arith, omega arith, omega arith)

    at_least : {a b : ℕ} → a ≡ b → 1 ≤ a → 1 ≤ b
    at_least e h = omega arith

    at_most : {a b : ℕ} → {m : ℕ} → a ≡ b → a ≤ suc m → b ≤ suc m
    at_most e h = omega arith

-- what is computed is a balanced join, and there is no other
pub balanced-balanced : {A : Type 0} (join : A → A → A) (a : A) (bs : List A) → IsBalanced join (a ∷ bs) (balanced join a bs)
balanced-balanced join a bs = halved-balanced a join (length bs) (a ∷ bs) (omega arith) (omega arith)

pub balanced-alone : {A : Type 0} (join : A → A → A) (a x : A) (bs : List A) → IsBalanced join (a ∷ bs) x → x ≡ balanced join a bs
balanced-alone join a x bs h = balanced-is a join (a ∷ bs) x h (length bs) (omega arith)

-- ---- what holds of a balanced join

pub balanced-map : {A B : Type 0} (f : A → B) (join : A → A → A) (k : B → B → B) → ((x y : A) → f (join x y) ≡ k (f x) (f y)) → (xs : List A) (x : A) → IsBalanced join xs x → IsBalanced k (map f xs) (f x)
balanced-map f join k hom _ _ (one x) = one (f x)
balanced-map f join k hom _ _ (halves xs ys x y e p q) =
    let a = balanced-map f join k hom xs x p in
    let b = balanced-map f join k hom ys y q in
    let n : (length (map f xs) ≡ length (map f ys)) ⊎ (length (map f xs) ≡ suc (length (map f ys))) = sizes (length-map xs f) (length-map ys f) e in
    subst (λ z. IsBalanced k (map f (xs ++ ys)) z) (sym (hom x y)) (subst (λ zs. IsBalanced k zs (k (f x) (f y))) (sym (map-append f xs ys)) (halves (map f xs) (map f ys) (f x) (f y) n a b))
  where
    sizes : {a b c d : ℕ} → a ≡ c → b ≡ d → (c ≡ d) ⊎ (c ≡ suc d) → (a ≡ b) ⊎ (a ≡ suc b)
    sizes p q (inl e) = inl (omega arith)
    sizes p q (inr e) = inr (omega arith)

abbrev pub total : List ℕ → ℕ
total [] = 0
total (n ∷ ns) = suc n + total ns

total-append : (xs ys : List ℕ) → total (xs ++ ys) ≡ total xs + total ys
total-append [] ys = omega arith
total-append (x ∷ xs) ys = let h = total-append xs ys in omega arith

pub balanced-total : (xs : List ℕ) (x : ℕ) → IsBalanced (λ a b. suc (a + b)) xs x → suc x ≡ total xs
balanced-total _ _ (one x) = omega arith
balanced-total _ _ (halves xs ys x y e p q) = let a = balanced-total xs x p in let b = balanced-total ys y q in omega (arith, total-append xs ys)

-- a cut of the last items, and again of these
pub joined-halves : {A V : Type 0} (f : A → V) (join : V → V → V) (items mid after : List A) (count k : ℕ) (l r : V) (front back : List A)
    → ((fr ba : List A) → items ≡ fr ++ ba → length ba ≡ k → IsBalanced join (map f ba) r × (mid ≡ fr))
    → ((fr ba : List A) → mid ≡ fr ++ ba → length ba ≡ count - k → IsBalanced join (map f ba) l × (after ≡ fr))
    → k ≡ count / 2 → items ≡ front ++ back → length back ≡ count → IsBalanced join (map f back) (join l r) × (after ≡ front)
joined-halves f join items mid after count k l r front back first second ek e n =
    let h : ℕ = count - k in
    let cut : take (count - k) back ++ drop (count - k) back ≡ back = take-append-drop (count - k) back in
    let lt : length (take (count - k) back) ≡ count - k = length-take-le (count - k) back (omega arith) in
    let ld : length (drop (count - k) back) ≡ k = length-drop (count - k) back ∙ left_over _ count k n ek in
    let one_half = first (front ++ take (count - k) back) (drop (count - k) back) (e ∙ ap (λ ys. front ++ ys) (sym cut) ∙ sym (append_assoc front (take (count - k) back) (drop (count - k) back))) ld in
    let other = second front (take (count - k) back) one_half.1 lt in
    let ml : length (map f (take (count - k) back)) ≡ count - k = length-map (take (count - k) back) f ∙ lt in
    let mr : length (map f (drop (count - k) back)) ≡ k = length-map (drop (count - k) back) f ∙ ld in
    let sizes : (length (map f (take (count - k) back)) ≡ length (map f (drop (count - k) back))) ⊎ (length (map f (take (count - k) back)) ≡ suc (length (map f (drop (count - k) back)))) = near count k _ _ ek ml mr in
    (subst (λ zs. IsBalanced join zs (join l r)) (sym (map-append f (take (count - k) back) (drop (count - k) back)) ∙ ap (map f) cut) (halves (map f (take (count - k) back)) (map f (drop (count - k) back)) l r sizes other.0 one_half.0), other.1)
  where
    left_over : (m n k : ℕ) → m ≡ n → k ≡ n / 2 → m - (n - k) ≡ k
    left_over m n k e p = omega arith

    near : (n k a b : ℕ) → k ≡ n / 2 → a ≡ n - k → b ≡ k → (a ≡ b) ⊎ (a ≡ suc b)
    near n k a b e p q = grind arith

-- the last item alone
pub joined-one : {A V : Type 0} (f : A → V) (join : V → V → V) (items after : List A) (x : A) (front back : List A)
    → items ≡ after ++ x ∷ [] → items ≡ front ++ back → length back ≡ 1 → IsBalanced join (map f back) (f x) × (after ≡ front)
joined-one f join items after x front [] e k n = absurd (omega arith)
joined-one f join items after x front (y ∷ []) e k n =
    let same : after ++ x ∷ [] ≡ front ++ y ∷ [] = sym e ∙ k in
    let l : length after ≡ length front = omega (arith, length-append after (x ∷ []), length-append front (y ∷ []), ap length same) in
    let a : after ≡ front = sym (take-append_seam after (x ∷ [])) ∙ (λ i. take (l i) (same i)) ∙ take-append_seam front (y ∷ []) in
    let b : x ∷ [] ≡ y ∷ [] = sym (drop-append_seam after (x ∷ [])) ∙ (λ i. drop (l i) (same i)) ∙ drop-append_seam front (y ∷ []) in
    (subst (λ v. IsBalanced join (f y ∷ []) v) (ap f (sym (item-same x y b))) (one (f y)), a)
  where
    item-same : {A : Type 0} (x y : A) → x ∷ [] ≡ y ∷ [] → x ≡ y
    item-same x y e = cc
joined-one f join items after x front (y ∷ z ∷ zs) e k n = absurd (omega arith)
