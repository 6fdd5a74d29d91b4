-- What a transfer makes of labels, terms and formulas: prefixes, instances and the names inside are kept.
use Rattle.std.proofs.Common.{◌≡◌, ℕ, suc, List, [], ◌∷◌, ◌++◌, Bool, true, false, ◌==◌, refl, sym, ◌∙◌, ap, subst, inl, inr, append_assoc, append-nil, eq-eqb}
use Rattle.std.specs.List.{AllByRecursion, list_any}
use Rattle.std.specs.Ordering.{nat_cmp}
use Rattle.std.specs.declared.cmp.Ordering.{Ordering}
use Rattle.std.specs.declared.cmp.Ordering.TheVariants.{Less, Equal, Greater}
use Rattle.std.proofs.lemmas.Bool.{false≢true, cases_Bool, and_parts, and_from, or_parts}
use Rattle.calculus.specs.Syntax.{Term, Terms, var, fun, eigen, spare, no_terms, more_terms, Formula, atom, neg, conj, disj, imp, all, ex, box, dia}
use Rattle.calculus.specs.Labels.{is_prefix}
use Rattle.calculus.specs.Substitution.{put_for, term_with, terms_with, formula_with, any_leaf, any_leaf_of, any_leaf_in}
use Rattle.calculus.specs.Derivations.{Mark, new_mark, Label, character_eq}
use Rattle.calculus.specs.Calculus.{holds_character, is_eigen}
use Rattle.calculus.specs.Translation.{translation_of}
use Rattle.godel_transfer.specs.Transfer.{CharacterImage, EigenImage, mark_image, label_image, eigen_image, term_image, terms_image, formula_image}
use Rattle.calculus.proofs.EqualityLaws.{character_eq-tells}

-- ---- tests of lists

pub any-fails : {A : Type 0} (p q : A → Bool) → ((x : A) → p x ≡ false → q x ≡ false) → (xs : List A) → list_any p xs ≡ false → list_any q xs ≡ false
any-fails p q h [] e = refl
any-fails p q h (x ∷ xs) e = let r = or_parts (p x) (list_any p xs) e in rw (h x r.0) (any-fails p q h xs r.1)

pub any-none : {A : Type 0} (p : A → Bool) (xs ys : List A) → list_any p xs ≡ false → list_any p ys ≡ false → list_any p (xs ++ ys) ≡ false
any-none p [] ys h g = g
any-none p (x ∷ xs) ys h g = let r = or_parts (p x) (list_any p xs) h in rw r.0 (any-none p xs ys r.1 g)

pub any-on_left : {A : Type 0} (p : A → Bool) (xs ys : List A) → list_any p xs ≡ true → list_any p (xs ++ ys) ≡ true
any-on_left p [] ys h = absurd (false≢true h)
any-on_left p (x ∷ xs) ys h = elim (cases_Bool (p x)) [ inl e ↦ rw e refl | inr e ↦ rw e (any-on_left p xs ys (rw e at h)) ]

pub any-on_right : {A : Type 0} (p : A → Bool) (xs ys : List A) → list_any p ys ≡ true → list_any p (xs ++ ys) ≡ true
any-on_right p [] ys h = h
any-on_right p (x ∷ xs) ys h = elim (cases_Bool (p x)) [ inl e ↦ rw e refl | inr e ↦ rw e (any-on_right p xs ys h) ]

-- ---- labels

pub prefix-rest : (w v : Label) → is_prefix character_eq w v ≡ true → (u : Label) × (v ≡ w ++ u)
prefix-rest [] v h = (v, refl)
prefix-rest (c ∷ w) [] h = absurd (false≢true h)
prefix-rest (c ∷ w) (d ∷ v) h =
    let parts = and_parts (character_eq c d) (is_prefix character_eq w v) h in
    let r = prefix-rest w v parts.1 in
    let same : c ≡ d = (character_eq-tells c d).0 parts.0 in
    (r.0, λ i. sym same i ∷ r.1 i)

pub prefix-more : (w u : Label) → is_prefix character_eq w (w ++ u) ≡ true
prefix-more [] u = refl
prefix-more (c ∷ w) u = and_from (character_eq c c) (is_prefix character_eq w (w ++ u)) ((character_eq-tells c c).1 refl) (prefix-more w u)

pub prefix-self : (w : Label) → is_prefix character_eq w w ≡ true
prefix-self w = subst (λ (v : Label). is_prefix character_eq w v ≡ true) (append-nil w) (prefix-more w [])

pub prefix-on : (w v u : Label) → is_prefix character_eq w v ≡ true → is_prefix character_eq v u ≡ true → is_prefix character_eq w u ≡ true
prefix-on w v u h g =
    let a = prefix-rest w v h in
    let b = prefix-rest v u g in
    subst (λ (x : Label). is_prefix character_eq w x ≡ true) (sym (b.1 ∙ ap (λ (x : Label). x ++ b.0) a.1 ∙ append_assoc w a.0 b.0)) (prefix-more w (a.0 ++ b.0))

pub label-append : (xs : List CharacterImage) (w v : Label) → label_image xs (w ++ v) ≡ label_image xs w ++ label_image xs v
label-append xs [] v = refl
label-append xs (m ∷ w) v = ap (λ (x : Label). mark_image xs m ++ x) (label-append xs w v) ∙ sym (append_assoc (mark_image xs m) (label_image xs w) (label_image xs v))

pub prefix-image : (xs : List CharacterImage) (w v : Label) → is_prefix character_eq w v ≡ true → is_prefix character_eq (label_image xs w) (label_image xs v) ≡ true
prefix-image xs w v h =
    let r = prefix-rest w v h in
    subst (λ (x : Label). is_prefix character_eq (label_image xs w) x ≡ true) (sym (ap (label_image xs) r.1 ∙ label-append xs w r.0)) (prefix-more (label_image xs w) (label_image xs r.0))

-- a character that does not stand in the label
pub label-new : (xs : List CharacterImage) (x : CharacterImage) (w : Label) → holds_character (new_mark x.number) w ≡ false → label_image (x ∷ xs) w ≡ label_image xs w
label-new xs x [] h = refl
label-new xs x (m ∷ w) h =
    let r = or_parts (character_eq (new_mark x.number) m) (holds_character (new_mark x.number) w) h in
    let same : mark_image (x ∷ xs) m ≡ mark_image xs m = rw r.0 refl in
    λ i. same i ++ label-new xs x w r.1 i

pub mark-new : (xs : List CharacterImage) (n : ℕ) (l : Label) → mark_image (record { number = n; label = l } ∷ xs) (new_mark n) ≡ l
mark-new xs n l = let e : (n == n) ≡ true = eq-eqb n n refl in rw e refl

-- ---- terms and formulas

mutual
  term-new : (xs : List EigenImage) (x : EigenImage) (t : Term) → any_leaf (is_eigen x.number) t ≡ false → term_image (x ∷ xs) t ≡ term_image xs t
  term-new xs x (var k) h = refl
  term-new xs x (fun f ts) h = ap (fun f) (terms-new xs x ts h)
  term-new xs x (eigen n) h = rw h refl
  term-new xs x (spare n) h = refl

  terms-new : (xs : List EigenImage) (x : EigenImage) (ts : Terms) → any_leaf_of (is_eigen x.number) ts ≡ false → terms_image (x ∷ xs) ts ≡ terms_image xs ts
  terms-new xs x no_terms h = refl
  terms-new xs x (more_terms t ts) h =
      let r = or_parts (any_leaf (is_eigen x.number) t) (any_leaf_of (is_eigen x.number) ts) h in
      λ i. more_terms (term-new xs x t r.0 i) (terms-new xs x ts r.1 i)

pub formula-new : (xs : List EigenImage) (x : EigenImage) (a : Formula) → any_leaf_in (is_eigen x.number) a ≡ false → formula_image (x ∷ xs) a ≡ formula_image xs a
formula-new xs x (atom p ts) h = ap (atom p) (terms-new xs x ts h)
formula-new xs x (neg a) h = ap neg (formula-new xs x a h)
formula-new xs x (conj a b) h = let r = or_parts (any_leaf_in (is_eigen x.number) a) (any_leaf_in (is_eigen x.number) b) h in λ i. conj (formula-new xs x a r.0 i) (formula-new xs x b r.1 i)
formula-new xs x (disj a b) h = let r = or_parts (any_leaf_in (is_eigen x.number) a) (any_leaf_in (is_eigen x.number) b) h in λ i. disj (formula-new xs x a r.0 i) (formula-new xs x b r.1 i)
formula-new xs x (imp a b) h = let r = or_parts (any_leaf_in (is_eigen x.number) a) (any_leaf_in (is_eigen x.number) b) h in λ i. imp (formula-new xs x a r.0 i) (formula-new xs x b r.1 i)
formula-new xs x (all a) h = ap all (formula-new xs x a h)
formula-new xs x (ex a) h = ap ex (formula-new xs x a h)
formula-new xs x (box a) h = ap box (formula-new xs x a h)
formula-new xs x (dia a) h = ap dia (formula-new xs x a h)

pub eigen-at : (xs : List EigenImage) (n j : ℕ) → eigen_image (record { number = n; image = j } ∷ xs) n ≡ eigen j
eigen-at xs n j = let e : (n == n) ≡ true = eq-eqb n n refl in rw e refl

-- instances of images are images of instances
put-image : (xs : List EigenImage) (t : Term) (k : ℕ) (o : Ordering) → term_image xs (put_for t k o) ≡ put_for (term_image xs t) k o
put-image xs t k Less = refl
put-image xs t k Equal = refl
put-image xs t k Greater = refl

eigen-with : (xs : List EigenImage) (t : Term) (d n : ℕ) → term_with t d (eigen_image xs n) ≡ eigen_image xs n
eigen-with [] t d n = refl
eigen-with (x ∷ xs) t d n = elim (cases_Bool (x.number == n)) [ inl e ↦ rw e refl | inr e ↦ rw e (eigen-with xs t d n) ]

mutual
  term-with : (xs : List EigenImage) (t : Term) (d : ℕ) (u : Term) → term_image xs (term_with t d u) ≡ term_with (term_image xs t) d (term_image xs u)
  term-with xs t d (var k) = put-image xs t k (nat_cmp k d)
  term-with xs t d (fun f us) = ap (fun f) (terms-with xs t d us)
  term-with xs t d (eigen n) = sym (eigen-with xs (term_image xs t) d n)
  term-with xs t d (spare n) = refl

  terms-with : (xs : List EigenImage) (t : Term) (d : ℕ) (us : Terms) → terms_image xs (terms_with t d us) ≡ terms_with (term_image xs t) d (terms_image xs us)
  terms-with xs t d no_terms = refl
  terms-with xs t d (more_terms u us) = λ i. more_terms (term-with xs t d u i) (terms-with xs t d us i)

pub formula-with : (xs : List EigenImage) (t : Term) (d : ℕ) (a : Formula) → formula_image xs (formula_with t d a) ≡ formula_with (term_image xs t) d (formula_image xs a)
formula-with xs t d (atom p us) = ap (atom p) (terms-with xs t d us)
formula-with xs t d (neg a) = ap neg (formula-with xs t d a)
formula-with xs t d (conj a b) = λ i. conj (formula-with xs t d a i) (formula-with xs t d b i)
formula-with xs t d (disj a b) = λ i. disj (formula-with xs t d a i) (formula-with xs t d b i)
formula-with xs t d (imp a b) = λ i. imp (formula-with xs t d a i) (formula-with xs t d b i)
formula-with xs t d (all a) = ap all (formula-with xs t (suc d) a)
formula-with xs t d (ex a) = ap ex (formula-with xs t (suc d) a)
formula-with xs t d (box a) = ap box (formula-with xs t d a)
formula-with xs t d (dia a) = ap dia (formula-with xs t d a)

pub translation-with : (t : Term) (d : ℕ) (a : Formula) → translation_of (formula_with t d a) ≡ formula_with t d (translation_of a)
translation-with t d (atom p us) = refl
translation-with t d (neg a) = λ i. box (neg (translation-with t d a i))
translation-with t d (conj a b) = λ i. conj (translation-with t d a i) (translation-with t d b i)
translation-with t d (disj a b) = λ i. disj (translation-with t d a i) (translation-with t d b i)
translation-with t d (imp a b) = λ i. box (imp (translation-with t d a i) (translation-with t d b i))
translation-with t d (all a) = λ i. box (all (translation-with t (suc d) a i))
translation-with t d (ex a) = λ i. ex (translation-with t (suc d) a i)
translation-with t d (box a) = λ i. box (translation-with t d a i)
translation-with t d (dia a) = λ i. dia (translation-with t d a i)

-- ---- what stands in them

mutual
  pub leaf-fails : (p q : Term → Bool) → ((t : Term) → p t ≡ false → q t ≡ false) → (t : Term) → any_leaf p t ≡ false → any_leaf q t ≡ false
  leaf-fails p q h (var k) e = h (var k) e
  leaf-fails p q h (fun f ts) e = leaves-fail p q h ts e
  leaf-fails p q h (eigen n) e = h (eigen n) e
  leaf-fails p q h (spare n) e = h (spare n) e

  leaves-fail : (p q : Term → Bool) → ((t : Term) → p t ≡ false → q t ≡ false) → (ts : Terms) → any_leaf_of p ts ≡ false → any_leaf_of q ts ≡ false
  leaves-fail p q h no_terms e = refl
  leaves-fail p q h (more_terms t ts) e = let r = or_parts (any_leaf p t) (any_leaf_of p ts) e in rw (leaf-fails p q h t r.0) (leaves-fail p q h ts r.1)

pub leaves-in : (p q : Term → Bool) → ((t : Term) → p t ≡ false → q t ≡ false) → (a : Formula) → any_leaf_in p a ≡ false → any_leaf_in q a ≡ false
leaves-in p q h (atom r ts) e = leaves-fail p q h ts e
leaves-in p q h (neg a) e = leaves-in p q h a e
leaves-in p q h (conj a b) e = let r = or_parts (any_leaf_in p a) (any_leaf_in p b) e in rw (leaves-in p q h a r.0) (leaves-in p q h b r.1)
leaves-in p q h (disj a b) e = let r = or_parts (any_leaf_in p a) (any_leaf_in p b) e in rw (leaves-in p q h a r.0) (leaves-in p q h b r.1)
leaves-in p q h (imp a b) e = let r = or_parts (any_leaf_in p a) (any_leaf_in p b) e in rw (leaves-in p q h a r.0) (leaves-in p q h b r.1)
leaves-in p q h (all a) e = leaves-in p q h a e
leaves-in p q h (ex a) e = leaves-in p q h a e
leaves-in p q h (box a) e = leaves-in p q h a e
leaves-in p q h (dia a) e = leaves-in p q h a e

-- the leaves of an image are variables, images of eigenvariables and the spare constant 1
pub each-fails : (p : Term → Bool) → p (spare 1) ≡ false → (xs : List EigenImage) → AllByRecursion (λ x. p (eigen x.image) ≡ false) xs → (n : ℕ) → any_leaf p (eigen_image xs n) ≡ false
each-fails p s [] h n = s
each-fails p s (x ∷ xs) h n = elim (cases_Bool (x.number == n)) [ inl e ↦ rw e h.0 | inr e ↦ rw e (each-fails p s xs h.1 n) ]

mutual
  -- what fails for the leaves of a term fails for those of its image
  pub image-fails : (p q : Term → Bool) (xs : List EigenImage) → ((k : ℕ) → p (var k) ≡ false → q (var k) ≡ false) → ((n : ℕ) → p (eigen n) ≡ false → any_leaf q (eigen_image xs n) ≡ false) → q (spare 1) ≡ false → (t : Term) → any_leaf p t ≡ false → any_leaf q (term_image xs t) ≡ false
  image-fails p q xs v h s (var k) e = v k e
  image-fails p q xs v h s (fun f ts) e = images-fail p q xs v h s ts e
  image-fails p q xs v h s (eigen n) e = h n e
  image-fails p q xs v h s (spare n) e = s

  images-fail : (p q : Term → Bool) (xs : List EigenImage) → ((k : ℕ) → p (var k) ≡ false → q (var k) ≡ false) → ((n : ℕ) → p (eigen n) ≡ false → any_leaf q (eigen_image xs n) ≡ false) → q (spare 1) ≡ false → (ts : Terms) → any_leaf_of p ts ≡ false → any_leaf_of q (terms_image xs ts) ≡ false
  images-fail p q xs v h s no_terms e = refl
  images-fail p q xs v h s (more_terms t ts) e = let r = or_parts (any_leaf p t) (any_leaf_of p ts) e in rw (image-fails p q xs v h s t r.0) (images-fail p q xs v h s ts r.1)

mutual
  pub term-leaves : (q : Term → Bool) (xs : List EigenImage) → ((k : ℕ) → q (var k) ≡ false) → ((n : ℕ) → any_leaf q (eigen_image xs n) ≡ false) → q (spare 1) ≡ false → (t : Term) → any_leaf q (term_image xs t) ≡ false
  term-leaves q xs v h s (var k) = v k
  term-leaves q xs v h s (fun f ts) = terms-leaves q xs v h s ts
  term-leaves q xs v h s (eigen n) = h n
  term-leaves q xs v h s (spare n) = s

  terms-leaves : (q : Term → Bool) (xs : List EigenImage) → ((k : ℕ) → q (var k) ≡ false) → ((n : ℕ) → any_leaf q (eigen_image xs n) ≡ false) → q (spare 1) ≡ false → (ts : Terms) → any_leaf_of q (terms_image xs ts) ≡ false
  terms-leaves q xs v h s no_terms = refl
  terms-leaves q xs v h s (more_terms t ts) = rw (term-leaves q xs v h s t) (terms-leaves q xs v h s ts)

pub translation-leaves : (q : Term → Bool) (xs : List EigenImage) → ((k : ℕ) → q (var k) ≡ false) → ((n : ℕ) → any_leaf q (eigen_image xs n) ≡ false) → q (spare 1) ≡ false → (a : Formula) → any_leaf_in q (translation_of (formula_image xs a)) ≡ false
translation-leaves q xs v h s (atom p ts) = terms-leaves q xs v h s ts
translation-leaves q xs v h s (neg a) = translation-leaves q xs v h s a
translation-leaves q xs v h s (conj a b) = rw (translation-leaves q xs v h s a) (translation-leaves q xs v h s b)
translation-leaves q xs v h s (disj a b) = rw (translation-leaves q xs v h s a) (translation-leaves q xs v h s b)
translation-leaves q xs v h s (imp a b) = rw (translation-leaves q xs v h s a) (translation-leaves q xs v h s b)
translation-leaves q xs v h s (all a) = translation-leaves q xs v h s a
translation-leaves q xs v h s (ex a) = translation-leaves q xs v h s a
translation-leaves q xs v h s (box a) = translation-leaves q xs v h s a
translation-leaves q xs v h s (dia a) = translation-leaves q xs v h s a

-- characters of images
pub label-marks : (q : Mark → Bool) (xs : List CharacterImage) → AllByRecursion (λ x. list_any q x.label ≡ false) xs → (w : Label) → list_any q (label_image xs w) ≡ false
label-marks q xs h [] = refl
label-marks q xs h (m ∷ w) = any-none q (mark_image xs m) (label_image xs w) (each-mark q xs h m) (label-marks q xs h w)
  where
    each-mark : (q : Mark → Bool) (xs : List CharacterImage) → AllByRecursion (λ x. list_any q x.label ≡ false) xs → (m : Mark) → list_any q (mark_image xs m) ≡ false
    each-mark q [] h m = refl
    each-mark q (x ∷ xs) h m = elim (cases_Bool (character_eq (new_mark x.number) m)) [ inl e ↦ rw e h.0 | inr e ↦ rw e (each-mark q xs h.1 m) ]
