-- Tables of lists by their links, and tables that grow.
use Rattle.std.proofs.Common.{◌≡◌, ℕ, suc, ◌+◌, ◌-◌, ◌<◌, ◌≤◌, List, [], ◌∷◌, ◌++◌, length, get_or, map, drop, take, sym, ◌∙◌, ap, subst, arith}
use Rattle.std.proofs.lemmas.List.{length-append, length-map, map_push, get_or-map, append-nil, append_assoc, drop_all, get_or_append_left, get_or_push}
use Rattle.std.proofs.Math.Seq.{take-append_seam}
use Rattle.calculus.specs.Derivations as derivation
use Rattle.logic_rules.specs.declared.label.Mark.{Mark}
use Rattle.logic_rules.specs.MarkView.{the_character}
use Rattle.label_table.specs.Chains.{chains, AreBackward}
use Rattle.label_table.specs.Longer.{IsLonger}
use Rattle.label_table.proofs.ChainLaws.{chains-at, chains-first, chains-push, chains-length, backward-at, backward-push}

-- ---- any links

pub table-length : {A B : Type 0} (f : B → A × ℕ) (xs : List B) (table : List (List A)) → chains (map f xs) ≡ table → length table ≡ suc (length xs)
table-length f xs table view = sym (ap length view) ∙ chains-length (map f xs) ∙ ap suc (length-map xs f)

pub in-links : {A B : Type 0} (f : B → A × ℕ) (xs : List B) (table : List (List A)) (k : ℕ) → chains (map f xs) ≡ table → k < length table → k ≤ length xs
in-links f xs table k view h = let e = table-length f xs table view in omega arith

link-read : {A B : Type 0} (f : B → A × ℕ) (xs : List B) (k : ℕ) (x : B) → k < length xs → x ≡ get_or xs k x → get_or (map f xs) k (f x) ≡ f x
link-read f xs k x lt read = get_or-map f xs k x (f x) lt ∙ ap f (sym read)

pub list-at : {A B : Type 0} (f : B → A × ℕ) (xs : List B) (table : List (List A)) (a : ℕ) (x : B) → chains (map f xs) ≡ table → AreBackward 1 (map f xs) → 0 < a → a ≤ length xs → x ≡ get_or xs (a - 1) x
    → get_or table a [] ≡ (f x).0 ∷ get_or table (f x).1 []
list-at {A} f xs table a x view back pos le read =
    let at : a ≡ suc (a - 1) = omega arith in
    let n = length-map xs f in
    let found = chains-at (map f xs) (a - 1) (f x) back (omega arith) in
    let here = ap (λ m. get_or (chains (map f xs)) m []) at ∙ found ∙ ap (λ (y : A × ℕ). y.0 ∷ get_or (chains (map f xs)) y.1 []) (link-read f xs (a - 1) x (omega arith) read) in
    subst (λ t. get_or t a [] ≡ (f x).0 ∷ get_or t (f x).1 []) view here

pub rest-before : {A B : Type 0} (f : B → A × ℕ) (xs : List B) (a : ℕ) (x : B) → AreBackward 1 (map f xs) → 0 < a → a ≤ length xs → x ≡ get_or xs (a - 1) x → (f x).1 < a
rest-before {A} f xs a x back pos le read =
    let n = length-map xs f in
    let before = backward-at 1 (map f xs) (a - 1) (f x) back (omega arith) in
    let same = ap (λ (y : A × ℕ). y.1) (link-read f xs (a - 1) x (omega arith) read) in
    omega arith

pub table-put : {A B : Type 0} (f : B → A × ℕ) (xs after : List B) (x : B) (table : List (List A)) → after ≡ xs ++ x ∷ [] → chains (map f xs) ≡ table → chains (map f after) ≡ table ++ ((f x).0 ∷ get_or table (f x).1 []) ∷ []
table-put f xs after x table grown view =
    ap (λ l. chains (map f l)) grown ∙ ap chains (map_push f xs x) ∙ chains-push (map f xs) (f x) ∙ ap (λ t. t ++ ((f x).0 ∷ get_or t (f x).1 []) ∷ []) view

pub backward-put : {A B : Type 0} (f : B → A × ℕ) (xs after : List B) (x : B) (table : List (List A)) → after ≡ xs ++ x ∷ [] → chains (map f xs) ≡ table → (f x).1 < length table → AreBackward 1 (map f xs) → AreBackward 1 (map f after)
backward-put f xs after x table grown view lt back =
    let n = length-map xs f in
    let e = table-length f xs table view in
    subst (AreBackward 1) (sym (ap (map f) grown ∙ map_push f xs x)) (backward-push 1 (map f xs) (f x) back (omega arith))

pub place-put : {A B : Type 0} (f : B → A × ℕ) (xs after : List B) (x : B) (table : List (List A)) (n : ℕ) → after ≡ xs ++ x ∷ [] → chains (map f xs) ≡ table → n ≡ length after → n ≡ length table
place-put f xs after x table n grown view e =
    let g = ap length grown ∙ length-append xs (x ∷ []) in
    let h = table-length f xs table view in
    omega arith

pub first-empty : {A B : Type 0} (f : B → A × ℕ) (xs : List B) (table : List (List A)) → chains (map f xs) ≡ table → get_or table 0 [] ≡ []
first-empty f xs table view = subst (λ t. get_or t 0 [] ≡ []) view (chains-first (map f xs))

-- ---- tables that grow

pub longer-self : {A : Type 0} (xs : List A) → IsLonger xs xs
longer-self {A} xs = ([], sym (append-nil xs))

pub longer-more : {A : Type 0} (xs ys zs : List A) → IsLonger xs ys → IsLonger ys zs → IsLonger xs zs
longer-more {A} xs ys zs h g = (h.0 ++ g.0, g.1 ∙ ap (λ l. l ++ g.0) h.1 ∙ append_assoc xs h.0 g.0)

pub pushed-longer : {A : Type 0} (xs ys : List A) (y : A) → ys ≡ xs ++ y ∷ [] → IsLonger xs ys
pushed-longer {A} xs ys y e = (y ∷ [], e)

pub pushed-at : {A : Type 0} (xs ys : List A) (k : ℕ) (y d : A) → k ≡ length xs → ys ≡ xs ++ y ∷ [] → (k < length ys) × (get_or ys k d ≡ y)
pushed-at {A} xs ys k y d e f =
    let size = ap length f ∙ length-append xs (y ∷ []) in
    (omega (arith, e, size), ap (λ l. get_or l k d) f ∙ get_or_push xs y d k (sym e))

pub longer-size : {A : Type 0} (xs ys : List A) → IsLonger xs ys → length xs ≤ length ys
longer-size {A} xs ys h = let e = ap length h.1 ∙ length-append xs h.0 in omega (arith, e)

-- the beginning of that length
pub longer-taken : {A : Type 0} (xs ys : List A) (n : ℕ) → IsLonger xs ys → n ≡ length xs → take n ys ≡ xs
longer-taken {A} xs ys n h e = ap (λ k. take k ys) e ∙ ap (take (length xs)) h.1 ∙ take-append_seam xs h.0

pub longer-at : {A : Type 0} (xs ys : List A) (k : ℕ) (d : A) → IsLonger xs ys → k < length xs → get_or ys k d ≡ get_or xs k d
longer-at {A} xs ys k d h lt = ap (λ l. get_or l k d) h.1 ∙ get_or_append_left xs h.0 d k lt

-- a label that is read from the front
pub root-read : (front : derivation.Label) (marks : List Mark) (w : derivation.Label) → front ≡ [] → map the_character marks ≡ w → front ++ map the_character marks ≡ w
root-read front marks w e f = ap (λ l. l ++ map the_character marks) e ∙ f

pub marks-read : (front : derivation.Label) (marks : List Mark) (i : ℕ) (w : derivation.Label) → length marks ≤ i → front ++ map the_character (drop i marks) ≡ w → front ≡ w
marks-read front marks i w le same = sym (append-nil front) ∙ ap (λ l. front ++ map the_character l) (sym (drop_all i marks le)) ∙ same
