-- Sets of names have the names of the lists that they are made from.
use Rattle.std.proofs.Common.{◌≡◌, ℕ, suc, List, [], ◌∷◌, ◌++◌, Bool, true, false, ◌||◌, ◌==◌, if◌then◌else◌, ◌<◌, ◌≤◌, ◌+◌, length, get_or, drop, drop-cons, Option, None, Some, is_some, refl, sym, ◌∙◌, ap, append_assoc, arith}
use Rattle.std.specs.List.{list_any}
use Rattle.std.proofs.lemmas.Bool.{false≢true}
use Rattle.std.proofs.lemmas.List.{append-nil, drop_all, length-append}
use Rattle.std.proofs.lemmas.List.Folds.{list_any-append}
use Rattle.calculus.proofs.EqualityLaws.{list_eq-tells, nat_eq-tells}
use Rattle.tptp_reader.specs.Sources.{Name}
use Rattle.problem_build.specs.Adding.{with_new}
use Rattle.problem_build.specs.Expansion.{first_seen, same_name}
use Rattle.problem_build.specs.Walk.{first_absent, is_among, names_of}
use Rattle.problem_build.specs.Walking.{with_list}
use Rattle.problem_build.proofs.AddingLaws.{more-new, with_new-known, with_new-new}

-- ---- what a set has

seen-known : (n x : Name) (known : List Name) → list_any (same_name x) known ≡ true → same_name n x ≡ true → list_any (same_name n) known ≡ true
seen-known n x known e s = ap (λ z. list_any (same_name z) known) ((list_eq-tells ◌==◌ nat_eq-tells n x).0 s) ∙ e

absorbed : (a b c : Bool) → (b ≡ true → a ≡ true) → (a || c) ≡ (a || (b || c))
absorbed true b c h = refl
absorbed false true c h = absurd (false≢true (h refl))
absorbed false false c h = refl

regrouped : (a b c : Bool) → ((a || (b || false)) || c) ≡ (a || (b || c))
regrouped true b c = refl
regrouped false true c = refl
regrouped false false c = refl

among-new : (n : Name) (known xs : List Name) → list_any (same_name n) (with_new same_name known xs) ≡ (list_any (same_name n) known || list_any (same_name n) xs)
among-new n known [] = list_any-append (same_name n) known []
among-new n known (x ∷ xs) = by (list_any (same_name x) known) refl (among-new n known xs) (among-new n (known ++ x ∷ []) xs)
  where
    by : (b : Bool) → list_any (same_name x) known ≡ b
        → list_any (same_name n) (with_new same_name known xs) ≡ (list_any (same_name n) known || list_any (same_name n) xs)
        → list_any (same_name n) (with_new same_name (known ++ x ∷ []) xs) ≡ (list_any (same_name n) (known ++ x ∷ []) || list_any (same_name n) xs)
        → list_any (same_name n) (known ++ (if b then first_seen same_name known xs else x ∷ first_seen same_name (known ++ x ∷ []) xs))
        ≡ (list_any (same_name n) known || (same_name n x || list_any (same_name n) xs))
    by true e h k = h ∙ absorbed (list_any (same_name n) known) (same_name n x) (list_any (same_name n) xs) (seen-known n x known e)
    by false e h k =
        ap (list_any (same_name n)) (sym (append_assoc known (x ∷ []) (first_seen same_name (known ++ x ∷ []) xs)))
        ∙ k
        ∙ ap (λ b. b || list_any (same_name n) xs) (list_any-append (same_name n) known (x ∷ []))
        ∙ regrouped (list_any (same_name n) known) (same_name n x) (list_any (same_name n) xs)

set-is : (names set : List Name) → set ≡ with_new same_name [] names → (n : Name) → is_among n set ≡ is_among n names
set-is names set e n = ap (is_among n) e ∙ among-new n [] names

-- ---- a list is gone over

next-drop : {A : Type 0} (xs : List A) (i : ℕ) (x : A) → i < length xs → x ≡ get_or xs i x → drop i xs ≡ x ∷ drop (i + 1) xs
next-drop xs i x h e = drop-cons xs i x h ∙ ap (λ k. get_or xs i x ∷ drop k xs) (later i) ∙ ap (λ z. z ∷ drop (i + 1) xs) (sym e)
  where
    later : (i : ℕ) → suc i ≡ i + 1
    later i = omega arith

pub names-next : (items : List Name) (i : ℕ) (x : Name) (known mid whole : List Name) → i < length items → x ≡ get_or items i x → mid ≡ with_new same_name known (x ∷ [])
    → with_new same_name known (drop i items) ≡ whole → with_new same_name mid (drop (i + 1) items) ≡ whole
names-next items i x known mid whole h e k w =
    more-new same_name known mid (x ∷ []) (drop (i + 1) items) k ∙ ap (with_new same_name known) (sym (next-drop items i x h e)) ∙ w

pub places-next : (items : List (Name × ℕ)) (i : ℕ) (x : Name × ℕ) (known mid whole : List Name) → i < length items → x ≡ get_or items i x → mid ≡ with_new same_name known (x.0 ∷ [])
    → with_new same_name known (names_of (drop i items)) ≡ whole → with_new same_name mid (names_of (drop (i + 1) items)) ≡ whole
places-next items i x known mid whole h e k w =
    more-new same_name known mid (x.0 ∷ []) (names_of (drop (i + 1) items)) k ∙ ap (λ ns. with_new same_name known (names_of ns)) (sym (next-drop items i x h e)) ∙ w

pub names-end : (items set : List Name) (i : ℕ) → length items ≤ i → with_new same_name set (drop i items) ≡ with_new same_name [] items → (n : Name) → is_among n set ≡ is_among n items
names-end items set i h e n = set-is items set (sym (append-nil set) ∙ ap (with_new same_name set) (sym (drop_all i items h)) ∙ e) n

pub places-end : (items : List (Name × ℕ)) (set : List Name) (i : ℕ) → length items ≤ i → with_new same_name set (names_of (drop i items)) ≡ with_new same_name [] (names_of items)
    → (n : Name) → is_among n set ≡ is_among n (names_of items)
places-end items set i h e n = set-is (names_of items) set (sym (append-nil set) ∙ ap (λ ns. with_new same_name set (names_of ns)) (sym (drop_all i items h)) ∙ e) n

-- ---- the lists of includes

pub absent-same : (ns : List (Name × ℕ)) (xs ys : List Name) → ((n : Name) → is_among n xs ≡ is_among n ys) → first_absent ns xs ≡ first_absent ns ys
absent-same [] xs ys h = refl
absent-same (n ∷ ns) xs ys h =
    ap (λ b. if b then first_absent ns xs else Some n.1) (h n.0) ∙ ap (λ r. if is_among n.0 ys then r else Some n.1) (absent-same ns xs ys h)

-- where an include has a list, one is entered
pub one-entered : (names : Option (List (Name × ℕ))) (is_list : Bool) (lists entered : List (List (Name × ℕ))) → is_list ≡ is_some names → entered ≡ with_list names lists
    → is_list ≡ true → 0 < length entered
one-entered None is_list lists entered e f t = absurd (false≢true (sym e ∙ t))
one-entered (Some list) is_list lists entered e f t = let l = length-append lists (list ∷ []) in let m = ap length f in omega arith

-- ---- few names and more

pub among-few : (few more : List Name) (x : Name) → list_any (same_name x) few ≡ true → true ≡ list_any (same_name x) (few ++ more)
among-few few more x h = sym (list_any-append (same_name x) few more ∙ ap (λ b. b || list_any (same_name x) more) h)

pub among-more : (few more : List Name) (x : Name) → list_any (same_name x) few ≡ false → list_any (same_name x) more ≡ list_any (same_name x) (few ++ more)
among-more few more x h = sym (list_any-append (same_name x) few more ∙ ap (λ b. b || list_any (same_name x) more) h)

pub known-few : (few more : List Name) (x : Name) → list_any (same_name x) few ≡ true → few ++ more ≡ with_new same_name (few ++ more) (x ∷ [])
known-few few more x h =
    with_new-known same_name (few ++ more) x (list_any-append (same_name x) few more ∙ ap (λ b. b || list_any (same_name x) more) h)

pub one-of-few : (few grown more : List Name) (x : Name) → list_any (same_name x) few ≡ false → more ≡ [] → grown ≡ few ++ x ∷ []
    → grown ++ more ≡ with_new same_name (few ++ more) (x ∷ [])
one-of-few few grown more x h e k =
    ap (λ m. grown ++ m) e ∙ append-nil grown ∙ k ∙ with_new-new same_name few x h
    ∙ ap (λ m. with_new same_name m (x ∷ [])) (sym (append-nil few) ∙ ap (λ m. few ++ m) (sym e))

pub one-more : (few more grown : List Name) (x : Name) → list_any (same_name x) few ≡ false
    → grown ≡ (if list_any (same_name x) more then more else more ++ x ∷ []) → few ++ grown ≡ with_new same_name (few ++ more) (x ∷ [])
one-more few more grown x h e = ap (λ m. few ++ m) e ∙ by (list_any (same_name x) more) refl
  where
    found : list_any (same_name x) (few ++ more) ≡ list_any (same_name x) more
    found = list_any-append (same_name x) few more ∙ ap (λ b. b || list_any (same_name x) more) h

    by : (b : Bool) → list_any (same_name x) more ≡ b → few ++ (if b then more else more ++ x ∷ []) ≡ with_new same_name (few ++ more) (x ∷ [])
    by true m = with_new-known same_name (few ++ more) x (found ∙ m)
    by false m = sym (append_assoc few more (x ∷ [])) ∙ with_new-new same_name (few ++ more) x (found ∙ m)
