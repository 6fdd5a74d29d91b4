-- How looking for a value goes on from item to item, and that it tells what the definitions of truth by steps tell.
use Rattle.std.proofs.Common.{Result, Ok, Err, ◌≡◌, ℕ, suc, ◌+◌, ◌<◌, ◌≤◌, List, [], ◌∷◌, length, drop, get_or, Bool, true, false, not, refl, sym, ◌∙◌, ap, subst, drop-cons, add-one, if◌then◌else◌}
use Rattle.std.proofs.lemmas.Bool.{true≢false}
use Rattle.std.proofs.lemmas.Result.{err_from_is_err_and}
use Rattle.std.specs.Result.{IsErrAnd}
use Rattle.std.proofs.Math.ListN.{drop_of_length-le}
use mathlib.Core.Bool.{beq}
use Rattle.calculus.specs.StructureTruth.{Told, told, ran_out, after_told, with_step, not_told, both_told, either_told, each_told, some_told}
use Rattle.cop_base.specs.declared.ledger.Ledger.{Ledger}
use Rattle.finite_model.specs.declared.truth.StepsEnded.{StepsEnded}
use Rattle.finite_model.specs.Seeking.{same, seek_told, decide_told, left, IsTold}

-- ---- truth values

pub same-equal : (v b : Bool) → b ≡ v → same v b ≡ true
same-equal v true e = ap (λ c. same c true) (sym e)
same-equal v false e = ap (λ c. same c false) (sym e)

pub same-apart : (v b : Bool) → ¬ (b ≡ v) → same v b ≡ false
same-apart true true n = absurd (n refl)
same-apart true false n = refl
same-apart false true n = refl
same-apart false false n = absurd (n refl)

-- what a comparison of truth values says
pub equal-told : (a b : Bool) → beq a b ≡ true → a ≡ b
equal-told true true e = refl
equal-told true false e = sym e
equal-told false true e = e
equal-told false false e = refl

pub apart-told : (a b : Bool) → beq a b ≡ false → ¬ (a ≡ b)
apart-told true true e f = absurd (true≢false e)
apart-told true false e f = absurd (true≢false f)
apart-told false true e f = absurd (true≢false (sym f))
apart-told false false e f = absurd (true≢false e)

-- ---- from item to item

items-left : (xs : List ℕ) (i : ℕ) → i < length xs → drop i xs ≡ get_or xs i 0 ∷ drop (i + 1) xs
items-left xs i h = rw add-one (drop-cons xs i 0 h)

pub seek-next : (value : Bool) (go : ℕ → ℕ → Told) (xs : List ℕ) (i n m : ℕ) (b : Bool) → i < length xs → go (get_or xs i 0) n ≡ told b m → ¬ (b ≡ value) → seek_told value go (drop i xs) n ≡ seek_told value go (drop (i + 1) xs) m
seek-next value go xs i n m b h e apart =
    let next = drop (i + 1) xs in
    ap (λ ys. seek_told value go ys n) (items-left xs i h)
    ∙ ap (λ t. after_told t (λ b m. if same value b then told true m else seek_told value go next m)) e
    ∙ ap (λ c. if c then told true m else seek_told value go next m) (same-apart value b apart)

pub seek-found : (value : Bool) (go : ℕ → ℕ → Told) (xs : List ℕ) (i n m : ℕ) (b : Bool) → i < length xs → go (get_or xs i 0) n ≡ told b m → b ≡ value → seek_told value go (drop i xs) n ≡ told true m
seek-found value go xs i n m b h e equal =
    let next = drop (i + 1) xs in
    ap (λ ys. seek_told value go ys n) (items-left xs i h)
    ∙ ap (λ t. after_told t (λ b m. if same value b then told true m else seek_told value go next m)) e
    ∙ ap (λ c. if c then told true m else seek_told value go next m) (same-equal value b equal)

pub seek-stopped : (value : Bool) (go : ℕ → ℕ → Told) (xs : List ℕ) (i n : ℕ) → i < length xs → go (get_or xs i 0) n ≡ ran_out → seek_told value go (drop i xs) n ≡ ran_out
seek-stopped value go xs i n h e =
    let next = drop (i + 1) xs in
    ap (λ ys. seek_told value go ys n) (items-left xs i h)
    ∙ ap (λ t. after_told t (λ b m. if same value b then told true m else seek_told value go next m)) e

pub each-next : (go : ℕ → ℕ → Told) (xs : List ℕ) (i n m : ℕ) → i < length xs → go (get_or xs i 0) n ≡ told true m → each_told go (drop i xs) n ≡ each_told go (drop (i + 1) xs) m
each-next go xs i n m h e =
    ap (λ ys. each_told go ys n) (items-left xs i h)
    ∙ ap (λ t. after_told t (λ b k. if b then each_told go (drop (i + 1) xs) k else told false k)) e

pub each-false : (go : ℕ → ℕ → Told) (xs : List ℕ) (i n m : ℕ) → i < length xs → go (get_or xs i 0) n ≡ told false m → each_told go (drop i xs) n ≡ told false m
each-false go xs i n m h e =
    ap (λ ys. each_told go ys n) (items-left xs i h)
    ∙ ap (λ t. after_told t (λ b k. if b then each_told go (drop (i + 1) xs) k else told false k)) e

pub each-stopped : (go : ℕ → ℕ → Told) (xs : List ℕ) (i n : ℕ) → i < length xs → go (get_or xs i 0) n ≡ ran_out → each_told go (drop i xs) n ≡ ran_out
each-stopped go xs i n h e =
    ap (λ ys. each_told go ys n) (items-left xs i h)
    ∙ ap (λ t. after_told t (λ b k. if b then each_told go (drop (i + 1) xs) k else told false k)) e

-- at the end of the list
pub seek-ended : (value : Bool) (go : ℕ → ℕ → Told) (xs : List ℕ) (i n : ℕ) → length xs ≤ i → seek_told value go (drop i xs) n ≡ told false n
seek-ended value go xs i n e = ap (λ ys. seek_told value go ys n) (drop_of_length-le xs e)

pub each-ended : (go : ℕ → ℕ → Told) (xs : List ℕ) (i n : ℕ) → length xs ≤ i → each_told go (drop i xs) n ≡ told true n
each-ended go xs i n e = ap (λ ys. each_told go ys n) (drop_of_length-le xs e)

-- ---- what the definitions tell

after-same : (t : Told) (f g : Bool → ℕ → Told) → ((b : Bool) (m : ℕ) → f b m ≡ g b m) → after_told t f ≡ after_told t g
after-same (told b m) f g h = h b m
after-same ran_out f g h = refl

after-not : (t : Told) (f : Bool → ℕ → Told) → after_told (after_told t f) (λ b m. told (not b) m) ≡ after_told t (λ b m. after_told (f b m) (λ c k. told (not c) k))
after-not (told b m) f = refl
after-not ran_out f = refl

after-after : (t : Told) (f : Bool → ℕ → Told) → after_told (after_told t (λ b m. told (not b) m)) f ≡ after_told t (λ b m. f (not b) m)
after-after (told b m) f = refl
after-after ran_out f = refl

-- all are true where none is false
pub each-sought : {A : Type 0} (go : A → ℕ → Told) (xs : List A) (n : ℕ) → not_told (seek_told false go xs) n ≡ each_told go xs n
each-sought go [] n = refl
each-sought go (x ∷ xs) n = after-not (go x n) (λ b m. if same false b then told true m else seek_told false go xs m) ∙ after-same (go x n) (λ b m. after_told (if same false b then told true m else seek_told false go xs m) (λ c k. told (not c) k)) (λ b m. if b then each_told go xs m else told false m) (by (each-sought go xs))
  where
    by : ((m : ℕ) → not_told (seek_told false go xs) m ≡ each_told go xs m) → (b : Bool) (m : ℕ) → after_told (if same false b then told true m else seek_told false go xs m) (λ c k. told (not c) k) ≡ (if b then each_told go xs m else told false m)
    by rest true m = rest m
    by rest false m = refl

-- all are false where none is true
pub each-not_sought : {A : Type 0} (go : A → ℕ → Told) (xs : List A) (n : ℕ) → not_told (seek_told true go xs) n ≡ each_told (λ x. not_told (go x)) xs n
each-not_sought go [] n = refl
each-not_sought go (x ∷ xs) n =
    after-not (go x n) (λ b m. if same true b then told true m else seek_told true go xs m)
    ∙ after-same (go x n) (λ b m. after_told (if same true b then told true m else seek_told true go xs m) (λ c k. told (not c) k)) (λ b m. if not b then each_told (λ y. not_told (go y)) xs m else told false m) (by (each-not_sought go xs))
    ∙ sym (after-after (go x n) (λ b m. if b then each_told (λ y. not_told (go y)) xs m else told false m))
  where
    by : ((m : ℕ) → not_told (seek_told true go xs) m ≡ each_told (λ y. not_told (go y)) xs m) → (b : Bool) (m : ℕ) → after_told (if same true b then told true m else seek_told true go xs m) (λ c k. told (not c) k) ≡ (if not b then each_told (λ y. not_told (go y)) xs m else told false m)
    by rest true m = refl
    by rest false m = rest m

pub some-sought : {A : Type 0} (go : A → ℕ → Told) (xs : List A) (n : ℕ) → seek_told true go xs n ≡ some_told go xs n
some-sought go [] n = refl
some-sought go (x ∷ xs) n = after-same (go x n) (λ b m. if same true b then told true m else seek_told true go xs m) (λ b m. if b then told true m else some_told go xs m) (by (some-sought go xs))
  where
    by : ((m : ℕ) → seek_told true go xs m ≡ some_told go xs m) → (b : Bool) (m : ℕ) → (if same true b then told true m else seek_told true go xs m) ≡ (if b then told true m else some_told go xs m)
    by rest true m = refl
    by rest false m = rest m

pub both-decided : (first second : ℕ → Told) (n : ℕ) → decide_told false false first second n ≡ both_told first second n
both-decided first second n = after-same (first n) _ _ by
  where
    by : (b : Bool) (m : ℕ) → (if same false b then told false m else second m) ≡ (if b then second m else told false m)
    by true m = refl
    by false m = refl

pub either-decided : (first second : ℕ → Told) (n : ℕ) → decide_told true true first second n ≡ either_told first second n
either-decided first second n = after-same (first n) _ _ by
  where
    by : (b : Bool) (m : ℕ) → (if same true b then told true m else second m) ≡ (if b then told true m else second m)
    by true m = refl
    by false m = refl

pub implied-decided : (first second : ℕ → Told) (n : ℕ) → decide_told false true first second n ≡ either_told (not_told first) second n
implied-decided first second n = after-same (first n) _ _ by ∙ sym (after-after (first n) (λ b m. if b then told true m else second m))
  where
    by : (b : Bool) (m : ℕ) → (if same false b then told true m else second m) ≡ (if not b then told true m else second m)
    by true m = refl
    by false m = refl

pub each-same : {A : Type 0} (f g : A → ℕ → Told) → ((x : A) (n : ℕ) → f x n ≡ g x n) → (xs : List A) (n : ℕ) → each_told f xs n ≡ each_told g xs n
each-same f g h [] n = refl
each-same f g h (x ∷ xs) n = ap (λ t. after_told t (λ b m. if b then each_told f xs m else told false m)) (h x n) ∙ after-same (g x n) (λ b m. if b then each_told f xs m else told false m) (λ b m. if b then each_told g xs m else told false m) (by (each-same f g h xs))
  where
    by : ((m : ℕ) → each_told f xs m ≡ each_told g xs m) → (b : Bool) (m : ℕ) → (if b then each_told f xs m else told false m) ≡ (if b then each_told g xs m else told false m)
    by rest true m = rest m
    by rest false m = refl

-- ---- the step before

pub told-stepped : (r : Result Bool StepsEnded) (after : Ledger) (go : ℕ → Told) (n m : ℕ) → n ≡ suc m → IsTold r after (go m) → IsTold r after (with_step go n)
told-stepped r after go n m e h = subst (λ k. IsTold r after (with_step go k)) (sym e) h

-- an error that a `?` passes on
pub told-passed : (r : Result Bool StepsEnded) (y : StepsEnded) (after : Ledger) (t : Told) → IsErrAnd r (λ e. e ≡ y) → IsTold (Err y) after t → IsTold r after t
told-passed r y after t h k = let p = err_from_is_err_and r h in subst (λ x. IsTold x after t) (sym p.1) k

-- ---- at an item of a loop

abbrev pub IsSought : Bool → (ℕ → ℕ → Told) → List ℕ → ℕ → ℕ → ℕ → Type 0
IsSought value go xs i first n = seek_told value go xs first ≡ seek_told value go (drop i xs) n

pub sought-here : (value : Bool) (go : ℕ → ℕ → Told) (xs : List ℕ) (i first n : ℕ) (b : Bool) (after : Ledger) → i < length xs → IsSought value go xs i first n → IsTold (Ok b) after (go (get_or xs i 0) n) → b ≡ value → IsTold (Ok true) after (seek_told value go xs first)
sought-here value go xs i first n b after h so e equal = so ∙ seek-found value go xs i n (left after) b h e equal

pub sought-next : (value : Bool) (go : ℕ → ℕ → Told) (xs : List ℕ) (i first n : ℕ) (b : Bool) (after : Ledger) → i < length xs → IsSought value go xs i first n → IsTold (Ok b) after (go (get_or xs i 0) n) → ¬ (b ≡ value) → IsSought value go xs (i + 1) first (left after)
sought-next value go xs i first n b after h so e apart = so ∙ seek-next value go xs i n (left after) b h e apart

pub sought-stopped : (value : Bool) (go : ℕ → ℕ → Told) (xs : List ℕ) (i first n : ℕ) (x : StepsEnded) (after : Ledger) → i < length xs → IsSought value go xs i first n → IsTold (Err x) after (go (get_or xs i 0) n) → IsTold (Err x) after (seek_told value go xs first)
sought-stopped value go xs i first n x after h so e = (so ∙ seek-stopped value go xs i n h e.0, e.1)

pub sought-nowhere : (value : Bool) (go : ℕ → ℕ → Told) (xs : List ℕ) (i first : ℕ) (after : Ledger) → length xs ≤ i → IsSought value go xs i first (left after) → IsTold (Ok false) after (seek_told value go xs first)
sought-nowhere value go xs i first after h so = so ∙ seek-ended value go xs i (left after) h

abbrev pub IsEachSoFar : (ℕ → ℕ → Told) → List ℕ → ℕ → ℕ → ℕ → Type 0
IsEachSoFar go xs i first n = each_told go xs first ≡ each_told go (drop i xs) n

pub each-here : (go : ℕ → ℕ → Told) (xs : List ℕ) (i first n : ℕ) (after : Ledger) → i < length xs → IsEachSoFar go xs i first n → go (get_or xs i 0) n ≡ told false (left after) → IsTold (Ok false) after (each_told go xs first)
each-here go xs i first n after h so e = so ∙ each-false go xs i n (left after) h e

pub each-on : (go : ℕ → ℕ → Told) (xs : List ℕ) (i first n : ℕ) (after : Ledger) → i < length xs → IsEachSoFar go xs i first n → go (get_or xs i 0) n ≡ told true (left after) → IsEachSoFar go xs (i + 1) first (left after)
each-on go xs i first n after h so e = so ∙ each-next go xs i n (left after) h e

pub each-broken : (go : ℕ → ℕ → Told) (xs : List ℕ) (i first n : ℕ) (x : StepsEnded) (after : Ledger) → i < length xs → IsEachSoFar go xs i first n → IsTold (Err x) after (go (get_or xs i 0) n) → IsTold (Err x) after (each_told go xs first)
each-broken go xs i first n x after h so e = (so ∙ each-stopped go xs i n h e.0, e.1)

pub each-everywhere : (go : ℕ → ℕ → Told) (xs : List ℕ) (i first : ℕ) (after : Ledger) → length xs ≤ i → IsEachSoFar go xs i first (left after) → IsTold (Ok true) after (each_told go xs first)
each-everywhere go xs i first after h so = so ∙ each-ended go xs i (left after) h

-- a negation
pub not-told : (b : Bool) (after : Ledger) (go : ℕ → Told) (n : ℕ) → IsTold (Ok b) after (go n) → IsTold (Ok (not b)) after (not_told go n)
not-told b after go n e = ap (λ t. after_told t (λ c m. told (not c) m)) e

pub not-told_stopped : (x : StepsEnded) (after : Ledger) (go : ℕ → Told) (n : ℕ) → IsTold (Err x) after (go n) → IsTold (Err x) after (not_told go n)
not-told_stopped x after go n e = (ap (λ t. after_told t (λ c m. told (not c) m)) e.0, e.1)

-- a pair of formulas
pub decided-here : (decisive answer : Bool) (first second : ℕ → Told) (n : ℕ) (b : Bool) (after : Ledger) → IsTold (Ok b) after (first n) → b ≡ decisive → IsTold (Ok answer) after (decide_told decisive answer first second n)
decided-here decisive answer first second n b after e equal = ap (λ t. after_told t (λ c m. if same decisive c then told answer m else second m)) e ∙ ap (λ c. if c then told answer (left after) else second (left after)) (same-equal decisive b equal)

pub decided-next : (decisive answer : Bool) (first second : ℕ → Told) (n : ℕ) (b : Bool) (between after : Ledger) (r : Result Bool StepsEnded) → IsTold (Ok b) between (first n) → ¬ (b ≡ decisive) → IsTold r after (second (left between)) → IsTold r after (decide_told decisive answer first second n)
decided-next decisive answer first second n b between after r e apart h = subst (IsTold r after) (sym (ap (λ t. after_told t (λ c m. if same decisive c then told answer m else second m)) e ∙ ap (λ c. if c then told answer (left between) else second (left between)) (same-apart decisive b apart))) h

pub decided-stopped : (decisive answer : Bool) (first second : ℕ → Told) (n : ℕ) (x : StepsEnded) (after : Ledger) → IsTold (Err x) after (first n) → IsTold (Err x) after (decide_told decisive answer first second n)
decided-stopped decisive answer first second n x after e = (ap (λ t. after_told t (λ c m. if same decisive c then told answer m else second m)) e.0, e.1)

-- ---- for the answers

-- the elements that are bound are the same
pub told-bound : (r : Result Bool StepsEnded) (after : Ledger) (go : List ℕ → ℕ → Told) (e d : List ℕ) (n : ℕ) → e ≡ d → IsTold r after (go e n) → IsTold r after (go d n)
told-bound r after go e d n same h = subst (λ x. IsTold r after (go x n)) same h

pub seek-on : (r : Result Bool StepsEnded) (after : Ledger) (value : Bool) (go : ℕ → ℕ → Told) (xs ys : List ℕ) (n : ℕ) → xs ≡ ys → IsTold r after (seek_told value go xs n) → IsTold r after (seek_told value go ys n)
seek-on r after value go xs ys n same h = subst (λ zs. IsTold r after (seek_told value go zs n)) same h

pub told-value : (b c : Bool) (after : Ledger) (t : Told) → b ≡ c → IsTold (Ok b) after t → t ≡ told c (left after)
told-value b c after t e h = h ∙ ap (λ d. told d (left after)) e
