-- The walk from the last step to the first finds the steps that are left, and counts what they refer to.
use Rattle.std.proofs.Common.{◌≡◌, ℕ, zero, suc, ◌+◌, ◌-◌, ◌<◌, ◌≤◌, List, [], ◌∷◌, ◌++◌, length, map, reverse, Bool, true, false, ◌||◌, ◌==◌, if◌then◌else◌, refl, sym, ◌∙◌, ap, ap₂, subst, inl, inr, arith, nat_lt, get_or, set, eq-eqb, eqb-true}
use Rattle.std.proofs.lemmas.Bool.{cases_Bool, true≢false}
use Rattle.std.proofs.lemmas.List.{append_assoc, append-nil, length-append, reverse-append}
use Rattle.std.proofs.lemmas.Grind.{reverse_onto}
use Rattle.plain_laws.proofs.Numbers.{order}
use Rattle.calculus.specs.Derivations.{ModalArg, TermArg}
use Rattle.trim_theory.specs.Trimming.{Tree, axiom_on, step_on, fork_on, one_after, uses}
use Rattle.trim_theory.specs.Left.{left_of, count_of}
use Rattle.trim_theory.specs.Marking.{pass, mark, passes, Counts, plus_one, set_back, set_back_after, is_counted, take_back_way, State, state, no_mark, left_out, undone, with_undone, put, after_fork, after_adding, set_aside, after_pass, run, at_start, marks, refers, counted, IsWithin}
use Rattle.trim_theory.specs.declared.pass.Way.{Way}
use Rattle.trim_theory.specs.declared.pass.Way.TheVariants.{Ends, Adds, Forks}
use Rattle.trim_theory.specs.declared.pass.Pass.{Pass}
use Rattle.trim_theory.specs.declared.pass.Mark.{Mark}
use Rattle.trim_theory.proofs.LeftLaws.{count-append, used-counted}

-- ---- what marks count

counted-append : (ms qs : List Mark) (k : ℕ) → counted (ms ++ qs) k ≡ counted ms k + counted qs k
counted-append [] qs k = omega arith
counted-append (m ∷ ms) qs k = let h = counted-append ms qs k in omega arith

counted-out : (ms : List Mark) (k : ℕ) → counted (map left_out ms) k ≡ 0
counted-out [] k = refl
counted-out (m ∷ ms) k = let h = counted-out ms k in omega arith

reverse-cons : {A : Type 0} (x : A) (xs : List A) → reverse (x ∷ xs) ≡ reverse xs ++ x ∷ []
reverse-cons x xs = reverse_onto xs x []

counted-reverse : (ms : List Mark) (k : ℕ) → counted (reverse ms) k ≡ counted ms k
counted-reverse [] k = refl
counted-reverse (m ∷ ms) k =
    let h = counted-reverse ms k in
    let e = ap (λ z. counted z k) (reverse-cons m ms) in
    let f = counted-append (reverse ms) (m ∷ []) k in
    omega arith

-- the marks of a tree count what the steps that are left refer to
pub marks-counted : (b : Bool) (n : ℕ) (t : Tree) (k : ℕ) → counted (marks b n t) k ≡ count_of (left_of n t) k
marks-counted b n (axiom_on c d) k = omega arith
marks-counted b n (step_on a x y j t) k = elim (cases_Bool (one_after (uses (n + j) t) n j)) [
  | inl u ↦ rw u (let h = marks-counted false (n + j) t k in omega arith)
  | inr u ↦ rw u (let h = marks-counted false (n + j) t k in omega arith)
]
marks-counted b n (fork_on a x y t r) k = elim (cases_Bool (uses (suc n) t (suc n))) [
  | inr u ↦ rw u (
      let h = marks-counted false (suc n) t k in
      let g = counted-out (marks true (suc n) r) k in
      let e = counted-append (marks false (suc n) t) (map left_out (marks true (suc n) r)) k in
      omega arith)
  | inl u ↦ elim (cases_Bool (uses (suc n) r (suc n))) [
    | inr v ↦ rw u (rw v (
        let h = counted-out (marks false (suc n) t) k in
        let g = marks-counted true (suc n) r k in
        let e = counted-append (map left_out (marks false (suc n) t)) (marks true (suc n) r) k in
        omega arith))
    | inl v ↦ rw u (rw v (
        let h = marks-counted false (suc n) t k in
        let g = marks-counted true (suc n) r k in
        let e = counted-append (marks false (suc n) t) (marks true (suc n) r) k in
        let f = count-append (left_of (suc n) t) (left_of (suc n) r) k in
        omega arith))
  ]
]

-- ---- what is left out

undone-by : (k : Bool) (w : Way) (c : Counts) (i : ℕ) → (if k then take_back_way w c else c) i ≡ c i - (if k then refers w i else 0)
undone-by true (Ends a b) c i = omega arith
undone-by true (Adds a j) c i = refl
undone-by true (Forks a) c i = refl
undone-by false w c i = omega arith

get-middle : (ms : List Mark) (m d : Mark) (qs : List Mark) → get_or (ms ++ m ∷ qs) (length ms) d ≡ m
get-middle [] m d qs = refl
get-middle (x ∷ ms) m d qs = get-middle ms m d qs

set-middle : (ms : List Mark) (m y : Mark) (qs : List Mark) → set (ms ++ m ∷ qs) (length ms) y ≡ ms ++ y ∷ qs
set-middle [] m y qs = refl
set-middle (x ∷ ms) m y qs = ap (λ zs. x ∷ zs) (set-middle ms m y qs)

abbrev Undoes : List Mark → List Mark → List Mark → ℕ → State → Type 0
Undoes ms xs qs k s = (c : Counts) × (with_undone k (length xs) s ≡ state c s.saved s.starts (ms ++ (map left_out xs ++ qs))) × ((i : ℕ) → c i ≡ s.counts i - counted xs i)

undoes : (ms xs qs : List Mark) (k : ℕ) (c : Counts) (saved starts : List ℕ) → k ≡ length ms → Undoes ms xs qs k (state c saved starts (ms ++ (xs ++ qs)))
undoes ms [] qs k c saved starts h = (c, refl, λ i. omega arith)
undoes ms (m ∷ xs) qs k c saved starts h =
    let got : get_or (ms ++ (m ∷ (xs ++ qs))) k no_mark ≡ m = ap (λ i. get_or (ms ++ (m ∷ (xs ++ qs))) i no_mark) h ∙ get-middle ms m no_mark (xs ++ qs) in
    let now : set (ms ++ (m ∷ (xs ++ qs))) k (left_out m) ≡ (ms ++ left_out m ∷ []) ++ (xs ++ qs) = ap (λ i. set (ms ++ (m ∷ (xs ++ qs))) i (left_out m)) h ∙ set-middle ms m (left_out m) (xs ++ qs) ∙ sym (append_assoc ms (left_out m ∷ []) (xs ++ qs)) in
    let longer : suc k ≡ length (ms ++ left_out m ∷ []) = let e = length-append ms (left_out m ∷ []) in let f : length (left_out m ∷ []) ≡ 1 = refl in omega arith in
    let r = undoes (ms ++ left_out m ∷ []) xs qs (suc k) (undone m c) saved starts longer in (
      r.0,
      ap (λ x. with_undone (suc k) (length xs) (state (undone x c) saved starts (set (ms ++ (m ∷ (xs ++ qs))) k (left_out x)))) got
          ∙ ap (λ z. with_undone (suc k) (length xs) (state (undone m c) saved starts z)) now
          ∙ r.1
          ∙ ap (λ z. state r.0 saved starts z) (append_assoc ms (left_out m ∷ []) (map left_out xs ++ qs)),
      λ i.
          let e = r.2 i in
          let f = undone-by m.is_left m.pass.way c i in
          omega arith,
    )

-- ---- counts

set_back-same : (a : ℕ) (c : Counts) → set_back a c a ≡ 0
set_back-same a c = rw (eq-eqb a a refl) refl

set_back-other : (a : ℕ) (c : Counts) (i : ℕ) → (a ≡ i → ⊥) → set_back a c i ≡ c i
set_back-other a c i h = elim (cases_Bool (a == i)) [ inl e ↦ absurd (h (eqb-true a i e)) | inr e ↦ rw e refl ]

set_back-above : (n : ℕ) (c : Counts) → ((i : ℕ) → suc n < i → c i ≡ 0) → (i : ℕ) → n < i → set_back (suc n) c i ≡ 0
set_back-above n c h i l = elim (cases_Bool (suc n == i)) [ inl e ↦ rw e refl | inr e ↦ rw e (h i (above n i l (λ g. true≢false (sym (eq-eqb (suc n) i g) ∙ e)))) ]
  where
    above : (m k : ℕ) → m < k → (suc m ≡ k → ⊥) → suc m < k
    above m k l f = elim (order (suc m) k) [ inl g ↦ g | inr g ↦ absurd (f (omega arith)) ]

plus-other : (a : ℕ) (c : Counts) (i : ℕ) → (a ≡ i → ⊥) → plus_one a c i ≡ c i
plus-other a c i h = elim (cases_Bool (a == i)) [ inl e ↦ absurd (h (eqb-true a i e)) | inr e ↦ rw e (omega arith) ]

set_back-low : (n j : ℕ) (c : Counts) (i : ℕ) → i ≤ n → set_back_after n j c i ≡ c i
set_back-low n zero c i h = refl
set_back-low n (suc j) c i h = set_back-low (suc n) j (set_back (suc n) c) i (omega arith) ∙ set_back-other (suc n) c i (λ e. absurd (omega arith))

set_back-high : (n j : ℕ) (c : Counts) (i : ℕ) → n < i → (n + j < i → c i ≡ 0) → set_back_after n j c i ≡ 0
set_back-high n zero c i l h = h (omega arith)
set_back-high n (suc j) c i l h = elim (cases_Bool (suc n == i)) [
  | inl e ↦ let g = eqb-true (suc n) i e in set_back-low (suc n) j (set_back (suc n) c) i (omega arith) ∙ rw e refl
  | inr e ↦ elim (order (suc n) i) [
    | inl g ↦ set_back-high (suc n) j (set_back (suc n) c) i g (λ m. set_back-other (suc n) c i (λ f. absurd (omega arith)) ∙ h (omega arith))
    | inr g ↦ let f : suc n ≡ i = omega arith in absurd (true≢false (sym (eq-eqb (suc n) i f) ∙ e))
  ]
]

same_after : (p q : ℕ → Bool) (n j : ℕ) → ((i : ℕ) → n < i → i ≤ n + j → p i ≡ q i) → one_after p n j ≡ one_after q n j
same_after p q n zero h = refl
same_after p q n (suc j) h = ap₂ ◌||◌ (h (suc n) (omega arith) (omega arith)) (same_after p q (suc n) j (λ i low high. h i (omega arith) (omega arith)))

-- an entry that is new is counted just where it is used
counted-used : (n : ℕ) (t : Tree) (c : Counts) (i : ℕ) → c i ≡ count_of (left_of n t) i → is_counted c i ≡ uses n t i
counted-used n t c i h = ap (nat_lt 0) h ∙ sym (used-counted n t i)

-- ---- the walk over a tree

run-append : (ps qs : List Pass) (s : State) → run (ps ++ qs) s ≡ run ps (run qs s)
run-append [] qs s = refl
run-append (p ∷ ps) qs s = ap (after_pass p) (run-append ps qs s)

-- the state after a tree: its steps are done and marked, and counted on the branch
abbrev pub Passed : Bool → ℕ → Tree → State → State → Type 0
Passed b n t s r = (c : Counts) × (r ≡ set_aside b n (state c s.saved (length s.done ∷ s.starts) (s.done ++ reverse (marks b n t)))) × ((i : ℕ) → i ≤ n → c i ≡ s.counts i + count_of (left_of n t) i) × ((i : ℕ) → n < i → c i ≡ 0)

abbrev pub IsClear : ℕ → Counts → Type 0
IsClear n c = (i : ℕ) → n < i → c i ≡ 0

put-behind : (ds ms : List Mark) (m : Mark) → (ds ++ reverse ms) ++ m ∷ [] ≡ ds ++ reverse (m ∷ ms)
put-behind ds ms m = append_assoc ds (reverse ms) (m ∷ []) ∙ ap (λ z. ds ++ z) (sym (reverse-cons m ms))

reverse-both : (ds ms qs : List Mark) → (ds ++ reverse qs) ++ reverse ms ≡ ds ++ reverse (ms ++ qs)
reverse-both ds ms qs = append_assoc ds (reverse qs) (reverse ms) ∙ ap (λ z. ds ++ z) (sym (reverse-append ms qs))

axiom-passed : (b : Bool) (n x y : ℕ) (s : State) → x ≤ n → y ≤ n → IsClear n s.counts → Passed b n (axiom_on x y) s (run (passes b n (axiom_on x y)) s)
axiom-passed b n x y s h g clear = (
  plus_one x (plus_one y s.counts),
  refl,
  λ i low. omega arith,
  λ i high. plus-other x (plus_one y s.counts) i (λ e. absurd (omega arith)) ∙ plus-other y s.counts i (λ e. absurd (omega arith)) ∙ clear i high,
)

step-passed : (b : Bool) (n a : ℕ) (x : ModalArg) (y : TermArg) (j : ℕ) (t : Tree) (s r : State) → a ≤ n → IsClear n s.counts → Passed false (n + j) t s r → Passed b n (step_on a x y j t) s (after_pass (pass n (Adds a j) b) r)
step-passed b n a x y j t s r within clear h =
    let c = h.0 in
    let p = pass n (Adds a j) b in
    let d = set_back_after n j c in
    let used : one_after (is_counted c) n j ≡ one_after (uses (n + j) t) n j = same_after (is_counted c) (uses (n + j) t) n j (λ i low high. counted-used (n + j) t c i (let e = h.2 i high in let f = clear i low in omega arith)) in
    let low : (i : ℕ) → i ≤ n → d i ≡ s.counts i + count_of (left_of (n + j) t) i = λ i l. set_back-low n j c i l ∙ h.2 i (omega arith) in
    let high : (i : ℕ) → n < i → d i ≡ 0 = λ i l. set_back-high n j c i l (λ m. h.3 i m) in
    let before = ap (after_pass p) h.1 in
    elim (cases_Bool (one_after (uses (n + j) t) n j)) [
      | inl u ↦ rw u (
        plus_one a d,
        before ∙ ap (λ z. set_aside b n (after_adding p a z (state d s.saved (length s.done ∷ s.starts) (s.done ++ reverse (marks false (n + j) t))))) (used ∙ u) ∙ ap (λ z. set_aside b n (state (plus_one a d) s.saved (length s.done ∷ s.starts) z)) (put-behind s.done (marks false (n + j) t) (mark p true)),
        λ i l. let e = low i l in omega arith,
        λ i l. plus-other a d i (λ e. absurd (omega arith)) ∙ high i l,
      )
      | inr u ↦ rw u (
        d,
        before ∙ ap (λ z. set_aside b n (after_adding p a z (state d s.saved (length s.done ∷ s.starts) (s.done ++ reverse (marks false (n + j) t))))) (used ∙ u) ∙ ap (λ z. set_aside b n (state d s.saved (length s.done ∷ s.starts) z)) (put-behind s.done (marks false (n + j) t) (mark p false)),
        low,
        high,
      )
    ]

pub out-append : (xs ys : List Mark) → map left_out (xs ++ ys) ≡ map left_out xs ++ map left_out ys
out-append [] ys = refl
out-append (x ∷ xs) ys = ap (λ zs. left_out x ∷ zs) (out-append xs ys)

out-reverse : (xs : List Mark) → map left_out (reverse xs) ≡ reverse (map left_out xs)
out-reverse [] = refl
out-reverse (x ∷ xs) = ap (map left_out) (reverse-cons x xs) ∙ out-append (reverse xs) (x ∷ []) ∙ ap (λ z. z ++ left_out x ∷ []) (out-reverse xs) ∙ sym (reverse-cons (left_out x) (map left_out xs))

-- what the tree of a right side is to the state, before the left side
abbrev pub right_done : ℕ → Tree → Counts → State → State
right_done n r c s = state (set_back (suc n) c) (c (suc n) ∷ s.saved) (length s.done ∷ s.starts) (s.done ++ reverse (marks true (suc n) r))

length-behind : (ds ms : List Mark) → length (ds ++ ms) - length ds ≡ length ms
length-behind ds ms = let e = length-append ds ms in omega arith

-- the left side goes
left-undone : (p : Pass) (c : Counts) (saved starts : List ℕ) (ds ls rs : List Mark) → (k : Counts) × (put p false (with_undone (length (ds ++ reverse rs)) (length ((ds ++ reverse rs) ++ reverse ls) - length (ds ++ reverse rs)) (state c saved starts ((ds ++ reverse rs) ++ reverse ls))) ≡ state k saved starts (ds ++ reverse (mark p false ∷ (map left_out ls ++ rs)))) × ((i : ℕ) → k i ≡ c i - counted ls i)
left-undone p c saved starts ds ls rs =
    let front = ds ++ reverse rs in
    let r = undoes front (reverse ls) [] (length front) c saved starts refl in (
      r.0,
      ap (put p false) (
          ap (λ l. with_undone (length front) l (state c saved starts (front ++ reverse ls))) (length-behind front (reverse ls))
          ∙ ap (λ z. with_undone (length front) (length (reverse ls)) (state c saved starts (front ++ z))) (sym (append-nil (reverse ls)))
          ∙ r.1
          ∙ ap (λ z. state r.0 saved starts (front ++ z)) (append-nil (map left_out (reverse ls)) ∙ out-reverse ls)
          ∙ ap (λ z. state r.0 saved starts z) (reverse-both ds (map left_out ls) rs))
          ∙ ap (λ z. state r.0 saved starts z) (put-behind ds (map left_out ls ++ rs) (mark p false)),
      λ i. let e = r.2 i in let f = counted-reverse ls i in omega arith,
    )

-- the right side goes
right-undone : (p : Pass) (c : Counts) (saved starts : List ℕ) (ds ls rs : List Mark) → (k : Counts) × (put p false (with_undone (length ds) (length (ds ++ reverse rs) - length ds) (state c saved starts ((ds ++ reverse rs) ++ reverse ls))) ≡ state k saved starts (ds ++ reverse (mark p false ∷ (ls ++ map left_out rs)))) × ((i : ℕ) → k i ≡ c i - counted rs i)
right-undone p c saved starts ds ls rs =
    let r = undoes ds (reverse rs) (reverse ls) (length ds) c saved starts refl in (
      r.0,
      ap (put p false) (
          ap (λ l. with_undone (length ds) l (state c saved starts ((ds ++ reverse rs) ++ reverse ls))) (length-behind ds (reverse rs))
          ∙ ap (λ z. with_undone (length ds) (length (reverse rs)) (state c saved starts z)) (append_assoc ds (reverse rs) (reverse ls))
          ∙ r.1
          ∙ ap (λ z. state r.0 saved starts (ds ++ (z ++ reverse ls))) (out-reverse rs)
          ∙ ap (λ z. state r.0 saved starts z) (sym (append_assoc ds (reverse (map left_out rs)) (reverse ls)) ∙ reverse-both ds ls (map left_out rs)))
          ∙ ap (λ z. state r.0 saved starts z) (put-behind ds (ls ++ map left_out rs) (mark p false)),
      λ i. let e = r.2 i in let f = counted-reverse rs i in omega arith,
    )

fork-passed : (b : Bool) (n a : ℕ) (x : ModalArg) (y : TermArg) (t r : Tree) (s : State) (c : Counts) (l : State) → a ≤ n → IsClear n s.counts → ((i : ℕ) → i ≤ suc n → c i ≡ s.counts i + count_of (left_of (suc n) r) i) → Passed false (suc n) t (right_done n r c s) l → Passed b n (fork_on a x y t r) s (after_pass (pass n (Forks a) b) l)
fork-passed b n a x y t r s c l within clear right h =
    let k = h.0 in
    let p = pass n (Forks a) b in
    let d = set_back (suc n) k in
    let ls = marks false (suc n) t in
    let rs = marks true (suc n) r in
    let starts = length s.done ∷ s.starts in
    let front = s.done ++ reverse rs in
    let used_left : is_counted k (suc n) ≡ uses (suc n) t (suc n) = counted-used (suc n) t k (suc n) (let e = h.2 (suc n) (omega arith) in let f = set_back-same (suc n) c in omega arith) in
    let used_right : is_counted c (suc n) ≡ uses (suc n) r (suc n) = counted-used (suc n) r c (suc n) (let e = right (suc n) (omega arith) in let f = clear (suc n) (omega arith) in omega arith) in
    let low : (i : ℕ) → i ≤ n → d i ≡ s.counts i + count_of (left_of (suc n) r) i + count_of (left_of (suc n) t) i = λ i m.
    let e = h.2 i (omega arith) in
    let f = right i (omega arith) in
    let g = set_back-other (suc n) c i (λ q. absurd (omega arith)) in
    let j = set_back-other (suc n) k i (λ q. absurd (omega arith)) in
    omega arith in
    let high : (i : ℕ) → n < i → d i ≡ 0 = set_back-above n k h.3 in
    let here = state d s.saved starts (front ++ reverse ls) in
    let before : after_pass p l ≡ set_aside b n (after_fork p a (is_counted k (suc n)) (is_counted c (suc n)) (length front) (length s.done) here) = ap (after_pass p) h.1 in
    elim (cases_Bool (uses (suc n) t (suc n))) [
      | inr u ↦
          let o = right-undone p d s.saved starts s.done ls rs in
          rw u (
            o.0,
            before ∙ ap (λ z. set_aside b n (after_fork p a z (is_counted c (suc n)) (length front) (length s.done) here)) (used_left ∙ u) ∙ ap (set_aside b n) o.1,
            λ i m. let e = o.2 i in let f = low i m in let g = marks-counted true (suc n) r i in omega arith,
            λ i m. let e = o.2 i in let f = high i m in omega arith,
          )
      | inl u ↦ elim (cases_Bool (uses (suc n) r (suc n))) [
        | inr v ↦
            let o = left-undone p d s.saved starts s.done ls rs in
            rw u (rw v (
              o.0,
              before ∙ ap₂ (λ z w. set_aside b n (after_fork p a z w (length front) (length s.done) here)) (used_left ∙ u) (used_right ∙ v) ∙ ap (set_aside b n) o.1,
              λ i m. let e = o.2 i in let f = low i m in let g = marks-counted false (suc n) t i in omega arith,
              λ i m. let e = o.2 i in let f = high i m in omega arith,
            ))
        | inl v ↦ rw u (rw v (
          plus_one a d,
          before ∙ ap₂ (λ z w. set_aside b n (after_fork p a z w (length front) (length s.done) here)) (used_left ∙ u) (used_right ∙ v) ∙ ap (λ z. set_aside b n (state (plus_one a d) s.saved starts z)) (ap (λ z. z ++ mark p true ∷ []) (reverse-both s.done ls rs) ∙ put-behind s.done (ls ++ rs) (mark p true)),
          λ i m. let f = low i m in let g = count-append (left_of (suc n) t) (left_of (suc n) r) i in omega arith,
          λ i m. plus-other a d i (λ e. absurd (omega arith)) ∙ high i m,
        ))
      ]
    ]

pub run-passed : (b : Bool) (n : ℕ) (t : Tree) (s : State) → IsWithin n t → IsClear n s.counts → Passed b n t s (run (passes b n t) s)
run-passed b n (axiom_on c d) s w clear = axiom-passed b n c d s w.0 w.1 clear
run-passed b n (step_on a x y j t) s w clear = step-passed b n a x y j t s (run (passes false (n + j) t) s) w.0 clear (run-passed false (n + j) t s w.1 (λ i h. clear i (omega arith)))
run-passed b n (fork_on a x y t r) s w clear =
    let g = run-passed true (suc n) r s w.2 (λ i h. clear i (omega arith)) in
    let mid = right_done n r g.0 s in
    let h = run-passed false (suc n) t mid w.1 (λ i m. set_back-above n g.0 g.3 i (omega arith)) in
    let e : run (passes false (suc n) t ++ passes true (suc n) r) s ≡ run (passes false (suc n) t) mid = run-append (passes false (suc n) t) (passes true (suc n) r) s ∙ ap (run (passes false (suc n) t)) g.1 in
    subst (λ z. Passed b n (fork_on a x y t r) s (after_pass (pass n (Forks a) b) z)) (sym e) (fork-passed b n a x y t r s g.0 (run (passes false (suc n) t) mid) w.0 clear g.2 h)

-- the steps of a derivation, the last one first
pub run-marks : (t : Tree) → IsWithin 1 t → (run (passes false 1 t) at_start).done ≡ reverse (marks false 1 t)
run-marks t w = ap (λ (s : State). s.done) (run-passed false 1 t at_start w (λ i h. refl)).1
