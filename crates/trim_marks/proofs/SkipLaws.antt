-- What is skipped where steps are left out.
use Rattle.std.proofs.Common.{◌≡◌, ℕ, zero, suc, ◌+◌, ◌-◌, ◌<◌, ◌≤◌, List, [], ◌∷◌, ◌++◌, length, reverse, Bool, true, false, ◌==◌, if◌then◌else◌, refl, sym, ◌∙◌, ap, ap₂, subst, inl, inr, arith, get_or, set, min, eq-eqb, eqb-true}
use Rattle.std.proofs.lemmas.Bool.{cases_Bool, true≢false}
use Rattle.std.proofs.lemmas.Grind.{get_or-set_at}
use Rattle.std.proofs.lemmas.List.{get_or_past, set_past, get_or-set_other, set-get_or, length-set, length-append, reverse-append, append-nil}
use Rattle.plain_laws.proofs.Numbers.{order}
use Rattle.trim_theory.specs.Marking.{Counts, state, State, no_mark, left_out, mark, undone, with_undone, run, after_pass}
use Rattle.trim_theory.specs.declared.pass.Pass.{Pass}
use Rattle.trim_theory.specs.declared.pass.Mark.{Mark}
use Rattle.trim_marks.specs.MarkingView.{IsSkipping}

-- ---- lists as stacks

pub run_last : (ps qs : List Pass) (p : Pass) (s : State) → qs ≡ ps ++ p ∷ [] → run qs s ≡ run ps (after_pass p s)
run_last ps qs p s h = ap (λ z. run z s) h ∙ go ps
  where
    go : (rs : List Pass) → run (rs ++ p ∷ []) s ≡ run rs (after_pass p s)
    go [] = refl
    go (r ∷ rs) = ap (after_pass r) (go rs)

-- ---- a place that is not left

same_out : (m : Mark) → m.is_left ≡ false → left_out m ≡ m
same_out m h = ap (mark m.pass) (sym h)

same_undone : (m : Mark) (c : Counts) → m.is_left ≡ false → undone m c ≡ c
same_undone m c h = rw h refl

-- it is passed
one-skipped : (k l : ℕ) (c : Counts) (saved starts : List ℕ) (ms : List Mark) → (get_or ms k no_mark).is_left ≡ false → with_undone k (suc l) (state c saved starts ms) ≡ with_undone (suc k) l (state c saved starts ms)
one-skipped k l c saved starts ms h =
    let m = get_or ms k no_mark in
    ap₂ (λ d ns. with_undone (suc k) l (state d saved starts ns)) (same_undone m c h) (ap (set ms k) (same_out m h) ∙ set-get_or ms k no_mark)

-- no place from one on is left
none_undone : (k l : ℕ) (c : Counts) (saved starts : List ℕ) (ms : List Mark) → ((i : ℕ) → k ≤ i → (get_or ms i no_mark).is_left ≡ false) → with_undone k l (state c saved starts ms) ≡ state c saved starts ms
none_undone k zero c saved starts ms h = refl
none_undone k (suc l) c saved starts ms h = one-skipped k l c saved starts ms (h k (omega arith)) ∙ none_undone (suc k) l c saved starts ms (λ i m. h i (omega arith))

-- from one place to a later one
some-skipped : (j k to : ℕ) (c : Counts) (saved starts : List ℕ) (ms : List Mark) → ((i : ℕ) → k ≤ i → i < k + j → (get_or ms i no_mark).is_left ≡ false) → with_undone k (to - k) (state c saved starts ms) ≡ with_undone (k + j) (to - (k + j)) (state c saved starts ms)
some-skipped zero k to c saved starts ms h = let e : k ≡ k + 0 = omega arith in ap (λ i. with_undone i (to - i) (state c saved starts ms)) e
some-skipped (suc j) k to c saved starts ms h = elim (order k to) [
  | inl less ↦
      let e : to - k ≡ suc (to - suc k) = omega arith in
      let f : suc k + j ≡ k + suc j = omega arith in
      ap (λ i. with_undone k i (state c saved starts ms)) e
      ∙ one-skipped k (to - suc k) c saved starts ms (h k (omega arith) (omega arith))
      ∙ some-skipped j (suc k) to c saved starts ms (λ i low high. h i (omega arith) (omega arith))
      ∙ ap (λ i. with_undone i (to - i) (state c saved starts ms)) f
  | inr past ↦
      let e : to - k ≡ 0 = omega arith in
      let f : to - (k + suc j) ≡ 0 = omega arith in
      ap (λ i. with_undone k i (state c saved starts ms)) e ∙ sym (ap (λ i. with_undone (k + suc j) i (state c saved starts ms)) f)
]

past_none : (ms : List Mark) (i : ℕ) → length ms ≤ i → (get_or ms i no_mark).is_left ≡ false
past_none ms i h = ap (λ (m : Mark). m.is_left) (get_or_past ms i no_mark h)

-- nothing is left behind the end
pub past_end : (k l : ℕ) (c : Counts) (saved starts : List ℕ) (ms : List Mark) → length ms ≤ k → with_undone k l (state c saved starts ms) ≡ state c saved starts ms
past_end k l c saved starts ms h = none_undone k l c saved starts ms (λ i m. past_none ms i (omega arith))

-- ---- the loop

-- what is known in front of a place that is reached
pub record IsReached (saved starts : List ℕ) (to : ℕ) (c : Counts) (ms : List Mark) (whole : State) (from place : ℕ) : Type 0 where
  pub rest : with_undone place (to - place) (state c saved starts ms) ≡ whole
  pub gone : (i : ℕ) → from ≤ i → i < place → (get_or ms i no_mark).is_left ≡ false

set-same : (ms : List Mark) (k i : ℕ) → (k == i) ≡ true → (get_or (set ms k (left_out (get_or ms k no_mark))) i no_mark).is_left ≡ false
set-same ms k i e =
    let q = eqb-true k i e in
    elim (order k (length ms)) [
      | inl within ↦ ap (λ (m : Mark). m.is_left) (get_or-set_at ms k i (left_out (get_or ms k no_mark)) no_mark (sym q) within)
      | inr past ↦ ap (λ ns. (get_or ns i no_mark).is_left) (set_past ms k (left_out (get_or ms k no_mark)) past) ∙ past_none ms i (omega arith)
    ]

-- what was not left stays so
stays : (ms : List Mark) (k i : ℕ) → (get_or ms i no_mark).is_left ≡ false → (get_or (set ms k (left_out (get_or ms k no_mark))) i no_mark).is_left ≡ false
stays ms k i h = elim (cases_Bool (k == i)) [
  | inl e ↦ set-same ms k i e
  | inr e ↦ ap (λ (m : Mark). m.is_left) (get_or-set_other ms k i (left_out (get_or ms k no_mark)) no_mark (λ q. true≢false (sym (eq-eqb k i (sym q)) ∙ e))) ∙ h
]

pub skipping_stays : (skips : List ℕ) (ms ns : List Mark) (k : ℕ) → ns ≡ set ms k (left_out (get_or ms k no_mark)) → IsSkipping skips ms → IsSkipping skips ns
skipping_stays skips ms ns k e h = subst (IsSkipping skips) (sym e) (record {
  long = h.long ∙ sym (length-set ms k (left_out (get_or ms k no_mark)));
  within = λ i. subst (λ n. get_or skips i 0 ≤ n) (sym (length-set ms k (left_out (get_or ms k no_mark)))) (h.within i);
  none_left = λ i j l m. stays ms k j (h.none_left i j l m);
})

-- one place is left out, and the next one is behind what it skips
pub reached_next : (saved starts : List ℕ) (to : ℕ) (c d : Counts) (skips : List ℕ) (ms ns : List Mark) (whole : State) (from place next : ℕ) → place < to → from ≤ place → d ≡ undone (get_or ms place no_mark) c → ns ≡ set ms place (left_out (get_or ms place no_mark)) → IsSkipping skips ms → place < next → ((i : ℕ) → place < i → i < next → i < get_or skips place 0) → IsReached saved starts to c ms whole from place → IsReached saved starts to d ns whole from next
reached_next saved starts to c d skips ms ns whole from place next less low e f h ahead below r =
    let m = get_or ms place no_mark in
    let ts = set ms place (left_out m) in
    let g : to - place ≡ suc (to - suc place) = omega arith in
    let none : (i : ℕ) → suc place ≤ i → i < suc place + (next - suc place) → (get_or ts i no_mark).is_left ≡ false = λ i a b. stays ms place i (h.none_left place i (omega arith) (below i (omega arith) (omega arith))) in
    let q : suc place + (next - suc place) ≡ next = omega arith in
    let moved : with_undone next (to - next) (state (undone m c) saved starts ts) ≡ whole =
    sym (ap (λ i. with_undone i (to - i) (state (undone m c) saved starts ts)) q)
    ∙ sym (some-skipped (next - suc place) (suc place) to (undone m c) saved starts ts none)
    ∙ sym (ap (λ i. with_undone place i (state c saved starts ms)) g)
    ∙ r.rest in
    record {
      rest = ap₂ (λ x y. with_undone next (to - next) (state x saved starts y)) e f ∙ moved;
      gone = λ i a b. subst (λ y. (get_or y i no_mark).is_left ≡ false) (sym f) (elim (order i place) [
        | inl l ↦ stays ms place i (r.gone i a l)
        | inr l ↦ elim (cases_Bool (place == i)) [
          | inl u ↦ set-same ms place i u
          | inr u ↦ none i (elim (order place i) [ inl v ↦ v | inr v ↦ let w : place ≡ i = omega arith in absurd (true≢false (sym (eq-eqb place i w) ∙ u)) ]) (omega arith)
        ]
      ]);
    }

-- at the end nothing is to be left out
pub reached_to : (saved starts : List ℕ) (to : ℕ) (c : Counts) (ms : List Mark) (whole : State) (from place : ℕ) → to ≤ place → IsReached saved starts to c ms whole from place → state c saved starts ms ≡ whole
reached_to saved starts to c ms whole from place past r = let e : to - place ≡ 0 = omega arith in sym (ap (λ i. with_undone place i (state c saved starts ms)) e) ∙ r.rest

pub reached_end : (saved starts : List ℕ) (to : ℕ) (c : Counts) (ms : List Mark) (whole : State) (from place : ℕ) → min to (length ms) ≤ place → IsReached saved starts to c ms whole from place → state c saved starts ms ≡ whole
reached_end saved starts to c ms whole from place h r = elim (order place to) [
  | inl less ↦ sym (past_end place (to - place) c saved starts ms (omega arith)) ∙ r.rest
  | inr past ↦ reached_to saved starts to c ms whole from place past r
]

-- ---- what is skipped from then on

skipping_inside : (skips : List ℕ) (ms : List Mark) (from end : ℕ) → end ≤ length ms → from < length skips → ((i : ℕ) → from ≤ i → i < end → (get_or ms i no_mark).is_left ≡ false) → IsSkipping skips ms → IsSkipping (set skips from end) ms
skipping_inside skips ms from end within inside none h = record {
  long = length-set skips from end ∙ h.long;
  within = λ i. elim (cases_Bool (from == i)) [
    | inl e ↦ subst (λ n. n ≤ length ms) (sym (get_or-set_at skips from i end 0 (sym (eqb-true from i e)) inside)) within
    | inr e ↦ subst (λ n. n ≤ length ms) (sym (get_or-set_other skips from i end 0 (λ q. true≢false (sym (eq-eqb from i (sym q)) ∙ e)))) (h.within i)
  ];
  none_left = λ i k l m. elim (cases_Bool (from == i)) [
    | inl e ↦ let q = eqb-true from i e in none k (omega arith) (subst (λ n. k < n) (get_or-set_at skips from i end 0 (sym q) inside) m)
    | inr e ↦ h.none_left i k l (subst (λ n. k < n) (get_or-set_other skips from i end 0 (λ q. true≢false (sym (eq-eqb from i (sym q)) ∙ e))) m)
  ];
}

pub skipping_more : (skips ts : List ℕ) (ms : List Mark) (from end : ℕ) → ts ≡ set skips from end → end ≤ length ms → ((i : ℕ) → from ≤ i → i < end → (get_or ms i no_mark).is_left ≡ false) → IsSkipping skips ms → IsSkipping ts ms
skipping_more skips ts ms from end e within none h = subst (λ xs. IsSkipping xs ms) (sym e) (elim (order from (length skips)) [
  | inl inside ↦ skipping_inside skips ms from end within inside none h
  | inr past ↦ subst (λ xs. IsSkipping xs ms) (sym (set_past skips from end past)) h
])
