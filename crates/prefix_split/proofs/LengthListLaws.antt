-- Lists of string lengths in order: the first one, the next one, and the last one.
use Rattle.std.proofs.Common.{◌≡◌, ◌⊎◌, ℕ, zero, suc, ◌+◌, ◌-◌, ◌*◌, ◌<◌, ◌≤◌, ◌==◌, List, [], ◌∷◌, ◌++◌, length, sum, true, IsTrue, refl, sym, ◌∙◌, ap, ap₂, subst, nat_le, inl, inr, arith, leb-true, le-leb, eqb-true, eq-eqb, add-mul, one-mul, append_assoc, length-append, append-nil}
use Rattle.std.specs.List.{list_all}
use Rattle.std.specs.Ordering.{nat_cmp, ordering_then}
use Rattle.std.specs.Cmp.{tied_itself, nat_cmp_is}
use Rattle.std.specs.Cmp.Lexicographic.{slice_cmp}
use Rattle.std.specs.declared.cmp.Ordering.{Ordering}
use Rattle.std.specs.declared.cmp.Ordering.TheVariants.{Less, Equal, Greater}
use Rattle.std.proofs.lemmas.Bool.{false≢true, and_parts, and_from, cases_lt}
use Rattle.std.proofs.lemmas.Cmp.{nat_cmp_total}
use Rattle.std.proofs.lemmas.List.Sums.{sum_by-cons}
use Rattle.std.proofs.lemmas.Nat.{mul-le}
use Rattle.plain_laws.proofs.Numbers.{cmp-equal, cmp-less}
use Rattle.calculus.specs.declared.setting.Logic.{Logic}
use Rattle.calculus.specs.declared.setting.Logic.TheVariants.{Classical, Intuitionistic, D, T as LogicT, S4, S5}
use Rattle.calculus.specs.Space.{is_tried_length, has_labels}
use Rattle.store_theory.specs.Systems.{System, bound_of, AreTried}
use Rattle.prefix_split.specs.LengthLists.{least_of, spread_of, AreWithin, above, least_list, IsFirst, IsNext, IsLast, IsLastOfSum, IsTakenOff}

-- ---- sums and comparisons

one-more : (n p : ℕ) → suc n * p ≡ p + n * p
one-more n p = ap (λ z. z * p) (let z : suc n ≡ 1 + n = omega arith in z) ∙ add-mul 1 n p ∙ ap (λ z. z + n * p) (one-mul p)

sum-cons : (y : ℕ) (ns : List ℕ) → sum (y ∷ ns) ≡ y + sum ns
sum-cons y ns = sum_by-cons (λ z. z) y ns

then-less : (m h : ℕ) (o : Ordering) → ordering_then (nat_cmp m h) o ≡ Less → (m < h) ⊎ ((m ≡ h) × (o ≡ Less))
then-less m h o e = elim (cases_lt m h) [
  | inl l ↦ inl l
  | inr g ↦ elim (cases_lt h m) [
    | inl l ↦ (let q : nat_cmp m h ≡ Greater = sym (nat_cmp_is m h Greater l) in let z : Greater ≡ Less = sym (ap (λ c. ordering_then c o) q) ∙ e in cc z)
    | inr k ↦ (let same : m ≡ h = omega (arith, g, k) in let q : nat_cmp m h ≡ Equal = ap (λ z. nat_cmp m z) (sym same) ∙ tied_itself nat_cmp_total m in inr (same, sym (ap (λ c. ordering_then c o) q) ∙ e))
  ]
]

above-most : (x p : ℕ) (ns : List ℕ) → AreWithin x p ns → above x ns ≤ length ns * p
above-most x p [] h = omega arith
above-most x p (y ∷ ns) h =
    let r = above-most x p ns h.1 in
    let m : suc (length ns) * p ≡ p + length ns * p = one-more (length ns) p in
    let a = h.0.0 in
    let b = h.0.1 in
    omega (arith, r, m, a, b)

sum-above : (x p : ℕ) (ns : List ℕ) → AreWithin x p ns → sum ns ≡ length ns * x + above x ns
sum-above x p [] h = omega arith
sum-above x p (y ∷ ns) h =
    let r = sum-above x p ns h.1 in
    let m : suc (length ns) * x ≡ x + length ns * x = one-more (length ns) x in
    let s = sum-cons y ns in
    let a = h.0.0 in
    omega (arith, r, m, s, a)

-- lists of one length have one sum where they are as much above x
sums-by : (x p : ℕ) (ns ms : List ℕ) (j : ℕ) → AreWithin x p ns → AreWithin x p ms → length ms ≡ length ns → above x ms ≡ above x ns + j → sum ms ≡ sum ns + j
sums-by x p ns ms j a b e f =
    let s = sum-above x p ns a in
    let t = sum-above x p ms b in
    let k : length ms * x ≡ length ns * x = ap (λ z. z * x) e in
    omega (arith, s, t, k, f)

aboves-by : (x p : ℕ) (ns ms : List ℕ) (j : ℕ) → AreWithin x p ns → AreWithin x p ms → length ms ≡ length ns → sum ms ≡ sum ns + j → above x ms ≡ above x ns + j
aboves-by x p ns ms j a b e f =
    let s = sum-above x p ns a in
    let t = sum-above x p ms b in
    let k : length ms * x ≡ length ns * x = ap (λ z. z * x) e in
    omega (arith, s, t, k, f)

above-both : (x : ℕ) (ns ms : List ℕ) → above x (ns ++ ms) ≡ above x ns + above x ms
above-both x [] ms = omega arith
above-both x (y ∷ ns) ms = let r = above-both x ns ms in omega (arith, r)

within-both : (x p : ℕ) (ns ms : List ℕ) → AreWithin x p ns → AreWithin x p ms → AreWithin x p (ns ++ ms)
within-both x p [] ms a b = b
within-both x p (y ∷ ns) ms a b = (a.0, within-both x p ns ms a.1 b)

within-front : (x p : ℕ) (ns ms : List ℕ) → AreWithin x p (ns ++ ms) → AreWithin x p ns
within-front x p [] ms h = tt
within-front x p (y ∷ ns) ms h = (h.0, within-front x p ns ms h.1)

within-back : (x p : ℕ) (ns ms : List ℕ) → AreWithin x p (ns ++ ms) → AreWithin x p ms
within-back x p [] ms h = h
within-back x p (y ∷ ns) ms h = within-back x p ns ms h.1

-- ---- the first list of a sum

least-count : (x p n t : ℕ) → length (least_list x p n t) ≡ n
least-count x p zero t = refl
least-count x p (suc n) t = ap suc (least-count x p n (t - (t - n * p)))

least-within : (x p n t : ℕ) → t ≤ n * p → AreWithin x p (least_list x p n t)
least-within x p zero t l = tt
least-within x p (suc n) t l =
    let m : suc n * p ≡ p + n * p = one-more n p in
    ((omega arith, omega (arith, l, m)), least-within x p n (t - (t - n * p)) (omega arith))

least-above : (x p n t : ℕ) → t ≤ n * p → above x (least_list x p n t) ≡ t
least-above x p zero t l = omega (arith, l)
least-above x p (suc n) t l =
    let r = least-above x p n (t - (t - n * p)) (omega arith) in
    omega (arith, r)

least-first : (x p n t : ℕ) (ms : List ℕ) → AreWithin x p ms → length ms ≡ n → above x ms ≡ t → ¬ (slice_cmp nat_cmp ms (least_list x p n t) ≡ Less)
least-first x p zero t [] h e f q = let z : Equal ≡ Less = q in cc z
least-first x p zero t (m ∷ ms) h e f q = absurd (let z : suc (length ms) ≡ 0 = e in omega (arith, z))
least-first x p (suc n) t [] h e f q = absurd (let z : 0 ≡ suc n = e in omega (arith, z))
least-first x p (suc n) t (m ∷ ms) h e f q =
    let c : suc (length ms) ≡ suc n = e in
    let count : length ms ≡ n = omega (arith, c) in
    let most = above-most x p ms h.1 in
    let k : length ms * p ≡ n * p = ap (λ z. z * p) count in
    let a = h.0.0 in
    let g : (m - x) + above x ms ≡ t = f in
    elim (then-less m (x + (t - n * p)) (slice_cmp nat_cmp ms (least_list x p n (t - (t - n * p)))) q) [
      | inl l ↦ absurd (omega (arith, l, most, k, a, g))
      | inr s ↦ (let same = s.0 in least-first x p n (t - (t - n * p)) ms h.1 count (omega (arith, same, most, k, a, g)) s.1)
    ]

-- ---- what is taken off is the last of its sum

last-more : (x p y : ℕ) (zs : List ℕ) → x ≤ y → IsLastOfSum x p zs → (above x zs ≡ 0) ⊎ (x + p ≤ y) → IsLastOfSum x p (y ∷ zs)
last-more x p y zs a last o [] h e f q = absurd (let z : 0 ≡ suc (length zs) = e in omega (arith, z))
last-more x p y zs a last o (m ∷ ms) h e f q =
    let c : suc (length ms) ≡ suc (length zs) = e in
    let g : (m - x) + above x ms ≡ (y - x) + above x zs = f in
    let b = h.0.1 in
    elim (then-less y m (slice_cmp nat_cmp zs ms) q) [
      | inl l ↦ elim o [
        | inl none ↦ absurd (omega (arith, l, none, g, a))
        | inr top ↦ absurd (omega (arith, l, top, b))
      ]
      | inr s ↦ (let same = s.0 in last ms h.1 (omega (arith, c)) (omega (arith, same, g)) s.1)
    ]

-- ---- raising a number

raised-later : (b : List ℕ) (y : ℕ) (zs ws : List ℕ) → slice_cmp nat_cmp (b ++ y ∷ zs) (b ++ (y + 1) ∷ ws) ≡ Less
raised-later [] y zs ws = ap (λ c. ordering_then c (slice_cmp nat_cmp zs ws)) (cmp-less y (y + 1) (omega arith))
raised-later (c ∷ b) y zs ws = ap (λ o. ordering_then o (slice_cmp nat_cmp (b ++ y ∷ zs) (b ++ (y + 1) ∷ ws))) (tied_itself nat_cmp_total c) ∙ raised-later b y zs ws

raised-between : (x p : ℕ) (b : List ℕ) (y : ℕ) (zs : List ℕ) (t : ℕ) → x ≤ y → IsLastOfSum x p zs → above x zs ≡ t + 1 → (ms : List ℕ) → AreWithin x p ms → length ms ≡ length (b ++ y ∷ zs) → above x ms ≡ above x (b ++ y ∷ zs) → slice_cmp nat_cmp (b ++ y ∷ zs) ms ≡ Less → ¬ (slice_cmp nat_cmp ms (b ++ (y + 1) ∷ least_list x p (length zs) t) ≡ Less)
raised-between x p [] y zs t a last more [] h e f q r = absurd (let z : 0 ≡ suc (length zs) = e in omega (arith, z))
raised-between x p [] y zs t a last more (m ∷ ms) h e f q r =
    let c : suc (length ms) ≡ suc (length zs) = e in
    let g : (m - x) + above x ms ≡ (y - x) + above x zs = f in
    elim (then-less y m (slice_cmp nat_cmp zs ms) q) [
      | inl l ↦ elim (then-less m (y + 1) (slice_cmp nat_cmp ms (least_list x p (length zs) t)) r) [
        | inl k ↦ absurd (omega (arith, l, k))
        | inr s ↦ (let same = s.0 in least-first x p (length zs) t ms h.1 (omega (arith, c)) (omega (arith, same, g, more, a)) s.1)
      ]
      | inr s ↦ (let same = s.0 in last ms h.1 (omega (arith, c)) (omega (arith, same, g)) s.1)
    ]
raised-between x p (c ∷ b) y zs t a last more [] h e f q r = absurd (let z : 0 ≡ suc (length (b ++ y ∷ zs)) = e in omega (arith, z))
raised-between x p (c ∷ b) y zs t a last more (m ∷ ms) h e f q r =
    let d : suc (length ms) ≡ suc (length (b ++ y ∷ zs)) = e in
    let g : (m - x) + above x ms ≡ (c - x) + above x (b ++ y ∷ zs) = f in
    elim (then-less c m (slice_cmp nat_cmp (b ++ y ∷ zs) ms) q) [
      | inl l ↦ elim (then-less m c (slice_cmp nat_cmp ms (b ++ (y + 1) ∷ least_list x p (length zs) t)) r) [
        | inl k ↦ absurd (omega (arith, l, k))
        | inr s ↦ (let same = s.0 in absurd (omega (arith, l, same)))
      ]
      | inr s ↦ elim (then-less m c (slice_cmp nat_cmp ms (b ++ (y + 1) ∷ least_list x p (length zs) t)) r) [
        | inl k ↦ (let same = s.0 in absurd (omega (arith, k, same)))
        | inr v ↦ (let same = s.0 in raised-between x p b y zs t a last more ms h.1 (omega (arith, d)) (omega (arith, same, g)) s.1 v.1)
      ]
    ]

next-raised : (x p : ℕ) (b : List ℕ) (y : ℕ) (zs : List ℕ) (t : ℕ) → AreWithin x p (b ++ y ∷ zs) → y < x + p → IsLastOfSum x p zs → above x zs ≡ t + 1 → IsNext x p (b ++ y ∷ zs) (b ++ (y + 1) ∷ least_list x p (length zs) t)
next-raised x p b y zs t h l last more =
    let back = within-back x p b (y ∷ zs) h in
    let low = back.0.0 in
    let most = above-most x p zs back.1 in
    let room : t ≤ length zs * p = omega (arith, most, more) in
    let ws = least_list x p (length zs) t in
    let inside : AreWithin x p (b ++ (y + 1) ∷ ws) = within-both x p b ((y + 1) ∷ ws) (within-front x p b (y ∷ zs) h) ((omega (arith, low), omega (arith, l)), least-within x p (length zs) t room) in
    let count : length (b ++ (y + 1) ∷ ws) ≡ length (b ++ y ∷ zs) =
    (let i = length-append b (y ∷ zs) in let j = length-append b ((y + 1) ∷ ws) in let k : length ws ≡ length zs = least-count x p (length zs) t in omega (arith, i, j, k)) in
    let level : above x (b ++ (y + 1) ∷ ws) ≡ above x (b ++ y ∷ zs) + 0 =
    (let i = above-both x b (y ∷ zs) in let j = above-both x b ((y + 1) ∷ ws) in let k : above x ws ≡ t = least-above x p (length zs) t room in omega (arith, i, j, k, more, low)) in
    let same = sums-by x p (b ++ y ∷ zs) (b ++ (y + 1) ∷ ws) 0 h inside count level in
    record {
      within = inside;
      count = count;
      later = ap (λ o. ordering_then o (slice_cmp nat_cmp (b ++ y ∷ zs) (b ++ (y + 1) ∷ ws))) (cmp-equal (sum (b ++ y ∷ zs)) (sum (b ++ (y + 1) ∷ ws)) (omega (arith, same))) ∙ raised-later b y zs ws;
      between = λ ms wi long q r. elim (then-less (sum (b ++ y ∷ zs)) (sum ms) (slice_cmp nat_cmp (b ++ y ∷ zs) ms) q) [
        | inl d ↦ elim (then-less (sum ms) (sum (b ++ (y + 1) ∷ ws)) (slice_cmp nat_cmp ms (b ++ (y + 1) ∷ ws)) r) [
          | inl k ↦ absurd (omega (arith, d, k, same))
          | inr s ↦ (let i = s.0 in absurd (omega (arith, d, i, same)))
        ]
        | inr u ↦ elim (then-less (sum ms) (sum (b ++ (y + 1) ∷ ws)) (slice_cmp nat_cmp ms (b ++ (y + 1) ∷ ws)) r) [
          | inl k ↦ (let i = u.0 in absurd (omega (arith, k, i, same)))
          | inr s ↦ (let i = u.0 in
              let f = aboves-by x p (b ++ y ∷ zs) ms 0 h wi long (omega (arith, i)) in
              raised-between x p b y zs t low last more ms wi long (omega (arith, f)) u.1 s.1)
        ]
      ];
    }

-- ---- the next sum

next-sum : (x p : ℕ) (zs : List ℕ) → AreWithin x p zs → IsLastOfSum x p zs → above x zs + 1 ≤ length zs * p → IsNext x p zs (least_list x p (length zs) (above x zs + 1))
next-sum x p zs h last room =
    let ws = least_list x p (length zs) (above x zs + 1) in
    let inside : AreWithin x p ws = least-within x p (length zs) (above x zs + 1) room in
    let count : length ws ≡ length zs = least-count x p (length zs) (above x zs + 1) in
    let more = sums-by x p zs ws 1 h inside count (least-above x p (length zs) (above x zs + 1) room) in
    record {
      within = inside;
      count = count;
      later = ap (λ o. ordering_then o (slice_cmp nat_cmp zs ws)) (cmp-less (sum zs) (sum ws) (omega (arith, more)));
      between = λ ms wi long q r. elim (then-less (sum zs) (sum ms) (slice_cmp nat_cmp zs ms) q) [
        | inl d ↦ elim (then-less (sum ms) (sum ws) (slice_cmp nat_cmp ms ws) r) [
          | inl k ↦ absurd (omega (arith, d, k, more))
          | inr s ↦ (let i = s.0 in least-first x p (length zs) (above x zs + 1) ms wi long (aboves-by x p zs ms 1 h wi long (omega (arith, i, more))) s.1)
        ]
        | inr u ↦ (let i = u.0 in let f = aboves-by x p zs ms 0 h wi long (omega (arith, i)) in last ms wi long (omega (arith, f)) u.1)
      ];
    }

last-sum : (x p : ℕ) (zs : List ℕ) → AreWithin x p zs → IsLastOfSum x p zs → above x zs ≡ length zs * p → IsLast x p zs
last-sum x p zs h last full = λ ms wi long q.
    let most = above-most x p ms wi in
    let k : length ms * p ≡ length zs * p = ap (λ z. z * p) long in
    let s = sum-above x p zs h in
    let t = sum-above x p ms wi in
    let j : length ms * x ≡ length zs * x = ap (λ z. z * x) long in
    elim (then-less (sum zs) (sum ms) (slice_cmp nat_cmp zs ms) q) [
      | inl d ↦ absurd (omega (arith, d, most, k, s, t, j, full))
      | inr u ↦ (let i = u.0 in let f = aboves-by x p zs ms 0 h wi long (omega (arith, i)) in last ms wi long (omega (arith, f)) u.1)
    ]

pub first-list : (x p n : ℕ) → IsFirst x p n (least_list x p n 0)
first-list x p n =
    let ws = least_list x p n 0 in
    let inside : AreWithin x p ws = least-within x p n 0 (omega arith) in
    let count : length ws ≡ n = least-count x p n 0 in
    let none : above x ws ≡ 0 = least-above x p n 0 (omega arith) in
    record {
      within = inside;
      count = count;
      before = λ ms wi long r.
          let s = sum-above x p ws inside in
          let t = sum-above x p ms wi in
          let same : length ms ≡ length ws = long ∙ sym count in
          let j : length ms * x ≡ length ws * x = ap (λ z. z * x) same in
          elim (then-less (sum ms) (sum ws) (slice_cmp nat_cmp ms ws) r) [
            | inl d ↦ absurd (omega (arith, d, s, t, j, none))
            | inr u ↦ (let i = u.0 in least-first x p n 0 ms wi long (omega (arith, i, s, t, j, none)) u.1)
          ];
    }

-- ---- taking numbers off

off-whole : (x p : ℕ) (old items rest : List ℕ) (y many t : ℕ) → (h : IsTakenOff x p old items many t) → items ≡ rest ++ y ∷ [] → old ≡ rest ++ y ∷ h.off
off-whole x p old items rest y many t h e = h.whole ∙ ap (λ zs. zs ++ h.off) e ∙ append_assoc rest (y ∷ []) h.off

pub off-number : (x p : ℕ) (old items rest : List ℕ) (y many t : ℕ) → AreWithin x p old → IsTakenOff x p old items many t → items ≡ rest ++ y ∷ [] → (x ≤ y) × (y ≤ x + p)
off-number x p old items rest y many t w h e = (within-back x p rest (y ∷ h.off) (subst (AreWithin x p) (off-whole x p old items rest y many t h e) w)).0

pub off-next : (x p : ℕ) (old items rest : List ℕ) (y many t : ℕ) → AreWithin x p old → IsTakenOff x p old items many t → items ≡ rest ++ y ∷ [] → (t ≡ 0) ⊎ (x + p ≤ y) → IsTakenOff x p old rest (many + 1) (t + (y - x))
off-next x p old items rest y many t w h e o =
    let c = h.count in
    let k = h.height in
    record {
      off = y ∷ h.off;
      whole = off-whole x p old items rest y many t h e;
      count = omega (arith, c);
      height = omega (arith, k);
      last = last-more x p y h.off (off-number x p old items rest y many t w h e).0 h.last (elim o [
        | inl none ↦ inl (omega (arith, k, none))
        | inr top ↦ inr top
      ]);
    }

-- what is above the least ones fits in 64 bits
pub off-fits : (x p : ℕ) (old items : List ℕ) (many t : ℕ) → AreWithin x p old → IsTakenOff x p old items many t → t ≤ many * p
off-fits x p old items many t w h =
    let m = above-most x p h.off (within-back x p items h.off (subst (AreWithin x p) h.whole w)) in
    let k : length h.off * p ≡ many * p = ap (λ z. z * p) h.count in
    let e = h.height in
    omega (arith, m, k, e)

pub product-fits : (n p : ℕ) → n < 4294967296 → p < 4294967296 → n * p ≤ 18446744065119617025
product-fits n p a b = mul-le n p 4294967295 4294967295 (omega (arith, a)) (omega (arith, b))

pub off-many : (x p : ℕ) (old items : List ℕ) (many t : ℕ) → IsTakenOff x p old items many t → length old ≡ length items + many
off-many x p old items many t h =
    let c = h.count in
    let e = ap length h.whole ∙ length-append items h.off in
    omega (arith, c, e)

pub off-raised : (x p : ℕ) (old items rest new : List ℕ) (y many t : ℕ) → AreWithin x p old → IsTakenOff x p old items many t → items ≡ rest ++ y ∷ [] → 0 < t → y < x + p → new ≡ (rest ++ (y + 1) ∷ []) ++ least_list x p many (t - 1) → IsNext x p old new
off-raised x p old items rest new y many t w h e some low made =
    let old_is = off-whole x p old items rest y many t h e in
    let new_is : new ≡ rest ++ (y + 1) ∷ least_list x p (length h.off) (t - 1) = made ∙ append_assoc rest ((y + 1) ∷ []) (least_list x p many (t - 1)) ∙ ap (λ n. rest ++ (y + 1) ∷ least_list x p n (t - 1)) (sym h.count) in
    let k = h.height in
    subst (λ zs. IsNext x p zs new) (sym old_is) (subst (IsNext x p (rest ++ y ∷ h.off)) (sym new_is)
    (next-raised x p rest y h.off (t - 1) (subst (AreWithin x p) old_is w) low h.last (omega (arith, k, some))))

off-all : (x p : ℕ) (old items : List ℕ) (many t : ℕ) → (h : IsTakenOff x p old items many t) → items ≡ [] → old ≡ h.off
off-all x p old items many t h e = h.whole ∙ ap (λ zs. zs ++ h.off) e

pub off-sum : (x p : ℕ) (old items new : List ℕ) (many t : ℕ) → AreWithin x p old → IsTakenOff x p old items many t → items ≡ [] → ¬ (t ≡ many * p) → new ≡ items ++ least_list x p many (t + 1) → IsNext x p old new
off-sum x p old items new many t w h none less made =
    let all = off-all x p old items many t h none in
    let fits = off-fits x p old items many t w h in
    let k = h.height in
    let c : length h.off * p ≡ many * p = ap (λ z. z * p) h.count in
    let new_is : new ≡ least_list x p (length h.off) (above x h.off + 1) = made ∙ ap (λ zs. zs ++ least_list x p many (t + 1)) none ∙ ap₂ (λ n z. least_list x p n (z + 1)) (sym h.count) (sym h.height) in
    subst (λ zs. IsNext x p zs new) (sym all) (subst (IsNext x p h.off) (sym new_is) (next-sum x p h.off (subst (AreWithin x p) all w) h.last (omega (arith, fits, less, k, c))))

pub off-last : (x p : ℕ) (old items : List ℕ) (many t : ℕ) → AreWithin x p old → IsTakenOff x p old items many t → items ≡ [] → t ≡ many * p → IsLast x p old
off-last x p old items many t w h none full =
    let all = off-all x p old items many t h none in
    let k = h.height in
    let c : length h.off * p ≡ many * p = ap (λ z. z * p) h.count in
    subst (IsLast x p) (sym all) (last-sum x p h.off (subst (AreWithin x p) all w) h.last (omega (arith, full, k, c)))

pub below-full : (t n m : ℕ) → n ≡ m → ¬ (t ≡ n) → t ≤ m → t + 1 ≤ m
below-full t n m e other l = omega (arith, e, other, l)

pub empty-list : (xs : List ℕ) → length xs ≡ 0 → xs ≡ []
empty-list [] e = refl
empty-list (x ∷ xs) e = absurd (let z : suc (length xs) ≡ 0 = e in omega (arith, z))

-- ---- appending the first list of a sum

-- what is appended, number by number
pub least-step : (x p : ℕ) (items whole : List ℕ) (n left t here : ℕ) → items ++ least_list x p n t ≡ whole → n ≡ left + 1 → here ≡ t - left * p → (items ++ (x + here) ∷ []) ++ least_list x p left (t - here) ≡ whole
least-step x p items whole n left t here e f g =
    append_assoc items ((x + here) ∷ []) (least_list x p left (t - here))
    ∙ ap (λ z. items ++ (x + z) ∷ least_list x p left (t - z)) g
    ∙ ap (λ m. items ++ least_list x p m t) (let q : suc left ≡ n = omega (arith, f) in q)
    ∙ e

pub least-end : (x p : ℕ) (items whole : List ℕ) (n t : ℕ) → items ++ least_list x p n t ≡ whole → n ≡ 0 → items ≡ whole
least-end x p items whole n t e f = sym (append-nil items) ∙ ap (λ m. items ++ least_list x p m t) (sym f) ∙ e

-- ---- the lists that are tried are those within the range

step-within : (l : Logic) (b n : ℕ) → IsTrue (is_tried_length l b n) → (least_of l ≤ n) × (n ≤ least_of l + spread_of l b)
step-within Classical b n h = let q : n ≡ 0 = eqb-true n 0 (and_parts (n == 0) true h).0 in (omega arith, omega (arith, q))
step-within Intuitionistic b n h = let q = leb-true n b h in (omega arith, omega (arith, q))
step-within D b n h = let q : n ≡ 1 = eqb-true n 1 (and_parts (n == 1) true h).0 in (omega (arith, q), omega (arith, q))
step-within LogicT b n h = let q = leb-true n 1 (and_parts (nat_le n 1) true h).0 in (omega arith, omega (arith, q))
step-within S4 b n h = let q = leb-true n b h in (omega arith, omega (arith, q))
step-within S5 b n h = let q = leb-true n 1 (and_parts (nat_le n 1) true h).0 in (omega arith, omega (arith, q))

all-within : (l : Logic) (b : ℕ) (ns : List ℕ) → IsTrue (list_all (is_tried_length l b) ns) → AreWithin (least_of l) (spread_of l b) ns
all-within l b [] h = tt
all-within l b (n ∷ ns) h = let q = and_parts (is_tried_length l b n) (list_all (is_tried_length l b) ns) h in (step-within l b n q.0, all-within l b ns q.1)

pub tried-within : (l : Logic) (y : System) (ns : List ℕ) → AreTried l y ns → AreWithin (least_of l) (spread_of l (bound_of y)) ns × (length ns ≡ length y.strings)
tried-within l y ns h =
    let q = and_parts (length ns == length y.strings) (list_all (is_tried_length l (bound_of y)) ns) h in
    (all-within l (bound_of y) ns q.1, eqb-true (length ns) (length y.strings) q.0)

step-tried : (l : Logic) (b n : ℕ) → IsTrue (has_labels l) → least_of l ≤ n → n ≤ least_of l + spread_of l b → IsTrue (is_tried_length l b n)
step-tried Classical b n k a c = absurd (false≢true k)
step-tried Intuitionistic b n k a c = le-leb n b (omega (arith, c))
step-tried D b n k a c = and_from (n == 1) true (eq-eqb n 1 (omega (arith, a, c))) refl
step-tried LogicT b n k a c = and_from (nat_le n 1) true (le-leb n 1 (omega (arith, c))) refl
step-tried S4 b n k a c = le-leb n b (omega (arith, c))
step-tried S5 b n k a c = and_from (nat_le n 1) true (le-leb n 1 (omega (arith, c))) refl

all-tried : (l : Logic) (b : ℕ) (ns : List ℕ) → IsTrue (has_labels l) → AreWithin (least_of l) (spread_of l b) ns → IsTrue (list_all (is_tried_length l b) ns)
all-tried l b [] k h = refl
all-tried l b (n ∷ ns) k h = and_from (is_tried_length l b n) (list_all (is_tried_length l b) ns) (step-tried l b n k h.0.0 h.0.1) (all-tried l b ns k h.1)

pub within-tried : (l : Logic) (y : System) (ns : List ℕ) → IsTrue (has_labels l) → AreWithin (least_of l) (spread_of l (bound_of y)) ns → length ns ≡ length y.strings → AreTried l y ns
within-tried l y ns k h e = and_from (length ns == length y.strings) (list_all (is_tried_length l (bound_of y)) ns) (eq-eqb (length ns) (length y.strings) e) (all-tried l (bound_of y) ns k h)
