-- Places of a table by their numbers, and the items that stand at them.
use Rattle.std.proofs.Common.{if◌then◌else◌, ◌≡◌, ℕ, zero, suc, ◌^◌, ◌<◌, List, [], ◌∷◌, ◌++◌, length, get_or, Bool, true, false, ◌||◌, ◌==◌, nat_lt, refl, sym, ◌∙◌, ap, subst, arith, set, eq-eqb, eqb-true, ltb-true, lt-ltb}
use Rattle.std.specs.List.{list_all}
use Rattle.std.proofs.lemmas.Bool.{and_from, and_parts, true≢false}
use Rattle.std.proofs.lemmas.Grind.{get_or-set_at}
use Rattle.std.proofs.lemmas.List.{length-append, length-map, map-append, get_or-map, get_or_append_left}
use Rattle.calculus.proofs.EqualityLaws.{Tells}
use Rattle.calculus.specs.Versions.{number_in, place_in}
use Rattle.label_table.specs.Longer.{IsLonger}
use Rattle.derivation_text.specs.Entering.{entered, has}
use Rattle.derivation_text.specs.Listing.{AreApart, AreNumbers, AreWithin, first_number, items_at, one_later}
use Rattle.derivation_text.proofs.OnceLaws.{place-end}

-- ---- first numbers

abbrev or_else : ℕ → ℕ → ℕ
or_else zero m = m
or_else (suc n) m = suc n

-- one place more
first-end : (xs : List ℕ) (q p : ℕ) → first_number (xs ++ q ∷ []) p ≡ or_else (first_number xs p) (if q == p then suc (length xs) else 0)
first-end [] q p = refl
first-end (x ∷ xs) q p = by (x == p) (first_number xs p) (q == p) (first-end xs q p)
  where
    by : (b : Bool) (n : ℕ) (c : Bool) → first_number (xs ++ q ∷ []) p ≡ or_else n (if c then suc (length xs) else 0)
        → (if b then suc zero else one_later (first_number (xs ++ q ∷ []) p)) ≡ or_else (if b then suc zero else one_later n) (if c then suc (suc (length xs)) else 0)
    by true n c e = refl
    by false zero true e = ap one_later e
    by false zero false e = ap one_later e
    by false (suc n) c e = ap one_later e

or-zero : (n m : ℕ) → n ≡ 0 → or_else n m ≡ m
or-zero n m e = ap (λ k. or_else k m) e

if-other : (q p a b : ℕ) → (q ≡ p → ⊥) → (if q == p then a else b) ≡ b
if-other q p a b h = by (q == p) refl
  where
    by : (c : Bool) → (q == p) ≡ c → (if c then a else b) ≡ b
    by true e = absurd (h (eqb-true q p e))
    by false e = refl

if-same : (q p a b : ℕ) → q ≡ p → (if q == p then a else b) ≡ a
if-same q p a b h = ap (λ c. if c then a else b) (eq-eqb q p h)

-- a place that had a number keeps it
pub numbers-kept : (places numbers grown : List ℕ) (q : ℕ) → AreNumbers places numbers → ((p : ℕ) → get_or grown p 0 ≡ get_or numbers p 0) → length (places ++ q ∷ []) < 2 ^ 32 → (get_or grown q 0 ≡ 0 → ⊥) → AreNumbers (places ++ q ∷ []) grown
numbers-kept places numbers grown q h same few new = record { few = few; told = told }
  where
    old : (p : ℕ) → get_or grown p 0 ≡ first_number places p
    old p = same p ∙ h.told p

    by : (p n : ℕ) → n ≡ first_number places p → n ≡ or_else n (if q == p then suc (length places) else 0)
    by p zero e = sym (if-other q p (suc (length places)) 0 (λ k. new (old q ∙ ap (first_number places) k ∙ sym e)))
    by p (suc n) e = refl

    told : (p : ℕ) → get_or grown p 0 ≡ first_number (places ++ q ∷ []) p
    told p = old p ∙ by p (first_number places p) refl ∙ sym (first-end places q p)

pub get-set-other : (xs : List ℕ) (i j y : ℕ) → (i ≡ j → ⊥) → get_or (set xs i y) j 0 ≡ get_or xs j 0
get-set-other [] i j y h = refl
get-set-other (x ∷ xs) zero zero y h = absurd (h refl)
get-set-other (x ∷ xs) zero (suc j) y h = refl
get-set-other (x ∷ xs) (suc i) zero y h = refl
get-set-other (x ∷ xs) (suc i) (suc j) y h = get-set-other xs i j y (λ e. h (ap suc e))

-- a new one gets the next
pub numbers-put : (places numbers grown : List ℕ) (q n : ℕ) → AreNumbers places numbers → ((p : ℕ) → get_or grown p 0 ≡ get_or numbers p 0) → length (places ++ q ∷ []) < 2 ^ 32 → q < length grown → get_or grown q 0 ≡ 0 → n ≡ suc (length places) → AreNumbers (places ++ q ∷ []) (set grown q n)
numbers-put places numbers grown q n h same few lt new e = record { few = few; told = told }
  where
    old : (p : ℕ) → get_or grown p 0 ≡ first_number places p
    old p = same p ∙ h.told p

    by : (p : ℕ) (c : Bool) → (q == p) ≡ c → get_or (set grown q n) p 0 ≡ first_number (places ++ q ∷ []) p
    by p true k =
        let here : q ≡ p = eqb-true q p k in
        get_or-set_at grown q p n 0 (sym here) lt ∙ e ∙ sym (if-same q p (suc (length places)) 0 here)
        ∙ sym (or-zero (first_number places p) (if q == p then suc (length places) else 0) (sym (old p) ∙ ap (λ j. get_or grown j 0) (sym here) ∙ new)) ∙ sym (first-end places q p)
    by p false k =
        let other : q ≡ p → ⊥ = λ here. true≢false (sym (eq-eqb q p here) ∙ k) in
        get-set-other grown q p n other ∙ old p ∙ kept (first_number places p) ∙ ap (or_else (first_number places p)) (sym (if-other q p (suc (length places)) 0 other)) ∙ sym (first-end places q p)
      where
        kept : (m : ℕ) → m ≡ or_else m 0
        kept zero = refl
        kept (suc m) = refl

    told : (p : ℕ) → get_or (set grown q n) p 0 ≡ first_number (places ++ q ∷ []) p
    told p = by p (q == p) refl

-- one place more
pub numbers-listed : (places numbers grown after : List ℕ) (q n : ℕ) → AreNumbers places numbers → ((p : ℕ) → get_or grown p 0 ≡ get_or numbers p 0) → q < length grown → n ≡ suc (length places) → n < 2 ^ 32
    → (0 < get_or grown q 0 → after ≡ grown) → (get_or grown q 0 ≡ 0 → after ≡ set grown q n) → AreNumbers (places ++ q ∷ []) after
numbers-listed places numbers grown after q n h same lt e few kept put = by (get_or grown q 0) refl
  where
    size : length (places ++ q ∷ []) < 2 ^ 32
    size = let k = length-append places (q ∷ []) in omega (arith, k, e, few)

    by : (m : ℕ) → get_or grown q 0 ≡ m → AreNumbers (places ++ q ∷ []) after
    by zero z = subst (AreNumbers (places ++ q ∷ [])) (sym (put z)) (numbers-put places numbers grown q n h same size lt z e)
    by (suc m) z = subst (AreNumbers (places ++ q ∷ [])) (sym (kept (omega (arith, z)))) (numbers-kept places numbers grown q h same size (λ none. absurd (omega (arith, z, none))))

-- numbers that are those of their places
pub apart-by_numbers : (places : List ℕ) → ((k : ℕ) → k < length places → first_number places (get_or places k 0) ≡ suc k) → AreApart places 0
apart-by_numbers places h i j hi hj e =
    let same : suc i ≡ suc j = sym (h i hi) ∙ ap (first_number places) e ∙ h j hj in
    omega (arith, same)

-- ---- items at places

within-end : {A : Type 0} (table : List A) (places : List ℕ) (p : ℕ) → AreWithin table places → p < length table → AreWithin table (places ++ p ∷ [])
within-end table [] p h lt = and_from (nat_lt p (length table)) true (lt-ltb p (length table) lt) refl
within-end table (q ∷ qs) p h lt =
    let a = and_parts (nat_lt q (length table)) (list_all (λ p. nat_lt p (length table)) qs) h in
    and_from (nat_lt q (length table)) (list_all (λ p. nat_lt p (length table)) (qs ++ p ∷ [])) a.0 (within-end table qs p a.1 lt)

within-longer : {A : Type 0} (table grown : List A) (places : List ℕ) → IsLonger table grown → AreWithin table places → AreWithin grown places
within-longer table grown [] g h = refl
within-longer table grown (q ∷ qs) g h =
    let a = and_parts (nat_lt q (length table)) (list_all (λ p. nat_lt p (length table)) qs) h in
    let lt = ltb-true q (length table) a.0 in
    let n = ap length g.1 ∙ length-append table g.0 in
    and_from (nat_lt q (length grown)) (list_all (λ p. nat_lt p (length grown)) qs) (lt-ltb q (length grown) (omega (arith, lt, n))) (within-longer table grown qs g a.1)

pub items-longer : {A : Type 0} (table grown : List A) (d : A) (places : List ℕ) → IsLonger table grown → AreWithin table places → items_at grown d places ≡ items_at table d places
items-longer table grown d [] g h = refl
items-longer table grown d (q ∷ qs) g h =
    let a = and_parts (nat_lt q (length table)) (list_all (λ p. nat_lt p (length table)) qs) h in
    let same = ap (λ l. get_or l q d) g.1 ∙ get_or_append_left table g.0 d q (ltb-true q (length table) a.0) in
    λ i. same i ∷ items-longer table grown d qs g a.1 i

within-at : {A : Type 0} (table : List A) (places : List ℕ) (i : ℕ) → AreWithin table places → i < length places → get_or places i 0 < length table
within-at table [] i h lt = absurd (omega (arith, lt))
within-at table (q ∷ qs) zero h lt = ltb-true q (length table) (and_parts (nat_lt q (length table)) (list_all (λ p. nat_lt p (length table)) qs) h).0
within-at table (q ∷ qs) (suc i) h lt = within-at table qs i (and_parts (nat_lt q (length table)) (list_all (λ p. nat_lt p (length table)) qs) h).1 (omega (arith, lt))

-- the table has grown, and an item of it is listed
pub record IsListed {A : Type 0} (table grown : List A) (d : A) (places after : List ℕ) (w : A) : Type 0 where
  pub within : AreWithin grown after
  pub items : items_at grown d after ≡ items_at table d places ++ w ∷ []

pub listed-end : {A : Type 0} (table grown : List A) (d : A) (places after : List ℕ) (p : ℕ) (w : A) → IsLonger table grown → AreWithin table places → p < length grown → get_or grown p d ≡ w → after ≡ places ++ p ∷ [] → IsListed table grown d places after w
listed-end table grown d places after p w g h lt at e = record {
  within = subst (AreWithin grown) (sym e) (within-end grown places p (within-longer table grown places g h) lt);
  items = ap (items_at grown d) e ∙ map-append (λ q. get_or grown q d) places (p ∷ []) ∙ (λ i. items-longer table grown d places g h i ++ at i ∷ []);
}

-- the table alone has grown
pub grown-within : {A : Type 0} (table grown : List A) (places : List ℕ) → IsLonger table grown → AreWithin table places → AreWithin grown places
grown-within table grown places g h = within-longer table grown places g h

-- ---- numbers of items

-- in a table that has each item once, items are the same where their places are
places-tell : {A : Type 0} (same : A → A → Bool) → Tells same → (table : List A) (d : A) → AreApart table d → (q p : ℕ) → q < length table → p < length table → same (get_or table q d) (get_or table p d) ≡ (q == p)
places-tell {A} same tells table d apart q p hq hp = by (q == p) refl
  where
    by : (c : Bool) → (q == p) ≡ c → same (get_or table q d) (get_or table p d) ≡ c
    by true e = (tells (get_or table q d) (get_or table p d)).1 (ap (λ k. get_or table k d) (eqb-true q p e))
    by false e = other (same (get_or table q d) (get_or table p d)) refl
      where
        other : (c : Bool) → same (get_or table q d) (get_or table p d) ≡ c → c ≡ false
        other true k = absurd (true≢false (sym (eq-eqb q p (apart q p hq hp ((tells (get_or table q d) (get_or table p d)).0 k))) ∙ e))
        other false k = refl

-- a number that is told of a list of items
pub record IsToldOf {A : Type 0} (same : A → A → Bool) (items : List A) (w : A) (n : ℕ) : Type 0 where
  pub none : n ≡ 0 → has same items w ≡ false
  pub some : 0 < n → (has same items w ≡ true) × (number_in same items w ≡ n)

pub told-of : {A : Type 0} (same : A → A → Bool) → Tells same → (table : List A) (d : A) → AreApart table d → (places : List ℕ) (p : ℕ) → AreWithin table places → p < length table → IsToldOf same (items_at table d places) (get_or table p d) (first_number places p)
told-of same tells table d apart [] p h lt = record { none = λ e. refl; some = λ k. absurd (omega (arith, k)) }
told-of {A} same tells table d apart (q ∷ qs) p h lt =
    let a = and_parts (nat_lt q (length table)) (list_all (λ p. nat_lt p (length table)) qs) h in
    let r = by (q == p) (same (get_or table q d) (get_or table p d)) (places-tell same tells table d apart q p (ltb-true q (length table) a.0) lt) (first_number qs p) (told-of same tells table d apart qs p a.1 lt) in
    record { none = r.0; some = r.1 }
  where
    by : (c b : Bool) → b ≡ c → (n : ℕ) → IsToldOf same (items_at table d qs) (get_or table p d) n
        → ((if c then suc zero else one_later n) ≡ 0 → (b || has same (items_at table d qs) (get_or table p d)) ≡ false)
        × (0 < (if c then suc zero else one_later n) → ((b || has same (items_at table d qs) (get_or table p d)) ≡ true) × (suc (if b then 0 else suc (place_in same (items_at table d qs) (get_or table p d))) ≡ (if c then suc zero else one_later n)))
    by true b e n t = (λ k. absurd (omega (arith, k)), λ k. (ap (λ x. x || has same (items_at table d qs) (get_or table p d)) e, ap (λ x. suc (if x then 0 else suc (place_in same (items_at table d qs) (get_or table p d)))) e))
    by false b e zero t = (λ k. ap (λ x. x || has same (items_at table d qs) (get_or table p d)) e ∙ t.none refl, λ k. absurd (omega (arith, k)))
    by false b e (suc n) t =
        let f = t.some (omega arith) in (
          λ k. absurd (omega (arith, k)),
          λ k. (ap (λ x. x || has same (items_at table d qs) (get_or table p d)) e ∙ f.0, ap (λ x. suc (if x then 0 else suc (place_in same (items_at table d qs) (get_or table p d)))) e ∙ ap suc f.1),
        )

-- ---- an item is entered

-- what entering an item w answers, and the list after it
pub record IsEntered {A : Type 0} (same : A → A → Bool) (items after : List A) (w : A) (n : ℕ) : Type 0 where
  pub listed : after ≡ entered same items w
  pub number : n ≡ number_in same after w

-- it was listed
pub entered-old : {A : Type 0} (same : A → A → Bool) → Tells same → (table grown : List A) (d : A) → IsLonger table grown → AreApart grown d → (places : List ℕ) (p n : ℕ) (w : A) → AreWithin table places → p < length grown → get_or grown p d ≡ w → n ≡ first_number places p → 0 < n
    → IsEntered same (items_at table d places) (items_at grown d places) w n
entered-old same tells table grown d g apart places p n w h lt at e some =
    let items = items-longer table grown d places g h in
    let t = told-of same tells grown d apart places p (within-longer table grown places g h) lt in
    let f = t.some (subst (λ k. 0 < k) e some) in
    let told : has same (items_at table d places) w ≡ true = (λ i. has same (sym items i) (sym at i)) ∙ f.0 in
    record {
      listed = items ∙ sym (ap (λ c. if c then items_at table d places else items_at table d places ++ w ∷ []) told);
      number = e ∙ sym f.1 ∙ ap (number_in same (items_at grown d places)) at;
    }

-- it was not
pub entered-new : {A : Type 0} (same : A → A → Bool) → Tells same → (table grown : List A) (d : A) → IsLonger table grown → AreApart grown d → (places after : List ℕ) (p m n : ℕ) (w : A) → AreWithin table places → p < length grown → get_or grown p d ≡ w → m ≡ first_number places p → m ≡ 0
    → after ≡ places ++ p ∷ [] → n ≡ suc (length places) → IsEntered same (items_at table d places) (items_at grown d after) w n
entered-new same tells table grown d g apart places after p m n w h lt at e none grows k =
    let old = items_at table d places in
    let items = items-longer table grown d places g h in
    let t = told-of same tells grown d apart places p (within-longer table grown places g h) lt in
    let new : has same old w ≡ false = (λ i. has same (sym items i) (sym at i)) ∙ t.none (sym e ∙ none) in
    let all = (listed-end table grown d places after p w g h lt at grows).items in
    record {
      listed = all ∙ sym (ap (λ c. if c then old else old ++ w ∷ []) new);
      number = k ∙ ap suc (sym (length-map places (λ q. get_or table q d)) ∙ sym (place-end same tells old [] w new) ∙ ap (λ l. place_in same l w) (sym all));
    }

-- no item is listed twice where no place is
pub items-apart : {A : Type 0} (table : List A) (d : A) (places : List ℕ) → AreApart table d → AreWithin table places → AreApart places 0 → AreApart (items_at table d places) d
items-apart table d places apart within once i j hi hj e =
    let n = length-map places (λ q. get_or table q d) in
    let li : i < length places = omega (arith, n, hi) in
    let lj : j < length places = omega (arith, n, hj) in
    once i j li lj (apart (get_or places i 0) (get_or places j 0) (within-at table places i within li) (within-at table places j within lj)
    (sym (get_or-map (λ q. get_or table q d) places i 0 d li) ∙ e ∙ get_or-map (λ q. get_or table q d) places j 0 d lj))
