-- Rows of digits are compared digit by digit, which is tuple by tuple.
use Rattle.std.proofs.Common.{◌≡◌, ℕ, zero, suc, ◌+◌, ◌*◌, ◌^◌, ◌<◌, List, [], ◌∷◌, ◌++◌, length, map, get_or, Bool, false, not, ◌&&◌, ◌||◌, ◌==◌, IsTrue, nat_lt, Option, Some, None, refl, sym, ◌∙◌, ap, subst, arith, slice_get, Bor, option_copied, eqb-true, ltb-true}
use Rattle.std.specs.List.{list_all, flat_map}
use Rattle.std.specs.Option.{option_map, option_map_or}
use Rattle.std.specs.Prelude.{Vec}
use Rattle.std.specs.declared.alloc.Global.{Global}
use Rattle.std.proofs.lemmas.Bool.{and_parts, false≢true}
use Rattle.std.proofs.lemmas.List.Folds.{list_all-map}
use Rattle.std.proofs.Math.Nat.{pow-succ', pow-zero, mul-one, mul_assoc, suc-mul}
use Rattle.plain_laws.proofs.Lists.{flat-same}
use Rattle.calculus.proofs.StructureTextLaws.{shifted}
use Rattle.finite_model.proofs.SlotLaws.{length-bits}
use Rattle.calculus.specs.Syntax.{Symbol}
use Rattle.calculus.specs.Skolem.{is_function}
use Rattle.calculus.specs.Structures.{Meaning, Structure, value_table, truth_tables, are_tables, is_in_range, is_table, list_at, numbers_from, place_of, predicate_value, successors_of, truth_in, tuples}
use Rattle.finite_model.specs.Conditions.{HasRows, is_kept, is_row_kept}
use Rattle.finite_model.specs.declared.structure.Meaning as program
use Rattle.finite_model.specs.declared.structure.Meaning.TheVariants.{Values, Truths}
use Rattle.finite_model.specs.StructureView.{is_one, the_lists, the_meaning, the_rows}
use Rattle.finite_model.proofs.ConditionLaws.{places_from, tuple-places}
use Rattle.finite_model.proofs.ValueLaws.{row-bit}

-- ---- all places

from-joined : (a m n : ℕ) → numbers_from a (m + n) ≡ numbers_from a m ++ numbers_from (a + m) n
from-joined a zero n = (let e : zero + n ≡ n = omega arith in let f : a ≡ a + zero = omega arith in λ i. numbers_from (f i) (e i))
from-joined a (suc m) n =
    (let e : suc m + n ≡ suc (m + n) = omega arith in ap (numbers_from a) e)
    ∙ ap (λ l. a ∷ l) (from-joined (suc a) m n)
    ∙ (let e : suc a + m ≡ a + suc m = omega arith in ap (λ k. a ∷ (numbers_from (suc a) m ++ numbers_from k n)) e)

blocks : (c n a k : ℕ) → flat_map (λ x. numbers_from ((c + x) * n) n) (numbers_from a k) ≡ numbers_from ((c + a) * n) (k * n)
blocks c n a zero = (let e : zero * n ≡ 0 = omega arith in ap (numbers_from ((c + a) * n)) (sym e))
blocks c n a (suc k) =
    ap (λ l. numbers_from ((c + a) * n) n ++ l) (blocks c n (suc a) k)
    ∙ ap (λ m. numbers_from ((c + a) * n) n ++ numbers_from m (k * n)) ((let e : c + suc a ≡ suc (c + a) = omega arith in ap (λ m. m * n) e) ∙ suc-mul (c + a) n)
    ∙ sym (from-joined ((c + a) * n) n (k * n))
    ∙ (let e : n + k * n ≡ suc k * n = sym (suc-mul k n ∙ (let f : k * n + n ≡ n + k * n = omega arith in f)) in ap (numbers_from ((c + a) * n)) e)

pub all-places : (e b n : ℕ) → places_from e (numbers_from 0 e) b n ≡ numbers_from (b * e ^ n) (e ^ n)
all-places e b zero = (let f : 1 ≡ e ^ zero = sym (pow-zero e) in let g : b ≡ b * e ^ zero = sym (mul-one b) ∙ ap (λ k. b * k) f in λ i. numbers_from (g i) (f i))
all-places e b (suc n) =
    flat-same (λ x. places_from e (numbers_from 0 e) (b * e + x) n) (λ x. numbers_from ((b * e + x) * e ^ n) (e ^ n)) (λ x. all-places e (b * e + x) n) (numbers_from 0 e)
    ∙ blocks (b * e) (e ^ n) 0 e
    ∙ (λ i. numbers_from (start i) (size i))
  where
    size : e * e ^ n ≡ e ^ suc n
    size = sym (pow-succ' e n)

    start : (b * e + 0) * e ^ n ≡ b * e ^ suc n
    start = (let f : b * e + 0 ≡ b * e = omega arith in ap (λ k. k * e ^ n) f) ∙ mul_assoc b e (e ^ n) ∙ ap (λ k. b * k) (sym (pow-succ' e n))

-- ---- digit by digit

all-same : {A : Type 0} (f g : A → Bool) → ((x : A) → f x ≡ g x) → (xs : List A) → list_all f xs ≡ list_all g xs
all-same f g h [] = refl
all-same f g h (x ∷ xs) = λ i. h x i && all-same f g h xs i

abbrev kept_at : List ℕ → List ℕ → ℕ → Bool
kept_at a b k = not (is_one (get_or a k 0)) || is_one (get_or b k 0)

rows-kept : (a b : List ℕ) → length a ≡ length b → list_all (kept_at a b) (numbers_from 0 (length a)) ≡ is_row_kept a b
rows-kept [] b e = refl
rows-kept (x ∷ a) [] e = absurd (omega arith)
rows-kept (x ∷ a) (y ∷ b) e = ap (λ c. (not (is_one x) || is_one y) && c) (shifted (kept_at (x ∷ a) (y ∷ b)) 0 (length a) ∙ rows-kept a b (omega arith))

row-length : (rows : List (Vec ℕ Global)) (n w : ℕ) → IsTrue (list_all (λ row. length row == n) (the_rows rows)) → w < length rows → length (list_at (the_lists rows) w) ≡ n
row-length [] n w h lt = absurd (omega arith)
row-length (r ∷ rows) n zero h lt = sym (length-bits r.items) ∙ eqb-true (length (map is_one r.items)) n (and_parts (length (map is_one r.items) == n) (list_all (λ row. length row == n) (the_rows rows)) h).0
row-length (r ∷ rows) n (suc w) h lt = row-length rows n w (and_parts (length (map is_one r.items) == n) (list_all (λ row. length row == n) (the_rows rows)) h).1 (omega arith)

rows-count : (rows : List (Vec ℕ Global)) → length (the_rows rows) ≡ length rows
rows-count [] = refl
rows-count (r ∷ rows) = ap suc (rows-count rows)

-- what holds at a place of a row is the truth of the tuple
value-by_row : (S : Structure) (p w : ℕ) (rows : List (Vec ℕ Global)) (xs : List ℕ) → slice_get S.meanings p ≡ Some (truth_tables (the_rows rows)) → predicate_value S p w xs ≡ is_one (get_or (list_at (the_lists rows) w) (place_of S xs) 0)
value-by_row S p w rows xs e = ap (λ m. option_map_or (truth_in w (place_of S xs)) m false) e ∙ sym (row-bit rows w (place_of S xs))

same-rows : (m : Option Meaning) (a b : List (List Bool)) → m ≡ Some (truth_tables a) → m ≡ Some (truth_tables b) → a ≡ b
same-rows m a b e f = cc

pub kept-rows : (S : Structure) (p n w v : ℕ) (rows : List (Vec ℕ Global)) → HasRows S p n → slice_get S.meanings p ≡ Some (truth_tables (the_rows rows)) → w < length S.successors → v < length S.successors → is_row_kept (list_at (the_lists rows) w) (list_at (the_lists rows) v) ≡ is_kept S p n w v
kept-rows S p n w v rows h e lw lv =
    sym (rows-kept a b (la ∙ sym lb))
    ∙ (λ i. list_all (kept_at a b) (numbers_from 0 (la i)))
    ∙ ap (list_all (kept_at a b)) (sym all-tuples)
    ∙ list_all-map (kept_at a b) (place_of S) (tuples n (numbers_from 0 S.elements))
    ∙ all-same (λ xs. kept_at a b (place_of S xs)) (λ xs. not (predicate_value S p w xs) || predicate_value S p v xs) (λ xs i. not (sym (value-by_row S p w rows xs e) i) || sym (value-by_row S p v rows xs e) i) (tuples n (numbers_from 0 S.elements))
  where
    a : List ℕ
    a = list_at (the_lists rows) w

    b : List ℕ
    b = list_at (the_lists rows) v

    same : the_rows rows ≡ h.rows
    same = same-rows (slice_get S.meanings p) (the_rows rows) h.rows e h.there

    count : length rows ≡ length S.successors
    count = sym (rows-count rows) ∙ ap length same ∙ h.count

    long : IsTrue (list_all (λ row. length row == S.elements ^ n) (the_rows rows))
    long = ap (list_all (λ row. length row == S.elements ^ n)) same ∙ h.long

    la : length (list_at (the_lists rows) w) ≡ S.elements ^ n
    la = row-length rows (S.elements ^ n) w long (omega (arith, count))

    lb : length (list_at (the_lists rows) v) ≡ S.elements ^ n
    lb = row-length rows (S.elements ^ n) v long (omega (arith, count))

    all-tuples : map (place_of S) (tuples n (numbers_from 0 S.elements)) ≡ numbers_from 0 (S.elements ^ n)
    all-tuples = tuple-places S.elements (numbers_from 0 S.elements) 0 n ∙ all-places S.elements 0 n ∙ (let z : 0 * S.elements ^ n ≡ 0 = omega arith in ap (λ k. numbers_from k (S.elements ^ n)) z)

-- the rows of a predicate by what the program has
pub shown-rows : (S : Structure) (p n : ℕ) (m : Option (Bor program.Meaning)) (b : Bor program.Meaning) (rows : Vec (Vec ℕ Global) Global) → slice_get S.meanings p ≡ option_map the_meaning (option_copied m) → m ≡ Some b → b.now ≡ Truths rows → slice_get S.meanings p ≡ Some (truth_tables (the_rows rows.items))
shown-rows S p n m b rows e f g = e ∙ ap (λ x. option_map the_meaning (option_copied x)) f ∙ ap (λ x. Some (the_meaning x)) g

pub no-values : (S : Structure) (p n : ℕ) (m : Option (Bor program.Meaning)) (b : Bor program.Meaning) (values : Vec ℕ Global) → HasRows S p n → slice_get S.meanings p ≡ option_map the_meaning (option_copied m) → m ≡ Some b → b.now ≡ Values values → ⊥
no-values S p n m b values h e f g = let x : Some (truth_tables h.rows) ≡ Some (value_table values.items) = sym h.there ∙ e ∙ ap (λ x. option_map the_meaning (option_copied x)) f ∙ ap (λ x. Some (the_meaning x)) g in cc

pub no-meaning : (S : Structure) (p n : ℕ) (m : Option (Bor program.Meaning)) → HasRows S p n → slice_get S.meanings p ≡ option_map the_meaning (option_copied m) → m ≡ None → ⊥
no-meaning S p n m h e f = let x : Some (truth_tables h.rows) ≡ None = sym h.there ∙ e ∙ ap (λ x. option_map the_meaning (option_copied x)) f in cc

pub rows-as_long : (S : Structure) (p n w v : ℕ) (rows : List (Vec ℕ Global)) → HasRows S p n → slice_get S.meanings p ≡ Some (truth_tables (the_rows rows)) → w < length S.successors → v < length S.successors → length (list_at (the_lists rows) w) ≡ length (list_at (the_lists rows) v)
rows-as_long S p n w v rows h e lw lv =
    let same = same-rows (slice_get S.meanings p) (the_rows rows) h.rows e h.there in
    let count : length rows ≡ length S.successors = sym (rows-count rows) ∙ ap length same ∙ h.count in
    let long : IsTrue (list_all (λ row. length row == S.elements ^ n) (the_rows rows)) = ap (list_all (λ row. length row == S.elements ^ n)) same ∙ h.long in
    row-length rows (S.elements ^ n) w long (omega (arith, count)) ∙ sym (row-length rows (S.elements ^ n) v long (omega (arith, count)))

-- ---- the rows of a structure that is stated

tables-at : (S : Structure) (ss : List Symbol) (ms : List Meaning) (i : ℕ) (s : Symbol) → IsTrue (are_tables S ss ms) → slice_get ss i ≡ Some s → (m : Meaning) × (slice_get ms i ≡ Some m) × (IsTrue (is_table S s m))
tables-at S [] ms i s h e = absurd (cc)
tables-at S (t ∷ ss) [] i s h e = absurd (cc)
tables-at S (t ∷ ss) (m ∷ ms) zero s h e = let same : t ≡ s = cc in (m, refl, ap (λ u. is_table S u m) (sym same) ∙ (and_parts (is_table S t m) (are_tables S ss ms) h).0)
tables-at S (t ∷ ss) (m ∷ ms) (suc i) s h e = tables-at S ss ms i s (and_parts (is_table S t m) (are_tables S ss ms) h).1 e

range-of : (S : Structure) → IsTrue (is_in_range S) → IsTrue (list_all (λ vs. list_all (λ v. nat_lt v (length S.successors)) vs) S.successors)
range-of S h = (and_parts _ (list_all (λ vs. list_all (λ v. nat_lt v (length S.successors)) vs) S.successors) (and_parts _ _ h).0).1

rows-of : (S : Structure) (s : Symbol) (p : ℕ) (m : Meaning) → IsTrue (is_in_range S) → is_function s.class ≡ false → slice_get S.meanings p ≡ Some m → IsTrue (is_table S s m) → HasRows S p s.arity
rows-of S s p (value_table vs) range hn e h =
    let q = and_parts (is_function s.class && length vs == S.elements ^ s.arity) (list_all (λ v. nat_lt v S.elements) vs) h in
    let r = and_parts (is_function s.class) (length vs == S.elements ^ s.arity) q.0 in
    absurd (false≢true (sym hn ∙ r.0))
rows-of S s p (truth_tables rows) range hn e h =
    let q = and_parts (not (is_function s.class) && length rows == length S.successors) (list_all (λ row. length row == S.elements ^ s.arity) rows) h in
    let r = and_parts (not (is_function s.class)) (length rows == length S.successors) q.0 in
    record { rows = rows; there = e; count = eqb-true (length rows) (length S.successors) r.1; long = q.1; worlds = range-of S range }

pub has-rows : (S : Structure) (symbols : List Symbol) (p n : ℕ) (s : Symbol) (b : Bool) → IsTrue (is_in_range S) → IsTrue (are_tables S symbols S.meanings) → slice_get symbols p ≡ Some s → n ≡ s.arity → b ≡ is_function s.class → b ≡ false → HasRows S p n
has-rows S symbols p n s b range tables h en e hn =
    let t = tables-at S symbols S.meanings p s tables h in
    subst (HasRows S p) (sym en) (rows-of S s p t.0 range (sym e ∙ hn) t.1 t.2)

-- a successor is a world
list-below : (xs : List (List ℕ)) (n w : ℕ) → IsTrue (list_all (λ vs. list_all (λ v. nat_lt v n) vs) xs) → IsTrue (list_all (λ v. nat_lt v n) (list_at xs w))
list-below [] n w h = refl
list-below (x ∷ xs) n zero h = (and_parts (list_all (λ v. nat_lt v n) x) (list_all (λ vs. list_all (λ v. nat_lt v n) vs) xs) h).0
list-below (x ∷ xs) n (suc w) h = list-below xs n w (and_parts (list_all (λ v. nat_lt v n) x) (list_all (λ vs. list_all (λ v. nat_lt v n) vs) xs) h).1

item-below : (xs : List ℕ) (n i : ℕ) → IsTrue (list_all (λ v. nat_lt v n) xs) → i < length xs → get_or xs i 0 < n
item-below [] n i h lt = absurd (omega arith)
item-below (x ∷ xs) n zero h lt = ltb-true x n (and_parts (nat_lt x n) (list_all (λ v. nat_lt v n) xs) h).0
item-below (x ∷ xs) n (suc i) h lt = item-below xs n i (and_parts (nat_lt x n) (list_all (λ v. nat_lt v n) xs) h).1 (omega arith)

pub successor-below : (S : Structure) (p n w i : ℕ) (reached : List ℕ) → HasRows S p n → reached ≡ successors_of S w → i < length reached → get_or reached i 0 < length S.successors
successor-below S p n w i reached h e lt =
    subst (λ l. get_or l i 0 < length S.successors) (sym e)
    (item-below (successors_of S w) (length S.successors) i (list-below S.successors (length S.successors) w h.worlds) (let f = ap length e in omega arith))
