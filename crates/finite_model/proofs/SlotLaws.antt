-- The entries of a structure's text and the structure: the lines of the entries are those of the structure that they say, which can be
-- stated; and the lines of a structure that can be stated are those of entries.
use Rattle.std.proofs.Common.{◌≡◌, ℕ, zero, suc, ◌^◌, List, [], ◌∷◌, ◌++◌, length, map, take, drop, Bool, true, false, not, ◌&&◌, ◌||◌, ◌==◌, IsTrue, refl, sym, ◌∙◌, ap, subst, arith, append-nil, codes, decimal, nat_lt, eqb-true, if◌then◌else◌}
use Rattle.std.specs.List.{list_all}
use Rattle.std.proofs.lemmas.List.{take-append-drop}
use Rattle.std.proofs.lemmas.Bool.{and_parts, and_from, eq-eqb, false≢true}
use Rattle.plain_laws.proofs.Booleans.{and-assoc}
use Rattle.calculus.specs.Syntax.{Symbol}
use Rattle.calculus.specs.Skolem.{is_function}
use Rattle.calculus.specs.Structures.{Meaning, value_table, truth_tables, Structure, is_table, are_tables}
use Rattle.calculus.specs.StructureText.{numbers_text, world_lines, symbol_head, function_lines, bit_text, row_lines, predicate_lines, rises}
use Rattle.finite_model.specs.StructureView.{is_one}
use Rattle.finite_model.specs.declared.slot.Form.{Form}
use Rattle.finite_model.specs.declared.slot.Form.TheVariants.{Rising, Values, Digits}
use Rattle.finite_model.specs.Slots.{is_bit_digit, is_entry, entry_text, Place, world_slots, function_slot, function_slots, predicate_slots, are_entries, entry_lines, function_count, first_of, meanings_of}

-- ---- lists of slots

pub entry-count : (ss : List Place) (es : List (List ℕ)) → IsTrue (are_entries ss es) → length es ≡ length ss
entry-count [] [] h = refl
entry-count [] (e ∷ es) h = absurd (false≢true h)
entry-count (s ∷ ss) [] h = absurd (false≢true h)
entry-count (s ∷ ss) (e ∷ es) h = ap suc (entry-count ss es (and_parts (is_entry s.form e) (are_entries ss es) h).1)

pub lines-joined : (ss ts : List Place) (es fs : List (List ℕ)) → length es ≡ length ss → entry_lines (ss ++ ts) (es ++ fs) ≡ entry_lines ss es ++ entry_lines ts fs
lines-joined [] ts [] fs h = refl
lines-joined [] ts (e ∷ es) fs h = absurd (omega arith)
lines-joined (s ∷ ss) ts [] fs h = absurd (omega arith)
lines-joined (s ∷ ss) ts (e ∷ es) fs h = ap (λ ls. (s.front ++ entry_text s.form e) ∷ ls) (lines-joined ss ts es fs (omega arith))

pub entries-joined : (ss ts : List Place) (es fs : List (List ℕ)) → length es ≡ length ss → are_entries (ss ++ ts) (es ++ fs) ≡ (are_entries ss es && are_entries ts fs)
entries-joined [] ts [] fs h = refl
entries-joined [] ts (e ∷ es) fs h = absurd (omega arith)
entries-joined (s ∷ ss) ts [] fs h = absurd (omega arith)
entries-joined (s ∷ ss) ts (e ∷ es) fs h = ap (λ b. is_entry s.form e && b) (entries-joined ss ts es fs (omega arith)) ∙ and-assoc (is_entry s.form e) (are_entries ss es) (are_entries ts fs)

-- the entries of the first slots, and of the others
pub record IsSplit (ss ts : List Place) (es : List (List ℕ)) : Type 0 where
  pub first : IsTrue (are_entries ss (take (length ss) es))
  pub rest : IsTrue (are_entries ts (drop (length ss) es))

pub entries-split : (ss ts : List Place) (es : List (List ℕ)) → IsTrue (are_entries (ss ++ ts) es) → IsSplit ss ts es
entries-split [] ts es h = record { first = refl; rest = h }
entries-split (s ∷ ss) ts [] h = absurd (false≢true h)
entries-split (s ∷ ss) ts (e ∷ es) h =
    let p = and_parts (is_entry s.form e) (are_entries (ss ++ ts) es) h in
    let r = entries-split ss ts es p.1 in
    record { first = and_from (is_entry s.form e) (are_entries ss (take (length ss) es)) p.0 r.first; rest = r.rest }

pub world-count : (word after : List ℕ) (form : Form) (w n : ℕ) → length (world_slots word after form w n) ≡ n
world-count word after form w zero = refl
world-count word after form w (suc n) = ap suc (world-count word after form (suc w) n)

-- ---- successors and domains

pub world-lines : (word : List ℕ) (most w n : ℕ) (xs : List (List ℕ)) → length xs ≡ n → entry_lines (world_slots word [] (Rising most) w n) xs ≡ world_lines word w xs
world-lines word most w zero [] h = refl
world-lines word most w zero (x ∷ xs) h = absurd (omega arith)
world-lines word most w (suc n) [] h = absurd (omega arith)
world-lines word most w (suc n) (x ∷ xs) h = λ i. (append-nil (word ++ decimal (suc w)) i ++ numbers_text x) ∷ world-lines word most (suc w) n xs (let e : length xs ≡ n = omega arith in e) i

abbrev all_below : ℕ → List (List ℕ) → Bool
all_below most xs = list_all (λ vs. list_all (λ v. nat_lt v most) vs) xs

-- lists that are entries are within range and rise
pub record AreLists (most : ℕ) (xs : List (List ℕ)) : Type 0 where
  pub below : IsTrue (list_all (λ vs. list_all (λ v. nat_lt v most) vs) xs)
  pub rising : IsTrue (list_all rises xs)

pub entries-lists : (word : List ℕ) (most w n : ℕ) (xs : List (List ℕ)) → IsTrue (are_entries (world_slots word [] (Rising most) w n) xs) → AreLists most xs
entries-lists word most w zero [] h = record { below = refl; rising = refl }
entries-lists word most w zero (x ∷ xs) h = absurd (false≢true h)
entries-lists word most w (suc n) [] h = absurd (false≢true h)
entries-lists word most w (suc n) (x ∷ xs) h =
    let p = and_parts (is_entry (Rising most) x) (are_entries (world_slots word [] (Rising most) (suc w) n) xs) h in
    let q = and_parts (list_all (λ v. nat_lt v most) x) (rises x) p.0 in
    let r = entries-lists word most (suc w) n xs p.1 in
    record { below = and_from (list_all (λ v. nat_lt v most) x) (all_below most xs) q.0 r.below; rising = and_from (rises x) (list_all rises xs) q.1 r.rising }

pub lists-entries : (word : List ℕ) (most w n : ℕ) (xs : List (List ℕ)) → length xs ≡ n → AreLists most xs → IsTrue (are_entries (world_slots word [] (Rising most) w n) xs)
lists-entries word most w zero [] e h = refl
lists-entries word most w zero (x ∷ xs) e h = absurd (omega arith)
lists-entries word most w (suc n) [] e h = absurd (omega arith)
lists-entries word most w (suc n) (x ∷ xs) e h =
    let p = and_parts (list_all (λ v. nat_lt v most) x) (all_below most xs) h.below in
    let q = and_parts (rises x) (list_all rises xs) h.rising in
    and_from (is_entry (Rising most) x) (are_entries (world_slots word [] (Rising most) (suc w) n) xs) (and_from (list_all (λ v. nat_lt v most) x) (rises x) p.0 q.0) (lists-entries word most (suc w) n xs (omega arith) (record { below = p.1; rising = q.1 }))

-- ---- rows

digit-back : (b : ℕ) → IsTrue (is_bit_digit b) → bit_text (is_one b) ≡ b
digit-back b h = by (b == 49) refl h
  where
    by : (t : Bool) → (b == 49) ≡ t → IsTrue (b == 48 || t) → bit_text t ≡ b
    by true e k = sym (eqb-true b 49 e)
    by false e k = sym (eqb-true b 48 (or-false (b == 48) k))
      where
        or-false : (t : Bool) → IsTrue (t || false) → t ≡ true
        or-false true k = refl
        or-false false k = absurd (false≢true k)

pub digits-back : (row : List ℕ) → IsTrue (list_all is_bit_digit row) → map bit_text (map is_one row) ≡ row
digits-back [] h = refl
digits-back (b ∷ row) h = let p = and_parts (is_bit_digit b) (list_all is_bit_digit row) h in λ i. digit-back b p.0 i ∷ digits-back row p.1 i

pub length-bits : (row : List ℕ) → length (map is_one row) ≡ length row
length-bits [] = refl
length-bits (b ∷ row) = ap suc (length-bits row)

abbrev rows_front : Symbol → List ℕ
rows_front s = codes "predicate " ++ symbol_head s ++ codes " "

abbrev row_slots : Symbol → ℕ → ℕ → ℕ → List Place
row_slots s count w n = world_slots (rows_front s) (codes " ") (Digits count) w n

pub row-lines : (s : Symbol) (count w n : ℕ) (rows : List (List ℕ)) → IsTrue (are_entries (row_slots s count w n) rows) → entry_lines (row_slots s count w n) rows ≡ row_lines s w (map (map is_one) rows)
row-lines s count w zero [] h = refl
row-lines s count w zero (r ∷ rows) h = absurd (false≢true h)
row-lines s count w (suc n) [] h = absurd (false≢true h)
row-lines s count w (suc n) (r ∷ rows) h =
    let p = and_parts (is_entry (Digits count) r) (are_entries (row_slots s count (suc w) n) rows) h in
    let q = and_parts (list_all is_bit_digit r) (length r == count) p.0 in
    λ i. (rows_front s ++ decimal (suc w) ++ codes " " ++ sym (digits-back r q.0) i) ∷ row-lines s count (suc w) n rows p.1 i

abbrev all_long : ℕ → List (List Bool) → Bool
all_long count rows = list_all (λ row. length row == count) rows

pub rows-long : (s : Symbol) (count w n : ℕ) (rows : List (List ℕ)) → IsTrue (are_entries (row_slots s count w n) rows) → IsTrue (all_long count (map (map is_one) rows))
rows-long s count w zero [] h = refl
rows-long s count w zero (r ∷ rows) h = absurd (false≢true h)
rows-long s count w (suc n) [] h = absurd (false≢true h)
rows-long s count w (suc n) (r ∷ rows) h =
    let p = and_parts (is_entry (Digits count) r) (are_entries (row_slots s count (suc w) n) rows) h in
    let q = and_parts (list_all is_bit_digit r) (length r == count) p.0 in
    and_from (length (map is_one r) == count) (all_long count (map (map is_one) rows)) (ap (λ k. k == count) (length-bits r) ∙ q.1) (rows-long s count (suc w) n rows p.1)

-- ---- functions

pub function-lines : (E W : ℕ) (ss : List Symbol) (fs rows : List (List ℕ)) → IsTrue (are_entries (function_slots E ss) fs) → entry_lines (function_slots E ss) fs ≡ function_lines ss (meanings_of W ss fs rows)
function-lines E W [] [] rows h = refl
function-lines E W [] (f ∷ fs) rows h = absurd (false≢true h)
function-lines E W (s ∷ ss) fs rows h = by (function-lines E W ss) (is_function s.class) refl fs h
  where
    by : ((hs others : List (List ℕ)) → IsTrue (are_entries (function_slots E ss) hs) → entry_lines (function_slots E ss) hs ≡ function_lines ss (meanings_of W ss hs others)) → (b : Bool) → is_function s.class ≡ b → (gs : List (List ℕ)) → IsTrue (are_entries (if b then function_slot E s ∷ function_slots E ss else function_slots E ss) gs)
        → entry_lines (if b then function_slot E s ∷ function_slots E ss else function_slots E ss) gs ≡ function_lines (s ∷ ss) (if b then value_table (first_of gs) ∷ meanings_of W ss (drop 1 gs) rows else truth_tables (map (map is_one) (take W rows)) ∷ meanings_of W ss gs (drop W rows))
    by rest true e [] k = absurd (false≢true k)
    by rest true e (g ∷ gs) k = ap (λ ls. (codes "function " ++ symbol_head s ++ numbers_text g) ∷ ls) (rest gs rows (and_parts (is_entry (function_slot E s).form g) (are_entries (function_slots E ss) gs) k).1)
    by rest false e gs k = rest gs (drop W rows) k

-- ---- predicates

pub predicate-lines : (E W : ℕ) (ss : List Symbol) (fs rows : List (List ℕ)) → IsTrue (are_entries (predicate_slots W E ss) rows) → entry_lines (predicate_slots W E ss) rows ≡ predicate_lines ss (meanings_of W ss fs rows)
predicate-lines E W [] fs [] h = refl
predicate-lines E W [] fs (r ∷ rows) h = absurd (false≢true h)
predicate-lines E W (s ∷ ss) fs rows h = by (predicate-lines E W ss) (is_function s.class) refl h
  where
    by : ((gs others : List (List ℕ)) → IsTrue (are_entries (predicate_slots W E ss) others) → entry_lines (predicate_slots W E ss) others ≡ predicate_lines ss (meanings_of W ss gs others)) → (b : Bool) → is_function s.class ≡ b → IsTrue (are_entries (if b then predicate_slots W E ss else row_slots s (E ^ s.arity) 0 W ++ predicate_slots W E ss) rows)
        → entry_lines (if b then predicate_slots W E ss else row_slots s (E ^ s.arity) 0 W ++ predicate_slots W E ss) rows ≡ predicate_lines (s ∷ ss) (if b then value_table (first_of fs) ∷ meanings_of W ss (drop 1 fs) rows else truth_tables (map (map is_one) (take W rows)) ∷ meanings_of W ss fs (drop W rows))
    by others true e k = others (drop 1 fs) rows k
    by others false e k =
        let own = row_slots s (E ^ s.arity) 0 W in
        let split = entries-split own (predicate_slots W E ss) rows k in
        let n : length own ≡ W = world-count (rows_front s) (codes " ") (Digits (E ^ s.arity)) 0 W in
        let first : IsTrue (are_entries own (take W rows)) = subst (λ m. IsTrue (are_entries own (take m rows))) n split.first in
        let rest : IsTrue (are_entries (predicate_slots W E ss) (drop W rows)) = subst (λ m. IsTrue (are_entries (predicate_slots W E ss) (drop m rows))) n split.rest in
        ap (entry_lines (own ++ predicate_slots W E ss)) (sym (take-append-drop W rows))
        ∙ lines-joined own (predicate_slots W E ss) (take W rows) (drop W rows) (entry-count own (take W rows) first)
        ∙ (λ i. row-lines s (E ^ s.arity) 0 W (take W rows) first i ++ others fs (drop W rows) rest i)

-- ---- tables

length-rows : (rows : List (List ℕ)) → length (map (map is_one) rows) ≡ length rows
length-rows [] = refl
length-rows (r ∷ rows) = ap suc (length-rows rows)

function-table : (S : Structure) (s : Symbol) (g : List ℕ) → is_function s.class ≡ true → IsTrue (is_entry (Values (S.elements ^ s.arity) S.elements) g) → IsTrue (is_table S s (value_table g))
function-table S s g e h =
    let p = and_parts (list_all (λ v. nat_lt v S.elements) g) (length g == S.elements ^ s.arity) h in
    and_from (is_function s.class && length g == S.elements ^ s.arity) (list_all (λ v. nat_lt v S.elements) g) (and_from (is_function s.class) (length g == S.elements ^ s.arity) e p.1) p.0

predicate-table : (S : Structure) (W : ℕ) (s : Symbol) (rows : List (List ℕ)) → length S.successors ≡ W → is_function s.class ≡ false → IsTrue (are_entries (row_slots s (S.elements ^ s.arity) 0 W) rows) → IsTrue (is_table S s (truth_tables (map (map is_one) rows)))
predicate-table S W s rows same e h =
    let count : length (map (map is_one) rows) ≡ W = length-rows rows ∙ entry-count (row_slots s (S.elements ^ s.arity) 0 W) rows h ∙ world-count (rows_front s) (codes " ") (Digits (S.elements ^ s.arity)) 0 W in
    and_from (not (is_function s.class) && length (map (map is_one) rows) == length S.successors) (all_long (S.elements ^ s.arity) (map (map is_one) rows))
    (and_from (not (is_function s.class)) (length (map (map is_one) rows) == length S.successors) (ap not e) (eq-eqb _ _ (count ∙ sym same)))
    (rows-long s (S.elements ^ s.arity) 0 W rows h)

pub tables-stand : (S : Structure) (W : ℕ) (ss : List Symbol) (fs rows : List (List ℕ)) → length S.successors ≡ W → IsTrue (are_entries (function_slots S.elements ss) fs) → IsTrue (are_entries (predicate_slots W S.elements ss) rows) → IsTrue (are_tables S ss (meanings_of W ss fs rows))
tables-stand S W [] fs rows same h k = refl
tables-stand S W (s ∷ ss) fs rows same h k = by (λ hs others. tables-stand S W ss hs others same) (is_function s.class) refl fs h k
  where
    by : ((hs others : List (List ℕ)) → IsTrue (are_entries (function_slots S.elements ss) hs) → IsTrue (are_entries (predicate_slots W S.elements ss) others) → IsTrue (are_tables S ss (meanings_of W ss hs others))) → (b : Bool) → is_function s.class ≡ b → (gs : List (List ℕ))
        → IsTrue (are_entries (if b then record { front = codes "function " ++ symbol_head s; form = Values (S.elements ^ s.arity) S.elements } ∷ function_slots S.elements ss else function_slots S.elements ss) gs)
        → IsTrue (are_entries (if b then predicate_slots W S.elements ss else row_slots s (S.elements ^ s.arity) 0 W ++ predicate_slots W S.elements ss) rows)
        → IsTrue (are_tables S (s ∷ ss) (if b then value_table (first_of gs) ∷ meanings_of W ss (drop 1 gs) rows else truth_tables (map (map is_one) (take W rows)) ∷ meanings_of W ss gs (drop W rows)))
    by rest true e [] f g = absurd (false≢true f)
    by rest true e (x ∷ xs) f g =
        let p = and_parts (is_entry (Values (S.elements ^ s.arity) S.elements) x) (are_entries (function_slots S.elements ss) xs) f in
        and_from (is_table S s (value_table x)) (are_tables S ss (meanings_of W ss xs rows)) (function-table S s x e p.0) (rest xs rows p.1 g)
    by rest false e gs f g =
        let own = row_slots s (S.elements ^ s.arity) 0 W in
        let others = predicate_slots W S.elements ss in
        let split = entries-split own others rows g in
        let n : length own ≡ W = world-count (rows_front s) (codes " ") (Digits (S.elements ^ s.arity)) 0 W in
        and_from (is_table S s (truth_tables (map (map is_one) (take W rows)))) (are_tables S ss (meanings_of W ss gs (drop W rows)))
        (predicate-table S W s (take W rows) same e (subst (λ m. IsTrue (are_entries own (take m rows))) n split.first))
        (rest gs (drop W rows) f (subst (λ m. IsTrue (are_entries others (drop m rows))) n split.rest))

-- ---- the entries of a structure

abbrev pub function_entries : List Meaning → List (List ℕ)
function_entries [] = []
function_entries (value_table vs ∷ ms) = vs ∷ function_entries ms
function_entries (truth_tables rows ∷ ms) = function_entries ms

abbrev pub row_entries : List Meaning → List (List ℕ)
row_entries [] = []
row_entries (value_table vs ∷ ms) = row_entries ms
row_entries (truth_tables rows ∷ ms) = map (map bit_text) rows ++ row_entries ms

-- entries with these lines
pub record HasEntries (ss : List Place) (es ls : List (List ℕ)) : Type 0 where
  pub entries : IsTrue (are_entries ss es)
  pub lines : entry_lines ss es ≡ ls

bits-digits : (row : List Bool) → IsTrue (list_all is_bit_digit (map bit_text row))
bits-digits [] = refl
bits-digits (true ∷ row) = bits-digits row
bits-digits (false ∷ row) = bits-digits row

length-digits : (row : List Bool) → length (map bit_text row) ≡ length row
length-digits [] = refl
length-digits (b ∷ row) = ap suc (length-digits row)

rows-entries : (s : Symbol) (count w n : ℕ) (rows : List (List Bool)) → length rows ≡ n → IsTrue (all_long count rows) → HasEntries (row_slots s count w n) (map (map bit_text) rows) (row_lines s w rows)
rows-entries s count w zero [] e h = record { entries = refl; lines = refl }
rows-entries s count w zero (r ∷ rows) e h = absurd (omega arith)
rows-entries s count w (suc n) [] e h = absurd (omega arith)
rows-entries s count w (suc n) (r ∷ rows) e h =
    let p = and_parts (length r == count) (all_long count rows) h in
    let rest = rows-entries s count (suc w) n rows (omega arith) p.1 in
    record {
      entries = and_from (is_entry (Digits count) (map bit_text r)) (are_entries (row_slots s count (suc w) n) (map (map bit_text) rows)) (and_from (list_all is_bit_digit (map bit_text r)) (length (map bit_text r) == count) (bits-digits r) (ap (λ k. k == count) (length-digits r) ∙ p.0)) rest.entries;
      lines = ap (λ ls. (rows_front s ++ decimal (suc w) ++ codes " " ++ map bit_text r) ∷ ls) rest.lines;
    }

pub has-joined : (ss ts : List Place) (es fs ls ms : List (List ℕ)) → HasEntries ss es ls → HasEntries ts fs ms → HasEntries (ss ++ ts) (es ++ fs) (ls ++ ms)
has-joined ss ts es fs ls ms h k =
    let n = entry-count ss es h.entries in
    record {
      entries = entries-joined ss ts es fs n ∙ and_from (are_entries ss es) (are_entries ts fs) h.entries k.entries;
      lines = lines-joined ss ts es fs n ∙ (λ i. h.lines i ++ k.lines i);
    }

pub stated-functions : (S : Structure) (ss : List Symbol) (ms : List Meaning) → IsTrue (are_tables S ss ms) → HasEntries (function_slots S.elements ss) (function_entries ms) (function_lines ss ms)
stated-functions S [] [] h = record { entries = refl; lines = refl }
stated-functions S [] (m ∷ ms) h = absurd (false≢true h)
stated-functions S (s ∷ ss) [] h = absurd (false≢true h)
stated-functions S (s ∷ ss) (value_table vs ∷ ms) h =
    let slot : Place = record { front = codes "function " ++ symbol_head s; form = Values (S.elements ^ s.arity) S.elements } in
    let p = and_parts (is_table S s (value_table vs)) (are_tables S ss ms) h in
    let q = and_parts (is_function s.class && length vs == S.elements ^ s.arity) (list_all (λ v. nat_lt v S.elements) vs) p.0 in
    let r = and_parts (is_function s.class) (length vs == S.elements ^ s.arity) q.0 in
    let rest = stated-functions S ss ms p.1 in
    subst (λ b. HasEntries (if b then slot ∷ function_slots S.elements ss else function_slots S.elements ss) (vs ∷ function_entries ms) ((codes "function " ++ symbol_head s ++ numbers_text vs) ∷ function_lines ss ms)) (sym r.0)
    (record {
      entries = and_from (is_entry slot.form vs) (are_entries (function_slots S.elements ss) (function_entries ms)) (and_from (list_all (λ v. nat_lt v S.elements) vs) (length vs == S.elements ^ s.arity) q.1 r.1) rest.entries;
      lines = ap (λ ls. (codes "function " ++ symbol_head s ++ numbers_text vs) ∷ ls) rest.lines;
    })
stated-functions S (s ∷ ss) (truth_tables rows ∷ ms) h =
    let slot : Place = record { front = codes "function " ++ symbol_head s; form = Values (S.elements ^ s.arity) S.elements } in
    let p = and_parts (is_table S s (truth_tables rows)) (are_tables S ss ms) h in
    let q = and_parts (not (is_function s.class) && length rows == length S.successors) (all_long (S.elements ^ s.arity) rows) p.0 in
    let r = and_parts (not (is_function s.class)) (length rows == length S.successors) q.0 in
    subst (λ b. HasEntries (if b then slot ∷ function_slots S.elements ss else function_slots S.elements ss) (function_entries ms) (function_lines ss ms)) (sym (not-true (is_function s.class) r.0)) (stated-functions S ss ms p.1)
  where
    not-true : (b : Bool) → IsTrue (not b) → b ≡ false
    not-true true k = absurd (false≢true k)
    not-true false k = refl

pub stated-rows : (S : Structure) (ss : List Symbol) (ms : List Meaning) → IsTrue (are_tables S ss ms) → HasEntries (predicate_slots (length S.successors) S.elements ss) (row_entries ms) (predicate_lines ss ms)
stated-rows S [] [] h = record { entries = refl; lines = refl }
stated-rows S [] (m ∷ ms) h = absurd (false≢true h)
stated-rows S (s ∷ ss) [] h = absurd (false≢true h)
stated-rows S (s ∷ ss) (value_table vs ∷ ms) h =
    let own = row_slots s (S.elements ^ s.arity) 0 (length S.successors) in
    let others = predicate_slots (length S.successors) S.elements ss in
    let p = and_parts (is_table S s (value_table vs)) (are_tables S ss ms) h in
    let q = and_parts (is_function s.class && length vs == S.elements ^ s.arity) (list_all (λ v. nat_lt v S.elements) vs) p.0 in
    let r = and_parts (is_function s.class) (length vs == S.elements ^ s.arity) q.0 in
    subst (λ b. HasEntries (if b then others else own ++ others) (row_entries ms) (predicate_lines ss ms)) (sym r.0) (stated-rows S ss ms p.1)
stated-rows S (s ∷ ss) (truth_tables rows ∷ ms) h =
    let own = row_slots s (S.elements ^ s.arity) 0 (length S.successors) in
    let others = predicate_slots (length S.successors) S.elements ss in
    let p = and_parts (is_table S s (truth_tables rows)) (are_tables S ss ms) h in
    let q = and_parts (not (is_function s.class) && length rows == length S.successors) (all_long (S.elements ^ s.arity) rows) p.0 in
    let r = and_parts (not (is_function s.class)) (length rows == length S.successors) q.0 in
    subst (λ b. HasEntries (if b then others else own ++ others) (map (map bit_text) rows ++ row_entries ms) (row_lines s 0 rows ++ predicate_lines ss ms)) (sym (not-true (is_function s.class) r.0))
    (has-joined own others (map (map bit_text) rows) (row_entries ms) (row_lines s 0 rows) (predicate_lines ss ms)
    (rows-entries s (S.elements ^ s.arity) 0 (length S.successors) rows (eqb-true (length rows) (length S.successors) r.1) q.1)
    (stated-rows S ss ms p.1))
  where
    not-true : (b : Bool) → IsTrue (not b) → b ≡ false
    not-true true k = absurd (false≢true k)
    not-true false k = refl

pub function-slot_count : (E : ℕ) (ss : List Symbol) → length (function_slots E ss) ≡ function_count ss
function-slot_count E [] = refl
function-slot_count E (s ∷ ss) = by (function-slot_count E ss) (is_function s.class)
  where
    by : length (function_slots E ss) ≡ function_count ss → (b : Bool) → length (if b then record { front = codes "function " ++ symbol_head s; form = Values (E ^ s.arity) E } ∷ function_slots E ss else function_slots E ss) ≡ (if b then suc (function_count ss) else function_count ss)
    by rest true = ap suc rest
    by rest false = rest
