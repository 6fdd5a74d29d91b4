-- How lists are taken from the front, and what symbols mean by the lists that are taken.
use Rattle.std.proofs.Common.{◌≡◌, ℕ, zero, suc, ◌+◌, ◌≤◌, List, [], ◌∷◌, ◌++◌, length, map, take, drop, Bool, true, false, Some, refl, sym, ◌∙◌, ap, append_assoc, append-nil, add-one, arith, slice_get, if◌then◌else◌}
use Rattle.std.proofs.lemmas.List.{take-map, drop-map, map-append}
use Rattle.std.proofs.lemmas.Simd.{map-map}
use Rattle.std.proofs.Math.ListN.{drop_of_length-le}
use Rattle.std.specs.Prelude.{Vec}
use Rattle.std.specs.declared.alloc.Global.{Global}
use Rattle.calculus.specs.Skolem.{is_function}
use Rattle.calculus.specs.Syntax.{Symbol}
use Rattle.calculus.specs.Structures as tree
use Rattle.finite_model.specs.declared.structure.Meaning.{Meaning}
use Rattle.finite_model.specs.declared.structure.Meaning.TheVariants.{Values, Truths}
use Rattle.finite_model.specs.Slots.{first_of, function_count, meanings_of, structure_of}
use Rattle.finite_model.specs.StructureView.{is_one, the_lists, the_meaning, the_rows, the_structure}
use Rattle.finite_model.proofs.NextSlots.{rest-at}

-- ---- from the front

pub record IsTaken {A : Type 0} (all : List A) (i : ℕ) (taken rest : List A) : Type 0 where
  pub front : taken ≡ take i all
  pub behind : rest ≡ drop i all

take-step : {A : Type 0} (all : List A) (i : ℕ) → take i all ++ take 1 (drop i all) ≡ take (suc i) all
take-step [] zero = refl
take-step [] (suc i) = refl
take-step (x ∷ all) zero = refl
take-step (x ∷ all) (suc i) = ap (λ l. x ∷ l) (take-step all i)

drop-step : {A : Type 0} (all : List A) (i : ℕ) → drop 1 (drop i all) ≡ drop (suc i) all
drop-step [] zero = refl
drop-step [] (suc i) = refl
drop-step (x ∷ all) zero = refl
drop-step (x ∷ all) (suc i) = drop-step all i

pub taken-next : {A : Type 0} (all taken rest more new : List A) (i : ℕ) → IsTaken all i taken rest → more ≡ taken ++ take 1 rest → new ≡ drop 1 rest → IsTaken all (i + 1) more new
taken-next all taken rest more new i h added after = rw add-one (record {
  front = added ∙ (λ j. h.front j ++ take 1 (h.behind j)) ∙ take-step all i;
  behind = after ∙ ap (λ l. drop 1 l) h.behind ∙ drop-step all i;
})

pub taken-all : {A : Type 0} (all taken rest : List A) (i n : ℕ) → IsTaken all i taken rest → i ≡ n → (taken ≡ take n all) × (rest ≡ drop n all)
taken-all all taken rest i n h e = (h.front ∙ ap (λ k. take k all) e, h.behind ∙ ap (λ k. drop k all) e)

-- the first of a list, and none
pub first-taken : {A : Type 0} (all rest old new : List A) (x : A) → all ≡ x ∷ rest → new ≡ old ++ x ∷ [] → (new ≡ old ++ take 1 all) × (rest ≡ drop 1 all)
first-taken all rest old new x e added = (added ∙ ap (λ l. old ++ take 1 l) (sym e), sym (ap (λ l. drop 1 l) e))

pub nothing-taken : {A : Type 0} (all old : List A) → all ≡ [] → (old ≡ old ++ take 1 all) × ([] ≡ drop 1 all)
nothing-taken all old e = (sym (append-nil old) ∙ ap (λ l. old ++ take 1 l) (sym e), sym (ap (λ l. drop 1 l) e))

few : {A : Type 0} (xs : List A) (i : ℕ) → length (take i xs) ≤ i
few [] zero = omega arith
few [] (suc i) = omega arith
few (x ∷ xs) zero = omega arith
few (x ∷ xs) (suc i) = let r = few xs i in omega (arith, r)

pub few-taken : {A : Type 0} (all taken : List A) (n m : ℕ) → taken ≡ take n all → n ≤ m → length taken ≤ m
few-taken all taken n m e h = let k = ap length e in let l = few all n in omega (arith, k, l)

-- ---- how many functions there are

pub count-at : (symbols : List Symbol) (i : ℕ) (s : Symbol) (b : Bool) → slice_get symbols i ≡ Some s → b ≡ is_function s.class → function_count (drop i symbols) ≡ (if b then suc (function_count (drop (i + 1) symbols)) else function_count (drop (i + 1) symbols))
count-at symbols i s b h e = ap function_count (rest-at symbols i s h) ∙ ap (λ c. if c then suc (function_count (drop (i + 1) symbols)) else function_count (drop (i + 1) symbols)) (sym e)

pub count-function : (symbols : List Symbol) (i n all : ℕ) (s : Symbol) (b : Bool) → slice_get symbols i ≡ Some s → b ≡ is_function s.class → b ≡ true → n + function_count (drop i symbols) ≡ all → (n + 1) + function_count (drop (i + 1) symbols) ≡ all
count-function symbols i n all s b h e hy before = let k = count-at symbols i s true h (sym hy ∙ e) in omega (arith, k, before)

pub count-passed : (symbols : List Symbol) (i n all : ℕ) (s : Symbol) (b : Bool) → slice_get symbols i ≡ Some s → b ≡ is_function s.class → b ≡ false → n + function_count (drop i symbols) ≡ all → n + function_count (drop (i + 1) symbols) ≡ all
count-passed symbols i n all s b h e hn before = let k = count-at symbols i s false h (sym hn ∙ e) in omega (arith, k, before)

pub count-done : (symbols : List Symbol) (i n all : ℕ) → length symbols ≡ i → n + function_count (drop i symbols) ≡ all → n ≡ all
count-done symbols i n all h before = let k = ap function_count (drop_of_length-le symbols (let le : length symbols ≤ i = omega arith in le)) in omega (arith, k, before)

-- ---- what symbols mean

pushed-meaning : (old new : List Meaning) (m : Meaning) → new ≡ old ++ m ∷ [] → map the_meaning new ≡ map the_meaning old ++ the_meaning m ∷ []
pushed-meaning old new m e = ap (map the_meaning) e ∙ map-append the_meaning old (m ∷ [])

meanings-at : (W : ℕ) (symbols : List Symbol) (i : ℕ) (s : Symbol) (b : Bool) (fs rows : List (List ℕ)) → slice_get symbols i ≡ Some s → b ≡ is_function s.class
    → meanings_of W (drop i symbols) fs rows ≡ (if b then tree.value_table (first_of fs) ∷ meanings_of W (drop (i + 1) symbols) (drop 1 fs) rows else tree.truth_tables (map (map is_one) (take W rows)) ∷ meanings_of W (drop (i + 1) symbols) fs (drop W rows))
meanings-at W symbols i s b fs rows h e =
    ap (λ ss. meanings_of W ss fs rows) (rest-at symbols i s h)
    ∙ ap (λ c. if c then tree.value_table (first_of fs) ∷ meanings_of W (drop (i + 1) symbols) (drop 1 fs) rows else tree.truth_tables (map (map is_one) (take W rows)) ∷ meanings_of W (drop (i + 1) symbols) fs (drop W rows)) (sym e)

pub meaning-values : (W : ℕ) (symbols : List Symbol) (i : ℕ) (s : Symbol) (b : Bool) (old new : List Meaning) (table : Vec ℕ Global) (tables rest rows : List (Vec ℕ Global)) (all : List tree.Meaning) → slice_get symbols i ≡ Some s → b ≡ is_function s.class → b ≡ true → new ≡ old ++ Values table ∷ [] → table.items ≡ first_of (the_lists tables) → rest ≡ drop 1 tables
    → map the_meaning old ++ meanings_of W (drop i symbols) (the_lists tables) (the_lists rows) ≡ all → map the_meaning new ++ meanings_of W (drop (i + 1) symbols) (the_lists rest) (the_lists rows) ≡ all
meaning-values W symbols i s b old new table tables rest rows all h e hy added first after before =
    ap (λ l. l ++ meanings_of W (drop (i + 1) symbols) (the_lists rest) (the_lists rows)) (pushed-meaning old new (Values table) added)
    ∙ append_assoc (map the_meaning old) (tree.value_table table.items ∷ []) (meanings_of W (drop (i + 1) symbols) (the_lists rest) (the_lists rows))
    ∙ (λ j. map the_meaning old ++ (tree.value_table (first j) ∷ meanings_of W (drop (i + 1) symbols) ((ap the_lists after ∙ sym (drop-map (λ (v : Vec ℕ Global). v.items) 1 tables)) j) (the_lists rows)))
    ∙ ap (λ l. map the_meaning old ++ l) (sym (meanings-at W symbols i s true (the_lists tables) (the_lists rows) h (sym hy ∙ e)))
    ∙ before

rows-taken : (W : ℕ) (rows taken : List (Vec ℕ Global)) → taken ≡ take W rows → the_rows taken ≡ map (map is_one) (take W (the_lists rows))
rows-taken W rows taken e =
    ap the_rows e
    ∙ sym (map-map (map is_one) (λ (v : Vec ℕ Global). v.items) (take W rows))
    ∙ ap (map (map is_one)) (sym (take-map (λ (v : Vec ℕ Global). v.items) W rows))

pub meaning-truths : (W : ℕ) (symbols : List Symbol) (i : ℕ) (s : Symbol) (b : Bool) (old new : List Meaning) (taken : Vec (Vec ℕ Global) Global) (tables rows rest : List (Vec ℕ Global)) (all : List tree.Meaning) → slice_get symbols i ≡ Some s → b ≡ is_function s.class → b ≡ false → new ≡ old ++ Truths taken ∷ [] → taken.items ≡ take W rows → rest ≡ drop W rows
    → map the_meaning old ++ meanings_of W (drop i symbols) (the_lists tables) (the_lists rows) ≡ all → map the_meaning new ++ meanings_of W (drop (i + 1) symbols) (the_lists tables) (the_lists rest) ≡ all
meaning-truths W symbols i s b old new taken tables rows rest all h e hn added front after before =
    ap (λ l. l ++ meanings_of W (drop (i + 1) symbols) (the_lists tables) (the_lists rest)) (pushed-meaning old new (Truths taken) added)
    ∙ append_assoc (map the_meaning old) (tree.truth_tables (the_rows taken.items) ∷ []) (meanings_of W (drop (i + 1) symbols) (the_lists tables) (the_lists rest))
    ∙ (λ j. map the_meaning old ++ (tree.truth_tables (rows-taken W rows taken.items front j) ∷ meanings_of W (drop (i + 1) symbols) (the_lists tables) ((ap the_lists after ∙ sym (drop-map (λ (v : Vec ℕ Global). v.items) W rows)) j)))
    ∙ ap (λ l. map the_meaning old ++ l) (sym (meanings-at W symbols i s false (the_lists tables) (the_lists rows) h (sym hn ∙ e)))
    ∙ before

pub meanings-on : (old new : List Meaning) (m : Meaning) (rest more all : List tree.Meaning) → new ≡ old ++ m ∷ [] → the_meaning m ∷ more ≡ rest → map the_meaning old ++ rest ≡ all → map the_meaning new ++ more ≡ all
meanings-on old new m rest more all added next before =
    ap (λ l. l ++ more) (pushed-meaning old new m added)
    ∙ append_assoc (map the_meaning old) (the_meaning m ∷ []) more
    ∙ ap (λ l. map the_meaning old ++ l) next
    ∙ before

pub meanings-done : (W : ℕ) (symbols : List Symbol) (i : ℕ) (old : List Meaning) (fs rows : List (List ℕ)) (all : List tree.Meaning) → length symbols ≡ i → map the_meaning old ++ meanings_of W (drop i symbols) fs rows ≡ all → map the_meaning old ≡ all
meanings-done W symbols i old fs rows all h before = sym (ap (λ ss. map the_meaning old ++ meanings_of W ss fs rows) (drop_of_length-le symbols (let le : length symbols ≤ i = omega arith in le)) ∙ append-nil (map the_meaning old)) ∙ before

-- ---- the structure

lists-taken : (n : ℕ) (xs taken : List (Vec ℕ Global)) → taken ≡ take n xs → the_lists taken ≡ take n (the_lists xs)
lists-taken n xs taken e = ap the_lists e ∙ sym (take-map (λ (v : Vec ℕ Global). v.items) n xs)

lists-dropped : (n : ℕ) (xs rest : List (Vec ℕ Global)) → rest ≡ drop n xs → the_lists rest ≡ drop n (the_lists xs)
lists-dropped n xs rest e = ap the_lists e ∙ sym (drop-map (λ (v : Vec ℕ Global). v.items) n xs)

pub made : (symbols : List Symbol) (W E n : ℕ) (all a b c d r s : List (Vec ℕ Global)) (ms : List Meaning) (S : tree.Structure) → n ≡ function_count symbols → a ≡ take W all → b ≡ drop W all → c ≡ take W b → d ≡ drop W b → r ≡ take n d → s ≡ drop n d → map the_meaning ms ≡ meanings_of W symbols (the_lists r) (the_lists s) → S ≡ the_structure E a c ms → S ≡ structure_of symbols W E (the_lists all)
made symbols W E n all a b c d r s ms S en ea eb ec ed er es em e =
    let b-is = lists-dropped W all b eb in
    let d-is = lists-dropped W b d ed ∙ ap (drop W) b-is in
    let r-is = lists-taken n d r er ∙ (λ j. take (en j) (d-is j)) in
    let s-is = lists-dropped n d s es ∙ (λ j. drop (en j) (d-is j)) in
    e ∙ (λ j. record { elements = E; successors = lists-taken W all a ea j; domains = (lists-taken W b c ec ∙ ap (take W) b-is) j; meanings = (em ∙ (λ k. meanings_of W symbols (r-is k) (s-is k))) j })
