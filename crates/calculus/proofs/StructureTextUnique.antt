-- A structure's text states one structure, and bytes have at most one judgement as a structure of a problem.
use Rattle.std.proofs.Common.{◌≡◌, ℕ, suc, pred, ◌+◌, ◌^◌, ◌<◌, ◌≤◌, List, [], ◌∷◌, ◌++◌, length, map, Bool, true, false, not, ◌&&◌, ◌==◌, IsTrue, refl, sym, ◌∙◌, ap, append_assoc, decimal, codes, flat_map, nat_le, nat_lt, lt_of_le_of_lt, lit<, ltb-true, leb-true, eqb-true, arith}
use Rattle.std.specs.Bool.{⊤}
use Rattle.std.specs.List.{list_all}
use Rattle.std.proofs.lemmas.Bool.{true≢false, and_parts}
use Rattle.plain_laws.proofs.Places.{differ-at}
use Rattle.calculus.specs.Syntax.{Symbol, Problem}
use Rattle.calculus.specs.Skolem.{is_function}
use Rattle.calculus.specs.Text.{is_digit, StopsAt}
use Rattle.calculus.specs.DerivationText.{setting_text}
use Rattle.calculus.specs.FirstWrong.{line_bytes, text_of}
use Rattle.calculus.specs.Structures.{Meaning, Structure, value_table, truth_tables, is_table, are_tables, is_in_range}
use Rattle.calculus.specs.StructureText.{numbers_text, world_lines, symbol_head, function_lines, bit_text, row_lines, predicate_lines, structure_head, is_size, fits_table, rises, can_be_stated, structure_texts, IsStructureText, structure_causes, StructureVerdict, bad_structure, structure_verdict, IsStructureJudgement}
use Rattle.calculus.proofs.TextLaws.{cons-tail, decimal-split}
use Rattle.calculus.proofs.DerivationTextLaws.{lines_on, lines_on-append, end_text, cancel}
use Rattle.calculus.proofs.FirstWrongLaws.{text-verdict-unique}

-- ---- lists of numbers

zero-suc : (n : ℕ) → 0 ≡ suc n → ⊥
zero-suc n h = omega arith

numbers-stop : (xs r : List ℕ) → StopsAt is_digit (numbers_text xs ++ 10 ∷ r)
numbers-stop [] r = refl
numbers-stop (x ∷ xs) r = refl

small : (n x : ℕ) → IsTrue (is_size n) → IsTrue (nat_lt x n) → suc x < 2 ^ 64
small n x hn hx =
    let a = leb-true n 64 (and_parts (nat_le 1 n) (nat_le n 64) hn).1 in
    let b = ltb-true x n hx in
    let c : suc x ≤ 64 = omega arith in
    lt_of_le_of_lt c (lit< tt)

numbers-split : (n : ℕ) → IsTrue (is_size n) → (xs ys r s : List ℕ) → IsTrue (list_all (λ x. nat_lt x n) xs) → IsTrue (list_all (λ x. nat_lt x n) ys) → numbers_text xs ++ 10 ∷ r ≡ numbers_text ys ++ 10 ∷ s → (xs ≡ ys) × (r ≡ s)
numbers-split n hn [] [] r s hx hy e = (refl, cons-tail e)
numbers-split n hn [] (y ∷ ys) r s hx hy e = absurd (differ-at _ _ 0 e refl)
numbers-split n hn (x ∷ xs) [] r s hx hy e = absurd (differ-at _ _ 0 e refl)
numbers-split n hn (x ∷ xs) (y ∷ ys) r s hx hy e =
    let px = and_parts (nat_lt x n) (list_all (λ x. nat_lt x n) xs) hx in
    let py = and_parts (nat_lt y n) (list_all (λ x. nat_lt x n) ys) hy in
    let f = sym (append_assoc (decimal (suc x)) (numbers_text xs) (10 ∷ r)) ∙ cons-tail e ∙ append_assoc (decimal (suc y)) (numbers_text ys) (10 ∷ s) in
    let first = decimal-split (suc x) (suc y) (numbers_text xs ++ 10 ∷ r) (numbers_text ys ++ 10 ∷ s) (small n x hn px.0) (small n y hn py.0) (numbers-stop xs r) (numbers-stop ys s) f in
    let rest = numbers-split n hn xs ys r s px.1 py.1 first.1 in
    ((λ i. pred (first.0 i) ∷ rest.0 i), rest.1)

worlds-split : (n : ℕ) → IsTrue (is_size n) → (word : List ℕ) (w : ℕ) (xs ys : List (List ℕ)) (r s : List ℕ) → length xs ≡ length ys → IsTrue (list_all (λ vs. list_all (λ v. nat_lt v n) vs) xs) → IsTrue (list_all (λ vs. list_all (λ v. nat_lt v n) vs) ys) → lines_on (world_lines word w xs) r ≡ lines_on (world_lines word w ys) s → (xs ≡ ys) × (r ≡ s)
worlds-split n hn word w [] [] r s k hx hy e = (refl, e)
worlds-split n hn word w [] (y ∷ ys) r s k hx hy e = absurd (zero-suc (length ys) k)
worlds-split n hn word w (x ∷ xs) [] r s k hx hy e = absurd (zero-suc (length xs) (sym k))
worlds-split n hn word w (x ∷ xs) (y ∷ ys) r s k hx hy e =
    let px = and_parts (list_all (λ v. nat_lt v n) x) (list_all (λ vs. list_all (λ v. nat_lt v n) vs) xs) hx in
    let py = and_parts (list_all (λ v. nat_lt v n) y) (list_all (λ vs. list_all (λ v. nat_lt v n) vs) ys) hy in
    let head = word ++ decimal (suc w) in
    let f = cancel head _ _ (sym (append_assoc head (numbers_text x) (10 ∷ lines_on (world_lines word (suc w) xs) r)) ∙ e ∙ append_assoc head (numbers_text y) (10 ∷ lines_on (world_lines word (suc w) ys) s)) in
    let first = numbers-split n hn x y (lines_on (world_lines word (suc w) xs) r) (lines_on (world_lines word (suc w) ys) s) px.0 py.0 f in
    let rest = worlds-split n hn word (suc w) xs ys r s (ap pred k) px.1 py.1 first.1 in
    ((λ i. first.0 i ∷ rest.0 i), rest.1)

-- ---- tables

bits-split : (xs ys : List Bool) (r s : List ℕ) → map bit_text xs ++ 10 ∷ r ≡ map bit_text ys ++ 10 ∷ s → (xs ≡ ys) × (r ≡ s)
bits-split [] [] r s e = (refl, cons-tail e)
bits-split [] (true ∷ ys) r s e = absurd (differ-at _ _ 0 e refl)
bits-split [] (false ∷ ys) r s e = absurd (differ-at _ _ 0 e refl)
bits-split (true ∷ xs) [] r s e = absurd (differ-at _ _ 0 e refl)
bits-split (false ∷ xs) [] r s e = absurd (differ-at _ _ 0 e refl)
bits-split (true ∷ xs) (true ∷ ys) r s e = let p = bits-split xs ys r s (cons-tail e) in (ap (λ zs. true ∷ zs) p.0, p.1)
bits-split (false ∷ xs) (false ∷ ys) r s e = let p = bits-split xs ys r s (cons-tail e) in (ap (λ zs. false ∷ zs) p.0, p.1)
bits-split (true ∷ xs) (false ∷ ys) r s e = absurd (differ-at _ _ 0 e refl)
bits-split (false ∷ xs) (true ∷ ys) r s e = absurd (differ-at _ _ 0 e refl)

rows-split : (z : Symbol) (w : ℕ) (xs ys : List (List Bool)) (r s : List ℕ) → length xs ≡ length ys → lines_on (row_lines z w xs) r ≡ lines_on (row_lines z w ys) s → (xs ≡ ys) × (r ≡ s)
rows-split z w [] [] r s k e = (refl, e)
rows-split z w [] (y ∷ ys) r s k e = absurd (zero-suc (length ys) k)
rows-split z w (x ∷ xs) [] r s k e = absurd (zero-suc (length xs) (sym k))
rows-split z w (x ∷ xs) (y ∷ ys) r s k e =
    let head = codes "predicate " ++ symbol_head z ++ codes " " ++ decimal (suc w) ++ codes " " in
    let f = cancel head _ _ (sym (append_assoc head (map bit_text x) (10 ∷ lines_on (row_lines z (suc w) xs) r)) ∙ e ∙ append_assoc head (map bit_text y) (10 ∷ lines_on (row_lines z (suc w) ys) s)) in
    let first = bits-split x y (lines_on (row_lines z (suc w) xs) r) (lines_on (row_lines z (suc w) ys) s) f in
    let rest = rows-split z (suc w) xs ys r s (ap pred k) first.1 in
    ((λ i. first.0 i ∷ rest.0 i), rest.1)

-- the values of functions are alike; predicates are not looked at
abbrev FunctionsAlike : List Meaning → List Meaning → Type 0
FunctionsAlike [] [] = ⊤
FunctionsAlike (value_table a ∷ ms) (value_table b ∷ ns) = (a ≡ b) × FunctionsAlike ms ns
FunctionsAlike (truth_tables a ∷ ms) (truth_tables b ∷ ns) = FunctionsAlike ms ns
FunctionsAlike _ _ = ⊥

both-classes : (b : Bool) → IsTrue b → IsTrue (not b) → ⊥
both-classes true h k = true≢false (sym k)
both-classes false h k = true≢false (sym h)

function-parts : (S : Structure) (z : Symbol) (vs : List ℕ) → IsTrue (is_table S z (value_table vs)) → IsTrue (is_function z.class) × IsTrue (list_all (λ v. nat_lt v S.elements) vs)
function-parts S z vs h =
    let a = and_parts (is_function z.class && length vs == S.elements ^ z.arity) (list_all (λ v. nat_lt v S.elements) vs) h in
    ((and_parts (is_function z.class) (length vs == S.elements ^ z.arity) a.0).0, a.1)

predicate-parts : (S : Structure) (z : Symbol) (rows : List (List Bool)) → IsTrue (is_table S z (truth_tables rows)) → IsTrue (not (is_function z.class)) × (length rows ≡ length S.successors)
predicate-parts S z rows h =
    let a = and_parts (not (is_function z.class) && length rows == length S.successors) (list_all (λ row. length row == S.elements ^ z.arity) rows) h in
    let b = and_parts (not (is_function z.class)) (length rows == length S.successors) a.0 in
    (b.0, eqb-true (length rows) (length S.successors) b.1)

functions-split : (S T : Structure) → IsTrue (is_size S.elements) → S.elements ≡ T.elements → (ss : List Symbol) (ms ns : List Meaning) (r s : List ℕ) → IsTrue (are_tables S ss ms) → IsTrue (are_tables T ss ns) → lines_on (function_lines ss ms) r ≡ lines_on (function_lines ss ns) s → FunctionsAlike ms ns × (r ≡ s)
functions-split S T hn same [] [] [] r s hm hk e = (tt, e)
functions-split S T hn same [] [] (n ∷ ns) r s hm hk e = absurd (true≢false (sym hk))
functions-split S T hn same [] (m ∷ ms) ns r s hm hk e = absurd (true≢false (sym hm))
functions-split S T hn same (z ∷ ss) [] ns r s hm hk e = absurd (true≢false (sym hm))
functions-split S T hn same (z ∷ ss) (m ∷ ms) [] r s hm hk e = absurd (true≢false (sym hk))
functions-split S T hn same (z ∷ ss) (value_table a ∷ ms) (value_table b ∷ ns) r s hm hk e =
    let pm = and_parts (is_table S z (value_table a)) (are_tables S ss ms) hm in
    let pk = and_parts (is_table T z (value_table b)) (are_tables T ss ns) hk in
    let qa = function-parts S z a pm.0 in
    let qb = function-parts T z b pk.0 in
    let head = codes "function " ++ symbol_head z in
    let f = cancel head _ _ (sym (append_assoc head (numbers_text a) (10 ∷ lines_on (function_lines ss ms) r)) ∙ e ∙ append_assoc head (numbers_text b) (10 ∷ lines_on (function_lines ss ns) s)) in
    let first = numbers-split S.elements hn a b (lines_on (function_lines ss ms) r) (lines_on (function_lines ss ns) s) qa.1 (ap (λ k. list_all (λ v. nat_lt v k) b) same ∙ qb.1) f in
    let rest = functions-split S T hn same ss ms ns r s pm.1 pk.1 first.1 in
    ((first.0, rest.0), rest.1)
functions-split S T hn same (z ∷ ss) (truth_tables a ∷ ms) (truth_tables b ∷ ns) r s hm hk e =
    let pm = and_parts (is_table S z (truth_tables a)) (are_tables S ss ms) hm in
    let pk = and_parts (is_table T z (truth_tables b)) (are_tables T ss ns) hk in
    functions-split S T hn same ss ms ns r s pm.1 pk.1 e
functions-split S T hn same (z ∷ ss) (value_table a ∷ ms) (truth_tables b ∷ ns) r s hm hk e =
    absurd (both-classes (is_function z.class) (function-parts S z a (and_parts (is_table S z (value_table a)) (are_tables S ss ms) hm).0).0 (predicate-parts T z b (and_parts (is_table T z (truth_tables b)) (are_tables T ss ns) hk).0).0)
functions-split S T hn same (z ∷ ss) (truth_tables a ∷ ms) (value_table b ∷ ns) r s hm hk e =
    absurd (both-classes (is_function z.class) (function-parts T z b (and_parts (is_table T z (value_table b)) (are_tables T ss ns) hk).0).0 (predicate-parts S z a (and_parts (is_table S z (truth_tables a)) (are_tables S ss ms) hm).0).0)

lines_on-two : (ls ms : List (List ℕ)) (r : List ℕ) → lines_on (ls ++ ms) r ≡ lines_on ls (lines_on ms r)
lines_on-two [] ms r = refl
lines_on-two (l ∷ ls) ms r = ap (λ k. l ++ 10 ∷ k) (lines_on-two ls ms r)

predicates-split : (S T : Structure) → length S.successors ≡ length T.successors → (ss : List Symbol) (ms ns : List Meaning) (r s : List ℕ) → IsTrue (are_tables S ss ms) → IsTrue (are_tables T ss ns) → FunctionsAlike ms ns → lines_on (predicate_lines ss ms) r ≡ lines_on (predicate_lines ss ns) s → (ms ≡ ns) × (r ≡ s)
predicates-split S T same [] [] [] r s hm hk alike e = (refl, e)
predicates-split S T same [] [] (n ∷ ns) r s hm hk alike e = absurd (true≢false (sym hk))
predicates-split S T same [] (m ∷ ms) ns r s hm hk alike e = absurd (true≢false (sym hm))
predicates-split S T same (z ∷ ss) [] ns r s hm hk alike e = absurd (true≢false (sym hm))
predicates-split S T same (z ∷ ss) (m ∷ ms) [] r s hm hk alike e = absurd (true≢false (sym hk))
predicates-split S T same (z ∷ ss) (value_table a ∷ ms) (value_table b ∷ ns) r s hm hk alike e =
    let pm = and_parts (is_table S z (value_table a)) (are_tables S ss ms) hm in
    let pk = and_parts (is_table T z (value_table b)) (are_tables T ss ns) hk in
    let rest = predicates-split S T same ss ms ns r s pm.1 pk.1 alike.1 e in
    ((λ i. value_table (alike.0 i) ∷ rest.0 i), rest.1)
predicates-split S T same (z ∷ ss) (truth_tables a ∷ ms) (truth_tables b ∷ ns) r s hm hk alike e =
    let pm = and_parts (is_table S z (truth_tables a)) (are_tables S ss ms) hm in
    let pk = and_parts (is_table T z (truth_tables b)) (are_tables T ss ns) hk in
    let f = sym (lines_on-two (row_lines z 0 a) (predicate_lines ss ms) r) ∙ e ∙ lines_on-two (row_lines z 0 b) (predicate_lines ss ns) s in
    let first = rows-split z 0 a b (lines_on (predicate_lines ss ms) r) (lines_on (predicate_lines ss ns) s) ((predicate-parts S z a pm.0).1 ∙ same ∙ sym (predicate-parts T z b pk.0).1) f in
    let rest = predicates-split S T same ss ms ns r s pm.1 pk.1 alike first.1 in
    ((λ i. truth_tables (first.0 i) ∷ rest.0 i), rest.1)
predicates-split S T same (z ∷ ss) (value_table a ∷ ms) (truth_tables b ∷ ns) r s hm hk alike e = absurd alike
predicates-split S T same (z ∷ ss) (truth_tables a ∷ ms) (value_table b ∷ ns) r s hm hk alike e = absurd alike

-- ---- the whole text

structure-parts : (P : Problem) (S : Structure) → text_of (structure_texts P) S ≡ lines_on (structure_head P S) (lines_on (world_lines (codes "relation ") 0 S.successors) (lines_on (world_lines (codes "domain ") 0 S.domains) (lines_on (function_lines P.symbols S.meanings) (lines_on (predicate_lines P.symbols S.meanings) end_text))))
structure-parts P S =
    let head = structure_head P S in
    let a = world_lines (codes "relation ") 0 S.successors in
    let b = world_lines (codes "domain ") 0 S.domains in
    let c = function_lines P.symbols S.meanings in
    let d = predicate_lines P.symbols S.meanings in
    let last = codes "end" ∷ [] in
    ap (flat_map line_bytes) (append_assoc (((head ++ a) ++ b) ++ c) d last ∙ append_assoc ((head ++ a) ++ b) c (d ++ last) ∙ append_assoc (head ++ a) b (c ++ (d ++ last)) ∙ append_assoc head a (b ++ (c ++ (d ++ last))))
    ∙ lines_on-append head (a ++ (b ++ (c ++ (d ++ last))))
    ∙ ap (lines_on head) (lines_on-append a (b ++ (c ++ (d ++ last))) ∙ ap (lines_on a) (lines_on-append b (c ++ (d ++ last)) ∙ ap (lines_on b) (lines_on-append c (d ++ last) ∙ ap (lines_on c) (lines_on-append d last))))

pub record StatedParts (P : Problem) (S : Structure) : Type 0 where
  pub size : IsTrue (is_size (length S.successors))
  pub elements : IsTrue (is_size S.elements)
  pub rising_successors : IsTrue (list_all rises S.successors)
  pub rising_domains : IsTrue (list_all rises S.domains)
  pub relation : IsTrue (list_all (λ vs. list_all (λ v. nat_lt v (length S.successors)) vs) S.successors)
  pub domains : IsTrue (list_all (λ xs. list_all (λ x. nat_lt x S.elements) xs) S.domains)
  pub count : length S.domains ≡ length S.successors
  pub tables : IsTrue (are_tables S P.symbols S.meanings)

pub stated-parts : (P : Problem) (S : Structure) → IsTrue (can_be_stated P S) → StatedParts P S
stated-parts P S h =
    let sizes = is_size (length S.successors) && is_size S.elements && list_all (fits_table S.elements) P.symbols in
    let lists = is_in_range S && list_all rises S.successors && list_all rises S.domains in
    let a = and_parts (sizes && lists) (are_tables S P.symbols S.meanings) h in
    let b = and_parts sizes lists a.0 in
    let c = and_parts (is_in_range S && list_all rises S.successors) (list_all rises S.domains) b.1 in
    let rising = and_parts (is_in_range S) (list_all rises S.successors) c.0 in
    let range = rising.0 in
    let d = and_parts (is_size (length S.successors) && is_size S.elements) (list_all (fits_table S.elements) P.symbols) b.0 in
    let e = and_parts (is_size (length S.successors)) (is_size S.elements) d.0 in
    let f = and_parts (nat_lt 0 (length S.successors) && length S.domains == length S.successors && list_all (λ vs. list_all (λ v. nat_lt v (length S.successors)) vs) S.successors) (list_all (λ xs. list_all (λ x. nat_lt x S.elements) xs) S.domains) range in
    let g = and_parts (nat_lt 0 (length S.successors) && length S.domains == length S.successors) (list_all (λ vs. list_all (λ v. nat_lt v (length S.successors)) vs) S.successors) f.0 in
    let k = and_parts (nat_lt 0 (length S.successors)) (length S.domains == length S.successors) g.0 in
    record { size = e.0; elements = e.1; rising_successors = rising.1; rising_domains = c.1; relation = g.1; domains = f.1; count = eqb-true (length S.domains) (length S.successors) k.1; tables = a.1 }

pub size-small : (n : ℕ) → IsTrue (is_size n) → n < 2 ^ 64
size-small n h = lt_of_le_of_lt (leb-true n 64 (and_parts (nat_le 1 n) (nat_le n 64) h).1) (lit< tt)

head-split : (P : Problem) (S T : Structure) (r s : List ℕ) → StatedParts P S → StatedParts P T → lines_on (structure_head P S) r ≡ lines_on (structure_head P T) s → (length S.successors ≡ length T.successors) × (S.elements ≡ T.elements) × (r ≡ s)
head-split P S T r s p q e =
    let e1 = cons-tail (cancel (codes "leancop structure 1") _ _ e) in
    let e2 = cons-tail (cancel (codes "logic " ++ setting_text P.setting) _ _ e1) in
    let e3 = cancel (codes "worlds ") (decimal (length S.successors) ++ 10 ∷ ((codes "elements " ++ decimal S.elements) ++ 10 ∷ r)) (decimal (length T.successors) ++ 10 ∷ ((codes "elements " ++ decimal T.elements) ++ 10 ∷ s)) e2 in
    let w = decimal-split (length S.successors) (length T.successors) _ _ (size-small (length S.successors) p.size) (size-small (length T.successors) q.size) refl refl e3 in
    let e4 = cancel (codes "elements ") (decimal S.elements ++ 10 ∷ r) (decimal T.elements ++ 10 ∷ s) (cons-tail w.1) in
    let n = decimal-split S.elements T.elements (10 ∷ r) (10 ∷ s) (size-small S.elements p.elements) (size-small T.elements q.elements) refl refl e4 in
    (w.0, n.0, cons-tail n.1)

-- a text states one structure
pub structure_text-unique : (P : Problem) (S T : Structure) (bytes : List ℕ) → IsStructureText P S bytes → IsStructureText P T bytes → S ≡ T
structure_text-unique P S T bytes t u =
    let p = stated-parts P S t.printable in
    let q = stated-parts P T u.printable in
    let head = head-split P S T _ _ p q (sym (structure-parts P S) ∙ sym t.text ∙ u.text ∙ structure-parts P T) in
    let a = worlds-split (length S.successors) p.size (codes "relation ") 0 S.successors T.successors _ _ head.0 p.relation (ap (λ n. list_all (λ vs. list_all (λ v. nat_lt v n) vs) T.successors) head.0 ∙ q.relation) head.2 in
    let b = worlds-split S.elements p.elements (codes "domain ") 0 S.domains T.domains _ _ (p.count ∙ head.0 ∙ sym q.count) p.domains (ap (λ n. list_all (λ vs. list_all (λ v. nat_lt v n) vs) T.domains) head.1 ∙ q.domains) a.1 in
    let c = functions-split S T p.elements head.1 P.symbols S.meanings T.meanings _ _ p.tables q.tables b.1 in
    let d = predicates-split S T head.0 P.symbols S.meanings T.meanings end_text end_text p.tables q.tables c.0 c.1 in
    λ i. record { elements = head.1 i; successors = a.0 i; domains = b.0 i; meanings = d.0 i }

-- bytes have at most one judgement
pub structure_judgement-unique : (P : Problem) (bytes : List ℕ) (v w : StructureVerdict) → IsStructureJudgement P bytes v → IsStructureJudgement P bytes w → v ≡ w
structure_judgement-unique P bytes v w = text-verdict-unique (structure_texts P) structure_causes bad_structure (structure_verdict P) bytes (λ S T. structure_text-unique P S T bytes) v w
