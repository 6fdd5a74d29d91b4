-- Tokens of clauses, items and texts say one thing. A clause `(p)` has two trees, which mean the same.
use Rattle.std.proofs.Common.{◌≡◌, ◌&&◌, ℕ, Bool, true, false, List, [], ◌∷◌, ◌++◌, Option, None, Some, refl, sym, ◌∙◌, ap, append_assoc, subst, arith, length, drop, flat_map, IsTrue}
use Rattle.std.specs.Prelude.{codes}
use Rattle.std.specs.List.{list_all}
use Rattle.std.proofs.lemmas.Bool.{and_parts, false≢true}
use Rattle.std.proofs.lemmas.List.{length-append}
use Rattle.tptp_reader.specs.declared.item.ItemKind.TheVariants.{Fof, Cnf, Qmf}
use Rattle.tptp_reader.specs.Sources as source
use Rattle.tptp_reader.specs.Terminals.{Terminal, lower, quoted, open_round, close_round, open_square, close_square, comma, dot, bar}
use Rattle.tptp_reader.specs.Grammar as g
use Rattle.tptp_reader.specs.Grammar.{Word, plain, in_quotes, AtomTree, FormulaTree, LiteralTree, ClauseTree, NameTree, ItemTree, atom_tokens, formula_tokens, literal_tokens, literals_tokens, clause_tokens, notes_tokens, end_tokens, item_tokens, text_tokens, word_token}
use Rattle.tptp_reader.specs.Meaning.{atom_of, disjunction_of, clause_of, source_of, name_of, selected, offset_at, item_of, items_of}
use Rattle.tptp_reader.specs.Expecting.{is_word}
use Rattle.tptp_reader.proofs.TreeLaws.{head_or, tail_of, Stops, stops-less, no-stop, begun, atom-begins, atom-alike, formula-alike, moved-over, word-alike}

abbrev shift : {A : Type 0} (a b c d : List A) → ((a ++ b) ++ c) ++ d ≡ a ++ ((b ++ c) ++ d)
shift a b c d = ap (λ t. t ++ d) (append_assoc a b c) ∙ append_assoc a (b ++ c) d

shifted-over : {A : Type 0} (a b c d e f k l : List A) → ((a ++ b) ++ c) ++ d ≡ ((e ++ f) ++ k) ++ l → a ++ ((b ++ c) ++ d) ≡ e ++ ((f ++ k) ++ l)
shifted-over a b c d e f k l h = sym (shift a b c d) ∙ h ∙ shift e f k l

-- ---- clauses

abbrev literal_beginning : LiteralTree → ℕ
literal_beginning (g.positive a) = 5
literal_beginning (g.negative a) = 2
literal_beginning (g.positive_bracketed a) = 1
literal_beginning (g.negative_bracketed a) = 2

literal-begins : (l : LiteralTree) (a : List Terminal) → begun (literal_tokens l ++ a) ≡ literal_beginning l
literal-begins (g.positive t) a = atom-begins t a
literal-begins (g.negative t) a = refl
literal-begins (g.positive_bracketed t) a = refl
literal-begins (g.negative_bracketed t) a = refl

same-literal-beginning : (l m : LiteralTree) (a b : List Terminal) → literal_tokens l ++ a ≡ literal_tokens m ++ b → literal_beginning l ≡ literal_beginning m
same-literal-beginning l m a b e = sym (literal-begins l a) ∙ ap begun e ∙ literal-begins m b

closed-atom-alike : (t s : AtomTree) (a b : List Terminal) → (atom_tokens t ++ close_round ∷ []) ++ a ≡ (atom_tokens s ++ close_round ∷ []) ++ b → (t ≡ s) × (a ≡ b)
closed-atom-alike t s a b e =
    let k = atom-alike t s (close_round ∷ a) (close_round ∷ b) refl refl (moved-over (atom_tokens t) (close_round ∷ []) a (atom_tokens s) (close_round ∷ []) b e) in
    (k.0, ap tail_of k.1)

-- an atom does not begin with a bracket
no-bracket : (t : AtomTree) (a b : List Terminal) → atom_tokens t ++ a ≡ open_round ∷ b → ⊥
no-bracket t a b e = let n : 5 ≡ 1 = sym (atom-begins t a) ∙ ap begun e in omega (arith, n)

literal-alike : (l m : LiteralTree) (a b : List Terminal) → Stops 3 a → Stops 3 b → literal_tokens l ++ a ≡ literal_tokens m ++ b → (l ≡ m) × (a ≡ b)
literal-alike (g.positive t) (g.positive s) a b p q e = let k = atom-alike t s a b p q e in (ap g.positive k.0, k.1)
literal-alike (g.positive t) m a b p q e = let n : 5 ≡ literal_beginning m = same-literal-beginning (g.positive t) m a b e in absurd (omega (arith, n))
literal-alike (g.negative t) (g.negative s) a b p q e = let k = atom-alike t s a b p q (ap tail_of e) in (ap g.negative k.0, k.1)
literal-alike (g.negative t) (g.negative_bracketed s) a b p q e = absurd (no-bracket t a ((atom_tokens s ++ close_round ∷ []) ++ b) (ap tail_of e))
literal-alike (g.negative t) m a b p q e = let n : 2 ≡ literal_beginning m = same-literal-beginning (g.negative t) m a b e in absurd (omega (arith, n))
literal-alike (g.positive_bracketed t) (g.positive_bracketed s) a b p q e = let k = closed-atom-alike t s a b (ap tail_of e) in (ap g.positive_bracketed k.0, k.1)
literal-alike (g.positive_bracketed t) m a b p q e = let n : 1 ≡ literal_beginning m = same-literal-beginning (g.positive_bracketed t) m a b e in absurd (omega (arith, n))
literal-alike (g.negative_bracketed t) (g.negative_bracketed s) a b p q e = let k = closed-atom-alike t s a b (ap tail_of (ap tail_of e)) in (ap g.negative_bracketed k.0, k.1)
literal-alike (g.negative_bracketed t) (g.negative s) a b p q e = absurd (no-bracket s b ((atom_tokens t ++ close_round ∷ []) ++ a) (sym (ap tail_of e)))
literal-alike (g.negative_bracketed t) m a b p q e = let n : 2 ≡ literal_beginning m = same-literal-beginning (g.negative_bracketed t) m a b e in absurd (omega (arith, n))

literals-stop : (ls : List LiteralTree) (a : List Terminal) → Stops 3 a → Stops 3 (literals_tokens ls ++ a)
literals-stop [] a p = p
literals-stop (l ∷ ls) a p = refl

literals-alike : (ls ms : List LiteralTree) (a b : List Terminal) → Stops 11 a → Stops 11 b → literals_tokens ls ++ a ≡ literals_tokens ms ++ b → (ls ≡ ms) × (a ≡ b)
literals-alike [] [] a b p q e = (refl, e)
literals-alike [] (m ∷ ms) a b p q e = absurd (no-stop 11 bar a ((literal_tokens m ++ literals_tokens ms) ++ b) e p refl)
literals-alike (l ∷ ls) [] a b p q e = absurd (no-stop 11 bar b ((literal_tokens l ++ literals_tokens ls) ++ a) (sym e) q refl)
literals-alike (l ∷ ls) (m ∷ ms) a b p q e =
    let k = literal-alike l m (literals_tokens ls ++ a) (literals_tokens ms ++ b) (literals-stop ls a (stops-less 3 11 a (omega arith) p)) (literals-stop ms b (stops-less 3 11 b (omega arith) q))
    (moved-over (literal_tokens l) (literals_tokens ls) a (literal_tokens m) (literals_tokens ms) b (ap tail_of e)) in
    let r = literals-alike ls ms a b p q k.1 in
    (λ i. k.0 i ∷ r.0 i, r.1)

-- a bracketed literal and a bracketed clause alike: both are one atom in brackets
mixed : (t : AtomTree) (ls : List LiteralTree) (m : LiteralTree) (ms : List LiteralTree) (a b : List Terminal) → Stops 11 a → Stops 11 b
    → atom_tokens t ++ (close_round ∷ (literals_tokens ls ++ a)) ≡ literal_tokens m ++ (literals_tokens ms ++ (close_round ∷ b)) → (disjunction_of (g.positive_bracketed t) ls ≡ disjunction_of m ms) × (a ≡ b)
mixed t ls (g.positive s) ms a b p q e =
    let k = atom-alike t s (close_round ∷ (literals_tokens ls ++ a)) (literals_tokens ms ++ (close_round ∷ b)) refl (literals-stop ms (close_round ∷ b) refl) e in
    by ls ms k.0 k.1
  where
    by : (ls ms : List LiteralTree) → t ≡ s → close_round ∷ (literals_tokens ls ++ a) ≡ literals_tokens ms ++ (close_round ∷ b) → (disjunction_of (g.positive_bracketed t) ls ≡ disjunction_of (g.positive s) ms) × (a ≡ b)
    by [] [] d f = (ap atom_of d, ap tail_of f)
    by (l ∷ ls) [] d f = absurd (no-stop 11 bar b ((literal_tokens l ++ literals_tokens ls) ++ a) (sym (ap tail_of f)) q refl)
    by ls (m ∷ ms) d f = cc
mixed t ls (g.negative s) ms a b p q e = let n : 5 ≡ 2 = sym (atom-begins t (close_round ∷ (literals_tokens ls ++ a))) ∙ ap begun e in absurd (omega (arith, n))
mixed t ls (g.positive_bracketed s) ms a b p q e = let n : 5 ≡ 1 = sym (atom-begins t (close_round ∷ (literals_tokens ls ++ a))) ∙ ap begun e in absurd (omega (arith, n))
mixed t ls (g.negative_bracketed s) ms a b p q e = let n : 5 ≡ 2 = sym (atom-begins t (close_round ∷ (literals_tokens ls ++ a))) ∙ ap begun e in absurd (omega (arith, n))

-- the tokens of a bracketed clause behind its first bracket
closed-at : (m : LiteralTree) (ms : List LiteralTree) (b : List Terminal) → (literal_tokens m ++ literals_tokens ms ++ close_round ∷ []) ++ b ≡ literal_tokens m ++ (literals_tokens ms ++ (close_round ∷ b))
closed-at m ms b = shift (literal_tokens m) (literals_tokens ms) (close_round ∷ []) b ∙ ap (λ t. literal_tokens m ++ t) (append_assoc (literals_tokens ms) (close_round ∷ []) b)

no-open : (l : LiteralTree) (a b : List Terminal) (n : ℕ) → literal_beginning l ≡ n → literal_tokens l ++ a ≡ open_round ∷ b → n ≡ 1
no-open l a b n h e = sym h ∙ sym (literal-begins l a) ∙ ap begun e

bare-or-bracketed : (l : LiteralTree) (ls : List LiteralTree) (m : LiteralTree) (ms : List LiteralTree) (a b : List Terminal) → Stops 11 a → Stops 11 b
    → (literal_tokens l ++ literals_tokens ls) ++ a ≡ open_round ∷ ((literal_tokens m ++ literals_tokens ms ++ close_round ∷ []) ++ b) → (disjunction_of l ls ≡ disjunction_of m ms) × (a ≡ b)
bare-or-bracketed (g.positive_bracketed t) ls m ms a b p q e =
    mixed t ls m ms a b p q (sym (append_assoc (atom_tokens t) (close_round ∷ []) (literals_tokens ls ++ a)) ∙ sym (append_assoc (atom_tokens t ++ close_round ∷ []) (literals_tokens ls) a) ∙ ap tail_of e ∙ closed-at m ms b)
bare-or-bracketed (g.positive t) ls m ms a b p q e = let n = no-open (g.positive t) (literals_tokens ls ++ a) ((literal_tokens m ++ literals_tokens ms ++ close_round ∷ []) ++ b) 5 refl (sym (append_assoc (atom_tokens t) (literals_tokens ls) a) ∙ e) in absurd (omega (arith, n))
bare-or-bracketed (g.negative t) ls m ms a b p q e = cc
bare-or-bracketed (g.negative_bracketed t) ls m ms a b p q e = cc

pub clause-alike : (c d : ClauseTree) (a b : List Terminal) → Stops 11 a → Stops 11 b → clause_tokens c ++ a ≡ clause_tokens d ++ b → (clause_of c ≡ clause_of d) × (a ≡ b)
clause-alike (g.bare l ls) (g.bare m ms) a b p q e =
    let k = literal-alike l m (literals_tokens ls ++ a) (literals_tokens ms ++ b) (literals-stop ls a (stops-less 3 11 a (omega arith) p)) (literals-stop ms b (stops-less 3 11 b (omega arith) q))
    (moved-over (literal_tokens l) (literals_tokens ls) a (literal_tokens m) (literals_tokens ms) b e) in
    let r = literals-alike ls ms a b p q k.1 in
    (λ i. disjunction_of (k.0 i) (r.0 i), r.1)
clause-alike (g.bare l ls) (g.bracketed_clause m ms) a b p q e = bare-or-bracketed l ls m ms a b p q e
clause-alike (g.bracketed_clause l ls) (g.bare m ms) a b p q e = let k = bare-or-bracketed m ms l ls b a q p (sym e) in (sym k.0, sym k.1)
clause-alike (g.bracketed_clause l ls) (g.bracketed_clause m ms) a b p q e =
    let k = literal-alike l m (literals_tokens ls ++ (close_round ∷ a)) (literals_tokens ms ++ (close_round ∷ b)) (literals-stop ls (close_round ∷ a) refl) (literals-stop ms (close_round ∷ b) refl)
    (sym (closed-at l ls a) ∙ ap tail_of e ∙ closed-at m ms b) in
    let r = literals-alike ls ms (close_round ∷ a) (close_round ∷ b) refl refl k.1 in
    (λ i. disjunction_of (k.0 i) (r.0 i), ap tail_of r.1)

-- ---- notes

-- what waits behind a token of notes
record Onward (waiting : List Bool) (x : Terminal) : Type 0 where
  pub next : List Bool
  pub onward : (ts : List Terminal) → g.closes waiting (x ∷ ts) ≡ g.closes next ts

onward : (waiting : List Bool) (x : Terminal) (ts : List Terminal) → g.closes waiting (x ∷ ts) ≡ true → Onward waiting x
onward [] open_round ts h = record { next = true ∷ []; onward = λ us. refl }
onward [] open_square ts h = record { next = false ∷ []; onward = λ us. refl }
onward [] close_round ts h = absurd (false≢true h)
onward [] close_square ts h = absurd (false≢true h)
onward [] _ ts h = record { next = []; onward = λ us. refl }
onward (b ∷ w) open_round ts h = record { next = true ∷ b ∷ w; onward = λ us. refl }
onward (b ∷ w) open_square ts h = record { next = false ∷ b ∷ w; onward = λ us. refl }
onward (true ∷ w) close_round ts h = record { next = w; onward = λ us. refl }
onward (false ∷ w) close_round ts h = absurd (false≢true h)
onward (true ∷ w) close_square ts h = absurd (false≢true h)
onward (false ∷ w) close_square ts h = record { next = w; onward = λ us. refl }
onward (b ∷ w) _ ts h = record { next = b ∷ w; onward = λ us. refl }

not-closed : (waiting : List Bool) (y : Terminal) (ys : List Terminal) → g.closes waiting [] ≡ true → g.closes waiting (y ∷ ys) ≡ true → close_round ≡ y → ⊥
not-closed [] y ys h k e = false≢true (subst (λ z. g.closes [] (z ∷ ys) ≡ true) (sym e) k)
not-closed (b ∷ w) y ys h k e = false≢true h

closes-alike : (xs ys : List Terminal) (waiting : List Bool) (a b : List Terminal) → g.closes waiting xs ≡ true → g.closes waiting ys ≡ true → xs ++ close_round ∷ a ≡ ys ++ close_round ∷ b → a ≡ b
closes-alike [] [] waiting a b h k e = ap tail_of e
closes-alike [] (y ∷ ys) waiting a b h k e = absurd (not-closed waiting y ys h k (ap (head_or close_round) e))
closes-alike (x ∷ xs) [] waiting a b h k e = absurd (not-closed waiting x xs k h (sym (ap (head_or close_round) e)))
closes-alike (x ∷ xs) (y ∷ ys) waiting a b h k e =
    let o = onward waiting x xs h in
    let d : x ≡ y = ap (head_or x) e in
    closes-alike xs ys o.next a b (sym (o.onward xs) ∙ h) (sym (o.onward ys) ∙ ap (λ z. g.closes waiting (z ∷ ys)) d ∙ k) (ap tail_of e)

fit-closes : (xs : List Terminal) → IsTrue (g.are_notes xs) → g.closes [] xs ≡ true
fit-closes [] h = absurd (false≢true h)
fit-closes (x ∷ xs) h = h

notes-stop : (o : Option (List Terminal)) (a : List Terminal) → Stops 11 ((notes_tokens o ++ end_tokens) ++ a)
notes-stop None a = refl
notes-stop (Some xs) a = refl

notes-alike : (o r : Option (List Terminal)) (a b : List Terminal) → IsTrue (g.notes_fit o) → IsTrue (g.notes_fit r) → (notes_tokens o ++ end_tokens) ++ a ≡ (notes_tokens r ++ end_tokens) ++ b → a ≡ b
notes-alike None None a b p q e = ap tail_of (ap tail_of e)
notes-alike None (Some ys) a b p q e = cc
notes-alike (Some xs) None a b p q e = cc
notes-alike (Some xs) (Some ys) a b p q e =
    ap tail_of (closes-alike xs ys [] (dot ∷ a) (dot ∷ b) (fit-closes xs p) (fit-closes ys q) (moved-over xs end_tokens a ys end_tokens b (ap tail_of e)))

-- ---- items

name-alike : (n m : NameTree) → g.name_token n ≡ g.name_token m → n ≡ m
name-alike (g.word_name v) (g.word_name w) e = ap g.word_name (word-alike v w e)
name-alike (g.word_name (plain v)) (g.number_name w) e = cc
name-alike (g.word_name (in_quotes v)) (g.number_name w) e = cc
name-alike (g.number_name v) (g.word_name (plain w)) e = cc
name-alike (g.number_name v) (g.word_name (in_quotes w)) e = cc
name-alike (g.number_name v) (g.number_name w) e = cc

abbrev others_tokens : List NameTree → List Terminal
others_tokens xs = flat_map (λ m. comma ∷ g.name_token m ∷ []) xs

names-alike : (xs ys : List NameTree) (a b : List Terminal) → others_tokens xs ++ close_square ∷ a ≡ others_tokens ys ++ close_square ∷ b → (xs ≡ ys) × (a ≡ b)
names-alike [] [] a b e = (refl, ap tail_of e)
names-alike [] (y ∷ ys) a b e = cc
names-alike (x ∷ xs) [] a b e = cc
names-alike (x ∷ xs) (y ∷ ys) a b e =
    let d : x ≡ y = name-alike x y (ap (λ t. head_or comma (tail_of t)) e) in
    let k = names-alike xs ys a b (ap tail_of (ap tail_of e)) in
    (λ i. d i ∷ k.0 i, k.1)

-- two items that say the same wherever their tokens stand, with the same tokens behind them
record Alike (i j : ItemTree) (a b : List Terminal) : Type 0 where
  pub says : (offsets : List ℕ) → item_of offsets i ≡ item_of offsets j
  pub rest : a ≡ b

abbrev word_in : Terminal → List ℕ
word_in (lower w) = w
word_in (quoted w) = w
word_in _ = []

abbrev third : List Terminal → Terminal
third ts = head_or comma (tail_of (tail_of ts))

abbrev fifth : List Terminal → Terminal
fifth ts = head_or comma (tail_of (tail_of (tail_of (tail_of ts))))

abbrev behind_six : List Terminal → List Terminal
behind_six ts = tail_of (tail_of (tail_of (tail_of (tail_of (tail_of ts)))))

abbrev begins_with : List ℕ → List Terminal → Bool
begins_with w ts = is_word (word_in (head_or comma ts)) w

item-alike : (i j : ItemTree) (modal : Bool) (a b : List Terminal) → IsTrue (g.item_fits modal i) → IsTrue (g.item_fits modal j) → item_tokens i ++ a ≡ item_tokens j ++ b → Alike i j a b
item-alike (g.fof n r f o) j true a b p q e = absurd (false≢true p)
item-alike (g.cnf n r c o) j true a b p q e = absurd (false≢true p)
item-alike (g.qmf n r f o) j false a b p q e = absurd (false≢true p)
item-alike i (g.fof n r f o) true a b p q e = absurd (false≢true q)
item-alike i (g.cnf n r c o) true a b p q e = absurd (false≢true q)
item-alike i (g.qmf n r f o) false a b p q e = absurd (false≢true q)
item-alike (g.fof n r f o) (g.fof m s h t) false a b p q e =
    let x = and_parts (g.name_fits n && g.is_plain f) (g.notes_fit o) p in
    let y = and_parts (g.name_fits m && g.is_plain h) (g.notes_fit t) q in
    let k = formula-alike f h ((notes_tokens o ++ end_tokens) ++ a) ((notes_tokens t ++ end_tokens) ++ b) (notes-stop o a) (notes-stop t b)
    (shifted-over (formula_tokens f) (notes_tokens o) end_tokens a (formula_tokens h) (notes_tokens t) end_tokens b (ap behind_six e)) in
    let d : n ≡ m = name-alike n m (ap third e) in
    let c : r ≡ s = ap (λ ts. word_in (fifth ts)) e in
    record { says = λ offsets i. source.formula Fof (name_of (d i)) (c i) (offset_at offsets 4) (source_of (k.0 i)) (offset_at offsets 0); rest = notes-alike o t a b x.1 y.1 k.1 }
item-alike (g.fof n r f o) (g.cnf m s c t) false a b p q e = absurd (false≢true (sym (ap (begins_with (codes "fof")) e)))
item-alike (g.fof n r f o) (g.include file) false a b p q e = absurd (false≢true (sym (ap (begins_with (codes "fof")) e)))
item-alike (g.fof n r f o) (g.include_names file m ms) false a b p q e = absurd (false≢true (sym (ap (begins_with (codes "fof")) e)))
item-alike (g.cnf n r c o) (g.fof m s h t) false a b p q e = absurd (false≢true (ap (begins_with (codes "fof")) e))
item-alike (g.cnf n r c o) (g.cnf m s v t) false a b p q e =
    let x = and_parts (g.name_fits n) (g.notes_fit o) p in
    let y = and_parts (g.name_fits m) (g.notes_fit t) q in
    let k = clause-alike c v ((notes_tokens o ++ end_tokens) ++ a) ((notes_tokens t ++ end_tokens) ++ b) (notes-stop o a) (notes-stop t b)
    (shifted-over (clause_tokens c) (notes_tokens o) end_tokens a (clause_tokens v) (notes_tokens t) end_tokens b (ap behind_six e)) in
    let d : n ≡ m = name-alike n m (ap third e) in
    let w : r ≡ s = ap (λ ts. word_in (fifth ts)) e in
    record { says = λ offsets i. source.formula Cnf (name_of (d i)) (w i) (offset_at offsets 4) (k.0 i) (offset_at offsets 0); rest = notes-alike o t a b x.1 y.1 k.1 }
item-alike (g.cnf n r c o) (g.include file) false a b p q e = absurd (false≢true (sym (ap (begins_with (codes "cnf")) e)))
item-alike (g.cnf n r c o) (g.include_names file m ms) false a b p q e = absurd (false≢true (sym (ap (begins_with (codes "cnf")) e)))
item-alike (g.qmf n r f o) (g.qmf m s h t) true a b p q e =
    let x = and_parts (g.name_fits n) (g.notes_fit o) p in
    let y = and_parts (g.name_fits m) (g.notes_fit t) q in
    let k = formula-alike f h ((notes_tokens o ++ end_tokens) ++ a) ((notes_tokens t ++ end_tokens) ++ b) (notes-stop o a) (notes-stop t b)
    (shifted-over (formula_tokens f) (notes_tokens o) end_tokens a (formula_tokens h) (notes_tokens t) end_tokens b (ap behind_six e)) in
    let d : n ≡ m = name-alike n m (ap third e) in
    let c : r ≡ s = ap (λ ts. word_in (fifth ts)) e in
    record { says = λ offsets i. source.formula Qmf (name_of (d i)) (c i) (offset_at offsets 4) (source_of (k.0 i)) (offset_at offsets 0); rest = notes-alike o t a b x.1 y.1 k.1 }
item-alike (g.qmf n r f o) (g.include file) true a b p q e = absurd (false≢true (sym (ap (begins_with (codes "qmf")) e)))
item-alike (g.qmf n r f o) (g.include_names file m ms) true a b p q e = absurd (false≢true (sym (ap (begins_with (codes "qmf")) e)))
item-alike (g.include file) (g.fof m s h t) false a b p q e = absurd (false≢true (ap (begins_with (codes "fof")) e))
item-alike (g.include file) (g.cnf m s h t) false a b p q e = absurd (false≢true (ap (begins_with (codes "cnf")) e))
item-alike (g.include file) (g.qmf m s h t) true a b p q e = absurd (false≢true (ap (begins_with (codes "qmf")) e))
item-alike (g.include file) (g.include other) modal a b p q e =
    let d : file ≡ other = ap (λ ts. word_in (third ts)) e in
    record { says = λ offsets i. source.include (d i) None (offset_at offsets 0); rest = ap (λ ts. tail_of (tail_of (tail_of (tail_of (tail_of ts))))) e }
item-alike (g.include file) (g.include_names other m ms) modal a b p q e = cc
item-alike (g.include_names file n ns) (g.fof m s h t) false a b p q e = absurd (false≢true (ap (begins_with (codes "fof")) e))
item-alike (g.include_names file n ns) (g.cnf m s h t) false a b p q e = absurd (false≢true (ap (begins_with (codes "cnf")) e))
item-alike (g.include_names file n ns) (g.qmf m s h t) true a b p q e = absurd (false≢true (ap (begins_with (codes "qmf")) e))
item-alike (g.include_names file n ns) (g.include other) modal a b p q e = cc
item-alike (g.include_names file n ns) (g.include_names other m ms) modal a b p q e =
    let d : file ≡ other = ap (λ ts. word_in (third ts)) e in
    let c : n ≡ m = name-alike n m (ap (λ ts. head_or comma (tail_of (tail_of (tail_of (tail_of (tail_of ts)))))) e) in
    let k = names-alike ns ms (close_round ∷ dot ∷ a) (close_round ∷ dot ∷ b) (sym (append_assoc (others_tokens ns) (close_square ∷ end_tokens) a) ∙ ap behind_six e ∙ append_assoc (others_tokens ms) (close_square ∷ end_tokens) b) in
    record { says = λ offsets i. source.include (d i) (Some (selected offsets 5 (c i ∷ k.0 i))) (offset_at offsets 0); rest = ap tail_of (ap tail_of k.1) }

no-item : (i : ItemTree) (a : List Terminal) → [] ≡ item_tokens i ++ a → ⊥
no-item (g.fof n r f o) a e = cc
no-item (g.qmf n r f o) a e = cc
no-item (g.cnf n r f o) a e = cc
no-item (g.include f) a e = cc
no-item (g.include_names f n ns) a e = cc

same-length : (xs ys a b : List Terminal) → xs ++ a ≡ ys ++ b → a ≡ b → length xs ≡ length ys
same-length xs ys a b e d = let k : length (xs ++ a) ≡ length (ys ++ b) = ap length e in let l : length a ≡ length b = ap length d in omega (arith, k, l, length-append xs a, length-append ys b)

-- A list of tokens says one list of items.
pub text-alike : (is js : List ItemTree) (modal : Bool) → IsTrue (list_all (g.item_fits modal) is) → IsTrue (list_all (g.item_fits modal) js) → text_tokens is ≡ text_tokens js → (offsets : List ℕ) → items_of offsets is ≡ items_of offsets js
text-alike [] [] modal p q e offsets = refl
text-alike [] (j ∷ js) modal p q e offsets = absurd (no-item j (text_tokens js) e)
text-alike (i ∷ is) [] modal p q e offsets = absurd (no-item i (text_tokens is) (sym e))
text-alike (i ∷ is) (j ∷ js) modal p q e offsets =
    let x = and_parts (g.item_fits modal i) (list_all (g.item_fits modal) is) p in
    let y = and_parts (g.item_fits modal j) (list_all (g.item_fits modal) js) q in
    let k = item-alike i j modal (text_tokens is) (text_tokens js) x.0 y.0 e in
    let l : length (item_tokens i) ≡ length (item_tokens j) = same-length (item_tokens i) (item_tokens j) (text_tokens is) (text_tokens js) e k.rest in
    let r : items_of (drop (length (item_tokens i)) offsets) is ≡ items_of (drop (length (item_tokens j)) offsets) js =
    text-alike is js modal x.1 y.1 k.rest (drop (length (item_tokens i)) offsets) ∙ ap (λ n. items_of (drop n offsets) js) l in
    λ v. k.says offsets v ∷ r v
