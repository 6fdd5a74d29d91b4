-- No line of a structure has a line feed in it.
use Rattle.std.proofs.Common.{ℕ, zero, suc, ◌^◌, List, [], ◌∷◌, ◌++◌, Bool, true, false, IsTrue, refl, sym, ◌∙◌, ap, decimal, codes, if◌then◌else◌}
use Rattle.std.specs.List.{list_all}
use Rattle.std.proofs.lemmas.Bool.{and_parts, and_from, false≢true}
use Rattle.std.proofs.lemmas.List.Folds.{list_all-append}
use Rattle.calculus.specs.Syntax.{Symbol, Problem}
use Rattle.calculus.specs.Problems.{symbol_fits}
use Rattle.calculus.specs.DerivationText.{setting_text}
use Rattle.calculus.specs.Text.{symbol_text}
use Rattle.calculus.specs.StructureText.{numbers_text, symbol_head}
use Rattle.calculus.specs.Skolem.{is_function}
use Rattle.text_lines.proofs.LineFeeds.{AreNoFeeds, NoFeed, before, class-feed, decimal-feed, is_no_feed, join, lines-join, logic-feed, not_ten}
use Rattle.finite_model.specs.declared.slot.Form.{Form}
use Rattle.finite_model.specs.declared.slot.Form.TheVariants.{Rising, Values, Digits}
use Rattle.finite_model.specs.Slots.{Place, is_bit_digit, is_entry, entry_text, world_slots, function_slots, predicate_slots, slots, are_entries, entry_lines, head_of, lines_of}

numbers-feed : (xs : List ℕ) → NoFeed (numbers_text xs)
numbers-feed [] = refl
numbers-feed (x ∷ xs) = before 32 (decimal (suc x) ++ numbers_text xs) refl (join (decimal (suc x)) (numbers_text xs) (decimal-feed (suc x)) (numbers-feed xs))

digit-feed : (b : ℕ) → IsTrue (is_bit_digit b) → IsTrue (is_no_feed b)
digit-feed b h = not_ten b (λ e. false≢true (sym (ap is_bit_digit e) ∙ h))

row-feed : (bs : List ℕ) → IsTrue (list_all is_bit_digit bs) → NoFeed bs
row-feed [] h = refl
row-feed (b ∷ bs) h = let p = and_parts (is_bit_digit b) (list_all is_bit_digit bs) h in before b bs (digit-feed b p.0) (row-feed bs p.1)

entry-feed : (f : Form) (xs : List ℕ) → IsTrue (is_entry f xs) → NoFeed (entry_text f xs)
entry-feed (Rising most) xs h = numbers-feed xs
entry-feed (Values count most) xs h = numbers-feed xs
entry-feed (Digits count) xs h = row-feed xs (and_parts _ _ h).0

head-feed : (s : Symbol) → IsTrue (symbol_fits s) → NoFeed (symbol_head s)
head-feed s h = join (symbol_text s ++ codes " ") (decimal s.arity) (join (symbol_text s) (codes " ") (class-feed s.class s.name s.arity h) refl) (decimal-feed s.arity)

-- ---- slots

abbrev fronts_free : List Place → Bool
fronts_free ss = list_all (λ (s : Place). list_all is_no_feed s.front) ss

free-joined : (ss ts : List Place) → IsTrue (fronts_free ss) → IsTrue (fronts_free ts) → IsTrue (fronts_free (ss ++ ts))
free-joined ss ts h k = list_all-append (λ (s : Place). list_all is_no_feed s.front) ss ts ∙ and_from (fronts_free ss) (fronts_free ts) h k

worlds-free : (word after : List ℕ) (f : Form) (w n : ℕ) → NoFeed word → NoFeed after → IsTrue (fronts_free (world_slots word after f w n))
worlds-free word after f w zero h k = refl
worlds-free word after f w (suc n) h k =
    and_from (list_all is_no_feed (word ++ decimal (suc w) ++ after)) (fronts_free (world_slots word after f (suc w) n))
    (join (word ++ decimal (suc w)) after (join word (decimal (suc w)) h (decimal-feed (suc w))) k)
    (worlds-free word after f (suc w) n h k)

functions-free : (E : ℕ) (ss : List Symbol) → IsTrue (list_all symbol_fits ss) → IsTrue (fronts_free (function_slots E ss))
functions-free E [] h = refl
functions-free E (s ∷ ss) h = by (functions-free E ss (and_parts (symbol_fits s) (list_all symbol_fits ss) h).1) (is_function s.class)
  where
    by : IsTrue (fronts_free (function_slots E ss)) → (b : Bool) → IsTrue (fronts_free (if b then record { front = codes "function " ++ symbol_head s; form = Values (E ^ s.arity) E } ∷ function_slots E ss else function_slots E ss))
    by rest true =
        let p = and_parts (symbol_fits s) (list_all symbol_fits ss) h in
        and_from (list_all is_no_feed (codes "function " ++ symbol_head s)) (fronts_free (function_slots E ss)) (join (codes "function ") (symbol_head s) refl (head-feed s p.0)) rest
    by rest false = rest

predicates-free : (W E : ℕ) (ss : List Symbol) → IsTrue (list_all symbol_fits ss) → IsTrue (fronts_free (predicate_slots W E ss))
predicates-free W E [] h = refl
predicates-free W E (s ∷ ss) h = by (predicates-free W E ss (and_parts (symbol_fits s) (list_all symbol_fits ss) h).1) (is_function s.class)
  where
    by : IsTrue (fronts_free (predicate_slots W E ss)) → (b : Bool) → IsTrue (fronts_free (if b then predicate_slots W E ss else (world_slots (codes "predicate " ++ symbol_head s ++ codes " ") (codes " ") (Digits (E ^ s.arity)) 0 W) ++ predicate_slots W E ss))
    by rest true = rest
    by rest false =
        let p = and_parts (symbol_fits s) (list_all symbol_fits ss) h in
        free-joined (world_slots (codes "predicate " ++ symbol_head s ++ codes " ") (codes " ") (Digits (E ^ s.arity)) 0 W) (predicate_slots W E ss)
        (worlds-free (codes "predicate " ++ symbol_head s ++ codes " ") (codes " ") (Digits (E ^ s.arity)) 0 W (join (codes "predicate " ++ symbol_head s) (codes " ") (join (codes "predicate ") (symbol_head s) refl (head-feed s p.0)) refl) refl)
        rest

slots-free : (ss : List Symbol) (W E : ℕ) → IsTrue (list_all symbol_fits ss) → IsTrue (fronts_free (slots ss W E))
slots-free ss W E h =
    free-joined (world_slots (codes "relation ") [] (Rising W) 0 W) (world_slots (codes "domain ") [] (Rising E) 0 W ++ (function_slots E ss ++ predicate_slots W E ss)) (worlds-free (codes "relation ") [] (Rising W) 0 W refl refl)
    (free-joined (world_slots (codes "domain ") [] (Rising E) 0 W) (function_slots E ss ++ predicate_slots W E ss) (worlds-free (codes "domain ") [] (Rising E) 0 W refl refl)
    (free-joined (function_slots E ss) (predicate_slots W E ss) (functions-free E ss h) (predicates-free W E ss h)))

entries-feed : (ss : List Place) (es : List (List ℕ)) → IsTrue (fronts_free ss) → IsTrue (are_entries ss es) → AreNoFeeds (entry_lines ss es)
entries-feed [] es h k = refl
entries-feed (s ∷ ss) [] h k = refl
entries-feed (s ∷ ss) (e ∷ es) h k =
    let p = and_parts (list_all is_no_feed s.front) (fronts_free ss) h in
    let q = and_parts (is_entry s.form e) (are_entries ss es) k in
    and_from (list_all is_no_feed (s.front ++ entry_text s.form e)) (list_all (list_all is_no_feed) (entry_lines ss es)) (join s.front (entry_text s.form e) p.0 (entry-feed s.form e q.0)) (entries-feed ss es p.1 q.1)

top-feed : (P : Problem) (W E : ℕ) → AreNoFeeds (head_of P W E)
top-feed P W E =
    and_from (list_all is_no_feed (codes "leancop structure 1")) _ refl
    (and_from (list_all is_no_feed (codes "logic " ++ setting_text P.setting)) _ (join (codes "logic ") (setting_text P.setting) refl (logic-feed P.setting.logic P.setting.domains))
    (and_from (list_all is_no_feed (codes "worlds " ++ decimal W)) _ (join (codes "worlds ") (decimal W) refl (decimal-feed W))
    (and_from (list_all is_no_feed (codes "elements " ++ decimal E)) true (join (codes "elements ") (decimal E) refl (decimal-feed E)) refl)))

pub lines-feed : (P : Problem) (W E : ℕ) (es : List (List ℕ)) → IsTrue (list_all symbol_fits P.symbols) → IsTrue (are_entries (slots P.symbols W E) es) → AreNoFeeds (lines_of P W E es)
lines-feed P W E es names h =
    lines-join (head_of P W E) (entry_lines (slots P.symbols W E) es ++ codes "end" ∷ []) (top-feed P W E)
    (lines-join (entry_lines (slots P.symbols W E) es) (codes "end" ∷ []) (entries-feed (slots P.symbols W E) es (slots-free P.symbols W E names) h) refl)
