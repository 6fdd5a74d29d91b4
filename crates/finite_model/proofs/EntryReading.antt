-- How entries are read slot by slot, and the faults on the way.
use Rattle.std.proofs.Common.{◌≡◌, ℕ, suc, ◌+◌, ◌-◌, ◌^◌, ◌≤◌, ◌<◌, List, [], ◌∷◌, ◌++◌, length, drop, Bool, true, false, ◌&&◌, IsTrue, Some, refl, sym, ◌∙◌, ap, subst, append_assoc, append-nil, arith, codes, decimal, slice_get, length-append}
use Rattle.std.specs.List.{list_all}
use Rattle.std.proofs.lemmas.Bool.{and_parts, and_from}
use Rattle.std.proofs.lemmas.List.{map-append, length-drop}
use Rattle.std.proofs.lemmas.List.Folds.{list_all-append}
use Rattle.std.specs.Prelude.{Vec}
use Rattle.std.specs.declared.alloc.Global.{Global}
use Rattle.calculus.specs.declared.fault.StructureCause.{StructureCause}
use Rattle.calculus.specs.declared.fault.StructureCause.TheVariants as cause
use Rattle.calculus.specs.Syntax.{Problem, Symbol}
use Rattle.calculus.specs.Problems.{symbol_fits}
use Rattle.calculus.specs.Skolem.{is_function}
use Rattle.calculus.specs.FirstWrong.{whole_lines}
use Rattle.calculus.specs.StructureText.{structure_causes, structure_texts, symbol_head}
use Rattle.text_lines.proofs.FirstWrong.{wrong-moved}
use Rattle.finite_model.specs.declared.entries.Entries.{Entries}
use Rattle.finite_model.specs.declared.head.Head.{Head}
use Rattle.finite_model.specs.declared.slot.Form.{Form}
use Rattle.finite_model.specs.declared.slot.Form.TheVariants.{Digits, Rising}
use Rattle.text_lines.specs.Lines.{AreRead, IsLineAt}
use Rattle.finite_model.specs.EntriesLeft.{AreLeft, IsFaultAmong, Leads}
use Rattle.finite_model.specs.Reading.{AreEntriesRead, IsFaultOf, IsHeadRead, IsSlotAt, NoSlotAt}
use Rattle.finite_model.specs.Slots.{Place, are_entries, entry_lines, entry_text, function_slot, function_slots, head_of, is_entry, lines_of, place_slot, predicate_slots, slots, world_slots}
use Rattle.finite_model.specs.StructureView.{the_lists}
use Rattle.finite_model.proofs.SlotLaws.{entry-count, entries-joined, lines-joined}
use Rattle.finite_model.proofs.SlotFaults.{all_apart, all_fill, can_fill, is_apart, slot-fault, end-fault, after-fault, lines-count}
use Rattle.finite_model.proofs.HeadFaults.{slots-apart, slots-fill}
use Rattle.text_lines.proofs.WholeLines.{more-read}
use Rattle.finite_model.proofs.NextSlots.{functions-at, functions-end, predicates-at, predicates-end, rows_of, world-next, worlds-end}

lists-pushed : (old new : List (Vec ℕ Global)) (v : Vec ℕ Global) → new ≡ old ++ v ∷ [] → the_lists new ≡ the_lists old ++ v.items ∷ []
lists-pushed old new v e = ap the_lists e ∙ map-append (λ (x : Vec ℕ Global). x.items) old (v ∷ [])

pub lists-count : (vs : List (Vec ℕ Global)) → length (the_lists vs) ≡ length vs
lists-count [] = refl
lists-count (v ∷ vs) = ap suc (lists-count vs)

all-back : (test : Place → Bool) (ss ts : List Place) → IsTrue (list_all test (ss ++ ts)) → IsTrue (list_all test ss) × IsTrue (list_all test ts)
all-back test ss ts h = and_parts (list_all test ss) (list_all test ts) (sym (list_all-append test ss ts) ∙ h)

head-count : (P : Problem) (W E : ℕ) (ss : List Place) (es : List (List ℕ)) → IsTrue (are_entries ss es) → length (head_of P W E ++ entry_lines ss es) + 1 ≡ length es + 5
head-count P W E ss es h = omega (arith, length-append (head_of P W E) (entry_lines ss es), lines-count ss es h, entry-count ss es h)

-- ---- one slot

pub next-read : (bytes : List ℕ) (s : Place) (before after : Entries) (v : Vec ℕ Global) → after.lists.items ≡ before.lists.items ++ v ∷ [] → IsSlotAt bytes before.place after.place s v.items → Leads bytes (s ∷ []) before [] after
next-read bytes s before after v added at = record { leads = λ P h rest l. on P h rest l }
  where
    on : (P : Problem) (h : Head) (rest : List Place) → AreLeft P bytes h (s ∷ rest) before → AreLeft P bytes h rest after
    on P h rest l =
        let n = entry-count l.done (the_lists before.lists.items) l.are in
        let more = lists-pushed before.lists.items after.lists.items v added in
        record {
          names = l.names;
          head = l.head;
          done = l.done ++ s ∷ [];
          all = l.all ∙ sym (append_assoc l.done (s ∷ []) rest);
          are =
              ap (are_entries (l.done ++ s ∷ [])) more
              ∙ entries-joined l.done (s ∷ []) (the_lists before.lists.items) (v.items ∷ []) n
              ∙ and_from (are_entries l.done (the_lists before.lists.items)) (is_entry s.form v.items && true) l.are (and_from (is_entry s.form v.items) true at.fits refl);
          lines = subst (λ k. AreRead bytes k after.place)
              (append_assoc (head_of P h.worlds h.elements) (entry_lines l.done (the_lists before.lists.items)) ((s.front ++ entry_text s.form v.items) ∷ [])
              ∙ ap (λ k. head_of P h.worlds h.elements ++ k) (sym (lines-joined l.done (s ∷ []) (the_lists before.lists.items) (v.items ∷ []) n) ∙ ap (entry_lines (l.done ++ s ∷ [])) (sym more)))
              (more-read bytes (head_of P h.worlds h.elements ++ entry_lines l.done (the_lists before.lists.items)) before.place after.place (s.front ++ entry_text s.form v.items) l.lines at.line);
        }

pub next-fault : (bytes : List ℕ) (s : Place) (before : Entries) (line number : ℕ) (why : StructureCause) → line ≡ number → number ≡ length before.lists.items + 5 → why ≡ cause.Line → NoSlotAt bytes before.place s → IsFaultAmong bytes (s ∷ []) before line why
next-fault bytes s before line number why at-line counted is-line none = record { told = λ P h rest l. by P h rest l }
  where
    by : (P : Problem) (h : Head) (rest : List Place) → AreLeft P bytes h (s ∷ rest) before → IsFaultOf P bytes line why
    by P h rest l =
        let fill = all-back (λ (p : Place). can_fill p.form) l.done (s ∷ rest) (ap all_fill (sym l.all) ∙ slots-fill h.worlds h.elements P.symbols l.head.elements) in
        let apart = all-back (λ (p : Place). is_apart p.front) l.done (s ∷ rest) (ap all_apart (sym l.all) ∙ slots-apart h.worlds h.elements P.symbols) in
        let f = slot-fault P l.names bytes h.worlds h.elements l.done rest s (the_lists before.lists.items) before.place l.head.worlds l.head.elements l.head.fits l.all l.are fill.1 apart.0 l.lines none in
        let n = head-count P h.worlds h.elements l.done (the_lists before.lists.items) l.are in
        let c = lists-count before.lists.items in
        let place : length (head_of P h.worlds h.elements ++ entry_lines l.done (the_lists before.lists.items)) + 1 ≡ line = omega (arith, n, c, at-line, counted) in
        wrong-moved (structure_texts P) structure_causes bytes _ line cause.Line why place (sym is-line) f

-- ---- one slot after the other

pub leads-same : (bytes : List ℕ) (ss : List Place) (e : Entries) → Leads bytes ss e ss e
leads-same bytes ss e = record { leads = λ P h rest l. l }

pub leads-on : (bytes : List ℕ) (ss us ts : List Place) (a b c : Entries) → Leads bytes ss a us b → Leads bytes us b ts c → Leads bytes ss a ts c
leads-on bytes ss us ts a b c first second = record { leads = λ P h rest l. second.leads P h rest (first.leads P h rest l) }

pub leads-front : (bytes : List ℕ) (us ts : List Place) (a b : Entries) → Leads bytes us a [] b → Leads bytes (us ++ ts) a ts b
leads-front bytes us ts a b first = record { leads = λ P h rest l. first.leads P h (ts ++ rest) (subst (λ ps. AreLeft P bytes h ps a) (append_assoc us ts rest) l) }

pub fault-on : (bytes : List ℕ) (ss us : List Place) (a b : Entries) (line : ℕ) (why : StructureCause) → Leads bytes ss a us b → IsFaultAmong bytes us b line why → IsFaultAmong bytes ss a line why
fault-on bytes ss us a b line why first second = record { told = λ P h rest l. second.told P h rest (first.leads P h rest l) }

pub fault-front : (bytes : List ℕ) (us ts : List Place) (a : Entries) (line : ℕ) (why : StructureCause) → IsFaultAmong bytes us a line why → IsFaultAmong bytes (us ++ ts) a line why
fault-front bytes us ts a line why first = record { told = λ P h rest l. first.told P h (ts ++ rest) (subst (λ ps. AreLeft P bytes h ps a) (append_assoc us ts rest) l) }

-- ---- worlds

pub worlds-begun : (bytes word after : List ℕ) (f : Form) (k : ℕ) (e : Entries) → Leads bytes (world_slots word after f 0 k) e (world_slots word after f 0 (k - 0)) e
worlds-begun bytes word after f k e =
    let same : k ≡ k - 0 = omega arith in
    subst (λ n. Leads bytes (world_slots word after f 0 k) e (world_slots word after f 0 n) e) same (leads-same bytes (world_slots word after f 0 k) e)

pub worlds-on : (bytes word after : List ℕ) (f : Form) (w k : ℕ) (p : Place) (ss : List Place) (a b c : Entries) → w < k → p ≡ place_slot (word ++ decimal (suc w) ++ after) f → Leads bytes ss a (world_slots word after f w (k - w)) b → Leads bytes (p ∷ []) b [] c → Leads bytes ss a (world_slots word after f (w + 1) (k - (w + 1))) c
worlds-on bytes word after f w k p ss a b c h same first next =
    leads-on bytes ss (world_slots word after f w (k - w)) (world_slots word after f (w + 1) (k - (w + 1))) a b c first
    (subst (λ ps. Leads bytes ps b (world_slots word after f (w + 1) (k - (w + 1))) c)
    (ap (λ (q : Place). q ∷ world_slots word after f (w + 1) (k - (w + 1))) same ∙ sym (world-next word after f w k h))
    (leads-front bytes (p ∷ []) (world_slots word after f (w + 1) (k - (w + 1))) b c next))

pub worlds-fault : (bytes word after : List ℕ) (f : Form) (w k : ℕ) (p : Place) (ss : List Place) (a b : Entries) (line : ℕ) (why : StructureCause) → w < k → p ≡ place_slot (word ++ decimal (suc w) ++ after) f → Leads bytes ss a (world_slots word after f w (k - w)) b → IsFaultAmong bytes (p ∷ []) b line why → IsFaultAmong bytes ss a line why
worlds-fault bytes word after f w k p ss a b line why h same first next =
    fault-on bytes ss (world_slots word after f w (k - w)) a b line why first
    (subst (λ ps. IsFaultAmong bytes ps b line why)
    (ap (λ (q : Place). q ∷ world_slots word after f (w + 1) (k - (w + 1))) same ∙ sym (world-next word after f w k h))
    (fault-front bytes (p ∷ []) (world_slots word after f (w + 1) (k - (w + 1))) b line why next))

pub worlds-done : (bytes word after : List ℕ) (f : Form) (w k : ℕ) (ss : List Place) (a b : Entries) → k ≤ w → Leads bytes ss a (world_slots word after f w (k - w)) b → Leads bytes ss a [] b
worlds-done bytes word after f w k ss a b h first = subst (λ ps. Leads bytes ss a ps b) (worlds-end word after f w k h) first

-- ---- symbols

pub function-read : (bytes : List ℕ) (E : ℕ) (symbols : List Symbol) (i : ℕ) (s : Symbol) (b : Bool) (p : Place) (a c : Entries) → slice_get symbols i ≡ Some s → b ≡ is_function s.class → b ≡ true → p ≡ function_slot E s → Leads bytes (p ∷ []) a [] c → Leads bytes (function_slots E (drop i symbols)) a (function_slots E (drop (i + 1) symbols)) c
function-read bytes E symbols i s b p a c h e hy same next =
    subst (λ ps. Leads bytes ps a (function_slots E (drop (i + 1) symbols)) c)
    (ap (λ (q : Place). q ∷ function_slots E (drop (i + 1) symbols)) same ∙ sym (functions-at E symbols i s true h (sym hy ∙ e)))
    (leads-front bytes (p ∷ []) (function_slots E (drop (i + 1) symbols)) a c next)

pub function-fault : (bytes : List ℕ) (E : ℕ) (symbols : List Symbol) (i : ℕ) (s : Symbol) (b : Bool) (p : Place) (a : Entries) (line : ℕ) (why : StructureCause) → slice_get symbols i ≡ Some s → b ≡ is_function s.class → b ≡ true → p ≡ function_slot E s → IsFaultAmong bytes (p ∷ []) a line why → IsFaultAmong bytes (function_slots E (drop i symbols)) a line why
function-fault bytes E symbols i s b p a line why h e hy same next =
    subst (λ ps. IsFaultAmong bytes ps a line why)
    (ap (λ (q : Place). q ∷ function_slots E (drop (i + 1) symbols)) same ∙ sym (functions-at E symbols i s true h (sym hy ∙ e)))
    (fault-front bytes (p ∷ []) (function_slots E (drop (i + 1) symbols)) a line why next)

pub function-passed : (bytes : List ℕ) (E : ℕ) (symbols : List Symbol) (i : ℕ) (s : Symbol) (b : Bool) (a : Entries) → slice_get symbols i ≡ Some s → b ≡ is_function s.class → b ≡ false → Leads bytes (function_slots E (drop i symbols)) a (function_slots E (drop (i + 1) symbols)) a
function-passed bytes E symbols i s b a h e hn =
    subst (λ ps. Leads bytes ps a (function_slots E (drop (i + 1) symbols)) a) (sym (functions-at E symbols i s false h (sym hn ∙ e)))
    (leads-same bytes (function_slots E (drop (i + 1) symbols)) a)

pub functions-done : (bytes : List ℕ) (E : ℕ) (symbols : List Symbol) (i : ℕ) (ss : List Place) (a b : Entries) → length symbols ≡ i → Leads bytes ss a (function_slots E (drop i symbols)) b → Leads bytes ss a [] b
functions-done bytes E symbols i ss a b h first = subst (λ ps. Leads bytes ss a ps b) (functions-end E symbols i h) first

rows-moved : (count W E : ℕ) (symbols : List Symbol) (i : ℕ) (s : Symbol) (b : Bool) → slice_get symbols i ≡ Some s → b ≡ is_function s.class → b ≡ false → count ≡ E ^ s.arity → rows_of count s W ++ predicate_slots W E (drop (i + 1) symbols) ≡ predicate_slots W E (drop i symbols)
rows-moved count W E symbols i s b h e hn same = ap (λ n. rows_of n s W ++ predicate_slots W E (drop (i + 1) symbols)) same ∙ sym (predicates-at W E symbols i s false h (sym hn ∙ e))

pub predicate-read : (bytes : List ℕ) (count W E : ℕ) (symbols : List Symbol) (i : ℕ) (s : Symbol) (b : Bool) (a c : Entries) → slice_get symbols i ≡ Some s → b ≡ is_function s.class → b ≡ false → count ≡ E ^ s.arity → Leads bytes (world_slots (codes "predicate " ++ symbol_head s ++ codes " ") (codes " ") (Digits count) 0 W) a [] c → Leads bytes (predicate_slots W E (drop i symbols)) a (predicate_slots W E (drop (i + 1) symbols)) c
predicate-read bytes count W E symbols i s b a c h e hn same next =
    subst (λ ps. Leads bytes ps a (predicate_slots W E (drop (i + 1) symbols)) c) (rows-moved count W E symbols i s b h e hn same)
    (leads-front bytes (rows_of count s W) (predicate_slots W E (drop (i + 1) symbols)) a c next)

pub predicate-fault : (bytes : List ℕ) (count W E : ℕ) (symbols : List Symbol) (i : ℕ) (s : Symbol) (b : Bool) (a : Entries) (line : ℕ) (why : StructureCause) → slice_get symbols i ≡ Some s → b ≡ is_function s.class → b ≡ false → count ≡ E ^ s.arity → IsFaultAmong bytes (world_slots (codes "predicate " ++ symbol_head s ++ codes " ") (codes " ") (Digits count) 0 W) a line why → IsFaultAmong bytes (predicate_slots W E (drop i symbols)) a line why
predicate-fault bytes count W E symbols i s b a line why h e hn same next =
    subst (λ ps. IsFaultAmong bytes ps a line why) (rows-moved count W E symbols i s b h e hn same)
    (fault-front bytes (rows_of count s W) (predicate_slots W E (drop (i + 1) symbols)) a line why next)

pub predicate-passed : (bytes : List ℕ) (W E : ℕ) (symbols : List Symbol) (i : ℕ) (s : Symbol) (b : Bool) (a : Entries) → slice_get symbols i ≡ Some s → b ≡ is_function s.class → b ≡ true → Leads bytes (predicate_slots W E (drop i symbols)) a (predicate_slots W E (drop (i + 1) symbols)) a
predicate-passed bytes W E symbols i s b a h e hy =
    subst (λ ps. Leads bytes ps a (predicate_slots W E (drop (i + 1) symbols)) a) (sym (predicates-at W E symbols i s true h (sym hy ∙ e)))
    (leads-same bytes (predicate_slots W E (drop (i + 1) symbols)) a)

pub predicates-done : (bytes : List ℕ) (W E : ℕ) (symbols : List Symbol) (i : ℕ) (ss : List Place) (a b : Entries) → length symbols ≡ i → Leads bytes ss a (predicate_slots W E (drop i symbols)) b → Leads bytes ss a [] b
predicates-done bytes W E symbols i ss a b h first = subst (λ ps. Leads bytes ss a ps b) (predicates-end W E symbols i h) first

-- ---- all slots

pub left-begun : (P : Problem) (bytes : List ℕ) (h : Head) (symbols : List Symbol) (e : Entries) → IsTrue (list_all symbol_fits P.symbols) → IsHeadRead P bytes h → symbols ≡ P.symbols → e.lists.items ≡ [] → e.place ≡ h.end → AreLeft P bytes h (slots symbols h.worlds h.elements) e
left-begun P bytes h symbols e names head same none place = record {
  names = names;
  head = head;
  done = [];
  all = ap (λ ss. slots ss h.worlds h.elements) (sym same);
  are = ap (λ vs. are_entries [] (the_lists vs)) none;
  lines = subst (λ k. AreRead bytes (head_of P h.worlds h.elements ++ entry_lines [] (the_lists e.lists.items)) k) (sym place) (subst (λ k. AreRead bytes k h.end) (sym (append-nil (head_of P h.worlds h.elements))) head.lines);
}

pub left-last : (P : Problem) (bytes : List ℕ) (h : Head) (ss : List Place) (a b : Entries) → AreLeft P bytes h ss a → Leads bytes ss a [] b → AreEntriesRead P bytes h.worlds h.elements (the_lists b.lists.items) b.place
left-last P bytes h ss a b l last =
    let r = last.leads P h [] (subst (λ ps. AreLeft P bytes h ps a) (sym (append-nil ss)) l) in
    let whole : r.done ≡ slots P.symbols h.worlds h.elements = sym (r.all ∙ append-nil r.done) in
    record {
      are = ap (λ ps. are_entries ps (the_lists b.lists.items)) (sym whole) ∙ r.are;
      lines = subst (λ ps. AreRead bytes (head_of P h.worlds h.elements ++ entry_lines ps (the_lists b.lists.items)) b.place) whole r.lines;
    }

pub left-fault : (P : Problem) (bytes : List ℕ) (h : Head) (ss : List Place) (a : Entries) (line : ℕ) (why : StructureCause) → AreLeft P bytes h ss a → IsFaultAmong bytes ss a line why → IsFaultOf P bytes line why
left-fault P bytes h ss a line why l f = f.told P h [] (subst (λ ps. AreLeft P bytes h ps a) (sym (append-nil ss)) l)

abbrev pub behind_domains : Head → List Symbol → List Place
behind_domains h symbols = function_slots h.elements symbols ++ predicate_slots h.worlds h.elements symbols

abbrev pub behind_relations : Head → List Symbol → List Place
behind_relations h symbols = world_slots (codes "domain ") [] (Rising h.elements) 0 h.worlds ++ behind_domains h symbols

-- ---- the end

pub end-read : (P : Problem) (bytes : List ℕ) (W E : ℕ) (es : List (List ℕ)) (place to : ℕ) → AreEntriesRead P bytes W E es place → IsLineAt bytes place to (codes "end") → AreRead bytes (lines_of P W E es) to
end-read P bytes W E es place to r h = subst (λ l. AreRead bytes l to) (append_assoc (head_of P W E) (entry_lines (slots P.symbols W E) es) (codes "end" ∷ [])) (more-read bytes (head_of P W E ++ entry_lines (slots P.symbols W E) es) place to (codes "end") r.lines h)

pub no-end_there : (P : Problem) → IsTrue (list_all symbol_fits P.symbols) → (bytes : List ℕ) (h : Head) (es : List (List ℕ)) (place n : ℕ) → IsHeadRead P bytes h → AreEntriesRead P bytes h.worlds h.elements es place → n ≡ length es + 5 → ((more : List (List ℕ)) → ¬ (whole_lines (drop place bytes) ≡ codes "end" ∷ more)) → IsFaultOf P bytes n cause.Line
no-end_there P names bytes h es place n head r e none =
    subst (λ k. IsFaultOf P bytes k cause.Line) (head-count P h.worlds h.elements (slots P.symbols h.worlds h.elements) es r.are ∙ sym e)
    (end-fault P names bytes h.worlds h.elements es place head.worlds head.elements head.fits r.are (slots-apart h.worlds h.elements P.symbols) r.lines none)

all-count : (P : Problem) (W E : ℕ) (es : List (List ℕ)) → IsTrue (are_entries (slots P.symbols W E) es) → length (lines_of P W E es) + 1 ≡ length es + 6
all-count P W E es h = omega (arith, length-append (head_of P W E) (entry_lines (slots P.symbols W E) es ++ codes "end" ∷ []), length-append (entry_lines (slots P.symbols W E) es) (codes "end" ∷ []), lines-count (slots P.symbols W E) es h, entry-count (slots P.symbols W E) es h)

pub more-behind : (P : Problem) → IsTrue (list_all symbol_fits P.symbols) → (bytes : List ℕ) (h : Head) (es : List (List ℕ)) (place to n : ℕ) → IsHeadRead P bytes h → AreEntriesRead P bytes h.worlds h.elements es place → n ≡ length es + 5 → IsLineAt bytes place to (codes "end") → ¬ (to ≡ length bytes) → IsFaultOf P bytes (n + 1) cause.TextAfterEnd
more-behind P names bytes h es place to n head r e l apart =
    subst (λ k. IsFaultOf P bytes k cause.TextAfterEnd) (all-count P h.worlds h.elements es r.are ∙ (let f : length es + 6 ≡ n + 1 = omega arith in f))
    (after-fault P names bytes h.worlds h.elements es to head.worlds head.elements head.fits r.are (end-read P bytes h.worlds h.elements es place to r l) left)
  where
    left : 0 < length (drop to bytes)
    left = let w = l.within in omega (arith, apart, length-drop to bytes)

-- ---- the line of a slot

pub slot-missing : (bytes : List ℕ) (from : ℕ) (s : Place) → whole_lines (drop from bytes) ≡ [] → NoSlotAt bytes from s
slot-missing bytes from s none xs more fits e = let x = sym none ∙ e in absurd (cc)
