-- The faults behind the head: the line after the entries that are read is none of the next slot, or is not the end, or something follows it.
use Rattle.std.proofs.Common.{slice_get, ◌≡◌, ℕ, zero, suc, ◌+◌, ◌<◌, List, [], ◌∷◌, ◌++◌, length, drop, Bool, true, false, not, ◌&&◌, ◌||◌, ◌==◌, IsTrue, refl, sym, ◌∙◌, ap, subst, append_assoc, append-nil, arith, flat_map, length-append, codes, decimal, nat_lt, if◌then◌else◌}
use Rattle.std.specs.List.{list_all, list_any}
use Rattle.std.proofs.lemmas.Bool.{and_parts, and_from, eq-eqb, false≢true}
use Rattle.std.proofs.lemmas.Fmt.{decimal_injective}
use Rattle.calculus.specs.declared.fault.StructureCause.TheVariants as cause
use Rattle.calculus.specs.Syntax.{Problem}
use Rattle.calculus.specs.Problems.{symbol_fits}
use Rattle.calculus.specs.DerivationText.{setting_text}
use Rattle.calculus.specs.Equality.{list_eq}
use Rattle.calculus.specs.FirstWrong.{line_bytes, is_end_line, whole_lines, cause_after}
use Rattle.calculus.specs.Structures.{Structure}
use Rattle.calculus.specs.StructureText.{IsStructureText, can_be_stated, fits_table, is_size, structure_causes, structure_lines, structure_texts}
use Rattle.calculus.proofs.StructureTextUnique.{stated-parts, size-small}
use Rattle.calculus.proofs.DerivationTextLaws.{cancel}
use Rattle.finite_model.specs.declared.slot.Form.{Form}
use Rattle.finite_model.specs.declared.slot.Form.TheVariants.{Rising, Values, Digits}
use Rattle.text_lines.specs.Lines.{AreRead}
use Rattle.finite_model.specs.Reading.{IsFaultOf}
use Rattle.finite_model.specs.Slots.{Place, are_entries, entry_lines, entry_text, head_of, is_bit_digit, is_entry, lines_of, slots}
use Rattle.finite_model.proofs.SlotLaws.{entry-count, entries-joined, lines-joined}
use Rattle.finite_model.proofs.EntryLaws.{stated-entries, entries-stated}
use Rattle.text_lines.proofs.FirstWrong.{IsBegun, faulty, wrong-behind}
use Rattle.finite_model.proofs.TextFaults.{no-feeds}

-- ---- sizes

two-lines : (a b c d : List ℕ) (xs ys : List (List ℕ)) → a ∷ b ∷ xs ≡ c ∷ d ∷ ys → (a ≡ c) × (b ≡ d) × (xs ≡ ys)
two-lines a b c d xs ys e = (cc, cc, cc)

-- the head gives the sizes
pub record SameSizes (W E V F : ℕ) (xs ys : List (List ℕ)) : Type 0 where
  pub worlds : W ≡ V
  pub elements : E ≡ F
  pub rest : xs ≡ ys

pub same-sizes : (P : Problem) (W E V F : ℕ) (xs ys : List (List ℕ)) → IsTrue (is_size W) → IsTrue (is_size E) → IsTrue (is_size V) → IsTrue (is_size F) → head_of P W E ++ xs ≡ head_of P V F ++ ys → SameSizes W E V F xs ys
same-sizes P W E V F xs ys hw he hv hf e =
    let first = two-lines (codes "leancop structure 1") (codes "logic " ++ setting_text P.setting) (codes "leancop structure 1") (codes "logic " ++ setting_text P.setting) _ _ e in
    let second = two-lines (codes "worlds " ++ decimal W) (codes "elements " ++ decimal E) (codes "worlds " ++ decimal V) (codes "elements " ++ decimal F) xs ys first.2 in
    record {
      worlds = decimal_injective W V (size-small W hw) (size-small V hv) (cancel (codes "worlds ") (decimal W) (decimal V) second.0);
      elements = decimal_injective E F (size-small E he) (size-small F hf) (cancel (codes "elements ") (decimal E) (decimal F) second.1);
      rest = second.2;
    }

-- the lines of a structure that begins with a head of these sizes, behind the head
pub record IsBehind (P : Problem) (W E : ℕ) (behind : List (List ℕ)) : Type 0 where
  pub entries : List (List ℕ)
  pub are : IsTrue (are_entries (slots P.symbols W E) entries)
  pub lines : entry_lines (slots P.symbols W E) entries ++ codes "end" ∷ [] ≡ behind

pub behind-head : (P : Problem) (W E : ℕ) → IsTrue (is_size W) → IsTrue (is_size E) → (S : Structure) → IsTrue (can_be_stated P S) → (behind : List (List ℕ)) → structure_lines P S ≡ head_of P W E ++ behind → IsBehind P W E behind
behind-head P W E hw he S h behind e =
    let o = stated-entries P S h in
    let p = stated-parts P S h in
    let s = same-sizes P (length S.successors) S.elements W E (entry_lines (slots P.symbols (length S.successors) S.elements) o.entries ++ codes "end" ∷ []) behind p.size p.elements hw he (sym o.lines ∙ e) in
    record {
      entries = o.entries;
      are = subst (λ V. IsTrue (are_entries (slots P.symbols V E) o.entries)) s.worlds (subst (λ F. IsTrue (are_entries (slots P.symbols (length S.successors) F) o.entries)) s.elements o.are);
      lines = (λ i. entry_lines (slots P.symbols (sym s.worlds i) (sym s.elements i)) o.entries ++ codes "end" ∷ []) ∙ s.rest;
    }

-- ---- the line of a slot

cons-parts : (x y : List ℕ) (xs ys : List (List ℕ)) → x ∷ xs ≡ y ∷ ys → (x ≡ y) × (xs ≡ ys)
cons-parts x y xs ys e = (cc, cc)

-- the line behind the entries of the first slots is one of the next slot
pub record IsEntryLine (s : Place) (l : List ℕ) : Type 0 where
  pub entry : List ℕ
  pub is : IsTrue (is_entry s.form entry)
  pub line : l ≡ s.front ++ entry_text s.form entry

pub line-of_slot : (ss : List Place) (s : Place) (ts : List Place) (es fs : List (List ℕ)) (l : List ℕ) (rest more : List (List ℕ)) → length es ≡ length ss → IsTrue (are_entries (ss ++ s ∷ ts) fs) → entry_lines (ss ++ s ∷ ts) fs ++ more ≡ entry_lines ss es ++ l ∷ rest → IsEntryLine s l
line-of_slot [] s ts [] [] l rest more n h e = absurd (false≢true h)
line-of_slot [] s ts [] (f ∷ fs) l rest more n h e =
    record { entry = f; is = (and_parts (is_entry s.form f) (are_entries ts fs) h).0; line = sym (cons-parts (s.front ++ entry_text s.form f) l (entry_lines ts fs ++ more) rest e).0 }
line-of_slot [] s ts (x ∷ es) fs l rest more n h e = absurd (omega arith)
line-of_slot (r ∷ ss) s ts [] fs l rest more n h e = absurd (omega arith)
line-of_slot (r ∷ ss) s ts (x ∷ es) [] l rest more n h e = absurd (false≢true h)
line-of_slot (r ∷ ss) s ts (x ∷ es) (f ∷ fs) l rest more n h e =
    line-of_slot ss s ts es fs l rest more (omega arith) (and_parts (is_entry r.form f) (are_entries (ss ++ s ∷ ts) fs) h).1
    (cons-parts (r.front ++ entry_text r.form f) (r.front ++ entry_text r.form x) (entry_lines (ss ++ s ∷ ts) fs ++ more) (entry_lines ss es ++ l ∷ rest) e).1

-- behind the entries of all slots stands the end
pub line-of_end : (ss : List Place) (es fs ends rest : List (List ℕ)) → IsTrue (are_entries ss es) → IsTrue (are_entries ss fs) → entry_lines ss fs ++ ends ≡ entry_lines ss es ++ rest → ends ≡ rest
line-of_end [] [] [] ends rest h k e = e
line-of_end [] [] (f ∷ fs) ends rest h k e = absurd (false≢true k)
line-of_end [] (x ∷ es) fs ends rest h k e = absurd (false≢true h)
line-of_end (s ∷ ss) [] fs ends rest h k e = absurd (false≢true h)
line-of_end (s ∷ ss) (x ∷ es) [] ends rest h k e = absurd (false≢true k)
line-of_end (s ∷ ss) (x ∷ es) (f ∷ fs) ends rest h k e =
    line-of_end ss es fs ends rest (and_parts (is_entry s.form x) (are_entries ss es) h).1 (and_parts (is_entry s.form f) (are_entries ss fs) k).1
    (cons-parts (s.front ++ entry_text s.form f) (s.front ++ entry_text s.form x) (entry_lines ss fs ++ ends) (entry_lines ss es ++ rest) e).1

-- ---- the slots that are left can be filled

copies : ℕ → ℕ → List ℕ
copies b zero = []
copies b (suc n) = b ∷ copies b n

copies-pass : (test : ℕ → Bool) (b n : ℕ) → IsTrue (test b) → IsTrue (list_all test (copies b n))
unfolding copies
copies-pass test b zero h = refl
copies-pass test b (suc n) h = and_from (test b) (list_all test (copies b n)) h (copies-pass test b n h)

copies-count : (b n : ℕ) → length (copies b n) ≡ n
unfolding copies
copies-count b zero = refl
copies-count b (suc n) = ap suc (copies-count b n)

abbrev fill : Form → List ℕ
fill (Rising most) = []
fill (Values count most) = copies 0 count
fill (Digits count) = copies 48 count

abbrev pub can_fill : Form → Bool
can_fill (Rising most) = true
can_fill (Values count most) = nat_lt 0 most
can_fill (Digits count) = true

fill-fits : (f : Form) → IsTrue (can_fill f) → IsTrue (is_entry f (fill f))
fill-fits (Rising most) h = refl
fill-fits (Values count most) h = and_from (list_all (λ x. nat_lt x most) (copies 0 count)) (length (copies 0 count) == count) (copies-pass (λ x. nat_lt x most) 0 count h) (eq-eqb _ _ (copies-count 0 count))
fill-fits (Digits count) h = and_from (list_all is_bit_digit (copies 48 count)) (length (copies 48 count) == count) (copies-pass is_bit_digit 48 count refl) (eq-eqb _ _ (copies-count 48 count))

abbrev pub all_fill : List Place → Bool
all_fill ss = list_all (λ (s : Place). can_fill s.form) ss

abbrev filled : List Place → List (List ℕ)
filled [] = []
filled (s ∷ ss) = fill s.form ∷ filled ss

filled-fit : (ss : List Place) → IsTrue (all_fill ss) → IsTrue (are_entries ss (filled ss))
filled-fit [] h = refl
filled-fit (s ∷ ss) h =
    let p = and_parts (can_fill s.form) (all_fill ss) h in
    and_from (is_entry s.form (fill s.form)) (are_entries ss (filled ss)) (fill-fits s.form p.0) (filled-fit ss p.1)

-- what is read of a head and of the first slots is the beginning of a structure
pub begun-by : (P : Problem) (W E : ℕ) (ss ts : List Place) (es : List (List ℕ)) → IsTrue (is_size W) → IsTrue (is_size E) → IsTrue (list_all (fits_table E) P.symbols) → slots P.symbols W E ≡ ss ++ ts → IsTrue (are_entries ss es) → IsTrue (all_fill ts) → IsBegun (structure_texts P) (head_of P W E ++ entry_lines ss es)
begun-by P W E ss ts es hw he fits parted h k =
    let n = entry-count ss es h in
    let all = es ++ filled ts in
    let are : IsTrue (are_entries (slots P.symbols W E) all) = ap (λ zs. are_entries zs all) parted ∙ entries-joined ss ts es (filled ts) n ∙ and_from (are_entries ss es) (are_entries ts (filled ts)) h (filled-fit ts k) in
    let s = entries-stated P W E all hw he fits are in
    record {
      whose = _;
      printable = s.stated;
      rest = entry_lines ts (filled ts) ++ codes "end" ∷ [];
      all =
          s.lines
          ∙ ap (λ ls. head_of P W E ++ (ls ++ codes "end" ∷ [])) (ap (λ zs. entry_lines zs all) parted ∙ lines-joined ss ts es (filled ts) n)
          ∙ ap (λ ls. head_of P W E ++ ls) (append_assoc (entry_lines ss es) (entry_lines ts (filled ts)) (codes "end" ∷ []))
          ∙ sym (append_assoc (head_of P W E) (entry_lines ss es) (entry_lines ts (filled ts) ++ codes "end" ∷ []));
    }

-- ---- no line of an entry is the end

abbrev pub is_apart : List ℕ → Bool
is_apart [] = false
is_apart (b ∷ bs) = not (b == 101)

not-end : (front text : List ℕ) → IsTrue (is_apart front) → is_end_line (front ++ text) ≡ false
not-end [] text h = absurd (false≢true h)
not-end (b ∷ front) text h = by (b == 101) h
  where
    by : (t : Bool) → IsTrue (not t) → (t && list_eq ◌==◌ (front ++ text) (codes "nd")) ≡ false
    by true h = absurd (false≢true h)
    by false h = refl

abbrev pub all_apart : List Place → Bool
all_apart ss = list_all (λ (s : Place). is_apart s.front) ss

pub no-end : (ss : List Place) (es : List (List ℕ)) → IsTrue (all_apart ss) → list_any is_end_line (entry_lines ss es) ≡ false
no-end [] es h = refl
no-end (s ∷ ss) [] h = refl
no-end (s ∷ ss) (e ∷ es) h =
    let p = and_parts (is_apart s.front) (all_apart ss) h in
    ap (λ b. b || list_any is_end_line (entry_lines ss es)) (not-end s.front (entry_text s.form e) p.0) ∙ no-end ss es p.1

pub lines-count : (zs : List Place) (xs : List (List ℕ)) → IsTrue (are_entries zs xs) → length (entry_lines zs xs) ≡ length zs
lines-count [] [] h = refl
lines-count [] (x ∷ xs) h = absurd (false≢true h)
lines-count (z ∷ zs) [] h = absurd (false≢true h)
lines-count (z ∷ zs) (x ∷ xs) h = ap suc (lines-count zs xs (and_parts (is_entry z.form x) (are_entries zs xs) h).1)

-- ---- the faults

-- what a list of lines has in front, and the line behind it, as one list
regroup : (h a r : List (List ℕ)) → (h ++ a) ++ r ≡ h ++ (a ++ r)
regroup h a r = append_assoc h a r

-- the line behind the entries of the first slots is none of the next slot
pub slot-fault : (P : Problem) → IsTrue (list_all symbol_fits P.symbols) → (bytes : List ℕ) (W E : ℕ) (ss ts : List Place) (s : Place) (es : List (List ℕ)) (place : ℕ)
    → IsTrue (is_size W) → IsTrue (is_size E) → IsTrue (list_all (fits_table E) P.symbols) → slots P.symbols W E ≡ ss ++ s ∷ ts → IsTrue (are_entries ss es) → IsTrue (all_fill (s ∷ ts)) → IsTrue (all_apart ss)
    → AreRead bytes (head_of P W E ++ entry_lines ss es) place
    → ((xs : List ℕ) (more : List (List ℕ)) → IsTrue (is_entry s.form xs) → ¬ (whole_lines (drop place bytes) ≡ (s.front ++ entry_text s.form xs) ∷ more))
    → IsFaultOf P bytes (length (head_of P W E ++ entry_lines ss es) + 1) cause.Line
slot-fault P names bytes W E ss ts s es place hw he fits parted h k apart r none =
    wrong-behind (structure_texts P) structure_causes bytes (head_of P W E ++ entry_lines ss es) (whole_lines (drop place bytes)) (length (head_of P W E ++ entry_lines ss es) + 1) cause.Line r.whole (faulty (structure_texts P) (no-feeds P names) bytes (head_of P W E ++ entry_lines ss es) (whole_lines (drop place bytes)) r.whole (begun-by P W E ss (s ∷ ts) es hw he fits parted h k) next done) refl (sym here)
  where
    next : (S : Structure) → IsTrue (can_be_stated P S) → (l : List ℕ) (rest more : List (List ℕ)) → structure_lines P S ≡ (head_of P W E ++ entry_lines ss es) ++ l ∷ rest → whole_lines (drop place bytes) ≡ l ∷ more → ⊥
    next S stated l rest more e first =
        let b = behind-head P W E hw he S stated (entry_lines ss es ++ l ∷ rest) (e ∙ regroup (head_of P W E) (entry_lines ss es) (l ∷ rest)) in
        let line = line-of_slot ss s ts es b.entries l rest (codes "end" ∷ []) (entry-count ss es h) (ap (λ zs. are_entries zs b.entries) (sym parted) ∙ b.are) (ap (λ zs. entry_lines zs b.entries ++ codes "end" ∷ []) (sym parted) ∙ b.lines) in
        none line.entry more line.is (first ∙ ap (λ (j : List ℕ). j ∷ more) line.line)

    done : (S : Structure) → IsStructureText P S bytes → structure_lines P S ≡ head_of P W E ++ entry_lines ss es → ⊥
    done S t e =
        let b = behind-head P W E hw he S t.printable (entry_lines ss es) e in
        let n = entry-count (slots P.symbols W E) b.entries b.are in
        let m = entry-count ss es h in
        let total = ap length b.lines in
        let all = ap length parted in
        absurd (omega (arith, total, all, n, m, length-append (entry_lines (slots P.symbols W E) b.entries) (codes "end" ∷ []), length-append ss (s ∷ ts), lines-count (slots P.symbols W E) b.entries b.are, lines-count ss es h))

    here : cause_after structure_causes (head_of P W E ++ entry_lines ss es) (slice_get (whole_lines (drop place bytes)) 0) ≡ cause.Line
    here = ap (λ b. if b then cause.TextAfterEnd else cause.Line) (no-end ss es apart)

-- behind the entries of all slots stands another line than the end, or none
pub end-fault : (P : Problem) → IsTrue (list_all symbol_fits P.symbols) → (bytes : List ℕ) (W E : ℕ) (es : List (List ℕ)) (place : ℕ)
    → IsTrue (is_size W) → IsTrue (is_size E) → IsTrue (list_all (fits_table E) P.symbols) → IsTrue (are_entries (slots P.symbols W E) es) → IsTrue (all_apart (slots P.symbols W E))
    → AreRead bytes (head_of P W E ++ entry_lines (slots P.symbols W E) es) place
    → ((more : List (List ℕ)) → ¬ (whole_lines (drop place bytes) ≡ codes "end" ∷ more))
    → IsFaultOf P bytes (length (head_of P W E ++ entry_lines (slots P.symbols W E) es) + 1) cause.Line
end-fault P names bytes W E es place hw he fits h apart r none =
    wrong-behind (structure_texts P) structure_causes bytes (head_of P W E ++ entry_lines (slots P.symbols W E) es) (whole_lines (drop place bytes)) (length (head_of P W E ++ entry_lines (slots P.symbols W E) es) + 1) cause.Line r.whole (faulty (structure_texts P) (no-feeds P names) bytes (head_of P W E ++ entry_lines (slots P.symbols W E) es) (whole_lines (drop place bytes)) r.whole begun next done) refl (sym here)
  where
    begun : IsBegun (structure_texts P) (head_of P W E ++ entry_lines (slots P.symbols W E) es)
    begun = begun-by P W E (slots P.symbols W E) [] es hw he fits (sym (append-nil (slots P.symbols W E))) h refl

    next : (S : Structure) → IsTrue (can_be_stated P S) → (l : List ℕ) (rest more : List (List ℕ)) → structure_lines P S ≡ (head_of P W E ++ entry_lines (slots P.symbols W E) es) ++ l ∷ rest → whole_lines (drop place bytes) ≡ l ∷ more → ⊥
    next S stated l rest more e first =
        let b = behind-head P W E hw he S stated (entry_lines (slots P.symbols W E) es ++ l ∷ rest) (e ∙ regroup (head_of P W E) (entry_lines (slots P.symbols W E) es) (l ∷ rest)) in
        let line = cons-parts (codes "end") l [] rest (line-of_end (slots P.symbols W E) es b.entries (codes "end" ∷ []) (l ∷ rest) h b.are b.lines) in
        none more (first ∙ ap (λ (j : List ℕ). j ∷ more) (sym line.0))

    done : (S : Structure) → IsStructureText P S bytes → structure_lines P S ≡ head_of P W E ++ entry_lines (slots P.symbols W E) es → ⊥
    done S t e =
        let b = behind-head P W E hw he S t.printable (entry_lines (slots P.symbols W E) es) e in
        let total = ap length b.lines in
        absurd (omega (arith, total, length-append (entry_lines (slots P.symbols W E) b.entries) (codes "end" ∷ []), lines-count (slots P.symbols W E) b.entries b.are, lines-count (slots P.symbols W E) es h))

    here : cause_after structure_causes (head_of P W E ++ entry_lines (slots P.symbols W E) es) (slice_get (whole_lines (drop place bytes)) 0) ≡ cause.Line
    here = ap (λ b. if b then cause.TextAfterEnd else cause.Line) (no-end (slots P.symbols W E) es apart)

any-last : (ls : List (List ℕ)) → list_any is_end_line (ls ++ codes "end" ∷ []) ≡ true
any-last [] = refl
any-last (l ∷ ls) = ap (λ b. is_end_line l || b) (any-last ls) ∙ or-true (is_end_line l)
  where
    or-true : (b : Bool) → (b || true) ≡ true
    or-true true = refl
    or-true false = refl

not-longer : (xs ys : List (List ℕ)) (l : List ℕ) (rest : List (List ℕ)) → length xs ≡ length ys → xs ≡ ys ++ l ∷ rest → ⊥
not-longer xs ys l rest n e = let total = ap length e in absurd (omega (arith, total, n, length-append ys (l ∷ rest)))

nothing-left : (a b : List ℕ) → a ≡ a ++ b → length b ≡ 0
nothing-left a b e = let total = ap length e in omega (arith, total, length-append a b)

-- a byte follows the line of the end
pub after-fault : (P : Problem) → IsTrue (list_all symbol_fits P.symbols) → (bytes : List ℕ) (W E : ℕ) (es : List (List ℕ)) (place : ℕ)
    → IsTrue (is_size W) → IsTrue (is_size E) → IsTrue (list_all (fits_table E) P.symbols) → IsTrue (are_entries (slots P.symbols W E) es)
    → AreRead bytes (lines_of P W E es) place → 0 < length (drop place bytes)
    → IsFaultOf P bytes (length (lines_of P W E es) + 1) cause.TextAfterEnd
after-fault P names bytes W E es place hw he fits h r more_there =
    wrong-behind (structure_texts P) structure_causes bytes (lines_of P W E es) (whole_lines (drop place bytes)) (length (lines_of P W E es) + 1) cause.TextAfterEnd r.whole (faulty (structure_texts P) (no-feeds P names) bytes (lines_of P W E es) (whole_lines (drop place bytes)) r.whole begun next done) refl (sym here)
  where
    begun : IsBegun (structure_texts P) (lines_of P W E es)
    begun = let s = entries-stated P W E es hw he fits h in record { whose = _; printable = s.stated; rest = []; all = s.lines ∙ sym (append-nil (lines_of P W E es)) }

    next : (S : Structure) → IsTrue (can_be_stated P S) → (l : List ℕ) (rest more : List (List ℕ)) → structure_lines P S ≡ lines_of P W E es ++ l ∷ rest → whole_lines (drop place bytes) ≡ l ∷ more → ⊥
    next S stated l rest more e first =
        let b = behind-head P W E hw he S stated ((entry_lines (slots P.symbols W E) es ++ codes "end" ∷ []) ++ l ∷ rest) (e ∙ regroup (head_of P W E) (entry_lines (slots P.symbols W E) es ++ codes "end" ∷ []) (l ∷ rest)) in
        not-longer (entry_lines (slots P.symbols W E) b.entries ++ codes "end" ∷ []) (entry_lines (slots P.symbols W E) es ++ codes "end" ∷ []) l rest
        (omega (arith, length-append (entry_lines (slots P.symbols W E) b.entries) (codes "end" ∷ []), length-append (entry_lines (slots P.symbols W E) es) (codes "end" ∷ []), lines-count (slots P.symbols W E) b.entries b.are, lines-count (slots P.symbols W E) es h))
        b.lines

    done : (S : Structure) → IsStructureText P S bytes → structure_lines P S ≡ lines_of P W E es → ⊥
    done S t e =
        let all : flat_map line_bytes (lines_of P W E es) ≡ flat_map line_bytes (lines_of P W E es) ++ drop place bytes = ap (flat_map line_bytes) (sym e) ∙ sym t.text ∙ r.text in
        let none = nothing-left (flat_map line_bytes (lines_of P W E es)) (drop place bytes) all in
        absurd (omega (arith, none, more_there))

    here : cause_after structure_causes (lines_of P W E es) (slice_get (whole_lines (drop place bytes)) 0) ≡ cause.TextAfterEnd
    here = ap (λ b. if b then cause.TextAfterEnd else cause.Line) (any-last (entry_lines (slots P.symbols W E) es))
