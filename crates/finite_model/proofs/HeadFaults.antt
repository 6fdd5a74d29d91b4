-- The faults of the head, and that the slots of each head can be filled and begin unlike the end.
use Rattle.std.proofs.Common.{◌≡◌, ℕ, zero, suc, ◌^◌, List, [], ◌∷◌, ◌++◌, length, drop, Bool, true, false, IsTrue, refl, sym, ◌∙◌, ap, append-nil, arith, codes, decimal, nat_le, leb-true, lt-ltb, if◌then◌else◌}
use Rattle.std.specs.List.{list_all}
use Rattle.std.proofs.lemmas.Bool.{and_parts, and_from, false≢true}
use Rattle.std.proofs.lemmas.List.Folds.{list_all-append}
use Rattle.plain_laws.proofs.Numbers.{one-power}
use Rattle.calculus.specs.declared.fault.StructureCause.TheVariants as cause
use Rattle.calculus.specs.Syntax.{Symbol, Problem}
use Rattle.calculus.specs.Problems.{symbol_fits}
use Rattle.calculus.specs.DerivationText.{setting_text}
use Rattle.calculus.specs.FirstWrong.{whole_lines}
use Rattle.calculus.specs.Skolem.{is_function}
use Rattle.calculus.specs.Structures.{Structure}
use Rattle.calculus.specs.StructureText.{can_be_stated, fits_table, is_size, symbol_head, structure_causes, structure_texts, world_lines, function_lines, predicate_lines}
use Rattle.calculus.proofs.StructureTextUnique.{stated-parts}
use Rattle.finite_model.specs.declared.slot.Form.{Form}
use Rattle.finite_model.specs.declared.slot.Form.TheVariants.{Rising, Values, Digits}
use Rattle.text_lines.specs.Lines.{AreRead}
use Rattle.finite_model.specs.Reading.{IsFaultOf}
use Rattle.finite_model.specs.Slots.{Place, function_slots, head_of, predicate_slots, slots, world_slots}
use Rattle.finite_model.proofs.SlotFaults.{all_apart, all_fill, begun-by, is_apart, can_fill}
use Rattle.text_lines.proofs.FirstWrong.{IsBegun, faulty, line-missing, wrong-behind}
use Rattle.finite_model.proofs.TextFaults.{no-feeds}

-- ---- each slot passes a test

-- a test that each kind of slot passes
record Passes (test : Place → Bool) (W E : ℕ) : Type 0 where
  worlds : (word after : List ℕ) (f : Form) (w : ℕ) → IsTrue (is_apart word) → IsTrue (can_fill f) → IsTrue (test (record { front = word ++ decimal (suc w) ++ after; form = f }))
  function : (s : Symbol) → IsTrue (test (record { front = codes "function " ++ symbol_head s; form = Values (E ^ s.arity) E }))

worlds-pass : (test : Place → Bool) (W E : ℕ) → Passes test W E → (word after : List ℕ) (f : Form) (w n : ℕ) → IsTrue (is_apart word) → IsTrue (can_fill f) → IsTrue (list_all test (world_slots word after f w n))
worlds-pass test W E p word after f w zero h k = refl
worlds-pass test W E p word after f w (suc n) h k = and_from (test (record { front = word ++ decimal (suc w) ++ after; form = f })) (list_all test (world_slots word after f (suc w) n)) (p.worlds word after f w h k) (worlds-pass test W E p word after f (suc w) n h k)

both-pass : (test : Place → Bool) (ss ts : List Place) → IsTrue (list_all test ss) → IsTrue (list_all test ts) → IsTrue (list_all test (ss ++ ts))
both-pass test ss ts h k = list_all-append test ss ts ∙ and_from (list_all test ss) (list_all test ts) h k

functions-pass : (test : Place → Bool) (W E : ℕ) → Passes test W E → (ss : List Symbol) → IsTrue (list_all test (function_slots E ss))
functions-pass test W E p [] = refl
functions-pass test W E p (s ∷ ss) = by (functions-pass test W E p ss) (is_function s.class)
  where
    by : IsTrue (list_all test (function_slots E ss)) → (b : Bool) → IsTrue (list_all test (if b then record { front = codes "function " ++ symbol_head s; form = Values (E ^ s.arity) E } ∷ function_slots E ss else function_slots E ss))
    by rest true = and_from (test (record { front = codes "function " ++ symbol_head s; form = Values (E ^ s.arity) E })) (list_all test (function_slots E ss)) (p.function s) rest
    by rest false = rest

predicates-pass : (test : Place → Bool) (W E : ℕ) → Passes test W E → (ss : List Symbol) → IsTrue (list_all test (predicate_slots W E ss))
predicates-pass test W E p [] = refl
predicates-pass test W E p (s ∷ ss) = by (predicates-pass test W E p ss) (is_function s.class)
  where
    by : IsTrue (list_all test (predicate_slots W E ss)) → (b : Bool) → IsTrue (list_all test (if b then predicate_slots W E ss else world_slots (codes "predicate " ++ symbol_head s ++ codes " ") (codes " ") (Digits (E ^ s.arity)) 0 W ++ predicate_slots W E ss))
    by rest true = rest
    by rest false = both-pass test (world_slots (codes "predicate " ++ symbol_head s ++ codes " ") (codes " ") (Digits (E ^ s.arity)) 0 W) (predicate_slots W E ss) (worlds-pass test W E p (codes "predicate " ++ symbol_head s ++ codes " ") (codes " ") (Digits (E ^ s.arity)) 0 W refl refl) rest

slots-pass : (test : Place → Bool) (W E : ℕ) → Passes test W E → (ss : List Symbol) → IsTrue (list_all test (slots ss W E))
slots-pass test W E p ss =
    both-pass test (world_slots (codes "relation ") [] (Rising W) 0 W) (world_slots (codes "domain ") [] (Rising E) 0 W ++ (function_slots E ss ++ predicate_slots W E ss)) (worlds-pass test W E p (codes "relation ") [] (Rising W) 0 W refl refl)
    (both-pass test (world_slots (codes "domain ") [] (Rising E) 0 W) (function_slots E ss ++ predicate_slots W E ss) (worlds-pass test W E p (codes "domain ") [] (Rising E) 0 W refl refl)
    (both-pass test (function_slots E ss) (predicate_slots W E ss) (functions-pass test W E p ss) (predicates-pass test W E p ss)))

apart-front : (word more : List ℕ) → IsTrue (is_apart word) → IsTrue (is_apart (word ++ more))
apart-front [] more h = absurd (false≢true h)
apart-front (b ∷ word) more h = h

pub slots-apart : (W E : ℕ) (ss : List Symbol) → IsTrue (all_apart (slots ss W E))
slots-apart W E ss = slots-pass (λ (s : Place). is_apart s.front) W E (record {
  worlds = λ word after f w h k. apart-front (word ++ decimal (suc w)) after (apart-front word (decimal (suc w)) h);
  function = λ s. refl;
}) ss

pub slots-fill : (W E : ℕ) (ss : List Symbol) → IsTrue (is_size E) → IsTrue (all_fill (slots ss W E))
slots-fill W E ss h = slots-pass (λ (s : Place). can_fill s.form) W E (record {
  worlds = λ word after f w k m. m;
  function = λ s. let one = leb-true 1 E (and_parts (nat_le 1 E) (nat_le E 64) h).0 in lt-ltb 0 E (omega arith);
}) ss

-- ---- a structure with these worlds

one-fits : (ss : List Symbol) → IsTrue (list_all (fits_table 1) ss)
one-fits [] = refl
one-fits (s ∷ ss) = and_from (fits_table 1 s) (list_all (fits_table 1) ss) (ap (λ k. nat_le k 1000000) (one-power s.arity)) (one-fits ss)

-- of each number of worlds there is a structure, with one element
pub some-begun : (P : Problem) (W : ℕ) → IsTrue (is_size W) → IsBegun (structure_texts P) (head_of P W 1)
some-begun P W hw =
    let b = begun-by P W 1 [] (slots P.symbols W 1) [] hw refl (one-fits P.symbols) refl refl (slots-fill W 1 P.symbols refl) in
    record { whose = b.whose; printable = b.printable; rest = b.rest; all = b.all ∙ ap (λ l. l ++ b.rest) (append-nil (head_of P W 1)) }

-- ---- the faults

fourth : (a b c d x y z l : List ℕ) (xs ys : List (List ℕ)) → a ∷ b ∷ c ∷ d ∷ xs ≡ x ∷ y ∷ z ∷ l ∷ ys → d ≡ l
fourth a b c d x y z l xs ys e = cc

too-few : (a b c d x y z : List ℕ) (xs : List (List ℕ)) → a ∷ b ∷ c ∷ d ∷ xs ≡ x ∷ y ∷ z ∷ [] → ⊥
too-few a b c d x y z xs e = cc

abbrev version_line : List ℕ
version_line = codes "leancop structure 1"

abbrev setting_line : Problem → List ℕ
setting_line P = codes "logic " ++ setting_text P.setting

abbrev worlds_line : Structure → List ℕ
worlds_line S = codes "worlds " ++ decimal (length S.successors)

-- the lines of a structure behind its first three
abbrev behind_three : Problem → Structure → List (List ℕ)
behind_three P S =
    (codes "elements " ++ decimal S.elements) ∷ (((world_lines (codes "relation ") 0 S.successors ++ world_lines (codes "domain ") 0 S.domains) ++ function_lines P.symbols S.meanings) ++ predicate_lines P.symbols S.meanings) ++ codes "end" ∷ []

pub version-fault : (P : Problem) → IsTrue (list_all symbol_fits P.symbols) → (bytes : List ℕ) → AreRead bytes [] 0 → ((more : List (List ℕ)) → ¬ (whole_lines (drop 0 bytes) ≡ codes "leancop structure 1" ∷ more)) → IsFaultOf P bytes 1 cause.Version
version-fault P names bytes r none =
    let b = some-begun P 1 refl in
    line-missing (structure_texts P) structure_causes (no-feeds P names) bytes [] 0 (λ S. version_line) r b.whose b.printable
    (λ S. record { rest = setting_line P ∷ worlds_line S ∷ behind_three P S; all = refl }) (λ S h more. none more) cause.Version (λ next. refl)

pub setting-fault : (P : Problem) → IsTrue (list_all symbol_fits P.symbols) → (bytes : List ℕ) (place : ℕ) → AreRead bytes (codes "leancop structure 1" ∷ []) place → ((more : List (List ℕ)) → ¬ (whole_lines (drop place bytes) ≡ (codes "logic " ++ setting_text P.setting) ∷ more)) → IsFaultOf P bytes 2 cause.Setting
setting-fault P names bytes place r none =
    let b = some-begun P 1 refl in
    line-missing (structure_texts P) structure_causes (no-feeds P names) bytes (version_line ∷ []) place (λ S. setting_line P) r b.whose b.printable
    (λ S. record { rest = worlds_line S ∷ behind_three P S; all = refl }) (λ S h more. none more) cause.Setting (λ next. refl)

pub worlds-fault : (P : Problem) → IsTrue (list_all symbol_fits P.symbols) → (bytes : List ℕ) (place : ℕ) → AreRead bytes (codes "leancop structure 1" ∷ (codes "logic " ++ setting_text P.setting) ∷ []) place → ((n : ℕ) (more : List (List ℕ)) → IsTrue (is_size n) → ¬ (whole_lines (drop place bytes) ≡ (codes "worlds " ++ decimal n) ∷ more)) → IsFaultOf P bytes 3 cause.Size
worlds-fault P names bytes place r none =
    let b = some-begun P 1 refl in
    line-missing (structure_texts P) structure_causes (no-feeds P names) bytes (version_line ∷ setting_line P ∷ []) place worlds_line r b.whose b.printable
    (λ S. record { rest = behind_three P S; all = refl }) (λ S h more. none (length S.successors) more (stated-parts P S h).size) cause.Size (λ next. refl)

-- the tables of a structure that can be stated are not too large
stated-fits : (P : Problem) (S : Structure) → IsTrue (can_be_stated P S) → IsTrue (list_all (fits_table S.elements) P.symbols)
stated-fits P S h = (and_parts _ _ (and_parts _ _ (and_parts _ _ h).0).0).1

pub elements-fault : (P : Problem) → IsTrue (list_all symbol_fits P.symbols) → (bytes : List ℕ) (W place : ℕ) → IsTrue (is_size W) → AreRead bytes (codes "leancop structure 1" ∷ (codes "logic " ++ setting_text P.setting) ∷ (codes "worlds " ++ decimal W) ∷ []) place → ((n : ℕ) (more : List (List ℕ)) → IsTrue (is_size n) → IsTrue (list_all (fits_table n) P.symbols) → ¬ (whole_lines (drop place bytes) ≡ (codes "elements " ++ decimal n) ∷ more)) → IsFaultOf P bytes 4 cause.Size
elements-fault P names bytes W place hw r none =
    wrong-behind (structure_texts P) structure_causes bytes (version_line ∷ setting_line P ∷ (codes "worlds " ++ decimal W) ∷ []) (whole_lines (drop place bytes)) 4 cause.Size r.whole (
    faulty (structure_texts P) (no-feeds P names) bytes (version_line ∷ setting_line P ∷ (codes "worlds " ++ decimal W) ∷ []) (whole_lines (drop place bytes)) r.whole (let b = some-begun P W hw in record { whose = b.whose; printable = b.printable; rest = (codes "elements " ++ decimal 1) ∷ b.rest; all = b.all })
    (λ S stated l rest more e f. none S.elements more (stated-parts P S stated).elements (stated-fits P S stated) (f ∙ ap (λ (j : List ℕ). j ∷ more) (sym (fourth version_line (setting_line P) (codes "worlds " ++ decimal (length S.successors)) (codes "elements " ++ decimal S.elements) version_line (setting_line P) (codes "worlds " ++ decimal W) l _ rest e))))
    (λ S t e. too-few version_line (setting_line P) (codes "worlds " ++ decimal (length S.successors)) (codes "elements " ++ decimal S.elements) version_line (setting_line P) (codes "worlds " ++ decimal W) _ e)) refl refl
