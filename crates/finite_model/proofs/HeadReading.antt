-- How the reading of lines goes on, and the head line by line, where the lines are known by equations.
use Rattle.std.proofs.Common.{◌≡◌, ℕ, ◌≤◌, List, [], ◌∷◌, ◌++◌, drop, Bool, IsTrue, sym, ◌∙◌, ap, codes, decimal, subst, Result, Err, nat_le, leb-true}
use Rattle.std.proofs.lemmas.Bool.{and_parts}
use Rattle.std.proofs.lemmas.Fmt.{decimal_injective}
use Rattle.plain_laws.proofs.Lists.{first-item}
use Rattle.calculus.proofs.StructureTextUnique.{size-small}
use Rattle.calculus.specs.declared.fault.StructureCause.{StructureCause}
use Rattle.calculus.specs.Syntax.{Problem}
use Rattle.calculus.specs.DerivationText.{setting_text}
use Rattle.calculus.specs.FirstWrong.{whole_lines}
use Rattle.calculus.specs.StructureText.{is_size, structure_causes, structure_texts}
use Rattle.calculus.proofs.DerivationTextLaws.{cancel}
use Rattle.finite_model.specs.declared.fault.StructureRead.{StructureRead}
use Rattle.finite_model.specs.declared.fault.StructureRead.TheVariants.{Bad}
use Rattle.text_lines.specs.Lines.{AreRead, IsLineAt}
use Rattle.finite_model.specs.Reading.{IsFaultOf}
use Rattle.text_lines.proofs.FirstWrong.{wrong-moved}
use Rattle.text_lines.proofs.WholeLines.{more-read, none-read}
use Rattle.finite_model.specs.Slots.{head_of}

-- ---- the head

abbrev version : List ℕ
version = codes "leancop structure 1"

abbrev setting_of : Problem → List ℕ
setting_of P = codes "logic " ++ setting_text P.setting

abbrev worlds_of : ℕ → List ℕ
worlds_of n = codes "worlds " ++ decimal n

abbrev elements_of : ℕ → List ℕ
elements_of n = codes "elements " ++ decimal n

pub read-one : (bytes : List ℕ) (a : ℕ) → IsLineAt bytes 0 a (codes "leancop structure 1") → AreRead bytes (codes "leancop structure 1" ∷ []) a
read-one bytes a h = more-read bytes [] 0 a version (none-read bytes) h

pub read-two : (P : Problem) (bytes : List ℕ) (a b : ℕ) (s : List ℕ) → IsLineAt bytes 0 a (codes "leancop structure 1") → IsLineAt bytes a b s → s ≡ codes "logic " ++ setting_text P.setting → AreRead bytes (codes "leancop structure 1" ∷ (codes "logic " ++ setting_text P.setting) ∷ []) b
read-two P bytes a b s h k e = more-read bytes (version ∷ []) a b (setting_of P) (read-one bytes a h) (subst (IsLineAt bytes a b) e k)

pub read-three : (P : Problem) (bytes : List ℕ) (a b c W : ℕ) (s : List ℕ) → IsLineAt bytes 0 a (codes "leancop structure 1") → IsLineAt bytes a b s → s ≡ codes "logic " ++ setting_text P.setting → IsLineAt bytes b c (codes "worlds " ++ decimal W)
    → AreRead bytes (codes "leancop structure 1" ∷ (codes "logic " ++ setting_text P.setting) ∷ (codes "worlds " ++ decimal W) ∷ []) c
read-three P bytes a b c W s h k e j = more-read bytes (version ∷ setting_of P ∷ []) b c (worlds_of W) (read-two P bytes a b s h k e) j

pub read-four : (P : Problem) (bytes : List ℕ) (a b c d W E : ℕ) (s : List ℕ) → IsLineAt bytes 0 a (codes "leancop structure 1") → IsLineAt bytes a b s → s ≡ codes "logic " ++ setting_text P.setting → IsLineAt bytes b c (codes "worlds " ++ decimal W) → IsLineAt bytes c d (codes "elements " ++ decimal E) → AreRead bytes (head_of P W E) d
read-four P bytes a b c d W E s h k e j i = more-read bytes (version ∷ setting_of P ∷ worlds_of W ∷ []) c d (elements_of E) (read-three P bytes a b c W s h k e j) i

pub no-same : (x y : List ℕ) (ls : List (List ℕ)) → x ≡ y → ((more : List (List ℕ)) → ¬ (ls ≡ x ∷ more)) → (more : List (List ℕ)) → ¬ (ls ≡ y ∷ more)
no-same x y ls e none more h = none more (h ∙ ap (λ (k : List ℕ). k ∷ more) (sym e))

-- with so many elements some table is too large, so the line is that of no structure
pub too-large : (ss : ℕ → Bool) (bytes : List ℕ) (c d E : ℕ) → IsTrue (is_size E) → IsLineAt bytes c d (codes "elements " ++ decimal E) → ¬ IsTrue (ss E) → (n : ℕ) (more : List (List ℕ)) → IsTrue (is_size n) → IsTrue (ss n) → ¬ (whole_lines (drop c bytes) ≡ (codes "elements " ++ decimal n) ∷ more)
too-large ss bytes c d E he h none n more hn fits e =
    let same = decimal_injective n E (size-small n hn) (size-small E he) (cancel (codes "elements ") (decimal n) (decimal E) (first-item (elements_of n) (elements_of E) more (whole_lines (drop d bytes)) (sym e ∙ h.whole))) in
    none (subst (λ k. IsTrue (ss k)) same fits)

-- the line does not begin with the word, or no size stands behind it
pub no-size : (bytes : List ℕ) (from to : ℕ) (line word rest : List ℕ) → IsLineAt bytes from to line → line ≡ word ++ rest → ((n : ℕ) → 1 ≤ n → n ≤ 64 → ¬ (rest ≡ decimal n)) → (n : ℕ) (more : List (List ℕ)) → IsTrue (is_size n) → ¬ (whole_lines (drop from bytes) ≡ (word ++ decimal n) ∷ more)
no-size bytes from to line word rest h e none n more size k =
    let p = and_parts (nat_le 1 n) (nat_le n 64) size in
    none n (leb-true 1 n p.0) (leb-true n 64 p.1) (cancel word rest (decimal n) (sym e ∙ first-item line (word ++ decimal n) (whole_lines (drop to bytes)) more (sym h.whole ∙ k)))

-- a fault by the answer that tells it
pub told : {A : Type 0} (P : Problem) (bytes : List ℕ) (m line : ℕ) (c why : StructureCause) → ◌≡◌ {A = Result A StructureRead} (Err (Bad m c)) (Err (Bad line why)) → IsFaultOf P bytes m c → IsFaultOf P bytes line why
told P bytes m line c why e f =
    let a : m ≡ line = cc e in
    let b : c ≡ why = cc e in
    wrong-moved (structure_texts P) structure_causes bytes m line c why a b f
