-- What the lines of version 2 spell, part by part, and that nothing else does.
use Rattle.std.proofs.Common.{◌≡◌, ℕ, List, ◌∷◌, ◌++◌, ◌&&◌, IsTrue, Option, None, Some, refl, sym, ◌∙◌, decimal, nat_le, leb-true, arith, codes}
use Rattle.std.proofs.lemmas.Bool.{and_parts}
use Rattle.calculus.specs.Syntax.{Symbol, Term}
use Rattle.calculus.specs.DerivationText.{is_name_number, term_is_written}
use Rattle.calculus.specs.Text.{Ends, is_number, term_text}
use Rattle.calculus.specs.Versions.{NumberedModal, no_numbered_modal, to_number, by_character, NumberedTerm, no_numbered_term, by_number, by_eigen, numbered_home_text, numbered_modal_text, numbered_term_text}
use Rattle.calculus.proofs.TextLaws.{cons-tail}
use Rattle.calculus.proofs.TermTextLaws.{ends-digit}
use Rattle.derivation_text.specs.NumberedBody.{IsNewAndArg, IsNumberAndArg, IsNumberedArgs, IsNumberedHome, IsNumberedSpare, IsNumberedTerm, IsNumberedUse, IsTermEntry, arg_is_small, home_is_small, modal_is_small}
use Rattle.derivation_text.specs.Spelling.{IsTerm}
use Rattle.text_lines.proofs.PartLaws.{number-unique}
use Rattle.text_lines.specs.Spelling.{IsNumber, IsNumberBefore}

-- ---- homes and terms behind their numbers

pub no-numbered_home : (bytes : List ℕ) → ¬ (bytes ≡ codes "any") → ((k : ℕ) → ¬ IsNumber bytes k) → (h : Option ℕ) → ¬ IsNumberedHome bytes h
no-numbered_home bytes no_any none None h = no_any h.same
no-numbered_home bytes no_any none (Some k) h = none k (record { written = h.written; same = h.same })

number-of_spare : (bytes : List ℕ) (n : ℕ) (h : Option ℕ) → IsNumberedSpare bytes n h → IsNumberBefore bytes n (32 ∷ numbered_home_text h)
number-of_spare bytes n h b = record { small = (and_parts (is_number n) (home_is_small h) b.written).0; all = b.same; stops = refl }

pub spare-space : (bytes rest : List ℕ) (m : ℕ) → IsNumberBefore bytes m rest → (n : ℕ) (h : Option ℕ) → IsNumberedSpare bytes n h → rest ≡ codes " " ++ numbered_home_text h
spare-space bytes rest m b n h j = (number-unique bytes m n rest (32 ∷ numbered_home_text h) b (number-of_spare bytes n h j)).1

pub no-spare : (bytes rest more : List ℕ) (m : ℕ) → IsNumberBefore bytes m rest → rest ≡ codes " " ++ more → ((h : Option ℕ) → ¬ IsNumberedHome more h) → (n : ℕ) (h : Option ℕ) → ¬ IsNumberedSpare bytes n h
no-spare bytes rest more m b e none n h j = none h (record {
  written = (and_parts (is_number n) (home_is_small h) j.written).1;
  same = cons-tail (sym e ∙ spare-space bytes rest m b n h j);
})

number-of_entry : (S : List Symbol) (bytes : List ℕ) (n : ℕ) (t : Term) → IsTermEntry S bytes n t → IsNumberBefore bytes n (32 ∷ term_text S 0 t)
number-of_entry S bytes n t b = record { small = (and_parts (is_number n) (term_is_written S t) b.written).0; all = b.same; stops = refl }

pub entry-space : (S : List Symbol) (bytes rest : List ℕ) (m : ℕ) → IsNumberBefore bytes m rest → (n : ℕ) (t : Term) → IsTermEntry S bytes n t → rest ≡ codes " " ++ term_text S 0 t
entry-space S bytes rest m b n t j = (number-unique bytes m n rest (32 ∷ term_text S 0 t) b (number-of_entry S bytes n t j)).1

pub no-entry : (S : List Symbol) (bytes rest more : List ℕ) (m : ℕ) → IsNumberBefore bytes m rest → rest ≡ codes " " ++ more → ((t : Term) → ¬ IsTerm S more t) → (n : ℕ) (t : Term) → ¬ IsTermEntry S bytes n t
no-entry S bytes rest more m b e none n t j = none t (record {
  written = (and_parts (is_number n) (term_is_written S t) j.written).1;
  same = cons-tail (sym e ∙ entry-space S bytes rest m b n t j);
})

-- ---- arguments

arg-ends : (t : NumberedTerm) → Ends (numbered_term_text t)
arg-ends no_numbered_term = tt
arg-ends (by_number k) = refl
arg-ends (by_eigen k) = refl

number-of_both : (bytes : List ℕ) (k : ℕ) (t : NumberedTerm) → bytes ≡ decimal k ++ numbered_term_text t → IsTrue (is_number k) → IsNumberBefore bytes k (numbered_term_text t)
number-of_both bytes k t e h = record { small = h; all = e; stops = ends-digit (numbered_term_text t) (arg-ends t) }

pub no-number_and-arg : (bytes rest : List ℕ) (m : ℕ) → IsNumberBefore bytes m rest → ((t : NumberedTerm) → ¬ IsNumberedTerm rest t) → (k : ℕ) (t : NumberedTerm) → ¬ IsNumberAndArg bytes k t
no-number_and-arg bytes rest m h none k t j =
    let p = and_parts (is_number k) (arg_is_small t) j.written in
    none t (record { written = p.1; same = (number-unique bytes m k rest (numbered_term_text t) h (number-of_both bytes k t j.same p.0)).1 })

pub none-number : (bytes : List ℕ) → ((k : ℕ) (rest : List ℕ) → ¬ IsNumberBefore bytes k rest) → (k : ℕ) (t : NumberedTerm) → ¬ IsNumberAndArg bytes k t
none-number bytes none k t j = none k (numbered_term_text t) (number-of_both bytes k t j.same (and_parts (is_number k) (arg_is_small t) j.written).0)

new-small : (n : ℕ) (t : NumberedTerm) → IsTrue (is_name_number n && arg_is_small t) → IsTrue (is_number n)
new-small n t h = (and_parts (nat_le 1 n) (is_number n) (and_parts (is_name_number n) (arg_is_small t) h).0).1

pub no-zero_and-arg : (bytes rest : List ℕ) (m : ℕ) → IsNumberBefore bytes m rest → m ≡ 0 → (n : ℕ) (t : NumberedTerm) → ¬ IsNewAndArg bytes n t
no-zero_and-arg bytes rest m h z n t k =
    let e = (number-unique bytes m n rest (numbered_term_text t) h (number-of_both bytes n t k.same (new-small n t k.written))).0 in
    let g = leb-true 1 n (and_parts (nat_le 1 n) (is_number n) (and_parts (is_name_number n) (arg_is_small t) k.written).0).0 in
    omega arith

pub no-new_and-arg : (bytes rest : List ℕ) (m : ℕ) → IsNumberBefore bytes m rest → ((t : NumberedTerm) → ¬ IsNumberedTerm rest t) → (n : ℕ) (t : NumberedTerm) → ¬ IsNewAndArg bytes n t
no-new_and-arg bytes rest m h none n t k = none t (record {
  written = (and_parts (is_name_number n) (arg_is_small t) k.written).1;
  same = (number-unique bytes m n rest (numbered_term_text t) h (number-of_both bytes n t k.same (new-small n t k.written))).1;
})

pub none-new : (bytes : List ℕ) → ((k : ℕ) (rest : List ℕ) → ¬ IsNumberBefore bytes k rest) → (n : ℕ) (t : NumberedTerm) → ¬ IsNewAndArg bytes n t
none-new bytes none n t k = none n (numbered_term_text t) (number-of_both bytes n t k.same (new-small n t k.written))

-- ---- steps

args-end : (m : NumberedModal) (t : NumberedTerm) → Ends (numbered_modal_text m ++ numbered_term_text t)
args-end no_numbered_modal t = arg-ends t
args-end (to_number k) t = refl
args-end (by_character k) t = refl

number-of_use : (bytes : List ℕ) (n : ℕ) (m : NumberedModal) (t : NumberedTerm) → IsNumberedUse bytes n m t → IsNumberBefore bytes n (numbered_modal_text m ++ numbered_term_text t)
number-of_use bytes n m t h = record {
  small = (and_parts (is_number n) (modal_is_small m && arg_is_small t) h.written).0;
  all = h.same;
  stops = ends-digit (numbered_modal_text m ++ numbered_term_text t) (args-end m t);
}

pub no-use : (bytes rest : List ℕ) (j : ℕ) → IsNumberBefore bytes j rest → ((m : NumberedModal) (t : NumberedTerm) → ¬ IsNumberedArgs rest m t) → (n : ℕ) (m : NumberedModal) (t : NumberedTerm) → ¬ IsNumberedUse bytes n m t
no-use bytes rest j h none n m t k = none m t (record {
  written = (and_parts (is_number n) (modal_is_small m && arg_is_small t) k.written).1;
  same = (number-unique bytes j n rest (numbered_modal_text m ++ numbered_term_text t) h (number-of_use bytes n m t k)).1;
})

pub none-use : (bytes : List ℕ) → ((k : ℕ) (rest : List ℕ) → ¬ IsNumberBefore bytes k rest) → (n : ℕ) (m : NumberedModal) (t : NumberedTerm) → ¬ IsNumberedUse bytes n m t
none-use bytes none n m t k = none n (numbered_modal_text m ++ numbered_term_text t) (number-of_use bytes n m t k)
