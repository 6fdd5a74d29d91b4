-- What a step's arguments and a name's line spell, and that nothing else does.
use Rattle.std.proofs.Common.{◌≡◌, ℕ, List, [], ◌∷◌, ◌++◌, ◌&&◌, refl, sym, ◌∙◌, decimal, nat_le, leb-true, arith, codes}
use Rattle.std.proofs.lemmas.Bool.{and_parts}
use Rattle.plain_laws.proofs.Places.{differ-at}
use Rattle.calculus.specs.Syntax.{Symbol}
use Rattle.calculus.specs.Derivations.{Label, Home, ModalArg, no_modal, to, by_new, TermArg, no_term, by_term, by_name}
use Rattle.calculus.specs.DerivationText.{is_name_number, label_is_written, home_is_written, home_text, modal_is_written, modal_text, term_arg_is_written, term_arg_text}
use Rattle.calculus.specs.Text.{Ends, is_number, label_text}
use Rattle.calculus.proofs.TextLaws.{cons-tail}
use Rattle.calculus.proofs.TermTextLaws.{ends-digit}
use Rattle.derivation_text.specs.Spelling.{AreArgs, IsEigen, IsHome, IsLabelAndArg, IsNameNumberAndArg, IsNumberPair, IsSpare, IsTermArg, IsUse}
use Rattle.text_lines.proofs.PartLaws.{label-unique, number-unique}
use Rattle.text_lines.specs.Spelling.{IsLabel, IsLabelBefore, IsNumber, IsNumberBefore}

pub cut : (xs r s : List ℕ) → xs ++ r ≡ xs ++ s → r ≡ s
cut [] r s e = e
cut (x ∷ xs) r s e = cut xs r s (cons-tail e)

-- ---- the argument for a variable

pub arg-ends : (S : List Symbol) (t : TermArg) → Ends (term_arg_text S t)
arg-ends S no_term = tt
arg-ends S (by_term t) = refl
arg-ends S (by_name n) = refl

-- ---- both arguments

pub label-of_both : (S : List Symbol) (bytes : List ℕ) (w : Label) (t : TermArg) → IsLabelAndArg S bytes w t → IsLabelBefore bytes w (term_arg_text S t)
label-of_both S bytes w t h = record { written = (and_parts (label_is_written w) (term_arg_is_written S t) h.written).0; all = h.same; ends = arg-ends S t }

pub no-label_and-arg : (S : List Symbol) (bytes rest : List ℕ) (v : Label) → IsLabelBefore bytes v rest → ((t : TermArg) → ¬ IsTermArg S rest t) → (w : Label) (t : TermArg) → ¬ IsLabelAndArg S bytes w t
no-label_and-arg S bytes rest v h none w t k = none t (record {
  written = (and_parts (label_is_written w) (term_arg_is_written S t) k.written).1;
  same = (label-unique bytes v w rest (term_arg_text S t) h (label-of_both S bytes w t k)).1;
})

pub name-of_both : (S : List Symbol) (bytes : List ℕ) (n : ℕ) (t : TermArg) → IsNameNumberAndArg S bytes n t → IsNumberBefore bytes n (term_arg_text S t)
name-of_both S bytes n t h = record {
  small = (and_parts (nat_le 1 n) (is_number n) (and_parts (is_name_number n) (term_arg_is_written S t) h.written).0).1;
  all = h.same;
  stops = ends-digit (term_arg_text S t) (arg-ends S t);
}

pub no-zero_and-arg : (S : List Symbol) (bytes rest : List ℕ) (m : ℕ) → IsNumberBefore bytes m rest → m ≡ 0 → (n : ℕ) (t : TermArg) → ¬ IsNameNumberAndArg S bytes n t
no-zero_and-arg S bytes rest m h z n t k =
    let e = (number-unique bytes m n rest (term_arg_text S t) h (name-of_both S bytes n t k)).0 in
    let g = leb-true 1 n (and_parts (nat_le 1 n) (is_number n) (and_parts (is_name_number n) (term_arg_is_written S t) k.written).0).0 in
    omega arith

pub no-name_and-arg : (S : List Symbol) (bytes rest : List ℕ) (m : ℕ) → IsNumberBefore bytes m rest → ((t : TermArg) → ¬ IsTermArg S rest t) → (n : ℕ) (t : TermArg) → ¬ IsNameNumberAndArg S bytes n t
no-name_and-arg S bytes rest m h none n t k = none t (record {
  written = (and_parts (is_name_number n) (term_arg_is_written S t) k.written).1;
  same = (number-unique bytes m n rest (term_arg_text S t) h (name-of_both S bytes n t k)).1;
})

-- no argument for a variable begins like a modal one
arg-no_to : (S : List Symbol) (t : TermArg) (r : List ℕ) → term_arg_text S t ≡ codes " to " ++ r → ⊥
arg-no_to S no_term r e = differ-at _ _ 0 e refl
arg-no_to S (by_term t) r e = differ-at _ _ 2 e refl
arg-no_to S (by_name n) r e = differ-at _ _ 1 e refl

pub no-args_to : (S : List Symbol) (bytes rest : List ℕ) → bytes ≡ codes " to " ++ rest → ((w : Label) (t : TermArg) → ¬ IsLabelAndArg S rest w t) → (m : ModalArg) (t : TermArg) → ¬ AreArgs S bytes m t
no-args_to S bytes rest e none no_modal t h = arg-no_to S t rest (sym h.same ∙ e)
no-args_to S bytes rest e none (to w) t h = none w t (record { written = h.written; same = cut (codes " to ") _ _ (sym e ∙ h.same) })
no-args_to S bytes rest e none (by_new n) t h = differ-at _ _ 1 (sym e ∙ h.same) refl

-- ---- steps

args-end : (S : List Symbol) (m : ModalArg) (t : TermArg) → Ends (modal_text m ++ term_arg_text S t)
args-end S no_modal t = arg-ends S t
args-end S (to w) t = refl
args-end S (by_new n) t = refl

pub number-of_use : (S : List Symbol) (bytes : List ℕ) (n : ℕ) (m : ModalArg) (t : TermArg) → IsUse S bytes n m t → IsNumberBefore bytes n (modal_text m ++ term_arg_text S t)
number-of_use S bytes n m t h = record {
  small = (and_parts (is_number n) (modal_is_written m && term_arg_is_written S t) h.written).0;
  all = h.same;
  stops = ends-digit (modal_text m ++ term_arg_text S t) (args-end S m t);
}

pub no-use : (S : List Symbol) (bytes rest : List ℕ) (j : ℕ) → IsNumberBefore bytes j rest → ((m : ModalArg) (t : TermArg) → ¬ AreArgs S rest m t) → (n : ℕ) (m : ModalArg) (t : TermArg) → ¬ IsUse S bytes n m t
no-use S bytes rest j h none n m t k = none m t (record {
  written = (and_parts (is_number n) (modal_is_written m && term_arg_is_written S t) k.written).1;
  same = (number-unique bytes j n rest (modal_text m ++ term_arg_text S t) h (number-of_use S bytes n m t k)).1;
})

pub number-of_pair : (bytes : List ℕ) (n k : ℕ) → IsNumberPair bytes n k → IsNumberBefore bytes n (32 ∷ decimal k)
number-of_pair bytes n k h = record { small = (and_parts (is_number n) (is_number k) h.written).0; all = h.same; stops = refl }

pub pair-space : (bytes rest : List ℕ) (m : ℕ) → IsNumberBefore bytes m rest → (n k : ℕ) → IsNumberPair bytes n k → rest ≡ codes " " ++ decimal k
pair-space bytes rest m h n k j = (number-unique bytes m n rest (32 ∷ decimal k) h (number-of_pair bytes n k j)).1

pub no-pair : (bytes rest more : List ℕ) (m : ℕ) → IsNumberBefore bytes m rest → rest ≡ codes " " ++ more → ((k : ℕ) → ¬ IsNumber more k) → (n k : ℕ) → ¬ IsNumberPair bytes n k
no-pair bytes rest more m h e none n k j = none k (record {
  written = (and_parts (is_number n) (is_number k) j.written).1;
  same = cons-tail (sym e ∙ pair-space bytes rest m h n k j);
})

-- ---- names

pub number-of_eigen : (bytes : List ℕ) (n : ℕ) (w : Label) → IsEigen bytes n w → IsNumberBefore bytes n (32 ∷ label_text w)
number-of_eigen bytes n w h = record { small = (and_parts (is_number n) (label_is_written w) h.written).0; all = h.same; stops = refl }

pub eigen-space : (bytes rest : List ℕ) (m : ℕ) → IsNumberBefore bytes m rest → (n : ℕ) (w : Label) → IsEigen bytes n w → rest ≡ codes " " ++ label_text w
eigen-space bytes rest m h n w j = (number-unique bytes m n rest (32 ∷ label_text w) h (number-of_eigen bytes n w j)).1

pub no-eigen : (bytes rest more : List ℕ) (m : ℕ) → IsNumberBefore bytes m rest → rest ≡ codes " " ++ more → ((w : Label) → ¬ IsLabel more w) → (n : ℕ) (w : Label) → ¬ IsEigen bytes n w
no-eigen bytes rest more m h e none n w j = none w (record {
  written = (and_parts (is_number n) (label_is_written w) j.written).1;
  same = cons-tail (sym e ∙ eigen-space bytes rest m h n w j);
})

pub number-of_spare : (bytes : List ℕ) (n : ℕ) (h : Home) → IsSpare bytes n h → IsNumberBefore bytes n (32 ∷ home_text h)
number-of_spare bytes n h b = record { small = (and_parts (is_number n) (home_is_written h) b.written).0; all = b.same; stops = refl }

pub spare-space : (bytes rest : List ℕ) (m : ℕ) → IsNumberBefore bytes m rest → (n : ℕ) (h : Home) → IsSpare bytes n h → rest ≡ codes " " ++ home_text h
spare-space bytes rest m b n h j = (number-unique bytes m n rest (32 ∷ home_text h) b (number-of_spare bytes n h j)).1

pub no-spare : (bytes rest more : List ℕ) (m : ℕ) → IsNumberBefore bytes m rest → rest ≡ codes " " ++ more → ((h : Home) → ¬ IsHome more h) → (n : ℕ) (h : Home) → ¬ IsSpare bytes n h
no-spare bytes rest more m b e none n h j = none h (record {
  written = (and_parts (is_number n) (home_is_written h) j.written).1;
  same = cons-tail (sym e ∙ spare-space bytes rest m b n h j);
})
