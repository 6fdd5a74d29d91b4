-- Homes and terms that are a whole text, and that nothing else is.
use Rattle.std.proofs.Common.{◌≡◌, ℕ, ◌+◌, List, [], ◌++◌, length, IsTrue, ◌∙◌, ap, sym, subst, append-nil, arith, codes}
use Rattle.calculus.specs.Syntax.{Symbol, Term}
use Rattle.calculus.specs.Problems.{are_distinct}
use Rattle.calculus.specs.Derivations.{Label, Home, anywhere, home_at}
use Rattle.calculus.specs.DerivationText.{IsTermAt}
use Rattle.calculus.specs.Text.{Ends, term_text}
use Rattle.calculus.proofs.ReadingLaws.{IsTermAt-unique}
use Rattle.formula_text.proofs.Places.{after-text, stands-front}
use Rattle.derivation_text.specs.Spelling.{IsHome, IsTerm}
use Rattle.text_lines.specs.Spelling.{IsLabel}

-- ---- homes

pub no-home : (bytes : List ℕ) → ¬ (bytes ≡ codes "any") → ((w : Label) → ¬ IsLabel bytes w) → (h : Home) → ¬ IsHome bytes h
no-home bytes no_any no_label anywhere h = no_any h.same
no-home bytes no_any no_label (home_at w) h = no_label w (record { written = h.written; same = h.same })

-- ---- terms

pub term-at : (symbols : List Symbol) (bytes : List ℕ) (t : Term) → IsTerm symbols bytes t → IsTermAt symbols bytes 0 (0 + length (term_text symbols 0 t)) t
term-at symbols bytes t h =
    let e : bytes ≡ term_text symbols 0 t ++ [] = h.same ∙ sym (append-nil (term_text symbols 0 t)) in
    record {
      written = h.written;
      stands = stands-front bytes (term_text symbols 0 t) [] 0 e;
      ends = subst Ends (sym (after-text bytes (term_text symbols 0 t) [] 0 e)) tt;
    }

pub term-rest : (symbols : List Symbol) → IsTrue (are_distinct symbols) → (bytes : List ℕ) (u : Term) (to : ℕ) → IsTermAt symbols bytes 0 to u → (t : Term) → IsTerm symbols bytes t → to ≡ length bytes
term-rest symbols apart bytes u to h t k =
    let e = (IsTermAt-unique symbols apart bytes 0 to (0 + length (term_text symbols 0 t)) u t h (term-at symbols bytes t k)).1 in
    let f : length bytes ≡ length (term_text symbols 0 t) = ap length k.same in
    omega arith

pub no-whole : (symbols : List Symbol) → IsTrue (are_distinct symbols) → (bytes : List ℕ) (to : ℕ) (u : Term) → IsTermAt symbols bytes 0 to u → ¬ (to ≡ length bytes) → (t : Term) → ¬ IsTerm symbols bytes t
no-whole symbols d bytes to u h not t k = not (term-rest symbols d bytes u to h t k)

pub no-term : (symbols : List Symbol) (bytes : List ℕ) → ((to : ℕ) (t : Term) → ¬ IsTermAt symbols bytes 0 to t) → (t : Term) → ¬ IsTerm symbols bytes t
no-term symbols bytes none t h = none (0 + length (term_text symbols 0 t)) t (term-at symbols bytes t h)
