-- Texts at a place.
use Rattle.std.proofs.Common.{◌≡◌, ℕ, ◌+◌, ◌≤◌, List, ◌++◌, length, drop, refl, sym, ◌∙◌, ap, arith}
use Rattle.std.proofs.lemmas.List.{drop-drop, length-append, length-drop}
use Rattle.std.proofs.lemmas.List.Prefix.{front_rest}
use Rattle.calculus.specs.Text.{StandsAt}

pub stands-by : (bytes t : List ℕ) (from to : ℕ) → from ≤ length bytes → to ≤ length bytes → drop from bytes ≡ t ++ drop to bytes → StandsAt bytes from to t
stands-by bytes t from to h k e = record {
  there = e;
  place = let f = ap length e in omega (arith, f, length-append t (drop to bytes), length-drop from bytes, length-drop to bytes);
}

pub onward-drop : (bytes : List ℕ) (from k : ℕ) → drop (from + k) bytes ≡ drop k (drop from bytes)
onward-drop bytes from k = sym (drop-drop k from bytes)

-- after a text that stands at a place
pub after-text : (bytes t r : List ℕ) (from : ℕ) → drop from bytes ≡ t ++ r → drop (from + length t) bytes ≡ r
after-text bytes t r from e = onward-drop bytes from (length t) ∙ front_rest (drop from bytes) t r e

pub stands-front : (bytes t r : List ℕ) (from : ℕ) → drop from bytes ≡ t ++ r → StandsAt bytes from (from + length t) t
stands-front bytes t r from e = record { there = e ∙ ap (λ l. t ++ l) (sym (after-text bytes t r from e)); place = refl }
