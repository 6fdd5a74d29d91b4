-- Different values have different texts.
use Rattle.std.proofs.Common.{◌≡◌, ℕ, List, [], IsTrue, sym, ◌∙◌, append-nil}
use Rattle.calculus.specs.Derivations.{Label}
use Rattle.calculus.specs.DerivationText.{label_is_written, term_is_written}
use Rattle.calculus.specs.Problems.{are_distinct}
use Rattle.calculus.specs.Syntax.{Symbol, Term}
use Rattle.calculus.specs.Text.{label_text, name_text, term_text}
use Rattle.calculus.proofs.TermTextLaws.{label-split, term-split}
use Rattle.calculus.proofs.TextLaws.{name-split}

pub names-apart : (a b : List ℕ) → name_text a ≡ name_text b → a ≡ b
names-apart a b e = (name-split a b [] [] tt tt (append-nil (name_text a) ∙ e ∙ sym (append-nil (name_text b)))).0

pub labels-apart : (w v : Label) → IsTrue (label_is_written w) → IsTrue (label_is_written v) → label_text w ≡ label_text v → w ≡ v
labels-apart w v h k e = (label-split w v [] [] h k (append-nil (label_text w) ∙ e ∙ sym (append-nil (label_text v)))).0

pub terms-apart : (S : List Symbol) → IsTrue (are_distinct S) → (t u : Term) → IsTrue (term_is_written S t) → IsTrue (term_is_written S u) → term_text S 0 t ≡ term_text S 0 u → t ≡ u
terms-apart S d t u h k e = (term-split S d t u [] [] h k tt tt (append-nil (term_text S 0 t) ∙ e ∙ sym (append-nil (term_text S 0 u)))).0
