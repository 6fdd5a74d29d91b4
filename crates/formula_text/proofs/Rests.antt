-- A label's characters with commas between them, as a loop over them writes them.
use Rattle.std.proofs.Common.{◌≡◌, ℕ, List, [], ◌∷◌, ◌++◌, map, true, false, refl, ap, sym, append-nil, append_assoc}
use Rattle.std.specs.List.{join_with_byte}
use Rattle.calculus.specs.Derivations.{Label}
use Rattle.calculus.specs.Text.{label_text, mark_text}
use Rattle.formula_text.specs.Rests.{more_marks_text, marks_text}

pub join-marks : (w : Label) → join_with_byte 44 (map mark_text w) ≡ marks_text w true
join-marks [] = refl
join-marks (m ∷ []) = sym (append-nil (mark_text m))
join-marks (m ∷ n ∷ w) = ap (λ l. mark_text m ++ 44 ∷ l) (join-marks (n ∷ w))

pub more_marks-false : (w : Label) → marks_text w false ≡ more_marks_text w
more_marks-false [] = refl
more_marks-false (m ∷ w) = refl

pub label-by_steps : (a b c d : List ℕ) (w : Label) → b ≡ a ++ 91 ∷ [] → c ≡ b ++ marks_text w true → d ≡ c ++ 93 ∷ [] → d ≡ a ++ label_text w
label-by_steps a b c d w p q r = rw (r, q, p, ← join-marks w) (simp append_assoc)

pub ruleset joining = (join-marks, more_marks-false)
