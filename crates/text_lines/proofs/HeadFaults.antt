-- Where a line of the head is the first wrong one, for any kind of text whose texts begin with a head.
use Rattle.std.proofs.Common.{◌≡◌, ℕ, ◌+◌, List, [], ◌∷◌, ◌++◌, length, IsTrue, Option, refl}
use Rattle.calculus.specs.Syntax.{Problem}
use Rattle.calculus.specs.FirstWrong.{TextKind, Causes, cause_after, IsFirstWrong}
use Rattle.calculus.specs.DerivationText.{is_limit}
use Rattle.text_lines.specs.Head.{IsHeadFault, formula_line, head_of, limit_line, lines_before, setting_line}
use Rattle.text_lines.specs.declared.head_line.HeadLine.{HeadLine}
use Rattle.text_lines.specs.declared.head_line.HeadLine.TheVariants.{First, Setting, Formula, Limit}
use Rattle.text_lines.proofs.FirstWrong.{HaveNoFeeds, line-missing}

-- each text begins with a head, and there is one
pub record HasHead {D : Type 0} (k : TextKind D) (first : List ℕ) (P : Problem) : Type 0 where
  pub feeds : HaveNoFeeds k
  pub limit : D → ℕ
  pub within : (d : D) → IsTrue (k.printable d) → IsTrue (is_limit (limit d))
  pub rest : D → List (List ℕ)
  pub lines_are : (d : D) → k.lines d ≡ head_of first P (limit d) ++ rest d
  pub blank : D
  pub blank_printable : IsTrue (k.printable blank)

pub head-fault : {D C : Type 0} (k : TextKind D) (causes : Causes C) (first : List ℕ) (P : Problem) → HasHead k first P → (bytes : List ℕ) (line : HeadLine) → IsHeadFault first P bytes line
    → (c : C) → ((next : Option (List ℕ)) → cause_after causes (lines_before first P line) next ≡ c) → IsFirstWrong k causes bytes (length (lines_before first P line) + 1) c
head-fault {D} k causes first P t bytes First h c why =
    line-missing k causes t.feeds bytes [] h.place (λ d. first) h.before t.blank t.blank_printable (λ d. record { rest = setting_line P ∷ formula_line P ∷ limit_line (t.limit d) ∷ t.rest d; all = t.lines_are d }) (λ d p more. h.wrong first more refl) c why
head-fault {D} k causes first P t bytes Setting h c why =
    line-missing k causes t.feeds bytes (first ∷ []) h.place (λ d. setting_line P) h.before t.blank t.blank_printable (λ d. record { rest = formula_line P ∷ limit_line (t.limit d) ∷ t.rest d; all = t.lines_are d }) (λ d p more. h.wrong (setting_line P) more refl) c why
head-fault {D} k causes first P t bytes Formula h c why =
    line-missing k causes t.feeds bytes (first ∷ setting_line P ∷ []) h.place (λ d. formula_line P) h.before t.blank t.blank_printable (λ d. record { rest = limit_line (t.limit d) ∷ t.rest d; all = t.lines_are d }) (λ d p more. h.wrong (formula_line P) more refl) c why
head-fault {D} k causes first P t bytes Limit h c why =
    line-missing k causes t.feeds bytes (first ∷ setting_line P ∷ formula_line P ∷ []) h.place (λ d. limit_line (t.limit d)) h.before t.blank t.blank_printable (λ d. record { rest = t.rest d; all = t.lines_are d }) (λ d p more. h.wrong (limit_line (t.limit d)) more (t.limit d, t.within d p, refl)) c why
