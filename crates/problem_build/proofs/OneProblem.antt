-- Files hold one problem or have one first refusal.
use Rattle.std.proofs.Common.{◌≡◌, ℕ, List, Bool, Result, sym, ◌∙◌, ap}
use Rattle.calculus.specs.Syntax.{Problem, Setting}
use Rattle.calculus.specs.Problems.{is_modal}
use Rattle.cop_base.specs.Outside.{Files}
use Rattle.tptp_reader.specs.Sources.{Name, Item}
use Rattle.tptp_reader.specs.Reading.{Outcome, IsReading}
use Rattle.tptp_reader.proofs.OneReading.{one-reading}
use Rattle.tptp_reader.proofs.Totality.{reading-of}
use Rattle.problem_build.specs.Refusals.{Refusal}
use Rattle.problem_build.specs.Walk.{Reader}
use Rattle.problem_build.specs.Building.{IsProblemOf, IsExactReader, problem_in}

-- there is one way to read all texts
pub one-way : (modal : Bool) (a b : Reader) → IsExactReader modal a → IsExactReader modal b → a ≡ b
one-way modal a b h k = λ i text. one-reading modal text (a text) (b text) (h text) (k text) i

pub one-problem : (files : Files) (name root : Name) (setting : Setting) (r s : Result Problem Refusal) → IsProblemOf files name root setting r → IsProblemOf files name root setting s → r ≡ s
one-problem files name root setting r s h k =
    sym h.2 ∙ ap (λ read. problem_in read files name root setting) (one-way (is_modal setting.logic) h.0 k.0 h.1 k.1) ∙ k.2

-- ---- and there always is one

-- the way to read all texts
abbrev pub exact_reading : Bool → Reader
exact_reading modal text = (reading-of modal text).0

pub exact_reading-exact : (modal : Bool) → IsExactReader modal (exact_reading modal)
exact_reading-exact modal text = (reading-of modal text).1

-- what a text is read as is what the exact way answers for it
pub read-is : (modal : Bool) (read : Reader) → IsExactReader modal read → (text : List ℕ) (r : Outcome (List Item)) → IsReading modal text r → read text ≡ r
read-is modal read h text r k = one-reading modal text (read text) r (h text) k
