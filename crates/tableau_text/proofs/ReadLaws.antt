-- What the reader of a text tells.
use Rattle.std.proofs.Common.{◌≡◌, ℕ, zero, suc, ◌+◌, ◌≤◌, List, [], ◌∷◌, ◌++◌, length, drop, Bool, true, false, IsTrue, Result, Err, refl, sym, ◌∙◌, ap, subst, codes, arith}
use Rattle.calculus.specs.declared.fault.TableauFault.{TableauFault}
use Rattle.calculus.specs.declared.fault.TableauFault.TheVariants as fault
use Rattle.calculus.specs.Syntax.{Symbol, Problem}
use Rattle.calculus.specs.Problems.{is_problem}
use Rattle.calculus.specs.FirstWrong.{whole_lines, IsFirstWrong}
use Rattle.calculus.specs.TableauText.{Chosen, IsMovesText, chosen_is_written, chosen_text, moves_texts, tableau_causes}
use Rattle.calculus.proofs.DerivationTextLaws.{cancel}
use Rattle.formula_core.specs.GroundLists.{GroundList, IsGrown}
use Rattle.formula_text.specs.declared.read.TextRead.{TextRead}
use Rattle.formula_text.specs.declared.read.TextRead.TheVariants.{None}
use Rattle.text_lines.specs.Lines.{IsLineAt}
use Rattle.text_lines.proofs.FirstWrong.{wrong-moved}
use Rattle.tableau_text.specs.MoveLines.{IsChosenText, fault_at}
use Rattle.tableau_text.specs.Reading.{IsLineRead, NoLine, moves_by}
use Rattle.tableau_text.specs.declared.fault.ReadFault.{ReadFault}
use Rattle.tableau_text.specs.declared.fault.ReadFault.TheVariants.{Wrong}
use Rattle.tableau_text.specs.declared.moves.Chosen.{Chosen as GivenChosen}
use Rattle.tableau_text.specs.declared.moves.Move.{Move}
use Rattle.tableau_text.proofs.LineLaws.{IsReadBy, few-lines, line-step}
use Rattle.tableau_text.proofs.MoveFaults.{all-read, fault-after, fault-end, fault-move}

pub told-wrong : {A : Type 0} (P : Problem) (bytes : List ℕ) (m line : ℕ) (c why : TableauFault) → ◌≡◌ {A = Result A ReadFault} (Err (Wrong m c)) (Err (Wrong line why)) → IsFirstWrong (moves_texts P) tableau_causes bytes m c → IsFirstWrong (moves_texts P) tableau_causes bytes line why
told-wrong P bytes m line c why e h =
    let a : m ≡ line = cc e in
    let b : c ≡ why = cc e in
    wrong-moved (moves_texts P) tableau_causes bytes m line c why a b h

-- a line of no form, where that is what the fault comes from
pub told-line : {A : Type 0} (P : Problem) (bytes : List ℕ) (m line : ℕ) (why : TableauFault) (f : ReadFault) (t : TextRead) → ((n : ℕ) (cause : TableauFault) → f ≡ Wrong n cause → (t ≡ None) × (n ≡ m) × (cause ≡ fault.Line)) → ◌≡◌ {A = Result A ReadFault} (Err f) (Err (Wrong line why))
    → (t ≡ None → IsFirstWrong (moves_texts P) tableau_causes bytes m fault.Line) → IsFirstWrong (moves_texts P) tableau_causes bytes line why
told-line P bytes m line why f t tells e h =
    let same : f ≡ Wrong line why = cc e in
    let k = tells line why same in
    wrong-moved (moves_texts P) tableau_causes bytes m line fault.Line why (sym k.1) (sym k.2) (h k.0)

module _ (P : Problem) (w : IsTrue (is_problem P)) (bytes : List ℕ) (limit : ℕ) (a : List GroundList) (start : GivenChosen) (ms : List Move) (place : ℕ) (done : Bool) (count : ℕ) (r : IsReadBy P bytes limit a start ms place done count) where
  abbrev at : Bool → Type 0
  at d = IsReadBy P bytes limit a start ms place d count

  pub counted-within : count ≤ length bytes
  counted-within = subst (λ n. n ≤ length bytes) (sym r.counted) (few-lines P bytes place (moves_by limit a start ms) done r.read)

  pub step-by : (b : List GroundList) (new : List Move) (to : ℕ) (line : List ℕ) (d : Bool) → done ≡ false → IsGrown a b → IsLineAt bytes place to line → IsLineRead P.symbols b ms new line d → IsReadBy P bytes limit b start new to d (count + 1)
  step-by b new to line d e g h l = line-step P bytes limit a b start ms new place to line d count (subst at e r) g h l

  pub fault-after_by : (to : ℕ) (line : List ℕ) → done ≡ true → IsLineAt bytes place to line → IsFirstWrong (moves_texts P) tableau_causes bytes (count + 1) fault.TextAfterEnd
  fault-after_by to line e h = let s = subst at e r in fault-after P w bytes place to (moves_by limit a start ms) line count s.read h s.counted

  pub fault-line_by : (to : ℕ) (line : List ℕ) → done ≡ false → IsLineAt bytes place to line → NoLine P.symbols line → IsFirstWrong (moves_texts P) tableau_causes bytes (count + 1) fault.Line
  fault-line_by to line e h n = let s = subst at e r in fault-move P w bytes place to (moves_by limit a start ms) line count s.read h n.0 n.1 s.counted

  pub text-by : done ≡ true → place ≡ length bytes → IsMovesText P (moves_by limit a start ms) bytes
  text-by e n = all-read P w bytes place (moves_by limit a start ms) (subst at e r).read n

  pub fault-end_by : whole_lines (drop place bytes) ≡ [] → (done ≡ true → ¬ (place ≡ length bytes)) → place ≤ length bytes → IsFirstWrong (moves_texts P) tableau_causes bytes (count + 1) (fault_at done)
  fault-end_by none not within = fault-end P w bytes place (moves_by limit a start ms) done count r.read none (λ e n. not e (by place bytes within n)) r.counted
    where
      by : (k : ℕ) (xs : List ℕ) → k ≤ length xs → drop k xs ≡ [] → k ≡ length xs
      by zero [] h e = refl
      by zero (x ∷ xs) h e = absurd (cc)
      by (suc k) [] h e = absurd (omega arith)
      by (suc k) (x ∷ xs) h e = ap suc (by k xs (omega arith) e)

-- ---- the fifth line

pub no-start_chosen : (S : List Symbol) (line rest : List ℕ) → line ≡ codes "start " ++ rest → ((i : Chosen) → ¬ IsChosenText S rest i) → (i : Chosen) → IsTrue (chosen_is_written S i) → ¬ (line ≡ codes "start " ++ chosen_text S i)
no-start_chosen S line rest e none i g h = none i (record { written = g; same = cancel (codes "start ") rest (chosen_text S i) (sym e ∙ h) })
