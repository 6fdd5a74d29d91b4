-- What the calls over texts tell.
use Rattle.std.proofs.Common.{◌≡◌, ℕ, List, IsTrue, inl, inr, sym, subst}
use Rattle.calculus.specs.declared.fault.TableauFault.{TableauFault}
use Rattle.calculus.specs.Problems.{is_problem}
use Rattle.calculus.specs.Syntax.{Problem}
use Rattle.calculus.specs.Tableaux.{Tableau}
use Rattle.calculus.specs.TableauText.{IsClosedText, IsMovesText, IsTableauJudgement, Moves, TableauVerdict, tableau_rejected, tableau_verdict, moves_texts, tableau_causes}
use Rattle.calculus.specs.FirstWrong.{IsFirstWrong}
use Rattle.calculus.proofs.TableauTextUnique.{accepted-text, closed-instances, closed_text-unique, tableau_judgement-unique, text-accepted}
use Rattle.calculus.proofs.TableauWritten.{closed-text}
use Rattle.logic_rules.proofs.ProblemFacts.{kept}
use Rattle.tableau_cert.specs.Building.{IsBuilt}
use Rattle.tableau_cert.specs.Exact.{AreTextsExact}

-- the first wrong line of a text
pub judged-wrong_as : (P : Problem) (bytes : List ℕ) (line at : ℕ) (fault cause : TableauFault) → line ≡ at → fault ≡ cause → IsFirstWrong (moves_texts P) tableau_causes bytes at cause → IsTableauJudgement P bytes (tableau_rejected line fault)
judged-wrong_as P bytes line at fault cause e h w = inl (record { line = at; why = cause; first = w; verdict = λ i. tableau_rejected (e i) (h i) })

pub one-judgement : (P : Problem) → IsTrue (is_problem P) → (bytes : List ℕ) (v w : TableauVerdict) → IsTableauJudgement P bytes v → IsTableauJudgement P bytes w → v ≡ w
one-judgement P well bytes v w g h = tableau_judgement-unique P (kept P well).distinct bytes v w g h

-- the moves of a text are rejected
pub judged-rejected : (P : Problem) (bytes : List ℕ) (x : Moves) (line : ℕ) (fault : TableauFault) → IsMovesText P x bytes → tableau_verdict P x ≡ tableau_rejected line fault → IsTableauJudgement P bytes (tableau_rejected line fault)
judged-rejected P bytes x line fault text e = inr (record { value = x; text = text; verdict = sym e })

-- the moves of a text are those of a closed tableau
pub built-text : (P : Problem) (bytes : List ℕ) (x : Moves) (t : Tableau) → IsMovesText P x bytes → IsBuilt P x t → IsClosedText P t x.limit bytes
built-text P bytes x t text b = record { text = record { instances = closed-instances P x.limit t b.closed; text = subst (λ y. IsMovesText P y bytes) (sym b.moves) text }; closed = b.closed }

pub exact : (P : Problem) → IsTrue (is_problem P) → AreTextsExact P
exact P well = record {
  accepted = λ bytes h. let c = accepted-text P bytes h in (c.tableau, (c.limit, c.is_text));
  closed = λ t d bytes h. text-accepted P t d bytes h;
  one = λ t u d e bytes g h. closed_text-unique P (kept P well).distinct t u d e bytes g h;
  has_text = λ t d limit h n. closed-text P t d limit h n;
  one_text = λ t d bytes h. h.text.text.text;
}
