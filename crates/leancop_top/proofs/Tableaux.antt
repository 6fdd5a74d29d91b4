-- What is told of the text of a tableau.
use Rattle.std.proofs.Common.{◌&&◌, List, ℕ, Option, IsTrue}
use Rattle.std.specs.List.{list_all}
use Rattle.std.proofs.lemmas.Bool.{and_parts}
use Rattle.cop_base.specs.Outside.{Files}
use Rattle.calculus.proofs.TableauTextUnique.{accepted-text, tableau_judgement-unique, text-accepted}
use Rattle.calculus.proofs.TautologyLaws.{tautology}
use Rattle.calculus.specs.DerivationText.{is_limit}
use Rattle.calculus.specs.Problems.{is_problem}
use Rattle.calculus.specs.Syntax.{Problem}
use Rattle.calculus.specs.Tableaux.{Tableau}
use Rattle.calculus.specs.TableauText.{IsClosedText, IsTableauJudgement, TableauVerdict, tableau_accepted, tableau_moves, chosen_is_written, move_is_written}
use Rattle.command_line.specs.Table.{Word}
use Rattle.logic_rules.proofs.ProblemFacts.{kept}
use Rattle.truth_theory.proofs.TruthLaws.{closed-true}
use Rattle.leancop_top.specs.Commands.Tcheck.{TcheckEnds, accepted}
use Rattle.leancop_top.specs.SecondFile.{HasBytes}
use Rattle.leancop_top.specs.Statuses.{status_line}
use Rattle.leancop_top.specs.TableauTexts.{IsOnlyTableauJudgement, IsTableau, IsTableauIn, IsTableauJudgedIn}
use Rattle.leancop_top.specs.declared.status.Status.TheVariants.{Accepted}

only : (P : Problem) → IsTrue (is_problem P) → (bytes : List ℕ) (v : TableauVerdict) → IsTableauJudgement P bytes v → IsOnlyTableauJudgement P bytes v
only P well bytes v h = record { judged = h; alone = λ w g. tableau_judgement-unique P (kept P well).distinct bytes w v g h }

-- the text of a closed tableau is accepted, and its formula is true in each structure
pub stated : (P : Problem) → IsTrue (is_problem P) → (t : Tableau) (limit : ℕ) (bytes : List ℕ) → IsClosedText P t limit bytes → IsTableau P t limit bytes
stated P well t limit bytes h =
    let true_in = closed-true P well limit (record { tableau = t; closed = h.closed }) in
    record {
      text = h;
      judged = only P well bytes tableau_accepted (text-accepted P t limit bytes h);
      true_in_structures = true_in;
      tautology = λ p. tautology P well p true_in;
    }

-- and its limit is one that can be written
pub stated-limit : (P : Problem) (t : Tableau) (limit : ℕ) (bytes : List ℕ) → IsClosedText P t limit bytes → IsTrue (is_limit limit)
stated-limit P t limit bytes h =
    let x = tableau_moves t limit in
    let front = and_parts (is_limit limit && chosen_is_written P.symbols x.start) (list_all (move_is_written P.symbols) x.moves) h.text.text.printable in
    (and_parts (is_limit limit) (chosen_is_written P.symbols x.start) front.0).0

pub stated-in : (told : Option Files) (P : Problem) (name : Word) (t : Tableau) (limit : ℕ) (bytes : List ℕ) → IsTrue (is_problem P) → HasBytes told name bytes → IsClosedText P t limit bytes → IsTableauIn told P name t limit
stated-in told P name t limit bytes well held h = record { bytes = bytes; held = held; stated = stated P well t limit bytes h }

pub judged-in : (told : Option Files) (P : Problem) (name : Word) (bytes : List ℕ) (v : TableauVerdict) → IsTrue (is_problem P) → HasBytes told name bytes → IsTableauJudgement P bytes v → IsTableauJudgedIn told P name v
judged-in told P name bytes v well held h = record { text = bytes; held = held; judged = only P well bytes v h }

-- what is accepted is the text of a closed tableau
pub ends-accepted : (told : Option Files) (P : Problem) (name : Word) (bytes : List ℕ) → IsTrue (is_problem P) → HasBytes told name bytes → IsTableauJudgement P bytes tableau_accepted → TcheckEnds told P name Accepted (status_line Accepted)
ends-accepted told P name bytes well held h =
    let c = accepted-text P bytes h in
    accepted c.tableau c.limit (stated-in told P name c.tableau c.limit bytes well held c.is_text)
