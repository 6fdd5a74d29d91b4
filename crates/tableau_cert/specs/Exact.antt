-- Which bytes are texts of closed tableaux.
use Rattle.std.specs.Prelude.{◌≡◌, ℕ, List, IsTrue}
use Rattle.calculus.specs.DerivationText.{is_limit}
use Rattle.calculus.specs.Syntax.{Problem}
use Rattle.calculus.specs.Tableaux.{Tableau, is_closed}
use Rattle.calculus.specs.TableauText.{IsClosedText, IsTableauJudgement, moves_texts, tableau_accepted, tableau_has_numbers, tableau_moves}
use Rattle.calculus.specs.FirstWrong.{text_of}

-- Accepted bytes are exactly the texts of tableaux that are closed within the limit they state. A text has one tableau and limit. A
-- tableau that is closed within a limit from 1 to 200 and whose numbers have 32 bits has one text with this limit.
pub record AreTextsExact (P : Problem) : Type 0 where
  pub accepted : (bytes : List ℕ) → IsTableauJudgement P bytes tableau_accepted → (t : Tableau) × ((d : ℕ) × IsClosedText P t d bytes)
  pub closed : (t : Tableau) (d : ℕ) (bytes : List ℕ) → IsClosedText P t d bytes → IsTableauJudgement P bytes tableau_accepted
  pub one : (t u : Tableau) (d e : ℕ) (bytes : List ℕ) → IsClosedText P t d bytes → IsClosedText P u e bytes → (t ≡ u) × (d ≡ e)
  pub has_text : (t : Tableau) (d : ℕ) → IsTrue (is_limit d) → IsTrue (is_closed P d t) → IsTrue (tableau_has_numbers t) → IsClosedText P t d (text_of (moves_texts P) (tableau_moves t d))
  pub one_text : (t : Tableau) (d : ℕ) (bytes : List ℕ) → IsClosedText P t d bytes → bytes ≡ text_of (moves_texts P) (tableau_moves t d)
