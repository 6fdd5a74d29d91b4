-- What it means that no tableau is closed, within a limit or at all.
use Rattle.std.specs.Prelude.{◌<◌, ◌≤◌, ℕ, List, [], length, IsTrue}
use Rattle.std.specs.List.{list_all}
use Rattle.calculus.specs.Syntax.{Problem}
use Rattle.calculus.specs.ComputedInstances.{is_allowed_instance}
use Rattle.calculus.specs.Instances.{ClauseInstance}
use Rattle.calculus.specs.Judgement.{accepted}
use Rattle.calculus.specs.Propositional.{IsPropositional}
use Rattle.calculus.specs.Soundness.{HasNoDerivation}
use Rattle.calculus.specs.Tableaux.{HasClosed, Tableau, instances}
use Rattle.calculus.specs.VersionJudgement.{IsVersionJudgement}
use Rattle.decision_theory.specs.Countermodels.{HasFiniteCountermodel}
use Rattle.decision_theory.specs.Decision.{HasCounterexample, IsRefuted, proposition_count}
use Rattle.decision_theory.specs.Finite.{IsFinitary, ground_atoms}
use Rattle.matrix_theory.specs.AnyStrings.{is_closed_by_any_strings}
use Rattle.matrix_theory.specs.Spanning.{has_way}

-- No tableau is closed within the limit. So through each list of at most so many allowed instances there
-- is a way, one literal of each, without complementary literals; and a tableau that is closed but for the
-- bound on strings, within whatever limit, has more instances. Where the limit is at least the number of
-- a propositional problem's propositions, there are truth values at which the formula is false, and a
-- finite structure; where it is at least that of the atoms over finitely many ground terms, a structure
-- of these terms in which it is false.
pub record IsUnclosed (P : Problem) (limit : ℕ) : Type 0 where
  pub none : ¬ HasClosed P limit
  pub ways :
      (is : List ClauseInstance) → length is ≤ limit → IsTrue (list_all (is_allowed_instance P) is)
      → IsTrue (has_way [] is)
  pub by_any_strings :
      (e : ℕ) (t : Tableau) → IsTrue (is_closed_by_any_strings P e t) → limit < length (instances t)
  pub refuted : IsPropositional P → proposition_count P.formula ≤ limit → IsRefuted P
  pub counterexample : IsPropositional P → proposition_count P.formula ≤ limit → HasCounterexample P
  pub countermodel : IsFinitary P → ground_atoms P ≤ limit → HasFiniteCountermodel P

-- No tableau is closed within any limit. So no derivation that can be printed derives the problem, and no
-- bytes are accepted as one, in either version of the text; there is a way through each list of allowed
-- instances; no tableau is closed by strings of any length; a propositional formula is false at some
-- truth values and in some finite structure, and that of a problem with finitely many ground terms in a
-- structure of these terms.
pub record IsNeverClosed (P : Problem) : Type 0 where
  pub none : (e : ℕ) → ¬ HasClosed P e
  pub underived : HasNoDerivation P
  pub never_accepted : (bytes : List ℕ) → ¬ IsVersionJudgement P bytes accepted
  pub ways :
      (is : List ClauseInstance) → IsTrue (list_all (is_allowed_instance P) is)
      → IsTrue (has_way [] is)
  pub by_any_strings : (e : ℕ) (t : Tableau) → ¬ IsTrue (is_closed_by_any_strings P e t)
  pub refuted : IsPropositional P → IsRefuted P
  pub counterexample : IsPropositional P → HasCounterexample P
  pub countermodel : IsFinitary P → HasFiniteCountermodel P
