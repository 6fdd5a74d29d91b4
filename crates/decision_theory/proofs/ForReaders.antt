-- Laws that are here for the reader: nothing cites them. The propositions of a formula are named once each (`propositions-once`), so
-- that `proposition_count` counts them; what is closed within any limit is closed within that number (`closed_within_propositions`);
-- and what a finite structure refutes has no derivation (`underived_where_countermodel`).
use Rattle.std.proofs.Common.{◌≡◌, ℕ, List, [], ◌∷◌, Bool, true, false, IsTrue, if◌then◌else◌, refl}
use Rattle.calculus.specs.Syntax.{Formula, atom, neg, conj, disj, imp, all, ex, box, dia, Problem}
use Rattle.calculus.specs.Ground.{common}
use Rattle.calculus.specs.Equality.{contains}
use Rattle.calculus.specs.Propositional.{IsPropositional}
use Rattle.calculus.specs.Tableaux.{HasClosed}
use Rattle.decision_theory.specs.Decision.{with_one, with_all, propositions, proposition_count}
use Rattle.decision_theory.proofs.DecisionLaws.{tautology_closes_within}
use Rattle.calculus.specs.Problems.{is_problem}
use Rattle.calculus.specs.Soundness.{HasNoDerivation}
use Rattle.calculus.proofs.SoundnessLaws.{false-underived}
use Rattle.decision_theory.specs.Countermodels.{structure_over, HasFiniteCountermodel}
use Rattle.decision_theory.specs.Finite.{terms_of}
use Rattle.decision_theory.proofs.ExclusionLaws.{tautology_where_closed}

-- each stands there once
abbrev pub AreOnce : List ℕ → Type 0
AreOnce [] = Unit {0}
AreOnce (x ∷ xs) = (contains xs x ≡ false) × AreOnce xs

once-one : (x : ℕ) (ys : List ℕ) → AreOnce ys → AreOnce (with_one x ys)
once-one x ys h = by (contains ys x) refl
  where
    by : (b : Bool) → contains ys x ≡ b → AreOnce (if b then ys else x ∷ ys)
    by true e = h
    by false e = (e, h)

once-all : (xs ys : List ℕ) → AreOnce ys → AreOnce (with_all xs ys)
once-all [] ys h = h
once-all (x ∷ xs) ys h = once-one x (with_all xs ys) (once-all xs ys h)

pub propositions-once : (f : Formula) → AreOnce (propositions f)
propositions-once (atom p ts) = (refl, tt)
propositions-once (neg a) = propositions-once a
propositions-once (conj a b) = once-all (propositions a) (propositions b) (propositions-once b)
propositions-once (disj a b) = once-all (propositions a) (propositions b) (propositions-once b)
propositions-once (imp a b) = once-all (propositions a) (propositions b) (propositions-once b)
propositions-once (all a) = propositions-once a
propositions-once (ex a) = propositions-once a
propositions-once (box a) = propositions-once a
propositions-once (dia a) = propositions-once a

-- so within whatever limit a tableau is closed, one is closed within the number of propositions
pub closed_within_propositions : (P : Problem) → IsPropositional P → (d : ℕ) → HasClosed P d → HasClosed P (proposition_count P.formula)
closed_within_propositions P h d c = tautology_closes_within P h (tautology_where_closed P h d c)

-- so it has no derivation
pub underived_where_countermodel : (P : Problem) → IsTrue (is_problem P) → HasFiniteCountermodel P → HasNoDerivation P
underived_where_countermodel P problem r = false-underived P problem (structure_over (terms_of P) r.values) r.fits (λ t. common 0) r.false_there
