-- What a run names as laws over the definitions of tableaux, derivations and answers.
use Rattle.std.specs.Prelude.{◌≡◌, ◌⊎◌, ◌↔◌, ◌≤◌, ⊤, ℕ, List, None, IsTrue}
use Rattle.calculus.specs.Calculus.{Derives}
use Rattle.calculus.specs.DerivationText.{is_printable}
use Rattle.calculus.specs.Derivations.{Derivation}
use Rattle.calculus.specs.Instances.{ClauseInstance}
use Rattle.calculus.specs.Judgement.{accepted}
use Rattle.calculus.specs.Space.{Answer, IsAnswer}
use Rattle.calculus.specs.Space as space
use Rattle.calculus.specs.Syntax.{Problem}
use Rattle.calculus.specs.VersionJudgement.{IsVersionJudgement}
use Rattle.calculus.specs.declared.version.Version.{Version}
use Rattle.command_line.specs.CommandLine.{Bounds}
use Rattle.matrix_theory.specs.Spanning.{IsSpanning}
use Rattle.leancop_top.specs.Commands.Prove.{ProveEnds}
use Rattle.leancop_top.specs.Derived.{HasTableau}
use Rattle.leancop_top.specs.declared.status.Status.{Status}
use Rattle.leancop_top.specs.declared.status.Status.TheVariants.{Exhausted, StepsEnded}

-- ---- tableaux, spanning instances and derivations

-- some list of allowed instances spans: each way through them has two complementary literals
abbrev pub HasSpanning : Problem → Type 0
HasSpanning P = (is : List ClauseInstance) × IsSpanning P is

-- some tableau is closed within some limit exactly where some instances span, and it is so where
-- there is a derivation, or bytes are accepted as one
pub record IsCharacterised (P : Problem) : Type 0 where
  pub spanning : HasTableau P ↔ HasSpanning P
  pub derived : (d : Derivation) → IsTrue (is_printable P d) → Derives P d → HasTableau P
  pub accepted : (bytes : List ℕ) → IsVersionJudgement P bytes accepted → HasTableau P

-- ---- the bounds of a search

abbrev pub IsStopped : Status → Type 0
IsStopped (StepsEnded limit steps) = ⊤
IsStopped _ = ⊥

-- Where no search that does not return to solved goals is asked for, the bounds decide nothing but
-- what is reached: an answer under a greatest limit is that under each greater one, unless that limit
-- was exhausted; and two runs end with the same status, unless the smaller limit was exhausted or
-- the budget of one ended
pub record IsIndependent (P : Problem) : Type 0 where
  pub limits :
      (m n : ℕ) (a : Answer) → m ≤ n → IsAnswer P m a
      → IsAnswer P n a ⊎ (a ≡ space.exhausted m)
  pub runs :
      (b c : Bounds) → b.limit ≤ c.limit → b.cut ≡ None → c.cut ≡ None
      → (v w : Version) (s t : Status) (output other : List ℕ)
      → ProveEnds P b v s output → ProveEnds P c w t other
      → (s ≡ t) ⊎ (s ≡ Exhausted b.limit) ⊎ IsStopped s ⊎ IsStopped t
