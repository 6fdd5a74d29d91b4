-- The laws that a run names: closed tableaux, spanning instances and derivations, and the bounds of a search.
use Rattle.std.proofs.Common.{◌≡◌, ◌⊎◌, ℕ, ◌≤◌, List, Option, None, Some, IsTrue, inl, inr, refl, sym, ◌∙◌, ap, arith}
use Rattle.calculus.specs.Problems.{is_problem}
use Rattle.calculus.specs.Space.{Answer, derived, exhausted, no_tableau, IsAnswer}
use Rattle.calculus.specs.Syntax.{Problem}
use Rattle.calculus.proofs.AnswerLaws.{answer-unique, closed-mono}
use Rattle.calculus.proofs.LimitLaws.{none-beyond}
use Rattle.calculus.specs.declared.version.Version.{Version}
use Rattle.command_line.specs.CommandLine.{Bounds}
use Rattle.derivation_theory.proofs.DerivedLaws.{accepted-closes, derived-closes}
use Rattle.matrix_build.specs.Fits.{FitsMatrix}
use Rattle.string_theory.proofs.StringLaws.{closed_exactly_where_spanning}
use Rattle.leancop_top.specs.Commands.Prove.{ProveEnds}
use Rattle.leancop_top.specs.Commands.Prove as prove_ends
use Rattle.leancop_top.specs.Laws.{IsCharacterised, IsIndependent, IsStopped}
use Rattle.leancop_top.specs.TableauSearch.{IsLimit, SearchEnds}
use Rattle.leancop_top.specs.TableauSearch as ends
use Rattle.leancop_top.specs.declared.status.Status.{Status}
use Rattle.leancop_top.specs.declared.status.Status.TheVariants as status

pub characterised : (P : Problem) → IsTrue (is_problem P) → IsCharacterised P
characterised P well = record { spanning = closed_exactly_where_spanning P; derived = derived-closes P well; accepted = accepted-closes P well }

-- ---- greatest limits

same-or-exhausted : (P : Problem) (m n : ℕ) (a : Answer) → m ≤ n → IsAnswer P m a → IsAnswer P n a ⊎ (a ≡ exhausted m)
same-or-exhausted P m n (derived d) le h = inl (h.0, omega (arith, h.1, le), h.2, h.3)
same-or-exhausted P m n (no_tableau d) le h =
    let never = none-beyond P d h.3 (λ c. h.2 (closed-mono P d m h.1 c)) in
    inl (h.0, omega (arith, h.1, le), never n, h.3, h.4)
same-or-exhausted P m n (exhausted d) le h = inr (ap exhausted h.0)

-- ---- how a search ends that returns to solved goals

abbrev status_of : Answer → Status
status_of (derived d) = status.Derived d
status_of (exhausted d) = status.Exhausted d
status_of (no_tableau d) = status.NoTableau d

data IsEnd (P : Problem) (limit : ℕ) (s : Status) : Type 0 where
  answered : (a : Answer) → FitsMatrix P → IsAnswer P limit a → s ≡ status_of a → IsEnd P limit s
  stopped : FitsMatrix P → IsStopped s → IsEnd P limit s
  large : ¬ FitsMatrix P → s ≡ status.MatrixTooLarge → IsEnd P limit s

not-asked : (o : Option ℕ) (g : ℕ) → o ≡ None → o ≡ Some g → ⊥
not-asked o g e f = absurd (cc)

derived-end : (P : Problem) (b : Bounds) (d : ℕ) → b.cut ≡ None → IsLimit P b d → IsEnd P b.limit (status.Derived d)
derived-end P b d e (ends.least h missed) = answered (derived d) h.fits h.answer.answers refl
derived-end P b d e (ends.cut fits h) = absurd (not-asked b.cut h.greatest e h.asked)

search-end : (P : Problem) (b : Bounds) (s : Status) → SearchEnds P b s → IsEnd P b.limit s
search-end P b _ (ends.exhausted d h) = answered (exhausted d) h.fits h.answer.answers refl
search-end P b _ (ends.no_tableau d h) = answered (no_tableau d) h.fits h.answer.answers refl
search-end P b _ (ends.steps_ended d k h) = stopped h.fits tt
search-end P b _ (ends.too_large h) = large h refl

prove-end : (P : Problem) (b : Bounds) (v : Version) (s : Status) (output : List ℕ) → b.cut ≡ None → ProveEnds P b v s output → IsEnd P b.limit s
prove-end P b v _ _ e (prove_ends.derived d bytes h) = derived-end P b d e h.limit_is
prove-end P b v _ _ e (prove_ends.fruitless s h) = search-end P b s h

both-ends : (P : Problem) (m n : ℕ) (s t : Status) → m ≤ n → IsEnd P m s → IsEnd P n t → (s ≡ t) ⊎ (s ≡ status.Exhausted m) ⊎ IsStopped s ⊎ IsStopped t
both-ends P m n s t le (answered a fits h e) (answered c more k f) = elim (same-or-exhausted P m n a le h) [
  | inl g ↦ inl (e ∙ ap status_of (answer-unique P n a c g k) ∙ sym f)
  | inr g ↦ inr (inl (e ∙ ap status_of g))
]
both-ends P m n s t le (answered a fits h e) (stopped more k) = inr (inr (inr k))
both-ends P m n s t le (answered a fits h e) (large none f) = absurd (none fits)
both-ends P m n s t le (stopped fits h) k = inr (inr (inl h))
both-ends P m n s t le (large none e) (answered c fits k f) = absurd (none fits)
both-ends P m n s t le (large none e) (stopped fits k) = absurd (none fits)
both-ends P m n s t le (large none e) (large other f) = inl (e ∙ sym f)

pub independent : (P : Problem) → IsIndependent P
independent P = record {
  limits = same-or-exhausted P;
  runs = λ b c le e f v w s t output other h k. both-ends P b.limit c.limit s t le (prove-end P b v s output e h) (prove-end P c w t other f k);
}
