-- What deepening answers is what ends the search.
use Rattle.std.proofs.Common.{◌≡◌, ℕ, IsTrue, refl, subst, sym}
use Rattle.calculus.specs.Problems.{is_problem}
use Rattle.calculus.specs.Syntax.{Problem}
use Rattle.calculus.specs.Counting.{MoreThan}
use Rattle.calculus.specs.Space.{Answer, IsAnswer, ComesNoLater, member_cmp}
use Rattle.calculus.proofs.AnswerLaws.{answer-unique}
use Rattle.connection_search.specs.Outcomes.{IsDeepAnswer}
use Rattle.connection_search.specs.declared.deepening.Answer.{Answer as DeepAnswer}
use Rattle.connection_search.specs.declared.deepening.Answer.TheVariants as deep
use Rattle.matrix_build.specs.Fits.{FitsMatrix}
use Rattle.calculus.specs.Tableaux.{HasClosed}
use Rattle.tableau_core.specs.Numbered.TableauView.{the_tableau}
use Rattle.leancop_top.proofs.LimitLaws.{none_below, none_within}
use Rattle.leancop_top.proofs.Unclosed.{never-closed, unclosed}
use Rattle.command_line.specs.CommandLine.{Bounds}
use Rattle.leancop_top.specs.SearchView.{searched_as}
use Rattle.leancop_top.specs.TableauSearch.{IsCutMissed, IsFound, IsOnlyAnswer, IsSearched, SearchEnds, least, exhausted, no_tableau, steps_ended}
use Rattle.leancop_top.specs.declared.status.Status.TheVariants as status

only : (P : Problem) (b : Bounds) (a : Answer) → IsAnswer P b.limit a → IsOnlyAnswer P b a
only P b a h = record { answers = h; unique = λ other g. answer-unique P b.limit other a g h }

found : (P : Problem) (b : Bounds) (n d : ℕ) (t : _) → FitsMatrix P → IsCutMissed P b → IsDeepAnswer P b.limit n (deep.Closed d t) → IsFound P b d (the_tableau t)
found P b n d t fits missed h = record {
  limit_is = least (record { fits = fits; answer = only P b _ h.0; least = none_below P d h.0.3 }) missed;
  closed = h.1;
}

exhausted-ends : (P : Problem) → IsTrue (is_problem P) → (b : Bounds) (n d : ℕ) → FitsMatrix P → IsDeepAnswer P b.limit n (deep.Exhausted d) → SearchEnds P b (status.Exhausted d)
exhausted-ends P well b n d fits h = exhausted d (record { fits = fits; answer = only P b _ h; unclosed = unclosed P well d (subst (λ m. ¬ HasClosed P m) (sym h.0) h.1) })

no_tableau-ends : (P : Problem) → IsTrue (is_problem P) → (b : Bounds) (n d : ℕ) → FitsMatrix P → IsDeepAnswer P b.limit n (deep.NoTableau d) → SearchEnds P b (status.NoTableau d)
no_tableau-ends P well b n d fits h = no_tableau d (record { fits = fits; answer = only P b _ h.0; never = never-closed P well h.1 })

-- nothing was used of the budget before
steps-ends : (P : Problem) → IsTrue (is_problem P) → (b : Bounds) (n d : ℕ) → FitsMatrix P → IsCutMissed P b → n ≡ b.steps → IsDeepAnswer P b.limit n (deep.Steps d) → SearchEnds P b (status.StepsEnded d b.steps)
steps-ends P well b n d fits missed same h = steps_ended d b.steps (record {
  fits = fits;
  budget = refl;
  below = h.0;
  left = h.1.left;
  unclosed = unclosed P well d (none_within P d h.1.none);
  more = subst (MoreThan member_cmp (ComesNoLater P d)) same h.2;
  missed = missed;
})

pub searched : (P : Problem) → IsTrue (is_problem P) → (b : Bounds) (n : ℕ) → FitsMatrix P → IsCutMissed P b → n ≡ b.steps → (a : DeepAnswer) → IsDeepAnswer P b.limit n a → IsSearched P b (searched_as a b.steps)
searched P well b n fits missed same (deep.Closed d t) h = found P b n d t fits missed h
searched P well b n fits missed same (deep.Exhausted d) h = exhausted-ends P well b n d fits h
searched P well b n fits missed same (deep.NoTableau d) h = no_tableau-ends P well b n d fits h
searched P well b n fits missed same (deep.Steps d) h = steps-ends P well b n d fits missed same h
