-- What the search that does not return to solved goals answers, and what its answer decides.
use Rattle.std.proofs.Common.{◌≡◌, ℕ, ◌≤◌, min, List, Option, Some, inl, inr, sym, subst, arith, IsTrue}
use Rattle.std.proofs.lemmas.Bool.{cases_lt}
use Rattle.std.proofs.Math.Nat.{le-min, min-le_left, min-le_right}
use Rattle.calculus.specs.Syntax.{Problem}
use Rattle.calculus.specs.declared.version.Version.{Version}
use Rattle.calculus.specs.Counting.{MoreThan}
use Rattle.calculus.specs.Cut.{HasCut}
use Rattle.calculus.specs.Space.{IsMember, member_cmp}
use Rattle.calculus.specs.Tableaux.{HasClosed, is_closed}
use Rattle.calculus.proofs.AnswerLaws.{closed-mono}
use Rattle.command_line.specs.CommandLine.{Bounds}
use Rattle.connection_search.specs.CutOutcomes.{IsCutAnswer}
use Rattle.connection_search.specs.declared.cutting.CutAnswer.TheVariants as answer
use Rattle.tableau_core.specs.Numbered.TableauView.{the_tableau}
use Rattle.leancop_top.specs.TableauSearch.{IsCutMissed, IsLeastCut, IsLimit, SearchEnds, SufficesForCut}
use Rattle.leancop_top.specs.TableauSearch.{least, cut, exhausted, no_tableau, steps_ended, too_large}
use Rattle.leancop_top.specs.Commands.Prove.{IsDerivedAt, ProveEnds, derived, fruitless}
use Rattle.leancop_top.specs.Commands.Tableau.{IsTableauFoundAt, TableauEnds}
use Rattle.leancop_top.specs.Commands.Tableau as tableau_ends
use Rattle.leancop_top.specs.declared.status.Status.{Status}

-- ---- what the search answers

same-greatest : (o : Option ℕ) (l k : ℕ) → o ≡ Some l → o ≡ Some k → k ≡ l
same-greatest o l k e f = cc

-- a limit that could be the answer is up to the greatest one that is searched
searched : (P : Problem) (b : Bounds) (l m e : ℕ) → b.cut ≡ Some l → m ≡ min l b.limit → IsLeastCut P b e → e ≤ m
searched P b l m e asked same c = subst (λ k. e ≤ k) (sym same) (le-min (subst (λ g. e ≤ g) (same-greatest b.cut l c.greatest asked c.asked) c.up_to) c.within)

pub cut-found : (P : Problem) (b : Bounds) (l m n d : ℕ) (t : _) → b.cut ≡ Some l → m ≡ min l b.limit → IsCutAnswer P m n (answer.Closed d t) → IsLeastCut P b d
cut-found P b l m n d t asked same h = record {
  greatest = l;
  asked = asked;
  from_one = h.0;
  up_to = omega (arith, h.1, same, min-le_left l b.limit);
  within = omega (arith, h.1, same, min-le_right l b.limit);
  has = (h.3.0, h.3.1, the_tableau t, h.3.2);
  before = h.2;
}

pub cut-closed : (P : Problem) (m n d : ℕ) (t : _) → IsCutAnswer P m n (answer.Closed d t) → IsTrue (is_closed P d (the_tableau t))
cut-closed P m n d t h = h.3.2.cuts.closed

pub missed-open : (P : Problem) (b : Bounds) (l m n : ℕ) → b.cut ≡ Some l → m ≡ min l b.limit → IsCutAnswer P m n answer.Open → IsCutMissed P b
missed-open P b l m n asked same h = λ e c. absurd (h e c.from_one (searched P b l m e asked same c) c.has)

-- nothing was used of the budget before
pub missed-steps : (P : Problem) (b : Bounds) (l m n : ℕ) → b.cut ≡ Some l → m ≡ min l b.limit → n ≡ b.steps → IsCutAnswer P m n answer.Steps → IsCutMissed P b
missed-steps P b l m n asked same whole h = λ e c.
    subst (MoreThan member_cmp (IsMember P e)) whole
    (h e (record { from_one = c.from_one; up_to = searched P b l m e asked same c; before = c.before; last = inl c.has }))

-- ---- what is decided

cut-unique : (P : Problem) (b : Bounds) (d e : ℕ) → IsLeastCut P b d → IsLeastCut P b e → d ≡ e
cut-unique P b d e x y = elim (cases_lt d e) [
  | inl less ↦ absurd (y.before d x.from_one less x.has)
  | inr most ↦ elim (cases_lt e d) [
    | inl less ↦ absurd (x.before e y.from_one less y.has)
    | inr other ↦ omega (arith, most, other)
  ]
]

cut-closes : (P : Problem) (d : ℕ) → HasCut P d → HasClosed P d
cut-closes P d h = record { tableau = h.2; closed = h.3.cuts.closed }

-- the members of the space are not more than the budget
within-budget : (P : Problem) (b : Bounds) (e : ℕ) → SufficesForCut P b e → IsCutMissed P b → ⊥
within-budget P b e s missed =
    let many = missed e s.least in
    let most = s.enough many.0 many.1 in
    absurd (omega (arith, most, many.2))

not-closed : (P : Problem) (b : Bounds) (e m : ℕ) → IsLeastCut P b e → e ≤ m → ¬ HasClosed P m → ⊥
not-closed P b e m c le none = none (closed-mono P e m le (cut-closes P e c.has))

limit-decided : (P : Problem) (b : Bounds) (e : ℕ) → SufficesForCut P b e → (d : ℕ) → IsLimit P b d → d ≡ e
limit-decided P b e s d (least h missed) = absurd (within-budget P b e s missed)
limit-decided P b e s d (cut fits h) = cut-unique P b d e h s.least

search-found : (P : Problem) (b : Bounds) (e : ℕ) → SufficesForCut P b e → (s : Status) → SearchEnds P b s → ⊥
search-found P b e s _ (exhausted d h) = not-closed P b e b.limit s.least s.least.within h.answer.answers.1
search-found P b e s _ (no_tableau d h) = h.never.none e (cut-closes P e s.least.has)
search-found P b e s _ (steps_ended d k h) = within-budget P b e s h.missed
search-found P b e s _ (too_large h) = h s.fits

pub prove-by_cut : (P : Problem) (b : Bounds) (v : Version) (e : ℕ) → SufficesForCut P b e → (s : Status) (bytes : List ℕ) → ProveEnds P b v s bytes → IsDerivedAt e s
prove-by_cut P b v e s _ _ (derived d bytes h) = limit-decided P b e s d h.limit_is
prove-by_cut P b v e s _ _ (fruitless t h) = absurd (search-found P b e s t h)

pub tableau-by_cut : (P : Problem) (b : Bounds) (e : ℕ) → SufficesForCut P b e → (s : Status) (bytes : List ℕ) → TableauEnds P b s bytes → IsTableauFoundAt e s
tableau-by_cut P b e s _ _ (tableau_ends.found d bytes h) = limit-decided P b e s d h.limit_is
tableau-by_cut P b e s _ _ (tableau_ends.fruitless t h) = absurd (search-found P b e s t h)
