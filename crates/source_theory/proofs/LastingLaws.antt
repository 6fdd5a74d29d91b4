-- In intuitionistic logic what is true at a world is true at its successors. So in each logic a formula with its free variables
-- quantified is true exactly where it is true whatever elements of the domain all names are.
use Rattle.std.proofs.Common.{List, [], ◌∷◌, false, IsTrue, inl, inr}
use Rattle.std.proofs.lemmas.Bool.{false≢true, and_parts}
use Rattle.calculus.specs.declared.setting.Logic.{Logic}
use Rattle.calculus.specs.declared.setting.Logic.TheVariants.{Intuitionistic}
use Rattle.calculus.specs.Syntax.{Symbol}
use Rattle.calculus.specs.Problems.{is_modal}
use Rattle.calculus.specs.Models.{Model, IsWorld, Reaches, IsIn, RelationFits, IsTransitive}
use Rattle.tptp_reader.specs.declared.source.ChainKind.TheVariants.{And, Or}
use Rattle.tptp_reader.specs.declared.source.BinaryKind.{BinaryKind}
use Rattle.tptp_reader.specs.declared.source.BinaryKind.TheVariants.{Imp, If, Iff, Xor, Nor, Nand}
use Rattle.tptp_reader.specs.Sources.{Name, Source, atom, truth, falsity, equal, unequal, not, chain, binary, for_all, exists, nec, poss, Sources, no_sources, more_sources}
use Rattle.problem_build.specs.Expansion.{free_variables}
use Rattle.problem_build.proofs.ExpansionLaws.{is_well, are_well}
use Rattle.source_theory.specs.SourceTruth.{with_element, AreAlike, JoinedBy, ForEach, ForSome, IsTrueAt, AreTrueAt, IsOneTrueAt, IsTrueForAll}
use Rattle.source_theory.proofs.TruthLaws.{IsTrueClosed, IsClosed}
use Rattle.source_theory.proofs.FreeLaws.{Grows, for_all-closed, closed-now}

-- it stays true at each successor
abbrev Persists : {W E : Type 0} → Model W E → ((Name → E) → W → Type 0) → Type 0
Persists {W} {E} M A = (g : Name → E) (w v : W) → IsWorld M w → Reaches M w v → A g w → A g v

module _ {W E : Type 0} (M : Model W E) (symbols : List Symbol) (transitive : IsTransitive M) (grows : Grows Intuitionistic M) where
  joined-persists : (c : BinaryKind) (A B : W → Type 0) (w v : W) → IsWorld M w → Reaches M w v → JoinedBy Intuitionistic M c A B w → JoinedBy Intuitionistic M c A B v
  joined-persists Imp A B w v at on k = λ u far. k u (transitive w v u at on far)
  joined-persists If A B w v at on k = λ u far. k u (transitive w v u at on far)
  joined-persists Iff A B w v at on k = λ u far. k u (transitive w v u at on far)
  joined-persists Xor A B w v at on k = λ u far. k u (transitive w v u at on far)
  joined-persists Nor A B w v at on k = λ u far. k u (transitive w v u at on far)
  joined-persists Nand A B w v at on k = λ u far. k u (transitive w v u at on far)

  for-each-persists : (ys : List Name) (A : (Name → E) → W → Type 0) → Persists M A → Persists M (ForEach Intuitionistic M ys A)
  for-each-persists [] A keeps g w v at on k = keeps g w v at on k
  for-each-persists (y ∷ ys) A keeps g w v at on k = λ u far x there. k u (transitive w v u at on far) x there

  for-some-persists : (ys : List Name) (A : (Name → E) → W → Type 0) → Persists M A → Persists M (ForSome M ys A)
  for-some-persists [] A keeps g w v at on k = keeps g w v at on k
  for-some-persists (y ∷ ys) A keeps g w v at on k =
      (k.0, grows w v k.0 at on k.1, for-some-persists ys A keeps (with_element g y k.0) w v at on k.2)

  mutual
    source-persists : (a : Source) → IsTrue (is_well false a) → Persists M (IsTrueAt Intuitionistic M symbols a)
    source-persists (atom p ts) well g w v at on k = λ u far. k u (transitive w v u at on far)
    source-persists truth well g w v at on k = k
    source-persists falsity well g w v at on k = k
    source-persists (equal s t) well g w v at on k = k
    source-persists (unequal s t) well g w v at on k = k
    source-persists (not a) well g w v at on k = λ u far. k u (transitive w v u at on far)
    source-persists (chain And no_sources) well g w v at on k = k
    source-persists (chain Or no_sources) well g w v at on k = k
    source-persists (chain And (more_sources a bs)) well g w v at on k =
        let parts = and_parts (is_well false a) (are_well false bs) well in
        (source-persists a parts.0 g w v at on k.0, all-persist bs parts.1 g w v at on k.1)
    source-persists (chain Or (more_sources a bs)) well g w v at on k =
        let parts = and_parts (is_well false a) (are_well false bs) well in
        elim k [ inl x ↦ inl (source-persists a parts.0 g w v at on x) | inr y ↦ inr (one-persists bs parts.1 g w v at on y) ]
    source-persists (binary c a b) well g w v at on k = joined-persists c (IsTrueAt Intuitionistic M symbols a g) (IsTrueAt Intuitionistic M symbols b g) w v at on k
    source-persists (for_all ys a) well g w v at on k = for-each-persists ys (IsTrueAt Intuitionistic M symbols a) (source-persists a well) g w v at on k
    source-persists (exists ys a) well g w v at on k = for-some-persists ys (IsTrueAt Intuitionistic M symbols a) (source-persists a well) g w v at on k
    source-persists (nec a) well g w v at on k = absurd (false≢true well)
    source-persists (poss a) well g w v at on k = absurd (false≢true well)

    all-persist : (bs : Sources) → IsTrue (are_well false bs) → Persists M (AreTrueAt Intuitionistic M symbols bs)
    all-persist no_sources well g w v at on k = k
    all-persist (more_sources a bs) well g w v at on k =
        let parts = and_parts (is_well false a) (are_well false bs) well in
        (source-persists a parts.0 g w v at on k.0, all-persist bs parts.1 g w v at on k.1)

    one-persists : (bs : Sources) → IsTrue (are_well false bs) → Persists M (IsOneTrueAt Intuitionistic M symbols bs)
    one-persists no_sources well g w v at on k = k
    one-persists (more_sources a bs) well g w v at on k =
        let parts = and_parts (is_well false a) (are_well false bs) well in
        elim k [ inl x ↦ inl (source-persists a parts.0 g w v at on x) | inr y ↦ inr (one-persists bs parts.1 g w v at on y) ]

closed-for_all : {W E : Type 0} (l : Logic) (M : Model W E) (symbols : List Symbol) → IsClosed M → RelationFits l M → Grows l M → (a : Source) → IsTrue (is_well (is_modal l) a)
    → (w : W) → IsWorld M w → IsTrueClosed l M symbols a w → IsTrueForAll l M symbols a w
closed-for_all Intuitionistic M symbols closed fits grows a well w at k =
    λ v on h in_domain. closed-now Intuitionistic M symbols fits a v (closed w v at on) h in_domain
    (for-each-persists M symbols fits.1 grows (free_variables a) (IsTrueAt Intuitionistic M symbols a) (source-persists M symbols fits.1 grows a well) (λ y. M.element) w v at on k)
closed-for_all l M symbols closed fits grows a well w at k = λ h in_domain. closed-now l M symbols fits a w at h in_domain k

pub universal : {W E : Type 0} (l : Logic) (M : Model W E) (symbols : List Symbol) → IsClosed M → RelationFits l M → Grows l M → (a : Source) → IsTrue (is_well (is_modal l) a)
    → (w : W) → IsWorld M w → (x : E) → IsIn M w x → AreAlike (IsTrueClosed l M symbols a w) (IsTrueForAll l M symbols a w)
universal l M symbols closed fits grows a well w at x there =
    (closed-for_all l M symbols closed fits grows a well w at, for_all-closed l M symbols closed fits grows a w at x there)
