-- The choice points on the stack: they outlive what is done above them, and going back to the last one leaves those below it.
use Rattle.std.proofs.Common.{◌≡◌, ◌≤◌, ℕ, List, [], ◌∷◌, ◌++◌, length, take, refl, sym, ◌∙◌, ap, subst, arith}
use Rattle.std.specs.List.{AllByRecursion}
use Rattle.std.proofs.lemmas.List.{length-append, take-append-le}
use Rattle.plain_laws.proofs.Every.{each-last, each-push}
use Rattle.plain_laws.proofs.Places.{take-less}
use Rattle.store_theory.specs.Bindings.{IsEarlier, KeepsEarlier, KeepsMarks}
use Rattle.calculus.specs.Choices.{Choice}
use Rattle.store_theory.specs.Stores.{IsGood, Store, TrailMark, cut_at}
use Rattle.calculus.specs.Syntax.{Problem}
use Rattle.store_theory.proofs.StoreLaws.{IsGood-cut_at, cut_at-cut_at, length-less}
use Rattle.search_theory.specs.Matrix.{MatrixClause}
use Rattle.search_theory.specs.States.{CellGoal}
use Rattle.term_store.specs.StoreView.{the_mark}
use Rattle.connection_search.specs.Exploring.{AreAbove, ArePointsFrom, IsBefore, KeepsMoment}
use Rattle.search_tree.specs.Points.{HasUntried, IsPoint, IsSamePoint}
use Rattle.search_tree.specs.Trees.{KeepsTree}
use Rattle.search_tree.specs.declared.point.Point.{Point}
use Rattle.search_tree.specs.declared.tree.Goal.{Goal}
use Rattle.search_tree.specs.declared.tree.Step.{Step}
use Rattle.connection_search.proofs.LeftLaws.{at-moved}

pub untried-moved : (m : List MatrixClause) (d : ℕ) (steps after : List Step) (goals all : List Goal) (p : Point) (g : CellGoal) (untried : List Choice) → after ≡ steps → all ≡ goals → HasUntried m d steps goals p g untried → HasUntried m d after all p g untried
untried-moved m d steps after goals all p g untried ea eb h = rw (ea, eb) h

-- ---- points outlive what is done above them

kept-front : {A : Type 0} (n : ℕ) (before after : List A) → n ≤ length before → (more : List A) × (after ≡ before ++ more) → take n after ≡ take n before
kept-front n before after l (more, e) = ap (take n) e ∙ take-append-le n before more l

still-within : {A : Type 0} (n : ℕ) (before after : List A) → n ≤ length before → (more : List A) × (after ≡ before ++ more) → n ≤ length after
still-within n before after l (more, e) = let k = ap length e in let a = length-append before more in omega (arith, l, k, a)

pub point-kept : (P : Problem) (m : List MatrixClause) (base d : ℕ) (s t : Store) (steps after : List Step) (goals all : List Goal) (p : Point) (c untried : List Choice) (g : CellGoal) → KeepsMarks s t → KeepsTree steps goals after all → IsPoint P m base d s steps goals p c untried g → IsPoint P m base d t after all p c untried g
point-kept P m base d s t steps after goals all p c untried g marks kept h =
    let k = marks (the_mark p.mark) h.good in
    let es = kept-front p.steps steps after h.steps_within kept.0 in
    let eg = kept-front p.goals goals all h.goals_within kept.1 in
    record {
      good = k.0;
      at = at-moved P m base d c (cut_at (the_mark p.mark) s) (cut_at (the_mark p.mark) t) (take p.steps steps) (take p.steps after) (take p.goals goals) (take p.goals all) p.goal p.goal g k.1 es eg refl h.at;
      steps_within = still-within p.steps steps after h.steps_within kept.0;
      goals_within = still-within p.goals goals all h.goals_within kept.1;
      choices = untried-moved m d (take p.steps steps) (take p.steps after) (take p.goals goals) (take p.goals all) p g untried es eg h.choices;
    }

unfoldable pub points-kept : (P : Problem) (m : List MatrixClause) (base d : ℕ) (s t : Store) (steps after : List Step) (goals all : List Goal) (points : List Point) (pending : List (List Choice)) → KeepsMarks s t → KeepsTree steps goals after all → ArePointsFrom P m base d s steps goals points pending → ArePointsFrom P m base d t after all points pending
points-kept P m base d s t steps after goals all [] pending marks kept h = h
points-kept P m base d s t steps after goals all (p ∷ points) pending marks kept (c, untried, g, below, e, h, before, rest) = (c, untried, g, below, e, point-kept P m base d s t steps after goals all p c untried g marks kept h, before, points-kept P m base d s t steps after goals all points below marks kept rest)

-- ---- back to a point

pub mark-itself : (k : TrailMark) → IsEarlier k k
mark-itself k = record { cells = omega arith; entries = omega arith }

pub point-back : (P : Problem) (m : List MatrixClause) (base d : ℕ) (s : Store) (steps : List Step) (goals : List Goal) (p q : Point) (c untried : List Choice) (g : CellGoal) → IsBefore p q → IsPoint P m base d s steps goals q c untried g → IsPoint P m base d (cut_at (the_mark p.mark) s) (take p.steps steps) (take p.goals goals) q c untried g
point-back P m base d s steps goals p q c untried g b h =
    let es = take-less q.steps p.steps steps b.steps in
    let eg = take-less q.goals p.goals goals b.goals in
    record {
      good = IsGood-cut_at (the_mark q.mark) (the_mark p.mark) s b.marks h.good;
      at = at-moved P m base d c (cut_at (the_mark q.mark) s) (cut_at (the_mark q.mark) (cut_at (the_mark p.mark) s)) (take q.steps steps) (take q.steps (take p.steps steps)) (take q.goals goals) (take q.goals (take p.goals goals)) q.goal q.goal g (cut_at-cut_at (the_mark q.mark) (the_mark p.mark) s b.marks) es eg refl h.at;
      steps_within = length-less q.steps p.steps steps b.steps h.steps_within;
      goals_within = length-less q.goals p.goals goals b.goals h.goals_within;
      choices = untried-moved m d (take q.steps steps) (take q.steps (take p.steps steps)) (take q.goals goals) (take q.goals (take p.goals goals)) q g untried es eg h.choices;
    }

unfoldable pub points-back : (P : Problem) (m : List MatrixClause) (base d : ℕ) (s : Store) (steps : List Step) (goals : List Goal) (p : Point) (points : List Point) (pending : List (List Choice)) → AllByRecursion (IsBefore p) points → ArePointsFrom P m base d s steps goals points pending → ArePointsFrom P m base d (cut_at (the_mark p.mark) s) (take p.steps steps) (take p.goals goals) points pending
points-back P m base d s steps goals p [] pending b h = h
points-back P m base d s steps goals p (q ∷ points) pending b (c, untried, g, below, e, h, before, rest) = (c, untried, g, below, e, point-back P m base d s steps goals p q c untried g b.0 h, before, points-back P m base d s steps goals p points below b.1 rest)

-- the point at its own moment, of which other choices are left to try
pub point-next : (P : Problem) (m : List MatrixClause) (base d : ℕ) (s : Store) (steps : List Step) (goals : List Goal) (p q : Point) (c untried rest : List Choice) (g : CellGoal) → IsPoint P m base d s steps goals p c untried g → IsSamePoint p q → HasUntried m d (take p.steps steps) (take p.goals goals) q g rest → IsPoint P m base d s steps goals q c rest g
point-next P m base d s steps goals p q c untried rest g h same has =
    let em = ap the_mark same.mark in
    let es = ap (λ n. take n steps) same.steps in
    let eg = ap (λ n. take n goals) same.goals in
    record {
      good = subst (λ k. IsGood k s) (sym em) h.good;
      at = at-moved P m base d c (cut_at (the_mark p.mark) s) (cut_at (the_mark q.mark) s) (take p.steps steps) (take q.steps steps) (take p.goals goals) (take q.goals goals) p.goal q.goal g (ap (λ k. cut_at k s) em) es eg same.goal h.at;
      steps_within = let l = h.steps_within in let e = same.steps in omega (arith, l, e);
      goals_within = let l = h.goals_within in let e = same.goals in omega (arith, l, e);
      choices = untried-moved m d (take p.steps steps) (take q.steps steps) (take p.goals goals) (take q.goals goals) q g rest es eg has;
    }

pub before-same : (p q : Point) (points : List Point) → IsSamePoint p q → AllByRecursion (IsBefore p) points → AllByRecursion (IsBefore q) points
before-same p q [] same h = tt
before-same p q (x ∷ points) same h =
    let b = h.0 in
    let ls = b.steps in
    let lg = b.goals in
    let es = same.steps in
    let eg = same.goals in
    (record { marks = subst (IsEarlier (the_mark x.mark)) (sym (ap the_mark same.mark)) b.marks; steps = omega (arith, ls, es); goals = omega (arith, lg, eg) }, before-same p q points same h.1)

-- ---- moments

-- another point of the same moment in place of the last one
pub above-marked : (k : TrailMark) (points : List Point) (p q : Point) → q.mark ≡ p.mark → AreAbove k (points ++ p ∷ []) → AreAbove k (points ++ q ∷ [])
above-marked k points p q same h =
    let (rest, last) = each-last (λ (x : Point). IsEarlier k (the_mark x.mark)) points p h in
    each-push (λ (x : Point). IsEarlier k (the_mark x.mark)) points q rest (subst (IsEarlier k) (sym (ap the_mark same)) last)

pub above-rest : (k : TrailMark) (points : List Point) (p : Point) → AreAbove k (points ++ p ∷ []) → AreAbove k points
above-rest k points p h = (each-last (λ (x : Point). IsEarlier k (the_mark x.mark)) points p h).0

pub moment-itself : (k : TrailMark) (s : Store) → IsGood k s → KeepsMoment k s s
moment-itself k s g = (g, refl)

pub moment-both : (k : TrailMark) (r s t : Store) → KeepsMoment k r s → KeepsMoment k s t → KeepsMoment k r t
moment-both k r s t a b = (b.0, b.1 ∙ a.1)

-- back at the last point
pub moment-back : (k : TrailMark) (points : List Point) (p : Point) (s t : Store) → IsGood k s → AreAbove k (points ++ p ∷ []) → KeepsEarlier (the_mark p.mark) s t → KeepsMoment k s t
moment-back k points p s t g h keeps = keeps k (each-last (λ (x : Point). IsEarlier k (the_mark x.mark)) points p h).1 g

-- back there, and what followed
pub moment-kept : (k : TrailMark) (points : List Point) (p : Point) (s t u : Store) → IsGood k s → AreAbove k (points ++ p ∷ []) → KeepsEarlier (the_mark p.mark) s t → KeepsMarks t u → KeepsMoment k s u
moment-kept k points p s t u g h keeps marks =
    let back = moment-back k points p s t g h keeps in
    moment-both k s t u back (marks k back.0)
