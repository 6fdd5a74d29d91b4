-- Lists that close the leftmost open goal of a list: what is grown on the way has goals that are closed too, and goes on by choices of an
-- open goal. Where no such list is pending any more, no bindings close the goal.
use Rattle.std.proofs.Common.{◌≡◌, ℕ, zero, suc, ◌+◌, ◌-◌, ◌<◌, ◌≤◌, List, [], ◌∷◌, ◌++◌, length, map, remove, ◌&&◌, IsTrue, refl, sym, ◌∙◌, ap, subst, Some, option_and_then, slice_get, nat_lt, arith, append_assoc, append-nil}
use Rattle.std.specs.List.{list_all, AllByRecursion}
use Rattle.std.proofs.lemmas.Bool.{and_parts, and_from}
use Rattle.std.proofs.lemmas.List.{length-append, length-map}
use Rattle.plain_laws.proofs.Every.{all-append, each-append}
use Rattle.plain_laws.proofs.Places.{get-front, map-there}
use Rattle.plain_laws.proofs.Options.{same-some, then-some}
use Rattle.calculus.specs.Syntax.{Problem}
use Rattle.calculus.specs.Ground.{GroundLiteral}
use Rattle.calculus.specs.ComputedInstances.{is_instance}
use Rattle.calculus.specs.Tableaux.{Closing, Closings, reduce, extend, no_closings, more_closings, ancestor, is_shown, closes, closes_all}
use Rattle.calculus.specs.Choices.{start, reduction, extension, Choice, GroundChoice, choice_of, choices_of, choices_below, choices_of_all, Goal, Growth, is_opposite, goals_on, after_start, grow_at, grow, growth_of, is_within}
use Rattle.calculus.proofs.GrowthLaws.{extended-parts, goals_below, goals_of_all, depths_below, depths_of_all, grown_at, is_below, run}
use Rattle.store_theory.specs.Stores.{Store, Solution}
use Rattle.search_theory.specs.Exploring.{BeginsWith, BeginsWithOne, behind}
use Rattle.search_theory.specs.Goals.{IsChoiceAt}
use Rattle.search_theory.specs.Jumps.{IsSolvedList, IsSolvedBehind}
use Rattle.search_theory.specs.Matrix.{MatrixClause, IsTemplateMatrix}
use Rattle.search_theory.specs.OrderedChoices.{choices_at}
use Rattle.search_theory.specs.States.{CellChoice, CellGoal, State, literal_by, choice_at, goal_at, growth_at, IsGround, IsStateOf}
use Rattle.search_theory.proofs.BeginningLaws.{beginning, growth-append, not-empty-behind, within-kept}
use Rattle.search_theory.specs.DeadEnds.{is_not_empty, Grows}
use Rattle.search_theory.proofs.ChoiceLaws.{choices-complete}
use Rattle.search_theory.proofs.ExploreLaws.{begins-behind}
use Rattle.search_theory.proofs.ExtensionLaws.{extension-of, last-at, reduction-of, state_at}
use Rattle.search_theory.proofs.ImageLaws.{names-image}
use Rattle.search_theory.proofs.LastChoice.{grow_once, none≢some}
use Rattle.search_theory.proofs.LookAheadLaws.{closeable}
use Rattle.search_theory.specs.Closing.{IsCloseable}
use Rattle.search_theory.proofs.NextLaws.{extension-shape, grown_state, not-start, reduction-shape}
use Rattle.search_theory.proofs.StepLaws.{if-some}

-- ---- where a goal stands in a list

pub get-behind : {A : Type 0} (xs ys : List A) (i : ℕ) → slice_get (xs ++ ys) (length xs + i) ≡ slice_get ys i
get-behind [] ys i = ap (slice_get ys) (let e : 0 + i ≡ i = omega arith in e)
get-behind (x ∷ xs) ys i = ap (slice_get (x ∷ (xs ++ ys))) (let e : suc (length xs) + i ≡ suc (length xs + i) = omega arith in e) ∙ get-behind xs ys i

-- an item of a list from the number n on is one of what stands behind the first n items
get-later : {A : Type 0} (xs ys zs more : List A) (n j : ℕ) (y : A) → length xs ≡ n → n ≤ j → xs ++ ys ≡ zs ++ more → slice_get zs j ≡ Some y → slice_get ys (j - n) ≡ Some y
get-later xs ys zs more n j y l k e at =
    let map-there : slice_get (xs ++ ys) j ≡ Some y = ap (λ us. slice_get us j) e ∙ get-front zs more j y at in
    let number : j ≡ length xs + (j - n) = omega (arith, l, k) in
    sym (get-behind xs ys (j - n)) ∙ sym (ap (slice_get (xs ++ ys)) number) ∙ map-there

each-at : {A : Type 0} (Q : A → Type 0) (xs : List A) (i : ℕ) (x : A) → AllByRecursion Q xs → slice_get xs i ≡ Some x → Q x
each-at Q [] i x h e = cc e
each-at Q (y ∷ xs) zero x h e = let q : y ≡ x = cc e in subst Q q h.0
each-at Q (y ∷ xs) (suc i) x h e = each-at Q xs i x h.1 e

-- ---- goals below a goal

-- the path has more goals than k
abbrev pub IsDeeper : ℕ → Goal → Type 0
IsDeeper k g = k < length g.path

deeper-on : (k : ℕ) (path xs : List GroundLiteral) → k < length path → AllByRecursion (IsDeeper k) (goals_on path xs)
deeper-on k path [] l = tt
deeper-on k path (x ∷ xs) l = (l, deeper-on k path xs l)

mutual
  deeper-below : (k : ℕ) (g : GroundLiteral) (path : List GroundLiteral) (c : Closing) → k ≤ length path → AllByRecursion (IsDeeper k) (goals_below g path c)
  deeper-below k g path (reduce up) l = tt
  deeper-below k g path (extend i place below) l =
      each-append (IsDeeper k) (goals_on (g ∷ path) (remove i.literals place)) (goals_of_all (remove i.literals place) (g ∷ path) below) (deeper-on k (g ∷ path) (remove i.literals place) (omega (arith, l))) (deeper-all k (remove i.literals place) (g ∷ path) below (omega (arith, l)))

  deeper-all : (k : ℕ) (goals path : List GroundLiteral) (cs : Closings) → k ≤ length path → AllByRecursion (IsDeeper k) (goals_of_all goals path cs)
  deeper-all k goals path no_closings l = tt
  deeper-all k [] path (more_closings c cs) l = tt
  deeper-all k (g ∷ goals) path (more_closings c cs) l = each-append (IsDeeper k) (goals_below g path c) (goals_of_all goals path cs) (deeper-below k g path c l) (deeper-all k goals path cs l)

mutual
  within-below : (P : Problem) (d : ℕ) (c : Closing) (path : List GroundLiteral) (g : GroundLiteral) → IsTrue (closes P d path g c) → IsTrue (list_all (is_below d) (depths_below g path c))
  within-below P d (reduce up) path g h = refl
  within-below P d (extend i place below) path g h =
      let e = extended-parts P d path g i place below h in
      and_from (nat_lt (length path) d) (list_all (is_below d) (depths_of_all (remove i.literals place) (g ∷ path) below)) e.within (within-all P d below (g ∷ path) (remove i.literals place) e.all_closed)

  within-all : (P : Problem) (d : ℕ) (cs : Closings) (path goals : List GroundLiteral) → IsTrue (closes_all P d path goals cs) → IsTrue (list_all (is_below d) (depths_of_all goals path cs))
  within-all P d no_closings path goals h = refl
  within-all P d (more_closings c cs) path [] h = refl
  within-all P d (more_closings c cs) path (g ∷ goals) h =
      let parts = and_parts (closes P d path g c) (closes_all P d path goals cs) h in
      all-append (is_below d) (depths_below g path c) (depths_of_all goals path cs) (within-below P d c path g parts.0) (within-all P d cs path goals parts.1)

-- ---- open goals: no one has a longer path than those before it

abbrev pub FallOff : List Goal → Type 0
FallOff [] = Unit {0}
FallOff (g ∷ gs) = AllByRecursion (λ (x : Goal). length x.path ≤ length g.path) gs × FallOff gs

shorter-on : (k : ℕ) (path xs : List GroundLiteral) → length path ≤ k → AllByRecursion (λ (x : Goal). length x.path ≤ k) (goals_on path xs)
shorter-on k path [] l = tt
shorter-on k path (x ∷ xs) l = (l, shorter-on k path xs l)

weaker : (gs : List Goal) (k n : ℕ) → k ≤ n → AllByRecursion (λ (x : Goal). length x.path ≤ k) gs → AllByRecursion (λ (x : Goal). length x.path ≤ n) gs
weaker [] k n l h = tt
weaker (g ∷ gs) k n l h = ((let a = h.0 in omega (arith, a, l)), weaker gs k n l h.1)

fall-on : (path xs : List GroundLiteral) (gs : List Goal) → AllByRecursion (λ (x : Goal). length x.path ≤ length path) gs → FallOff gs → FallOff (goals_on path xs ++ gs)
fall-on path [] gs h k = k
fall-on path (x ∷ xs) gs h k = (each-append (λ (y : Goal). length y.path ≤ length path) (goals_on path xs) gs (shorter-on (length path) path xs (omega arith)) h, fall-on path xs gs h k)

fall-once : (P : Problem) (c : GroundChoice) (gs : List Goal) (x y : Growth) → FallOff gs → grow_at P c gs x ≡ Some y → FallOff y.open_goals
fall-once P (start i) gs x y h e = none≢some y e
fall-once P (reduction up) [] x y h e = none≢some y e
fall-once P (reduction up) (g ∷ gs) x y h e =
    let q = if-some (is_opposite g.literal (ancestor g.path up)) _ y e in
    subst (λ (z : Growth). FallOff z.open_goals) q.1 h.1
fall-once P (extension i place) [] x y h e = none≢some y e
fall-once P (extension i place) (g ∷ gs) x y h e =
    let q = if-some (is_instance P i && is_opposite g.literal (slice_get i.literals place)) _ y e in
    subst (λ (z : Growth). FallOff z.open_goals) q.1 (fall-on (g.literal ∷ g.path) (remove i.literals place) gs (weaker gs (length g.path) (suc (length g.path)) (omega arith) h.0) h.1)

fall-all : (P : Problem) (cs : List GroundChoice) (x y : Growth) → FallOff x.open_goals → grow P cs x ≡ Some y → FallOff y.open_goals
fall-all P [] x y h e = let q : x ≡ y = cc e in subst (λ (z : Growth). FallOff z.open_goals) q h
fall-all P (c ∷ cs) x y h e =
    let (z, first, rest) = then-some (grow P cs) (grow_at P c x.open_goals x) y e in
    fall-all P cs z y (fall-once P c x.open_goals x z h first) rest

pub open-fall : (P : Problem) (gs : List GroundChoice) (y : Growth) → growth_of P gs ≡ Some y → FallOff y.open_goals
open-fall P [] y e = none≢some y e
open-fall P (start i ∷ cs) y e =
    let (z, first, rest) = then-some (grow P cs) (after_start P i) y e in
    let q = if-some (is_instance P i && list_all is_shown i.literals) _ z first in
    let plain = subst FallOff (append-nil (goals_on [] i.literals)) (fall-on [] i.literals [] tt tt) in
    fall-all P cs z y (subst (λ (x : Growth). FallOff x.open_goals) q.1 plain) rest
open-fall P (reduction up ∷ cs) y e = none≢some y e
open-fall P (extension i place ∷ cs) y e = none≢some y e

-- ---- what such a list grows

-- the tree in which the goal is closed
abbrev pub grown_by : (P : Problem) (d : ℕ) (c b : List Choice) → IsSolvedList P d c b → Growth
grown_by P d c b k = grown_at k.behind (k.growth.all_goals ++ goals_below k.goal.literal k.goal.path k.closing) (k.growth.depths ++ depths_below k.goal.literal k.goal.path k.closing)

abbrev pub solved_choices : (P : Problem) (d : ℕ) (c b : List Choice) → IsSolvedList P d c b → List GroundChoice
solved_choices P d c b k = k.choices ++ choices_below k.closing

appended : (P : Problem) (gs ks : List GroundChoice) (x : Growth) → growth_of P gs ≡ Some x → growth_of P (gs ++ ks) ≡ grow P ks x
appended P [] ks x e = none≢some x e
appended P (g ∷ gs) ks x e = growth-append P g gs ks ∙ ap (option_and_then (grow P ks)) e

pub solved-grows : (P : Problem) (d : ℕ) (c b : List Choice) (k : IsSolvedList P d c b) → growth_of P (solved_choices P d c b k) ≡ Some (grown_by P d c b k)
solved-grows P d c b k =
    appended P k.choices (choices_below k.closing) k.growth k.grows
    ∙ (λ i. grow P (sym (append-nil (choices_below k.closing)) i) (grown_at (k.opened i) k.growth.all_goals k.growth.depths))
    ∙ run P d k.closing k.goal.path k.goal.literal k.closed k.behind k.growth.all_goals k.growth.depths []

names-both : (xs ys : List GroundChoice) → choices_of (xs ++ ys) ≡ choices_of xs ++ choices_of ys
names-both [] ys = refl
names-both (x ∷ xs) ys = ap (λ zs. choice_of x ∷ zs) (names-both xs ys)

pub solved-names : (P : Problem) (d : ℕ) (c b : List Choice) (k : IsSolvedList P d c b) → choices_of (solved_choices P d c b k) ≡ b
solved-names P d c b k = names-both k.choices (choices_below k.closing) ∙ ap (λ xs. xs ++ choices_of (choices_below k.closing)) k.names ∙ sym k.is_list

solved-within : (P : Problem) (d : ℕ) (c b : List Choice) (k : IsSolvedList P d c b) → IsTrue (is_within d (grown_by P d c b k))
solved-within P d c b k = all-append (λ n. nat_lt n d) k.growth.depths (depths_below k.goal.literal k.goal.path k.closing) k.within (within-below P d k.closing k.goal.path k.goal.literal k.closed)

-- ---- a beginning of such a list

-- the tree that a beginning grows, which is part of the whole one
record Begun (P : Problem) (d : ℕ) (c b p : List Choice) (k : IsSolvedList P d c b) : Type 0 where
  choices : List GroundChoice
  growth : Growth
  names : choices_of choices ≡ p
  grows : growth_of P choices ≡ Some growth
  within : IsTrue (is_within d growth)
  more : List Goal
  goals : k.growth.all_goals ++ goals_below k.goal.literal k.goal.path k.closing ≡ growth.all_goals ++ more

begun : (P : Problem) (d : ℕ) (c b p : List Choice) (k : IsSolvedList P d c b) → IsTrue (is_not_empty p) → BeginsWith p b → Begun P d c b p k
begun P d c b p k n (more, q) =
    let h = beginning P (solved_choices P d c b k) (grown_by P d c b k) p more n (solved-grows P d c b k) (solved-names P d c b k ∙ q) in
    record { choices = h.choices; growth = h.growth; names = h.names; grows = h.grows; within = within-kept d h.growth (grown_by P d c b k) h.keeps (solved-within P d c b k); more = h.keeps.more_goals; goals = h.keeps.goals }

-- no list that closes the goal begins with one that no tree follows
pub refused-unsolved : (P : Problem) (d : ℕ) (c p b : List Choice) → IsTrue (is_not_empty p) → ¬ Grows P p → IsSolvedList P d c b → ¬ BeginsWith p b
refused-unsolved P d c p b n none k h = let g = begun P d c b p k n h in none (g.choices, g.growth, g.names, g.grows)

-- how many goals the tree of c has
pub solved-goals : (P : Problem) (d : ℕ) (c b : List Choice) (S : State) → IsStateOf P d c S → (k : IsSolvedList P d c b) → length k.growth.all_goals ≡ length S.growth.all_goals
solved-goals P d c b S h k =
    let (σ, ground, image) = h.complete k.choices k.growth k.names k.grows in
    let same : k.growth ≡ growth_at σ S.growth = same-some (growth_of P k.choices) k.growth (growth_at σ S.growth) k.grows (ap (growth_of P) (sym image) ∙ h.sound σ ground) in
    ap (λ (x : Growth). length x.all_goals) same ∙ length-map S.growth.all_goals (goal_at σ)

-- by some ground solution the state's goals from the number n on are closed, and below the goal
pub record SolvedImage (P : Problem) (d : ℕ) (S : State) (n depth : ℕ) : Type 0 where
  pub solution : Solution
  pub ground : IsGround P S solution
  pub closeable : (j : ℕ) (g : CellGoal) → n ≤ j → slice_get S.growth.all_goals j ≡ Some g → IsCloseable P d (goal_at solution g)
  pub deeper : (j : ℕ) (g : CellGoal) → n ≤ j → slice_get S.growth.all_goals j ≡ Some g → depth < length g.path

-- one of the goals below
below-at : (P : Problem) (d : ℕ) (c b p : List Choice) (k : IsSolvedList P d c b) (h : Begun P d c b p k) (n j : ℕ) (x : Goal) → length k.growth.all_goals ≡ n → n ≤ j → slice_get h.growth.all_goals j ≡ Some x → IsCloseable P d x × IsDeeper (length k.goal.path) x
below-at P d c b p k h n j x l m at =
    let found = get-later k.growth.all_goals (goals_below k.goal.literal k.goal.path k.closing) h.growth.all_goals h.more n j x l m h.goals at in
    let goals = goals_below k.goal.literal k.goal.path k.closing in (
      each-at (IsCloseable P d) goals (j - n) x (closeable P d k.closing k.goal.path k.goal.literal k.closed) found,
      each-at (IsDeeper (length k.goal.path)) goals (j - n) x (deeper-below (length k.goal.path) k.goal.literal k.goal.path k.closing (omega arith)) found,
    )

-- the tree that a beginning grows: its goals from the number n on are closed
pub record LaterClosed (P : Problem) (d : ℕ) (p : List Choice) (n : ℕ) : Type 0 where
  pub choices : List GroundChoice
  pub growth : Growth
  pub names : choices_of choices ≡ p
  pub grows : growth_of P choices ≡ Some growth
  pub goals : (j : ℕ) (x : Goal) → n ≤ j → slice_get growth.all_goals j ≡ Some x → IsCloseable P d x

pub later-closed : (P : Problem) (d : ℕ) (c p b : List Choice) (S : State) → IsTrue (is_not_empty p) → IsStateOf P d c S → IsSolvedList P d c b → BeginsWith p b → LaterClosed P d p (length S.growth.all_goals)
later-closed P d c p b S n h k begins =
    let g = begun P d c b p k n begins in
    record { choices = g.choices; growth = g.growth; names = g.names; grows = g.grows; goals = λ j x l at. (below-at P d c b p k g (length S.growth.all_goals) j x (solved-goals P d c b S h k) l at).0 }

pub solved-image : (P : Problem) (d : ℕ) (c p b : List Choice) (S : State) (n : ℕ) → IsTrue (is_not_empty p) → IsStateOf P d p S → (k : IsSolvedList P d c b) → length k.growth.all_goals ≡ n → BeginsWith p b → SolvedImage P d S n (length k.goal.path)
solved-image P d c p b S n m h k l begins =
    let g = begun P d c b p k m begins in
    let (σ, ground, image) = h.complete g.choices g.growth g.names g.grows in
    let same : g.growth ≡ growth_at σ S.growth = same-some (growth_of P g.choices) g.growth (growth_at σ S.growth) g.grows (ap (growth_of P) (sym image) ∙ h.sound σ ground) in
    let at : (j : ℕ) (x : CellGoal) → slice_get S.growth.all_goals j ≡ Some x → slice_get g.growth.all_goals j ≡ Some (goal_at σ x) = λ j x e. ap (λ (y : Growth). slice_get y.all_goals j) same ∙ map-there (goal_at σ) S.growth.all_goals j x e in
    record {
      solution = σ;
      ground = ground;
      closeable = λ j x f e. (below-at P d c b p k g n j (goal_at σ x) l f (at j x e)).0;
      deeper = λ j x f e. (let deep = (below-at P d c b p k g n j (goal_at σ x) l f (at j x e)).1 in let long = length-map x.path (literal_by σ) in omega (arith, deep, long));
    }

-- ---- the next choice

-- one more choice that grows a tree within the limit is one of the goal's choices
next-grown : (P : Problem) (d : ℕ) (p : List Choice) (s : Store) (cs : List CellChoice) (g : CellGoal) (gs every : List CellGoal) (ds : List ℕ) → IsStateOf P d p (state_at s cs g gs every ds) → IsTrue (is_not_empty p) → (x : Choice) (hs : List GroundChoice) (y : Growth) → choices_of hs ≡ p ++ x ∷ [] → growth_of P hs ≡ Some y → IsTrue (is_within d y) → IsChoiceAt P d g x
next-grown P d p s cs g gs every ds h n (start ss) hs y e q w = absurd (not-start P p ss hs y n e q)
next-grown P d p s cs g gs every ds h n (reduction up) hs y e q w =
    let l = last-at P d p (state_at s cs g gs every ds) (reduction up) h refl hs y e q in
    let is = reduction-of l.last up l.last_name in
    reduction-shape P d g gs every ds l.solution up y (ap (λ c. grow_once P c (grown_state g gs every ds l.solution)) (sym is) ∙ l.grown)
next-grown P d p s cs g gs every ds h n (extension sides place) hs y e q w =
    let l = last-at P d p (state_at s cs g gs every ds) (extension sides place) h refl hs y e q in
    let (j, is, selected) = extension-of l.last sides place l.last_name in
    subst (λ ss. IsChoiceAt P d g (extension ss place)) selected (extension-shape P d g gs every ds l.solution j place y (ap (λ c. grow_once P c (grown_state g gs every ds l.solution)) (sym is) ∙ l.grown) w)

begins-more : (p : List Choice) (x : Choice) (more b : List Choice) → b ≡ p ++ x ∷ more → BeginsWith (p ++ x ∷ []) b
begins-more p x more b e = (more, e ∙ sym (append_assoc p (x ∷ []) more))

-- a list that closes the goal and goes on behind p goes on by a choice of the leftmost open goal of p
next-solved : (P : Problem) (m : List MatrixClause) (d : ℕ) (c p b : List Choice) (s : Store) (cs : List CellChoice) (g : CellGoal) (gs every : List CellGoal) (ds : List ℕ) → IsTemplateMatrix P m → IsStateOf P d p (state_at s cs g gs every ds) → IsTrue (is_not_empty p) → (k : IsSolvedList P d c b) → BeginsWith p b → ¬ (b ≡ p) → BeginsWithOne (behind p (choices_at m d g)) b
next-solved P m d c p b s cs g gs every ds tm h n k ([], q) differs = absurd (differs (q ∙ append-nil p))
next-solved P m d c p b s cs g gs every ds tm h n k (x ∷ more, q) differs =
    let t = begun P d c b (p ++ x ∷ []) k (not-empty-behind p x) (begins-more p x more b q) in
    begins-behind p (choices_at m d g) x more b (choices-complete P m d g tm x (next-grown P d p s cs g gs every ds h n x t.choices t.growth t.names t.grows t.within)) q

-- a goal takes at least one choice
some-choice : (k : Closing) (xs : List Choice) → ¬ (xs ++ choices_of (choices_below k) ≡ xs)
some-choice (reduce up) xs e = let l = ap length e in let m = length-append xs (reduction up ∷ []) in omega (arith, l, m)
some-choice (extend i place below) xs e = let l = ap length e in let m = length-append xs (extension i.selection place ∷ choices_of (choices_of_all below)) in omega (arith, l, m)

-- at the list itself: its goal's choices come next
pub solved-first : (P : Problem) (m : List MatrixClause) (d : ℕ) (c : List Choice) (s : Store) (cs : List CellChoice) (g : CellGoal) (gs every : List CellGoal) (ds : List ℕ) → IsTemplateMatrix P m → IsStateOf P d c (state_at s cs g gs every ds) → IsTrue (is_not_empty c) → IsSolvedBehind P d c (behind c (choices_at m d g))
solved-first P m d c s cs g gs every ds tm h n b k = next-solved P m d c c b s cs g gs every ds tm h n k (choices_of (choices_below k.closing), k.is_list) (λ e. some-choice k.closing c (sym k.is_list ∙ e))

head-shorter : (x : Goal) (xs : List Goal) (g : Goal) (gs : List Goal) → FallOff (x ∷ xs) → xs ≡ g ∷ gs → length g.path ≤ length x.path
head-shorter x [] g gs h e = cc e
head-shorter x (y ∷ ys) g gs h e = let q : y ≡ g = cc e in let l = h.0.0 in subst (λ (z : Goal). length z.path ≤ length x.path) q l

-- behind a list whose leftmost open goal came after the tree of c, which had n goals, the goal of c is not closed yet
pub solved-later : (P : Problem) (m : List MatrixClause) (d : ℕ) (c p b : List Choice) (s : Store) (cs : List CellChoice) (g : CellGoal) (gs every : List CellGoal) (ds : List ℕ) (n j : ℕ) → IsTemplateMatrix P m → IsStateOf P d p (state_at s cs g gs every ds) → IsTrue (is_not_empty p) → (k : IsSolvedList P d c b) → length k.growth.all_goals ≡ n → n ≤ j → slice_get every j ≡ Some g → BeginsWith p b → BeginsWithOne (behind p (choices_at m d g)) b
solved-later P m d c p b s cs g gs every ds n j tm h not_empty k l later at begins = next-solved P m d c p b s cs g gs every ds tm h not_empty k begins (λ e. whole e)
  where
    whole : ¬ (b ≡ p)
    whole e =
        let (σ, ground, image) = h.complete (solved_choices P d c b k) (grown_by P d c b k) (solved-names P d c b k ∙ e) (solved-grows P d c b k) in
        let same : grown_state g gs every ds σ ≡ grown_by P d c b k = same-some (growth_of P (solved_choices P d c b k)) (grown_state g gs every ds σ) (grown_by P d c b k) (ap (growth_of P) (sym image) ∙ h.sound σ ground) (solved-grows P d c b k) in
        let opened : k.behind ≡ goal_at σ g ∷ map (goal_at σ) gs = sym (ap (λ (x : Growth). x.open_goals) same) in
        let shallow = head-shorter k.goal k.behind (goal_at σ g) (map (goal_at σ) gs) (subst FallOff k.opened (open-fall P k.choices k.growth k.grows)) opened in
        let r = solved-image P d c p b (state_at s cs g gs every ds) n not_empty h k l begins in
        let deep = r.deeper j g later at in
        let long = length-map g.path (literal_by σ) in
        omega (arith, shallow, deep, long)

-- ---- nothing is pending

-- where no list closes the goal, no ground solution of the state makes it one that is closed
pub unsolved-open : (P : Problem) (d : ℕ) (c : List Choice) (S : State) (g : CellGoal) (gs : List CellGoal) → IsStateOf P d c S → S.growth.open_goals ≡ g ∷ gs → IsSolvedBehind P d c [] → (σ : Solution) → IsGround P S σ → ¬ IsCloseable P d (goal_at σ g)
unsolved-open P d c S g gs h o none σ ground (k, closed) = none (c ++ choices_of (choices_below k)) (record {
  choices = map (choice_at σ) S.choices;
  growth = growth_at σ S.growth;
  goal = goal_at σ g;
  behind = map (goal_at σ) gs;
  closing = k;
  names = names-image σ S.choices ∙ h.names;
  grows = h.sound σ ground;
  opened = ap (map (goal_at σ)) o;
  within = h.within;
  closed = closed;
  is_list = refl;
})
