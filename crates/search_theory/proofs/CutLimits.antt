-- Where a search that does not return to solved goals was not stopped by its limit, each greater limit has the same result: what is sound
-- within a limit is so within each greater one, a goal has no choice more there, and the closed tableaux of a list are the same.
use Rattle.std.proofs.Common.{◌≡◌, ◌⊎◌, ℕ, suc, ◌+◌, ◌<◌, ◌≤◌, List, [], ◌∷◌, ◌++◌, length, map, Bool, true, false, ◌&&◌, IsTrue, refl, sym, ◌∙◌, ap, subst, Option, Some, None, option_and_then, slice_get, nat_lt, IsSomeAnd, arith, append_assoc, append-nil, inl, inr, ltb-true, lt-ltb, zero, replicate}
use Rattle.std.specs.List.{AllByRecursion, list_all}
use Rattle.std.proofs.lemmas.Bool.{and_from, and_parts, cases_lt}
use Rattle.plain_laws.proofs.Every.{all-weaken}
use Rattle.calculus.specs.declared.sign.Side.{Side}
use Rattle.calculus.specs.Syntax.{Problem}
use Rattle.calculus.specs.ComputedInstances.{is_instance}
use Rattle.calculus.specs.Tableaux.{is_shown}
use Rattle.calculus.specs.Choices.{start, reduction, extension, Choice, GroundChoice, choice_of, choices_of, ground_choices, Goal, Growth, is_opposite, after_start, grow_at, grow, growth_of, is_within, IsLive}
use Rattle.calculus.specs.Clauses.{clause_size}
use Rattle.calculus.specs.Cut.{IsRegularLive, Fills, followed_by, goals_added}
use Rattle.store_theory.specs.Stores.{Solution, Store}
use Rattle.calculus.proofs.GrowthLaws.{closed_growth, closed-parts, grown-closed}
use Rattle.calculus.proofs.LimitLaws.{lowered}
use Rattle.search_theory.specs.Cutting.{AreUntried, FailsFrom, IsToldOf, depths_after, depths_from}
use Rattle.search_theory.specs.Exploring.{IsClosedList}
use Rattle.search_theory.specs.Goals.{IsChoiceAt, by_ancestor, by_clause}
use Rattle.search_theory.specs.Matrix.{MatrixClause, IsTemplateMatrix}
use Rattle.search_theory.specs.OrderedChoices.{choices_at}
use Rattle.search_theory.specs.States.{CellChoice, CellGoal, State, IsGround, IsStateOf, choice_at, growth_at}
use Rattle.search_theory.specs.DeadEnds.{IsDead, is_not_empty}
use Rattle.search_theory.proofs.ChoiceLaws.{choices-complete}
use Rattle.search_theory.proofs.CutEnds.{fails-whole}
use Rattle.search_theory.proofs.DepthLaws.{cell_path_lengths, path_lengths, start-depths, state-depths, step-depths}
use Rattle.search_theory.proofs.ExtensionLaws.{state_at}
use Rattle.search_theory.proofs.ImageLaws.{names-image}
use Rattle.search_theory.proofs.LastChoice.{none≢some}
use Rattle.search_theory.proofs.NextLaws.{next-choice}
use Rattle.search_theory.proofs.SoundLaws.{all-untried, beginning-sound, dead-unsound, sound-beginning}
use Rattle.search_theory.proofs.StepLaws.{if-some}

-- ---- how many goals are above each extension

abbrev depth_of : Choice → List ℕ → List ℕ
depth_of (start s) ks = []
depth_of (reduction up) ks = []
depth_of (extension s place) [] = []
depth_of (extension s place) (k ∷ ks) = k ∷ []

-- by the choices alone, where the open goals lie so deep
abbrev depths_made : Problem → List ℕ → List Choice → List ℕ
depths_made P ks [] = []
depths_made P ks (x ∷ c) = depth_of x ks ++ depths_made P (depths_after P x ks) c

step-made : (P : Problem) (c : GroundChoice) (x y : Growth) → grow_at P c x.open_goals x ≡ Some y → y.depths ≡ x.depths ++ depth_of (choice_of c) (path_lengths x.open_goals)
step-made P c x y e = by c x.open_goals e
  where
    by : (z : GroundChoice) (gs : List Goal) → grow_at P z gs x ≡ Some y → y.depths ≡ x.depths ++ depth_of (choice_of z) (path_lengths gs)
    by (start i) gs f = none≢some y f
    by (reduction up) [] f = none≢some y f
    by (reduction up) (g ∷ gs) f = let q = if-some _ _ y f in ap (λ (w : Growth). w.depths) (sym q.1) ∙ sym (append-nil x.depths)
    by (extension i place) [] f = none≢some y f
    by (extension i place) (g ∷ gs) f = let q = if-some (is_instance P i && is_opposite g.literal (slice_get i.literals place)) _ y f in ap (λ (w : Growth). w.depths) (sym q.1)

all-made : (P : Problem) (cs : List GroundChoice) (x y : Growth) → grow P cs x ≡ Some y → y.depths ≡ x.depths ++ depths_made P (path_lengths x.open_goals) (choices_of cs)
all-made P [] x y e = let q : x ≡ y = cc e in ap (λ (w : Growth). w.depths) (sym q) ∙ sym (append-nil x.depths)
all-made P (c ∷ cs) x y e = by (grow_at P c x.open_goals x) refl e (λ z f. all-made P cs z y f)
  where
    by : (o : Option Growth) → grow_at P c x.open_goals x ≡ o → option_and_then (grow P cs) o ≡ Some y → ((z : Growth) → grow P cs z ≡ Some y → y.depths ≡ z.depths ++ depths_made P (path_lengths z.open_goals) (choices_of cs)) → y.depths ≡ x.depths ++ depths_made P (path_lengths x.open_goals) (choices_of (c ∷ cs))
    by None f g h = none≢some y g
    by (Some z) f g h =
        h z g
        ∙ ap (λ ks. ks ++ depths_made P (path_lengths z.open_goals) (choices_of cs)) (step-made P c x z f)
        ∙ append_assoc x.depths (depth_of (choice_of c) (path_lengths x.open_goals)) (depths_made P (path_lengths z.open_goals) (choices_of cs))
        ∙ ap (λ ks. x.depths ++ (depth_of (choice_of c) (path_lengths x.open_goals) ++ depths_made P ks (choices_of cs))) (step-depths P c x z f)

grown-made : (P : Problem) (gs : List GroundChoice) (y : Growth) → growth_of P gs ≡ Some y → y.depths ≡ depths_made P [] (choices_of gs)
grown-made P [] y e = none≢some y e
grown-made P (reduction up ∷ cs) y e = none≢some y e
grown-made P (extension i place ∷ cs) y e = none≢some y e
grown-made P (start i ∷ cs) y e = by (after_start P i) refl e
  where
    by : (o : Option Growth) → after_start P i ≡ o → option_and_then (grow P cs) o ≡ Some y → y.depths ≡ depths_made P [] (choices_of (start i ∷ cs))
    by None f g = none≢some y g
    by (Some z) f g =
        let none : z.depths ≡ [] = let q = if-some (is_instance P i && list_all is_shown i.literals) _ z f in ap (λ (w : Growth). w.depths) (sym q.1) in
        all-made P cs z y g ∙ ap (λ ks. ks ++ depths_made P (path_lengths z.open_goals) (choices_of cs)) none ∙ ap (λ ks. depths_made P ks (choices_of cs)) (start-depths P i z f)

-- trees of one list are within the same limits
within-alike : (P : Problem) (d : ℕ) (gs hs : List GroundChoice) (x y : Growth) → growth_of P gs ≡ Some x → growth_of P hs ≡ Some y → choices_of gs ≡ choices_of hs → IsTrue (is_within d x) → IsTrue (is_within d y)
within-alike P d gs hs x y gx gy e w = subst (λ ns. IsTrue (list_all (λ n. nat_lt n d) ns)) (grown-made P gs x gx ∙ ap (depths_made P []) e ∙ sym (grown-made P hs y gy)) w

-- ---- closed tableaux of a list that is live within a smaller limit

live-within : (P : Problem) (d : ℕ) (c : List Choice) (hs : List GroundChoice) (y : Growth) → IsLive P d c → growth_of P hs ≡ Some y → choices_of hs ≡ c → IsTrue (is_within d y)
live-within P d c hs y (gs, f) gy e = by (growth_of P gs) refl f.grows
  where
    by : (o : Option Growth) → growth_of P gs ≡ o → IsSomeAnd o (λ x. IsTrue (is_within d x)) → IsTrue (is_within d y)
    by None q w = elim w [ ]
    by (Some x) q w = within-alike P d gs hs x y q gy (f.choices ∙ sym e) w

pub closed-lower : (P : Problem) (d e : ℕ) (c : List Choice) → IsLive P d c → IsClosedList P e c → IsClosedList P d c
closed-lower P d e c live (t, closed, names) = (t, lowered P e d t (closed-parts P e t closed) (live-within P d c (ground_choices t) (closed_growth t) live (grown-closed P e t closed) names), names)

-- the list that is reached has no closed tableau, at a greater limit too
pub fails-whole_beyond : (P : Problem) (d e : ℕ) (s : List Side) (c : List Choice) → Fills P e (clause_size P s) (start s ∷ []) c → IsLive P d c → ¬ IsClosedList P d c → FailsFrom P e s
fails-whole_beyond P d e s c h live none = fails-whole P e s c h (λ k. none (closed-lower P d e c live k))

-- ---- sound lists

less-more : (d e n : ℕ) → d ≤ e → IsTrue (nat_lt n d) → IsTrue (nat_lt n e)
less-more d e n l h = let k : n < d = ltb-true n d h in lt-ltb n e (omega (arith, k, l))

pub sound-more : (P : Problem) (d e : ℕ) (c : List Choice) → d ≤ e → IsRegularLive P d c → IsRegularLive P e c
sound-more P d e c l h =
    let k = sound-beginning P d c h in
    beginning-sound P e c (record { choices = k.choices; growth = k.growth; names = k.names; grows = k.grows; within = all-weaken (λ n. nat_lt n d) (λ n. nat_lt n e) (λ n. less-more d e n l) k.growth.depths k.within; regular = k.regular })

-- ---- the choices of a goal

-- a choice within a greater limit is one within d, or an extension of a path of at least d goals
choice-within : (P : Problem) (d e : ℕ) (g : CellGoal) (x : Choice) → IsChoiceAt P e g x → IsChoiceAt P d g x ⊎ ((d ≤ length g.path) × ((sides : List Side) × (place : ℕ) × (x ≡ extension sides place) × IsChoiceAt P (length g.path + 1) g x))
choice-within P d e g x (by_ancestor k a at signs symbols) = inl (by_ancestor k a at signs symbols)
choice-within P d e g x (by_clause sides place near inside meets) = elim (cases_lt (length g.path) d) [
  | inl less ↦ inl (by_clause sides place (lt-ltb (length g.path) d less) inside meets)
  | inr far ↦ inr (far, (sides, place, refl, by_clause sides place (lt-ltb (length g.path) (length g.path + 1) (omega arith)) inside meets))
]

-- where no extension from a path of exactly d goals gives a regular tree, the goal has no other choices within a greater limit
pub untried-beyond : (P : Problem) (m : List MatrixClause) (d e : ℕ) (c : List Choice) (s : Store) (cs : List CellChoice) (g : CellGoal) (gs every : List CellGoal) (ds : List ℕ) → IsTemplateMatrix P m → IsStateOf P d c (state_at s cs g gs every ds) → IsTrue (is_not_empty c) → length g.path ≤ d → (length g.path ≡ d → (sides : List Side) (place : ℕ) → IsChoiceAt P (d + 1) g (extension sides place) → IsDead P (c ++ extension sides place ∷ [])) → AreUntried P e c (choices_at m d g)
untried-beyond P m d e c s cs g gs every ds matrix h n short dead y live =
    elim (choice-within P d e g y (next-choice P d e c s cs g gs every ds h n y (sound-beginning P e (followed_by c y) live))) [
      | inl w ↦ inl (choices-complete P m d g matrix y w)
      | inr (far, (sides, place, is, choice)) ↦ absurd (
          let same : length g.path ≡ d = omega (arith, far, short) in
          let at : IsChoiceAt P (d + 1) g (extension sides place) = subst (IsChoiceAt P (d + 1) g) is (subst (λ k. IsChoiceAt P (k + 1) g y) same choice) in
          dead-unsound P e (c ++ extension sides place ∷ []) (dead same sides place at) (subst (λ z. IsRegularLive P e (followed_by c z)) is live))
    ]

-- ---- how long the paths of open goals are

-- a path is at most one goal longer than that of an extension
short-from : (P : Problem) (d : ℕ) (ks : List ℕ) (c : List Choice) → AllByRecursion (λ k. k ≤ d) ks → IsTrue (list_all (λ n. nat_lt n d) (depths_made P ks c)) → AllByRecursion (λ k. k ≤ d) (depths_from P ks c)
short-from P d ks [] h w = h
short-from P d ks (x ∷ c) h w =
    let parts = all-parted (λ n. nat_lt n d) (depth_of x ks) (depths_made P (depths_after P x ks) c) w in
    short-from P d (depths_after P x ks) c (after x ks h parts.0) parts.1
  where
    all-parted : (f : ℕ → Bool) (xs ys : List ℕ) → IsTrue (list_all f (xs ++ ys)) → IsTrue (list_all f xs) × IsTrue (list_all f ys)
    all-parted f [] ys k = (refl, k)
    all-parted f (z ∷ xs) ys k = let q = and_parts (f z) (list_all f (xs ++ ys)) k in let r = all-parted f xs ys q.1 in (and_from (f z) (list_all f xs) q.0 r.0, r.1)

    so-many : (n k : ℕ) (ys : List ℕ) → k ≤ d → AllByRecursion (λ i. i ≤ d) ys → AllByRecursion (λ i. i ≤ d) (replicate n k ++ ys)
    so-many zero k ys l g = g
    so-many (suc n) k ys l g = (l, so-many n k ys l g)

    after : (y : Choice) (is : List ℕ) → AllByRecursion (λ k. k ≤ d) is → IsTrue (list_all (λ n. nat_lt n d) (depth_of y is)) → AllByRecursion (λ k. k ≤ d) (depths_after P y is)
    after (start s) is g k = subst (AllByRecursion (λ i. i ≤ d)) (append-nil (replicate (clause_size P s) 0)) (so-many (clause_size P s) 0 [] (omega arith) tt)
    after (reduction up) [] g k = tt
    after (reduction up) (i ∷ is) g k = g.1
    after (extension s place) [] g k = tt
    after (extension s place) (i ∷ is) g k =
        let l : i < d = ltb-true i d (and_parts (nat_lt i d) true k).0 in
        so-many (goals_added P (extension s place)) (suc i) is (omega (arith, l)) g.1

-- no path of an open goal of a state is longer than the limit
pub state-short : (P : Problem) (d : ℕ) (c : List Choice) (S : State) (σ : Solution) → IsStateOf P d c S → IsGround P S σ → AllByRecursion (λ k. k ≤ d) (cell_path_lengths S.growth.open_goals)
state-short P d c S σ h ground =
    let made : S.growth.depths ≡ depths_made P [] c = grown-made P (map (choice_at σ) S.choices) (growth_at σ S.growth) (h.sound σ ground) ∙ ap (depths_made P []) (names-image σ S.choices ∙ h.names) in
    subst (AllByRecursion (λ k. k ≤ d)) (sym (state-depths P d c S σ h ground)) (short-from P d [] c tt (subst (λ ns. IsTrue (list_all (λ n. nat_lt n d) ns)) made h.within))

-- ---- the limits of which a search tells

pub told-itself : (d : ℕ) (left : Bool) → IsToldOf d left d
told-itself d left = inl refl

pub told-from : (d e : ℕ) (left : Bool) → IsToldOf d left e → d ≤ e
told-from d e left (inl same) = omega (arith, same)
told-from d e left (inr (far, k)) = far

-- they are no more where it is shown that the limit is left
pub told-before : (d e : ℕ) (known left : Bool) → (left ≡ false → known ≡ false) → IsToldOf d left e → IsToldOf d known e
told-before d e known left h (inl same) = inl same
told-before d e known left h (inr (far, k)) = inr (far, h k)

-- at each of them the goal has no other choices
pub untried-told : (P : Problem) (m : List MatrixClause) (d e : ℕ) (left : Bool) (c : List Choice) (s : Store) (cs : List CellChoice) (g : CellGoal) (gs every : List CellGoal) (ds : List ℕ) → IsTemplateMatrix P m → IsStateOf P d c (state_at s cs g gs every ds) → IsTrue (is_not_empty c) → length g.path ≤ d → (left ≡ false → length g.path ≡ d → (sides : List Side) (place : ℕ) → IsChoiceAt P (d + 1) g (extension sides place) → IsDead P (c ++ extension sides place ∷ [])) → IsToldOf d left e → AreUntried P e c (choices_at m d g)
untried-told P m d e left c s cs g gs every ds matrix h n short dead (inl same) = subst (λ k. AreUntried P k c (choices_at m d g)) (sym same) (all-untried P m d c s cs g gs every ds matrix h n)
untried-told P m d e left c s cs g gs every ds matrix h n short dead (inr (far, k)) = untried-beyond P m d e c s cs g gs every ds matrix h n short (dead k)
