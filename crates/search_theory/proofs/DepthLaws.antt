-- How deep the open goals of a tree lie, by its list of choices alone.
use Rattle.std.proofs.Common.{◌≡◌, ℕ, zero, suc, pred, ◌+◌, List, [], ◌∷◌, ◌++◌, length, map, replicate, false, ◌&&◌, IsTrue, refl, sym, ◌∙◌, ap, ap₂, Option, Some, None, option_and_then, slice_get, remove, arith}
use Rattle.std.specs.List.{list_all}
use Rattle.std.specs.Option.{option_map_or}
use Rattle.std.proofs.lemmas.Bool.{false≢true, and_parts}
use Rattle.std.proofs.lemmas.List.{length-map, map-append}
use Rattle.std.proofs.lemmas.List.Edits.{length-remove}
use Rattle.plain_laws.proofs.Places.{get-within}
use Rattle.calculus.specs.Syntax.{Problem}
use Rattle.calculus.specs.Ground.{GroundLiteral}
use Rattle.calculus.specs.Equality.{list_eq, literal_eq}
use Rattle.calculus.specs.Clauses.{clause_size}
use Rattle.calculus.specs.Instances.{ClauseInstance}
use Rattle.calculus.specs.ComputedInstances.{Part, instance_of, is_instance}
use Rattle.calculus.specs.Tableaux.{is_shown}
use Rattle.calculus.specs.Choices.{start, reduction, extension, Choice, GroundChoice, choice_of, choices_of, Goal, Growth, is_opposite, goals_on, new_goals, after_start, grow_at, grow, growth_of}
use Rattle.calculus.specs.Cut.{goals_added}
use Rattle.calculus.proofs.EqualityLaws.{list_eq-tells, literal_eq-tells}
use Rattle.calculus.proofs.InstanceLaws.{OnPart}
use Rattle.calculus.proofs.SizeLaws.{instance-size}
use Rattle.search_theory.specs.States.{CellGoal, State, IsStateOf, IsGround, choice_at, goal_at, growth_at, literal_by}
use Rattle.search_theory.proofs.ImageLaws.{names-image}
use Rattle.search_theory.proofs.LastChoice.{none≢some}
use Rattle.search_theory.proofs.StepLaws.{if-some}
use Rattle.search_theory.specs.Cutting.{depths_after, depths_from, open_depths}

-- ---- an instance has as many literals as its clause

size-by_part : (n : ℕ) (literals : List GroundLiteral) (o : Option Part) → OnPart (λ x. length x.literals ≡ n) o → IsTrue (option_map_or (λ (x : Part). list_eq literal_eq x.literals literals) o false) → length literals ≡ n
size-by_part n literals None h e = absurd (false≢true e)
size-by_part n literals (Some x) h e = ap (λ (xs : List GroundLiteral). length xs) (sym ((list_eq-tells literal_eq literal_eq-tells x.literals literals).0 e)) ∙ h

pub clause-long : (P : Problem) (i : ClauseInstance) → IsTrue (is_instance P i) → length i.literals ≡ clause_size P i.selection
clause-long P i h = size-by_part (clause_size P i.selection) i.literals (instance_of P i.selection i.values) (instance-size P i.selection i.values) h

there : (a : GroundLiteral) (o : Option GroundLiteral) → IsTrue (is_opposite a o) → (b : GroundLiteral) × (o ≡ Some b)
there a None h = absurd (false≢true h)
there a (Some b) h = (b, refl)

others-long : (P : Problem) (i : ClauseInstance) (place : ℕ) (g : GroundLiteral) → IsTrue (is_instance P i) → IsTrue (is_opposite g (slice_get i.literals place)) → length (remove i.literals place) ≡ goals_added P (extension i.selection place)
others-long P i place g h o =
    let (b, stands) = there g (slice_get i.literals place) o in
    by (length (remove i.literals place)) (length i.literals) (clause_size P i.selection) (length-remove i.literals place (get-within i.literals place b stands)) (clause-long P i h)
  where
    by : (k n m : ℕ) → k + 1 ≡ n → n ≡ m → k ≡ pred m
    by k n zero e f = absurd (omega (arith, e, f))
    by k n (suc m) e f = omega (arith, e, f)

-- ---- the depths of goals

abbrev pub path_lengths : List Goal → List ℕ
path_lengths gs = map (λ (g : Goal). length g.path) gs

lengths-on : (path : List GroundLiteral) (literals : List GroundLiteral) → path_lengths (goals_on path literals) ≡ replicate (length literals) (length path)
lengths-on path [] = refl
lengths-on path (x ∷ literals) = ap (λ ks. length path ∷ ks) (lengths-on path literals)

-- one choice at the leftmost open goal
pub step-depths : (P : Problem) (c : GroundChoice) (x y : Growth) → grow_at P c x.open_goals x ≡ Some y → path_lengths y.open_goals ≡ depths_after P (choice_of c) (path_lengths x.open_goals)
step-depths P c x y e = by c x.open_goals e
  where
    by : (z : GroundChoice) (gs : List Goal) → grow_at P z gs x ≡ Some y → path_lengths y.open_goals ≡ depths_after P (choice_of z) (path_lengths gs)
    by (start i) gs f = none≢some y f
    by (reduction up) [] f = none≢some y f
    by (reduction up) (g ∷ gs) f = let q = if-some _ _ y f in ap (λ (w : Growth). path_lengths w.open_goals) (sym q.1)
    by (extension i place) [] f = none≢some y f
    by (extension i place) (g ∷ gs) f =
        let q = if-some (is_instance P i && is_opposite g.literal (slice_get i.literals place)) _ y f in
        let p = and_parts (is_instance P i) (is_opposite g.literal (slice_get i.literals place)) q.0 in
        ap (λ (w : Growth). path_lengths w.open_goals) (sym q.1)
        ∙ map-append (λ (w : Goal). length w.path) (new_goals g i place) gs
        ∙ ap (λ ks. ks ++ path_lengths gs) (lengths-on (g.literal ∷ g.path) (remove i.literals place))
        ∙ ap (λ k. replicate k (suc (length g.path)) ++ path_lengths gs) (others-long P i place g.literal p.0 p.1)

all-depths : (P : Problem) (cs : List GroundChoice) (x y : Growth) → grow P cs x ≡ Some y → path_lengths y.open_goals ≡ depths_from P (path_lengths x.open_goals) (choices_of cs)
all-depths P [] x y e = let q : x ≡ y = cc e in ap (λ (w : Growth). path_lengths w.open_goals) (sym q)
all-depths P (c ∷ cs) x y e = by (grow_at P c x.open_goals x) refl e (λ z f. all-depths P cs z y f)
  where
    by : (o : Option Growth) → grow_at P c x.open_goals x ≡ o → option_and_then (grow P cs) o ≡ Some y → ((z : Growth) → grow P cs z ≡ Some y → path_lengths y.open_goals ≡ depths_from P (path_lengths z.open_goals) (choices_of cs)) → path_lengths y.open_goals ≡ depths_from P (path_lengths x.open_goals) (choices_of (c ∷ cs))
    by None f g h = none≢some y g
    by (Some z) f g h = h z g ∙ ap (λ ks. depths_from P ks (choices_of cs)) (step-depths P c x z f)

pub start-depths : (P : Problem) (i : ClauseInstance) (x : Growth) → after_start P i ≡ Some x → path_lengths x.open_goals ≡ replicate (clause_size P i.selection) 0
start-depths P i x e =
    let q = if-some (is_instance P i && list_all is_shown i.literals) _ x e in
    let p = and_parts (is_instance P i) (list_all is_shown i.literals) q.0 in
    ap (λ (w : Growth). path_lengths w.open_goals) (sym q.1) ∙ lengths-on [] i.literals ∙ ap (λ n. replicate n 0) (clause-long P i p.0)

-- the open goals of a tree
pub grown-depths : (P : Problem) (gs : List GroundChoice) (y : Growth) → growth_of P gs ≡ Some y → path_lengths y.open_goals ≡ open_depths P (choices_of gs)
grown-depths P [] y e = none≢some y e
grown-depths P (reduction up ∷ cs) y e = none≢some y e
grown-depths P (extension i place ∷ cs) y e = none≢some y e
grown-depths P (start i ∷ cs) y e = by (after_start P i) refl e
  where
    by : (o : Option Growth) → after_start P i ≡ o → option_and_then (grow P cs) o ≡ Some y → path_lengths y.open_goals ≡ open_depths P (choices_of (start i ∷ cs))
    by None f g = none≢some y g
    by (Some z) f g = all-depths P cs z y g ∙ ap (λ ks. depths_from P ks (choices_of cs)) (start-depths P i z f)

-- ---- the open goals of a state

abbrev pub cell_path_lengths : List CellGoal → List ℕ
cell_path_lengths gs = map (λ (g : CellGoal). length g.path) gs

pub state-depths : (P : Problem) (d : ℕ) (c : List Choice) (S : State) (σ : _) → IsStateOf P d c S → IsGround P S σ → cell_path_lengths S.growth.open_goals ≡ open_depths P c
state-depths P d c S σ h ground =
    same S.growth.open_goals
    ∙ grown-depths P (map (choice_at σ) S.choices) (growth_at σ S.growth) (h.sound σ ground)
    ∙ ap (open_depths P) (names-image σ S.choices ∙ h.names)
  where
    same : (gs : List CellGoal) → cell_path_lengths gs ≡ path_lengths (map (goal_at σ) gs)
    same [] = refl
    same (g ∷ gs) = ap₂ (λ k ks. k ∷ ks) (sym (length-map g.path (literal_by σ))) (same gs)
