-- Which lists are sound: live, and by a regular tree.
use Rattle.std.proofs.Common.{◌≡◌, ℕ, List, [], ◌∷◌, map, Bool, true, false, ◌&&◌, IsTrue, refl, ◌∙◌, subst, Option, Some, None, IsSomeAnd, inl, option_and_then, if◌then◌else◌}
use Rattle.std.specs.List.{list_all}
use Rattle.calculus.specs.ComputedInstances.{is_instance}
use Rattle.calculus.specs.Ground.{GroundLiteral}
use Rattle.calculus.specs.Instances.{ClauseInstance}
use Rattle.calculus.specs.Tableaux.{is_new_on, is_shown}
use Rattle.calculus.specs.declared.sign.Side.{Side}
use Rattle.calculus.specs.Syntax.{Problem}
use Rattle.calculus.specs.Choices.{start, reduction, extension, Choice, Goal, Growth, goals_on, grow, growth_of, is_within, is_regular}
use Rattle.calculus.proofs.GrowthLaws.{on-some}
use Rattle.calculus.specs.Cut.{IsRegularLive, followed_by}
use Rattle.store_theory.specs.Stores.{Store, Solution}
use Rattle.search_theory.specs.States.{CellChoice, CellGoal, State, IsStateOf, IsGround, choice_at, clause_at, growth_at, name_of}
use Rattle.search_theory.specs.Matrix.{MatrixClause, IsTemplateMatrix}
use Rattle.search_theory.specs.OrderedChoices.{choices_at}
use Rattle.search_theory.proofs.BeginningLaws.{ClosedBeginning, dead-regular}
use Rattle.search_theory.specs.DeadEnds.{is_not_empty, IsDead}
use Rattle.search_theory.proofs.ChoiceLaws.{choices-complete}
use Rattle.search_theory.proofs.ExtensionLaws.{state_at}
use Rattle.search_theory.proofs.ImageLaws.{names-image}
use Rattle.search_theory.proofs.NextLaws.{next-choice}
use Rattle.search_theory.specs.Cutting.{AreUntried}

-- a sound list begins as the list of a closed tableau might
pub sound-beginning : (P : Problem) (d : ℕ) (c : List Choice) → IsRegularLive P d c → ClosedBeginning P d c
sound-beginning P d c (gs, follows, regular) = by (growth_of P gs) refl follows.grows regular
  where
    by : (o : Option Growth) → growth_of P gs ≡ o → IsSomeAnd o (λ x. IsTrue (is_within d x)) → IsSomeAnd o (λ x. IsTrue (is_regular x)) → ClosedBeginning P d c
    by None e w r = elim w [ ]
    by (Some x) e w r = record { choices = gs; growth = x; names = follows.choices; grows = e; within = w; regular = r }

pub beginning-sound : (P : Problem) (d : ℕ) (c : List Choice) → ClosedBeginning P d c → IsRegularLive P d c
beginning-sound P d c k = (
  k.choices,
  record { choices = k.names; grows = on-some (λ x. IsTrue (is_within d x)) (growth_of P k.choices) k.growth k.grows k.within },
  on-some (λ x. IsTrue (is_regular x)) (growth_of P k.choices) k.growth k.grows k.regular,
)

-- a dead end is not sound
pub dead-unsound : (P : Problem) (d : ℕ) (c : List Choice) → IsDead P c → ¬ IsRegularLive P d c
dead-unsound P d c dead s = dead-regular P d c dead (sound-beginning P d c s)

-- a ground solution whose tree is regular shows that the list of a state is sound
pub sound-state : (P : Problem) (d : ℕ) (c : List Choice) (S : State) (σ : Solution) → IsStateOf P d c S → IsGround P S σ → IsTrue (is_regular (growth_at σ S.growth)) → IsRegularLive P d c
sound-state P d c S σ h ground regular = (
  map (choice_at σ) S.choices,
  record { choices = names-image σ S.choices ∙ h.names; grows = on-some (λ x. IsTrue (is_within d x)) (growth_of P (map (choice_at σ) S.choices)) (growth_at σ S.growth) (h.sound σ ground) h.within },
  on-some (λ x. IsTrue (is_regular x)) (growth_of P (map (choice_at σ) S.choices)) (growth_at σ S.growth) (h.sound σ ground) regular,
)

-- what a start grows
abbrev started_by : ClauseInstance → Growth
started_by i = record { open_goals = goals_on [] i.literals; all_goals = goals_on [] i.literals; depths = [] }

-- no goal of a start has goals above it
start-regular : (P : Problem) (σ : Solution) (sides : List Side) (cs : List CellChoice) (x : Growth) → map name_of cs ≡ start sides ∷ [] → growth_of P (map (choice_at σ) cs) ≡ Some x → IsTrue (is_regular x)
start-regular P σ sides [] x e g = cc e
start-regular P σ sides (reduction up ∷ cs) x e g = cc e
start-regular P σ sides (extension i place ∷ cs) x e g = cc e
start-regular P σ sides (start i ∷ c ∷ cs) x e g = cc e
start-regular P σ sides (start i ∷ []) x e g = by (is_instance P (clause_at σ i) && list_all is_shown (clause_at σ i).literals) g
  where
    goals-new : (xs : List GroundLiteral) → IsTrue (list_all (λ (h : Goal). is_new_on h.path h.literal) (goals_on [] xs))
    goals-new [] = refl
    goals-new (y ∷ xs) = goals-new xs

    by : (b : Bool) → option_and_then (grow P []) (if b then Some (started_by (clause_at σ i)) else None) ≡ Some x → IsTrue (is_regular x)
    by true q = let z : started_by (clause_at σ i) ≡ x = cc q in subst (λ y. IsTrue (is_regular y)) z (goals-new (clause_at σ i).literals)
    by false q = let z : None ≡ Some x = q in cc z

-- so the list of a start is sound
pub sound-start : (P : Problem) (d : ℕ) (sides : List Side) (S : State) (σ : Solution) → IsStateOf P d (start sides ∷ []) S → IsGround P S σ → IsRegularLive P d (start sides ∷ [])
sound-start P d sides S σ h ground = sound-state P d (start sides ∷ []) S σ h ground (start-regular P σ sides S.choices (growth_at σ S.growth) h.names (h.sound σ ground))

-- each choice that makes the list of a state sound is one of the choices of its leftmost open goal
pub all-untried : (P : Problem) (m : List MatrixClause) (d : ℕ) (c : List Choice) (s : Store) (cs : List CellChoice) (g : CellGoal) (gs every : List CellGoal) (ds : List ℕ) → IsTemplateMatrix P m → IsStateOf P d c (state_at s cs g gs every ds) → IsTrue (is_not_empty c) → AreUntried P d c (choices_at m d g)
all-untried P m d c s cs g gs every ds matrix h n y live = inl (choices-complete P m d g matrix y (next-choice P d d c s cs g gs every ds h n y (sound-beginning P d (followed_by c y) live)))
