-- Early pruning by prefixes: a list whose system no ground solution solves, whatever the lengths, begins no closed tableau.
use Rattle.std.proofs.Common.{◌≡◌, ℕ, List, [], ◌∷◌, ◌++◌, map, true, false, IsTrue, refl, sym, ◌∙◌, ap, subst, Option, Some, None}
use Rattle.std.specs.List.{list_all, AllByRecursion}
use Rattle.std.specs.Option.{option_map_or}
use Rattle.std.proofs.lemmas.Bool.{false≢true, and_parts, and_from}
use Rattle.plain_laws.proofs.Options.{same-some, then-some}
use Rattle.plain_laws.proofs.Every.{all-parts}
use Rattle.calculus.specs.declared.setting.Logic.{Logic}
use Rattle.calculus.specs.Syntax.{Problem}
use Rattle.calculus.specs.ComputedInstances.{is_allowed_instance}
use Rattle.calculus.specs.Tableaux.{instances, total_steps}
use Rattle.calculus.specs.Choices.{start, reduction, extension, Choice, GroundChoice, choices_of, ground_choices, Growth, after_start, grow_at, grow, growth_of, is_within, is_regular}
use Rattle.calculus.specs.Space.{Member, has_labels, is_tried_length, string_lengths, instances_in}
use Rattle.store_theory.specs.Stores.{Solution}
use Rattle.calculus.specs.Labels.{is_step_length}
use Rattle.store_theory.specs.Systems.{System, is_pair, IsStep, HaveLengths, Differ}
use Rattle.calculus.proofs.GrowthLaws.{closed_growth, grown-closed, regular-closed, within-closed}
use Rattle.calculus.proofs.SpaceLaws.{lengths-closed, instances_in-tableau, instances_in-append}
use Rattle.search_theory.specs.States.{State, choice_at, growth_at, IsGround, IsStateOf}
use Rattle.search_theory.specs.Joined.{joins_at, joins_all, are_joined}
use Rattle.search_theory.specs.Exploring.{BeginsWith, IsClosedList}
use Rattle.search_theory.specs.Searching.{IsSearch}
use Rattle.search_theory.specs.StateSystems.{IsSystemOf}
use Rattle.search_theory.specs.Pruning.{BeginsClosed, HoldsEarly}
use Rattle.search_theory.proofs.ClosedLaws.{keeps-all}
use Rattle.search_theory.proofs.BeginningLaws.{growth-append, regular-kept, within-kept, split-at}
use Rattle.search_theory.specs.DeadEnds.{is_not_empty}
use Rattle.search_theory.proofs.ExploreLaws.{explore-drop}
use Rattle.search_theory.proofs.JoinedLaws.{joined-closed}
use Rattle.search_theory.proofs.SystemLaws.{pairs-by_regular}
use Rattle.search_theory.proofs.SystemSteps.{string_lengths-append}
use Rattle.search_theory.proofs.SolvingLaws.{system-parts, tried-step}

-- ---- beginnings of a closed tableau's choices

joins-front : (P : Problem) (cs ks : List GroundChoice) (x : Growth) → IsTrue (joins_all P (cs ++ ks) x) → IsTrue (joins_all P cs x)
joins-front P [] ks x h = refl
joins-front P (c ∷ cs) ks x h =
    let p = and_parts (joins_at P c x.open_goals) (option_map_or (joins_all P (cs ++ ks)) (grow_at P c x.open_goals x) false) h in
    and_from (joins_at P c x.open_goals) (option_map_or (joins_all P cs) (grow_at P c x.open_goals x) false) p.0 (by (grow_at P c x.open_goals x) p.1 (λ z k. joins-front P cs ks z k))
  where
    by : (o : Option Growth) → IsTrue (option_map_or (joins_all P (cs ++ ks)) o false) → ((z : Growth) → IsTrue (joins_all P (cs ++ ks) z) → IsTrue (joins_all P cs z)) → IsTrue (option_map_or (joins_all P cs) o false)
    by None k ih = k
    by (Some z) k ih = ih z k

joined-front : (P : Problem) (c : GroundChoice) (cs ks : List GroundChoice) → IsTrue (are_joined P ((c ∷ cs) ++ ks)) → IsTrue (are_joined P (c ∷ cs))
joined-front P (reduction up) cs ks h = absurd (false≢true h)
joined-front P (extension i place) cs ks h = absurd (false≢true h)
joined-front P (start i) cs ks h =
    let p = and_parts (is_allowed_instance P i) (option_map_or (joins_all P (cs ++ ks)) (after_start P i) false) h in
    and_from (is_allowed_instance P i) (option_map_or (joins_all P cs) (after_start P i) false) p.0 (by (after_start P i) p.1)
  where
    by : (o : Option Growth) → IsTrue (option_map_or (joins_all P (cs ++ ks)) o false) → IsTrue (option_map_or (joins_all P cs) o false)
    by None k = k
    by (Some z) k = joins-front P cs ks z k

-- what a beginning keeps of the closed tableau
pub record BeginningFacts (P : Problem) (d : ℕ) (gs : List GroundChoice) : Type 0 where
  pub growth : Growth
  pub grows : growth_of P gs ≡ Some growth
  pub within : IsTrue (is_within d growth)
  pub regular : IsTrue (is_regular growth)
  pub joined : IsTrue (are_joined P gs)
  pub step_lengths : IsTrue (list_all (is_step_length P.setting.logic) (string_lengths (instances_in gs)))

all-steps : (l : Logic) (b : ℕ) (ns : List ℕ) → IsTrue (list_all (is_tried_length l b) ns) → IsTrue (list_all (is_step_length l) ns)
all-steps l b [] h = refl
all-steps l b (n ∷ ns) h = let p = and_parts (is_tried_length l b n) (list_all (is_tried_length l b) ns) h in and_from (is_step_length l n) (list_all (is_step_length l) ns) (tried-step l b n p.0) (all-steps l b ns p.1)

pub beginning-facts : (P : Problem) (d : ℕ) (gs : List GroundChoice) → IsTrue (has_labels P.setting.logic) → IsTrue (is_not_empty (choices_of gs)) → BeginsClosed P d gs → BeginningFacts P d gs
beginning-facts P d [] labels n b = absurd (false≢true n)
beginning-facts P d (c ∷ cs) labels n b =
    let t = b.tableau in
    let whole : growth_of P ((c ∷ cs) ++ b.more) ≡ Some (closed_growth t) = ap (growth_of P) (sym b.is_list) ∙ grown-closed P d t b.closed in
    let (x, first, rest) = then-some (grow P b.more) (growth_of P (c ∷ cs)) (closed_growth t) (sym (growth-append P c cs b.more) ∙ whole) in
    let keeps = keeps-all P b.more x (closed_growth t) rest in
    let tried = (and_parts _ _ (lengths-closed P d t b.closed labels)).1 in
    let same : string_lengths (instances t) ≡ string_lengths (instances_in (c ∷ cs)) ++ string_lengths (instances_in b.more) = ap string_lengths (sym (instances_in-tableau t) ∙ ap instances_in b.is_list ∙ instances_in-append (c ∷ cs) b.more) ∙ string_lengths-append (instances_in (c ∷ cs)) (instances_in b.more) in
    record {
      growth = x;
      grows = first;
      within = within-kept d x (closed_growth t) keeps (within-closed P d t b.closed);
      regular = regular-kept x (closed_growth t) keeps (regular-closed P d t b.closed);
      joined = joined-front P c cs b.more (subst (λ xs. IsTrue (are_joined P xs)) b.is_list (joined-closed P d t b.closed));
      step_lengths = (all-parts (is_step_length P.setting.logic) (string_lengths (instances_in (c ∷ cs))) (string_lengths (instances_in b.more)) (subst (λ ns. IsTrue (list_all (is_step_length P.setting.logic) ns)) same (all-steps P.setting.logic (total_steps P (instances t)) (string_lengths (instances t)) tried))).0;
    }

-- ---- what each closed tableau behind a state solves

steps-from : (l : Logic) (σ : Solution) (rs ns : List ℕ) → IsTrue (list_all (is_step_length l) ns) → HaveLengths σ rs ns → AllByRecursion (IsStep l σ) rs
steps-from l σ [] ns h k = tt
steps-from l σ (r ∷ rs) [] h k = absurd k
steps-from l σ (r ∷ rs) (n ∷ ns) h k =
    let p = and_parts (is_step_length l n) (list_all (is_step_length l) ns) h in
    ((k.0.0, k.0.1, subst (λ m. IsTrue (is_step_length l m)) (sym k.0.2) p.0), steps-from l σ rs ns p.1 k.1)

-- a ground solution whose image begins a closed tableau solves the system
pub holds-early : (P : Problem) (S : State) (y : System) (σ : Solution) (d : ℕ) → IsTrue (has_labels P.setting.logic) → IsSystemOf P S y → IsGround P S σ → growth_of P (map (choice_at σ) S.choices) ≡ Some (growth_at σ S.growth) → BeginningFacts P d (map (choice_at σ) S.choices) → HoldsEarly P S y σ
holds-early P S y σ d labels k g grown b =
    let both = k.equal σ g b.joined in
    let same : b.growth ≡ growth_at σ S.growth = same-some (growth_of P (map (choice_at σ) S.choices)) b.growth (growth_at σ S.growth) b.grows grown in
    let well = system-parts S.store y k.well in
    record {
      ground = g;
      equal = both.0;
      steps = steps-from P.setting.logic σ y.strings (string_lengths (instances_in (map (choice_at σ) S.choices))) b.step_lengths (k.lengths σ g);
      demanded = both.1;
      apart = subst (AllByRecursion (Differ σ)) (sym k.pairs) (pairs-by_regular S.store σ g.solves S.growth.all_goals (subst (λ ps. IsTrue (list_all (is_pair S.store) ps)) k.pairs well.pairs) (subst (λ (x : Growth). IsTrue (is_regular x)) same b.regular));
    }

-- a closed list that begins with the state's list gives ground choices with these names
pub begins-closed : (P : Problem) (d : ℕ) (c b : List Choice) → IsClosedList P d b → BeginsWith c b → (gs : List GroundChoice) × (choices_of gs ≡ c) × BeginsClosed P d gs
begins-closed P d c b (t, closed, e) (more, q) =
    let s = split-at (ground_choices t) c more (e ∙ q) in
    (s.first, s.first_names, record { tableau = t; closed = closed; more = s.second; is_list = s.all_of_them })

-- each closed tableau whose list begins with that of the state is given by a ground solution that solves the system
pub early-solution : (P : Problem) (d : ℕ) (c b : List Choice) (S : State) (y : System) → IsTrue (has_labels P.setting.logic) → IsTrue (is_not_empty c) → IsStateOf P d c S → IsSystemOf P S y → IsClosedList P d b → BeginsWith c b → (σ : Solution) × HoldsEarly P S y σ
early-solution P d c b S y labels n h k closed begins =
    let (gs, names, at) = begins-closed P d c b closed begins in
    let facts = beginning-facts P d gs labels (subst (λ xs. IsTrue (is_not_empty xs)) (sym names) n) at in
    let (σ, g, image) = h.complete gs facts.growth names facts.grows in
    (σ, holds-early P S y σ d labels k g (h.sound σ g) (subst (BeginningFacts P d) (sym image) facts))

-- so where no ground solution does, whatever the lengths, no closed tableau's list begins with it. This holds for every number of nu and pi
-- steps that may still come
pub pruned-by_none : (P : Problem) (d : ℕ) (c : List Choice) (S : State) (y : System) → IsTrue (has_labels P.setting.logic) → IsTrue (is_not_empty c) → IsStateOf P d c S → IsSystemOf P S y → ((σ : Solution) → ¬ HoldsEarly P S y σ) → (b : List Choice) → IsClosedList P d b → ¬ BeginsWith c b
pruned-by_none P d c S y labels n h k none b closed begins = let s = early-solution P d c b S y labels n h k closed begins in none s.0 s.1

-- a search that knows that the limit is left may drop it; one that does not know must still look for `left` behind it
pub search-pruned : (P : Problem) (d : ℕ) (spent : List Member) (p : List Choice) (ps : List (List Choice)) → IsSearch P d spent (p ∷ ps) true → ((b : List Choice) → IsClosedList P d b → ¬ BeginsWith p b) → IsSearch P d spent ps true
search-pruned P d spent p ps h none = record { explores = explore-drop P d spent p ps h.explores none; is_left = h.is_left; not_left = λ e. absurd (false≢true (sym e)) }
