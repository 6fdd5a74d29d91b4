-- A state without open goals has a closed tableau with its choice list exactly where its system has a bounded solution.
use Rattle.std.proofs.Common.{◌≡◌, ℕ, suc, ◌≤◌, ◌==◌, List, [], ◌∷◌, length, map, Bool, true, false, not, IsTrue, refl, sym, ◌∙◌, ap, ap₂, subst, Some, nat_le, sum_by, arith, eqb-true, eq-eqb, filter_map, if◌then◌else◌}
use Rattle.std.specs.List.{list_all, list_any, AllByRecursion}
use Rattle.std.proofs.lemmas.Bool.{false≢true, and_parts, and_from, not-true, or_parts, or_from}
use Rattle.plain_laws.proofs.Every.{each-parts, each-append, all-weaken, all-parts}
use Rattle.plain_laws.proofs.Options.{same-some}
use Rattle.calculus.specs.declared.setting.Logic.{Logic}
use Rattle.calculus.specs.declared.setting.Logic.TheVariants.{Classical, Intuitionistic, D, T as LogicT, S4, S5}
use Rattle.calculus.specs.Syntax.{Problem}
use Rattle.calculus.specs.Ground.{GroundLiteral, Value, term, steps, marks_list}
use Rattle.calculus.specs.Equality.{literal_eq}
use Rattle.calculus.specs.Instances.{ClauseInstance}
use Rattle.calculus.specs.ComputedInstances.{nu_steps}
use Rattle.calculus.specs.Tableaux.{Tableau, instances, is_closed, is_new_on, has_unbounded_strings, has_at_most, strings_within, total_steps}
use Rattle.calculus.specs.Choices.{Choice, choices_of, ground_choices, Goal, Growth, growth_of, is_within, is_regular}
use Rattle.calculus.specs.Space.{string_length, lengths_in, string_lengths, instances_in, is_tried_length, has_labels, with_lengths}
use Rattle.store_theory.specs.Stores.{Store, a_string, Solution, Solves}
use Rattle.store_theory.specs.Systems.{CellAtom, Pair, System, is_cell_atom, is_pair, Differ, AllAllowed, bound_of, AreTried, HaveLengths, IsBoundedSolution, HasBoundedSolution}
use Rattle.calculus.proofs.EqualityLaws.{literal_eq-tells}
use Rattle.calculus.proofs.GrowthLaws.{closed_growth, grown-closed, regular-closed, on-some}
use Rattle.calculus.proofs.SpaceLaws.{lengths-closed, instances_in-tableau}
use Rattle.search_theory.specs.States.{CellGoal, State, literal_by, choice_at, goal_at, growth_at, IsGround, IsStateOf}
use Rattle.search_theory.specs.Joined.{are_short, are_joined}
use Rattle.search_theory.specs.Exploring.{IsClosedList, IsMemberAt}
use Rattle.search_theory.specs.StateSystems.{pairs_with, pairs_of, IsTreeOf, IsSystemOf}
use Rattle.search_theory.proofs.ImageLaws.{names-image}
use Rattle.search_theory.proofs.ClosedLaws.{IsTableauOf, closed-by_short_growth}
use Rattle.search_theory.proofs.AtomLaws.{literal-by}
use Rattle.search_theory.proofs.SolvingLaws.{system-parts, steps-by_lengths, literal-there}
use Rattle.search_theory.proofs.JoinedLaws.{joined-closed}

-- ---- pairs and regularity

unlike : (x y : GroundLiteral) → literal_eq x y ≡ false → literal_eq y x ≡ false
unlike x y e = by (literal_eq y x) refl
  where
    by : (t : Bool) → literal_eq y x ≡ t → literal_eq y x ≡ false
    by false f = f
    by true f = absurd (false≢true (sym e ∙ (literal_eq-tells x y).1 (sym ((literal_eq-tells y x).0 f))))

differ-by : (s : Store) (σ : Solution) → Solves s σ → (p : Pair) → IsTrue (is_pair s p) → literal_eq (literal_by σ p.upper) (literal_by σ p.lower) ≡ false → Differ σ p
differ-by s σ t p h e = let q = and_parts (is_cell_atom s p.upper) (is_cell_atom s p.lower) h in (literal_by σ p.upper, literal_by σ p.lower, literal-there s σ t p.upper q.0, literal-there s σ t p.lower q.1, e)

by-differ : (σ : Solution) (p : Pair) → Differ σ p → literal_eq (literal_by σ p.upper) (literal_by σ p.lower) ≡ false
by-differ σ p (x, y, hx, hy, e) = ap₂ literal_eq (sym (literal-by σ p.upper x hx)) (sym (literal-by σ p.lower y hy)) ∙ e

new-by_pairs : (σ : Solution) (a : CellAtom) (path : List CellAtom) → AllByRecursion (Differ σ) (pairs_with a path) → list_any (literal_eq (literal_by σ a)) (map (literal_by σ) path) ≡ false
new-by_pairs σ a [] h = refl
new-by_pairs σ a (b ∷ path) h = or_from (literal_eq (literal_by σ a) (literal_by σ b)) (list_any (literal_eq (literal_by σ a)) (map (literal_by σ) path)) (unlike (literal_by σ b) (literal_by σ a) (by-differ σ (record { upper = b; lower = a }) h.0)) (new-by_pairs σ a path h.1)

pairs-by_new : (s : Store) (σ : Solution) → Solves s σ → (a : CellAtom) (path : List CellAtom) → IsTrue (list_all (is_pair s) (pairs_with a path)) → list_any (literal_eq (literal_by σ a)) (map (literal_by σ) path) ≡ false → AllByRecursion (Differ σ) (pairs_with a path)
pairs-by_new s σ t a [] h e = tt
pairs-by_new s σ t a (b ∷ path) h e =
    let p = and_parts (is_pair s (record { upper = b; lower = a })) (list_all (is_pair s) (pairs_with a path)) h in
    let q = or_parts (literal_eq (literal_by σ a) (literal_by σ b)) (list_any (literal_eq (literal_by σ a)) (map (literal_by σ) path)) e in
    (differ-by s σ t (record { upper = b; lower = a }) p.0 (unlike (literal_by σ a) (literal_by σ b) q.0), pairs-by_new s σ t a path p.1 q.1)

pub regular-by_pairs : (σ : Solution) (gs : List CellGoal) → AllByRecursion (Differ σ) (pairs_of gs) → IsTrue (list_all (λ (g : Goal). is_new_on g.path g.literal) (map (goal_at σ) gs))
regular-by_pairs σ [] h = refl
regular-by_pairs σ (g ∷ gs) h =
    let p = each-parts (Differ σ) (pairs_with g.literal g.path) (pairs_of gs) h in
    and_from (is_new_on (map (literal_by σ) g.path) (literal_by σ g.literal)) (list_all (λ (x : Goal). is_new_on x.path x.literal) (map (goal_at σ) gs)) (ap not (new-by_pairs σ g.literal g.path p.0)) (regular-by_pairs σ gs p.1)

pub pairs-by_regular : (s : Store) (σ : Solution) → Solves s σ → (gs : List CellGoal) → IsTrue (list_all (is_pair s) (pairs_of gs)) → IsTrue (list_all (λ (g : Goal). is_new_on g.path g.literal) (map (goal_at σ) gs)) → AllByRecursion (Differ σ) (pairs_of gs)
pairs-by_regular s σ t [] h r = tt
pairs-by_regular s σ t (g ∷ gs) h r =
    let p = all-parts (is_pair s) (pairs_with g.literal g.path) (pairs_of gs) h in
    let q = and_parts (is_new_on (map (literal_by σ) g.path) (literal_by σ g.literal)) (list_all (λ (x : Goal). is_new_on x.path x.literal) (map (goal_at σ) gs)) r in
    each-append (Differ σ) (pairs_with g.literal g.path) (pairs_of gs) (pairs-by_new s σ t g.literal g.path p.0 (not-true (list_any (literal_eq (literal_by σ g.literal)) (map (literal_by σ) g.path)) q.0)) (pairs-by_regular s σ t gs p.1 q.1)

-- ---- lengths

pub lengths-same : (σ : Solution) (rs ms ns : List ℕ) → HaveLengths σ rs ms → HaveLengths σ rs ns → ms ≡ ns
lengths-same σ [] [] [] h k = refl
lengths-same σ [] [] (n ∷ ns) h k = absurd k
lengths-same σ [] (m ∷ ms) ns h k = absurd h
lengths-same σ (r ∷ rs) [] ns h k = absurd h
lengths-same σ (r ∷ rs) (m ∷ ms) [] h k = absurd k
lengths-same σ (r ∷ rs) (m ∷ ms) (n ∷ ns) h k =
    let z : a_string h.0.0 ≡ a_string k.0.0 = sym h.0.1 ∙ k.0.1 in
    let w : h.0.0 ≡ k.0.0 = cc z in
    ap₂ (λ x xs. x ∷ xs) (sym h.0.2 ∙ ap length w ∙ k.0.2) (lengths-same σ rs ms ns h.1 k.1)

pub lengths-count : (σ : Solution) (rs ns : List ℕ) → HaveLengths σ rs ns → length ns ≡ length rs
lengths-count σ [] [] h = refl
lengths-count σ [] (n ∷ ns) h = absurd h
lengths-count σ (r ∷ rs) [] h = absurd h
lengths-count σ (r ∷ rs) (n ∷ ns) h = ap suc (lengths-count σ rs ns h.1)

within-by_lengths : (b : ℕ) (vs : List Value) → IsTrue (list_all (λ n. nat_le n b) (filter_map string_length vs)) → IsTrue (list_all (has_at_most b) vs)
within-by_lengths b [] h = refl
within-by_lengths b (term t ∷ vs) h = within-by_lengths b vs h
within-by_lengths b (steps w ∷ vs) h = let p = and_parts (nat_le (length (marks_list w)) b) (list_all (λ n. nat_le n b) (filter_map string_length vs)) h in and_from (nat_le (length (marks_list w)) b) (list_all (has_at_most b) vs) p.0 (within-by_lengths b vs p.1)

all-within : (b : ℕ) (is : List ClauseInstance) → IsTrue (list_all (λ n. nat_le n b) (string_lengths is)) → IsTrue (list_all (strings_within b) is)
all-within b [] h = refl
all-within b (i ∷ is) h = let p = all-parts (λ n. nat_le n b) (lengths_in i) (string_lengths is) h in and_from (strings_within b i) (list_all (strings_within b) is) (within-by_lengths b i.values p.0) (all-within b is p.1)

-- lengths that are tried are short
short-by_tried : (l : Logic) (b : ℕ) (is : List ClauseInstance) → IsTrue (list_all (is_tried_length l b) (string_lengths is)) → IsTrue (if has_unbounded_strings l then list_all (strings_within b) is else true)
short-by_tried Classical b is h = refl
short-by_tried Intuitionistic b is h = all-within b is (all-weaken (is_tried_length Intuitionistic b) (λ n. nat_le n b) (λ n q. q) (string_lengths is) h)
short-by_tried D b is h = refl
short-by_tried LogicT b is h = refl
short-by_tried S4 b is h = all-within b is (all-weaken (is_tried_length S4 b) (λ n. nat_le n b) (λ n q. q) (string_lengths is) h)
short-by_tried S5 b is h = refl

-- ---- a bounded solution gives a closed tableau

pub closed-by_solution : (P : Problem) (d : ℕ) (c : List Choice) (S : State) (y : System) (ns : List ℕ) (σ : Solution) → IsTreeOf P d c S → IsSystemOf P S y → S.growth.open_goals ≡ [] → IsGround P S σ → IsBoundedSolution P.setting.logic (AllAllowed P) S.store y ns σ → IsTableauOf P d (map (choice_at σ) S.choices) × (string_lengths (instances_in (map (choice_at σ) S.choices)) ≡ ns)
closed-by_solution P d c S y ns σ h k o g b =
    let gs = map (choice_at σ) S.choices in
    let l = P.setting.logic in
    let same : string_lengths (instances_in gs) ≡ ns = lengths-same σ y.strings (string_lengths (instances_in gs)) ns (k.lengths σ g) b.lengths in
    let tried = (and_parts (length ns == length y.strings) (list_all (is_tried_length l (bound_of y)) ns) b.tried).1 in
    let total : total_steps P (instances_in gs) ≡ bound_of y = k.total σ g in
    let short : IsTrue (are_short P gs) = short-by_tried l (total_steps P (instances_in gs)) (instances_in gs) (subst (λ n. IsTrue (list_all (is_tried_length l n) (string_lengths (instances_in gs)))) (sym total) (subst (λ ms. IsTrue (list_all (is_tried_length l (bound_of y)) ms)) (sym same) tried)) in
    let regular = regular-by_pairs σ S.growth.all_goals (subst (AllByRecursion (Differ σ)) k.pairs b.solution.apart) in
    (closed-by_short_growth P d gs (growth_at σ S.growth) short (h.sound σ g) (ap (map (goal_at σ)) o) (k.joined σ g b.solution.equal b.solution.demanded) regular h.within, same)

-- ---- a closed tableau is a bounded solution

-- a ground solution with the tableau's choices as its image solves the system, with the lengths of the tableau's strings
pub solution-from : (P : Problem) (d : ℕ) (S : State) (y : System) (t : Tableau) (σ : Solution) → IsTrue (has_labels P.setting.logic) → IsSystemOf P S y → IsTrue (is_closed P d t) → IsGround P S σ → growth_of P (map (choice_at σ) S.choices) ≡ Some (growth_at σ S.growth) → map (choice_at σ) S.choices ≡ ground_choices t → IsBoundedSolution P.setting.logic (AllAllowed P) S.store y (string_lengths (instances t)) σ
solution-from P d S y t σ labels k closed g grown image =
    let l = P.setting.logic in
    let ns = string_lengths (instances t) in
    let is : instances_in (map (choice_at σ) S.choices) ≡ instances t = ap instances_in image ∙ instances_in-tableau t in
    let same : closed_growth t ≡ growth_at σ S.growth = same-some (growth_of P (ground_choices t)) (closed_growth t) (growth_at σ S.growth) (grown-closed P d t closed) (ap (growth_of P) (sym image) ∙ grown) in
    let regular = subst (λ (x : Growth). IsTrue (is_regular x)) same (regular-closed P d t closed) in
    let both = k.equal σ g (subst (λ xs. IsTrue (are_joined P xs)) (sym image) (joined-closed P d t closed)) in
    let lengths = subst (λ xs. HaveLengths σ y.strings (string_lengths xs)) is (k.lengths σ g) in
    let well = system-parts S.store y k.well in
    let tried = and_parts (length ns == sum_by (nu_steps P) (instances t)) (list_all (is_tried_length l (total_steps P (instances t))) ns) (lengths-closed P d t closed labels) in
    let bounded = subst (λ n. IsTrue (list_all (is_tried_length l n) ns)) (ap (total_steps P) (sym is) ∙ k.total σ g) tried.1 in
    record {
      solution = record {
        solves = g.solves;
        equal = both.0;
        steps = steps-by_lengths l (bound_of y) σ y.strings ns bounded lengths;
        demanded = both.1;
        apart = subst (AllByRecursion (Differ σ)) (sym k.pairs) (pairs-by_regular S.store σ g.solves S.growth.all_goals (subst (λ ps. IsTrue (list_all (is_pair S.store) ps)) k.pairs well.pairs) regular);
      };
      tried = and_from (length ns == length y.strings) (list_all (is_tried_length l (bound_of y)) ns) (eq-eqb (length ns) (length y.strings) (lengths-count σ y.strings ns lengths)) bounded;
      lengths = lengths;
    }

pub solution-by_closed : (P : Problem) (d : ℕ) (c : List Choice) (S : State) (y : System) (t : Tableau) → IsTrue (has_labels P.setting.logic) → IsStateOf P d c S → IsSystemOf P S y → IsTrue (is_closed P d t) → choices_of (ground_choices t) ≡ c → (σ : Solution) × IsGround P S σ × (map (choice_at σ) S.choices ≡ ground_choices t) × IsBoundedSolution P.setting.logic (AllAllowed P) S.store y (string_lengths (instances t)) σ
solution-by_closed P d c S y t labels h k closed names =
    let (σ, g, image) = h.complete (ground_choices t) (closed_growth t) names (grown-closed P d t closed) in
    (σ, g, image, solution-from P d S y t σ labels k closed g (h.sound σ g) image)

pub tree-by_state : (P : Problem) (d : ℕ) (c : List Choice) (S : State) → IsStateOf P d c S → IsTreeOf P d c S
tree-by_state P d c S h = record { names = h.names; within = h.within; sound = h.sound }

-- where the system has no bounded solution, no tableau is closed with this list
pub no-closed-list : (P : Problem) (d : ℕ) (c : List Choice) (S : State) (y : System) → IsTrue (has_labels P.setting.logic) → IsStateOf P d c S → IsSystemOf P S y → ¬ HasBoundedSolution P.setting.logic (AllAllowed P) S.store y → ¬ IsClosedList P d c
no-closed-list P d c S y labels h k none (t, closed, names) =
    let (σ, g, image, b) = solution-by_closed P d c S y t labels h k closed names in
    none (string_lengths (instances t), (σ, b))

-- a list of lengths that is tried is a member of the space, where the state has a ground solution
pub member-tried : (P : Problem) (d : ℕ) (c : List Choice) (S : State) (y : System) (ns : List ℕ) → 1 ≤ d → IsTrue (has_labels P.setting.logic) → IsTreeOf P d c S → IsSystemOf P S y → S.growth.open_goals ≡ [] → (σ : Solution) → IsGround P S σ → AreTried P.setting.logic y ns → IsMemberAt P d (with_lengths d c ns)
member-tried P d c S y ns from labels h k o σ g tried =
    let gs = map (choice_at σ) S.choices in
    let l = P.setting.logic in
    let t = and_parts (length ns == length y.strings) (list_all (is_tried_length l (bound_of y)) ns) tried in
    let is = instances_in gs in
    record {
      member = record {
        from_one = from;
        up_to = omega arith;
        reached = (
          gs,
          record {
            follows = record { choices = names-image σ S.choices ∙ h.names; grows = on-some (λ (x : Growth). IsTrue (is_within d x)) (growth_of P gs) (growth_at σ S.growth) (h.sound σ g) h.within };
            whole = on-some (λ (x : Growth). x.open_goals ≡ []) (growth_of P gs) (growth_at σ S.growth) (h.sound σ g) (ap (map (goal_at σ)) o);
            labels = labels;
            lengths = and_from (length ns == sum_by (nu_steps P) is) (list_all (is_tried_length l (total_steps P is)) ns) (eq-eqb (length ns) (sum_by (nu_steps P) is) (eqb-true (length ns) (length y.strings) t.0 ∙ sym (k.nus σ g))) (subst (λ n. IsTrue (list_all (is_tried_length l n) ns)) (sym (k.total σ g)) t.1);
          },
        );
      };
      limit = refl;
    }
