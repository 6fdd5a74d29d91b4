-- The system of a state grows with its choices: what a start, a reduction and an extension add.
use Rattle.std.proofs.Common.{◌≡◌, ℕ, suc, ◌+◌, List, [], ◌∷◌, ◌++◌, length, map, sum_by, Bool, true, false, ◌&&◌, IsTrue, refl, sym, ◌∙◌, ap, ap₂, subst, Some, slice_get, arith, append_assoc, append-nil, length-append}
use Rattle.std.specs.List.{list_all}
use Rattle.std.proofs.lemmas.Bool.{and_parts, and_from}
use Rattle.std.proofs.lemmas.List.{map-append}
use Rattle.std.proofs.lemmas.List.Sums.{sum_by-cons, sum_by-append}
use Rattle.plain_laws.proofs.Every.{each-parts, each-append, all-parts}
use Rattle.plain_laws.proofs.Places.{map-there}
use Rattle.calculus.specs.Syntax.{Problem}
use Rattle.calculus.specs.Instances.{ClauseInstance, GammaUse, gamma_is_allowed}
use Rattle.calculus.specs.ComputedInstances.{is_instance, is_allowed_instance, modal_steps, nu_steps}
use Rattle.calculus.specs.Tableaux.{is_complement, ancestor, is_shown, total_steps}
use Rattle.calculus.specs.Choices.{start, reduction, extension, Choice, Growth, is_opposite, growth_of}
use Rattle.calculus.specs.Space.{lengths_in, string_lengths, instances_in}
use Rattle.store_theory.specs.Stores.{Store, Solution, Solves, GammaCell}
use Rattle.store_theory.specs.Systems.{CellAtom, Equation, System, is_label, is_equation, is_system, AreEqual, AreUses, AllAllowed, HaveLengths}
use Rattle.calculus.proofs.SpaceLaws.{instances_in-append}
use Rattle.search_theory.specs.States.{CellClause, CellChoice, CellGoal, label_by, literal_by, clause_at, choice_at, goal_at, growth_at, cell_goals_on, new_cell_goals, extended, IsGround}
use Rattle.search_theory.specs.Steps.{IsReduced}
use Rattle.search_theory.specs.Joined.{are_joined}
use Rattle.search_theory.specs.StateSystems.{pairs_with, pairs_of, IsTreeOf, IsSystemOf, Brings, started_system, reduced_system, extended_system}
use Rattle.search_theory.proofs.LastChoice.{grow_once, none≢some}
use Rattle.search_theory.proofs.StepLaws.{if-true, admitted-all, start_state}
use Rattle.search_theory.proofs.ExtensionLaws.{extension-grown, state_at, extended_state, reduced_state}
use Rattle.search_theory.proofs.AtomLaws.{label_at-by}
use Rattle.search_theory.proofs.SolvingLaws.{system-parts, label-there}
use Rattle.search_theory.proofs.JoinedLaws.{joined-last, joined-parts, joined-start, start-joined, complement-some, some-complement}

-- ---- lists

pub pairs-none : (xs : List CellAtom) → pairs_of (cell_goals_on [] xs) ≡ []
pairs-none [] = refl
pairs-none (x ∷ xs) = pairs-none xs

pub pairs-append : (gs hs : List CellGoal) → pairs_of (gs ++ hs) ≡ pairs_of gs ++ pairs_of hs
pairs-append [] hs = refl
pairs-append (g ∷ gs) hs = ap (λ ps. pairs_with g.literal g.path ++ ps) (pairs-append gs hs) ∙ sym (append_assoc (pairs_with g.literal g.path) (pairs_of gs) (pairs_of hs))

lengths-append : (σ : Solution) (rs ss ms ns : List ℕ) → HaveLengths σ rs ms → HaveLengths σ ss ns → HaveLengths σ (rs ++ ss) (ms ++ ns)
lengths-append σ [] ss [] ns h k = k
lengths-append σ [] ss (m ∷ ms) ns h k = absurd h
lengths-append σ (r ∷ rs) ss [] ns h k = absurd h
lengths-append σ (r ∷ rs) ss (m ∷ ms) ns h k = (h.0, lengths-append σ rs ss ms ns h.1 k)

pub string_lengths-append : (xs ys : List ClauseInstance) → string_lengths (xs ++ ys) ≡ string_lengths xs ++ string_lengths ys
string_lengths-append [] ys = refl
string_lengths-append (x ∷ xs) ys = ap (λ ns. lengths_in x ++ ns) (string_lengths-append xs ys) ∙ sym (append_assoc (lengths_in x) (string_lengths xs) (string_lengths ys))

uses-join : (σ : Solution) (gs hs : List GammaCell) (us vs : List GammaUse) → AreUses σ gs us → AreUses σ hs vs → AreUses σ (gs ++ hs) (us ++ vs)
uses-join σ [] hs us vs h k = subst (λ xs. AreUses σ hs (xs ++ vs)) (sym h) k
uses-join σ (g ∷ gs) hs us vs (u, ws, e, first, more) k = (u, ws ++ vs, ap (λ xs. xs ++ vs) e, first, uses-join σ gs hs ws vs more k)

record UsesApart (σ : Solution) (gs hs : List GammaCell) (ws : List GammaUse) : Type 0 where
  first : List GammaUse
  second : List GammaUse
  all_of_them : ws ≡ first ++ second
  are_first : AreUses σ gs first
  are_second : AreUses σ hs second

uses-apart : (σ : Solution) (gs hs : List GammaCell) (ws : List GammaUse) → AreUses σ (gs ++ hs) ws → UsesApart σ gs hs ws
uses-apart σ [] hs ws h = record { first = []; second = ws; all_of_them = refl; are_first = refl; are_second = h }
uses-apart σ (g ∷ gs) hs ws (u, vs, e, one, more) =
    let p = uses-apart σ gs hs vs more in
    record { first = u ∷ p.first; second = p.second; all_of_them = e ∙ ap (λ xs. u ∷ xs) p.all_of_them; are_first = (u, p.first, refl, one, p.are_first); are_second = p.are_second }

all-both : (P : Problem) (us vs : List GammaUse) → AllAllowed P us → AllAllowed P vs → AllAllowed P (us ++ vs)
all-both P [] vs h k = k
all-both P (u ∷ us) vs h k = let p = and_parts (gamma_is_allowed P u) (list_all (gamma_is_allowed P) us) h in and_from (gamma_is_allowed P u) (list_all (gamma_is_allowed P) (us ++ vs)) p.0 (all-both P us vs p.1 k)

-- ---- the start

one-instance : (P : Problem) (j : ClauseInstance) (x : Growth) → growth_of P (start j ∷ []) ≡ Some x → IsTrue (is_instance P j)
one-instance P j x e = by (is_instance P j && list_all is_shown j.literals) refl e
  where
    by : (t : Bool) → (is_instance P j && list_all is_shown j.literals) ≡ t → growth_of P (start j ∷ []) ≡ Some x → IsTrue (is_instance P j)
    by true f g = (and_parts (is_instance P j) (list_all is_shown j.literals) f).0
    by false f g = none≢some x (sym (rw f refl) ∙ g)

pub system-started : (P : Problem) (d : ℕ) (c : List Choice) (s : Store) (i : CellClause) (strings : List ℕ) (gammas : List GammaCell) (pis : ℕ) → IsTreeOf P d c (start_state s i) → Brings P s i strings gammas pis → IsTrue (is_system s (started_system strings gammas pis)) → IsSystemOf P (start_state s i) (started_system strings gammas pis)
system-started P d c s i strings gammas pis h b well = record {
  well = well;
  pairs = sym (pairs-none i.literals);
  joined = λ σ g equal demanded. joined-start P (clause_at σ i) (growth_at σ (start_state s i).growth) (h.sound σ g) ((b.allowed σ g.solves (inst σ g)).1 demanded);
  equal = λ σ g j. (tt, (b.allowed σ g.solves (inst σ g)).0 (start-joined P (clause_at σ i) j));
  lengths = λ σ g. subst (HaveLengths σ strings) (sym (append-nil (lengths_in (clause_at σ i)))) (b.lengths σ g.solves);
  total = λ σ g. sum_by-cons (modal_steps P) (clause_at σ i) [] ∙ nothing-more (modal_steps P (clause_at σ i)) ∙ b.steps σ g.solves (inst σ g);
  nus = λ σ g. sum_by-cons (nu_steps P) (clause_at σ i) [] ∙ nothing-more (nu_steps P (clause_at σ i)) ∙ b.nus σ g.solves (inst σ g);
}
  where
    inst : (σ : Solution) → IsGround P (start_state s i) σ → IsTrue (is_instance P (clause_at σ i))
    inst σ g = one-instance P (clause_at σ i) (growth_at σ (start_state s i).growth) (h.sound σ g)

    nothing-more : (n : ℕ) → n + 0 ≡ n
    nothing-more n = omega arith

-- ---- reduction

equal-labels : (s : Store) (σ : Solution) → Solves s σ → (l r : List ℕ) → IsTrue (is_label s l) → IsTrue (is_label s r) → label_by σ l ≡ label_by σ r → AreEqual σ (record { left = l; right = r })
equal-labels s σ t l r a b e = (label_by σ l, label-there s σ t l a, label-there s σ t r b ∙ ap Some (sym e))

labels-equal : (σ : Solution) (l r : List ℕ) → AreEqual σ (record { left = l; right = r }) → label_by σ l ≡ label_by σ r
labels-equal σ l r (w, a, b) = label_at-by σ l w a ∙ sym (label_at-by σ r w b)

pub system-reduced : (P : Problem) (d : ℕ) (c : List Choice) (old new : Store) (cs : List CellChoice) (g : CellGoal) (gs every : List CellGoal) (ds : List ℕ) (k : ℕ) (a : CellAtom) (y : System) → IsTreeOf P d c (state_at old cs g gs every ds) → IsSystemOf P (state_at old cs g gs every ds) y → IsReduced old new g (suc k) → slice_get g.path k ≡ Some a → IsTrue (is_system new (reduced_system y g.literal a)) → IsSystemOf P (reduced_state new cs gs every ds (suc k)) (reduced_system y g.literal a)
system-reduced P d c old new cs g gs every ds k a y h q r at well = record {
  well = well;
  pairs = q.pairs;
  joined = λ σ u equal demanded.
      let z = before σ u in
      let both = each-parts (AreEqual σ) y.equations (e ∷ []) equal in
      subst (λ xs. IsTrue (are_joined P xs)) (sym (image σ))
      (joined-last P (map (choice_at σ) cs) (reduction (suc k)) (growth_at σ (state_at old cs g gs every ds).growth) _ (h.sound σ z) (grown σ u) (q.joined σ z both.0 demanded)
      (complement-some (literal_by σ g.literal) (slice_get (map (literal_by σ) g.path) k) (literal_by σ a) (map-there (literal_by σ) g.path k a at) (r.back σ u.solves).1 (labels-equal σ g.literal.label a.label both.1.0)));
  equal = λ σ u j.
      let z = before σ u in
      let p = joined-parts P (map (choice_at σ) cs) (reduction (suc k)) (growth_at σ (state_at old cs g gs every ds).growth) (h.sound σ z) (subst (λ xs. IsTrue (are_joined P xs)) (image σ) j) in
      let same = some-complement (literal_by σ g.literal) (slice_get (map (literal_by σ) g.path) k) (literal_by σ a) (map-there (literal_by σ) g.path k a at) p.1 in
      let more = q.equal σ z p.0 in
      let es = all-parts (is_equation new) y.equations (e ∷ []) (system-parts new (reduced_system y g.literal a) well).equations in
      let l = and_parts (is_label new g.literal.label) (is_label new a.label) (and_parts (is_equation new e) true es.1).0 in
      (each-append (AreEqual σ) y.equations (e ∷ []) more.0 (equal-labels new σ u.solves g.literal.label a.label l.0 l.1 same, tt), more.1);
  lengths = λ σ u. subst (λ is. HaveLengths σ y.strings (string_lengths is)) (sym (same-instances σ)) (q.lengths σ (before σ u));
  total = λ σ u. ap (total_steps P) (same-instances σ) ∙ q.total σ (before σ u);
  nus = λ σ u. ap (λ is. sum_by (nu_steps P) is) (same-instances σ) ∙ q.nus σ (before σ u);
}
  where
    e : Equation
    e = record { left = g.literal.label; right = a.label }

    before : (σ : Solution) → IsGround P (reduced_state new cs gs every ds (suc k)) σ → IsGround P (state_at old cs g gs every ds) σ
    before σ u = record { solves = (r.back σ u.solves).0; admitted = (admitted-all P σ cs (reduction (suc k)) u.admitted).0 }

    image : (σ : Solution) → map (choice_at σ) (cs ++ reduction (suc k) ∷ []) ≡ map (choice_at σ) cs ++ reduction (suc k) ∷ []
    image σ = map-append (choice_at σ) cs (reduction (suc k) ∷ [])

    grown : (σ : Solution) → IsGround P (reduced_state new cs gs every ds (suc k)) σ → grow_once P (reduction (suc k)) (growth_at σ (state_at old cs g gs every ds).growth) ≡ Some (record { open_goals = map (goal_at σ) gs; all_goals = map (goal_at σ) every; depths = ds })
    grown σ u = if-true (is_opposite (literal_by σ g.literal) (ancestor (map (literal_by σ) g.path) (suc k))) _ (r.back σ u.solves).1

    same-instances : (σ : Solution) → instances_in (map (choice_at σ) (cs ++ reduction (suc k) ∷ [])) ≡ instances_in (map (choice_at σ) cs)
    same-instances σ = ap instances_in (image σ) ∙ instances_in-append (map (choice_at σ) cs) (reduction (suc k) ∷ []) ∙ append-nil (instances_in (map (choice_at σ) cs))

-- ---- extension

pub system-extended : (P : Problem) (d : ℕ) (c : List Choice) (old new : Store) (cs : List CellChoice) (g : CellGoal) (gs every : List CellGoal) (ds : List ℕ) (i : CellClause) (place : ℕ) (b : CellAtom) (y : System) (strings : List ℕ) (gammas : List GammaCell) (pis : ℕ) → IsTreeOf P d c (state_at old cs g gs every ds) → IsSystemOf P (state_at old cs g gs every ds) y → ((σ : Solution) → Solves new σ → Solves old σ) → ((σ : Solution) → IsGround P (extended_state new cs g gs every ds i place) σ → IsTrue (is_instance P (clause_at σ i)) × IsTrue (is_opposite (literal_by σ g.literal) (slice_get (map (literal_by σ) i.literals) place))) → slice_get i.literals place ≡ Some b → Brings P new i strings gammas pis → IsTrue (is_system new (extended_system y g i place b strings gammas pis)) → IsSystemOf P (extended_state new cs g gs every ds i place) (extended_system y g i place b strings gammas pis)
system-extended P d c old new cs g gs every ds i place b y strings gammas pis h q back meets at brings well = record {
  well = well;
  pairs = ap (λ ps. ps ++ pairs_of (new_cell_goals g i place)) q.pairs ∙ sym (pairs-append every (new_cell_goals g i place));
  joined = λ σ u equal demanded.
      let z = before σ u in
      let m = meets σ u in
      let both = each-parts (AreEqual σ) y.equations (e ∷ []) equal in
      let uses = uses-apart σ y.gammas gammas demanded.0 demanded.1 in
      let allowed = all-parts (gamma_is_allowed P) uses.first uses.second (subst (AllAllowed P) uses.all_of_them demanded.2) in
      subst (λ xs. IsTrue (are_joined P xs)) (sym (image σ))
      (joined-last P (map (choice_at σ) cs) (extension (clause_at σ i) place) (here σ) _ (h.sound σ z) (grown σ u) (q.joined σ z both.0 (uses.first, uses.are_first, allowed.0))
      (and_from (is_allowed_instance P (clause_at σ i)) (is_complement (literal_by σ g.literal) (slice_get (map (literal_by σ) i.literals) place))
      ((brings.allowed σ u.solves m.0).1 (uses.second, uses.are_second, allowed.1))
      (complement-some (literal_by σ g.literal) (slice_get (map (literal_by σ) i.literals) place) (literal_by σ b) (map-there (literal_by σ) i.literals place b at) m.1 (labels-equal σ g.literal.label b.label both.1.0))));
  equal = λ σ u j.
      let z = before σ u in
      let m = meets σ u in
      let p = joined-parts P (map (choice_at σ) cs) (extension (clause_at σ i) place) (here σ) (h.sound σ z) (subst (λ xs. IsTrue (are_joined P xs)) (image σ) j) in
      let n = and_parts (is_allowed_instance P (clause_at σ i)) (is_complement (literal_by σ g.literal) (slice_get (map (literal_by σ) i.literals) place)) p.1 in
      let same = some-complement (literal_by σ g.literal) (slice_get (map (literal_by σ) i.literals) place) (literal_by σ b) (map-there (literal_by σ) i.literals place b at) n.1 in
      let more = q.equal σ z p.0 in
      let clause = (brings.allowed σ u.solves m.0).0 n.0 in
      let es = all-parts (is_equation new) y.equations (e ∷ []) (system-parts new (extended_system y g i place b strings gammas pis) well).equations in
      let l = and_parts (is_label new g.literal.label) (is_label new b.label) (and_parts (is_equation new e) true es.1).0 in (
        each-append (AreEqual σ) y.equations (e ∷ []) more.0 (equal-labels new σ u.solves g.literal.label b.label l.0 l.1 same, tt),
        (more.1.0 ++ clause.0, uses-join σ y.gammas gammas more.1.0 clause.0 more.1.1 clause.1, all-both P more.1.0 clause.0 more.1.2 clause.2),
      );
  lengths = λ σ u. subst (HaveLengths σ (y.strings ++ strings)) (sym (ap string_lengths (all-instances σ) ∙ string_lengths-append (instances_in (map (choice_at σ) cs)) (clause_at σ i ∷ []) ∙ ap (λ ns. string_lengths (instances_in (map (choice_at σ) cs)) ++ ns) (append-nil (lengths_in (clause_at σ i))))) (lengths-append σ y.strings strings (string_lengths (instances_in (map (choice_at σ) cs))) (lengths_in (clause_at σ i)) (q.lengths σ (before σ u)) (brings.lengths σ u.solves));
  total = λ σ u.
      let first = ap (total_steps P) (all-instances σ) ∙ sum_by-append (modal_steps P) (instances_in (map (choice_at σ) cs)) (clause_at σ i ∷ []) in
      let one = sum_by-cons (modal_steps P) (clause_at σ i) [] in
      let s = brings.steps σ u.solves (meets σ u).0 in
      let t = q.total σ (before σ u) in
      let l = length-append y.strings strings in
      first ∙ ap₂ ◌+◌ t (one ∙ nothing-more (modal_steps P (clause_at σ i)) ∙ s) ∙ regroup (length y.strings) y.pis (length strings) pis ∙ ap (λ n. n + (y.pis + pis)) (sym l);
  nus = λ σ u.
      let first = ap (λ is. sum_by (nu_steps P) is) (all-instances σ) ∙ sum_by-append (nu_steps P) (instances_in (map (choice_at σ) cs)) (clause_at σ i ∷ []) in
      let one = sum_by-cons (nu_steps P) (clause_at σ i) [] in
      first ∙ ap₂ ◌+◌ (q.nus σ (before σ u)) (one ∙ nothing-more (nu_steps P (clause_at σ i)) ∙ brings.nus σ u.solves (meets σ u).0) ∙ sym (length-append y.strings strings);
}
  where
    e : Equation
    e = record { left = g.literal.label; right = b.label }

    here : Solution → Growth
    here σ = growth_at σ (state_at old cs g gs every ds).growth

    nothing-more : (n : ℕ) → n + 0 ≡ n
    nothing-more n = omega arith

    regroup : (m n j l : ℕ) → (m + n) + (j + l) ≡ (m + j) + (n + l)
    regroup m n j l = omega arith

    before : (σ : Solution) → IsGround P (extended_state new cs g gs every ds i place) σ → IsGround P (state_at old cs g gs every ds) σ
    before σ u = record { solves = back σ u.solves; admitted = (admitted-all P σ cs (extension i place) u.admitted).0 }

    image : (σ : Solution) → map (choice_at σ) (cs ++ extension i place ∷ []) ≡ map (choice_at σ) cs ++ extension (clause_at σ i) place ∷ []
    image σ = map-append (choice_at σ) cs (extension i place ∷ [])

    grown : (σ : Solution) → IsGround P (extended_state new cs g gs every ds i place) σ → grow_once P (extension (clause_at σ i) place) (here σ) ≡ Some (growth_at σ (extended g gs i place (record { open_goals = g ∷ gs; all_goals = every; depths = ds })))
    grown σ u = extension-grown P σ g gs every ds i place (meets σ u).0 (meets σ u).1

    all-instances : (σ : Solution) → instances_in (map (choice_at σ) (cs ++ extension i place ∷ [])) ≡ instances_in (map (choice_at σ) cs) ++ clause_at σ i ∷ []
    all-instances σ = ap instances_in (image σ) ∙ instances_in-append (map (choice_at σ) cs) (extension (clause_at σ i) place ∷ [])
