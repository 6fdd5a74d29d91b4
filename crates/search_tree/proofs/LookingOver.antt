-- Literals of a clause over variables of the store, looked at before their cells are built.
use Rattle.std.proofs.Common.{◌≡◌, ◌≢◌, ◌⊎◌, ◌-◌, ◌<◌, ◌≤◌, ℕ, zero, suc, List, [], ◌∷◌, ◌++◌, length, true, false, IsTrue, refl, sym, ◌∙◌, ap, ap₂, subst, Option, Some, slice_get, inl, inr, arith}
use Rattle.std.specs.Bool.{⊤}
use Rattle.std.specs.List.{list_all}
use Rattle.std.specs.Int.{bit_at}
use Rattle.std.proofs.lemmas.Bool.{and_parts}
use Rattle.plain_laws.proofs.Every.{all-at}
use Rattle.plain_laws.proofs.Options.{same-some}
use Rattle.calculus.specs.declared.sort.Sort.TheVariants.{TermSort}
use Rattle.calculus.specs.Equality.{sign_eq}
use Rattle.calculus.specs.Ground.{Value}
use Rattle.store_theory.specs.Patterns.{Pattern, PatternAtom, Template, patterns_tree}
use Rattle.store_theory.specs.Stores.{Solution, Solves, Store}
use Rattle.store_theory.specs.Systems.{CellAtom}
use Rattle.store_theory.specs.Templates.{as_label, pattern_label, pattern_literal, pattern_terms}
use Rattle.search_theory.specs.Ahead.{MarksPath, bit_of}
use Rattle.search_theory.specs.Matrix.{MatrixClause}
use Rattle.search_theory.specs.States.{CellGoal, label_by, literal_by, terms_by, values_by}
use Rattle.search_theory.specs.Uncopied.{HasNoReductionOver, IsApartOver, IsRepeatedOver, by_args, goal_like}
use Rattle.term_store.specs.Fitting.{atom_fits_in, label_fits_in, parts_fit_in}
use Rattle.term_unify.specs.Matching.{MatchTo}
use Rattle.term_unify.proofs.MatchLaws.{AllMatch, match-terms}
use Rattle.term_unify.proofs.MatchShapes.{match-all}
use Rattle.search_tree.specs.Ahead.{HasNoHope}
use Rattle.search_tree.specs.Trees.{IsGoalAt, atom_at}
use Rattle.search_tree.specs.Uncopied.{IsLostOver, IsSetAside}
use Rattle.search_tree.specs.declared.tree.Goal.{Goal}
use Rattle.search_tree.specs.declared.tree.Step.{Step}
use Rattle.search_tree.proofs.AheadLaws.{marks-goal, other-there}
use Rattle.search_tree.proofs.SamenessLaws.{sign-equal}
use Rattle.search_tree.proofs.TreeLaws.{AncestorAt, atom-found}

-- ---- sorts of patterns

pub args-fit : (s : Store) (vs : List ℕ) (q : PatternAtom) → IsTrue (atom_fits_in s vs q) → IsTrue (parts_fit_in s vs TermSort false (patterns_tree q.args))
args-fit s vs q h = (and_parts (parts_fit_in s vs TermSort false (patterns_tree q.args)) (label_fits_in s vs q.label) h).0

pub label-fits : (s : Store) (vs : List ℕ) (q : PatternAtom) → IsTrue (atom_fits_in s vs q) → IsTrue (label_fits_in s vs q.label)
label-fits s vs q h = (and_parts (parts_fit_in s vs TermSort false (patterns_tree q.args)) (label_fits_in s vs q.label) h).1

-- ---- literals that something above them may close

pub apart-by_terms : (s : Store) (vs : List ℕ) (q : PatternAtom) (a : CellAtom) (xs : List ℕ) → xs ≡ a.args → ((σ : Solution) → Solves s σ → ¬ (terms_by σ xs ≡ pattern_terms (values_by σ vs) (patterns_tree q.args))) → IsApartOver s vs q a
apart-by_terms s vs q a xs e h = by_args (λ σ solves same. h σ solves (ap (terms_by σ) e ∙ same))

-- no solution makes the literal opposite to the atom above the goal
abbrev pub IsApartFrom : Store → List ℕ → PatternAtom → CellGoal → CellAtom → Type 0
IsApartFrom s vs q x a = IsApartOver s vs q a

pub apart-goal : (s : Store) (vs : List ℕ) (q : PatternAtom) (steps : List Step) (goals : List Goal) (goal : ℕ) (a : CellAtom) (x : CellGoal) → IsGoalAt steps goals goal x → ((g : Goal) → slice_get goals goal ≡ Some g → atom_at steps g ≡ Some a) → IsApartOver s vs q a → IsApartOver s vs q x.literal
apart-goal s vs q steps goals goal a x g f h = subst (IsApartOver s vs q) (atom-found steps goals goal x a g f) h

-- neither to the goal nor to one above it
pub no-reduction : (s : Store) (vs : List ℕ) (q : PatternAtom) (x : CellGoal) → IsApartOver s vs q x.literal → ((k : ℕ) (a : CellAtom) → slice_get x.path k ≡ Some a → IsApartOver s vs q a) → HasNoReductionOver s vs q (x.literal ∷ x.path)
no-reduction s vs q x own above zero a e = let same : x.literal ≡ a = cc e in subst (IsApartOver s vs q) same own
no-reduction s vs q x own above (suc k) a e = above k a e

-- ---- literals that give lost goals

pub depth-is : (steps : List Step) (goals : List Goal) (goal : ℕ) (x : CellGoal) (at : Goal) → IsGoalAt steps goals goal x → slice_get goals goal ≡ Some at → at.depth ≡ length x.path
depth-is steps goals goal x at h e = sym (ap (λ (g : Goal). g.depth) (same-some (slice_get goals goal) h.goal at h.stands e)) ∙ h.is_goal.depth

pub lost-at_limit : (m : List MatrixClause) (d depth room : ℕ) (s : Store) (vs : List ℕ) (q : PatternAtom) (x : CellGoal) → HasNoReductionOver s vs q (x.literal ∷ x.path) → room ≡ d - depth → depth ≡ length x.path → room < 2 → IsLostOver m d s vs q (x.literal ∷ x.path)
lost-at_limit m d depth room s vs q x none r e l = record { none = none; full = inl (omega (arith, r, e, l)) }

pub lost-without_hope : (m : List MatrixClause) (d depth room : ℕ) (s : Store) (vs : List ℕ) (q : PatternAtom) (x : CellGoal) → HasNoReductionOver s vs q (x.literal ∷ x.path) → room ≡ d - depth → depth ≡ length x.path → room ≤ 2 → HasNoHope m (goal_like q (x.literal ∷ x.path)) → IsLostOver m d s vs q (x.literal ∷ x.path)
lost-without_hope m d depth room s vs q x none r e l hope = record { none = none; full = inr (omega (arith, r, e, l), hope) }

-- the literal's mark is added to those of the goal and of those above it
pub marks-below : (above marks : ℕ) (q : PatternAtom) (x : CellGoal) → MarksPath above (x.literal ∷ x.path) → bit_at marks (bit_of q.symbol q.sign) ≡ 1 → ((bit : ℕ) → bit_at above bit ≡ 1 → bit_at marks bit ≡ 1) → MarksPath marks ((goal_like q (x.literal ∷ x.path)).literal ∷ x.literal ∷ x.path)
marks-below above marks q x h own others = marks-goal marks (goal_like q (x.literal ∷ x.path)) own (λ k a e. others (bit_of a.symbol a.sign) (h k a e))

-- ---- literals that are the same as something above them

match-label : (σ : Solution) (us : List Value) (rs : List ℕ) (ps : List Pattern) → AllMatch σ us rs ps → pattern_label us ps ≡ label_by σ rs
match-label σ us [] [] h = refl
match-label σ us [] (p ∷ ps) h = absurd (let e = h.0 in omega (arith, e))
match-label σ us (r ∷ rs) [] h = absurd (let e = h.0 in omega (arith, e))
match-label σ us (r ∷ rs) (p ∷ ps) h = ap₂ (λ v w. as_label v ++ w) (sym (h.1 0 r p refl refl)) (match-label σ us rs ps (let e = h.0 in omega (arith, e), λ j. h.1 (suc j)))

-- each solution gives the cells the values of the patterns
abbrev pub AreMatched : Store → List ℕ → List ℕ → List Pattern → Type 0
AreMatched s vs rs ps = (length rs ≡ length ps) × ((σ : Solution) → Solves s σ → MatchTo vs rs ps (length ps) σ)

pub same-literal : (s : Store) (vs : List ℕ) (q : PatternAtom) (a : CellAtom) (xs ys : List ℕ) → sign_eq q.sign a.sign ≡ true → q.symbol ≡ a.symbol → xs ≡ a.args → ys ≡ a.label → AreMatched s vs xs q.args → AreMatched s vs ys q.label → (σ : Solution) → Solves s σ → pattern_literal (values_by σ vs) q ≡ literal_by σ a
same-literal s vs q a xs ys signs symbols ex ey args label σ h =
    let e = sign-equal q.sign a.sign signs in
    let terms = sym (match-terms σ (values_by σ vs) xs q.args (match-all σ vs xs q.args args.0 (args.1 σ h))) ∙ ap (terms_by σ) ex in
    let marks = match-label σ (values_by σ vs) ys q.label (match-all σ vs ys q.label label.0 (label.1 σ h)) ∙ ap (label_by σ) ey in
    λ i. record { sign = e i; symbol = symbols i; args = terms i; label = marks i }

-- nothing is kept of the atoms that were looked at
abbrev pub IsAny : CellGoal → CellAtom → Type 0
IsAny x a = ⊤

pub repeats-goal : (s : Store) (vs : List ℕ) (q : PatternAtom) (steps : List Step) (goals : List Goal) (goal : ℕ) (a : CellAtom) → ((g : Goal) → slice_get goals goal ≡ Some g → atom_at steps g ≡ Some a) → ((σ : Solution) → Solves s σ → pattern_literal (values_by σ vs) q ≡ literal_by σ a) → (x : CellGoal) → IsGoalAt steps goals goal x → IsRepeatedOver s vs q (x.literal ∷ x.path)
repeats-goal s vs q steps goals goal a f h x g = record { number = 0; atom = a; on_path = ap Some (sym (atom-found steps goals goal x a g f)); same = h }

pub repeats-ancestor : (s : Store) (vs : List ℕ) (q : PatternAtom) (steps : List Step) (goals : List Goal) (j i : ℕ) (b : CellAtom) (x : CellGoal) → AncestorAt steps goals x j i → ((g : Goal) → slice_get goals j ≡ Some g → atom_at steps g ≡ Some b) → ((σ : Solution) → Solves s σ → pattern_literal (values_by σ vs) q ≡ literal_by σ b) → IsRepeatedOver s vs q (x.literal ∷ x.path)
repeats-ancestor s vs q steps goals j i b x w f h = record { number = suc i; atom = b; on_path = w.on_path ∙ ap Some (same-some (atom_at steps w.goal) w.atom b w.is_atom (f w.goal w.stands)); same = h }

-- ---- all other literals

pub literal-fits : (s : Store) (vs : List ℕ) (all literals : List PatternAtom) (i : ℕ) (q : PatternAtom) → literals ≡ all → IsTrue (list_all (atom_fits_in s vs) all) → slice_get literals i ≡ Some q → IsTrue (atom_fits_in s vs q)
literal-fits s vs all literals i q e h at = all-at (atom_fits_in s vs) all i q h (subst (λ qs. slice_get qs i ≡ Some q) e at)

pub aside-by : (m : List MatrixClause) (s : Store) (t : Template) (place : ℕ) (vs : List ℕ) (path : List CellAtom) (ahead : Option ℕ) (literals : List PatternAtom) (i : ℕ) (q : PatternAtom) → literals ≡ t.literals → slice_get literals i ≡ Some q → i ≢ place → IsRepeatedOver s vs q path ⊎ ((d : ℕ) × (ahead ≡ Some d) × IsLostOver m d s vs q path) → IsSetAside m s t place vs path ahead
aside-by m s t place vs path ahead literals i q e at differs why =
    let w = other-there t.literals place i q differs (subst (λ qs. slice_get qs i ≡ Some q) e at) in
    record { number = w.0; literal = q; stands = w.1; why = why }
