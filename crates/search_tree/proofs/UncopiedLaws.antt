-- Extensions that are set aside before the other literals are copied: what was seen of such a literal over the variables, in the store in
-- which the connected literal was matched, holds of each extension that bindings of the store before allow.
use Rattle.std.proofs.Common.{◌≡◌, ◌⊎◌, ◌≤◌, ◌+◌, ℕ, List, [], ◌∷◌, ◌++◌, length, not, IsTrue, sym, ◌∙◌, ap, subst, Option, None, Some, slice_get, remove, inl, inr, arith}
use Rattle.std.specs.List.{list_all}
use Rattle.std.proofs.lemmas.Bool.{and_parts, false≢true}
use Rattle.plain_laws.proofs.Every.{all-at}
use Rattle.plain_laws.proofs.Places.{map-there}
use Rattle.calculus.specs.Choices.{Choice, extension}
use Rattle.calculus.specs.Ground.{Value}
use Rattle.calculus.specs.Syntax.{Problem}
use Rattle.calculus.specs.declared.sign.Side.{Side}
use Rattle.store_theory.specs.Patterns.{PatternAtom, Template, patterns_tree}
use Rattle.store_theory.specs.Stores.{Solution, Solves, Store, names_below}
use Rattle.store_theory.specs.Systems.{CellAtom}
use Rattle.store_theory.specs.Templates.{literals_by, pattern_literal, pattern_terms}
use Rattle.search_theory.specs.Jumps.{IsFruitless}
use Rattle.search_theory.specs.Matrix.{MatrixClause}
use Rattle.search_theory.specs.OrderedChoices.{extension_at, selection_of}
use Rattle.search_theory.specs.States.{Agree, CellGoal, atom_is_below, goal_is_below, literal_by, values_by}
use Rattle.search_theory.specs.Uncopied.{HasNoReductionOver, IsApartOver, IsRepeatedOver, by_args, by_sign, by_symbol, goal_like}
use Rattle.search_theory.proofs.BarrenLaws.{AlwaysSame, IsBarren, IsExtensionBy, NeverMeets, barren-fruitless, barren-pruned, lost-barren, repeated-barren, repeated-dead}
use Rattle.search_theory.proofs.ImageLaws.{literal-agree, terms-agree}
use Rattle.search_theory.proofs.MeetingLaws.{opposite-parts, opposite-some}
use Rattle.search_tree.specs.Ahead.{HasNoHope}
use Rattle.search_tree.specs.GivenUp.{IsRuledOut, LooksAhead}
use Rattle.search_tree.specs.Running.{ExtendsBy, IsAtGoal, IsMatrixOf}
use Rattle.search_tree.specs.Trees.{tree_system}
use Rattle.search_tree.specs.Uncopied.{IsLostOver, IsSetAside}
use Rattle.search_tree.specs.declared.tree.Goal.{Goal}
use Rattle.search_tree.specs.declared.tree.Step.{Step}
use Rattle.search_tree.proofs.MatchingLaws.{IsHeadMatch}
use Rattle.search_tree.proofs.MoveLaws.{ClauseFor, place_of}
use Rattle.search_tree.proofs.RunningLaws.{HeadMatched, head-match}
use Rattle.search_tree.proofs.TreeLaws.{goals-length}

-- ---- from the store before to the one in which the literal was matched

-- a solution of the newer store that agrees with this one on the first n cells and gives the variables these values
record IsMetBy (met : Store) (n : ℕ) (vs : List ℕ) (σ : Solution) (us : List Value) : Type 0 where
  solution : Solution
  solves : Solves met solution
  agree : Agree n σ solution
  values : values_by solution vs ≡ us

met-by : (old met : Store) (t : Template) (place : ℕ) (g : CellGoal) (vs : List ℕ) (p : PatternAtom) → IsHeadMatch old met t vs p g.literal.args → slice_get t.literals place ≡ Some p → (σ : Solution) (us : List Value) → IsExtensionBy old t place g σ us → IsMetBy met (length old.cells) vs σ us
met-by old met t place g vs p matched at σ us e =
    let opposite = opposite-some (literal_by σ g.literal) (slice_get (literals_by us t) place) (pattern_literal us p) (map-there (pattern_literal us) t.literals place p at) e.opposite in
    let (τ, solves, agree, values) = matched.forth σ e.solves us e.sorts (opposite-parts (literal_by σ g.literal) (pattern_literal us p) opposite).args in
    record { solution = τ; solves = solves; agree = agree; values = values }

-- ---- what was seen of the literal

same-over : (old met : Store) (t : Template) (place : ℕ) (g : CellGoal) (vs : List ℕ) (p q : PatternAtom) → IsHeadMatch old met t vs p g.literal.args → slice_get t.literals place ≡ Some p → IsTrue (goal_is_below (length old.cells) g) → (r : IsRepeatedOver met vs q (g.literal ∷ g.path)) → AlwaysSame old t place g q r.atom
same-over old met t place g vs p q matched at below r σ us e =
    let m = met-by old met t place g vs p matched at σ us e in
    sym (ap (λ ws. pattern_literal ws q) m.values)
    ∙ r.same m.solution m.solves
    ∙ sym (literal-agree (length old.cells) σ m.solution m.agree r.atom (all-at (atom_is_below (length old.cells)) (g.literal ∷ g.path) r.number r.atom below r.on_path))

never-over : (old met : Store) (t : Template) (place : ℕ) (g : CellGoal) (vs : List ℕ) (p q : PatternAtom) → IsHeadMatch old met t vs p g.literal.args → slice_get t.literals place ≡ Some p → IsTrue (goal_is_below (length old.cells) g) → HasNoReductionOver met vs q (g.literal ∷ g.path) → NeverMeets old t place g q
never-over old met t place g vs p q matched at below none σ us e k a on parts = by (none k a on)
  where
    by : IsApartOver met vs q a → ⊥
    by (by_sign same) = false≢true (sym (ap not same) ∙ parts.signs)
    by (by_symbol differs) = differs parts.symbols
    by (by_args differ) =
        let m = met-by old met t place g vs p matched at σ us e in
        let cells = all-at (atom_is_below (length old.cells)) (g.literal ∷ g.path) k a below on in
        differ m.solution m.solves
        (sym (terms-agree (length old.cells) σ m.solution m.agree a.args (and_parts (names_below (length old.cells) a.args) (names_below (length old.cells) a.label) cells).0)
        ∙ sym parts.args
        ∙ ap (λ ws. pattern_terms ws (patterns_tree q.args)) (sym m.values))

-- ---- the extension

-- the limit that was looked at is the search's
lost-within : (m : List MatrixClause) (d n : ℕ) (met : Store) (vs : List ℕ) (q : PatternAtom) (path : List CellAtom) (ahead : Option ℕ) → LooksAhead ahead d → ahead ≡ Some n → IsLostOver m n met vs q path → IsLostOver m d met vs q path
lost-within m d n met vs q path ahead looks is lost = subst (λ j. IsLostOver m j met vs q path) (subst (λ o. LooksAhead o d) is looks) lost

lost-over : (P : Problem) (m : List MatrixClause) (d : ℕ) (old met : Store) (t : Template) (place number : ℕ) (g : CellGoal) (vs : List ℕ) (p q : PatternAtom) → IsMatrixOf P m → IsHeadMatch old met t vs p g.literal.args → slice_get t.literals place ≡ Some p → IsTrue (goal_is_below (length old.cells) g) → slice_get (remove t.literals place) number ≡ Some q → IsLostOver m d met vs q (g.literal ∷ g.path) → IsBarren P d old t place g
lost-over P m d old met t place number g vs p q tm matched at below there lost = lost-barren P m d old t place number g q tm.matrix there (never-over old met t place g vs p q matched at below lost.none) (room lost.full)
  where
    room : (d ≤ length (g.literal ∷ g.path)) ⊎ ((d ≤ length (g.literal ∷ g.path) + 1) × HasNoHope m (goal_like q (g.literal ∷ g.path))) → (d ≤ length g.path + 1) ⊎ ((d ≤ length g.path + 2) × HasNoHope m (goal_like q (g.literal ∷ g.path)))
    room (inl full) = inl (omega (arith, full))
    room (inr (near, none)) = inr (omega (arith, near), none)

-- another literal shows that the extension is a dead end, or that it closes nothing within the limit that is looked at
pub set-aside : (P : Problem) (m : List MatrixClause) (base d : ℕ) (c : List Choice) (old met : Store) (steps : List Step) (goals : List Goal) (goal k place : ℕ) (g : CellGoal) (t : Template) (vs xs : List ℕ) (ahead : Option ℕ) → IsMatrixOf P m → IsAtGoal P m base d c old steps goals goal g → (e : ExtendsBy m d g (place_of k place)) → ClauseFor P m k t → HeadMatched old met t place vs e.literal xs → xs ≡ g.literal.args → LooksAhead ahead d → IsSetAside m met t place vs (g.literal ∷ g.path) ahead → IsRuledOut P d (c ++ extension_at m (place_of k place) ∷ []) ahead × IsFruitless P d (c ++ extension_at m (place_of k place) ∷ []) (length goals)
set-aside P m base d c old met steps goals goal k place g t vs xs ahead tm at e f head ex looks aside = by aside.why
  where
    sides : List Side
    sides = selection_of (slice_get m k)

    matched : IsHeadMatch old met t vs e.literal g.literal.args
    matched = head-match P base d c old met at.made g at.behind at.every at.depths sides t place vs e.literal (tree_system m steps goals at.every) at.at.running f.template f.own.sorts (subst (HeadMatched old met t place vs e.literal) ex head)

    below : IsTrue (goal_is_below (length old.cells) g)
    below = (and_parts (goal_is_below (length old.cells) g) (list_all (goal_is_below (length old.cells)) at.behind) at.at.running.state.cells.open_goals).0

    fruitless : IsBarren P d old t place g → IsFruitless P d (c ++ extension sides place ∷ []) (length goals)
    fruitless bad = subst (IsFruitless P d (c ++ extension sides place ∷ [])) (goals-length steps goals goals at.every at.at.tree.goals) (barren-fruitless P d c old at.made g at.behind at.every at.depths sides t place at.at.running.state f.template bad)

    repeated : IsRepeatedOver met vs aside.literal (g.literal ∷ g.path) → IsRuledOut P d (c ++ extension sides place ∷ []) ahead × IsFruitless P d (c ++ extension sides place ∷ []) (length goals)
    repeated r =
        let same = same-over old met t place g vs e.literal aside.literal matched head.stands below r in (
          inl (repeated-dead P d c old at.made g at.behind at.every at.depths sides t place aside.number r.number aside.literal r.atom at.at.running.state f.template aside.stands r.on_path same),
          fruitless (repeated-barren P d old t place aside.number r.number g aside.literal r.atom aside.stands r.on_path same),
        )

    lost : (n : ℕ) → ahead ≡ Some n → IsLostOver m n met vs aside.literal (g.literal ∷ g.path) → IsRuledOut P d (c ++ extension sides place ∷ []) ahead × IsFruitless P d (c ++ extension sides place ∷ []) (length goals)
    lost n is h =
        let bad = lost-over P m d old met t place aside.number g vs e.literal aside.literal tm matched head.stands below aside.stands (lost-within m d n met vs aside.literal (g.literal ∷ g.path) ahead looks is h) in (
          inr ((λ none. let z : Some n ≡ None = sym is ∙ none in cc z), barren-pruned P d c old at.made g at.behind at.every at.depths sides t place at.at.running.state f.template bad),
          fruitless bad,
        )

    by : IsRepeatedOver met vs aside.literal (g.literal ∷ g.path) ⊎ ((n : ℕ) × (ahead ≡ Some n) × IsLostOver m n met vs aside.literal (g.literal ∷ g.path)) → IsRuledOut P d (c ++ extension sides place ∷ []) ahead × IsFruitless P d (c ++ extension sides place ∷ []) (length goals)
    by (inl r) = repeated r
    by (inr (n, is, h)) = lost n is h
