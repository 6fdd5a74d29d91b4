-- The system of the program's tree grows with its choices as that of a state does.
use Rattle.std.proofs.Common.{◌≡◌, ℕ, ◌+◌, List, [], ◌∷◌, ◌++◌, append-nil, ap, ap₂, refl, sum_by, sym, ◌∙◌, Some, slice_get, arith}
use Rattle.std.specs.List.{AllByRecursion, flat_map}
use Rattle.std.proofs.lemmas.List.Concat.{flat_map-cons}
use Rattle.std.proofs.lemmas.List.Sums.{sum_by-append, sum_by-cons}
use Rattle.plain_laws.proofs.Places.{get-front}
use Rattle.plain_laws.proofs.Lists.{flat-last}
use Rattle.store_theory.specs.Systems.{CellAtom, Equation}
use Rattle.search_theory.specs.Matrix.{MatrixClause}
use Rattle.search_theory.specs.StateSystems.{extended_system, pairs_of, reduced_system, started_system}
use Rattle.search_theory.specs.States.{CellChoice, CellGoal, cell_goals_on, new_cell_goals}
use Rattle.search_theory.proofs.SystemSteps.{pairs-append, pairs-none}
use Rattle.term_store.specs.ClauseView.{the_atom}
use Rattle.term_store.specs.declared.clause.CellAtom as program
use Rattle.search_tree.specs.Trees.{HasAtom, IsLinkedStep, IsTree, atom_at, clause_with, equations_of, gammas_of, goal_label, inserted, label_of, pis_of, strings_in, strings_of, tree_system}
use Rattle.search_tree.specs.declared.tree.Copied.{Copied}
use Rattle.search_tree.specs.declared.tree.Goal.{Goal}
use Rattle.search_tree.specs.declared.tree.Step.{Step}
use Rattle.search_tree.specs.declared.tree.Step.TheVariants.{Start, Reduce, Extend}
use Rattle.search_tree.proofs.GrowthLaws.{atom-kept, leftmost}

-- ---- lists

none-more : (n : ℕ) → n + 0 ≡ n
none-more n = omega arith

one-summed : {X : Type 0} (f : X → ℕ) (xs : List X) (x : X) → sum_by f (xs ++ x ∷ []) ≡ sum_by f xs + f x
one-summed f xs x = sum_by-append f xs (x ∷ []) ∙ ap (λ n. sum_by f xs + n) (sum_by-cons f x [] ∙ none-more (f x))

-- ---- labels of goals stay

label-is : (steps : List Step) (goals : List Goal) (i : ℕ) (g : Goal) (a : CellAtom) → slice_get goals i ≡ Some g → atom_at steps g ≡ Some a → goal_label steps (slice_get goals i) ≡ a.label
label-is steps goals i g a at atom = ap (goal_label steps) at ∙ ap label_of atom

label-kept : (steps more : List Step) (goals others : List Goal) (i : ℕ) → HasAtom steps goals i → goal_label (steps ++ more) (slice_get (goals ++ others) i) ≡ goal_label steps (slice_get goals i)
label-kept steps more goals others i (g, a, at, atom) = label-is (steps ++ more) (goals ++ others) i g a (get-front goals others i g at) (atom-kept steps more g a atom) ∙ sym (label-is steps goals i g a at atom)

equation-kept : (steps more : List Step) (goals others : List Goal) (step : Step) → IsLinkedStep steps goals step → equations_of (steps ++ more) (goals ++ others) step ≡ equations_of steps goals step
equation-kept steps more goals others (Start c) h = refl
equation-kept steps more goals others (Reduce goal up ancestor) h = ap₂ (λ l r. record { left = l; right = r } ∷ []) (label-kept steps more goals others goal h.0) (label-kept steps more goals others ancestor h.1)
equation-kept steps more goals others (Extend goal c place atom) h = ap (λ l. record { left = l; right = (the_atom atom).label } ∷ []) (label-kept steps more goals others goal h)

equations-kept : (steps more : List Step) (goals others : List Goal) (some : List Step) → AllByRecursion (IsLinkedStep steps goals) some → flat_map (equations_of (steps ++ more) (goals ++ others)) some ≡ flat_map (equations_of steps goals) some
equations-kept steps more goals others [] h = refl
equations-kept steps more goals others (x ∷ some) h =
    flat_map-cons (equations_of (steps ++ more) (goals ++ others)) x some
    ∙ ap₂ (λ xs ys. xs ++ ys) (equation-kept steps more goals others x h.0) (equations-kept steps more goals others some h.1)
    ∙ sym (flat_map-cons (equations_of steps goals) x some)

-- ---- one choice more

-- the equations of one step more
equations-more : (steps : List Step) (goals others : List Goal) (step : Step) (es : List Equation) → AllByRecursion (IsLinkedStep steps goals) steps → equations_of (steps ++ step ∷ []) (goals ++ others) step ≡ es → flat_map (equations_of (steps ++ step ∷ []) (goals ++ others)) (steps ++ step ∷ []) ≡ flat_map (equations_of steps goals) steps ++ es
equations-more steps goals others step es h e = flat-last (equations_of (steps ++ step ∷ []) (goals ++ others)) steps step ∙ ap₂ (λ xs ys. xs ++ ys) (equations-kept steps (step ∷ []) goals others steps h) e

-- the start
pub system-started : (m : List MatrixClause) (c : Copied) (before after : List Step) (goals : List Goal) → before ≡ [] → after ≡ before ++ Start c ∷ [] → tree_system m after goals (cell_goals_on [] c.copy.literals) ≡ started_system (strings_in m c) c.copy.gammas c.copy.pis
system-started m c before after goals e f = ap (λ ss. tree_system m ss goals (cell_goals_on [] c.copy.literals)) (f ∙ ap (λ ss. ss ++ Start c ∷ []) e) ∙ whole
  where
    whole : tree_system m (Start c ∷ []) goals (cell_goals_on [] c.copy.literals) ≡ started_system (strings_in m c) c.copy.gammas c.copy.pis
    whole = λ i. record {
      equations = flat-last (equations_of (Start c ∷ []) goals) [] (Start c) i;
      strings = flat-last (strings_of m) [] (Start c) i;
      pis = (sum_by-cons pis_of (Start c) [] ∙ none-more c.copy.pis) i;
      gammas = flat-last gammas_of [] (Start c) i;
      pairs = pairs-none c.copy.literals i;
    }

-- a reduction
pub system-reduced : (m : List MatrixClause) (steps after : List Step) (goals : List Goal) (goal up ancestor : ℕ) (here at : Goal) (cs : List CellChoice) (g : CellGoal) (a : CellAtom) (gs every : List CellGoal) (ds : List ℕ) → IsTree m steps goals (Some goal) cs (record { open_goals = g ∷ gs; all_goals = every; depths = ds }) → slice_get goals goal ≡ Some here → slice_get goals ancestor ≡ Some at → atom_at steps at ≡ Some a → after ≡ steps ++ Reduce goal up ancestor ∷ [] → tree_system m after goals every ≡ reduced_system (tree_system m steps goals every) g.literal a
system-reduced m steps after goals goal up ancestor here at cs g a gs every ds h e ea atom f = ap (λ ss. tree_system m ss goals every) f ∙ whole
  where
    labels : equations_of (steps ++ Reduce goal up ancestor ∷ []) (goals ++ []) (Reduce goal up ancestor) ≡ record { left = g.literal.label; right = a.label } ∷ []
    labels =
        let q = leftmost steps goals goal here g gs h.open_goals e in
        ap₂ (λ l r. record { left = l; right = r } ∷ [])
        (label-is (steps ++ Reduce goal up ancestor ∷ []) (goals ++ []) goal here g.literal (get-front goals [] goal here e) (atom-kept steps (Reduce goal up ancestor ∷ []) here g.literal q.is_goal.literal))
        (label-is (steps ++ Reduce goal up ancestor ∷ []) (goals ++ []) ancestor at a (get-front goals [] ancestor at ea) (atom-kept steps (Reduce goal up ancestor ∷ []) at a atom))

    equations : flat_map (equations_of (steps ++ Reduce goal up ancestor ∷ []) goals) (steps ++ Reduce goal up ancestor ∷ []) ≡ flat_map (equations_of steps goals) steps ++ record { left = g.literal.label; right = a.label } ∷ []
    equations = ap (λ zs. flat_map (equations_of (steps ++ Reduce goal up ancestor ∷ []) zs) (steps ++ Reduce goal up ancestor ∷ [])) (sym (append-nil goals)) ∙ equations-more steps goals [] (Reduce goal up ancestor) (record { left = g.literal.label; right = a.label } ∷ []) h.linked labels

    whole : tree_system m (steps ++ Reduce goal up ancestor ∷ []) goals every ≡ reduced_system (tree_system m steps goals every) g.literal a
    whole = λ i. record {
      equations = equations i;
      strings = (flat-last (strings_of m) steps (Reduce goal up ancestor) ∙ append-nil (flat_map (strings_of m) steps)) i;
      pis = (one-summed pis_of steps (Reduce goal up ancestor) ∙ none-more (sum_by pis_of steps)) i;
      gammas = (flat-last gammas_of steps (Reduce goal up ancestor) ∙ append-nil (flat_map gammas_of steps)) i;
      pairs = pairs_of every;
    }

-- an extension
pub system-extended : (m : List MatrixClause) (steps after : List Step) (goals others all : List Goal) (goal : ℕ) (c : Copied) (place : ℕ) (atom : program.CellAtom) (here : Goal) (cs : List CellChoice) (g : CellGoal) (gs every : List CellGoal) (ds : List ℕ) → IsTree m steps goals (Some goal) cs (record { open_goals = g ∷ gs; all_goals = every; depths = ds }) → slice_get goals goal ≡ Some here → after ≡ steps ++ Extend goal c place atom ∷ [] → all ≡ goals ++ others → tree_system m after all (every ++ new_cell_goals g (clause_with m c (inserted place (the_atom atom) c.copy.literals)) place) ≡ extended_system (tree_system m steps goals every) g (clause_with m c (inserted place (the_atom atom) c.copy.literals)) place (the_atom atom) (strings_in m c) c.copy.gammas c.copy.pis
system-extended m steps after goals others all goal c place atom here cs g gs every ds h e f fa = ap₂ (λ ss zs. tree_system m ss zs (every ++ new_cell_goals g (clause_with m c (inserted place (the_atom atom) c.copy.literals)) place)) f fa ∙ whole
  where
    labels : equations_of (steps ++ Extend goal c place atom ∷ []) (goals ++ others) (Extend goal c place atom) ≡ record { left = g.literal.label; right = (the_atom atom).label } ∷ []
    labels =
        let q = leftmost steps goals goal here g gs h.open_goals e in
        ap (λ l. record { left = l; right = (the_atom atom).label } ∷ [])
        (label-is (steps ++ Extend goal c place atom ∷ []) (goals ++ others) goal here g.literal (get-front goals others goal here e) (atom-kept steps (Extend goal c place atom ∷ []) here g.literal q.is_goal.literal))

    whole : tree_system m (steps ++ Extend goal c place atom ∷ []) (goals ++ others) (every ++ new_cell_goals g (clause_with m c (inserted place (the_atom atom) c.copy.literals)) place) ≡ extended_system (tree_system m steps goals every) g (clause_with m c (inserted place (the_atom atom) c.copy.literals)) place (the_atom atom) (strings_in m c) c.copy.gammas c.copy.pis
    whole = λ i. record {
      equations = equations-more steps goals others (Extend goal c place atom) (record { left = g.literal.label; right = (the_atom atom).label } ∷ []) h.linked labels i;
      strings = flat-last (strings_of m) steps (Extend goal c place atom) i;
      pis = one-summed pis_of steps (Extend goal c place atom) i;
      gammas = flat-last gammas_of steps (Extend goal c place atom) i;
      pairs = pairs-append every (new_cell_goals g (clause_with m c (inserted place (the_atom atom) c.copy.literals)) place) i;
    }
