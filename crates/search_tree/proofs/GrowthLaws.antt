-- What the program's tree stands for once a choice was added.
use Rattle.std.proofs.Common.{◌≡◌, ◌+◌, ◌-◌, ◌<◌, append_assoc, ◌≤◌, ℕ, suc, List, [], ◌∷◌, ◌++◌, length, map, refl, sym, ◌∙◌, ap, ap₂, subst, Option, None, Some, slice_get, arith, append-nil}
use Rattle.std.specs.Prelude.{remove}
use Rattle.std.specs.List.{AllByRecursion}
use Rattle.std.proofs.lemmas.List.{map-append}
use Rattle.plain_laws.proofs.Places.{get-back, get-front, get-end}
use Rattle.plain_laws.proofs.Options.{same-some}
use Rattle.calculus.specs.Choices.{start, reduction}
use Rattle.store_theory.specs.Systems.{CellAtom}
use Rattle.search_theory.specs.Matrix.{MatrixClause}
use Rattle.search_theory.specs.States.{CellChoice, CellGoal, cell_goals_on, extended, reduced, started}
use Rattle.search_theory.proofs.StageLaws.{inserted-removed}
use Rattle.search_tree.specs.Trees.{AreGoals, AreOpen, HasAtom, IsBuiltStep, IsGoal, IsLinkedStep, IsPath, IsTree, atom_at, atom_in, clause_with, fresh_goals, goals_of, inserted, link_from, the_step}
use Rattle.term_store.specs.ClauseView.{the_atom}
use Rattle.term_store.specs.declared.clause.CellAtom as program
use Rattle.search_tree.specs.declared.tree.Copied.{Copied}
use Rattle.search_tree.specs.declared.tree.Goal.{Goal}
use Rattle.search_tree.specs.declared.tree.Step.{Step}
use Rattle.search_tree.specs.declared.tree.Step.TheVariants.{Start, Reduce, Extend}

-- ---- what was there stays

pub atom-kept : (steps more : List Step) (g : Goal) (a : CellAtom) → atom_at steps g ≡ Some a → atom_at (steps ++ more) g ≡ Some a
atom-kept steps more g a h = by (slice_get steps g.step) refl h
  where
    by : (o : Option Step) → slice_get steps g.step ≡ o → atom_in g.literal o ≡ Some a → atom_in g.literal (slice_get (steps ++ more) g.step) ≡ Some a
    by None e q = let z : None ≡ Some a = q in absurd (cc z)
    by (Some s) e q = ap (atom_in g.literal) (get-front steps more g.step s e) ∙ q

path-kept : (steps more : List Step) (goals others : List Goal) (k : Option ℕ) (path : List CellAtom) → IsPath steps goals k path → IsPath (steps ++ more) (goals ++ others) k path
path-kept steps more goals others k [] h = h
path-kept steps more goals others k (a ∷ path) (i, g, e, at, atom, rest) = (i, g, e, get-front goals others i g at, atom-kept steps more g a atom, path-kept steps more goals others g.above path rest)

pub goal-kept : (steps more : List Step) (goals others : List Goal) (g : Goal) (x : CellGoal) → IsGoal steps goals g x → IsGoal (steps ++ more) (goals ++ others) g x
goal-kept steps more goals others g x h = record { literal = atom-kept steps more g x.literal h.literal; path = path-kept steps more goals others g.above x.path h.path; depth = h.depth }

open-kept : (steps more : List Step) (goals others : List Goal) (k : Option ℕ) (xs : List CellGoal) → AreOpen steps goals k xs → AreOpen (steps ++ more) (goals ++ others) k xs
open-kept steps more goals others k [] h = h
open-kept steps more goals others k (x ∷ xs) (i, g, e, at, is, rest) = (i, g, e, get-front goals others i g at, goal-kept steps more goals others g x is, open-kept steps more goals others g.behind xs rest)

goals-kept : (steps more : List Step) (goals others some : List Goal) (xs : List CellGoal) → AreGoals steps goals some xs → AreGoals (steps ++ more) (goals ++ others) some xs
goals-kept steps more goals others [] xs h = h
goals-kept steps more goals others (g ∷ some) xs (x, ys, e, is, rest) = (x, ys, e, goal-kept steps more goals others g x is, goals-kept steps more goals others some ys rest)

goals-both : (steps : List Step) (goals some others : List Goal) (xs ys : List CellGoal) → AreGoals steps goals some xs → AreGoals steps goals others ys → AreGoals steps goals (some ++ others) (xs ++ ys)
goals-both steps goals [] others xs ys h k = subst (λ zs. AreGoals steps goals others (zs ++ ys)) (sym h) k
goals-both steps goals (g ∷ some) others xs ys (x, zs, e, is, rest) k = (x, zs ++ ys, ap (λ us. us ++ ys) e, is, goals-both steps goals some others zs ys rest k)

pub has-kept : (steps more : List Step) (goals others : List Goal) (i : ℕ) → HasAtom steps goals i → HasAtom (steps ++ more) (goals ++ others) i
has-kept steps more goals others i (g, a, at, atom) = (g, a, get-front goals others i g at, atom-kept steps more g a atom)

pub linked-kept : (steps more : List Step) (goals others : List Goal) (step : Step) → IsLinkedStep steps goals step → IsLinkedStep (steps ++ more) (goals ++ others) step
linked-kept steps more goals others (Start c) h = tt
linked-kept steps more goals others (Reduce goal up ancestor) h = (has-kept steps more goals others goal h.0, has-kept steps more goals others ancestor h.1)
linked-kept steps more goals others (Extend goal c place atom) h = has-kept steps more goals others goal h

all-linked : (steps more : List Step) (goals others : List Goal) (some : List Step) (step : Step) → AllByRecursion (IsLinkedStep steps goals) some → IsLinkedStep (steps ++ more) (goals ++ others) step → AllByRecursion (IsLinkedStep (steps ++ more) (goals ++ others)) (some ++ step ∷ [])
all-linked steps more goals others [] step h k = (k, tt)
all-linked steps more goals others (x ∷ some) step h k = (linked-kept steps more goals others x h.0, all-linked steps more goals others some step h.1 k)

linked-more : (steps after : List Step) (goals others all : List Goal) (step : Step) → after ≡ steps ++ step ∷ [] → all ≡ goals ++ others → AllByRecursion (IsLinkedStep steps goals) steps → IsLinkedStep steps goals step → AllByRecursion (IsLinkedStep after all) after
linked-more steps after goals others all step ea el h k = rw (ea, el) (all-linked steps (step ∷ []) goals others steps step h (linked-kept steps (step ∷ []) goals others step k))

-- ---- the goals that come

-- the literals from j on
abbrev From : List CellAtom → ℕ → List CellAtom → Type 0
From all j rest = (i : ℕ) (a : CellAtom) → slice_get rest i ≡ Some a → slice_get all (j + i) ≡ Some a

from-next : (all : List CellAtom) (j : ℕ) (a : CellAtom) (rest : List CellAtom) → From all j (a ∷ rest) → From all (suc j) rest
from-next all j a rest h i b e = let q : suc j + i ≡ j + suc i = omega arith in subst (λ n. slice_get all n ≡ Some b) (sym q) (h (suc i) b e)

from-here : (all : List CellAtom) (j : ℕ) (a : CellAtom) (rest : List CellAtom) → From all j (a ∷ rest) → slice_get all j ≡ Some a
from-here all j a rest h = let q : j + 0 ≡ j = omega arith in subst (λ n. slice_get all n ≡ Some a) q (h 0 a refl)

-- a goal that came is the one of its literal
fresh-goal : (steps : List Step) (goals : List Goal) (s : Step) (k j depth : ℕ) (above behind : Option ℕ) (a : CellAtom) (path : List CellAtom) → slice_get steps k ≡ Some s → slice_get (goals_of s) j ≡ Some a → IsPath steps goals above path → depth ≡ length path → IsGoal steps goals (record { step = k; literal = j; above = above; behind = behind; depth = depth }) (record { literal = a; path = path })
fresh-goal steps goals s k j depth above behind a path es ea h d = record { literal = ap (atom_in j) es ∙ ea; path = h; depth = d }

fresh-goals : (steps : List Step) (goals : List Goal) (s : Step) (k first depth : ℕ) (above behind : Option ℕ) (path : List CellAtom) → slice_get steps k ≡ Some s → IsPath steps goals above path → depth ≡ length path → (j : ℕ) (rest : List CellAtom) → From (goals_of s) j rest → AreGoals steps goals (fresh_goals k first above behind depth j (length rest)) (cell_goals_on path rest)
fresh-goals steps goals s k first depth above behind path es h d j [] f = refl
fresh-goals steps goals s k first depth above behind path es h d j (a ∷ rest) f = (
  record { literal = a; path = path },
  cell_goals_on path rest,
  refl,
  fresh-goal steps goals s k j depth above (link_from first behind (suc j) (length rest)) a path es (from-here (goals_of s) j a rest f) h d,
  fresh-goals steps goals s k first depth above behind path es h d (suc j) rest (from-next (goals_of s) j a rest f),
)

-- they are open, and behind them those that were
fresh-open : (steps : List Step) (goals : List Goal) (s : Step) (k first depth : ℕ) (above behind : Option ℕ) (path : List CellAtom) (gs : List CellGoal) → slice_get steps k ≡ Some s → IsPath steps goals above path → depth ≡ length path → AreOpen steps goals behind gs → (j : ℕ) (rest : List CellAtom) → From (goals_of s) j rest → ((i : ℕ) (g : Goal) → slice_get (fresh_goals k first above behind depth j (length rest)) i ≡ Some g → slice_get goals (first + (j + i)) ≡ Some g) → AreOpen steps goals (link_from first behind j (length rest)) (cell_goals_on path rest ++ gs)
fresh-open steps goals s k first depth above behind path gs es h d o j [] f at = o
fresh-open steps goals s k first depth above behind path gs es h d o j (a ∷ rest) f at =
    let here : j + 0 ≡ j = omega arith in (
      first + j,
      record { step = k; literal = j; above = above; behind = link_from first behind (suc j) (length rest); depth = depth },
      refl,
      subst (λ n. slice_get goals (first + n) ≡ Some (record { step = k; literal = j; above = above; behind = link_from first behind (suc j) (length rest); depth = depth })) here (at 0 (record { step = k; literal = j; above = above; behind = link_from first behind (suc j) (length rest); depth = depth }) refl),
      fresh-goal steps goals s k j depth above (link_from first behind (suc j) (length rest)) a path es (from-here (goals_of s) j a rest f) h d,
      fresh-open steps goals s k first depth above behind path gs es h d o (suc j) rest (from-next (goals_of s) j a rest f) (λ i g e. let q : suc j + i ≡ j + suc i = omega arith in subst (λ n. slice_get goals (first + n) ≡ Some g) (sym q) (at (suc i) g e)),
    )

-- ---- one choice more

-- what `grow` adds
pub record Grows (steps : List Step) (goals : List Goal) (step : Step) (above behind : Option ℕ) (depth : ℕ) (after : List Step) (all : List Goal) (first : Option ℕ) : Type 0 where
  pub steps_are : after ≡ steps ++ step ∷ []
  pub goals_are : all ≡ goals ++ fresh_goals (length steps) (length goals) above behind depth 0 (length (goals_of step))
  pub first_is : first ≡ link_from (length goals) behind 0 (length (goals_of step))

-- the goals of a clause below a path, and those that were open
grown : (steps : List Step) (goals : List Goal) (step : Step) (above behind : Option ℕ) (depth : ℕ) (path : List CellAtom) (every gs : List CellGoal) → IsPath steps goals above path → depth ≡ length path → AreGoals steps goals goals every → AreOpen steps goals behind gs → AreGoals (steps ++ step ∷ []) (goals ++ fresh_goals (length steps) (length goals) above behind depth 0 (length (goals_of step))) (goals ++ fresh_goals (length steps) (length goals) above behind depth 0 (length (goals_of step))) (every ++ cell_goals_on path (goals_of step)) × AreOpen (steps ++ step ∷ []) (goals ++ fresh_goals (length steps) (length goals) above behind depth 0 (length (goals_of step))) (link_from (length goals) behind 0 (length (goals_of step))) (cell_goals_on path (goals_of step) ++ gs)
grown steps goals step above behind depth path every gs h d a o =
    let more = fresh_goals (length steps) (length goals) above behind depth 0 (length (goals_of step)) in
    let at = get-end steps step in
    let whole : From (goals_of step) 0 (goals_of step) = λ i b e. let q : 0 + i ≡ i = omega arith in subst (λ n. slice_get (goals_of step) n ≡ Some b) (sym q) e in
    let p = path-kept steps (step ∷ []) goals more above path h in (
      goals-both (steps ++ step ∷ []) (goals ++ more) goals more every (cell_goals_on path (goals_of step)) (goals-kept steps (step ∷ []) goals more goals every a) (fresh-goals (steps ++ step ∷ []) (goals ++ more) step (length steps) (length goals) depth above behind path at p d 0 (goals_of step) whole),
      fresh-open (steps ++ step ∷ []) (goals ++ more) step (length steps) (length goals) depth above behind path gs at p d (open-kept steps (step ∷ []) goals more behind gs o) 0 (goals_of step) whole (λ i g e. let q : 0 + i ≡ i = omega arith in subst (λ n. slice_get (goals ++ more) (length goals + n) ≡ Some g) (sym q) (get-back goals more i g e)),
    )

made-more : (m : List MatrixClause) (steps : List Step) (step : Step) (cs : List CellChoice) → map (the_step m) steps ≡ cs → map (the_step m) (steps ++ step ∷ []) ≡ cs ++ the_step m step ∷ []
made-more m steps step cs e = map-append (the_step m) steps (step ∷ []) ∙ ap (λ xs. xs ++ the_step m step ∷ []) e

built-more : (m : List MatrixClause) (steps : List Step) (step : Step) → AllByRecursion (IsBuiltStep m) steps → IsBuiltStep m step → AllByRecursion (IsBuiltStep m) (steps ++ step ∷ [])
built-more m [] step h k = (k, tt)
built-more m (x ∷ steps) step h k = (h.0, built-more m steps step h.1 k)

-- what was shown of these lists is shown of lists that are equal to them
carry : (steps after : List Step) (goals all : List Goal) (link first : Option ℕ) (xs ys : List CellGoal) → after ≡ steps → all ≡ goals → first ≡ link → AreGoals steps goals goals xs × AreOpen steps goals link ys → AreGoals after all all xs × AreOpen after all first ys
carry steps after goals all link first xs ys ea eb ec p = rw (ea, eb, ec) p

-- the first choice
pub grows-first : (steps after : List Step) (goals all : List Goal) (step : Step) (first : Option ℕ) → steps ≡ [] → goals ≡ [] → after ≡ steps ++ step ∷ [] → all ≡ goals ++ fresh_goals (length steps) (length goals) None None 0 0 (length (goals_of step)) → first ≡ link_from (length goals) None 0 (length (goals_of step)) → Grows [] [] step None None 0 after all first
grows-first steps after goals all step first es eg ea el ef = record {
  steps_are = ea ∙ ap (λ xs. xs ++ step ∷ []) es;
  goals_are = el ∙ ap₂ (λ xs ys. ys ++ fresh_goals (length xs) (length ys) None None 0 0 (length (goals_of step))) es eg;
  first_is = ef ∙ ap (λ ys. link_from (length ys) None 0 (length (goals_of step))) eg;
}

-- the start of a tree
pub tree-started : (m : List MatrixClause) (c : Copied) (after : List Step) (all : List Goal) (first : Option ℕ) → c.clause.0 < length m → Grows [] [] (Start c) None None 0 after all first → IsTree m after all first (start (clause_with m c c.copy.literals) ∷ []) (started (clause_with m c c.copy.literals))
tree-started m c after all first n g =
    let w = grown [] [] (Start c) None None 0 [] [] [] refl refl refl refl in
    let v = carry (Start c ∷ []) after (fresh_goals 0 0 None None 0 0 (length c.copy.literals)) all (link_from 0 None 0 (length c.copy.literals)) first (cell_goals_on [] c.copy.literals) (cell_goals_on [] c.copy.literals ++ []) g.steps_are g.goals_are g.first_is w in
    record {
      made = ap (map (the_step m)) g.steps_are;
      built = subst (AllByRecursion (IsBuiltStep m)) (sym g.steps_are) (n, tt);
      linked = linked-more [] after [] (fresh_goals 0 0 None None 0 0 (length c.copy.literals)) all (Start c) g.steps_are g.goals_are tt tt;
      goals = v.0;
      open_goals = subst (AreOpen after all first) (append-nil (cell_goals_on [] c.copy.literals)) v.1;
    }

-- the leftmost open goal, and those behind it
pub record Leftmost (steps : List Step) (goals : List Goal) (at : Goal) (g : CellGoal) (gs : List CellGoal) : Type 0 where
  pub is_goal : IsGoal steps goals at g
  pub behind : AreOpen steps goals at.behind gs

pub leftmost : (steps : List Step) (goals : List Goal) (goal : ℕ) (at : Goal) (g : CellGoal) (gs : List CellGoal) → AreOpen steps goals (Some goal) (g ∷ gs) → slice_get goals goal ≡ Some at → Leftmost steps goals at g gs
leftmost steps goals goal at g gs (i, k, e, stands, is, rest) h =
    let here : goal ≡ i = cc e in
    let same : k ≡ at = same-some (slice_get goals goal) k at (ap (slice_get goals) here ∙ stands) h in
    record { is_goal = subst (λ (z : Goal). IsGoal steps goals z g) same is; behind = subst (λ (z : Goal). AreOpen steps goals z.behind gs) same rest }

-- an extension
pub tree-extended : (m : List MatrixClause) (steps : List Step) (goals : List Goal) (goal : ℕ) (at : Goal) (c : Copied) (place : ℕ) (atom : program.CellAtom) (after : List Step) (all : List Goal) (first : Option ℕ) (cs : List CellChoice) (g : CellGoal) (gs every : List CellGoal) (ds : List ℕ) → c.clause.0 < length m → IsTree m steps goals (Some goal) cs (record { open_goals = g ∷ gs; all_goals = every; depths = ds }) → slice_get goals goal ≡ Some at → place ≤ length c.copy.literals → Grows steps goals (Extend goal c place atom) (Some goal) at.behind (at.depth + 1) after all first → IsTree m after all first (cs ++ the_step m (Extend goal c place atom) ∷ []) (extended g gs (clause_with m c (inserted place (the_atom atom) c.copy.literals)) place (record { open_goals = g ∷ gs; all_goals = every; depths = ds }))
tree-extended m steps goals goal at c place atom after all first cs g gs every ds n h e l k =
    let q = leftmost steps goals goal at g gs h.open_goals e in
    let d = q.is_goal.depth in
    let w = grown steps goals (Extend goal c place atom) (Some goal) at.behind (at.depth + 1) (g.literal ∷ g.path) every gs (goal, at, refl, e, q.is_goal.literal, q.is_goal.path) (omega (arith, d)) h.goals q.behind in
    let v = carry (steps ++ Extend goal c place atom ∷ []) after (goals ++ fresh_goals (length steps) (length goals) (Some goal) at.behind (at.depth + 1) 0 (length c.copy.literals)) all (link_from (length goals) at.behind 0 (length c.copy.literals)) first (every ++ cell_goals_on (g.literal ∷ g.path) c.copy.literals) (cell_goals_on (g.literal ∷ g.path) c.copy.literals ++ gs) k.steps_are k.goals_are k.first_is w in
    let back : c.copy.literals ≡ remove (inserted place (the_atom atom) c.copy.literals) place = sym (inserted-removed place (the_atom atom) c.copy.literals l) in
    record {
      made = ap (map (the_step m)) k.steps_are ∙ made-more m steps (Extend goal c place atom) cs h.made;
      built = subst (AllByRecursion (IsBuiltStep m)) (sym k.steps_are) (built-more m steps (Extend goal c place atom) h.built (n, l));
      linked = linked-more steps after goals (fresh_goals (length steps) (length goals) (Some goal) at.behind (at.depth + 1) 0 (length c.copy.literals)) all (Extend goal c place atom) k.steps_are k.goals_are h.linked (at, g.literal, e, q.is_goal.literal);
      goals = subst (λ ls. AreGoals after all all (every ++ cell_goals_on (g.literal ∷ g.path) ls)) back v.0;
      open_goals = subst (λ ls. AreOpen after all first (cell_goals_on (g.literal ∷ g.path) ls ++ gs)) back v.1;
    }

-- a reduction
pub tree-reduced : (m : List MatrixClause) (steps : List Step) (goals : List Goal) (goal : ℕ) (at : Goal) (up ancestor : ℕ) (after : List Step) (first : Option ℕ) (cs : List CellChoice) (g : CellGoal) (gs every : List CellGoal) (ds : List ℕ) → HasAtom steps goals ancestor → IsTree m steps goals (Some goal) cs (record { open_goals = g ∷ gs; all_goals = every; depths = ds }) → slice_get goals goal ≡ Some at → after ≡ steps ++ Reduce goal up ancestor ∷ [] → first ≡ at.behind → IsTree m after goals first (cs ++ reduction up ∷ []) (reduced gs (record { open_goals = g ∷ gs; all_goals = every; depths = ds }))
tree-reduced m steps goals goal at up ancestor after first cs g gs every ds w h e ea ef =
    let q = leftmost steps goals goal at g gs h.open_goals e in
    let same = append-nil goals in
    let v = carry (steps ++ Reduce goal up ancestor ∷ []) after goals goals at.behind first every gs ea refl ef (subst (λ zs. AreGoals (steps ++ Reduce goal up ancestor ∷ []) zs goals every) same (goals-kept steps (Reduce goal up ancestor ∷ []) goals [] goals every h.goals), subst (λ zs. AreOpen (steps ++ Reduce goal up ancestor ∷ []) zs at.behind gs) same (open-kept steps (Reduce goal up ancestor ∷ []) goals [] at.behind gs q.behind)) in
    record { made = ap (map (the_step m)) ea ∙ made-more m steps (Reduce goal up ancestor) cs h.made; built = subst (AllByRecursion (IsBuiltStep m)) (sym ea) (built-more m steps (Reduce goal up ancestor) h.built tt); linked = linked-more steps after goals [] goals (Reduce goal up ancestor) ea (sym same) h.linked ((at, g.literal, e, q.is_goal.literal), w); goals = v.0; open_goals = v.1 }

-- ---- the loop that adds the goals

-- the goal of the literal j, and those behind it
pub fresh-next : (step first depth j n : ℕ) (above behind link : Option ℕ) (items rest : List Goal) → j < n → link ≡ link_from first behind (j + 1) (n - (j + 1)) → items ++ fresh_goals step first above behind depth j (n - j) ≡ rest → (items ++ record { step = step; literal = j; above = above; behind = link; depth = depth } ∷ []) ++ fresh_goals step first above behind depth (j + 1) (n - (j + 1)) ≡ rest
fresh-next step first depth j n above behind link items rest l e h =
    let next : j + 1 ≡ suc j = omega arith in
    let z : n - j ≡ suc (n - suc j) = omega (arith, l) in
    let k : link ≡ link_from first behind (suc j) (n - suc j) = e ∙ ap (λ i. link_from first behind i (n - i)) next in
    append_assoc items (record { step = step; literal = j; above = above; behind = link; depth = depth } ∷ []) (fresh_goals step first above behind depth (j + 1) (n - (j + 1)))
    ∙ ap (λ i. items ++ record { step = step; literal = j; above = above; behind = link; depth = depth } ∷ fresh_goals step first above behind depth i (n - i)) next
    ∙ ap (λ o. items ++ record { step = step; literal = j; above = above; behind = o; depth = depth } ∷ fresh_goals step first above behind depth (suc j) (n - suc j)) k
    ∙ sym (ap (λ i. items ++ fresh_goals step first above behind depth j i) z)
    ∙ h
