-- How many steps were used, against the members of the space for which they were spent.
use Rattle.std.proofs.Common.{◌≡◌, ◌+◌, ◌-◌, ◌≤◌, ℕ, suc, List, [], ◌∷◌, ◌++◌, length, Bool, refl, sym, ◌∙◌, Option, None, Some, arith}
use Rattle.std.specs.declared.cmp.Ordering.{Ordering}
use Rattle.calculus.specs.Choices.{Choice, IsLive}
use Rattle.calculus.specs.Counting.{AtLeastMany, MoreThan}
use Rattle.calculus.specs.Space.{IsEarly, member_cmp}
use Rattle.store_theory.specs.Stores.{Store}
use Rattle.calculus.specs.Syntax.{Problem}
use Rattle.search_theory.specs.Jumps.{IsSolvedBehind}
use Rattle.search_theory.specs.Matrix.{MatrixClause}
use Rattle.search_theory.specs.States.{CellGoal}
use Rattle.search_theory.proofs.EarlyLaws.{spent-many, steps-ended, visited-many}
use Rattle.connection_search.specs.Exploring.{IsCounted, IsSearched, IsSpace, IsSpentAt, IsVisiting}
use Rattle.search_tree.specs.Running.{StandsFor}
use Rattle.search_tree.specs.Seeing.{no_goal}
use Rattle.search_tree.specs.Trees.{AreOpen, tree_system}
use Rattle.search_tree.specs.declared.point.Point.{Point}
use Rattle.search_tree.specs.declared.tree.Goal.{Goal}
use Rattle.search_tree.specs.declared.tree.Step.{Step}
use Rattle.search_tree.proofs.RunningLaws.{running-live}

-- ---- states

pub stands-live : (P : Problem) (m : List MatrixClause) (base d : ℕ) (c : List Choice) (s : Store) (steps : List Step) (goals : List Goal) (first : Option ℕ) → StandsFor P m base d c s steps goals first → IsLive P d c
stands-live P m base d c s steps goals first (cs, x, at) = running-live P base d c (record { store = s; choices = cs; growth = x }) (tree_system m steps goals x.all_goals) at.running

pub none-open : (steps : List Step) (goals : List Goal) (first : Option ℕ) (xs : List CellGoal) → AreOpen steps goals first xs → first ≡ None → xs ≡ []
none-open steps goals first [] h e = refl
none-open steps goals first (x ∷ xs) (i, g, k, there, is, rest) e = let z : None ≡ Some i = sym e ∙ k in absurd (cc z)

-- ---- how many steps were spent

pub fewer : {A : Type 0} (cmp : A → A → Ordering) (Q : A → Type 0) (m n : ℕ) → m ≤ n → AtLeastMany cmp Q n → AtLeastMany cmp Q m
fewer cmp Q m n l (xs, r, k) = (xs, r, omega (arith, l, k))

pub more-than : {A : Type 0} (cmp : A → A → Ordering) (Q : A → Type 0) (m n : ℕ) → m ≤ n → MoreThan cmp Q n → MoreThan cmp Q m
more-than cmp Q m n l (xs, r, k) = (xs, r, omega (arith, l, k))

pub counted : (P : Problem) (d : ℕ) (pending : List (List Choice)) (begun used : ℕ) (left : Bool) → IsSearched P d pending begun used left → IsCounted P d begun used
counted P d pending begun used left h =
    let a = h.from in
    let e = h.count in
    (a, fewer member_cmp (IsEarly P d) (used - begun) (length h.spent) (omega (arith, a, e)) (spent-many P d h.spent pending h.search.explores))

pub visit-counted : (P : Problem) (m : List MatrixClause) (base d : ℕ) (s : Store) (steps : List Step) (goals : List Goal) (first : Option ℕ) (points : List Point) (later : List (List Choice)) (begun used after : ℕ) (left : Bool) → IsSpace P m d → IsVisiting P m base d s steps goals first points later begun used left → after ≡ used + 1 → IsCounted P d begun after
visit-counted P m base d s steps goals first points later begun used after left space v k =
    let a = v.searched.from in
    let e = v.searched.count in
    let l : after - begun ≤ suc (length v.searched.spent) = omega (arith, a, e, k) in
    (omega (arith, a, k), fewer member_cmp (IsEarly P d) (after - begun) (suc (length v.searched.spent)) l (visited-many P d v.searched.spent v.choices (v.pending ++ later) v.searched.search.explores space.from_one (stands-live P m base d v.choices s steps goals first v.stands)))

pub visit-ended : (P : Problem) (m : List MatrixClause) (base d : ℕ) (s : Store) (steps : List Step) (goals : List Goal) (first : Option ℕ) (points : List Point) (later : List (List Choice)) (begun used after : ℕ) (left : Bool) → IsSpace P m d → IsVisiting P m base d s steps goals first points later begun used left → after ≡ used → MoreThan member_cmp (IsEarly P d) (after - begun)
visit-ended P m base d s steps goals first points later begun used after left space v k =
    let a = v.searched.from in
    let e = v.searched.count in
    let l : after - begun ≤ length v.searched.spent = omega (arith, a, e, k) in
    more-than member_cmp (IsEarly P d) (after - begun) (length v.searched.spent) l (steps-ended P d v.searched.spent v.choices (v.pending ++ later) v.searched.search.explores space.from_one (stands-live P m base d v.choices s steps goals first v.stands))

-- ---- a point at which all choices were tried

-- its goal is closed by no list, where it was not solved since the point was made
pub spent-unsolved : (P : Problem) (m : List MatrixClause) (base d : ℕ) (s : Store) (steps : List Step) (goals : List Goal) (p : Point) (points : List Point) (later : List (List Choice)) (begun used : ℕ) (left : Bool) → (h : IsSpentAt P m base d s steps goals p points later begun used left) → p.goals ≤ p.lowest → p.goals ≤ no_goal → IsSolvedBehind P d h.choices []
spent-unsolved P m base d s steps goals p points later begun used left h l small = h.solved.0 (omega (arith, l, small))
