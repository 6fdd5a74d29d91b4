-- A walk over the steps from the first to the last that edits them: steps come in early, each on an entry that adds its components as
-- they are, and steps go whose entries stand on the branch already. So a step that is made on both sides of a fork can be made once,
-- above it. Each edit is tested, and where one does not fit there is no result.
use Rattle.std.specs.Prelude.{ℕ, zero, suc, List, [], ◌∷◌, ◌++◌, length, take, get_or, Bool, true, false, ◌&&◌, ◌==◌, nat_lt, Option, Some, None}
use Rattle.calculus.specs.declared.setting.Logic.{Logic}
use Rattle.calculus.specs.declared.kind.Shape.{Shape}
use Rattle.calculus.specs.declared.kind.Shape.TheVariants.{Alpha}
use Rattle.calculus.specs.declared.kind.ModalPart.{ModalPart}
use Rattle.calculus.specs.declared.kind.ModalPart.TheVariants.{Plain}
use Rattle.calculus.specs.declared.sign.Sign.TheVariants.{F}
use Rattle.calculus.specs.Syntax.{Problem}
use Rattle.calculus.specs.Kinds.{Signed, signed, shape_of, modal_of, components}
use Rattle.calculus.specs.Derivations.{Step, apply_to, close, no_modal, no_term}
use Rattle.calculus.specs.Text.{is_number}
use Rattle.trim_theory.specs.Bare.{bare}
use Rattle.trim_theory.specs.Reading.{Next, grows, splits, next_of, bare_entry}
use Rattle.trim_theory.specs.Writing.{numbered}
use Rattle.trim_theory.specs.declared.edit.Edit.{Edit}
use Rattle.trim_theory.specs.declared.edit.Edit.TheVariants.{Keep, Skip, Insert}

-- of each right side that is still to come: the lengths of the new branch and of the table before it, and its first formula
pub record Fork : Type 0 where
  pub branch : ℕ
  pub table : ℕ
  pub first : Signed

-- `branch`: the formulas of the new branch, without terms; `parents`: of each of its entries the number of the entry on which a step came
-- in, where it is the first one that this step added, and else 0; `table`: the new numbers of 0 and of the entries of the given branch
pub record Place : Type 0 where
  pub branch : List Signed
  pub parents : List ℕ
  pub table : List ℕ
  pub forks : List Fork

abbrev pub place : List Signed → List ℕ → List ℕ → List Fork → Place
place branch parents table forks = record { branch = branch; parents = parents; table = table; forks = forks }

abbrev pub fork_at : ℕ → ℕ → Signed → Fork
fork_at n k z = record { branch = n; table = k; first = z }

-- one more entry, on both branches
abbrev pub added : Signed → Place → Place
added y w = place (w.branch ++ y ∷ []) (w.parents ++ 0 ∷ []) (w.table ++ length (w.branch ++ y ∷ []) ∷ []) w.forks

abbrev pub added_all : List Signed → Place → Place
added_all [] w = w
added_all (y ∷ ys) w = added_all ys (added y w)

abbrev pub forked : Signed → Signed → Place → Place
forked y z w = added y (place w.branch w.parents w.table (fork_at (length w.branch) (length w.table) z ∷ w.forks))

abbrev pub after_use : Next → Place → Place
after_use (grows ys) w = added_all ys w
after_use (splits y z) w = forked y z w

-- at the next right side
abbrev pub resumed_at : List Fork → Place → Place
resumed_at [] w = w
resumed_at (f ∷ fs) w = added f.first (place (take f.branch w.branch) (take f.branch w.parents) (take f.table w.table) fs)

abbrev pub after_kept : Step → Place → Place
after_kept (close a b) w = resumed_at w.forks w
after_kept (apply_to a x y) w = after_use (next_of (bare_entry w.branch (get_or w.table a 0))) w

-- ---- a step that comes in

abbrev pub is_plain_alpha : ModalPart → Shape → Bool
is_plain_alpha Plain Alpha = true
is_plain_alpha _ _ = false

abbrev pub can_insert : Logic → Option Signed → Bool
can_insert l None = false
can_insert l (Some x) = is_plain_alpha (modal_of l x.sign x.formula) (shape_of x.sign x.formula)

abbrev pub components_in : Option Signed → List Signed
components_in None = []
components_in (Some x) = components x.sign x.formula

abbrev pub zeros : List Signed → List ℕ
zeros [] = []
zeros (y ∷ ys) = 0 ∷ zeros ys

abbrev pub inserted : ℕ → List Signed → Place → Place
inserted n [] w = w
inserted n (y ∷ ys) w = place (w.branch ++ y ∷ ys) (w.parents ++ n ∷ zeros ys) w.table w.forks

-- ---- a step that goes

abbrev pub parent_at : List ℕ → ℕ → ℕ
parent_at parents zero = 0
parent_at parents (suc k) = get_or parents k 0

-- the entry of number m is the first one that a step on entry n added which came in
abbrev pub is_added : List ℕ → ℕ → ℕ → Bool
is_added parents m n = nat_lt 0 n && parent_at parents m == n

abbrev pub can_skip : ℕ → Step → Place → Bool
can_skip m (close a b) w = false
can_skip m (apply_to a x y) w = is_added w.parents m (get_or w.table a 0)

abbrev pub referred : ℕ → List Signed → Place → Place
referred m [] w = w
referred m (y ∷ ys) w = referred (suc m) ys (place w.branch w.parents (w.table ++ m ∷ []) w.forks)

abbrev pub after_skipped : ℕ → Step → Place → Place
after_skipped m (close a b) w = w
after_skipped m (apply_to a x y) w = referred m (components_in (bare_entry w.branch (get_or w.table a 0))) w

-- ---- the walk

abbrev pub before_all : List Step → Option (List Step) → Option (List Step)
before_all xs None = None
before_all xs (Some ys) = Some (xs ++ ys)

-- what comes later, by the steps that are still to come
abbrev pub Rest : Type 0
Rest = List Step → Place → Option (List Step)

abbrev pub if_fits : Bool → Option (List Step) → Option (List Step)
if_fits true r = r
if_fits false r = None

-- its numbers are ones that can be printed
abbrev pub has_numbers : Step → Bool
has_numbers (apply_to n x y) = is_number n
has_numbers (close n k) = is_number n && is_number k

abbrev pub by_edit : Logic → Edit → Step → List Step → Place → Rest → Option (List Step)
by_edit l Keep x xs w go = if_fits (has_numbers (numbered w.table x)) (before_all (numbered w.table x ∷ []) (go xs (after_kept x w)))
by_edit l (Skip m) x xs w go = if_fits (can_skip m x w) (go xs (after_skipped m x w))
by_edit l (Insert n) x xs w go = if_fits (is_number n && can_insert l (bare_entry w.branch n)) (before_all (apply_to n no_modal no_term ∷ []) (go (x ∷ xs) (inserted n (components_in (bare_entry w.branch n)) w)))

abbrev pub edited : Logic → List Edit → Rest
edited l [] [] w = Some []
edited l [] (x ∷ xs) w = None
edited l (e ∷ es) [] w = None
edited l (e ∷ es) (x ∷ xs) w = by_edit l e x xs w (edited l es)

-- below the problem's formula
abbrev pub first_place : Problem → Place
first_place P = place (signed F (bare P.formula) ∷ []) (0 ∷ []) (0 ∷ 1 ∷ []) []

abbrev pub edited_in : Problem → List Edit → List Step → Option (List Step)
edited_in P es xs = edited P.setting.logic es xs (first_place P)

-- how many of the steps that are still to come an edit takes
abbrev pub taken_by : Edit → ℕ
taken_by Keep = 1
taken_by (Skip m) = 1
taken_by (Insert n) = 0
