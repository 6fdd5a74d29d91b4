-- The walk over the steps from the first to the last that writes those that are left by their new numbers, with a table of the new
-- numbers of the branch.
use Rattle.std.specs.Prelude.{ℕ, zero, suc, ◌+◌, ◌-◌, List, [], ◌∷◌, ◌++◌, length, take, get_or, Bool, true, false}
use Rattle.calculus.specs.Derivations.{Step, apply_to, close}
use Rattle.trim_theory.specs.Left.{one_if}
use Rattle.trim_theory.specs.declared.pass.Way.{Way}
use Rattle.trim_theory.specs.declared.pass.Way.TheVariants.{Ends, Adds, Forks}
use Rattle.trim_theory.specs.declared.pass.Mark.{Mark}

-- the table has a number for each of 0 and the entries: how many entries up to it are left
abbrev pub last_of : List ℕ → ℕ
last_of table = get_or table (length table - 1) 0

abbrev pub grown : Bool → List ℕ → List ℕ
grown k table = table ++ (last_of table + one_if k) ∷ []

abbrev pub grown_by : ℕ → Bool → List ℕ → List ℕ
grown_by zero k table = table
grown_by (suc j) k table = grown_by j k (grown k table)

abbrev pub numbered : List ℕ → Step → Step
numbered table (apply_to a x y) = apply_to (get_or table a 0) x y
numbered table (close a b) = close (get_or table a 0) (get_or table b 0)

abbrev pub put_if : Bool → Step → List Step → List Step
put_if true x xs = x ∷ xs
put_if false x xs = xs

-- whether the fork is left whose right side is the next one
abbrev pub next_fork : List Bool → Bool
next_fork [] = false
next_fork (k ∷ ks) = k

abbrev pub later_forks : List Bool → List Bool
later_forks [] = []
later_forks (k ∷ ks) = ks

-- where a right side begins, the table is cut back
abbrev pub resumed_table : Bool → ℕ → List ℕ → List Bool → List ℕ
resumed_table true n table forks = grown (next_fork forks) (take n table)
resumed_table false n table forks = table

abbrev pub resumed_forks : Bool → List Bool → List Bool
resumed_forks true forks = later_forks forks
resumed_forks false forks = forks

-- after a step that is left, or not
abbrev pub next_table : Bool → Way → List ℕ → List ℕ
next_table k (Ends a b) table = table
next_table k (Adds a j) table = grown_by j k table
next_table k (Forks a) table = grown k table

abbrev pub next_forks : Bool → Way → List Bool → List Bool
next_forks k (Ends a b) forks = forks
next_forks k (Adds a j) forks = forks
next_forks k (Forks a) forks = k ∷ forks

-- a step by the table, and what the later ones write
abbrev pub write_one : Mark → Step → List ℕ → List Bool → (List ℕ → List Bool → List Step) → List Step
write_one m x table forks go = put_if m.is_left (numbered table x) (go (next_table m.is_left m.pass.way table) (next_forks m.is_left m.pass.way forks))

-- `forks`: for each fork whose right side is still to come whether it is left
abbrev pub write : List Mark → List Step → List ℕ → List Bool → List Step
write [] xs table forks = []
write (m ∷ ms) [] table forks = []
write (m ∷ ms) (x ∷ xs) table forks = write_one m x (resumed_table m.pass.starts_right m.pass.before table forks) (resumed_forks m.pass.starts_right forks) (write ms xs)
