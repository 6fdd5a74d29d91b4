-- The passes of a list of steps, found with a branch of signs and formulas without terms.
use Rattle.std.specs.Prelude.{ℕ, zero, suc, List, [], ◌∷◌, ◌++◌, length, take, Bool, true, false, Option, Some, None, slice_get}
use Rattle.calculus.specs.declared.kind.Shape.{Shape}
use Rattle.calculus.specs.declared.kind.Shape.TheVariants.{Beta}
use Rattle.calculus.specs.Kinds.{Signed, shape_of, components}
use Rattle.calculus.specs.Derivations.{Step, apply_to, close}
use Rattle.trim_theory.specs.Marking.{pass}
use Rattle.trim_theory.specs.declared.pass.Way.TheVariants.{Ends, Adds, Forks}
use Rattle.trim_theory.specs.declared.pass.Pass.{Pass}

pub data Next : Type 0 where
  grows : List Signed → Next
  splits : Signed → Signed → Next

abbrev pub next_by : Shape → List Signed → Next
next_by Beta (x ∷ y ∷ []) = splits x y
next_by _ xs = grows xs

-- how a step on this entry goes on
abbrev pub next_of : Option Signed → Next
next_of None = grows []
next_of (Some x) = next_by (shape_of x.sign x.formula) (components x.sign x.formula)

abbrev pub bare_entry : List Signed → ℕ → Option Signed
bare_entry br zero = None
bare_entry br (suc k) = slice_get br k

-- of each right side that is still to come: the length of the branch before it, and its first formula
abbrev pub Waiting : Type 0
Waiting = List (ℕ × Signed)

-- what comes later, by whether a right side starts, the branch, and the right sides that are still to come
abbrev pub Later : Type 0
Later = Bool → List Signed → Waiting → List Pass

abbrev pub resumed : List Signed → Waiting → Later → List Pass
resumed br [] go = go false br []
resumed br (f ∷ fs) go = go true (take f.0 br ++ f.1 ∷ []) fs

abbrev pub by_next : Bool → List Signed → Waiting → ℕ → Next → Later → List Pass
by_next b br fs a (grows ys) go = pass (length br) (Adds a (length ys)) b ∷ go false (br ++ ys) fs
by_next b br fs a (splits y z) go = pass (length br) (Forks a) b ∷ go false (br ++ y ∷ []) ((length br, z) ∷ fs)

abbrev pub by_step : Bool → List Signed → Waiting → Step → Later → List Pass
by_step b br fs (close a c) go = pass (length br) (Ends a c) b ∷ resumed br fs go
by_step b br fs (apply_to a x y) go = by_next b br fs a (next_of (bare_entry br a)) go

abbrev pub passes_of : List Step → Later
passes_of [] b br fs = []
passes_of (x ∷ xs) b br fs = by_step b br fs x (passes_of xs)
