-- What is left to be written in the middle of a list. The Bool tells whether the list's first item is still to come.
use Rattle.std.specs.Prelude.{ℕ, List, [], ◌∷◌, ◌++◌, Bool, true, false}
use Rattle.calculus.specs.Syntax.{Symbol, Terms}
use Rattle.calculus.specs.Derivations.{Label}
use Rattle.calculus.specs.Text.{mark_text, args_text, more_args_text}

abbrev pub rest_text : List Symbol → ℕ → Bool → Terms → List ℕ
rest_text symbols d true ts = args_text symbols d ts
rest_text symbols d false ts = more_args_text symbols d ts

-- characters with a comma before each
abbrev pub more_marks_text : Label → List ℕ
more_marks_text [] = []
more_marks_text (m ∷ w) = 44 ∷ (mark_text m ++ more_marks_text w)

-- characters with commas between them
abbrev pub marks_text : Label → Bool → List ℕ
marks_text [] first = []
marks_text (m ∷ w) true = mark_text m ++ more_marks_text w
marks_text (m ∷ w) false = 44 ∷ (mark_text m ++ more_marks_text w)
