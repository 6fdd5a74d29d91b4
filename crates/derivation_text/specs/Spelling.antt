-- What the parts of a line spell.
use Rattle.std.specs.Prelude.{ℕ, List, ◌∷◌, ◌++◌, ◌&&◌, decimal}
use Rattle.calculus.specs.Syntax.{Symbol, Term}
use Rattle.calculus.specs.Derivations.{Label, Home, ModalArg, TermArg, Step}
use Rattle.calculus.specs.DerivationText.{home_is_written, home_text, is_name_number, label_is_written, modal_is_written, modal_text, step_is_written, step_line, term_arg_is_written, term_arg_text, term_is_written}
use Rattle.calculus.specs.Text.{is_number, label_text, term_text}
use Rattle.text_lines.specs.Spelling.{Spells}

abbrev pub IsHome : List ℕ → Home → Type 0
IsHome bytes h = Spells (home_is_written h) (home_text h) bytes

abbrev pub IsTerm : List Symbol → List ℕ → Term → Type 0
IsTerm symbols bytes t = Spells (term_is_written symbols t) (term_text symbols 0 t) bytes

abbrev pub IsTermArg : List Symbol → List ℕ → TermArg → Type 0
IsTermArg symbols bytes t = Spells (term_arg_is_written symbols t) (term_arg_text symbols t) bytes

-- a label, then the argument for a variable
abbrev pub IsLabelAndArg : List Symbol → List ℕ → Label → TermArg → Type 0
IsLabelAndArg symbols bytes w t = Spells (label_is_written w && term_arg_is_written symbols t) (label_text w ++ term_arg_text symbols t) bytes

abbrev pub IsNameNumberAndArg : List Symbol → List ℕ → ℕ → TermArg → Type 0
IsNameNumberAndArg symbols bytes n t = Spells (is_name_number n && term_arg_is_written symbols t) (decimal n ++ term_arg_text symbols t) bytes

abbrev pub AreArgs : List Symbol → List ℕ → ModalArg → TermArg → Type 0
AreArgs symbols bytes m t = Spells (modal_is_written m && term_arg_is_written symbols t) (modal_text m ++ term_arg_text symbols t) bytes

-- a use step after its first word
abbrev pub IsUse : List Symbol → List ℕ → ℕ → ModalArg → TermArg → Type 0
IsUse symbols bytes n m t = Spells (is_number n && (modal_is_written m && term_arg_is_written symbols t)) (decimal n ++ (modal_text m ++ term_arg_text symbols t)) bytes

-- an axiom step after its first word
abbrev pub IsNumberPair : List ℕ → ℕ → ℕ → Type 0
IsNumberPair bytes n k = Spells (is_number n && is_number k) (decimal n ++ (32 ∷ decimal k)) bytes

abbrev pub IsStep : List Symbol → List ℕ → Step → Type 0
IsStep symbols bytes x = Spells (step_is_written symbols x) (step_line symbols x) bytes

-- an eigenvariable after `name $$e`
abbrev pub IsEigen : List ℕ → ℕ → Label → Type 0
IsEigen bytes n w = Spells (is_number n && label_is_written w) (decimal n ++ (32 ∷ label_text w)) bytes

-- a spare constant after `name $$s`
abbrev pub IsSpare : List ℕ → ℕ → Home → Type 0
IsSpare bytes n h = Spells (is_number n && home_is_written h) (decimal n ++ (32 ∷ home_text h)) bytes
