-- The lines of a text of version 2 after its head, as values, and the order in which they stand.
use Rattle.std.specs.Prelude.{ℕ, suc, ◌^◌, List, [], ◌∷◌, ◌++◌, Bool, true, false, ◌&&◌, nat_lt, ◌==◌, Option, None, Some, codes, decimal, if◌then◌else◌}
use Rattle.calculus.specs.Syntax.{Symbol, Term}
use Rattle.calculus.specs.Derivations.{Label}
use Rattle.calculus.specs.DerivationText.{is_name_number, label_is_written, term_is_written}
use Rattle.calculus.specs.Text.{is_number, term_text}
use Rattle.calculus.specs.Versions.{NumberedDerivation, NumberedEigen, NumberedSpare, NumberedModal, no_numbered_modal, to_number, by_character, NumberedTerm, no_numbered_term, by_number, by_eigen, NumberedStep, numbered_use, numbered_axiom, is_among, label_line, numbered_eigen_line, numbered_home_is_written, numbered_home_text, numbered_modal_text, numbered_spare_line, numbered_step_line, numbered_term_text, term_line}
use Rattle.text_lines.specs.Spelling.{Spells}
use Rattle.derivation_text.specs.Listed.{are_listed, has_home_among, may_have_home_among}
use Rattle.derivation_text.specs.NumbersView.{the_numbered_eigen, the_numbered_spare, the_numbered_step}
use Rattle.derivation_text.specs.declared.numbered_line.NumberedLine as line
use Rattle.derivation_text.specs.declared.numbered_line.NumberedLine.TheVariants as line_is
use Rattle.derivation_text.specs.declared.numbered_line.NumberedStage.{NumberedStage}
use Rattle.derivation_text.specs.declared.numbered_line.Part.{Part}
use Rattle.derivation_text.specs.declared.numbered_line.Part.TheVariants.{Labels, Eigens, Spares, Terms, Steps, Ended}

pub data NumberedLine : Type 0 where
  label_of : ℕ → Label → NumberedLine
  eigen_of : NumberedEigen → NumberedLine
  spare_of : NumberedSpare → NumberedLine
  term_of : ℕ → Term → NumberedLine
  step_of : NumberedStep → NumberedLine
  last_line : NumberedLine

-- the line of a body that a line of the program stands for
abbrev pub the_numbered_line : line.NumberedLine → NumberedLine
the_numbered_line (line_is.Label k w) = label_of k w
the_numbered_line (line_is.Eigen n k) = eigen_of (the_numbered_eigen (n, k))
the_numbered_line (line_is.Spare n h) = spare_of (the_numbered_spare (n, h))
the_numbered_line (line_is.Term k t) = term_of k t
the_numbered_line (line_is.Step x) = step_of (the_numbered_step x)
the_numbered_line line_is.End = last_line

abbrev pub numbered_line_text : List Symbol → NumberedLine → List ℕ
numbered_line_text symbols (label_of k w) = label_line k w
numbered_line_text symbols (eigen_of x) = numbered_eigen_line x
numbered_line_text symbols (spare_of x) = numbered_spare_line x
numbered_line_text symbols (term_of k t) = term_line symbols k t
numbered_line_text symbols (step_of x) = numbered_step_line x
numbered_line_text symbols last_line = codes "end"

-- ---- which lines can be written, whatever is stated before them

abbrev pub is_count_text : ℕ → Bool
is_count_text k = nat_lt k (2 ^ 64)

abbrev pub home_has_number : Option ℕ → Bool
home_has_number None = true
home_has_number (Some k) = is_count_text k

abbrev pub modal_has_number : NumberedModal → Bool
modal_has_number no_numbered_modal = true
modal_has_number (to_number k) = is_count_text k
modal_has_number (by_character n) = is_name_number n

abbrev pub arg_has_number : NumberedTerm → Bool
arg_has_number no_numbered_term = true
arg_has_number (by_number k) = is_count_text k
arg_has_number (by_eigen n) = is_name_number n

abbrev pub step_has_numbers : NumberedStep → Bool
step_has_numbers (numbered_use n m t) = is_number n && (modal_has_number m && arg_has_number t)
step_has_numbers (numbered_axiom n k) = is_number n && is_number k

abbrev pub numbered_line_is_written : List Symbol → NumberedLine → Bool
numbered_line_is_written symbols (label_of k w) = is_count_text k && label_is_written w
numbered_line_is_written symbols (eigen_of x) = is_number x.number && is_count_text x.home
numbered_line_is_written symbols (spare_of x) = is_number x.number && home_has_number x.home
numbered_line_is_written symbols (term_of k t) = is_count_text k && term_is_written symbols t
numbered_line_is_written symbols (step_of x) = step_has_numbers x
numbered_line_is_written symbols last_line = true

-- ---- lines whose numbers a reader holds

abbrev pub home_is_small : Option ℕ → Bool
home_is_small None = true
home_is_small (Some k) = is_number k

abbrev pub modal_is_small : NumberedModal → Bool
modal_is_small no_numbered_modal = true
modal_is_small (to_number k) = is_number k
modal_is_small (by_character n) = is_name_number n

abbrev pub arg_is_small : NumberedTerm → Bool
arg_is_small no_numbered_term = true
arg_is_small (by_number k) = is_number k
arg_is_small (by_eigen n) = is_name_number n

abbrev pub step_is_small : NumberedStep → Bool
step_is_small (numbered_use n m t) = is_number n && (modal_is_small m && arg_is_small t)
step_is_small (numbered_axiom n k) = is_number n && is_number k

abbrev pub line_is_small : List Symbol → NumberedLine → Bool
line_is_small symbols (label_of k w) = is_number k && label_is_written w
line_is_small symbols (eigen_of x) = is_number x.number && is_number x.home
line_is_small symbols (spare_of x) = is_number x.number && home_is_small x.home
line_is_small symbols (term_of k t) = is_number k && term_is_written symbols t
line_is_small symbols (step_of x) = step_is_small x
line_is_small symbols last_line = true

abbrev pub IsNumberedHome : List ℕ → Option ℕ → Type 0
IsNumberedHome bytes h = Spells (home_is_small h) (numbered_home_text h) bytes

abbrev pub IsNumberedTerm : List ℕ → NumberedTerm → Type 0
IsNumberedTerm bytes t = Spells (arg_is_small t) (numbered_term_text t) bytes

abbrev pub IsNumberedArgs : List ℕ → NumberedModal → NumberedTerm → Type 0
IsNumberedArgs bytes m t = Spells (modal_is_small m && arg_is_small t) (numbered_modal_text m ++ numbered_term_text t) bytes

abbrev pub IsNumberedStep : List ℕ → NumberedStep → Type 0
IsNumberedStep bytes x = Spells (step_is_small x) (numbered_step_line x) bytes

-- a number, then the argument for a variable
abbrev pub IsNumberAndArg : List ℕ → ℕ → NumberedTerm → Type 0
IsNumberAndArg bytes k t = Spells (is_number k && arg_is_small t) (decimal k ++ numbered_term_text t) bytes

abbrev pub IsNewAndArg : List ℕ → ℕ → NumberedTerm → Type 0
IsNewAndArg bytes n t = Spells (is_name_number n && arg_is_small t) (decimal n ++ numbered_term_text t) bytes

-- a use step after its first word
abbrev pub IsNumberedUse : List ℕ → ℕ → NumberedModal → NumberedTerm → Type 0
IsNumberedUse bytes n m t = Spells (is_number n && (modal_is_small m && arg_is_small t)) (decimal n ++ (numbered_modal_text m ++ numbered_term_text t)) bytes

-- a spare constant after `name $$s`
abbrev pub IsNumberedSpare : List ℕ → ℕ → Option ℕ → Type 0
IsNumberedSpare bytes n h = Spells (is_number n && home_is_small h) (decimal n ++ (32 ∷ numbered_home_text h)) bytes

-- a term after `term `
abbrev pub IsTermEntry : List Symbol → List ℕ → ℕ → Term → Type 0
IsTermEntry symbols bytes k t = Spells (is_number k && term_is_written symbols t) (decimal k ++ (32 ∷ term_text symbols 0 t)) bytes

abbrev pub IsSmallLine : List Symbol → List ℕ → NumberedLine → Type 0
IsSmallLine symbols bytes x = Spells (line_is_small symbols x) (numbered_line_text symbols x) bytes

abbrev pub IsNumberedLine : List Symbol → List ℕ → NumberedLine → Type 0
IsNumberedLine symbols bytes x = Spells (numbered_line_is_written symbols x) (numbered_line_text symbols x) bytes

-- whether the numbers of a line are those of so many labels and terms
abbrev pub is_line_listed : ℕ → ℕ → NumberedLine → Bool
is_line_listed labels terms (eigen_of x) = has_home_among labels x
is_line_listed labels terms (spare_of x) = may_have_home_among labels x
is_line_listed labels terms (step_of x) = are_listed labels terms x
is_line_listed labels terms _ = true

-- ---- the order of lines

abbrev pub at_part : NumberedStage → Bool → Part → Option NumberedStage
at_part s b p = if b then Some (record { labels = s.labels; terms = s.terms; part = p }) else None

abbrev pub last_eigen : Part → Option ℕ
last_eigen Labels = Some 0
last_eigen (Eigens n) = Some n
last_eigen _ = None

abbrev pub last_spare : Part → Option ℕ
last_spare Labels = Some 0
last_spare (Eigens n) = Some 0
last_spare (Spares n) = Some n
last_spare _ = None

abbrev pub takes_labels : Part → Bool
takes_labels Labels = true
takes_labels _ = false

abbrev pub takes_terms : Part → Bool
takes_terms Steps = false
takes_terms Ended = false
takes_terms _ = true

abbrev pub is_behind : Option ℕ → ℕ → Bool
is_behind None n = false
is_behind (Some m) n = nat_lt m n

abbrev pub goes_on : Part → Bool
goes_on Ended = false
goes_on _ = true

-- behind the last line nothing is counted any more
abbrev pub ended_stage : NumberedStage
ended_stage = record { labels = 0; terms = 0; part = Ended }

-- the stage after one line more, if it may stand there
abbrev pub numbered_stage_after : NumberedStage → NumberedLine → Option NumberedStage
numbered_stage_after s (label_of k w) = if takes_labels s.part && (k == suc s.labels) then Some (record { labels = suc s.labels; terms = s.terms; part = Labels }) else None
numbered_stage_after s (eigen_of x) = at_part s (is_behind (last_eigen s.part) x.number && is_among s.labels x.home) (Eigens x.number)
numbered_stage_after s (spare_of x) = at_part s (is_behind (last_spare s.part) x.number && numbered_home_is_written s.labels x.home) (Spares x.number)
numbered_stage_after s (term_of k t) = if takes_terms s.part && (k == suc s.terms) then Some (record { labels = s.labels; terms = suc s.terms; part = Terms }) else None
numbered_stage_after s (step_of x) = at_part s (goes_on s.part && are_listed s.labels s.terms x) Steps
numbered_stage_after s last_line = if goes_on s.part then Some ended_stage else None

-- ---- one line more

abbrev pub with_numbered_line : NumberedDerivation → NumberedLine → NumberedDerivation
with_numbered_line x (label_of k w) = record { limit = x.limit; labels = x.labels ++ w ∷ []; eigens = x.eigens; spares = x.spares; terms = x.terms; steps = x.steps }
with_numbered_line x (eigen_of y) = record { limit = x.limit; labels = x.labels; eigens = x.eigens ++ y ∷ []; spares = x.spares; terms = x.terms; steps = x.steps }
with_numbered_line x (spare_of y) = record { limit = x.limit; labels = x.labels; eigens = x.eigens; spares = x.spares ++ y ∷ []; terms = x.terms; steps = x.steps }
with_numbered_line x (term_of k t) = record { limit = x.limit; labels = x.labels; eigens = x.eigens; spares = x.spares; terms = x.terms ++ t ∷ []; steps = x.steps }
with_numbered_line x (step_of y) = record { limit = x.limit; labels = x.labels; eigens = x.eigens; spares = x.spares; terms = x.terms; steps = x.steps ++ y ∷ [] }
with_numbered_line x last_line = x
