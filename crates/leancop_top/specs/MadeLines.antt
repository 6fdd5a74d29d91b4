-- What is written for a generated problem.
use Rattle.std.specs.Prelude.{ℕ, List, ◌++◌, codes, decimal}
use Rattle.calculus.specs.declared.family.Family.{Family}
use Rattle.calculus.specs.declared.family.Family.TheVariants.{Chain, Shift, Tower}
use Rattle.leancop_top.specs.Statuses.{status_line}
use Rattle.leancop_top.specs.declared.status.Status.{Status}
use Rattle.leancop_top.specs.declared.status.Status.TheVariants.{Derived, Exhausted, NoTableau}
use Rattle.leancop_top.specs.declared.status.Status.TheVariants.{StepsEnded}

abbrev pub family_word : Family → List ℕ
family_word Chain = codes "chain"
family_word Shift = codes "shift"
family_word Tower = codes "tower"

-- family, size, and the length of the problem's text
abbrev pub made_line : Family → (size length : ℕ) → List ℕ
made_line family n length =
    codes "made " ++ family_word family ++ codes " " ++ decimal n ++ codes ": " ++ decimal length
    ++ codes " bytes\n"

-- the derivation is not printed, but its judgement is
abbrev pub derived_lines : ℕ → List ℕ
derived_lines d = codes "derived at limit " ++ decimal d ++ codes "\naccepted\n"

-- a line stands before what a search answers
abbrev pub made_output : Family → (size length : ℕ) → Status → List ℕ
made_output family n length (Derived d) = made_line family n length ++ derived_lines d
made_output family n length (Exhausted d) =
    made_line family n length ++ status_line (Exhausted d)
made_output family n length (NoTableau d) =
    made_line family n length ++ status_line (NoTableau d)
made_output family n length (StepsEnded d k) =
    made_line family n length ++ status_line (StepsEnded d k)
made_output family n length status = status_line status
