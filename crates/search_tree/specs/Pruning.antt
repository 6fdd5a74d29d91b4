-- Lists of choices that labels refute before they are whole.
use Rattle.std.specs.Prelude.{ℕ, List, []}
use Rattle.calculus.specs.Choices.{Choice}
use Rattle.calculus.specs.Syntax.{Problem}
use Rattle.store_theory.specs.Systems.{System}
use Rattle.search_theory.specs.Exploring.{BeginsWith, IsClosedList}

-- the equations and strings of the system alone
abbrev pub labels_alone : System → System
labels_alone y = record { equations = y.equations; strings = y.strings; pis = 0; gammas = []; pairs = [] }

-- no tableau that is closed within d begins with these choices
abbrev pub IsPruned : Problem → ℕ → List Choice → Type 0
IsPruned P d c = (b : List Choice) → IsClosedList P d b → ¬ BeginsWith c b
