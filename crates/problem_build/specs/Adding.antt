-- Lists to which what is new in other lists is added.
use Rattle.std.specs.Prelude.{◌≡◌, ◌<◌, List, ◌++◌, Bool, Result, Ok, Err, length}
use Rattle.calculus.specs.Equality.{symbol_eq}
use Rattle.calculus.specs.Syntax.{Symbol}
use Rattle.formula_core.specs.declared.symbol.AddFault.{AddFault}
use Rattle.formula_core.specs.declared.symbol.AddFault.TheVariants.{Full, NoMemory}
use Rattle.problem_build.specs.Expansion.{first_seen}

-- the known items, and behind them those of the list that are new, each at its first place
abbrev pub with_new : {A : Type 0} → (A → A → Bool) → List A → List A → List A
with_new same known xs = known ++ first_seen same known xs

-- there are too many symbols with those of the list, or there is no memory
abbrev pub Stops : (before xs : List Symbol) → AddFault → Type 0
Stops before xs Full = 65536 < length (with_new symbol_eq before xs)
Stops before xs NoMemory = Unit {0}

-- the symbols with those of the list that are new, or why they are not added
abbrev pub Adds : {A : Type 0} → (before after xs : List Symbol) → Result A AddFault → Type 0
Adds before after xs (Ok _) = after ≡ with_new symbol_eq before xs
Adds before after xs (Err fault) = Stops before xs fault
