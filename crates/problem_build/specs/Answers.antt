-- What the answer of `build` says; nothing is said of want of memory and of files that could not be read.
use Rattle.std.specs.Prelude.{Option, Some, None, Result, Ok, Err}
use Rattle.calculus.specs.Syntax.{Problem}
use Rattle.problem_build.specs.declared.fault.BuildFault.{BuildFault}
use Rattle.problem_build.specs.declared.fault.BuildFault.TheVariants.{Missing, Failed, InputTooLarge, NestingTooDeep, FormulaTooLarge, TooManySymbols, Bad, NoMemory}
use Rattle.problem_build.specs.Refusals.{Refusal, missing, input_too_large, nesting_too_deep, formula_too_large, too_many_symbols, bad}

abbrev pub the_refusal : BuildFault → Option Refusal
the_refusal (Missing name) = Some (missing name)
the_refusal (Failed name) = None
the_refusal InputTooLarge = Some input_too_large
the_refusal NestingTooDeep = Some nesting_too_deep
the_refusal FormulaTooLarge = Some formula_too_large
the_refusal TooManySymbols = Some too_many_symbols
the_refusal (Bad file offset cause) = Some (bad file offset cause)
the_refusal NoMemory = None

abbrev pub refused : Option Refusal → Option (Result Problem Refusal)
refused None = None
refused (Some r) = Some (Err r)

-- a problem of the program is seen as the one that it stands for
abbrev pub the_answer : Result Problem BuildFault → Option (Result Problem Refusal)
the_answer (Ok p) = Some (Ok p)
the_answer (Err fault) = refused (the_refusal fault)
