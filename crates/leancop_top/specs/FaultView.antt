-- The status that tells why a problem was not built; nothing where memory ended.
use Rattle.std.specs.Prelude.{Option, Some, None}
use Rattle.problem_build.specs.declared.fault.BuildFault.{BuildFault}
use Rattle.problem_build.specs.declared.fault.BuildFault.TheVariants as build
use Rattle.leancop_top.specs.declared.status.Status.{Status}
use Rattle.leancop_top.specs.declared.status.Status.TheVariants.{Missing, ReadFault, BadProblem, InputTooLarge, NestingTooDeep, FormulaTooLarge, TooManySymbols}

abbrev pub status_of : BuildFault → Option Status
status_of (build.Missing name) = Some (Missing name)
status_of (build.Failed name) = Some (ReadFault name)
status_of build.InputTooLarge = Some InputTooLarge
status_of build.NestingTooDeep = Some NestingTooDeep
status_of build.FormulaTooLarge = Some FormulaTooLarge
status_of build.TooManySymbols = Some TooManySymbols
status_of (build.Bad file offset cause) = Some (BadProblem file offset cause)
status_of build.NoMemory = None
