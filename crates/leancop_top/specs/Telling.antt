-- A status that tells nothing of what was asked for.
use Rattle.std.specs.Prelude.{Bool, true, false}
use Rattle.leancop_top.specs.declared.status.Status.{Status}
use Rattle.leancop_top.specs.declared.status.Status.TheVariants.{WriteFault, NoMemory}

-- that writing failed, or that memory ended: no command ends so
abbrev pub is_silent : Status → Bool
is_silent WriteFault = true
is_silent NoMemory = true
is_silent status = false
