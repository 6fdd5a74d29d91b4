-- Why no problem comes of files.
use Rattle.std.specs.Prelude.{ℕ, List}
use Rattle.problem_build.specs.declared.fault.Cause.{Cause}

-- a file's name is the one by which it is fetched
pub data Refusal : Type 0 where
  missing : (name : List ℕ) → Refusal
  input_too_large nesting_too_deep formula_too_large too_many_symbols : Refusal
  bad : (file : List ℕ) (offset : ℕ) (cause : Cause) → Refusal
