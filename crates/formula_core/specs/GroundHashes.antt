-- What a ground term, a character and a value feed a hasher.
use Rattle.std.specs.Prelude.{◌++◌}
use Rattle.std.specs.Hash as fed
use Rattle.formula_core.specs.declared.ground.GroundTerm.{GroundTerm}
use Rattle.formula_core.specs.declared.ground.GroundTerm.TheVariants as term
use Rattle.formula_core.specs.declared.ground.GroundMark.{GroundMark}
use Rattle.formula_core.specs.declared.ground.GroundMark.TheVariants as mark
use Rattle.formula_core.specs.declared.ground.Value.{Value}
use Rattle.formula_core.specs.declared.ground.Value.TheVariants as value

abbrev pub term_writes : GroundTerm → fed.HashWrites
term_writes (term.Fun f ts) = fed.u32 ts.0 ++ fed.u32 f.0 ++ fed.u8 0
term_writes (term.Eigen p vs) = fed.u32 vs.0 ++ fed.u32 p.0 ++ fed.u8 1
term_writes (term.Common k) = fed.u32 k ++ fed.u8 2
term_writes (term.Own k w) = fed.u32 w.0 ++ fed.u32 k ++ fed.u8 3

abbrev pub mark_writes : GroundMark → fed.HashWrites
mark_writes (mark.New p vs) = fed.u32 vs.0 ++ fed.u32 p.0 ++ fed.u8 0
mark_writes (mark.Spare k) = fed.u32 k ++ fed.u8 1

abbrev pub value_writes : Value → fed.HashWrites
value_writes (value.Term t) = term_writes t ++ fed.u8 0
value_writes (value.Steps w) = fed.u32 w.0 ++ fed.u8 1
