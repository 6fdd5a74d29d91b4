-- Laws that are here for the reader: nothing cites them. What the clauses of a run say of all files that agree with what was read, they say
-- of those that the library tells, since these agree by the clause `reads_on` (`for-told`).
use Rattle.std.proofs.Common.{List, Option}
use Rattle.cop_base.specs.Outside.{Files}
use Rattle.cop_base.specs.Reads.{Read, ReadsOn}

pub for-told : (P : Option Files → Type 0) (told : Option Files) (old new : List Read) → ReadsOn told old new → ((files : Option Files) → ReadsOn files old new → P files) → P told
for-told P told old new agree all = all told agree
