use Rattle.matrix_build.proofs.NeedsLaws.{marked-only, marked-others, marked-own}
use Rattle.matrix_build.proofs.needs.with_mark.Goals as goal

pub returns-clause-own : goal.returns-clause-own
returns-clause-own c = marked-own c.args.marks c.bit_of-bit.result c.args.symbol.0 c.args.sign c.bit_of-bit.ensures.is_bit

pub returns-clause-others : goal.returns-clause-others
returns-clause-others c = λ bit h. marked-others c.args.marks c.bit_of-bit.result c.args.symbol.0 c.args.sign c.bit_of-bit.ensures.is_bit bit h

pub returns-clause-only : goal.returns-clause-only
returns-clause-only c = λ bit h. marked-only c.args.marks c.bit_of-bit.result c.args.symbol.0 c.args.sign c.bit_of-bit.ensures.is_bit bit h
