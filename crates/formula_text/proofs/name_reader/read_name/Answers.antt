use Rattle.calculus.proofs.ReadingLaws.{IsNameAt-unique}
use Rattle.formula_text.proofs.name_reader.read_name.Goals as goal

pub returns-in-Some-eq39-clause-one : goal.returns-in-Some-eq39-clause-one
returns-in-Some-eq39-clause-one c = IsNameAt-unique

pub returns-then-is_lower-clause-one : goal.returns-then-is_lower-clause-one
returns-then-is_lower-clause-one c = IsNameAt-unique

pub returns-else-is_lower-clause-one : goal.returns-else-is_lower-clause-one
returns-else-is_lower-clause-one c = IsNameAt-unique

pub returns-in-None-clause-one : goal.returns-in-None-clause-one
returns-in-None-clause-one c = IsNameAt-unique
