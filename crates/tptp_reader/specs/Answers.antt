-- What the answers of the readers say; nothing is said of want of memory.
use Rattle.std.specs.Prelude.{ℕ, List, Option, Some, None, Result, Ok, Err}
use Rattle.tptp_reader.specs.declared.fault.ReadFault.{ReadFault}
use Rattle.tptp_reader.specs.declared.fault.ReadFault.TheVariants.{At, TooDeep, NoMemory}
use Rattle.tptp_reader.specs.declared.source.Source as program
use Rattle.tptp_reader.specs.Sources.{Source, Item}
use Rattle.tptp_reader.specs.SourceView.{the_source}
use Rattle.tptp_reader.specs.Faults.{wrong, too_deep}
use Rattle.tptp_reader.specs.Reading.{Outcome, reads, fails}

abbrev pub the_fault : {A : Type 0} → ReadFault → Option (Outcome A)
the_fault (At offset cause) = Some (fails (wrong offset cause))
the_fault (TooDeep offset) = Some (fails (too_deep offset))
the_fault NoMemory = None

-- a list of items is seen as the list of what its items stand for
abbrev pub the_reading : Result (List Item) ReadFault → Option (Outcome (List Item))
the_reading (Ok items) = Some (reads items)
the_reading (Err fault) = the_fault fault

abbrev pub the_formula_reading : Result (program.Source × ℕ) ReadFault → Option (Outcome (Source × ℕ))
the_formula_reading (Ok r) = Some (reads (the_source r.0, r.1))
the_formula_reading (Err fault) = the_fault fault
