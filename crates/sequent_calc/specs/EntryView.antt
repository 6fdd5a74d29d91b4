-- The entry of the calculus that an entry of the program stands for.
use Rattle.calculus.specs.Derivations as derivation
use Rattle.formula_core.specs.FormulaView.{the_formula}
use Rattle.sequent_calc.specs.declared.entry.Entry.{Entry}

abbrev pub the_entry : Entry → derivation.Entry
the_entry e = record { sign = e.sign; formula = the_formula e.formula; label = e.label }
