use Rattle.std.proofs.Common.{◌≡◌, map, drop}
use Rattle.calculus.specs.Calculus.{character_occurs}
use Rattle.logic_rules.specs.MarkView.{the_character}
use Rattle.sequent_calc.specs.DerivationView.{the_names}
use Rattle.sequent_calc.specs.EntryView.{the_entry}
use Rattle.sequent_calc.proofs.condition.mark_occurs.Given as goal

abbrev pub invariant-loop-entry : goal.invariant-loop-entry
invariant-loop-entry l = character_occurs (the_names l.names) (the_character l.mark) (map the_entry (drop l.entry-index l.sequent)) ≡ character_occurs (the_names l.names) (the_character l.mark) (map the_entry l.sequent)
