use Rattle.std.proofs.Common.{◌+◌, ℕ, length}
use Rattle.std.specs.List.{AllByRecursion}
use Rattle.formula_core.specs.GroundLists.{IsGrown}
use Rattle.tableau_reading.specs.Grounds.{IsBegun}
use Rattle.tableau_reading.specs.Readable.{IsPlace}
use Rattle.tableau_reading.specs.Waiting.{IsAsked, IsMade, WaitBySpares, unasked}
use Rattle.tableau_reading.proofs.grounds.Grounds.make.Given as goal

abbrev pub invariant-loop-top : goal.invariant-loop-top
invariant-loop-top l = record {
  there : AllByRecursion (IsPlace l.store.store) l.waiting.items;
  reading : IsBegun l.store.store l.homes l.self;
  grown : IsGrown l.fn.self.table l.self.table;
  waits : WaitBySpares l.store.store l.homes l.self l.waiting.items;
  asked : IsAsked l.self l.fn.end.0;
  kept : (r : ℕ) → IsMade l.fn.self r → IsMade l.self r;
}

abbrev pub decreases-loop-top : goal.decreases-loop-top
decreases-loop-top l = unasked l.self.asked.items + unasked l.self.asked.items + length l.waiting.items
