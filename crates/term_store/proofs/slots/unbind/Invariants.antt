use Rattle.std.proofs.Common.{◌≡◌, ◌≤◌, ◌+◌, length, take}
use Rattle.term_store.specs.Slots.{slots_bound_by}
use Rattle.term_store.proofs.slots.unbind.Given as goal

abbrev pub invariant-loop-trail : goal.invariant-loop-trail
invariant-loop-trail l = record {
  slots : l.slots.list ≡ slots_bound_by l.trail.list 0 l.initial.slots.list;
  slots_len : length l.slots.list ≡ length l.initial.slots.list;
  slots_spare : l.slots.spare ≡ l.initial.slots.spare;
  trail : l.trail.list ≡ take (length l.trail.list) l.initial.trail.list;
  longer : l.entries ≤ length l.trail.list;
  shorter : length l.trail.list ≤ length l.initial.trail.list;
  spare : l.trail.spare + length l.trail.list ≡ l.initial.trail.spare + length l.initial.trail.list;
}

abbrev pub decreases-loop-trail : goal.decreases-loop-trail
decreases-loop-trail l = length l.trail.list
