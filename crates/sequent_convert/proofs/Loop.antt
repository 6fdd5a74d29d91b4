-- The loop: each turn keeps the invariant and leaves less to do.
use Rattle.std.proofs.Common.{◌≡◌, ◌<◌, true, false}
use Rattle.sequent_convert.specs.State.{Basis, IsBasis, State, IsOpenRun, AreAllSteps, IsRun, room_of, Moves}
use Rattle.sequent_convert.proofs.ComingLaws.{coming-here}
use Rattle.sequent_convert.proofs.MovingOn.{moves-kept}

pub opened-run : (B : Basis) (s : State) → IsRun B s → s.is_open ≡ true → IsOpenRun B s
opened-run B s h o = h.opened o

pub closed-run : (B : Basis) (s : State) → IsRun B s → s.is_open ≡ false → AreAllSteps B s.steps
closed-run B s h e = h.shut e

pub run-kept : (B : Basis) → IsBasis B → (s r : State) → IsRun B s → s.is_open ≡ true → Moves B s r → IsRun B r
run-kept B basis s r h o m = (moves-kept B basis (coming-here B basis) s r (h.opened o) o m).0

pub room-falls : (B : Basis) → IsBasis B → (s r : State) → IsRun B s → s.is_open ≡ true → Moves B s r → room_of B r < room_of B s
room-falls B basis s r h o m = (moves-kept B basis (coming-here B basis) s r (h.opened o) o m).1

pub ruleset running = (opened-run, closed-run, run-kept, room-falls)
