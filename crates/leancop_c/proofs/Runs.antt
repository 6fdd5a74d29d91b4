-- A run over memory.
use Rattle.std.proofs.Common.{◌≡◌, ◌∙◌, List, ℕ, [], ◌∷◌, length, Bool, true, false, ap, refl, sym, subst}
use Rattle.std.specs.Prelude.{nat_le, if◌then◌else◌}
use Rattle.cop_base.specs.Outside.{Files}
use Rattle.command_line.specs.CommandLine.{Command, command_of}
use Rattle.leancop_top.specs.Statuses.{exit_of}
use Rattle.leancop_top.specs.declared.status.Status.{Status}
use Rattle.leancop_top.specs.declared.status.Status.TheVariants as status
use Rattle.leancop_c.specs.Ran.{IsRun, IsRunTold, ran}
use Rattle.leancop_c.specs.Told.{placed}

-- a run for which memory ends
pub lost-over : (files : Files) (command : Command) → IsRun files command status.NoMemory []
lost-over files command = record { answered = tt; decided = tt; of_memory = tt; no_memory = λ e. refl }

-- ---- what is told of it

either : (b : Bool) (xs : List ℕ) → (if b then xs else xs) ≡ xs
either true xs = refl
either false xs = refl

placed-none : (room : List ℕ) → placed room [] ≡ room
placed-none [] = refl
placed-none (x ∷ xs) = either (nat_le 0 (length (x ∷ xs))) (x ∷ xs)

pub lost-told : (files : Files) (words : List (List ℕ)) (room : List ℕ) → IsRunTold files words room 7 room 0
lost-told files words room =
    subst (λ x. IsRunTold files words room 7 x 0) (placed-none room) (ran status.NoMemory [] (lost-over files (command_of words)))

pub run-told : (files : Files) (named words : List (List ℕ)) (room : List ℕ) (s : Status) (output slice after : List ℕ) (size code exit : ℕ)
    → IsRun files (command_of named) s output → named ≡ words → slice ≡ output → after ≡ placed room slice → size ≡ length output
    → exit ≡ code → code ≡ exit_of s → IsRunTold files words room exit after size
run-told files named words room s output slice after size code exit run same-words same placed-is size-is exit-is code-is =
    subst (λ n. IsRunTold files words room n after size) (sym (exit-is ∙ code-is))
    (subst (λ n. IsRunTold files words room (exit_of s) after n) (sym size-is)
    (subst (λ x. IsRunTold files words room (exit_of s) x (length output)) (sym (placed-is ∙ ap (placed room) same))
    (ran s output (subst (λ ws. IsRun files (command_of ws) s output) same-words run))))
