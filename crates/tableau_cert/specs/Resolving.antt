-- Moves with their instances.
use Rattle.std.specs.Prelude.{◌≡◌, ◌+◌, ℕ, List, [], ◌∷◌, map, Bool, true, ◌&&◌, Option, Result, Ok, Err}
use Rattle.std.specs.Option.{option_map}
use Rattle.std.specs.List.{list_all}
use Rattle.calculus.specs.declared.fault.TableauFault.{TableauFault}
use Rattle.calculus.specs.declared.fault.TableauFault.TheVariants as fault
use Rattle.calculus.specs.ComputedInstances.{modal_steps}
use Rattle.calculus.specs.Ground.{GroundLiteral}
use Rattle.calculus.specs.Instances.{ClauseInstance}
use Rattle.calculus.specs.Syntax.{Problem}
use Rattle.calculus.specs.TableauText.{Chosen, Move, reduction, extension, Moves, literals_of, bare}
use Rattle.calculus.specs.Tableaux.{has_at_most}
use Rattle.formula_core.specs.GroundLists.{GroundList, IsGrown, AreNormalValues}
use Rattle.tableau_core.specs.Walks.{capped}
use Rattle.tableau_core.specs.Numbered.InstanceView.{the_instance}
use Rattle.tableau_cert.specs.Gathering.{AreNormalLiterals, Summary, gathered_instance, summary}
use Rattle.tableau_cert.specs.declared.resolving.Found as found
use Rattle.tableau_cert.specs.declared.resolving.Outcome as outcome
use Rattle.tableau_cert.specs.declared.resolving.Outcome.TheVariants.{NoInstance, NotAllowed, Instance}
use Rattle.tableau_cert.specs.declared.resolving.Closer as program
use Rattle.tableau_cert.specs.declared.resolving.Closer.TheVariants.{Reduction, Extension}
use Rattle.tableau_cert.specs.declared.resolving.Resolved as resolved

pub data Closer : Type 0 where
  by_reduction : ℕ → Closer
  by_extension : ℕ → Result ClauseInstance TableauFault → Closer

abbrev pub with_literals : Chosen → Result (List GroundLiteral) TableauFault → Result ClauseInstance TableauFault
with_literals i (Err f) = Err f
with_literals i (Ok ls) = Ok (record { selection = i.sides; values = i.values; literals = ls })

-- the instance with its literals, where it is one and is allowed
abbrev pub found_of : Problem → Chosen → Result ClauseInstance TableauFault
found_of P i = with_literals i (literals_of P i)

abbrev pub closer_of : Problem → Move → Closer
closer_of P (reduction k) = by_reduction k
closer_of P (extension place i) = by_extension place (found_of P i)

abbrev pub the_outcome : List GroundList → outcome.Outcome → Result ClauseInstance TableauFault
the_outcome ls NoInstance = Err fault.NoInstance
the_outcome ls NotAllowed = Err fault.NotAllowed
the_outcome ls (Instance i) = Ok (the_instance ls i)

abbrev pub the_closer : List GroundList → program.Closer → Closer
the_closer ls (Reduction up) = by_reduction up
the_closer ls (Extension place o) = by_extension place (the_outcome ls o)

pub record IsResolved (P : Problem) (x : Moves) (r : resolved.Resolved) : Type 0 where
  pub start : the_outcome r.table r.start ≡ found_of P x.start
  pub closers : map (the_closer r.table) r.closers.items ≡ map (closer_of P) x.moves

-- ---- one instance

-- what a walk through the formula tells of an instance
abbrev pub told_of : Problem → Chosen → Option Summary
told_of P c = option_map summary (gathered_instance P (record { sides = c.sides; values = c.values }))

abbrev pub IsNormalOutcome : List GroundList → outcome.Outcome → Type 0
IsNormalOutcome ls NoInstance = ls ≡ ls
IsNormalOutcome ls NotAllowed = ls ≡ ls
IsNormalOutcome ls (Instance i) = AreNormalValues ls i.values × AreNormalLiterals ls i.literals

abbrev pub IsNormalCloser : List GroundList → program.Closer → Type 0
IsNormalCloser ls (Reduction up) = ls ≡ ls
IsNormalCloser ls (Extension place o) = IsNormalOutcome ls o

pub record IsFound (P : Problem) (given before after : List GroundList) (c : Chosen) (f : found.Found) : Type 0 where
  pub outcome : the_outcome after f.outcome ≡ found_of P c
  pub steps : f.steps ≡ capped (modal_steps P (bare c))
  pub normal : IsNormalOutcome after f.outcome
  pub grown : IsGrown before after

-- the steps of a move's instance
abbrev pub move_steps : Problem → Move → ℕ
move_steps P (reduction k) = 0
move_steps P (extension place i) = modal_steps P (bare i)

-- the steps of the instances of all these moves
abbrev pub moves_steps : Problem → List Move → ℕ
moves_steps P [] = 0
moves_steps P (m ∷ ms) = move_steps P m + moves_steps P ms

pub record IsCloser (P : Problem) (before after : List GroundList) (m : Move) (c : program.Closer) (n : ℕ) : Type 0 where
  pub closer : the_closer after c ≡ closer_of P m
  pub steps : n ≡ capped (move_steps P m)
  pub normal : IsNormalCloser after c
  pub grown : IsGrown before after

-- the moves with their instances
pub record AreClosers (P : Problem) (before after : List GroundList) (ms : List Move) (cs : List program.Closer) : Type 0 where
  pub closers : map (the_closer after) cs ≡ map (closer_of P) ms
  pub grown : IsGrown before after

-- ---- the strings

abbrev pub is_move_within : ℕ → Move → Bool
is_move_within b (reduction k) = true
is_move_within b (extension place i) = list_all (has_at_most b) i.values

abbrev pub are_all_within : ℕ → Moves → Bool
are_all_within b x = list_all (has_at_most b) x.start.values && list_all (is_move_within b) x.moves
