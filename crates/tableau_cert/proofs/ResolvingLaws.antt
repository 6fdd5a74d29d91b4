-- Instances by what is gathered of them, and their steps and strings.
use Rattle.std.proofs.Common.{◌≡◌, ℕ, ◌+◌, ◌<◌, List, [], ◌∷◌, map, Bool, true, false, ◌&&◌, Option, Some, None, option_and_then, Result, Ok, Err, refl, sym, ◌∙◌, ap, arith, zero-add, nat_le, if◌then◌else◌}
use Rattle.std.specs.Option.{option_map, option_map_or}
use Rattle.std.specs.List.{list_all}
use Rattle.std.proofs.lemmas.Bool.{leb-true, leb-false}
use Rattle.std.proofs.lemmas.List.Sums.{sum_by-cons}
use Rattle.calculus.specs.declared.sign.Sign.TheVariants.{F}
use Rattle.calculus.specs.declared.fault.TableauFault.{TableauFault}
use Rattle.calculus.specs.declared.fault.TableauFault.TheVariants as fault
use Rattle.calculus.specs.ComputedInstances.{Part, if_used_up, modal_steps, part_of}
use Rattle.calculus.specs.Ground.{GroundLiteral}
use Rattle.calculus.specs.Instances.{gamma_is_allowed, root_spot}
use Rattle.calculus.specs.Skolem.{is_admitted_value, is_empty}
use Rattle.calculus.specs.Syntax.{Problem}
use Rattle.calculus.specs.Tableaux.{has_at_most, has_unbounded_strings, strings_within, total_steps}
use Rattle.calculus.specs.TableauText.{Chosen, Move, reduction, extension, Moves, allowed_part, literals_of, bare, bare_instances, moves_chosen, strings_are_short}
use Rattle.tableau_core.specs.Walks.{capped}
use Rattle.tableau_cert.specs.Gathering.{Gathered, Summary, gathered, gathered_after, gathered_instance, nothing_yet, summary}
use Rattle.tableau_cert.specs.Resolving.{are_all_within, is_move_within, moves_steps}

abbrev pub literals_by : Option Summary → Result (List GroundLiteral) TableauFault
literals_by None = Err fault.NoInstance
literals_by (Some s) = if s.used_up then (if s.allowed then Ok s.literals else Err fault.NotAllowed) else Err fault.NoInstance

abbrev pub steps_by : Option Summary → ℕ
steps_by None = 0
steps_by (Some s) = if s.used_up then s.steps else 0

abbrev start : Chosen → Gathered
start i = nothing_yet (record { sides = i.sides; values = i.values })

module _ (P : Problem) (i : Chosen) where
  literals-used : (x : Part) (b : Bool) → literals_by (Some (record { literals = x.literals; allowed = list_all (gamma_is_allowed P) x.gammas; steps = capped (0 + (x.nus + x.pis)); used_up = b })) ≡ allowed_part P (if b then Some x else None)
  literals-used x true = refl
  literals-used x false = refl

  literals-part : (o : Option Part) → literals_by (option_map summary (gathered_after P (start i) o)) ≡ allowed_part P (option_and_then if_used_up o)
  unfolding gathered_after
  literals-part None = refl
  literals-part (Some x) = literals-used x (is_empty x.left_over.sides && is_empty x.left_over.values)

  steps-used : (x : Part) (b : Bool) → (if b then capped (0 + (x.nus + x.pis)) else 0) ≡ capped (option_map_or (λ (y : Part). y.nus + y.pis) (if b then Some x else None) 0)
  steps-used x true = ap capped (zero-add (x.nus + x.pis))
  steps-used x false = refl

  steps-part : (o : Option Part) → steps_by (option_map summary (gathered_after P (start i) o)) ≡ capped (option_map_or (λ (y : Part). y.nus + y.pis) (option_and_then if_used_up o) 0)
  unfolding gathered_after
  steps-part None = refl
  steps-part (Some x) = steps-used x (is_empty x.left_over.sides && is_empty x.left_over.values)

  pub literals-gathered : list_all (is_admitted_value P) i.values ≡ true → literals_by (option_map summary (gathered_instance P (record { sides = i.sides; values = i.values }))) ≡ literals_of P i
  unfolding gathered
  literals-gathered h = literals-part (part_of P.setting.logic P.formula F root_spot (record { sides = i.sides; values = i.values })) ∙ ap (λ b. allowed_part P (if b then option_and_then if_used_up (part_of P.setting.logic P.formula F root_spot (record { sides = i.sides; values = i.values })) else None)) (sym h)

  pub steps-gathered : list_all (is_admitted_value P) i.values ≡ true → steps_by (option_map summary (gathered_instance P (record { sides = i.sides; values = i.values }))) ≡ capped (modal_steps P (bare i))
  unfolding gathered
  steps-gathered h = steps-part (part_of P.setting.logic P.formula F root_spot (record { sides = i.sides; values = i.values })) ∙ ap (λ b. capped (option_map_or (λ (y : Part). y.nus + y.pis) (if b then option_and_then if_used_up (part_of P.setting.logic P.formula F root_spot (record { sides = i.sides; values = i.values })) else None) 0)) (sym h)

  pub literals-none : list_all (is_admitted_value P) i.values ≡ false → literals_of P i ≡ Err fault.NoInstance
  literals-none h = rw h refl

  pub steps-none : list_all (is_admitted_value P) i.values ≡ false → 0 ≡ capped (modal_steps P (bare i))
  steps-none h = rw h refl

-- ---- the strings of all instances

moves-within : (b : ℕ) (ms : List Move) → list_all (strings_within b) (map bare (moves_chosen ms)) ≡ list_all (is_move_within b) ms
moves-within b [] = refl
moves-within b (reduction k ∷ ms) = moves-within b ms
moves-within b (extension place i ∷ ms) = ap (λ c. list_all (has_at_most b) i.values && c) (moves-within b ms)

pub all-within : (b : ℕ) (x : Moves) → list_all (strings_within b) (bare_instances x) ≡ are_all_within b x
all-within b x = ap (λ c. list_all (has_at_most b) x.start.values && c) (moves-within b x.moves)

moves-total : (P : Problem) (ms : List Move) → total_steps P (map bare (moves_chosen ms)) ≡ moves_steps P ms
moves-total P [] = refl
moves-total P (reduction k ∷ ms) = let r = moves-total P ms in omega (arith, r)
moves-total P (extension place i ∷ ms) = sum_by-cons (modal_steps P) (bare i) (map bare (moves_chosen ms)) ∙ ap (λ n. modal_steps P (bare i) + n) (moves-total P ms)

pub all-steps : (P : Problem) (x : Moves) → total_steps P (bare_instances x) ≡ modal_steps P (bare x.start) + moves_steps P x.moves
all-steps P x = sum_by-cons (modal_steps P) (bare x.start) (map bare (moves_chosen x.moves)) ∙ ap (λ n. modal_steps P (bare x.start) + n) (moves-total P x.moves)

-- ---- what is found of an instance by its summary

pub by-summary : (P : Problem) (i : Chosen) (o : Option Summary) → list_all (is_admitted_value P) i.values ≡ true → o ≡ option_map summary (gathered_instance P (record { sides = i.sides; values = i.values })) → (literals_by o ≡ literals_of P i) × (steps_by o ≡ capped (modal_steps P (bare i)))
by-summary P i o h e = (ap literals_by e ∙ literals-gathered P i h, ap steps_by e ∙ steps-gathered P i h)

-- ---- the steps so far and those of the moves that are left

pub steps-next : (n m k rest : ℕ) → k ≡ capped m → capped (capped (n + k) + rest) ≡ capped (n + (m + rest))
steps-next n m k rest e = omega (arith, e)

pub short-all : (P : Problem) (x : Moves) (b : Bool) → has_unbounded_strings P.setting.logic ≡ true → b ≡ are_all_within (total_steps P (bare_instances x)) x → b ≡ strings_are_short P (bare_instances x)
short-all P x b e h = h ∙ sym (all-within (total_steps P (bare_instances x)) x) ∙ ap (λ y. if y then list_all (strings_within (total_steps P (bare_instances x))) (bare_instances x) else true) (sym e)

pub short-bounded : (P : Problem) (x : Moves) → has_unbounded_strings P.setting.logic ≡ false → true ≡ strings_are_short P (bare_instances x)
short-bounded P x e = ap (λ y. if y then list_all (strings_within (total_steps P (bare_instances x))) (bare_instances x) else true) (sym e)

-- a length in memory is within a number exactly where it is within this one cut at the end of 64 bits
pub within-capped : (k n m : ℕ) → k < 18446744073709551616 → m ≡ capped n → nat_le k m ≡ nat_le k n
within-capped k n m h e = by (nat_le k m) (nat_le k n) refl refl
  where
    by : (x y : Bool) → nat_le k m ≡ x → nat_le k n ≡ y → nat_le k m ≡ nat_le k n
    by true true p q = p ∙ sym q
    by false false p q = p ∙ sym q
    by true false p q = let a = leb-true k m p in let b = leb-false k n q in absurd (omega (arith, e, h))
    by false true p q = let a = leb-true k n q in let b = leb-false k m p in absurd (omega (arith, e, h))
