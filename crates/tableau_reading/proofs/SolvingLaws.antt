-- What solving by a demand says of the problem, whose domains it is.
use Rattle.std.proofs.Common.{◌≡◌, ◌-◌, ℕ, List, [], Bool, sym, subst, arith}
use Rattle.std.specs.List.{list_all}
use Rattle.calculus.specs.declared.setting.Logic.{Logic}
use Rattle.calculus.specs.Counting.{MoreThan}
use Rattle.calculus.specs.Space.{lengths_cmp}
use Rattle.calculus.specs.Instances.{GammaUse, gamma_is_allowed}
use Rattle.store_theory.specs.Stores.{Store}
use Rattle.calculus.specs.Syntax.{Problem}
use Rattle.store_theory.specs.Systems.{AllAllowed, AreEarly, HasBoundedSolution, System, OwnSparesSolve}
use Rattle.prefix_split.specs.declared.solving.Solved.{Solved}
use Rattle.term_store.specs.Asking.{Asks}
use Rattle.tableau_reading.specs.Solving.{IsSolved, IsFound}
use Rattle.calculus.specs.Skolem.{common_spares}
use Rattle.store_theory.specs.Bindings.{IsWellFormed}
use Rattle.prefix_split.specs.Later.{IsFoundIn}
use Rattle.prefix_split.specs.LengthSearch as lengths
use Rattle.prefix_split.specs.declared.solving.Solved.TheVariants as solved

both : (B : Logic → (List GammaUse → Bool) → Type 0) (l k : Logic) (f g : List GammaUse → Bool) → l ≡ k → f ≡ g → B l f → B k g
both B l k f g el ef h = subst (λ f. B k f) ef (subst (λ l. B l f) el h)

-- what solving by a demand says of the problem, whose domains it is
pub solved-by : (P : Problem) (s new : Store) (y : System) (l : Logic) (f : List GammaUse → Bool) (before after budget : ℕ) (a : Solved) → l ≡ P.setting.logic → f ≡ list_all (gamma_is_allowed P) → (a ≡ solved.None → ¬ HasBoundedSolution l (Asks f) s y) → (a ≡ solved.Steps → after ≡ budget) → (a ≡ solved.Steps → MoreThan lengths_cmp (AreEarly l (Asks f) s y) (budget - before)) → (¬ (a ≡ solved.Found) → new ≡ s) → IsSolved P s y before after budget new a
solved-by P s new y l f before after budget a el ef none ended more same = record {
  none = λ e. both (λ l f. ¬ HasBoundedSolution l (Asks f) s y) l P.setting.logic f (list_all (gamma_is_allowed P)) el ef (none e);
  ended = ended;
  more_early = λ e. subst (λ n. MoreThan lengths_cmp (AreEarly P.setting.logic (AllAllowed P) s y) (n - before)) (sym (ended e)) (both (λ l f. MoreThan lengths_cmp (AreEarly l (Asks f) s y) (budget - before)) l P.setting.logic f (list_all (gamma_is_allowed P)) el ef (more e));
  unchanged = same;
}

pub counted-by : (P : Problem) (s : Store) (y : System) (l : Logic) (f : List GammaUse → Bool) (before after : ℕ) → l ≡ P.setting.logic → f ≡ list_all (gamma_is_allowed P) → lengths.IsCounted l (Asks f) s y before after → lengths.IsCounted P.setting.logic (AllAllowed P) s y before after
counted-by P s y l f before after el ef h = both (λ l f. lengths.IsCounted l (Asks f) s y before after) l P.setting.logic f (list_all (gamma_is_allowed P)) el ef h

-- no step was used
pub uncounted : (P : Problem) (s : Store) (y : System) (used : ℕ) → lengths.IsCounted P.setting.logic (AllAllowed P) s y used used
uncounted P s y used = record { from = omega arith; early = ([], record { rising = tt; members = tt }, omega arith) }

-- what solving by a demand found, which is what the problem's domains ask
pub found-of : (P Q : Problem) (s new : Store) (y : System) (l : Logic) (f : List GammaUse → Bool) (b : Bool) → Q ≡ P → l ≡ P.setting.logic → f ≡ list_all (gamma_is_allowed P) → b ≡ common_spares P → IsWellFormed new → IsFoundIn l Q y s new → OwnSparesSolve b l (Asks f) new y → IsFound P s y new
found-of P Q s new y l f b eq el ef eb well found spares = record {
  well = well;
  found = subst (λ k. IsFoundIn k P y s new) el (subst (λ p. IsFoundIn l p y s new) eq found);
  spares = subst (λ t. OwnSparesSolve (common_spares P) P.setting.logic (Asks t) new y) ef (subst (λ k. OwnSparesSolve (common_spares P) k (Asks f) new y) el (subst (λ t. OwnSparesSolve t l (Asks f) new y) eb spares));
}
